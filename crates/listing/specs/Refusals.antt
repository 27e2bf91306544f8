-- The number, layer and place of each fault of a listing.
use Rattle.net.specs.declared.fault.Layer.TheVariants as layers
use Rattle.net.specs.declared.fault.Refusal.{Refusal}
use Rattle.listing.specs.declared.fault.BytesFault.{BytesFault}
use Rattle.listing.specs.declared.fault.BytesFault.TheVariants.{Ended, LeftOver}
use Rattle.listing.specs.declared.fault.ListingFault.{ListingFault}
use Rattle.listing.specs.declared.fault.ListingFault.TheVariants.{Bytes, Size, UnknownTrain, TrainWithoutPlace, EmptySet, NoSuchOrigin, NoSuchDestination, OtherTrain}

abbrev pub bytes_told : BytesFault → Refusal
bytes_told (Ended place) = record { number = 1; layer = layers.Bytes; place = place }
bytes_told (LeftOver place) = record { number = 9; layer = layers.Bytes; place = place }

abbrev pub told : ListingFault → Refusal
told (Bytes fault) = bytes_told fault
told (Size place) = record { number = 2; layer = layers.Sheet; place = place }
told (UnknownTrain place) = record { number = 3; layer = layers.Sheet; place = place }
told TrainWithoutPlace = record { number = 3; layer = layers.Sheet; place = 0 }
told (EmptySet place) = record { number = 4; layer = layers.Sheet; place = place }
told (NoSuchOrigin place) = record { number = 5; layer = layers.Sheet; place = place }
told (NoSuchDestination place) = record { number = 5; layer = layers.Sheet; place = place }
told (OtherTrain place) = record { number = 5; layer = layers.Sheet; place = place }
