-- What the faults of reading say in words: the bytes that `{}` prints.
use Rattle.std.specs.Prelude.{ℕ, List, ◌++◌, codes}
use Rattle.std.specs.Fmt.{decimal}
use Rattle.listing.specs.declared.fault.BytesFault.{BytesFault}
use Rattle.listing.specs.declared.fault.BytesFault.TheVariants.{Ended, LeftOver}
use Rattle.listing.specs.declared.fault.ListingFault.{ListingFault}
use Rattle.listing.specs.declared.fault.ListingFault.TheVariants.{Bytes, Size, UnknownTrain, TrainWithoutPlace, EmptySet, NoSuchOrigin, NoSuchDestination, OtherTrain}

abbrev pub bytes_words : BytesFault → List ℕ
bytes_words (Ended size) = codes "the input ends after " ++ decimal size ++ codes " bytes, before a size or an array does"
bytes_words (LeftOver offset) = codes "bytes are left over from offset " ++ decimal offset ++ codes " on"

abbrev pub words : ListingFault → List ℕ
words (Bytes fault) = bytes_words fault
words (Size offset) = codes "the number at offset " ++ decimal offset ++ codes " is out of its range"
words (UnknownTrain offset) = codes "the place at offset " ++ decimal offset ++ codes " belongs to no train"
words TrainWithoutPlace = codes "a train has no place"
words (EmptySet offset) = codes "the place whose set is at offset " ++ decimal offset ++ codes " covers no block"
words (NoSuchOrigin offset) = codes "the move whose from is at offset " ++ decimal offset ++ codes " leaves no place"
words (NoSuchDestination offset) =
    codes "the move whose to is at offset " ++ decimal offset ++ codes " leads neither to a place nor out"
words (OtherTrain offset) = codes "the move whose from is at offset " ++ decimal offset ++ codes " joins places of two trains"
