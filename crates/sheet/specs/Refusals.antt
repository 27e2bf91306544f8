-- The number, layer and place of each fault.
use Rattle.net.specs.Refusals.{told as told_walk}
use Rattle.listing.specs.Refusals.{told as told_listing}
use Rattle.net.specs.declared.fault.Layer.TheVariants as layers
use Rattle.net.specs.declared.fault.Refusal.{Refusal}
use Rattle.sheet.specs.declared.fault.SheetFault.{SheetFault}
use Rattle.sheet.specs.declared.fault.SheetFault.TheVariants.{Walk, Listed, Circle, SharedStart, TooManyConflicts}
use Rattle.sheet.specs.declared.fault.TrainFault.{TrainFault}
use Rattle.sheet.specs.declared.fault.TrainFault.TheVariants as train_faults

abbrev pub told_train : TrainFault → Refusal
told_train (train_faults.Walk f) = told_walk f
told_train (train_faults.UnknownTrain t) = record { number = 11; layer = layers.Watch; place = t }

abbrev pub told : SheetFault → Refusal
told (Walk f) = told_walk f
told (Listed f) = told_listing f
told (Circle t) = record { number = 6; layer = layers.Sheet; place = t }
told (SharedStart p) = record { number = 7; layer = layers.Sheet; place = p }
told TooManyConflicts = record { number = 8; layer = layers.Sheet; place = 0 }
