-- What the faults of a sheet and of a walk of a train say in words: the bytes that `{}` prints.
use Rattle.std.specs.Prelude.{ℕ, List, ◌++◌, codes}
use Rattle.std.specs.Fmt.{decimal}
use Rattle.net.specs.Words.{words as walk_words}
use Rattle.listing.specs.Words.{words as listing_words}
use Rattle.sheet.specs.declared.fault.SheetFault.{SheetFault}
use Rattle.sheet.specs.declared.fault.SheetFault.TheVariants.{Walk, Listed, Circle, SharedStart, TooManyConflicts}
use Rattle.sheet.specs.declared.fault.TrainFault.{TrainFault}
use Rattle.sheet.specs.declared.fault.TrainFault.TheVariants as train_faults

abbrev pub words : SheetFault → List ℕ
words (Walk fault) = walk_words fault
words (Listed fault) = listing_words fault
words (Circle train) = codes "the moves of train " ++ decimal train ++ codes " form a circle"
words (SharedStart place) = codes "two trains start on the same block; the lowest such start is place " ++ decimal place
words TooManyConflicts = codes "more than 1000 pairs of places conflict"

abbrev pub train_words : TrainFault → List ℕ
train_words (train_faults.Walk fault) = walk_words fault
train_words (train_faults.UnknownTrain train) = codes "there is no train " ++ decimal train
