-- What the longest way of a train answers.
use Rattle.std.specs.Prelude.{◌≡◌, ℕ, ◌<◌, ◌≤◌, List, length, ℤ, Ok, Err, Result}
use Rattle.net.specs.Marks.{Cleared}
use Rattle.net.specs.Walks.{Greatest}
use Rattle.net.specs.declared.fault.WalkFault.{WalkFault}
use Rattle.net.specs.declared.fault.WalkFault.TheVariants.{ShortMarks, NoSuchNode}
use Rattle.listing.specs.Yards.{Yard}
use Rattle.sheet.specs.Movement.{arcs, weighs}
use Rattle.sheet.specs.declared.fault.TrainFault.{TrainFault}
use Rattle.sheet.specs.declared.fault.TrainFault.TheVariants.{Walk, UnknownTrain}

-- refused for too few marks, then for an unknown train, then for a node outside the net, the marks then as before;
-- else the greatest sum over the ways of the train from the node
abbrev pub Longest : Yard → ℕ → ℕ → List ℕ → List ℕ → Result ℤ TrainFault → Type 0
Longest y train from before after (Err (Walk ShortMarks)) = (length before < 96) × (after ≡ before)
Longest y train from before after (Err (UnknownTrain t)) = (96 ≤ length before) × (y.trains ≤ train) × (t ≡ train) × (after ≡ before)
Longest y train from before after (Err (Walk NoSuchNode)) = (96 ≤ length before) × (train < y.trains) × (96 ≤ from) × (after ≡ before)
Longest y train from before after (Ok sum) =
    (96 ≤ length before) × (train < y.trains) × (from < 96) × Cleared before after × Greatest (arcs y train) (weighs y) from sum

-- the same where the train is known
abbrev pub LongestKnown : Yard → ℕ → ℕ → List ℕ → List ℕ → Result ℤ WalkFault → Type 0
LongestKnown y train from before after (Err ShortMarks) = (length before < 96) × (after ≡ before)
LongestKnown y train from before after (Err NoSuchNode) = (96 ≤ length before) × (96 ≤ from) × (after ≡ before)
LongestKnown y train from before after (Ok sum) =
    (96 ≤ length before) × (from < 96) × Cleared before after × Greatest (arcs y train) (weighs y) from sum
