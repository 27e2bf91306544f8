-- What the checks of the yard's rules answer.
use Rattle.std.specs.Prelude.{◌≡◌, ℕ, ◌<◌, ◌≤◌, Bool, true, false, List, length, Ok, Err, Option, Result, MatchOption}
use Rattle.net.specs.Marks.{Cleared}
use Rattle.net.specs.declared.fault.WalkFault.{WalkFault}
use Rattle.net.specs.declared.fault.WalkFault.TheVariants.{ShortMarks}
use Rattle.listing.specs.Yards.{Yard}
use Rattle.sheet.specs.Lawful.{NoCircles, FirstCircle}

-- the answer is whether P holds
abbrev pub Decides : Bool → Type 0 → Type 0
Decides true P = P
Decides false P = P → ⊥

-- the lowest train with a circle, or none
abbrev pub CirclesSearched : Yard → List ℕ → List ℕ → Result (Option ℕ) WalkFault → Type 0
CirclesSearched y before after (Err f) = (f ≡ ShortMarks) × (length before < 96) × (after ≡ before)
CirclesSearched y before after (Ok found) = (96 ≤ length before) × Cleared before after × MatchOption found (NoCircles y) (FirstCircle y)
