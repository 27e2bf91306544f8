-- What the walks answer, and the marks that they leave.
use Rattle.std.specs.Prelude.{◌≡◌, ℕ, ◌<◌, ◌≤◌, Bool, List, length, ℤ, Ok, Err, Option, Result, MatchOption}
use Rattle.net.specs.Marks.{Cleared}
use Rattle.net.specs.Walks.{OnCircle, NoCircle, Circular, Greatest}
use Rattle.net.specs.declared.fault.WalkFault.{WalkFault}
use Rattle.net.specs.declared.fault.WalkFault.TheVariants.{ShortMarks, NoSuchNode}

-- the circle search: refused with too few marks, which stay as before; else a node on a circle, or none where there is no circle
abbrev pub Searched : (ℕ → ℕ → Bool) → List ℕ → List ℕ → Result (Option ℕ) WalkFault → Type 0
Searched arc before after (Err f) = (f ≡ ShortMarks) × (length before < 96) × (after ≡ before)
Searched arc before after (Ok found) = (96 ≤ length before) × Cleared before after × MatchOption found (NoCircle arc) (OnCircle arc)

-- the longest way: refused with too few marks or from a node that the net has not, with the marks as before; else none where some node lies on a circle, or the greatest sum
abbrev pub Measured : (ℕ → ℕ → Bool) → (ℕ → ℕ → ℤ) → ℕ → ℕ → List ℕ → List ℕ → Result (Option ℤ) WalkFault → Type 0
Measured arc weight nodes from before after (Err ShortMarks) = (length before < 96) × (after ≡ before)
Measured arc weight nodes from before after (Err NoSuchNode) = (96 ≤ length before) × (nodes ≤ from) × (after ≡ before)
Measured arc weight nodes from before after (Ok found) = (96 ≤ length before) × (from < nodes) × Cleared before after × MatchOption found (Circular arc) (λ sum. NoCircle arc × Greatest arc weight from sum)
