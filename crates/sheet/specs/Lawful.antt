-- The rules of the whole yard.
use Rattle.std.specs.Prelude.{◌≡◌, ℕ, ◌<◌, ◌≤◌, true, false}
use Rattle.net.specs.Walks.{NoCircle, Circular}
use Rattle.listing.specs.Scans.{Each}
use Rattle.listing.specs.Yards.{Yard, start}
use Rattle.sheet.specs.Conflicts.{conflict, pairs}
use Rattle.sheet.specs.Movement.{arcs}

-- no train's moves form a circle
abbrev pub NoCircles : Yard → Type 0
NoCircles y = Each y.trains (λ t. NoCircle (arcs y t))

-- no two starts conflict
abbrev pub StartsApart : Yard → Type 0
StartsApart y = (t u : ℕ) → t < y.trains → u < y.trains → conflict y (start y t) (start y u) ≡ false

abbrev pub ConflictsFew : Yard → Type 0
ConflictsFew y = pairs y ≤ 1000

pub record Lawful (y : Yard) : Type 0 where
  pub no_circles : NoCircles y
  pub starts_apart : StartsApart y
  pub conflicts_few : ConflictsFew y

-- the moves of train t form a circle, and those of no lower train do
pub record FirstCircle (y : Yard) (t : ℕ) : Type 0 where
  pub known : t < y.trains
  pub circle : Circular (arcs y t)
  pub lower : Each t (λ u. NoCircle (arcs y u))

-- place p is the start of its train and conflicts with the start of another
pub record SharesStart (y : Yard) (p : ℕ) : Type 0 where
  pub known : p < y.places
  pub starts : start y (y.owner p) ≡ p
  pub other : ℕ
  pub other_known : other < y.trains
  pub conflicts : conflict y p (start y other) ≡ true

-- place p does, and no lower place
pub record FirstShared (y : Yard) (p : ℕ) : Type 0 where
  pub here : SharesStart y p
  pub lower : Each p (λ q. SharesStart y q → ⊥)
