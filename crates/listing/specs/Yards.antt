-- What a sheet says, as plain functions.
use Rattle.std.specs.Prelude.{◌≡◌, ℕ, Bool, nat_eq}
use Rattle.listing.specs.Scans.{Each, lowest}
use Rattle.listing.specs.declared.place.Destination.{Destination}

-- trains and places are numbered from 0; `owner p` is the train of place p, `blocks p` its set of blocks, a bit for each;
-- `move p d` says whether a move leads from place p to d: a set, so that a move listed twice is one move
pub record Yard : Type 0 where
  pub trains : ℕ
  pub places : ℕ
  pub owner : ℕ → ℕ
  pub blocks : ℕ → ℕ
  pub move : ℕ → Destination → Bool

-- the start of train t, its lowest-numbered place, or the number of places if it has none
abbrev pub start : Yard → ℕ → ℕ
start y t = lowest y.places (λ p. nat_eq (y.owner p) t)

-- both say the same
pub record Same (y z : Yard) : Type 0 where
  pub trains : z.trains ≡ y.trains
  pub places : z.places ≡ y.places
  pub owner : Each y.places (λ p. z.owner p ≡ y.owner p)
  pub blocks : Each y.places (λ p. z.blocks p ≡ y.blocks p)
  pub move : (p : ℕ) (d : Destination) → z.move p d ≡ y.move p d
