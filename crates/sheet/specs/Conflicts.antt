-- Conflict of two places, and how many pairs conflict.
use Rattle.std.specs.Prelude.{ℕ, ◌<◌, Bool, not, ◌&&◌, ◌≢◌, ◌==◌, nat_lt}
use Rattle.blocks.specs.Members.{Common, shared, tally}
use Rattle.listing.specs.Scans.{summed}
use Rattle.listing.specs.Yards.{Yard}

-- two places of different trains that share a block
pub record Conflict (y : Yard) (a c : ℕ) : Type 0 where
  pub first : a < y.places
  pub second : c < y.places
  pub others : y.owner a ≢ y.owner c
  pub common : Common (y.blocks a) (y.blocks c)

-- the same, as a test; its law is that it decides Conflict
unfoldable pub conflict : Yard → ℕ → ℕ → Bool
conflict y a c = (nat_lt a y.places && nat_lt c y.places) && (not (y.owner a == y.owner c) && shared (y.blocks a) (y.blocks c))

-- how many pairs of places conflict
abbrev pub pairs : Yard → ℕ
pairs y = summed y.places (λ c. tally c (λ a. conflict y a c))
