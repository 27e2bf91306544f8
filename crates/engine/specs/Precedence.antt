-- The precedence net of a list of differences: each is an arc.
use Rattle.std.specs.Prelude.{◌≡◌, ℕ, zero, suc, Bool, false, ◌&&◌, ◌||◌, List, [], ◌∷◌, ℤ, pos, ◌==◌}
use Rattle.engine.specs.Circles.{In}
use Rattle.engine.specs.declared.difference.Difference.{Difference}

-- a difference of the list leads from a to b
pub record Leads (ds : List Difference) (a b : ℕ) : Type 0 where
  pub difference : Difference
  pub held : In difference ds
  pub start : difference.from ≡ a
  pub end : difference.to ≡ b

-- the one difference leads from a to b, as a test
abbrev pub joins : Difference → ℕ → ℕ → Bool
joins d a b = d.from == a && d.to == b

-- so does the one at a place of the list
abbrev pub joins_at : List Difference → ℕ → ℕ → ℕ → Bool
joins_at [] place a b = false
joins_at (d ∷ ds) zero a b = joins d a b
joins_at (d ∷ ds) (suc place) a b = joins_at ds place a b

-- some difference of the list does, as a test; its law is that it decides Leads
unfoldable pub precedes : List Difference → ℕ → ℕ → Bool
precedes [] a b = false
precedes (d ∷ ds) a b = joins d a b || precedes ds a b

-- every arc weighs 1, so that the sum over a way is the number of its arcs
abbrev pub one_each : ℕ → ℕ → ℤ
one_each a b = pos 1
