-- The fact that a sheet holds says all its rules: each of them is a proposition.
use mathlib.Core.Bool.{Bool-set}
use mathlib.Core.HLevel.{⊥_prop}
use mathlib.Core.Logic.{∥∥₁_elim}
use native.Mathlib.Bridge.{le_prop}
use Rattle.std.proofs.Common.{ℕ, ◌<◌}
use Rattle.net.specs.Walks.{Circular}
use Rattle.listing.specs.Yards.{Yard}
use Rattle.sheet.specs.Movement.{arcs}
use Rattle.sheet.specs.Lawful.{Lawful}

pub kept : (y : Yard) → ∥ Lawful y ∥₁ → Lawful y
kept y l = record {
  no_circles = λ t h v c. ∥∥₁_elim l ⊥_prop (λ k. k.no_circles t h v c);
  starts_apart = λ t u ht hu. ∥∥₁_elim l (Bool-set _ _) (λ k. k.starts_apart t u ht hu);
  conflicts_few = ∥∥₁_elim l le_prop (λ k. k.conflicts_few);
}

pub no_circle : (y : Yard) → ∥ Lawful y ∥₁ → (t : ℕ) → t < y.trains → Circular (arcs y t) → ⊥
no_circle y l t h c = (kept y l).no_circles t h c.0 c.1
