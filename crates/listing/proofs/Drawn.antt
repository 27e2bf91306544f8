-- The fact that a listing holds says all its rules: each of them is a proposition.
use mathlib.Core.HLevel.{⊥_prop}
use mathlib.Core.Logic.{∥∥₁_elim}
use native.Mathlib.Bridge.{le_prop}
use native.Mathlib.Nat.{ℕ_set}
use Rattle.listing.specs.Yards.{Yard}
use Rattle.listing.specs.Shape.{Shaped}

pub drawn : (y : Yard) → ∥ Shaped y ∥₁ → Shaped y
drawn y l = record {
  trains_ranged = (∥∥₁_elim l le_prop (λ k. k.trains_ranged.0), ∥∥₁_elim l le_prop (λ k. k.trains_ranged.1));
  places_ranged = (∥∥₁_elim l le_prop (λ k. k.places_ranged.0), ∥∥₁_elim l le_prop (λ k. k.places_ranged.1));
  owners_known = λ p h. ∥∥₁_elim l le_prop (λ k. k.owners_known p h);
  trains_placed = λ t h. ∥∥₁_elim l le_prop (λ k. k.trains_placed t h);
  sets_filled = λ p h e. ∥∥₁_elim l ⊥_prop (λ k. k.sets_filled p h e);
  moves_start = λ p d e. ∥∥₁_elim l le_prop (λ k. k.moves_start p d e);
  moves_stay = λ p q e. (∥∥₁_elim l le_prop (λ k. (k.moves_stay p q e).0), ∥∥₁_elim l (ℕ_set _ _) (λ k. (k.moves_stay p q e).1));
}
