-- What holds of rules in an order.
use Rattle.std.proofs.Common.{◌≡◌, ◌⊎◌, List, [], ◌∷◌, inl, inr}
use Rattle.listing.specs.Order.{AllHold, Stops}

pub all_listed : {R : Type 0} (holds : R → Type 0) → ((r : R) → holds r) → (rs : List R) → AllHold holds rs
all_listed holds h [] = tt
all_listed holds h (r ∷ rs) = (h r, all_listed holds h rs)

-- where no rule both holds and is broken, rules that all hold do not stop
pub never_stops : {R F : Type 0} (holds : R → Type 0) (breaks : R → F → Type 0) → ((r : R) (f : F) → holds r → breaks r f → ⊥)
    → (rs : List R) (f : F) → AllHold holds rs → Stops holds breaks rs f → ⊥
never_stops holds breaks apart [] f h s = s
never_stops holds breaks apart (r ∷ rs) f h (inl x) = apart r f h.0 x
never_stops holds breaks apart (r ∷ rs) f h (inr y) = never_stops holds breaks apart rs f h.1 y.1

-- and where a rule is broken in one way, the rules stop in one way
pub stops_once : {R F : Type 0} (holds : R → Type 0) (breaks : R → F → Type 0) → ((r : R) (f : F) → holds r → breaks r f → ⊥)
    → ((r : R) (f g : F) → breaks r f → breaks r g → f ≡ g)
    → (rs : List R) (f g : F) → Stops holds breaks rs f → Stops holds breaks rs g → f ≡ g
stops_once holds breaks apart once [] f g s t = absurd s
stops_once holds breaks apart once (r ∷ rs) f g (inl x) (inl y) = once r f g x y
stops_once holds breaks apart once (r ∷ rs) f g (inl x) (inr y) = absurd (apart r f y.0 x)
stops_once holds breaks apart once (r ∷ rs) f g (inr x) (inl y) = absurd (apart r g x.0 y)
stops_once holds breaks apart once (r ∷ rs) f g (inr x) (inr y) = stops_once holds breaks apart once rs f g x.1 y.1

-- where each rule holds or is broken, rules all hold or stop
pub all_or_stops : {R F : Type 0} (holds : R → Type 0) (breaks : R → F → Type 0) → ((r : R) → holds r ⊎ ((f : F) × breaks r f))
    → (rs : List R) → AllHold holds rs ⊎ ((f : F) × Stops holds breaks rs f)
all_or_stops holds breaks at [] = inl tt
all_or_stops holds breaks at (r ∷ rs) = elim (at r) [
  | inl here ↦ elim (all_or_stops holds breaks at rs) [
    | inl rest ↦ inl (here, rest)
    | inr w ↦ inr (w.0, inr (here, w.1))
  ]
  | inr w ↦ inr (w.0, inl w.1)
]
