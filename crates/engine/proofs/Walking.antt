-- Walks along lists of differences: in longer lists, put together, and under numbers.
use Rattle.std.proofs.Common.{◌≡◌, ℕ, ◌⊎◌, List, [], ◌∷◌, ◌++◌, ℤ, pos, ◌+ℤ◌, ◌≤ℤ◌, refl, subst, inl, inr, arith}
use Rattle.std.proofs.lemmas.Int.{ints}
use Rattle.engine.specs.Circles.{In, Walk, stay, step, NoRisingCircle, Meets}
use Rattle.engine.specs.declared.difference.Difference.{Difference}

pub in_longer : (xs ys : List Difference) (d : Difference) → In d xs → In d (xs ++ ys)
in_longer [] ys d h = elim h [ ]
in_longer (x ∷ xs) ys d (inl e) = inl e
in_longer (x ∷ xs) ys d (inr h) = inr (in_longer xs ys d h)

pub walk_part : {xs ys : List Difference} {a b : ℕ} {s : ℤ} → ((d : Difference) → In d xs → In d ys) → Walk xs a b s → Walk ys a b s
walk_part part stay = stay
walk_part part (step d h w) = step d (part d h) (walk_part part w)

pub walk_longer : (xs ys : List Difference) {a b : ℕ} {s : ℤ} → Walk xs a b s → Walk (xs ++ ys) a b s
walk_longer xs ys w = walk_part (in_longer xs ys) w

-- so what holds no rising circle holds none in its front
pub flat_front : (xs ys : List Difference) → NoRisingCircle (xs ++ ys) → NoRisingCircle xs
flat_front xs ys flat a s w = flat a s (walk_longer xs ys w)

-- nothing held, nothing rises
pub still : {a b : ℕ} {s : ℤ} → Walk [] a b s → s ≤ℤ pos 0
still stay = omega (arith, ints)
still (step d h w) = elim h [ ]

pub flat_none : NoRisingCircle []
flat_none a s w = still w

-- the newest stands last
pub in_last : (xs : List Difference) (d : Difference) → In d (xs ++ (d ∷ []))
in_last [] d = inl refl
in_last (x ∷ xs) d = inr (in_last xs d)

pub in_push : (xs : List Difference) (y d : Difference) → In d (xs ++ (y ∷ [])) → In d xs ⊎ (d ≡ y)
in_push [] y d (inl e) = inr e
in_push [] y d (inr h) = absurd h
in_push (x ∷ xs) y d (inl e) = inl (inl e)
in_push (x ∷ xs) y d (inr h) = elim (in_push xs y d h) [ inl p ↦ inl (inr p) | inr p ↦ inr p ]

-- another name for the sum, or for the start
pub resum : {ds : List Difference} {a b : ℕ} {s t : ℤ} → s ≡ t → Walk ds a b s → Walk ds a b t
resum {ds} {a} {b} e w = subst (λ z. Walk ds a b z) e w

pub join : {ds : List Difference} {a b c : ℕ} {s t : ℤ} → Walk ds a b s → Walk ds b c t → Walk ds a c (s +ℤ t)
join {t} stay v = resum (omega (arith, ints)) v
join {t} (step {s} d h w) v = let e : (d.k +ℤ (s +ℤ t)) ≡ ((d.k +ℤ s) +ℤ t) = omega (arith, ints) in resum e (step d h (join w v))

-- one held difference as a walk
pub arc : {ds : List Difference} (d : Difference) → In d ds → Walk ds d.from d.to d.k
arc d h = resum (omega (arith, ints)) (step d h stay)

-- along a walk the numbers rise by at least its sum, where they meet each difference
pub meets_walk : {ds : List Difference} {x y : ℕ} {t : ℤ} (number : ℕ → ℤ) → Meets number ds → Walk ds x y t → (number x +ℤ t) ≤ℤ number y
meets_walk number met stay = omega (arith, ints)
meets_walk number met (step d h w) = let l = met d h in let k = meets_walk number met w in omega (arith, ints)
