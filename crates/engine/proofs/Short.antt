-- Where no circle rises, each walk has one that visits no event twice, with the same ends and at least its sum.
use Rattle.std.proofs.Common.{◌≡◌, ℕ, zero, suc, ◌*◌, ◌<◌, ◌≤◌, ◌⊎◌, List, [], ◌∷◌, length, ℤ, pos, ◌+ℤ◌, ◌≤ℤ◌, sym, refl, subst, inl, inr, arith}
use Rattle.std.proofs.lemmas.Int.{ints}
use Rattle.std.proofs.lemmas.Bool.{cases_eq}
use Rattle.engine.specs.Circles.{Walk, stay, step, NoRisingCircle, Lawful}
use Rattle.engine.specs.Paths.{Visited, Distinct, Path, end, on, Short}
use Rattle.engine.specs.declared.difference.Difference.{Difference}

is_visited : (x : ℕ) (vs : List ℕ) → Visited x vs ⊎ (Visited x vs → ⊥)
is_visited x [] = inr (λ h. h)
is_visited x (v ∷ vs) = by (cases_eq x v) (is_visited x vs)
  where
    by : ((x ≡ v) ⊎ (x ≡ v → ⊥)) → (Visited x vs ⊎ (Visited x vs → ⊥)) → Visited x (v ∷ vs) ⊎ (Visited x (v ∷ vs) → ⊥)
    by (inl e) r = inl (inl e)
    by (inr e) (inl h) = inl (inr h)
    by (inr e) (inr h) = inr (λ z. elim z [ inl p ↦ e p | inr p ↦ h p ])

abbrev pub Under : ℕ → List ℕ → Type 0
Under n [] = Unit {0}
Under n (v ∷ vs) = (v < n) × Under n vs

under_less : (n : ℕ) (vs : List ℕ) → Under (suc n) vs → (Visited n vs → ⊥) → Under n vs
under_less n [] u h = tt
under_less n (v ∷ vs) u h =
    let ne : n ≡ v → ⊥ = λ e. h (inl e) in
    let low : v < suc n = u.0 in
    let lt : v < n = elim (cases_eq n v) [ inl e ↦ absurd (ne e) | inr e ↦ omega arith ] in
    (lt, under_less n vs u.1 (λ z. h (inr z)))

-- what is left of distinct events once n is left out
record Less (n : ℕ) (vs : List ℕ) : Type 0 where
  rest : List ℕ
  long : length vs ≤ suc (length rest)
  apart : Distinct rest
  under : Under n rest
  part : (x : ℕ) → Visited x rest → Visited x vs

less : (n : ℕ) (vs : List ℕ) → Distinct vs → Under (suc n) vs → Less n vs
less n [] dis u = record { rest = []; long = omega arith; apart = tt; under = tt; part = λ x h. h }
less n (v ∷ vs) dis u = by (cases_eq n v) (less n vs dis.1 u.1)
  where
    by : ((n ≡ v) ⊎ (n ≡ v → ⊥)) → Less n vs → Less n (v ∷ vs)
    by (inl e) r =
        record {
          rest = vs;
          long = omega arith;
          apart = dis.1;
          under = under_less n vs u.1 (subst (λ m. Visited m vs → ⊥) (sym e) dis.0);
          part = λ x h. inr h;
        }
    by (inr e) r =
        let low : v < suc n = u.0 in
        let more : length vs ≤ suc (length r.rest) = r.long in
        record {
          rest = v ∷ r.rest;
          long = omega arith;
          apart = (λ h. dis.0 (r.part v h), r.apart);
          under = (omega arith, r.under);
          part = λ x h. elim h [ inl p ↦ inl p | inr p ↦ inr (r.part x p) ];
        }

-- distinct events below n are at most n
pub few : (n : ℕ) (vs : List ℕ) → Distinct vs → Under n vs → length vs ≤ n
few zero [] dis u = omega arith
few zero (v ∷ vs) dis u = let low : v < zero = u.0 in omega arith
few (suc n) vs dis u =
    let r = less n vs dis u in
    let h = few n r.rest r.apart r.under in
    omega (arith, r.long)

pub path_walk : {ds : List Difference} {a b : ℕ} {s : ℤ} {vs : List ℕ} → Path ds a b s vs → Walk ds a b s
path_walk end = stay
path_walk (on d h p) = step d h (path_walk p)

-- a path cut in two at x
record Cut (ds : List Difference) (a x b : ℕ) (s : ℤ) : Type 0 where
  before : ℤ
  after : ℤ
  left : List ℕ
  front : Walk ds a x before
  back : Path ds x b after left
  apart : Distinct left
  sum : s ≡ before +ℤ after

cut : {ds : List Difference} {a b : ℕ} {s : ℤ} {vs : List ℕ} (x : ℕ) → Path ds a b s vs → Distinct vs → Visited x vs → Cut ds a x b s
cut {ds} {a} {b} {s} x end dis (inl e) =
    subst (λ v. Cut ds a v a (pos 0)) (sym e) (record { before = pos 0; after = pos 0; left = a ∷ []; front = stay; back = end; apart = dis; sum = refl })
cut x end dis (inr h) = absurd h
cut {ds} {a} {b} {s} x (on {s = t} {vs = ws} d h p) dis (inl e) =
    subst (λ v. Cut ds d.from v b (d.k +ℤ t)) (sym e) (record { before = pos 0; after = d.k +ℤ t; left = d.from ∷ ws; front = stay; back = on d h p; apart = dis; sum = omega (arith, ints) })
cut x (on d h p) dis (inr v) =
    let c = cut x p dis.1 v in
    let e = c.sum in
    record { before = d.k +ℤ c.before; after = c.after; left = c.left; front = step d h c.front; back = c.back; apart = c.apart; sum = omega (arith, ints, e) }

-- where no circle rises, each walk has a path with its ends that visits no event twice and sums as high
pub short : {ds : List Difference} {a b : ℕ} {s : ℤ} → NoRisingCircle ds → Walk ds a b s → Short ds a b s
short {ds} {a} flat stay = record { total = pos 0; seen = a ∷ []; path = end; apart = ((λ h. h), tt); above = omega (arith, ints) }
short {ds} flat (step {b} {s} d h w) = by (short flat w)
  where
    by_seen : (r : Short ds d.to b s) → (Visited d.from r.seen ⊎ (Visited d.from r.seen → ⊥)) → Short ds d.from b (d.k +ℤ s)
    by_seen r (inl v) =
        let c = cut d.from r.path r.apart v in
        let circle = flat d.from (d.k +ℤ c.before) (step d h c.front) in
        record { total = c.after; seen = c.left; path = c.back; apart = c.apart; above = omega (arith, ints, circle, c.sum, r.above) }
    by_seen r (inr v) =
        record { total = d.k +ℤ r.total; seen = d.from ∷ r.seen; path = on d h r.path; apart = (v, r.apart); above = omega (arith, ints, r.above) }

    by : Short ds d.to b s → Short ds d.from b (d.k +ℤ s)
    by r = by_seen r (is_visited d.from r.seen)

pub path_under : {ds : List Difference} {a b : ℕ} {s : ℤ} {vs : List ℕ} (n : ℕ) → Lawful n ds → a < n → Path ds a b s vs → Under n vs
path_under n ok low end = (low, tt)
path_under n ok low (on d h p) = (low, path_under n ok (ok d h).0.1 p)

pub path_high : {ds : List Difference} {a b : ℕ} {s : ℤ} {vs : List ℕ} (n : ℕ) → Lawful n ds → Path ds a b s vs → (s +ℤ pos 1000) ≤ℤ pos (1000 * length vs)
path_high n ok end = omega (arith, ints)
path_high n ok (on d h p) = let r = path_high n ok p in omega (arith, ints, (ok d h).1.1)

pub path_low : {ds : List Difference} {a b : ℕ} {s : ℤ} {vs : List ℕ} (n : ℕ) → Lawful n ds → Path ds a b s vs → pos 1000 ≤ℤ (s +ℤ pos (1000 * length vs))
path_low n ok end = omega (arith, ints)
path_low n ok (on d h p) = let r = path_low n ok p in omega (arith, ints, (ok d h).1.0)
