-- The lowest number that passes a test, whether one passes, and sums.
use Rattle.std.proofs.Common.{◌≡◌, ℕ, zero, suc, ◌<◌, ◌≤◌, Bool, true, false, ◌||◌, ltb, ◌⊎◌, ◌↔◌, refl, sym, ap, ◌∙◌, subst, ap₂, inl, inr, arith, ltb-true, le-ltb, lt-ltb}
use native.Mathlib.Decide.{ℕ_discrete, dec_lt}
use Rattle.std.proofs.lemmas.Bool.{cases_lt, or_left, or_right, or_cases, both_ways}
use Rattle.listing.specs.Scans.{Each, First, lowest, any, summed}

-- none passes
pub lowest_none : (n : ℕ) (test : ℕ → Bool) → Each n (λ i. test i ≡ false) → lowest n test ≡ n
lowest_none zero test h = refl
lowest_none (suc n) test h =
    let e : lowest n test ≡ n = lowest_none n test (λ i k. h i (omega arith)) in
    let f : ltb (lowest n test) n ≡ false = le-ltb _ _ (omega arith) in
    let k : test n ≡ false = h n (omega arith) in
    rw (f, k)

-- i is the first that passes
pub lowest_is : (n : ℕ) (test : ℕ → Bool) (i : ℕ) → i < n → test i ≡ true → Each i (λ j. test j ≡ false) → lowest n test ≡ i
lowest_is zero test i h t e = absurd (omega arith)
lowest_is (suc n) test i h t e = elim (ℕ_discrete n i) [ yes here ↦ early here | no other ↦ late (omega arith) (lowest_is n test i (omega arith) t e) ]
  where
    early : n ≡ i → lowest (suc n) test ≡ i
    early here =
        let none : lowest n test ≡ n = lowest_none n test (λ j l. e j (omega arith)) in
        let past : ltb (lowest n test) n ≡ false = le-ltb _ _ (omega arith) in
        let found : test n ≡ true = ap test here ∙ t in
        rw (past, found, here)

    late : i < n → lowest n test ≡ i → lowest (suc n) test ≡ i
    late k is =
        let below : ltb (lowest n test) n ≡ true = lt-ltb _ _ (omega arith) in
        rw (below, is)

-- the lowest passes
pub lowest_passes : (n : ℕ) (test : ℕ → Bool) → lowest n test < n → test (lowest n test) ≡ true
lowest_passes zero test h = absurd (omega arith)
lowest_passes (suc n) test h = go (ltb (lowest n test) n) refl (test n) refl (lowest_passes n test)
  where
    go : (a : Bool) → ltb (lowest n test) n ≡ a → (t : Bool) → test n ≡ t → (lowest n test < n → test (lowest n test) ≡ true)
        → test (lowest (suc n) test) ≡ true
    go true e t k before = rw e (before (ltb-true _ _ e))
    go false e true k before = rw (e, k, k)
    go false e false k before = absurd (let far : lowest (suc n) test ≡ suc n = rw (e, k) in omega arith)

-- one passes
pub lowest_below : (n : ℕ) (test : ℕ → Bool) (i : ℕ) → i < n → test i ≡ true → lowest n test < n
lowest_below zero test i h t = absurd (omega arith)
lowest_below (suc n) test i h t = go (ltb (lowest n test) n) refl (test n) refl (λ k. lowest_below n test i k t)
  where
    go : (a : Bool) → ltb (lowest n test) n ≡ a → (here : Bool) → test n ≡ here → (i < n → lowest n test < n) → lowest (suc n) test < suc n
    go true e here k before = rw e (let below = ltb-true _ _ e in omega arith)
    go false e true k before = rw (e, k) (omega arith)
    go false e false k before = elim (ℕ_discrete n i) [
      | yes at ↦ absurd (both_ways (test n) k (ap test at ∙ t))
      | no other ↦ absurd (both_ways _ e (lt-ltb _ _ (before (omega arith))))
    ]

-- no lower than one that passes
pub lowest_most : (n : ℕ) (test : ℕ → Bool) (i : ℕ) → i < n → test i ≡ true → lowest n test ≤ i
lowest_most zero test i h t = absurd (omega arith)
lowest_most (suc n) test i h t = elim (cases_lt (lowest n test) n) [
  | inl low ↦
      let below : ltb (lowest n test) n ≡ true = lt-ltb _ _ low in
      rw below (elim (cases_lt i n) [ inl k ↦ lowest_most n test i k t | inr past ↦ omega arith ])
  | inr none ↦ elim (cases_lt i n) [
    | inl k ↦ (let most = lowest_most n test i k t in absurd (omega arith))
    | inr past ↦
        let off : ltb (lowest n test) n ≡ false = le-ltb _ _ none in
        let e : i ≡ n = omega arith in
        let here : test n ≡ true = ap test (sym e) ∙ t in
        rw (off, here) (omega arith)
  ]
]

-- two tests that agree below n
pub lowest_same : (n : ℕ) (a c : ℕ → Bool) → Each n (λ i. a i ≡ c i) → lowest n a ≡ lowest n c
lowest_same zero a c h = refl
lowest_same (suc n) a c h =
    let e : lowest n a ≡ lowest n c = lowest_same n a c (λ i k. h i (omega arith)) in
    let k : a n ≡ c n = h n (omega arith) in
    rw (e, k)

pub summed_same : (n : ℕ) (f g : ℕ → ℕ) → Each n (λ i. f i ≡ g i) → summed n f ≡ summed n g
summed_same zero f g h = refl
summed_same (suc n) f g h =
    let e : summed n f ≡ summed n g = summed_same n f g (λ i k. h i (omega arith)) in
    let k : f n ≡ g n = h n (omega arith) in
    rw (e, k)

-- there is one first fault
pub first_once : {F : Type 0} (n : ℕ) (passes : ℕ → Type 0) (fails : ℕ → F → Type 0)
    → ((i : ℕ) (f : F) → passes i → fails i f → ⊥) → ((i : ℕ) (f g : F) → fails i f → fails i g → f ≡ g)
    → (f g : F) → First n passes fails f → First n passes fails g → f ≡ g
first_once n passes fails apart once f g a c = elim (dec_lt a.at c.at) [
  | yes h ↦ absurd (apart a.at f (c.earlier a.at h) a.fault)
  | no nh ↦ elim (dec_lt c.at a.at) [
    | yes k ↦ absurd (apart c.at g (a.earlier c.at k) c.fault)
    | no nk ↦
        let e : a.at ≡ c.at = omega arith in
        once c.at f g (subst (λ i. fails i f) e a.fault) c.fault
  ]
]

-- where each number passes or fails, all pass or there is a first fault
pub first_or_all : {F : Type 0} (n : ℕ) (passes : ℕ → Type 0) (fails : ℕ → F → Type 0)
    → ((i : ℕ) → passes i ⊎ ((f : F) × fails i f)) → Each n passes ⊎ ((f : F) × First n passes fails f)
first_or_all zero passes fails at = inl (λ i h. absurd (omega arith))
first_or_all (suc n) passes fails at = elim (first_or_all n passes fails at) [
  | inl each ↦ elim (at n) [
    | inl here ↦ inl (λ i h. elim (ℕ_discrete n i) [ yes e ↦ subst passes e here | no ne ↦ each i (omega arith) ])
    | inr w ↦ inr (w.0, record { at = n; below = omega arith; fault = w.1; earlier = each })
  ]
  | inr w ↦ inr (w.0, record { at = w.1.at; below = let h = w.1.below in omega arith; fault = w.1.fault; earlier = w.1.earlier })
]

pub any_here : (n : ℕ) (test : ℕ → Bool) (i : ℕ) → i < n → test i ≡ true → any n test ≡ true
any_here zero test i h t = absurd (omega arith)
any_here (suc n) test i h t = elim (ℕ_discrete n i) [
  | yes e ↦ or_right (any n test) (test n) (ap test e ∙ t)
  | no ne ↦ or_left (any n test) (test n) (any_here n test i (omega arith) t)
]

-- where one passes, here is one
pub any_found : (n : ℕ) (test : ℕ → Bool) → any n test ≡ true → (i : ℕ) × (i < n) × (test i ≡ true)
any_found zero test e = absurd (both_ways false refl e)
any_found (suc n) test e = elim (or_cases (any n test) (test n) e) [
  | inl a ↦ (let w = any_found n test a in (w.0, omega (arith, w.1), w.2))
  | inr t ↦ (n, omega arith, t)
]

-- the lowest is below n where one passes
pub any_lowest : (n : ℕ) (test : ℕ → Bool) → (any n test ≡ true) ↔ (lowest n test < n)
any_lowest n test = (
  λ e. let w = any_found n test e in lowest_below n test w.0 w.1 w.2,
  λ h. any_here n test (lowest n test) h (lowest_passes n test h),
)

pub any_same : (n : ℕ) (a c : ℕ → Bool) → Each n (λ i. a i ≡ c i) → any n a ≡ any n c
any_same zero a c h = refl
any_same (suc n) a c h = ap₂ ◌||◌ (any_same n a c (λ i k. h i (omega arith))) (h n (omega arith))
