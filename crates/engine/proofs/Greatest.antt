-- The greatest sums over walks, as one difference more is held.
use Rattle.std.proofs.Common.{◌≡◌, ℕ, ◌<◌, ◌≤◌, Bool, true, false, cond, eqb, ◌⊎◌, List, [], ◌∷◌, ◌++◌, ℤ, pos, negsuc, ◌+ℤ◌, ◌≤ℤ◌, Some, None, Option, sym, refl, ap, subst, inl, inr, append_assoc, arith}
use lib.Signed.{lt_z}
use Rattle.std.proofs.lemmas.Int.{ints}
use Rattle.std.proofs.lemmas.List.{append-nil}
use Rattle.std.proofs.lemmas.Bool.{eqb-true, eqb-false}
use Rattle.engine.specs.Circles.{In, Walk, stay, step, NoRisingCircle, NoRiseThrough, Lawful}
use Rattle.engine.specs.Ways.{joined, greater, unheld, raised, ways_on, ways, Best}
use Rattle.engine.specs.declared.difference.Difference.{Difference}
use Rattle.engine.proofs.Walking.{walk_longer, flat_front, in_last, in_push, join, arc}
use Rattle.engine.proofs.Short.{short, few, path_walk, path_under, path_high, path_low}

-- a walk over ds that sums as high
pub record Avoids (ds : List Difference) (x y : ℕ) (s : ℤ) : Type 0 where
  pub total : ℤ
  pub whole : Walk ds x y total
  pub above : s ≤ℤ total

-- two walks over ds with d between them that sum as high
pub record Through (ds : List Difference) (d : Difference) (x y : ℕ) (s : ℤ) : Type 0 where
  pub before : ℤ
  pub after : ℤ
  pub front : Walk ds x d.from before
  pub back : Walk ds d.to y after
  pub above : s ≤ℤ ((before +ℤ d.k) +ℤ after)

-- a walk over one difference more avoids it, or uses it once
pub once : {ds : List Difference} (d : Difference) {x y : ℕ} {s : ℤ} → NoRiseThrough ds d → Walk (ds ++ (d ∷ [])) x y s → Avoids ds x y s ⊎ Through ds d x y s
once d level stay = inl (record { total = pos 0; whole = stay; above = omega (arith, ints) })
once {ds} d level (step {b} {s} e h w) = by (in_push ds d e h) (once d level w)
  where
    by : (In e ds ⊎ (e ≡ d)) → (Avoids ds e.to b s ⊎ Through ds d e.to b s) → Avoids ds e.from b (e.k +ℤ s) ⊎ Through ds d e.from b (e.k +ℤ s)
    by (inl i) (inl a) = inl (record { total = e.k +ℤ a.total; whole = step e i a.whole; above = omega (arith, ints, a.above) })
    by (inl i) (inr a) = inr (record { before = e.k +ℤ a.before; after = a.after; front = step e i a.front; back = a.back; above = omega (arith, ints, a.above) })
    by (inr i) (inl a) =
        let same : e.k ≡ d.k = ap (λ z. z.k) i in
        inr (record {
          before = pos 0;
          after = a.total;
          front = subst (λ z. Walk ds z d.from (pos 0)) (sym (ap (λ z. z.from) i)) stay;
          back = subst (λ z. Walk ds z b a.total) (ap (λ z. z.to) i) a.whole;
          above = omega (arith, ints, a.above);
        })
    by (inr i) (inr a) =
        let same : e.k ≡ d.k = ap (λ z. z.k) i in
        let around = level a.before (subst (λ z. Walk ds z d.from a.before) (ap (λ z. z.to) i) a.front) in
        inr (record {
          before = pos 0;
          after = a.after;
          front = subst (λ z. Walk ds z d.from (pos 0)) (sym (ap (λ z. z.from) i)) stay;
          back = a.back;
          above = omega (arith, ints, a.above);
        })

-- so no circle rises with d
pub flat_push : (ds : List Difference) (d : Difference) → NoRisingCircle ds → NoRiseThrough ds d → NoRisingCircle (ds ++ (d ∷ []))
flat_push ds d flat level a s w = by (once d level w)
  where
    by : (Avoids ds a a s ⊎ Through ds d a a s) → s ≤ℤ pos 0
    by (inl v) = let h = flat a v.total v.whole in omega (arith, ints, v.above)
    by (inr v) = let h = level (v.after +ℤ v.before) (join v.back v.front) in omega (arith, ints, v.above)

-- and the other way round
pub level_from : (ds : List Difference) (d : Difference) → NoRisingCircle (ds ++ (d ∷ [])) → NoRiseThrough ds d
level_from ds d flat t w =
    let h = flat d.from (d.k +ℤ t) (step d (in_last ds d) (walk_longer ds (d ∷ []) w)) in
    omega (arith, ints)

-- every entry is the greatest sum
abbrev pub Bests : List Difference → (ℕ → ℕ → Option ℤ) → Type 0
Bests ds f = (x y : ℕ) → Best ds x y (f x y)

pub bests_none : Bests [] unheld
bests_none x y = by (eqb x y) (eqb-true x y) (eqb-false x y)
  where
    only : {a b : ℕ} {t : ℤ} → Walk [] a b t → (a ≡ b) × (t ≤ℤ pos 0)
    only stay = (refl, omega (arith, ints))
    only (step d h w) = absurd h

    by : (b : Bool) → (b ≡ true → x ≡ y) → (b ≡ false → x ≡ y → ⊥) → Best [] x y (cond b (Some (pos 0)) None)
    by true same other = (subst (λ z. Walk [] x z (pos 0)) (same refl) stay, λ t w. (only w).1)
    by false same other = λ t w. other refl (only w).0

pub lt_yes : (a b : ℤ) → lt_z a b ≡ true → a ≤ℤ b
lt_yes a b e = grind (arith, ints)

pub lt_no : (a b : ℤ) → lt_z a b ≡ false → b ≤ℤ a
lt_no a b e = grind (arith, ints)

-- the greater of a walk that avoids d and one through it
module _ (ds : List Difference) (d : Difference) (level : NoRiseThrough ds d) (x y : ℕ) where
  through : (p q : ℤ) → Walk ds x d.from p → Walk ds d.to y q → Walk (ds ++ (d ∷ [])) x y ((p +ℤ d.k) +ℤ q)
  through p q v w = join (join (walk_longer ds (d ∷ []) v) (arc d (in_last ds d))) (walk_longer ds (d ∷ []) w)

  either : (o j : ℤ) (b : Bool) → (b ≡ true → o ≤ℤ j) → (b ≡ false → j ≤ℤ o) → Walk (ds ++ (d ∷ [])) x y o → Walk (ds ++ (d ∷ [])) x y j → ((t : ℤ) → Walk (ds ++ (d ∷ [])) x y t → (t ≤ℤ o) ⊎ (t ≤ℤ j)) → Best (ds ++ (d ∷ [])) x y (Some (cond b j o))
  either o j true up down wo wj top = let h = up refl in (wj, λ t w. elim (top t w) [ inl l ↦ omega (arith, ints) | inr l ↦ l ])
  either o j false up down wo wj top = let h = down refl in (wo, λ t w. elim (top t w) [ inl l ↦ l | inr l ↦ omega (arith, ints) ])

  greatest_of : (o p q : Option ℤ) → Best ds x y o → Best ds x d.from p → Best ds d.to y q → Best (ds ++ (d ∷ [])) x y (greater o (joined p d.k q))
  greatest_of None None q bo bp bq = λ t w. elim (once d level w) [ inl a ↦ bo a.total a.whole | inr a ↦ bp a.before a.front ]
  greatest_of None (Some p) None bo bp bq = λ t w. elim (once d level w) [ inl a ↦ bo a.total a.whole | inr a ↦ bq a.after a.back ]
  greatest_of None (Some p) (Some q) bo bp bq =
      (through p q bp.0 bq.0, λ t w. elim (once d level w) [ inl a ↦ absurd (bo a.total a.whole) | inr a ↦ let h = bp.1 a.before a.front in let k = bq.1 a.after a.back in omega (arith, ints, a.above) ])
  greatest_of (Some o) None q bo bp bq =
      (walk_longer ds (d ∷ []) bo.0, λ t w. elim (once d level w) [ inl a ↦ let h = bo.1 a.total a.whole in omega (arith, ints, a.above) | inr a ↦ absurd (bp a.before a.front) ])
  greatest_of (Some o) (Some p) None bo bp bq =
      (walk_longer ds (d ∷ []) bo.0, λ t w. elim (once d level w) [ inl a ↦ let h = bo.1 a.total a.whole in omega (arith, ints, a.above) | inr a ↦ absurd (bq a.after a.back) ])
  greatest_of (Some o) (Some p) (Some q) bo bp bq =
      either o ((p +ℤ d.k) +ℤ q) (lt_z o ((p +ℤ d.k) +ℤ q)) (lt_yes o ((p +ℤ d.k) +ℤ q)) (lt_no o ((p +ℤ d.k) +ℤ q)) (walk_longer ds (d ∷ []) bo.0) (through p q bp.0 bq.0)
      (λ t w. elim (once d level w) [ inl a ↦ let h = bo.1 a.total a.whole in inl (omega (arith, ints, a.above)) | inr a ↦ let h = bp.1 a.before a.front in let k = bq.1 a.after a.back in inr (omega (arith, ints, a.above)) ])

pub bests_push : (ds : List Difference) (d : Difference) (f : ℕ → ℕ → Option ℤ) → NoRiseThrough ds d → Bests ds f → Bests (ds ++ (d ∷ [])) (raised f d)
bests_push ds d f level b x y = greatest_of ds d level x y (f x y) (f x d.from) (f d.to y) (b x y) (b x d.from) (b d.to y)

bests_on : (ds rest : List Difference) (f : ℕ → ℕ → Option ℤ) → Bests ds f → NoRisingCircle (ds ++ rest) → Bests (ds ++ rest) (ways_on f rest)
bests_on ds [] f b flat = subst (λ z. Bests z f) (sym (append-nil ds)) b
bests_on ds (d ∷ rest) f b flat =
    let same = append_assoc ds (d ∷ []) rest in
    let flat' : NoRisingCircle ((ds ++ (d ∷ [])) ++ rest) = subst NoRisingCircle (sym same) flat in
    let level = level_from ds d (flat_front (ds ++ (d ∷ [])) rest flat') in
    subst (λ z. Bests z (ways_on (raised f d) rest)) same (bests_on (ds ++ (d ∷ [])) rest (raised f d) (bests_push ds d f level b) flat')

-- each entry of the ways is the greatest sum of the walks
pub ways_best : (ds : List Difference) → NoRisingCircle ds → Bests ds (ways ds)
ways_best ds flat = bests_on [] ds unheld bests_none flat

pub ways_push : (f : ℕ → ℕ → Option ℤ) (ds : List Difference) (d : Difference) → ways_on f (ds ++ (d ∷ [])) ≡ raised (ways_on f ds) d
ways_push f [] d = refl
ways_push f (x ∷ ds) d = ways_push (raised f x) ds d

-- so a greatest sum is not far from zero
pub best_near : (n : ℕ) (ds : List Difference) (x y : ℕ) (s : ℤ) → n ≤ 96 → x < n → Lawful n ds → NoRisingCircle ds → Best ds x y (Some s) → (negsuc 94999 ≤ℤ s) × (s ≤ℤ pos 95000)
best_near n ds x y s few_events low ok flat b =
    let r = short flat b.0 in
    let fewer = few n r.seen r.apart (path_under n ok low r.path) in
    let most = b.1 r.total (path_walk r.path) in
    let high = path_high n ok r.path in
    let deep = path_low n ok r.path in
    (omega (arith, ints, r.above), omega (arith, ints, r.above))
