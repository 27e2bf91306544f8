-- The greatest sums of the walks that end in each event, as its number.
use Rattle.std.proofs.Common.{◌≡◌, ℕ, zero, suc, ◌+◌, ◌<◌, ◌≤◌, Bool, true, false, cond, ◌⊎◌, List, length, ℤ, pos, ◌+ℤ◌, ◌≤ℤ◌, Some, None, Option, sym, refl, subst, inl, inr, add-one, arith}
use lib.Signed.{lt_z}
use Rattle.std.proofs.lemmas.Int.{ints}
use Rattle.std.proofs.lemmas.Bool.{cases_eq}
use Rattle.engine.specs.Circles.{In, Walk, stay, step, Lawful, NoRisingCircle, Meets}
use Rattle.engine.specs.States.{Ranged, Sound}
use Rattle.engine.specs.Ways.{ways, Best, higher, peak, top, Greatest, topped}
use Rattle.engine.specs.declared.difference.Difference.{Difference}
use Rattle.engine.specs.Lists.{held_in}
use Rattle.engine.specs.declared.list.DifferenceList.{DifferenceList}
use Rattle.engine.proofs.Fronts.{lawful_wider, few_held}
use Rattle.engine.proofs.Walking.{join, arc}
use Rattle.engine.proofs.Short.{short, few, path_under, path_high}
use Rattle.engine.proofs.Greatest.{ways_best, lt_yes, lt_no}

abbrev pub Under : Option ℤ → ℤ → Type 0
Under None s = Unit {0}
Under (Some t) s = t ≤ℤ s

-- s is the greatest of 0 and what f says below m
pub record Highest (f : ℕ → Option ℤ) (m : ℕ) (s : ℤ) : Type 0 where
  pub low : pos 0 ≤ℤ s
  pub reached : (s ≡ pos 0) ⊎ ((x : ℕ) × (x < m) × (f x ≡ Some s))
  pub most : (x : ℕ) → x < m → Under (f x) s

highest_none : (f : ℕ → Option ℤ) → Highest f 0 (pos 0)
highest_none f = record { low = omega (arith, ints); reached = inl refl; most = λ x h. absurd (omega arith) }

highest_more : (f : ℕ → Option ℤ) (m : ℕ) (s t : ℤ) → Highest f m s → t ≡ higher s (f m) → Highest f (m + 1) t
highest_more f m s t h e = subst (Highest f (m + 1)) (sym e) (by (f m) refl)
  where
    under_more : (o : Option ℤ) (a b : ℤ) → a ≤ℤ b → Under o a → Under o b
    under_more None a b l u = tt
    under_more (Some c) a b l u = omega (arith, ints)

    most_more : (u : ℤ) → s ≤ℤ u → Under (f m) u → (x : ℕ) → x < m + 1 → Under (f x) u
    most_more u l here x low = elim (cases_eq x m) [ inl p ↦ subst (λ z. Under (f z) u) (sym p) here | inr p ↦ under_more (f x) s u l (h.most x (omega arith)) ]

    keep : Under (f m) s → Highest f (m + 1) s
    keep here =
        record {
          low = h.low;
          reached = elim h.reached [ inl p ↦ inl p | inr p ↦ inr (p.0, (let low : p.0 < m = p.1 in omega arith), p.2) ];
          most = most_more s (omega (arith, ints)) here;
        }

    by_test : (v : ℤ) → f m ≡ Some v → (b : Bool) → (b ≡ true → s ≤ℤ v) → (b ≡ false → v ≤ℤ s) → Highest f (m + 1) (cond b v s)
    by_test v p true up down =
        let l = up refl in
        record {
          low = omega (arith, ints, h.low);
          reached = inr (m, (omega arith), p);
          most = most_more v l (subst (λ o. Under o v) (sym p) (omega (arith, ints)));
        }
    by_test v p false up down = keep (subst (λ o. Under o s) (sym p) (down refl))

    by : (o : Option ℤ) → f m ≡ o → Highest f (m + 1) (higher s o)
    by None p = keep (subst (λ o. Under o s) (sym p) tt)
    by (Some v) p = by_test v p (lt_z s v) (lt_yes s v) (lt_no s v)

peak_highest : (f : ℕ → Option ℤ) (m : ℕ) → Highest f m (peak f m)
peak_highest f zero = highest_none f
peak_highest f (suc m) = subst (λ z. Highest f z (peak f (suc m))) (add-one m) (highest_more f m (peak f m) (peak f (suc m)) (peak_highest f m) refl)

-- a walk that ends in an event below n starts in one
pub starts : {ds : List Difference} {x y : ℕ} {t : ℤ} (n : ℕ) → Lawful n ds → y < n → Walk ds x y t → x < n
starts n ok low stay = low
starts n ok low (step d h w) = (ok d h).0.0

highest_greatest : (n : ℕ) (ds : List Difference) (f : ℕ → Option ℤ) (y : ℕ) (s : ℤ) → y < n → Lawful n ds → ((x : ℕ) → x < n → Best ds x y (f x)) → Highest f n s → Greatest ds y s
highest_greatest n ds f y s low ok best h = by h.reached
  where
    above : (o : Option ℤ) (x : ℕ) (t : ℤ) → Walk ds x y t → Best ds x y o → Under o s → t ≤ℤ s
    above None x t w b u = absurd (b t w)
    above (Some v) x t w b u = let l = b.1 t w in omega (arith, ints)

    most : (x : ℕ) (t : ℤ) → Walk ds x y t → t ≤ℤ s
    most x t w = let row = starts n ok low w in above (f x) x t w (best x row) (h.most x row)

    by : ((s ≡ pos 0) ⊎ ((x : ℕ) × (x < n) × (f x ≡ Some s))) → Greatest ds y s
    by (inl e) = record { start = y; walk = subst (Walk ds y y) (sym e) stay; most = most }
    by (inr r) = record { start = r.0; walk = (subst (Best ds r.0 y) r.2 (best r.0 r.1)).0; most = most }

pub top_greatest : (n : ℕ) (ds : List Difference) (y : ℕ) → y < n → Lawful n ds → NoRisingCircle ds → Greatest ds y (top n ds y)
unfolding top
top_greatest n ds y low ok flat =
    highest_greatest n ds (λ x. ways ds x y) y (top n ds y) low ok (λ x row. ways_best ds flat x y) (peak_highest (λ x. ways ds x y) n)

-- there is one greatest sum
pub greatest_same : {ds : List Difference} {y : ℕ} {s t : ℤ} → Greatest ds y s → Greatest ds y t → s ≡ t
greatest_same {ds} {y} {s} {t} a b = let l = b.most a.start s a.walk in let k = a.most b.start t b.walk in omega (arith, ints)

-- greatest sums meet each difference
pub greatest_meets : {ds : List Difference} (d : Difference) (s t : ℤ) → In d ds → Greatest ds d.from s → Greatest ds d.to t → (s +ℤ d.k) ≤ℤ t
greatest_meets d s t h a b = b.most a.start (s +ℤ d.k) (join a.walk (arc d h))

-- and are from 0 to 95,000
pub greatest_low : {ds : List Difference} {y : ℕ} {s : ℤ} → Greatest ds y s → pos 0 ≤ℤ s
greatest_low {ds} {y} g = g.most y (pos 0) stay

pub greatest_high : {ds : List Difference} {y : ℕ} {s : ℤ} (n : ℕ) → n ≤ 96 → y < n → Lawful n ds → NoRisingCircle ds → Greatest ds y s → s ≤ℤ pos 95000
greatest_high n few_events low ok flat g =
    let s = short flat g.walk in
    let fewer = few n s.seen s.apart (path_under n ok (starts n ok low g.walk) s.path) in
    let high = path_high n ok s.path in
    omega (arith, ints, s.above)

pub top_meets : (n : ℕ) (ds : List Difference) → Lawful n ds → NoRisingCircle ds → Meets (top n ds) ds
top_meets n ds ok flat d h =
    let own = (ok d h).0 in
    greatest_meets d (top n ds d.from) (top n ds d.to) h (top_greatest n ds d.from own.0 ok flat) (top_greatest n ds d.to own.1 ok flat)

-- so a list of lawful differences without rising circles, with these numbers, is what an engine may hold
pub topped_sound : (n : ℕ) (ds : List Difference) → Ranged n → length ds ≤ 1100 → Lawful n ds → NoRisingCircle ds → Sound (topped n ds)
topped_sound n ds ranged few_held ok flat =
    record {
      ranged = ranged;
      few = few_held;
      lawful = ok;
      level = flat;
      near = λ y low.
          let g = top_greatest n ds y low ok flat in
          let down = greatest_low g in
          let up = greatest_high n ranged.1 low ok flat g in
          (omega (arith, ints), omega (arith, ints));
      meets = top_meets n ds ok flat;
    }

-- what a difference list holds, where no circle rises
pub listed_sound : (l : DifferenceList) → NoRisingCircle (held_in l) → Sound (topped l.events (held_in l))
listed_sound l flat = topped_sound l.events (held_in l) l.ranged (few_held l) l.lawful flat

-- the greatest sums are the same over more events
pub top_wider : (n m : ℕ) (ds : List Difference) (y : ℕ) → n ≤ m → y < n → Lawful n ds → NoRisingCircle ds → top m ds y ≡ top n ds y
top_wider n m ds y le low ok flat = greatest_same (top_greatest m ds y (omega arith) (lawful_wider n m ds le ok) flat) (top_greatest n ds y low ok flat)
