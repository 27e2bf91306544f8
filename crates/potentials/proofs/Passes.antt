-- Passes over the held differences raise the numbers to the greatest sums.
use Rattle.std.proofs.Common.{◌≡◌, ℕ, zero, suc, ◌+◌, ◌*◌, ◌<◌, ◌≤◌, Bool, true, false, not, ◌⊎◌, List, [], ◌∷◌, ◌++◌, length, get_or, replicate, set, ℤ, pos, ◌+ℤ◌, ◌≤ℤ◌, ◌<ℤ◌, Some, sym, refl, ap, ◌∙◌, subst, inl, inr, arith, lit≤, length-set}
use Rattle.std.proofs.lemmas.List.{get_or-replicate, get_or-set_same, get_or-set_other, length_push}
use Rattle.std.proofs.lemmas.Int.{ints}
use Rattle.std.proofs.lemmas.Bool.{cases_eq, cases_Bool}
use Rattle.std.specs.Cmp.Rules.{signed_items}
use Rattle.std.specs.Cmp.Lexicographic.{pointwise}
use Rattle.std.specs.Ordering.{int_eq}
use Rattle.engine.specs.Circles.{In, Walk, stay, Among, Small, Lawful, NoRisingCircle, NoRiseThrough, Meets}
use Rattle.engine.specs.Paths.{Path, end, on}
use Rattle.engine.specs.Ways.{top, Greatest}
use Rattle.engine.specs.declared.difference.Difference.{Difference}
use Rattle.engine.proofs.Walking.{in_longer, in_last, in_push, join, arc, walk_longer, flat_none, still, meets_walk}
use Rattle.engine.proofs.Short.{short, few, path_under}
use Rattle.engine.proofs.Tops.{starts, top_greatest, greatest_same, greatest_meets, greatest_low, greatest_high}
use Rattle.engine.proofs.Greatest.{Avoids, Through, once, level_from}
use Rattle.engine.proofs.Fronts.{no_difference, in_at, lawful_push}
use Rattle.potentials.specs.Numbers.{number, Tops, Relaxed, Floor, Ceiling, Attained, Passed, Settled}
use Rattle.potentials.specs.declared.numbers.Level.{Level}

-- ---- one difference

each_push : (P : Difference → Type 0) (ds : List Difference) (d : Difference) → ((e : Difference) → In e ds → P e) → P d → (e : Difference) → In e (ds ++ (d ∷ [])) → P e
each_push P ds d old newest e h = elim (in_push ds d e h) [ inl i ↦ old e i | inr i ↦ subst P (sym i) newest ]

-- what holds of the old number and of v holds once v is written
set_each : (P : ℕ → ℤ → Type 0) (ps : List ℤ) (i : ℕ) (v : ℤ) (y : ℕ) → i < length ps → P y (number ps y) → (y ≡ i → P y v) → P y (number (set ps i v) y)
set_each P ps i v y long old here =
    elim (cases_eq y i) [
      | inl e ↦ subst (P y) (sym (ap (number (set ps i v)) e ∙ get_or-set_same ps i v (pos 0) long)) (here e)
      | inr e ↦ subst (P y) (sym (get_or-set_other ps i y v (pos 0) e)) old
    ]

passed_none : (ps : List ℤ) → length ps ≡ 96 → Passed [] ps ps false
passed_none ps long =
    record {
      sized = long;
      up = λ y low. omega (arith, ints);
      met = λ d h. absurd h;
      told = refl;
      attained = λ ds part h. h;
      ceiling = λ b h y low. let l = h y low in omega (arith, ints);
    }

module _ (done : List Difference) (old new : List ℤ) (c : Bool) (p : Passed done old new c) (d : Difference) where
  -- one difference more that is met
  passed_met : (number old d.from +ℤ d.k) ≤ℤ number new d.to → Passed (done ++ (d ∷ [])) old new c
  passed_met met =
      record {
        sized = p.sized;
        up = p.up;
        met = each_push (λ e. (number old e.from +ℤ e.k) ≤ℤ number new e.to) done d p.met met;
        told = p.told;
        attained = λ ds part. p.attained ds (λ e i. part e (in_longer done (d ∷ []) e i));
        ceiling = λ b h y low. let l = p.ceiling b h y low in omega (arith, ints, length_push done d);
      }

  -- one that a raise meets
  passed_raised : Among 96 d × Small d → number new d.to <ℤ (number new d.from +ℤ d.k) → Passed (done ++ (d ∷ [])) old (set new d.to (number new d.from +ℤ d.k)) true
  passed_raised (among, small) high =
      let v = number new d.from +ℤ d.k in
      let place : d.to < length new = omega (arith, among.1, p.sized) in
      let from_up = p.up d.from among.0 in
      let to_up = p.up d.to among.1 in
      let here : number (set new d.to v) d.to ≡ v = get_or-set_same new d.to v (pos 0) place in
      let more : (y : ℕ) → number new y ≤ℤ number (set new d.to v) y = λ y. set_each (λ z w. number new z ≤ℤ w) new d.to v y place (omega (arith, ints)) (λ e. let same : number new y ≡ number new d.to = ap (number new) e in omega (arith, ints)) in
      record {
        sized = length-set new d.to v ∙ p.sized;
        up = λ y low. let h = p.up y low in let k = more y in omega (arith, ints);
        met = each_push (λ e. (number old e.from +ℤ e.k) ≤ℤ number (set new d.to v) e.to) done d (λ e i. let l = p.met e i in let k = more e.to in omega (arith, ints)) (omega (arith, ints));
        told = (d.to, among.1, omega (arith, ints));
        attained = λ ds part h y low.
            let has = p.attained ds (λ e i. part e (in_longer done (d ∷ []) e i)) h in
            set_each (λ z w. (x : ℕ) × Walk ds x z w) new d.to v y place (has y low) (λ e. let w = has d.from among.0 in subst (λ z. (x : ℕ) × Walk ds x z v) (sym e) (w.0, join w.1 (arc d (part d (in_last done d)))));
        ceiling = λ b h y low.
            let one = length_push done d in
            set_each (λ z w. w ≤ℤ pos (b + 1000 * length (done ++ (d ∷ [])))) new d.to v y place (let l = p.ceiling b h y low in omega (arith, ints)) (λ e. let l = p.ceiling b h d.from among.0 in omega (arith, ints, small.1));
      }

  -- so after either answer of relax
  pub passed_more : (new' : List ℤ) (r : Bool) → Among 96 d × Small d → Relaxed d new new' r → (c' : Bool) × Passed (done ++ (d ∷ [])) old new' c'
  passed_more new' true own h = (true, rw h.1 (passed_raised own h.0))
  passed_more new' false own h = (c, rw h.1 (passed_met (let up = p.up d.from own.0.0 in omega (arith, ints, h.0))))

-- whether a number rose is whether the numbers differ
pub passed_differs : (done : List Difference) (old new : List ℤ) (c : Bool) → Passed done old new c → not (pointwise int_eq new old) ≡ c
passed_differs done old new false p = ap not ((signed_items new old).1 p.told)
passed_differs done old new true p =
    elim (cases_Bool (pointwise int_eq new old)) [
      | inl e ↦ let same : number new p.told.0 ≡ number old p.told.0 = ap (λ z. number z p.told.0) ((signed_items new old).0 e) in let rose = p.told.2 in absurd (omega (arith, ints))
      | inr e ↦ ap not e
    ]

-- ---- whole passes

-- a walk of m differences that ends in y, built up at its end
pub data Trail (ds : List Difference) : ℕ → ℕ → ℤ → Type 0 where
  stop : {y : ℕ} → Trail ds 0 y (pos 0)
  more : {m : ℕ} {s : ℤ} (d : Difference) → In d ds → Trail ds m d.from s → Trail ds (suc m) d.to (s +ℤ d.k)

retrail : {ds : List Difference} {m y : ℕ} {s t : ℤ} → s ≡ t → Trail ds m y s → Trail ds m y t
retrail {ds} {m} {y} e w = subst (λ z. Trail ds m y z) e w

trail_of : {ds : List Difference} {a b : ℕ} {s : ℤ} {vs : List ℕ} → Path ds a b s vs → (m : ℕ) (t : ℤ) → Trail ds m a t → (k : ℕ) × (suc k ≡ m + length vs) × Trail ds k b (t +ℤ s)
trail_of end m t w = (m, omega arith, retrail (omega (arith, ints)) w)
trail_of (on {s = u} d h p) m t w =
    let r = trail_of p (suc m) (t +ℤ d.k) (more d h w) in
    let e : ((t +ℤ d.k) +ℤ u) ≡ (t +ℤ (d.k +ℤ u)) = omega (arith, ints) in
    (r.0, omega (arith, r.1), retrail e r.2)

-- no walk of at most r differences sums higher
abbrev pub Covers : List Difference → ℕ → List ℤ → Type 0
Covers ds r ps = (y m : ℕ) (s : ℤ) → y < 96 → m ≤ r → Trail ds m y s → s ≤ℤ number ps y

covers_none : (ds : List Difference) (ps : List ℤ) → Floor ps → Covers ds 0 ps
covers_none ds ps down y zero s low few stop = down y low
covers_none ds ps down y (suc m) s low few w = absurd (omega arith)

pub covers_floor : (ds : List Difference) (r : ℕ) (ps : List ℤ) → Covers ds r ps → Floor ps
covers_floor ds r ps cover y low = cover y 0 (pos 0) low (omega arith) stop

covers_more : (ds : List Difference) (r : ℕ) (old new : List ℤ) (c : Bool) → Lawful 96 ds → Passed ds old new c → Covers ds r old → Covers ds (r + 1) new
covers_more ds r old new c ok pass cover y zero s low few stop = let l = covers_floor ds r old cover y low in let k = pass.up y low in omega (arith, ints)
covers_more ds r old new c ok pass cover y (suc k) s low few (more {s = t} d h w) =
    let l = cover d.from k t (ok d h).0.0 (omega arith) w in
    let j = pass.met d h in
    omega (arith, ints)

-- after 95 passes nothing sums higher, unless a circle rises
covered : (ds : List Difference) (r : ℕ) (ps : List ℤ) → Lawful 96 ds → NoRisingCircle ds → 96 ≤ r + 1 → Covers ds r ps → (x y : ℕ) (t : ℤ) → y < 96 → Walk ds x y t → t ≤ℤ number ps y
covered ds r ps ok flat enough cover x y t low w =
    let s = short flat w in
    let fewer = few 96 s.seen s.apart (path_under 96 ok (starts 96 ok low w) s.path) in
    let trail = trail_of s.path 0 (pos 0) stop in
    let most = cover y trail.0 (pos 0 +ℤ s.total) low (omega (arith, trail.1)) trail.2 in
    omega (arith, ints, s.above)

-- so a pass that still changes something shows a circle
change_rises : (ds : List Difference) (r : ℕ) (old new : List ℤ) → Lawful 96 ds → 96 ≤ r + 1 → Covers ds r old → Attained ds old → Passed ds old new true → NoRisingCircle ds → ⊥
change_rises ds r old new ok enough cover has pass flat =
    let y = pass.told.0 in
    let low = pass.told.1 in
    let w = pass.attained ds (λ d i. i) has y low in
    let most = covered ds r old ok flat enough cover w.0 y (number new y) low w.1 in
    let high = pass.told.2 in
    omega (arith, ints)

-- numbers that meet each difference, and are sums of walks, are the greatest sums
settled_met : (ds : List Difference) (ps : List ℤ) → Lawful 96 ds → Floor ps → Attained ds ps → Meets (number ps) ds → Settled ds (Some ps)
settled_met ds ps ok down has met = (flat, λ y low. greatest_same (greatest y low) (top_greatest 96 ds y low ok flat))
  where
    flat : NoRisingCircle ds
    flat a s w = let l = meets_walk (number ps) met w in omega (arith, ints)

    greatest : (y : ℕ) → y < 96 → Greatest ds y (number ps y)
    greatest y low =
        let w = has y low in
        record {
          start = w.0;
          walk = w.1;
          most = λ x t v. let l = meets_walk (number ps) met v in let j = down x (starts 96 ok low v) in omega (arith, ints);
        }

-- ---- a level and one difference more

pub lawful_at : (v : Level) (i : ℕ) → i < length v.held.now → Among 96 (get_or v.held.now i no_difference) × Small (get_or v.held.now i no_difference)
lawful_at v i within = v.lawful _ (in_at v.held.now i no_difference within)

at_level : (v : Level) (y : ℕ) → y < 96 → Greatest v.held.now y (number v.numbers.now y)
at_level v y low = subst (Greatest v.held.now y) (sym (v.told y low)) (top_greatest 96 v.held.now y low v.lawful v.level)

pub near : (v : Level) (y : ℕ) → y < 96 → (pos 0 ≤ℤ number v.numbers.now y) × (number v.numbers.now y ≤ℤ pos 95000)
near v y low = let g = at_level v y low in (greatest_low g, greatest_high 96 (lit≤ tt) low v.lawful v.level g)

-- the held differences and one more
abbrev pub with_one : Level → Difference → List Difference
with_one v d = v.held.now ++ (d ∷ [])

-- after r passes that each changed something, with one difference more
pub record Mending (v : Level) (d : Difference) (r : ℕ) (qs : List ℤ) : Type 0 where
  pub high : Ceiling (96000 + 1101000 * r) qs
  pub has : Attained (with_one v d) qs
  pub cover : Covers (with_one v d) r qs
  pub risen : 96 ≤ r → NoRisingCircle (with_one v d) → ⊥
  pub met : (number v.numbers.now d.from +ℤ d.k) ≤ℤ number qs d.to

module _ (v : Level) (d : Difference) (own : Among 96 d × Small d) where
  lawful_more : Lawful 96 (with_one v d)
  lawful_more = lawful_push 96 v.held.now d v.lawful own.0 own.1

  attained_more : Attained (with_one v d) v.numbers.now
  attained_more y low = let g = at_level v y low in (g.start, walk_longer v.held.now (d ∷ []) g.walk)

  -- numbers that meet the difference stay
  pub settled_kept : (qs : List ℤ) → Relaxed d v.numbers.now qs false → Settled (with_one v d) (Some qs)
  settled_kept qs h =
      subst (λ z. Settled (with_one v d) (Some z)) (sym h.1)
      (settled_met (with_one v d) v.numbers.now lawful_more (λ y low. (near v y low).0) attained_more
      (each_push (λ e. (number v.numbers.now e.from +ℤ e.k) ≤ℤ number v.numbers.now e.to) v.held.now d
      (λ e i. let its = (v.lawful e i).0 in greatest_meets e (number v.numbers.now e.from) (number v.numbers.now e.to) i (at_level v e.from its.0) (at_level v e.to its.1)) h.0))

  -- where the start of the difference rises, the raise has come round
  pub raise_rises : (r : ℕ) (qs : List ℤ) → Mending v d r qs → number v.numbers.now d.from <ℤ number qs d.from → NoRisingCircle (with_one v d) → ⊥
  raise_rises r qs m high flat = by (once d through w.1)
    where
      through : NoRiseThrough v.held.now d
      through = level_from v.held.now d flat

      w : (x : ℕ) × Walk (with_one v d) x d.from (number qs d.from)
      w = m.has d.from own.0.0

      g : Greatest v.held.now d.from (number v.numbers.now d.from)
      g = at_level v d.from own.0.0

      by : (Avoids v.held.now w.0 d.from (number qs d.from) ⊎ Through v.held.now d w.0 d.from (number qs d.from)) → ⊥
      by (inl a) = let l = g.most w.0 a.total a.whole in omega (arith, ints, a.above)
      by (inr a) = let l = g.most w.0 a.before a.front in let k = through a.after a.back in omega (arith, ints, a.above)

  -- the first raise is a pass over the new difference alone
  pub mending_none : (qs : List ℤ) → length qs ≡ 96 → Relaxed d v.numbers.now qs true → Mending v d 0 qs
  mending_none qs long h =
      let sized : length v.numbers.now ≡ 96 = omega (arith, ap length h.1, length-set v.numbers.now d.to (number v.numbers.now d.from +ℤ d.k)) in
      let p = (passed_more [] v.numbers.now v.numbers.now false (passed_none v.numbers.now sized) d qs true own h).1 in
      record {
        high = p.ceiling 95000 (λ y low. (near v y low).1);
        has = p.attained (with_one v d) (each_push (λ e. In e (with_one v d)) [] d (λ e i. absurd i) (in_last v.held.now d)) attained_more;
        cover = covers_none (with_one v d) qs (λ y low. let l = near v y low in let k = p.up y low in omega (arith, ints));
        risen = λ past. absurd (omega arith);
        met = p.met d (inl refl);
      }

  module _ (r : ℕ) (old new : List ℤ) (m : Mending v d r old) (still : number old d.from ≤ℤ number v.numbers.now d.from) where
    -- a pass over the held differences passes over the new one too, since its start has not risen
    passed_whole : (c : Bool) → Passed v.held.now old new c → Passed (with_one v d) old new c
    passed_whole c p = passed_met v.held.now old new c p d (let up = p.up d.to own.0.1 in omega (arith, ints, m.met))

    pub mending_more : Passed v.held.now old new true → Mending v d (r + 1) new
    mending_more p =
        let q = passed_whole true p in
        let up = p.up d.to own.0.1 in
        record {
          high = λ y low. let l = p.ceiling (96000 + 1101000 * r) m.high y low in omega (arith, ints, v.few);
          has = q.attained (with_one v d) (λ e i. i) m.has;
          cover = covers_more (with_one v d) r old new true lawful_more q m.cover;
          risen = λ past. change_rises (with_one v d) r old new lawful_more past m.cover m.has q;
          met = omega (arith, ints, m.met);
        }

    pub mending_done : Passed v.held.now old new false → Settled (with_one v d) (Some new)
    mending_done p =
        let q = passed_whole false p in
        let down = covers_floor (with_one v d) r old m.cover in
        settled_met (with_one v d) new lawful_more (λ y low. let l = down y low in let k = p.up y low in omega (arith, ints)) (q.attained (with_one v d) (λ e i. i) m.has)
        (λ e i. subst (λ z. (number z e.from +ℤ e.k) ≤ℤ number new e.to) (sym p.told) (q.met e i))

-- ---- nothing held

pub tops_zeros : (ds : List Difference) → ds ≡ [] → Tops ds (replicate 96 (pos 0))
tops_zeros ds e y low =
    get_or-replicate 96 y (pos 0) (pos 0) low
    ∙ greatest_same (record { start = y; walk = stay; most = λ x t w. still w }) (top_greatest 96 [] y low (λ d h. absurd h) flat_none)
    ∙ ap (λ z. top 96 z y) (sym e)
