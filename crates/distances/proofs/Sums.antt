-- A table of the ways over a list that grows, and the circles and numbers that it tells.
use Rattle.std.proofs.Common.{fold, map, ◌≡◌, ℕ, zero, suc, ◌+◌, ◌/◌, ◌%◌, ◌<◌, ◌≤◌, Bool, true, false, List, [], ◌∷◌, ◌++◌, length, get_or, take, drop, ℤ, pos, ◌+ℤ◌, ◌≤ℤ◌, Some, None, Option, sym, refl, ap, ◌∙◌, subst, add-one, arith}
use Rattle.std.proofs.lemmas.List.{take-append-drop, take_more}
use Rattle.std.proofs.lemmas.Int.{ints}
use Rattle.std.proofs.lemmas.List.FromFn.{map-range_with_len_more}
use Rattle.std.proofs.lemmas.List.Sums.{fold_push}
use Rattle.std.specs.List.{range_with_len}
use Rattle.engine.specs.Circles.{Among, Small, Lawful, NoRisingCircle, NoRiseThrough}
use Rattle.engine.specs.Lists.{held_in}
use Rattle.engine.specs.States.{Sound}
use Rattle.engine.specs.Ways.{unheld, raised, ways, Best, higher, peak, top, topped}
use Rattle.engine.specs.declared.difference.Difference.{Difference}
use Rattle.engine.specs.declared.list.DifferenceList.{DifferenceList}
use Rattle.engine.proofs.Fronts.{no_difference, in_at, lawful_part}
use Rattle.engine.proofs.Tops.{listed_sound}
use Rattle.engine.proofs.Walking.{flat_front}
use Rattle.engine.proofs.Greatest.{ways_best, ways_push, best_near, flat_push, level_from}
use Rattle.distances.specs.Tables.{Tabled, entry, Bounded, AllBounded, Rises, Rising}
use Rattle.distances.specs.Engines.{Closing, sound_of}
use Rattle.distances.specs.declared.distance.DistanceEngine.{DistanceEngine}
use Rattle.distances.specs.declared.level.LevelList.{LevelList}
use Rattle.distances.proofs.Tables.{row_of, tabled_at, tabled_from}

best_bounded : (n : ℕ) (ds : List Difference) (x y : ℕ) (o : Option ℤ) → n ≤ 96 → x < n → Lawful n ds → NoRisingCircle ds → Best ds x y o → Bounded o
best_bounded n ds x y None few low ok flat b = tt
best_bounded n ds x y (Some s) few low ok flat b = best_near n ds x y s few low ok flat b

-- no greatest sum is far from zero
ways_bounded : (n : ℕ) (ds : List Difference) (x y : ℕ) → n ≤ 96 → x < n → Lawful n ds → NoRisingCircle ds → Bounded (ways ds x y)
ways_bounded n ds x y few low ok flat = best_bounded n ds x y (ways ds x y) few low ok flat (ways_best ds flat x y)

tabled_bounded : (n : ℕ) (ds : List Difference) (table : List (Option ℤ)) → n ≤ 96 → Lawful n ds → NoRisingCircle ds → Tabled n (ways ds) table → AllBounded n table
tabled_bounded n ds table few ok flat told p low =
    subst Bounded (sym (told p low)) (ways_bounded n ds (p / n) (p % n) few (row_of n p low) ok flat)

-- a table of the ways, raised, is one of the longer list
tabled_push : (n : ℕ) (ds : List Difference) (d : Difference) (old new : List (Option ℤ)) → Among n d → Tabled n (ways ds) old → Tabled n (raised (entry n old) d) new → Tabled n (ways (ds ++ (d ∷ []))) new
tabled_push n ds d old new among told more = tabled_from n (ways (ds ++ (d ∷ []))) new at
  where
    at : (x y : ℕ) → x < n → y < n → entry n new x y ≡ ways (ds ++ (d ∷ [])) x y
    at x y row column =
        let raised_here = tabled_at n (raised (entry n old) d) new x y more row column in
        let here = tabled_at n (ways ds) old x y told row column in
        let front = tabled_at n (ways ds) old x d.from told row among.0 in
        let back = tabled_at n (ways ds) old d.to y told among.1 column in
        let longer = ap (λ f. f x y) (ways_push unheld ds d) in
        cc

-- ---- one held difference after another

module _ (list : LevelList) (n : ℕ) (held : List Difference) (events : n ≡ list.differences.events) (same : held ≡ held_in list.differences) where
  sound : Sound (topped list.differences.events (held_in list.differences))
  sound = listed_sound list.differences list.level

  ok : Lawful n held
  ok = subst (λ z. Lawful z held) (sym events) (subst (Lawful list.differences.events) (sym same) sound.lawful)

  pub held_own : (i : ℕ) → i < length held → Among n (get_or held i no_difference) × Small (get_or held i no_difference)
  held_own i low = ok (get_or held i no_difference) (in_at held i no_difference low)

  pub part_bounded : (i : ℕ) (table : List (Option ℤ)) → Tabled n (ways (take i held)) table → AllBounded n table
  part_bounded i table told =
      let flat = subst NoRisingCircle (sym same ∙ sym (take-append-drop i held)) list.level in
      tabled_bounded n (take i held) table (omega (arith, events, sound.ranged.1)) (lawful_part n i held ok) (flat_front (take i held) (drop i held) flat) told

  pub part_more : (i m : ℕ) (old new : List (Option ℤ)) → m ≡ n → i < length held → Tabled n (ways (take i held)) old → Tabled n (raised (entry n old) (get_or held i no_difference)) new → Tabled m (ways (take (i + 1) held)) new
  part_more i m old new still low told more =
      let d = get_or held i no_difference in
      subst (λ z. Tabled z (ways (take (i + 1) held)) new) (sym still) (subst (λ ds. Tabled n (ways ds) new) (sym (take_more held i no_difference low)) (tabled_push n (take i held) d old new (held_own i low).0 told more))

-- ---- circles

circle_rises : (ds : List Difference) (d : Difference) (o : Option ℤ) → Best ds d.to d.from o → Rises d.k o → NoRisingCircle (ds ++ (d ∷ [])) → ⊥
circle_rises ds d None b up flat = up
circle_rises ds d (Some s) b up flat = let h = level_from ds d flat s b.0 in omega (arith, ints)

at_most : (s k t : ℤ) → t ≤ℤ s → (pos 1 ≤ℤ (s +ℤ k) → ⊥) → (t +ℤ k) ≤ℤ pos 0
at_most s k t low still = grind (arith, ints)

circle_level : (ds : List Difference) (d : Difference) (o : Option ℤ) → Best ds d.to d.from o → (Rises d.k o → ⊥) → NoRiseThrough ds d
circle_level ds d None b still t w = absurd (b t w)
circle_level ds d (Some s) b still t w = at_most s d.k t (b.1 t w) still

-- a circle rises with d exactly if the greatest sum of the ways back rises with its k
pub closing : (ds : List Difference) (d : Difference) (o : Option ℤ) (b : Bool) → NoRisingCircle ds → o ≡ ways ds d.to d.from → Rising d.k o b → Closing ds d b
closing ds d o b flat same = by b
  where
    best : Best ds d.to d.from o
    best = subst (Best ds d.to d.from) (sym same) (ways_best ds flat d.to d.from)

    by : (b : Bool) → Rising d.k o b → Closing ds d b
    by true up = circle_rises ds d o best up
    by false still = flat_push ds d flat (circle_level ds d o best still)

-- ---- numbers

-- a peak as a fold over the column
pub peak_fold : (f : ℕ → Option ℤ) (m : ℕ) → fold higher (pos 0) (map f (range_with_len 0 m)) ≡ peak f m
peak_fold f zero = refl
peak_fold f (suc m) =
    ap (λ z. fold higher (pos 0) (map f (range_with_len 0 z))) (sym (add-one m)) ∙ (ap (fold higher (pos 0)) (map-range_with_len_more f 0 m m (omega arith)) ∙ (fold_push higher (pos 0) (map f (range_with_len 0 m)) (f m) ∙ ap (λ z. higher z (f m)) (peak_fold f m)))

peak_same : (f g : ℕ → Option ℤ) (m : ℕ) → ((x : ℕ) → x < m → f x ≡ g x) → peak f m ≡ peak g m
peak_same f g zero same = refl
peak_same f g (suc m) same =
    ap (λ z. higher z (f m)) (peak_same f g m (λ x low. same x (omega arith))) ∙ ap (λ z. higher (peak g m) z) (same m (omega arith))

-- the greatest of 0 and the sums in a column is the greatest sum of the walks that end in its event
peak_top : (n : ℕ) (ds : List Difference) (table : List (Option ℤ)) (y : ℕ) → y < n → Tabled n (ways ds) table → peak (λ x. entry n table x y) n ≡ top n ds y
unfolding top
peak_top n ds table y low told = peak_same (λ x. entry n table x y) (λ x. ways ds x y) n (λ x row. tabled_at n (ways ds) table x y told row low)

-- ---- the table of an engine

module _ (e : DistanceEngine) where
  abbrev n : ℕ
  n = e.list.differences.events

  abbrev ds : List Difference
  ds = held_in e.list.differences

  abbrev m : ℕ
  m = e.table.events

  told : Tabled m (ways ds) e.table.sums
  told = subst (λ z. Tabled z (ways ds) e.table.sums) (sym e.sized) e.told

  pub table_bounded : AllBounded m e.table.sums
  table_bounded = tabled_bounded m ds e.table.sums e.table.few (subst (λ z. Lawful z ds) (sym e.sized) (sound_of e).lawful) e.list.level told

  -- what is read from the table is the greatest sum over the walks
  pub table_way : (x y : ℕ) → x < m → y < m → entry m e.table.sums x y ≡ ways ds x y
  table_way x y row column = tabled_at m (ways ds) e.table.sums x y told row column

  pub table_peak : (y : ℕ) → y < m → peak (λ x. entry m e.table.sums x y) m ≡ top n ds y
  table_peak y low = peak_top m ds e.table.sums y low told ∙ ap (λ z. top z ds y) e.sized

  -- raised by one difference more, it is the table of the longer list
  pub table_more : (l : DifferenceList) (d : Difference) (sums : List (Option ℤ)) → Among m d → l.events ≡ n → held_in l ≡ ds ++ (d ∷ []) → Tabled m (raised (entry m e.table.sums) d) sums → Tabled l.events (ways (held_in l)) sums
  table_more l d sums among events held more =
      subst (λ z. Tabled z (ways (held_in l)) sums) (e.sized ∙ sym events) (subst (λ z. Tabled m (ways z) sums) (sym held) (tabled_push m ds d e.table.sums sums among told more))
