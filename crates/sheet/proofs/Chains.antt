-- What chains over the numbers below n give.
use Rattle.std.proofs.Common.{◌≡◌, ℕ, zero, suc, ◌+◌, ◌*◌, ◌^◌, ◌<◌, ◌≤◌, Bool, true, false, ◌||◌, cond, List, [], ◌∷◌, ◌++◌, map, length, refl, sym, ap, ◌∙◌, add-one, arith, zero-add, Option, Some, None, MatchOption}
use Rattle.std.specs.Fn.{CalledAt, Called}
use Rattle.std.specs.Iterator.Adapters.{filter_source, filter_callee, filter_steps, map_source, map_callee, map_steps}
use Rattle.std.specs.Iterator.Runs.{EachRunFrom}
use Rattle.std.specs.Iterator.{Drains, YieldsThen}
use Rattle.std.specs.List.{range_with_len, filter, fold, FoldsTo, sum_by, list_any}
use Rattle.std.specs.declared.iter.Filter.{Filter}
use Rattle.std.specs.declared.iter.Map.{Map}
use Rattle.std.specs.declared.ops.Range.{Range}
use Rattle.std.proofs.iter.Yields.{nat_range_steps}
use Rattle.std.proofs.lemmas.Iterator.Consumers.{YieldsList-from_filter, count_from_yields_List, sum_by_from_yields_List, fits_by_from_yields_list}
use Rattle.std.proofs.lemmas.Iterator.Search.{any_from_yields_List}
use Rattle.std.proofs.lemmas.Iterator.{YieldsList, YieldsList-from_range, YieldsList-from_map, first_from_Range}
use Rattle.std.proofs.lemmas.List.FromFn.{map-range_with_len_more}
use Rattle.std.proofs.lemmas.List.Recursion.{or_push}
use Rattle.std.proofs.lemmas.List.Sums.{length-filter, sum_by_push}
use Rattle.std.proofs.lemmas.List.{map-id}
use denote.Param.Members.{Mut}
use denote.Ref.{Bor}
use Rattle.blocks.specs.Members.{tally}
use Rattle.listing.specs.Scans.{Each, any, summed}
use Rattle.sheet.specs.Checks.{Decides}

-- one number more, at the end
below_more : (n : ℕ) → range_with_len 0 (suc n) ≡ range_with_len 0 n ++ (n ∷ [])
below_more n =
    ap (range_with_len 0) (sym (add-one n)) ∙ sym (map-id (range_with_len 0 (n + 1))) ∙ map-range_with_len_more (λ k. k) 0 n n (zero-add n)
    ∙ ap (λ l. l ++ (n ∷ [])) (map-id (range_with_len 0 n))

sum_below : (n : ℕ) (f : ℕ → ℕ) → sum_by f (range_with_len 0 n) ≡ summed n f
sum_below zero f = refl
sum_below (suc n) f = ap (sum_by f) (below_more n) ∙ sum_by_push f (range_with_len 0 n) n ∙ ap (λ s. s + f n) (sum_below n f)

any_below : (n : ℕ) (test : ℕ → Bool) → list_any test (range_with_len 0 n) ≡ any n test
any_below zero test = refl
any_below (suc n) test = ap (list_any test) (below_more n) ∙ or_push (list_any test) test refl (λ _ _. refl) (range_with_len 0 n) n ∙ ap (λ b. b || test n) (any_below n test)

summed_most : (n most : ℕ) (f : ℕ → ℕ) → ((k : ℕ) → k < n → f k ≤ most) → summed n f ≤ most * n
summed_most zero most f each = omega arith
summed_most (suc n) most f each = omega (arith, summed_most n most f (λ k h. each k (omega arith)), each n (omega arith))

-- a place adds at most one
pub one_most : (b : Bool) → cond b 1 0 ≤ 1
one_most true = omega arith
one_most false = omega arith

pub tally_summed : (n : ℕ) (test : ℕ → Bool) → summed n (λ k. cond (test k) 1 0) ≡ tally n test
unfolding tally
tally_summed zero test = refl
tally_summed (suc n) test = ap (λ s. s + cond (test n) 1 0) (tally_summed n test)

count_below : (n : ℕ) (test : ℕ → Bool) → length (filter test (range_with_len 0 n)) ≡ tally n test
count_below n test = length-filter test (range_with_len 0 n) ∙ sum_below n (λ k. cond (test k) 1 0) ∙ tally_summed n test

numbers_below : {s : Range ℕ} (n : ℕ) → s ≡ record { start = 0; end = n } → YieldsList nat_range_steps (λ k. k) s (range_with_len 0 n)
numbers_below n e = YieldsList-from_range 0 n n e (omega arith)

-- what `count` after `filter` answers
pub counted : {F : Type 0} {g : Mut F (Bor ℕ × Unit {0}) Bool} {f : F} (s : Filter (Range ℕ) F) (r n : ℕ) (test : ℕ → Bool)
    → ((xs : List ℕ) × Drains (filter_steps nat_range_steps g) s xs × (r ≡ length xs)) → filter_source s ≡ record { start = 0; end = n } → filter_callee s ≡ f
    → ((k : ℕ) (b : Bool) (q : F) → CalledAt g f k b q → (q ≡ f) × (b ≡ test k)) → r ≡ tally n test
counted {g = g} s r n test ran source closure calls =
    count_from_yields_List s r ran (YieldsList-from_filter g test (numbers_below n source) closure calls) ∙ count_below n test

-- what `sum` after `map` answers, and that it fits
module _ {F : Type 0} {g : Mut F (ℕ × Unit {0}) ℕ} {f : F} (s : Map (Range ℕ) F) (n : ℕ) (value : ℕ → ℕ) (source : map_source s ≡ record { start = 0; end = n }) (closure : map_callee s ≡ f) (calls : (k x : ℕ) (q : F) → Called g f (k, tt) x q → (q ≡ f) × (x ≡ value k)) where
  values : YieldsList (map_steps nat_range_steps g) (λ x. x) s (map value (range_with_len 0 n))
  values = YieldsList-from_map g value (numbers_below n source) closure calls

  pub totalled : (r : ℕ) → ((xs : List ℕ) × (Unit {0} → Drains (map_steps nat_range_steps g) s xs) × (r ≡ fold (λ a x. a + x) 0 xs)) → r ≡ summed n value
  totalled r ran = sum_by_from_yields_List value (range_with_len 0 n) s r ran values ∙ sum_below n value

  pub total_fits : (most : ℕ) → ((k : ℕ) → k < n → value k ≤ most) → most * n < 2 ^ 64
      → EachRunFrom (map_steps nat_range_steps g) s (λ p. fold (λ a x. a + x) 0 p.items < 2 ^ 64)
  total_fits most each few =
      fits_by_from_yields_list value (range_with_len 0 n) s (2 ^ 64) values (omega (arith, sum_below n value, summed_most n most value each))

-- what `any` answers
pub found_any : {F : Type 0} {g : Mut F (ℕ × Unit {0}) Bool} {f : F} {u : Range ℕ} (r : Bool) (n : ℕ) (test : ℕ → Bool)
    → ((xs : List ℕ) × (o : Option ℕ) × (j : F) × YieldsThen nat_range_steps (record { start = 0; end = n }) xs o u × FoldsTo (λ p x q. Called g p (x, tt) false q) f xs j
    × MatchOption o (r ≡ false) (λ x. (r ≡ true) × ((h : F) × Called g j (x, tt) true h)))
    → ((k : ℕ) (b : Bool) (q : F) → Called g f (k, tt) b q → (q ≡ f) × (b ≡ test k)) → r ≡ any n test
found_any {f = f} {u = u} r n test ran calls = any_from_yields_List test u f r ran (numbers_below n refl) calls ∙ any_below n test

first_is : (r : Option ℕ) (n : ℕ) (Yes : ℕ → Type 0) (P : Type 0) (Q : ℕ → Type 0)
    → MatchOption r ((k : ℕ) → 0 ≤ k → k < n → Yes k → ⊥) (λ i. (0 ≤ i) × (i < n) × Yes i × ((k : ℕ) → 0 ≤ k → k < i → Yes k → ⊥))
    → (Each n (λ k. Yes k → ⊥) → P) → ((i : ℕ) → i < n → Yes i → Each i (λ k. Yes k → ⊥) → Q i) → MatchOption r P Q
first_is None n Yes P Q h none some = none (λ k l. h k (omega arith) l)
first_is (Some i) n Yes P Q h none some = some i h.1 h.2 (λ k l. h.3 k (omega arith) l)

-- what `find` answers, where the closure decides Yes
pub found_first : {F : Type 0} {g : Mut F (Bor ℕ × Unit {0}) Bool} {f : F} (u : Range ℕ) (r : Option ℕ) (n : ℕ) (Yes : ℕ → Type 0) (P : Type 0) (Q : ℕ → Type 0)
    → ((xs : List ℕ) × (j : F) × YieldsThen nat_range_steps (record { start = 0; end = n }) xs r u × FoldsTo (λ p x q. CalledAt g p x false q) f xs j
    × MatchOption r (Unit {0}) (λ x. (h : F) × CalledAt g j x true h))
    → ((k : ℕ) (b : Bool) (q : F) → CalledAt g f k b q → (q ≡ f) × Decides b (Yes k))
    → (Each n (λ k. Yes k → ⊥) → P) → ((i : ℕ) → i < n → Yes i → Each i (λ k. Yes k → ⊥) → Q i) → MatchOption r P Q
found_first {f = f} u r n Yes P Q ran calls =
    first_is r n Yes P Q (first_from_Range (record { start = 0; end = n }) u f r Yes (λ k. Yes k → ⊥) ran (λ k q h. (calls k true q h).1) (λ k q h. calls k false q h))
