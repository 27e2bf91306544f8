-- The steps of the search for the longest way.
use Rattle.std.proofs.Common.{◌≡◌, ℕ, zero, suc, ◌+◌, ◌*◌, ◌<◌, ◌≤◌, Bool, true, false, cond, ◌≢◌, List, length, get_or, set, ℤ, pos, negsuc, ◌+ℤ◌, ◌≤ℤ◌, sym, refl, ap, ◌∙◌, inl, inr, arith, below_more}
use lib.Signed.{lt_z}
use Rattle.std.proofs.lemmas.List.{get_or-set_same, get_or-set_other}
use Rattle.std.proofs.lemmas.Int.{ints, clamps}
use Rattle.std.proofs.lemmas.Bool.{cases_eq}
use Rattle.std.specs.Int.{int_max}
use Rattle.net.specs.Walks.{NoCircle, Way, Greatest, stay, go}
use Rattle.net.specs.Marks.{mark_of}
use Rattle.net.specs.declared.marks.Mark.{Mark}
use Rattle.net.specs.declared.marks.Mark.TheVariants as marked
use Rattle.net.specs.Visits.{Grown, Ready}
use Rattle.net.specs.Sums.{tally, done_count, Summed, Open, Settled}
use Rattle.net.proofs.Searches.{Going, kinds_kept, circle_met, ready_next, own_path, passed_all, visited_all}

-- ---- how many nodes are done

pub done_most : (n : ℕ) (m : List ℕ) → done_count n m ≤ n
unfolding done_count
done_most zero m = omega arith
done_most (suc n) m = let h = done_most n m in omega arith

-- each node that was done is done
done_kept : (n : ℕ) (m m' : List ℕ) → ((v : ℕ) → v < n → tally (get_or m v 0) ≤ tally (get_or m' v 0)) → done_count n m ≤ done_count n m'
unfolding done_count
done_kept zero m m' each = omega arith
done_kept (suc n) m m' each =
    let h = done_kept n m m' (λ v l. each v (omega arith)) in
    let here = each n (omega arith) in
    omega arith

-- and one more is
done_more : (n : ℕ) (m m' : List ℕ) (at : ℕ) → at < n → ((v : ℕ) → v < n → tally (get_or m v 0) ≤ tally (get_or m' v 0)) → tally (get_or m at 0) < tally (get_or m' at 0) → done_count n m < done_count n m'
unfolding done_count
done_more zero m m' at l each new = absurd (omega arith)
done_more (suc n) m m' at l each new = elim (cases_eq at n) [
  | inl e ↦ (let h = done_kept n m m' (λ v l. each v (omega arith)) in
      let here : tally (get_or m n 0) < tally (get_or m' n 0) = rw e at new in
      omega arith)
  | inr ne ↦ (let h = done_more n m m' at (omega arith) (λ v l. each v (omega arith)) new in
      let here = each n (omega arith) in
      omega arith)
]

grown_kept : (n nodes : ℕ) (m m' : List ℕ) → Grown nodes m m' → done_count n m ≤ done_count n m'
grown_kept n nodes m m' grown = done_kept n m m' (λ v l. elim (grown v) [ inl s ↦ omega arith | inr s ↦ omega arith ])

-- ---- sums

-- what holds of both holds of the greater
of_greater : (P : ℤ → Type 0) (a b : ℤ) → P a → P b → P (int_max a b)
of_greater P a b pa pb = elim (lt_z b a) as (λ t. P (cond t a b)) [ true ↦ pa | false ↦ pb ]

-- the best sum over the successors of `at` below `next`
pub record Raised (arc : ℕ → ℕ → Bool) (weight : ℕ → ℕ → ℤ) (nodes : ℕ) (marks : List ℕ) (sums : List ℤ) (at next : ℕ) (best : ℤ) : Type 0 where
  pub summed : Summed arc weight nodes marks sums
  pub reached : Way arc weight at best
  pub highest : (w : ℕ) → w < next → arc at w ≡ true → (s : ℤ) → Way arc weight w s → (weight at w +ℤ s) ≤ℤ best
  pub low : pos 0 ≤ℤ best
  pub high : best ≤ℤ pos (1000 * done_count nodes marks)

module _ (arc : ℕ → ℕ → Bool) (weight : ℕ → ℕ → ℤ) (nodes : ℕ) (few : nodes ≤ 96) (inside : (a b : ℕ) → arc a b ≡ true → (a < nodes) × (b < nodes)) (limited : (a b : ℕ) → (negsuc 999 ≤ℤ weight a b) × (weight a b ≤ℤ pos 1000)) where
  -- a node that is not done can be visited
  pub ready_open : (m : List ℕ) (sums : List ℤ) (at : ℕ) → Open arc weight nodes m sums at → (mark : Mark) → mark ≡ mark_of (get_or m at 0) → (mark ≡ marked.Done → ⊥) → Ready arc nodes m at
  ready_open m sums at start mark e none = elim start.stands [ inl ready ↦ ready | inr passed ↦ absurd (none (e ∙ ap mark_of passed.own)) ]

  pub settled_greatest : (m m' : List ℕ) (sums : List ℤ) (at : ℕ) (sum : ℤ) → at < nodes → Settled arc weight nodes m m' sums at sum → Greatest arc weight at sum
  settled_greatest m m' sums at sum l settled = rw settled.told (settled.summed.greatest at l settled.passed.own)

  -- the sum of a settled node is between 0 and 95,000
  pub settled_within : (m m' : List ℕ) (sums : List ℤ) (at : ℕ) (sum : ℤ) → at < nodes → Settled arc weight nodes m m' sums at sum → (pos 0 ≤ℤ sum) × (sum ≤ℤ pos 95000)
  settled_within m m' sums at sum l settled =
      let told = settled.told in
      let own = settled.passed.own in
      let low = (settled_greatest m m' sums at sum l settled).highest (pos 0) stay in
      let high = settled.summed.small at l own in
      let most = done_most nodes m' in
      (omega (arith, ints), omega (arith, ints))

  module _ (m : List ℕ) (at : ℕ) (ready : Ready arc nodes m at) (first : List ℕ) (put : first ≡ set m at 1) where
    pub raised_first : (sums : List ℤ) → Summed arc weight nodes m sums → Raised arc weight nodes first sums at 0 (pos 0)
    raised_first sums summed =
        let here : get_or first at 0 ≡ 1 = rw put (get_or-set_same m at 1 0 (omega (arith, ready.room, ready.inside))) in
        let other : (v : ℕ) → v ≢ at → get_or first v 0 ≡ get_or m v 0 = λ v ne. rw put (get_or-set_other m at v 1 0 ne) in
        let back : (v : ℕ) → get_or first v 0 ≡ 2 → get_or m v 0 ≡ 2 =
        λ v e. elim (cases_eq v at) [ inl s ↦ absurd (let z : get_or first v 0 ≡ 1 = rw s here in omega arith) | inr ne ↦ sym (other v ne) ∙ e ] in
        let more : done_count nodes m ≤ done_count nodes first = done_kept nodes m first
        (λ v l. elim (cases_eq v at) [ inl s ↦ (let z : get_or m v 0 ≡ 0 = rw s ready.unseen in omega arith) | inr ne ↦ (let z = other v ne in omega arith) ]) in
        record {
          summed = record {
            greatest = λ v l e. summed.greatest v l (back v e);
            small = λ v l e. let h = summed.small v l (back v e) in omega (arith, ints);
          };
          reached = stay;
          highest = λ w l. absurd (omega arith);
          low = omega (arith, ints);
          high = omega (arith, ints);
        }

    module _ (m' : List ℕ) (next : ℕ) (going : Going arc nodes first m' at next) (sums : List ℤ) (best : ℤ) (raised : Raised arc weight nodes m' sums at next best) where
      -- no successor is on the path, since the net has no circle
      pub open_next : NoCircle arc → 96 ≤ length m' → arc at next ≡ true → Open arc weight nodes m' sums next
      open_next straight room h =
          let l : next < nodes = (inside at next h).1 in
          let kind = kinds_kept arc nodes few inside m at ready first put m' next going next l in
          record {
            room = room;
            inside = l;
            straight = straight;
            stands = elim (cases_eq (get_or m' next 0) 0) [
              | inl e ↦ inl (ready_next arc nodes few inside m at ready first put m' next going h e)
              | inr ne ↦ elim (cases_eq (get_or m' next 0) 1) [
                | inl e ↦ absurd (straight next (circle_met arc nodes few inside m at ready first put m' next going h e))
                | inr nf ↦ inr (record { grown = λ v. inl refl; done = going.done; own = omega arith })
              ]
            ];
            summed = raised.summed;
          }

      pub raised_past : (arc at next ≡ true → ⊥) → Raised arc weight nodes m' sums at (next + 1) best
      raised_past none = record {
        summed = raised.summed;
        reached = raised.reached;
        highest = below_more (λ w. arc at w ≡ true → (s : ℤ) → Way arc weight w s → (weight at w +ℤ s) ≤ℤ best) next raised.highest (λ h. absurd (none h));
        low = raised.low;
        high = raised.high;
      }

      pub raised_after : (m'' : List ℕ) (sums'' : List ℤ) (sum best'' : ℤ) → arc at next ≡ true → Settled arc weight nodes m' m'' sums'' next sum → best'' ≡ int_max best (weight at next +ℤ sum) → Raised arc weight nodes m'' sums'' at (next + 1) best''
      raised_after m'' sums'' sum best'' h settled is = rw is (
          let l : next < nodes = (inside at next h).1 in
          let own = settled.passed.own in
          let found = settled_greatest m' m'' sums'' next sum l settled in
          let small = settled.summed.small next l own in
          let told = settled.told in
          let more = grown_kept nodes nodes m' m'' settled.passed.grown in
          let top = weight at next +ℤ sum in
          let least : (x : ℤ) → x ≤ℤ best → x ≤ℤ int_max best top = λ x le. omega (arith, ints, clamps) in
          let other : (x : ℤ) → x ≤ℤ top → x ≤ℤ int_max best top = λ x le. omega (arith, ints, clamps) in
          record {
            summed = settled.summed;
            reached = of_greater (Way arc weight at) best top raised.reached (go h found.reached);
            highest = below_more (λ w. arc at w ≡ true → (s : ℤ) → Way arc weight w s → (weight at w +ℤ s) ≤ℤ int_max best top) next
                (λ w k a s way. least _ (raised.highest w k a s way))
                (λ _ s way. other _ (let z = found.highest s way in omega (arith, ints)));
            low = least _ raised.low;
            high = of_greater (λ x. x ≤ℤ pos (1000 * done_count nodes m'')) best top (let z = raised.high in omega (arith, ints)) (let z = (limited at next).1 in omega (arith, ints));
          })

    module _ (m' : List ℕ) (going : Going arc nodes first m' at nodes) (sums : List ℤ) (best : ℤ) (raised : Raised arc weight nodes m' sums at nodes best) where
      best_highest : (s : ℤ) → Way arc weight at s → s ≤ℤ best
      best_highest s stay = raised.low
      best_highest s (go {b = b} {s = t} h way) = raised.highest b (inside at b h).1 h t way

      pub summed_all : length sums ≡ 96 → Summed arc weight nodes (set m' at 2) (set sums at best)
      summed_all long =
          let l : at < nodes = ready.inside in
          let here : get_or (set sums at best) at (pos 0) ≡ best = get_or-set_same sums at best (pos 0) (omega arith) in
          let there : (v : ℕ) → v ≢ at → get_or (set sums at best) v (pos 0) ≡ get_or sums v (pos 0) = λ v ne. get_or-set_other sums at v best (pos 0) ne in
          let kept : (v : ℕ) → v ≢ at → get_or (set m' at 2) v 0 ≡ get_or m' v 0 = λ v ne. get_or-set_other m' at v 2 0 ne in
          let own : get_or m' at 0 ≡ 1 = own_path arc nodes few inside m at ready first put m' nodes going in
          let done : get_or (set m' at 2) at 0 ≡ 2 = (passed_all arc nodes few inside m at ready first put m' going).own in
          let each : (v : ℕ) → v < nodes → tally (get_or m' v 0) ≤ tally (get_or (set m' at 2) v 0) =
          λ v k. elim (cases_eq v at) [
            | inl s ↦ (let z : get_or m' v 0 ≡ 1 = rw s own in omega arith)
            | inr ne ↦ (let z = kept v ne in omega arith)
          ] in
          let more : done_count nodes m' < done_count nodes (set m' at 2) = done_more nodes m' (set m' at 2) at l each (omega arith) in
          record {
            greatest = λ v k e. elim (cases_eq v at) [
              | inl s ↦ rw (s, here) (record { reached = raised.reached; highest = best_highest })
              | inr ne ↦ rw (there v ne) (raised.summed.greatest v k (sym (kept v ne) ∙ e))
            ];
            small = λ v k e. elim (cases_eq v at) [
              | inl s ↦ rw (s, here) (let z = raised.high in omega (arith, ints))
              | inr ne ↦ rw (there v ne) (let z = raised.summed.small v k (sym (kept v ne) ∙ e) in omega (arith, ints))
            ];
          }

      pub settled_all : (m'' : List ℕ) → length sums ≡ 96 → m'' ≡ set m' at 2 → Settled arc weight nodes m m'' (set sums at best) at best
      settled_all m'' long marked = rw marked (let visited = visited_all arc nodes few inside m at ready first put m' going (set m' at 2) refl in record {
        size = visited.size;
        others = visited.others;
        passed = passed_all arc nodes few inside m at ready first put m' going;
        summed = summed_all long;
        told = sym (get_or-set_same sums at best (pos 0) (omega (arith, ready.inside)));
      })
