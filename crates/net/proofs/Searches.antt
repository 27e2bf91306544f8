-- The steps of the circle search.
use Rattle.std.proofs.Common.{◌≡◌, ℕ, ◌+◌, ◌<◌, ◌≤◌, Bool, true, ◌≢◌, ◌⊎◌, List, length, get_or, set, Some, None, sym, refl, ◌∙◌, subst, inl, inr, arith, below_more}
use Rattle.std.proofs.lemmas.List.{get_or-set_same, get_or-set_other, length-set}
use Rattle.std.proofs.lemmas.Bool.{cases_eq}
use Rattle.net.specs.Walks.{Walk, OnCircle, NoCircle, last, then}
use Rattle.net.specs.Visits.{Done, Grown, Ready, Passed, Visited}
use Rattle.net.proofs.Counts.{unseen, fewer_set, fewer_grown}

-- one arc more at the end
pub walk_on : {arc : ℕ → ℕ → Bool} {a b c : ℕ} → Walk arc a b → arc b c ≡ true → Walk arc a c
walk_on (last h) e = then h (last e)
walk_on (then h w) e = then h (walk_on w e)

-- the first arc of a walk
walk_first : {arc : ℕ → ℕ → Bool} {a c : ℕ} → Walk arc a c → (arc a c ≡ true) ⊎ ((b : ℕ) × (arc a b ≡ true) × Walk arc b c)
walk_first (last h) = inl h
walk_first (then {b = b} h w) = inr (b, h, w)

-- The marks while the successors of `at` below `next` are passed; `before` has `at` on the path.
pub record Going (arc : ℕ → ℕ → Bool) (nodes : ℕ) (before after : List ℕ) (at next : ℕ) : Type 0 where
  pub grown : Grown nodes before after
  pub done : Done arc nodes after
  pub seen : (w : ℕ) → w < next → arc at w ≡ true → get_or after w 0 ≡ 2
  pub size : length after ≡ length before

-- The marks between the visits that the search starts: no node is on the path, and those below `start` are done.
pub record Between (arc : ℕ → ℕ → Bool) (nodes : ℕ) (before after : List ℕ) (start : ℕ) : Type 0 where
  pub size : length after ≡ length before
  pub others : (k : ℕ) → 96 ≤ k → get_or after k 0 ≡ get_or before k 0
  pub kinds : (v : ℕ) → v < nodes → (get_or after v 0 ≡ 0) ⊎ (get_or after v 0 ≡ 2)
  pub done : Done arc nodes after
  pub seen : (w : ℕ) → w < start → get_or after w 0 ≡ 2

module _ (arc : ℕ → ℕ → Bool) (nodes : ℕ) (few : nodes ≤ 96) (inside : (a b : ℕ) → arc a b ≡ true → (a < nodes) × (b < nodes)) where
  -- what a done node reaches is done
  pub reach_done : {m : List ℕ} {v w : ℕ} → Done arc nodes m → get_or m v 0 ≡ 2 → Walk arc v w → get_or m w 0 ≡ 2
  reach_done {m} {v} {w} d e (last h) = d.closed v w (inside v w h).0 e h
  reach_done {m} {v} {w} d e (then {b = b} h k) = reach_done d (d.closed v b (inside v b h).0 e h) k

  module _ (m : List ℕ) (at : ℕ) (ready : Ready arc nodes m at) (first : List ℕ) (put : first ≡ set m at 1) where
    at_set : get_or first at 0 ≡ 1
    at_set = rw put (get_or-set_same m at 1 0 (omega (arith, ready.room, ready.inside)))

    other_set : (v : ℕ) → v ≢ at → get_or first v 0 ≡ get_or m v 0
    other_set v ne = rw put (get_or-set_other m at v 1 0 ne)

    size_set : length first ≡ length m
    size_set = rw put (length-set m at 1)

    pub going_first : Going arc nodes first first at 0
    going_first =
        let back : (v : ℕ) → get_or first v 0 ≡ 2 → get_or m v 0 ≡ 2 =
        λ v e. elim (cases_eq v at) [ inl s ↦ absurd (let z : get_or first v 0 ≡ 1 = rw s at_set in omega arith) | inr ne ↦ sym (other_set v ne) ∙ e ] in
        let forth : (v : ℕ) → get_or m v 0 ≡ 2 → get_or first v 0 ≡ 2 =
        λ v e. elim (cases_eq v at) [ inl s ↦ absurd (let z : get_or m v 0 ≡ 0 = rw s ready.unseen in omega arith) | inr ne ↦ other_set v ne ∙ e ] in
        record {
          grown = λ v. inl refl;
          done = record {
            closed = λ v w l e h. forth w (ready.done.closed v w l (back v e) h);
            free = λ v l e c. ready.done.free v l (back v e) c;
          };
          seen = λ w l h. absurd (omega arith);
          size = refl;
        }

    module _ (m' : List ℕ) (next : ℕ) (going : Going arc nodes first m' at next) where
      -- a node on the path is `at`, or was on the path before
      on_path : (v : ℕ) → get_or m' v 0 ≡ 1 → (v ≡ at) ⊎ (get_or m v 0 ≡ 1)
      on_path v e = elim (cases_eq v at) [
        | inl s ↦ inl s
        | inr ne ↦ inr (elim (going.grown v) [ inl s ↦ sym (other_set v ne) ∙ sym s ∙ e | inr s ↦ absurd (omega arith) ])
      ]

      pub own_path : get_or m' at 0 ≡ 1
      own_path = elim (going.grown at) [ inl s ↦ s ∙ at_set | inr s ↦ absurd (let z = at_set in omega arith) ]

      pub others_kept : (k : ℕ) → nodes ≤ k → get_or m' k 0 ≡ get_or m k 0
      others_kept k l =
          let ne : k ≢ at = λ e. let i = ready.inside in omega arith in
          elim (going.grown k) [ inl s ↦ s ∙ other_set k ne | inr s ↦ absurd (omega arith) ]

      pub kinds_kept : (v : ℕ) → v < nodes → get_or m' v 0 ≤ 2
      kinds_kept v l = elim (going.grown v) [
        | inl s ↦ elim (cases_eq v at) [
          | inl t ↦ (let z : get_or first v 0 ≡ 1 = rw t at_set in omega arith)
          | inr ne ↦ (let z = other_set v ne in let y = ready.kinds v l in omega arith)
        ]
        | inr s ↦ omega arith
      ]

      pub fewer_unseen : unseen m' < unseen m
      fewer_unseen =
          let a : unseen first < unseen m = rw put (fewer_set m at (omega (arith, ready.room, ready.inside)) ready.unseen) in
          let b = fewer_grown first m' going.size (λ v. elim (going.grown v) [ inl s ↦ inl s | inr s ↦ inr (omega arith) ]) in
          omega arith

      -- a walk from a node on the path goes on by an arc from `at`
      path_on : (v to : ℕ) → v < nodes → get_or m' v 0 ≡ 1 → arc at to ≡ true → Walk arc v to
      path_on v to l e h = elim (on_path v e) [
        | inl s ↦ (let P : ℕ → Type 0 = λ x. Walk arc x to in subst P (sym s) (last h))
        | inr s ↦ walk_on (ready.path v l s) h
      ]

      pub circle_met : arc at next ≡ true → get_or m' next 0 ≡ 1 → OnCircle arc next
      circle_met h e = path_on next next (inside at next h).1 e h

      pub ready_next : arc at next ≡ true → get_or m' next 0 ≡ 0 → Ready arc nodes m' next
      ready_next h e = record {
        room = (let s = going.size in let z = size_set in let r = ready.room in omega arith);
        inside = (inside at next h).1;
        unseen = e;
        kinds = kinds_kept;
        path = λ v l p. path_on v next l p h;
        done = going.done;
      }

      pub going_past : (arc at next ≡ true → get_or m' next 0 ≡ 2) → Going arc nodes first m' at (next + 1)
      going_past h = record {
        grown = going.grown;
        done = going.done;
        seen = below_more (λ w. arc at w ≡ true → get_or m' w 0 ≡ 2) next going.seen h;
        size = going.size;
      }

      pub going_after : (m'' : List ℕ) → length m'' ≡ length m' → Passed arc nodes m' m'' next → Going arc nodes first m'' at (next + 1)
      going_after m'' n p = record {
        grown = λ v. elim (p.grown v) [
          | inl s ↦ elim (going.grown v) [ inl t ↦ inl (s ∙ t) | inr t ↦ inr (t.0, t.1, s ∙ t.2) ]
          | inr s ↦ elim (going.grown v) [ inl t ↦ inr (s.0, sym t ∙ s.1, s.2) | inr t ↦ absurd (omega arith) ]
        ];
        done = p.done;
        seen = below_more (λ w. arc at w ≡ true → get_or m'' w 0 ≡ 2) next
            (λ w l h. elim (p.grown w) [ inl s ↦ s ∙ going.seen w l h | inr s ↦ s.2 ]) (λ _. p.own);
        size = n ∙ going.size;
      }

      pub going_room : 96 ≤ length m'
      going_room = let s = going.size in let z = size_set in let r = ready.room in omega arith

      -- the visit ends at a circle that it meets itself, or that a visit of `next` meets
      pub visited_here : (v : ℕ) → OnCircle arc v → Visited arc nodes m m' at (Some v)
      visited_here v c = record { size = going.size ∙ size_set; others = others_kept; answer = c }

      pub visited_on : (m'' : List ℕ) (v : ℕ) → Visited arc nodes m' m'' next (Some v) → Visited arc nodes m m'' at (Some v)
      visited_on m'' v r = record {
        size = r.size ∙ going.size ∙ size_set;
        others = λ k l. r.others k l ∙ others_kept k l;
        answer = r.answer;
      }

    module _ (m' : List ℕ) (going : Going arc nodes first m' at nodes) where
      pub passed_all : Passed arc nodes m (set m' at 2) at
      passed_all =
          let own : get_or m' at 0 ≡ 1 = own_path m' nodes going in
          let within : at < length m' = (let s = going.size in let z = size_set in let r = ready.room in let i = ready.inside in omega arith) in
          let here : get_or (set m' at 2) at 0 ≡ 2 = get_or-set_same m' at 2 0 within in
          let there : (v : ℕ) → v ≢ at → get_or (set m' at 2) v 0 ≡ get_or m' v 0 = λ v ne. get_or-set_other m' at v 2 0 ne in
          let two : (v : ℕ) → get_or m' v 0 ≡ 2 → get_or (set m' at 2) v 0 ≡ 2 =
          λ v e. elim (cases_eq v at) [ inl s ↦ rw s here | inr ne ↦ there v ne ∙ e ] in
          let no_way : (w : ℕ) → arc at w ≡ true → Walk arc w at → ⊥ =
          λ w h k. (let z : get_or m' at 0 ≡ 2 = reach_done going.done (going.seen w (inside at w h).1 h) k in omega arith) in
          let alone : OnCircle arc at → ⊥ = λ c. elim (walk_first c) [
            | inl h ↦ (let z : get_or m' at 0 ≡ 2 = going.seen at ready.inside h in omega arith)
            | inr p ↦ no_way p.0 p.1 p.2
          ] in
          record {
            grown = λ v. elim (cases_eq v at) [
              | inl s ↦ inr (rw s ready.inside, rw s ready.unseen, rw s here)
              | inr ne ↦ elim (going.grown v) [
                | inl t ↦ inl (there v ne ∙ t ∙ other_set v ne)
                | inr t ↦ inr (t.0, sym (other_set v ne) ∙ t.1, there v ne ∙ t.2)
              ]
            ];
            done = record {
              closed = λ v w l e h. elim (cases_eq v at) [
                | inl s ↦ two w (going.seen w (inside v w h).1 (rw s at h))
                | inr ne ↦ two w (going.done.closed v w l (sym (there v ne) ∙ e) h)
              ];
              free = λ v l e c. elim (cases_eq v at) [
                | inl s ↦ alone (rw s at c)
                | inr ne ↦ going.done.free v l (sym (there v ne) ∙ e) c
              ];
            };
            own = here;
          }

      pub visited_all : (m'' : List ℕ) → m'' ≡ set m' at 2 → Visited arc nodes m m'' at None
      visited_all m'' e = rw e (record {
        size = length-set m' at 2 ∙ going.size ∙ size_set;
        others = λ k l. (let ne : k ≢ at = λ s. (let i = ready.inside in omega arith) in get_or-set_other m' at k 2 0 ne ∙ others_kept m' nodes going k l);
        answer = passed_all;
      })

  module _ (m m' : List ℕ) (room : 96 ≤ length m) (start : ℕ) (between : Between arc nodes m m' start) where
    pub ready_start : start < nodes → get_or m' start 0 ≡ 0 → Ready arc nodes m' start
    ready_start l e = record {
      room = (let s = between.size in omega arith);
      inside = l;
      unseen = e;
      kinds = λ v l. elim (between.kinds v l) [ inl s ↦ omega arith | inr s ↦ omega arith ];
      path = λ v l p. absurd (elim (between.kinds v l) [ inl s ↦ omega arith | inr s ↦ omega arith ]);
      done = between.done;
    }

    -- the start is done already
    pub between_past : start < nodes → (get_or m' start 0 ≡ 0 → ⊥) → Between arc nodes m m' (start + 1)
    between_past l ne = record {
      size = between.size;
      others = between.others;
      kinds = between.kinds;
      done = between.done;
      seen = below_more (λ w. get_or m' w 0 ≡ 2) start between.seen (elim (between.kinds start l) [ inl s ↦ absurd (ne s) | inr s ↦ s ]);
    }

    pub between_after : (m'' : List ℕ) → Visited arc nodes m' m'' start None → Between arc nodes m m'' (start + 1)
    between_after m'' r =
        let p : Passed arc nodes m' m'' start = r.answer in
        record {
          size = r.size ∙ between.size;
          others = λ k l. r.others k (omega arith) ∙ between.others k l;
          kinds = λ v l. elim (p.grown v) [
            | inl s ↦ elim (between.kinds v l) [ inl t ↦ inl (s ∙ t) | inr t ↦ inr (s ∙ t) ]
            | inr s ↦ inr s.2
          ];
          done = p.done;
          seen = below_more (λ w. get_or m'' w 0 ≡ 2) start
              (λ w l. elim (p.grown w) [ inl s ↦ s ∙ between.seen w l | inr s ↦ s.2 ]) p.own;
        }

  walk_from : {a b : ℕ} → Walk arc a b → a < nodes
  walk_from {a} {b} (last h) = (inside a b h).0
  walk_from {a} {b} (then {b = k} h w) = (inside a k h).0

  -- every node is done
  pub no_circle : (m m' : List ℕ) → Between arc nodes m m' nodes → NoCircle arc
  no_circle m m' between v c = let l = walk_from c in between.done.free v l (between.seen v l) c
