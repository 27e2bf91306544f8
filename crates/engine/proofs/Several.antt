-- Several differences added in order, and dropped again.
use Rattle.std.proofs.Common.{◌≡◌, ℕ, ◌+◌, ◌<◌, ◌≤◌, List, [], ◌∷◌, ◌++◌, length, get_or, take, Err, sym, refl, ap, ◌∙◌, subst, inr}
use Rattle.std.proofs.lemmas.List.{append_assoc, take_more, take_all, take_at, get_or_default}
use Rattle.engine.specs.Circles.{In, Among, Small, NoRisingCircle}
use Rattle.engine.specs.States.{State, Sound, Same, Refused, Taken}
use Rattle.engine.specs.Together.{Acceptable, AllTaken, AddedInOrder}
use Rattle.engine.specs.declared.difference.Difference.{Difference}
use Rattle.engine.specs.declared.fault.EngineFault.{EngineFault}

in_end : (xs ys : List Difference) (d : Difference) → In d ys → In d (xs ++ ys)
in_end [] ys d h = h
in_end (x ∷ xs) ys d h = inr (in_end xs ys d h)

-- the first i of the list are held beside what was held before
pub record Reached (more : List Difference) (i : ℕ) (s s' : State) : Type 0 where
  pub events : s'.events ≡ s.events
  pub held : s'.held ≡ s.held ++ take i more

module _ (more : List Difference) (i : ℕ) (s s' : State) (sound : Sound s') (r : Reached more i s s') where
  acceptable : Acceptable s.events s.held (take i more)
  acceptable =
      record {
        lawful = λ d h. subst (λ n. Among n d × Small d) r.events (sound.lawful d (subst (In d) (sym r.held) (in_end s.held (take i more) d h)));
        room = subst (λ z. length z ≤ 1100) r.held sound.few;
        level = subst NoRisingCircle r.held sound.level;
      }

  pub reached_all : length more ≤ i → AllTaken more s s'
  reached_all end =
      let all : take i more ≡ more = take_all i more end in
      record {
        acceptable = subst (Acceptable s.events s.held) all acceptable;
        events = r.events;
        held = r.held ∙ ap (λ z. s.held ++ z) all;
      }

  -- the next one, read at any default
  module _ (low : i < length more) (past : Difference) (s'' : State) where
    there : get_or more i past ≡ get_or more i (get_or more i past)
    there = get_or_default more i past (get_or more i past) low

    pub reached_more : Taken (get_or more i past) s' s'' → Reached more (i + 1) s s''
    reached_more t =
        let grown : (s.held ++ take i more) ++ (get_or more i past ∷ []) ≡ s.held ++ take (i + 1) more =
        append_assoc s.held (take i more) (get_or more i past ∷ []) ∙ ap (λ z. s.held ++ z) (sym (take_more more i past low)) in
        record { events = t.events ∙ r.events; held = t.held ∙ ap (λ z. z ++ (get_or more i past ∷ [])) r.held ∙ grown }

    pub stopped : (f : EngineFault) → Refused (get_or more i past) s'.events s'.held f × Same s' s'' → AddedInOrder more s s'' {U = Unit {0}} (Err f)
    stopped f told =
        let d = get_or more i past in
        let here = subst (λ n. Refused d n (s.held ++ take i more) f) r.events (subst (λ z. Refused d s'.events z f) r.held told.0) in
        let same = told.1 in
        let front : take (length s.held) s''.held ≡ s.held = ap (take (length s.held)) (same.held ∙ r.held) ∙ take_at s.held (take i more) (length s.held) refl in
        (record { place = i; within = low; difference = d; there = there; before = acceptable; refused = here }, same.events ∙ r.events, front)

-- the first count of what was held are held, whatever else is
pub record Shortened (count : ℕ) (s s' : State) : Type 0 where
  pub events : s'.events ≡ s.events
  pub front : take count s'.held ≡ take count s.held
