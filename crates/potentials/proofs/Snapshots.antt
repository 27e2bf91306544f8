-- The numbers as they were before each held difference came.
use Rattle.std.proofs.Common.{◌≡◌, ℕ, ◌+◌, ◌<◌, ◌≤◌, List, [], ◌∷◌, ◌++◌, length, get_or, take, ℤ, Ok, Err, Result, sym, refl, ap, ◌∙◌, subst, inl, inr, arith}
use Rattle.std.proofs.lemmas.List.{get_or_push, get_or_append_left, take-append-le, take_at, length_push}
use Rattle.std.proofs.lemmas.Bool.{cases_eq}
use Rattle.bounded.specs.Items.{items}
use Rattle.engine.specs.Circles.{NoRisingCircle, Meets}
use Rattle.engine.specs.Lists.{held_in, Popped}
use Rattle.engine.specs.States.{Near}
use Rattle.engine.specs.Ways.{top}
use Rattle.engine.specs.declared.difference.Difference.{Difference}
use Rattle.engine.specs.declared.fault.EngineFault.{EngineFault}
use Rattle.engine.specs.declared.list.DifferenceList.{DifferenceList}
use Rattle.engine.proofs.Tops.{top_wider}
use Rattle.engine.proofs.Walking.{flat_front}
use Rattle.potentials.specs.Numbers.{number, Tops, Before}
use Rattle.potentials.specs.States.{state_of, sound_of}
use Rattle.potentials.specs.declared.potential.PotentialEngine.{PotentialEngine}

-- a list that holds something lets its newest go
pub popped_newest : (l l' : DifferenceList) (r : Result (Unit {0}) EngineFault) → Popped l l' r → 0 < length (held_in l) → (d : Difference) × (held_in l ≡ held_in l' ++ (d ∷ []))
popped_newest l l' (Ok _) popped some = popped.1
popped_newest l l' (Err f) popped some = absurd (omega (arith, ap length popped.1))

-- what an engine keeps of its held differences, its numbers and its snapshots
abbrev pub Kept : List Difference → List ℤ → List (List ℤ) → Type 0
Kept ds ps snapshots =
    record { level : NoRisingCircle ds; told : Tops ds ps; paired : length snapshots ≡ length ds; before : Before ds snapshots }

pub kept : (e : PotentialEngine) → Kept (held_in e.list) e.numbers (items e.snapshots)
kept e = record { level = e.level; told = e.told; paired = e.paired; before = e.before }

pub before_at : (e : PotentialEngine) (i y : ℕ) → i < length (held_in e.list) → y < 96 → number (get_or (items e.snapshots) i []) y ≡ top 96 (take i (held_in e.list)) y
before_at e i y within low = e.before (i, within) y low

module _ (ds ds' : List Difference) (d : Difference) (snapshots snapshots' : List (List ℤ)) (ps : List ℤ) (more : ds' ≡ ds ++ (d ∷ [])) (more_snapshots : snapshots' ≡ snapshots ++ (ps ∷ [])) where
  longer : length ds' ≡ length ds + 1
  longer = ap length more ∙ length_push ds d

  longer_snapshots : length snapshots' ≡ length snapshots + 1
  longer_snapshots = ap length more_snapshots ∙ length_push snapshots ps

  -- at a place of the shorter lists nothing differs
  earlier : (i y : ℕ) → i < length ds → top 96 (take i ds') y ≡ top 96 (take i ds) y
  earlier i y low = let within : i ≤ length ds = omega arith in rw (more, take-append-le)

  earlier_number : (i y : ℕ) → i < length snapshots → number (get_or snapshots' i []) y ≡ number (get_or snapshots i []) y
  earlier_number i y low = rw (more_snapshots, get_or_append_left)

  -- and the newest place is that of d and ps
  newest : (i y : ℕ) → length ds ≡ i → top 96 (take i ds') y ≡ top 96 ds y
  newest i y e = rw (more, take_at)

  newest_number : (i y : ℕ) → length snapshots ≡ i → number (get_or snapshots' i []) y ≡ number ps y
  newest_number i y e = rw (more_snapshots, get_or_push)

  -- one difference more
  pub before_push : Kept ds ps snapshots → Before ds' snapshots'
  before_push old p y low =
      elim (cases_eq p.0 (length ds)) [
        | inl e ↦ newest_number p.0 y (old.paired ∙ sym e) ∙ old.told y low ∙ sym (newest p.0 y (sym e))
        | inr e ↦
            let within : p.0 < length ds = let h : p.0 < length ds' = p.1 in omega (arith, longer) in
            earlier_number p.0 y (omega (arith, old.paired)) ∙ old.before (p.0, within) y low ∙ sym (earlier p.0 y within)
      ]

  -- the newest gone, the numbers are those before it
  pub kept_pop : (ps' : List ℤ) → Kept ds' ps' snapshots' → Kept ds ps snapshots
  kept_pop ps' old =
      let paired : length snapshots ≡ length ds = omega (arith, longer, longer_snapshots, old.paired) in
      record {
        level = flat_front ds (d ∷ []) (subst NoRisingCircle more old.level);
        told = λ y low. sym (newest_number (length ds) y paired) ∙ old.before (length ds, omega (arith, longer)) y low ∙ newest (length ds) y refl;
        paired = paired;
        before = λ p y low.
            let within : p.0 < length ds = p.1 in
            sym (earlier_number p.0 y (omega (arith, paired))) ∙ old.before (p.0, omega (arith, longer)) y low ∙ earlier p.0 y within;
      }

-- an event's number is what the state says
pub number_told : (e : PotentialEngine) (y : ℕ) → y < e.list.events → (number e.numbers y ≡ top e.list.events (held_in e.list) y) × Near (number e.numbers y) × Meets (state_of e).number (state_of e).held
number_told e y low =
    let sound = sound_of e in
    let same : number e.numbers y ≡ top e.list.events (held_in e.list) y = e.told y (omega (arith, sound.ranged.1)) ∙ top_wider e.list.events 96 (held_in e.list) y sound.ranged.1 low sound.lawful e.level in
    (same, subst Near (sym same) (sound.near y low), sound.meets)
