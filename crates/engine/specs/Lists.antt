-- What a difference list holds.
use Rattle.std.specs.Prelude.{◌≡◌, ℕ, List, [], ◌∷◌, ◌++◌, length, Ok, Err, Result}
use Rattle.bounded.specs.Items.{items}
use Rattle.engine.specs.States.{Ranged, Barred, Admitted}
use Rattle.engine.specs.declared.difference.Difference.{Difference}
use Rattle.engine.specs.declared.list.DifferenceList.{DifferenceList}
use Rattle.engine.specs.declared.fault.EngineFault.{EngineFault}
use Rattle.engine.specs.declared.fault.EngineFault.TheVariants.{EventOutOfRange, NoneHeld}

-- the held differences, the newest last
abbrev pub held_in : DifferenceList → List Difference
held_in l = items l.entries

-- wiped to n events, or as before because no engine has n events
abbrev pub ListWiped : ℕ → DifferenceList → DifferenceList → {U : Type 0} → Result U EngineFault → Type 0
ListWiped n l l' (Ok _) = Ranged n × (l'.events ≡ n) × (held_in l' ≡ [])
ListWiped n l l' (Err f) = (f ≡ EventOutOfRange) × (Ranged n → ⊥) × (l' ≡ l)

-- one difference more, or as before because it is barred
abbrev pub Pushed : Difference → DifferenceList → DifferenceList → {U : Type 0} → Result U EngineFault → Type 0
Pushed d l l' (Ok _) = Admitted d l.events (length (held_in l)) × (l'.events ≡ l.events) × (held_in l' ≡ held_in l ++ (d ∷ []))
Pushed d l l' (Err f) = Barred d l.events (length (held_in l)) f × (l' ≡ l)

-- the newest is gone, or the list is as before because there was none
abbrev pub Popped : DifferenceList → DifferenceList → {U : Type 0} → Result U EngineFault → Type 0
Popped l l' (Ok _) = (l'.events ≡ l.events) × ((d : Difference) × (held_in l ≡ held_in l' ++ (d ∷ [])))
Popped l l' (Err f) = (f ≡ NoneHeld) × (held_in l ≡ []) × (l' ≡ l)
