-- What an engine is, and what its calls answer and leave.
use Rattle.std.specs.Prelude.{◌≡◌, ℕ, ◌<◌, ◌≤◌, List, [], ◌∷◌, ◌++◌, length, ℤ, pos, negsuc, ◌≤ℤ◌, Ok, Err, Result, slice_index_or}
use Rattle.engine.specs.Circles.{Among, Small, Lawful, NoRisingCircle, Meets}
use Rattle.engine.specs.declared.difference.Difference.{Difference}
use Rattle.engine.specs.declared.fault.EngineFault.{EngineFault}
use Rattle.engine.specs.declared.fault.EngineFault.TheVariants.{EventOutOfRange, KOutOfRange, Full, RisingCircle, NoneHeld}

-- the number of events, the held differences with the newest last, and the number of each event
pub record State : Type 0 where
  pub events : ℕ
  pub held : List Difference
  pub number : ℕ → ℤ

-- 1 to 96 events
abbrev pub Ranged : ℕ → Type 0
Ranged n = (1 ≤ n) × (n ≤ 96)

-- a number from -96,000 to 96,000
abbrev pub Near : ℤ → Type 0
Near x = (negsuc 95999 ≤ℤ x) × (x ≤ℤ pos 96000)

-- what every state of an engine keeps
pub record Sound (s : State) : Type 0 where
  pub ranged : Ranged s.events
  pub few : length s.held ≤ 1100
  pub lawful : Lawful s.events s.held
  pub level : NoRisingCircle s.held
  pub near : (y : ℕ) → y < s.events → Near (s.number y)
  pub meets : Meets s.number s.held

-- nothing has changed
pub record Same (s s' : State) : Type 0 where
  pub events : s'.events ≡ s.events
  pub held : s'.held ≡ s.held
  pub number : (y : ℕ) → y < s.events → s'.number y ≡ s.number y

-- wiped to n events, or refused because no engine has n events
abbrev pub Wiped : ℕ → State → State → {U : Type 0} → Result U EngineFault → Type 0
Wiped n s s' (Ok _) = Ranged n × (s'.events ≡ n) × (s'.held ≡ [])
Wiped n s s' (Err f) = (f ≡ EventOutOfRange) × (Ranged n → ⊥) × Same s s'

-- what stops a difference before circles are looked for, at n events with m held; the first reason counts
abbrev pub Barred : Difference → ℕ → ℕ → EngineFault → Type 0
Barred d n m EventOutOfRange = Among n d → ⊥
Barred d n m KOutOfRange = Among n d × (Small d → ⊥)
Barred d n m Full = Among n d × Small d × (1100 ≤ m)
Barred d n m RisingCircle = ⊥
Barred d n m NoneHeld = ⊥

-- nothing of that stops it
abbrev pub Admitted : Difference → ℕ → ℕ → Type 0
Admitted d n m = Among n d × Small d × (m < 1100)

abbrev pub Admission : Difference → ℕ → ℕ → {U : Type 0} → Result U EngineFault → Type 0
Admission d n m (Ok _) = Admitted d n m
Admission d n m (Err f) = Barred d n m f

-- why a difference is not held
abbrev pub Refused : Difference → ℕ → List Difference → EngineFault → Type 0
Refused d n ds EventOutOfRange = Barred d n (length ds) EventOutOfRange
Refused d n ds KOutOfRange = Barred d n (length ds) KOutOfRange
Refused d n ds Full = Barred d n (length ds) Full
Refused d n ds RisingCircle = Admitted d n (length ds) × (NoRisingCircle (ds ++ (d ∷ [])) → ⊥)
Refused d n ds NoneHeld = ⊥

-- held as the newest, and no circle rises
pub record Taken (d : Difference) (s s' : State) : Type 0 where
  pub admitted : Admitted d s.events (length s.held)
  pub level : NoRisingCircle (s.held ++ (d ∷ []))
  pub events : s'.events ≡ s.events
  pub held : s'.held ≡ s.held ++ (d ∷ [])

abbrev pub Added : Difference → State → State → {U : Type 0} → Result U EngineFault → Type 0
Added d s s' (Ok _) = Taken d s s'
Added d s s' (Err f) = Refused d s.events s.held f × Same s s'

-- the newest is gone, or there was none
abbrev pub Dropped : State → State → {U : Type 0} → Result U EngineFault → Type 0
Dropped s s' (Ok _) = (s'.events ≡ s.events) × ((d : Difference) × (s.held ≡ s'.held ++ (d ∷ [])))
Dropped s s' (Err f) = (f ≡ NoneHeld) × (s.held ≡ []) × Same s s'

-- the difference at a place of the list, or there is no such place
abbrev pub Found : ℕ → List Difference → Result Difference EngineFault → Type 0
Found place ds (Ok d) = (place < length ds) × (d ≡ slice_index_or ds place d)
Found place ds (Err f) = (f ≡ NoneHeld) × (length ds ≤ place)

-- the number of the event, in its range, and with the others it meets every held difference
abbrev pub Numbered : ℕ → State → Result ℤ EngineFault → Type 0
Numbered y s (Ok x) = (y < s.events) × (x ≡ s.number y) × Near x × Meets s.number s.held
Numbered y s (Err f) = (f ≡ EventOutOfRange) × (s.events ≤ y)
