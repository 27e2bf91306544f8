-- What adding several differences in order answers and leaves.
use Rattle.std.specs.Prelude.{◌≡◌, ℕ, ◌<◌, ◌≤◌, List, ◌++◌, length, take, Ok, Err, Result, slice_index_or}
use Rattle.engine.specs.Circles.{Lawful, NoRisingCircle}
use Rattle.engine.specs.States.{State, Refused}
use Rattle.engine.specs.declared.difference.Difference.{Difference}
use Rattle.engine.specs.declared.fault.EngineFault.{EngineFault}

-- at n events more can be held beside ds: lawful differences with room for all of them, and no circle rises
pub record Acceptable (n : ℕ) (ds more : List Difference) : Type 0 where
  pub lawful : Lawful n more
  pub room : length (ds ++ more) ≤ 1100
  pub level : NoRisingCircle (ds ++ more)

-- held as the newest, in their order
pub record AllTaken (more : List Difference) (s s' : State) : Type 0 where
  pub acceptable : Acceptable s.events s.held more
  pub events : s'.events ≡ s.events
  pub held : s'.held ≡ s.held ++ more

-- the difference at a place of the list is the first refused: those before it can all be held
pub record FirstRefused (more : List Difference) (n : ℕ) (ds : List Difference) (f : EngineFault) : Type 0 where
  pub place : ℕ
  pub within : place < length more
  pub difference : Difference
  pub there : difference ≡ slice_index_or more place difference
  pub before : Acceptable n ds (take place more)
  pub refused : Refused difference n (ds ++ take place more) f

-- All are held, or none is and the first refused says why.
-- Then the events and the held list are as before; of the numbers only what every state keeps is told, since dropping may change them.
abbrev pub AllAdded : List Difference → State → State → {U : Type 0} → Result U EngineFault → Type 0
AllAdded more s s' (Ok _) = AllTaken more s s'
AllAdded more s s' (Err f) = FirstRefused more s.events s.held f × (s'.events ≡ s.events) × (s'.held ≡ s.held)

-- the same, where those before the first refused stay held
abbrev pub AddedInOrder : List Difference → State → State → {U : Type 0} → Result U EngineFault → Type 0
AddedInOrder more s s' (Ok _) = AllTaken more s s'
AddedInOrder more s s' (Err f) = FirstRefused more s.events s.held f × (s'.events ≡ s.events) × (take (length s.held) s'.held ≡ s.held)
