-- The state of a distance engine, and what it keeps.
use Rattle.std.specs.Prelude.{Bool, true, false, List, [], ◌∷◌, ◌++◌}
use Rattle.engine.specs.Circles.{NoRisingCircle}
use Rattle.engine.specs.Lists.{held_in}
use Rattle.engine.specs.States.{State, Sound}
use Rattle.engine.specs.Ways.{topped}
use Rattle.engine.specs.declared.difference.Difference.{Difference}
use Rattle.engine.proofs.Tops.{listed_sound}
use Rattle.distances.specs.declared.distance.DistanceEngine.{DistanceEngine}

-- its events and held differences, and for each event the greatest sum of the walks that end there
abbrev pub state_of : DistanceEngine → State
state_of e = topped e.list.differences.events (held_in e.list.differences)

-- which keeps all that every engine's state keeps
pub sound_of : (e : DistanceEngine) → Sound (state_of e)
sound_of e = listed_sound e.list.differences e.list.level

-- whether a circle rises once the difference is held
abbrev pub Closing : List Difference → Difference → Bool → Type 0
Closing ds d true = NoRisingCircle (ds ++ (d ∷ [])) → ⊥
Closing ds d false = NoRisingCircle (ds ++ (d ∷ []))
