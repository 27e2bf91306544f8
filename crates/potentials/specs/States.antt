-- What the engine's record says.
use Rattle.engine.specs.Lists.{held_in}
use Rattle.engine.specs.States.{State, Sound}
use Rattle.engine.specs.Ways.{topped}
use Rattle.engine.proofs.Tops.{listed_sound}
use Rattle.potentials.specs.declared.potential.PotentialEngine.{PotentialEngine}

abbrev pub state_of : PotentialEngine → State
state_of e = topped e.list.events (held_in e.list)

pub sound_of : (e : PotentialEngine) → Sound (state_of e)
sound_of e = listed_sound e.list e.level
