use Rattle.std.proofs.Common.{sym, subst}
use Rattle.engine.specs.Circles.{Lawful}
use Rattle.engine.proofs.Fronts.{lawful_wider}
use Rattle.potentials.specs.States.{sound_of}
use Rattle.potentials.proofs.potential.PotentialEngine.level.Goals as goal

pub invariant_of-result-clause-lawful : goal.invariant_of-result-clause-lawful
invariant_of-result-clause-lawful c =
    let sound = sound_of c.args.self.now in
    subst (Lawful 96) (sym c.held.ensures) (lawful_wider _ _ _ sound.ranged.1 sound.lawful)
