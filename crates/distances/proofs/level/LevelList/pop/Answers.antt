use Rattle.std.proofs.Common.{◌∷◌, [], Ok, Err, Result, subst, sym}
use Rattle.engine.specs.Circles.{NoRisingCircle}
use Rattle.engine.specs.Lists.{held_in, Popped}
use Rattle.engine.specs.declared.fault.EngineFault.{EngineFault}
use Rattle.engine.specs.declared.list.DifferenceList.{DifferenceList}
use Rattle.engine.proofs.Walking.{flat_front}
use Rattle.distances.proofs.level.LevelList.pop.Goals as goal

-- a front of a list without rising circles is one too
popped_level : {U : Type 0} (l l' : DifferenceList) (r : Result U EngineFault) → NoRisingCircle (held_in l) → Popped l l' r → NoRisingCircle (held_in l')
popped_level l l' (Ok u) flat popped = flat_front (held_in l') (popped.1.0 ∷ []) (subst NoRisingCircle popped.1.1 flat)
popped_level l l' (Err f) flat popped = subst (λ z. NoRisingCircle (held_in z)) (sym popped.2) flat

pub invariant_of-self : goal.invariant_of-self
invariant_of-self c = let e = c.args.self.now in record { level = popped_level e.differences c.pop.new.self c.pop.result e.level c.pop.ensures }
