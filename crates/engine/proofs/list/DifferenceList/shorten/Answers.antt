use Rattle.engine.proofs.Fronts.{lawful_popped}
use Rattle.engine.proofs.list.DifferenceList.shorten.Goals as goal

pub invariant_of-self : goal.invariant_of-self
invariant_of-self c =
    let l = c.args.self.now in
    record { ranged = l.ranged; lawful = lawful_popped l.events l.entries c.pop.new.self c.pop.result c.pop.ensures.popped c.pop.ensures.kept l.lawful }
