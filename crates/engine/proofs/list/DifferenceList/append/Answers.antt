use Rattle.engine.proofs.Fronts.{lawful_pushed}
use Rattle.engine.proofs.list.DifferenceList.append.Goals as goal

pub invariant_of-self : goal.invariant_of-self
invariant_of-self c =
    let l = c.args.self.now in
    record {
      ranged = l.ranged;
      lawful = lawful_pushed l.events l.entries c.push.new.self c.args.difference c.push.result c.push.ensures.pushed c.push.ensures.kept l.lawful c.requires.among c.requires.small;
    }
