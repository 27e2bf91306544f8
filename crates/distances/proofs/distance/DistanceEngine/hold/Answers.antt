use Rattle.std.proofs.Common.{◌∙◌, sym, arith}
use Rattle.distances.proofs.Sums.{table_bounded, table_more}
use Rattle.distances.proofs.distance.DistanceEngine.hold.Goals as goal

pub raise-requires-clause-bounded : goal.raise-requires-clause-bounded
raise-requires-clause-bounded c = table_bounded c.args.self.now

pub invariant_of-self-2 : goal.invariant_of-self-2
invariant_of-self-2 c =
    let e = c.args.self.now in
    let pushed = c.in_ok-push.ensures in
    record {
      sized = c.raise.ensures.events ∙ (e.sized ∙ sym pushed.1);
      told = table_more e c.push.new.self.differences c.args.difference c.raise.new.self.sums (omega arith, omega arith) pushed.1 pushed.2 c.raise.ensures.sums;
    }
