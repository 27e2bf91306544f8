use Rattle.std.proofs.Common.{◌∙◌}
use Rattle.distances.proofs.Sums.{held_own, part_bounded, part_more}
use Rattle.distances.proofs.table.Table.rebuild.Goals as goal

pub raise-requires : goal.raise-requires
raise-requires c =
    let t = c.loop-difference in
    let own = held_own c.args.list.now t.self.events _ t.invariant.0 c.held-difference-items.ensures t.difference-index c.loop-difference-test.true in
    record {
      among = own.0;
      small = own.1;
      bounded = part_bounded c.args.list.now t.self.events _ t.invariant.0 c.held-difference-items.ensures t.difference-index t.self.sums t.invariant.1;
    }

pub loop-difference-preserved : goal.loop-difference-preserved
loop-difference-preserved c =
    let t = c.loop-difference in
    let r = c.raise.ensures in
    (r.events ∙ t.invariant.0, part_more c.args.list.now t.self.events _ t.invariant.0 c.held-difference-items.ensures t.difference-index _ t.self.sums _ r.events c.loop-difference-test.true t.invariant.1 r.sums)
