use Rattle.std.proofs.Common.{arith}
use Rattle.std.proofs.lemmas.Int.{ints}
use Rattle.distances.proofs.Tables.{into_bounded, rows_more, tabled_from}
use Rattle.distances.proofs.table.Table.raise.Goals as goal

pub raise_row-requires-clause-left : goal.raise_row-requires-clause-left
raise_row-requires-clause-left c =
    let t = c.args.self.now in
    into_bounded t.events _ c.loop-x.x c.args.difference c.sum-into.result t.sums _ c.loop-x.invariant.0 c.loop-x-test.true c.requires.among.0 c.sum-into.ensures c.loop-x.invariant.1 c.requires.bounded

pub loop-x-preserved : goal.loop-x-preserved
loop-x-preserved c =
    let t = c.args.self.now in
    (omega arith, rows_more t.events _ c.loop-x.x c.args.difference c.sum-into.result t.sums _ c.loop-x.invariant.0 c.loop-x-test.true c.requires.among.0 c.sum-into.ensures c.loop-x.invariant.1 _ c.row-out.result c.raise_row.new.self.sums (omega (arith, ints, c.requires.small.0, c.requires.small.1)) c.row-out.ensures c.raise_row.ensures.sums)

pub returns-clause-sums : goal.returns-clause-sums
returns-clause-sums c =
    tabled_from c.args.self.now.events _ _ (λ x y row column. c.loop-x.invariant.1.done x y (omega arith) column)
