use Rattle.std.proofs.Common.{◌≡◌}
use Rattle.distances.proofs.Tables.{RowsRaised}
use Rattle.distances.proofs.table.Table.raise.Given as goal

abbrev pub invariant-loop-x : goal.invariant-loop-x
invariant-loop-x l =
    (l.self.events ≡ l.initial.self.events) × RowsRaised l.initial.self.events l.x l.difference l.initial.self.sums l.self.sums
