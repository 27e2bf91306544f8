use Rattle.std.proofs.Common.{◌≡◌, take}
use Rattle.engine.specs.Ways.{ways}
use Rattle.distances.specs.Tables.{Tabled}
use Rattle.distances.proofs.table.Table.rebuild.Given as goal

-- the table of the differences so far
abbrev pub invariant-loop-difference : goal.invariant-loop-difference
invariant-loop-difference l =
    (l.self.events ≡ l.list.differences.events) × Tabled l.self.events (ways (take l.difference-index l.difference-items)) l.self.sums
