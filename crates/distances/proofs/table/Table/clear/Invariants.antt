use Rattle.std.proofs.Common.{◌≡◌, ℕ, ◌/◌, ◌%◌, ◌<◌, get_or, None}
use Rattle.engine.specs.Ways.{unheld}
use Rattle.distances.proofs.table.Table.clear.Given as goal

-- the places so far have only the walks of no differences
abbrev pub invariant-loop-place : goal.invariant-loop-place
invariant-loop-place l = (q : ℕ) → q < l.place → get_or l.sum-items q None ≡ unheld (q / l.events) (q % l.events)
