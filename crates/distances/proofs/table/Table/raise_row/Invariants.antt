use Rattle.std.proofs.Common.{◌≡◌, ℕ, ◌<◌, ◌≤◌, get_or, None}
use Rattle.engine.specs.Ways.{joined, greater}
use Rattle.distances.proofs.table.Table.raise_row.Given as goal

-- the sums so far are raised, the others are as before
abbrev pub invariant-loop-y : goal.invariant-loop-y
invariant-loop-y l = record {
  raised : (q : ℕ) → q < l.y → get_or l.sum-items q None ≡ greater (get_or l.initial.sum-items q None) (joined l.into l.k (get_or l.out q None));
  rest : (q : ℕ) → l.y ≤ q → get_or l.sum-items q None ≡ get_or l.initial.sum-items q None;
}
