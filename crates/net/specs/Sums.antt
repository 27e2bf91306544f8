-- The sums of the done nodes, while the longest way is looked for.
use Rattle.std.specs.Prelude.{◌≡◌, ℕ, zero, suc, ◌+◌, ◌-◌, ◌*◌, ◌<◌, ◌≤◌, Bool, ◌⊎◌, List, length, ℤ, pos, ◌+ℤ◌, ◌≤ℤ◌, slice_index, slice_index_or}
use Rattle.net.specs.Walks.{NoCircle, Greatest}
use Rattle.net.specs.Visits.{Ready, Passed}

-- 1 for a done node's mark, else 0
abbrev pub tally : ℕ → ℕ
tally mark = 1 - (2 - mark)

-- how many of the first nodes are done
unfoldable pub done_count : ℕ → List ℕ → ℕ
done_count zero marks = 0
done_count (suc n) marks = tally (slice_index marks n) + done_count n marks

-- Each done node has its greatest sum; its ways have fewer arcs than there are done nodes, so the sums stay small.
pub record Summed (arc : ℕ → ℕ → Bool) (weight : ℕ → ℕ → ℤ) (nodes : ℕ) (marks : List ℕ) (sums : List ℤ) : Type 0 where
  pub greatest : (v : ℕ) → v < nodes → slice_index marks v ≡ 2 → Greatest arc weight v (slice_index_or sums v (pos 0))
  pub small : (v : ℕ) → v < nodes → slice_index marks v ≡ 2 → (slice_index_or sums v (pos 0) +ℤ pos 1000) ≤ℤ pos (1000 * done_count nodes marks)

-- What settling the node `at` starts from: it can be visited, or is done.
pub record Open (arc : ℕ → ℕ → Bool) (weight : ℕ → ℕ → ℤ) (nodes : ℕ) (marks : List ℕ) (sums : List ℤ) (at : ℕ) : Type 0 where
  pub room : 96 ≤ length marks
  pub inside : at < nodes
  pub straight : NoCircle arc
  pub stands : Ready arc nodes marks at ⊎ Passed arc nodes marks marks at
  pub summed : Summed arc weight nodes marks sums

-- What settling the node `at` leaves: the node is done, and `sum` is its sum.
pub record Settled (arc : ℕ → ℕ → Bool) (weight : ℕ → ℕ → ℤ) (nodes : ℕ) (before after : List ℕ) (sums : List ℤ) (at : ℕ) (sum : ℤ) : Type 0 where
  pub size : length after ≡ length before
  pub others : (k : ℕ) → nodes ≤ k → slice_index after k ≡ slice_index before k
  pub passed : Passed arc nodes before after at
  pub summed : Summed arc weight nodes after sums
  pub told : sum ≡ slice_index_or sums at (pos 0)
