-- What the marks say during a search: 0 not seen, 1 on the current path, 2 done.
use Rattle.std.specs.Prelude.{◌≡◌, ℕ, ◌<◌, ◌≤◌, Bool, true, ◌⊎◌, List, length, Option, MatchOption, slice_index, slice_index_or}
use Rattle.net.specs.Walks.{Walk, OnCircle}

-- Arcs from a done node lead to done nodes, and no done node lies on a circle.
pub record Done (arc : ℕ → ℕ → Bool) (nodes : ℕ) (marks : List ℕ) : Type 0 where
  pub closed : (v w : ℕ) → v < nodes → slice_index marks v ≡ 2 → arc v w ≡ true → slice_index marks w ≡ 2
  pub free : (v : ℕ) → v < nodes → slice_index marks v ≡ 2 → OnCircle arc v → ⊥

-- Some nodes that were not seen are done, and the other marks are as before.
abbrev pub Grown : ℕ → List ℕ → List ℕ → Type 0
Grown nodes before after = (v : ℕ) → (slice_index after v ≡ slice_index before v) ⊎ ((v < nodes) × (slice_index before v ≡ 0) × (slice_index after v ≡ 2))

-- What a visit of the node `at` starts from: each node on the path has a walk to it.
pub record Ready (arc : ℕ → ℕ → Bool) (nodes : ℕ) (marks : List ℕ) (at : ℕ) : Type 0 where
  pub room : 96 ≤ length marks
  pub inside : at < nodes
  pub unseen : slice_index_or marks at 0 ≡ 0
  pub kinds : (v : ℕ) → v < nodes → slice_index marks v ≤ 2
  pub path : (v : ℕ) → v < nodes → slice_index marks v ≡ 1 → Walk arc v at
  pub done : Done arc nodes marks

-- What a visit leaves where it met no circle.
pub record Passed (arc : ℕ → ℕ → Bool) (nodes : ℕ) (before after : List ℕ) (at : ℕ) : Type 0 where
  pub grown : Grown nodes before after
  pub done : Done arc nodes after
  pub own : slice_index_or after at 0 ≡ 2

-- What a visit of the node `at` answers, and the marks that it leaves.
pub record Visited (arc : ℕ → ℕ → Bool) (nodes : ℕ) (before after : List ℕ) (at : ℕ) (found : Option ℕ) : Type 0 where
  pub size : length after ≡ length before
  pub others : (k : ℕ) → nodes ≤ k → slice_index after k ≡ slice_index before k
  pub answer : MatchOption found (Passed arc nodes before after at) (λ v. OnCircle arc v)
