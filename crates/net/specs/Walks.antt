-- Walks and ways in a net, given by its arcs and their weights.
use Rattle.std.specs.Prelude.{◌≡◌, ℕ, Bool, true, ℤ, pos, ◌+ℤ◌, ◌≤ℤ◌}

-- one arc or more lead from a node to a node
pub data Walk (arc : ℕ → ℕ → Bool) : ℕ → ℕ → Type 0 where
  last : {a b : ℕ} → arc a b ≡ true → Walk arc a b
  then : {a b c : ℕ} → arc a b ≡ true → Walk arc b c → Walk arc a c

-- the node lies on a circle
abbrev pub OnCircle : (ℕ → ℕ → Bool) → ℕ → Type 0
OnCircle arc v = Walk arc v v

-- no node lies on a circle
abbrev pub NoCircle : (ℕ → ℕ → Bool) → Type 0
NoCircle arc = (v : ℕ) → OnCircle arc v → ⊥

-- some node lies on a circle
abbrev pub Circular : (ℕ → ℕ → Bool) → Type 0
Circular arc = (v : ℕ) × OnCircle arc v

-- a way of no, one or more arcs from a node, with the sum of their weights
pub data Way (arc : ℕ → ℕ → Bool) (weight : ℕ → ℕ → ℤ) : ℕ → ℤ → Type 0 where
  stay : {a : ℕ} → Way arc weight a (pos 0)
  go : {a b : ℕ} {s : ℤ} → arc a b ≡ true → Way arc weight b s → Way arc weight a (weight a b +ℤ s)

-- the greatest sum over all ways from a node
pub record Greatest (arc : ℕ → ℕ → Bool) (weight : ℕ → ℕ → ℤ) (from : ℕ) (sum : ℤ) : Type 0 where
  pub reached : Way arc weight from sum
  pub highest : (s : ℤ) → Way arc weight from s → s ≤ℤ sum
