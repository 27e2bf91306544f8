-- A number as the set of its binary digits.
use Rattle.std.specs.Prelude.{ℕ, zero, suc, ◌+◌, ◌/◌, ◌%◌, ◌^◌, ◌<◌, Bool, cond, not, ◌&&◌, T, ◌==◌, bit_and}

-- block b is in the set
abbrev pub has : ℕ → ℕ → Bool
has set b = (set / 2 ^ b % 2) == 1

-- no block is in the set
abbrev pub Empty : ℕ → Type 0
Empty set = (b : ℕ) → T (has set b) → ⊥

-- b is in the set, and none lower is
pub record Lowest (set b : ℕ) : Type 0 where
  pub below : b < 64
  pub held : T (has set b)
  pub first : (k : ℕ) → k < b → T (has set k) → ⊥

-- a block is in both sets
pub record Common (set other : ℕ) : Type 0 where
  pub block : ℕ
  pub left : T (has set block)
  pub right : T (has other block)

-- the same, as a test; its law is that it decides Common
unfoldable pub shared : ℕ → ℕ → Bool
shared set other = not ((bit_and set other) == 0)

-- how many numbers below n the test is true of
unfoldable pub tally : ℕ → (ℕ → Bool) → ℕ
tally zero test = 0
tally (suc n) test = tally n test + cond (test n) 1 0

-- how many of the 64 blocks are in the set and not in the other
abbrev pub lacked : ℕ → ℕ → ℕ
lacked set other = tally 64 (λ b. has set b && not (has other b))
