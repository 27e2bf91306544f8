-- The mark bytes of a walk.
use Rattle.std.specs.Prelude.{◌≡◌, ℕ, zero, suc, ◌<◌, ◌≤◌, List, length, slice_index}
use Rattle.net.specs.declared.marks.Mark.{Mark}
use Rattle.net.specs.declared.marks.Mark.TheVariants.{Unseen, OnPath, Done}

-- the first 96 bytes are zero, and those behind as before
pub record Cleared (before after : List ℕ) : Type 0 where
  pub zeroed : (k : ℕ) → k < 96 → slice_index after k ≡ 0
  pub behind : (k : ℕ) → 96 ≤ k → slice_index after k ≡ slice_index before k
  pub size : length after ≡ length before

-- what a byte says of its node, and the byte that says it
abbrev pub mark_of : ℕ → Mark
mark_of zero = Unseen
mark_of (suc zero) = OnPath
mark_of (suc (suc n)) = Done

abbrev pub byte_of : Mark → ℕ
byte_of Unseen = 0
byte_of OnPath = 1
byte_of Done = 2
