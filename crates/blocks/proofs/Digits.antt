-- The digits of a meet of sets.
use Rattle.std.proofs.Common.{◌≡◌, ℕ, zero, suc, ◌/◌, ◌%◌, ◌^◌, ◌<◌, ◌≤◌, false, T, eqb, sym, refl, ap, ◌∙◌, subst, ap₂, lt_of_lt_of_le, arith, eqb→eq, pow_mono}
use native.Mathlib.Nat.{zero-div, div-eq_of_lt}
use lib.Bits.{bit_and, and_shr, and_mod}
use Rattle.blocks.specs.Members.{has}

-- digit k of the set is 1
abbrev pub Has : ℕ → ℕ → Type 0
Has set k = set / 2 ^ k % 2 ≡ 1

pub has_on : (n k : ℕ) → Has n k → T (has n k)
has_on n k h = subst (λ x. T (eqb x 1)) (sym h) tt

pub has_is : (n k : ℕ) → T (has n k) → Has n k
has_is n k h = eqb→eq (n / 2 ^ k % 2) 1 h

pub has_none : (k : ℕ) → T (has 0 k) → ⊥
has_none k h = omega (arith, has_is 0 k h, ap (λ x. x % 2) (zero-div (2 ^ k)))

and_bit : (a b k : ℕ) → bit_and a b / 2 ^ k % 2 ≡ bit_and (a / 2 ^ k % 2) (b / 2 ^ k % 2)
and_bit a b k = ap (λ x. x % 2) (and_shr a b k) ∙ and_mod (a / 2 ^ k) (b / 2 ^ k) 1

-- two digits
and_digits : (x y : ℕ) → x < 2 → y < 2 → bit_and x y ≡ 1 → (x ≡ 1) × (y ≡ 1)
and_digits zero y p q e = absurd (omega arith)
and_digits (suc zero) zero p q e = absurd (omega arith)
and_digits (suc zero) (suc zero) p q e = (refl, refl)
and_digits (suc zero) (suc (suc y)) p q e = absurd (omega arith)
and_digits (suc (suc x)) y p q e = absurd (omega arith)

digit : (n k : ℕ) → n / 2 ^ k % 2 < 2
digit n k = omega arith

bits_and : (a b k : ℕ) → Has (bit_and a b) k → Has a k × Has b k
bits_and a b k h = and_digits (a / 2 ^ k % 2) (b / 2 ^ k % 2) (digit a k) (digit b k) (sym (and_bit a b k) ∙ h)

and_bits : (a b k : ℕ) → Has a k → Has b k → Has (bit_and a b) k
and_bits a b k p q = and_bit a b k ∙ ap₂ bit_and p q

pub has_and : (a b k : ℕ) → T (has (bit_and a b) k) → T (has a k) × T (has b k)
has_and a b k h = let p = bits_and a b k (has_is (bit_and a b) k h) in (has_on a k p.0, has_on b k p.1)

pub and_has : (a b k : ℕ) → T (has a k) → T (has b k) → T (has (bit_and a b) k)
and_has a b k p q = has_on (bit_and a b) k (and_bits a b k (has_is a k p) (has_is b k q))

-- no digit stands past the width
pub has_past : (w n k : ℕ) → n < 2 ^ w → w ≤ k → has n k ≡ false
has_past w n k h l =
    let e : n / 2 ^ k ≡ 0 = div-eq_of_lt (lt_of_lt_of_le h (pow_mono l)) in
    ap (λ x. eqb (x % 2) 1) e

-- so of no set of 64 blocks
pub past_none : (set block : ℕ) → set < 2 ^ 64 → 64 ≤ block → has set block ≡ false
past_none set block h l = has_past 64 set block h l
