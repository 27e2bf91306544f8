-- The ones of a number are its members, counted.
use Rattle.std.proofs.Common.{◌≡◌, ℕ, zero, suc, ◌+◌, ◌-◌, ◌/◌, ◌%◌, ◌^◌, ◌<◌, ◌≤◌, Bool, true, false, cond, not, ◌&&◌, eqb, sym, refl, ap, ◌∙◌, ap₂, add-zero, add_assoc, pow-suc, zero-add, arith, pow_pos}
use lib.Bits.{bit_and, and_shr, and_mod, and_lt}
use lib.Count.{ones, ones_step, ones-le}
use Rattle.blocks.specs.Members.{has, tally, lacked}
use Rattle.blocks.proofs.Lowering.{bit_half, half_lt, zero_bit}

pub tally_same : (n : ℕ) (a c : ℕ → Bool) → ((k : ℕ) → k < n → a k ≡ c k) → tally n a ≡ tally n c
unfolding tally
tally_same zero a c h = refl
tally_same (suc n) a c h = ap₂ (λ x t. x + cond t 1 0) (tally_same n a c (λ k l. h k (omega arith))) (h n (omega arith))

bit_most : (t : Bool) → cond t 1 0 ≤ 1
bit_most true = omega arith
bit_most false = omega arith

pub tally_most : (n : ℕ) (test : ℕ → Bool) → tally n test ≤ n
unfolding tally
tally_most zero test = omega arith
tally_most (suc n) test = let h = tally_most n test in let k = bit_most (test n) in omega arith

-- the first number apart
tally_first : (n : ℕ) (test : ℕ → Bool) → tally (suc n) test ≡ cond (test 0) 1 0 + tally n (λ k. test (suc k))
unfolding tally
tally_first zero test = zero-add (cond (test 0) 1 0) ∙ sym (add-zero (cond (test 0) 1 0))
tally_first (suc n) test =
    ap (λ x. x + cond (test (suc n)) 1 0) (tally_first n test)
    ∙ add_assoc (cond (test 0) 1 0) (tally n (λ k. test (suc k))) (cond (test (suc n)) 1 0)

digit_is : (d : ℕ) → d < 2 → cond (eqb d 1) 1 0 ≡ d
digit_is zero h = refl
digit_is (suc zero) h = refl
digit_is (suc (suc d)) h = absurd (omega arith)

pub ones_tally : (w n : ℕ) → n < 2 ^ w → ones n ≡ tally w (has n)
unfolding tally
ones_tally zero n h = let l = ones-le 0 n h in omega arith
ones_tally (suc w) n h =
    ones_step n
    ∙ ap₂ ◌+◌ (sym (ap (λ d. cond (eqb d 1) 1 0) (zero_bit n) ∙ digit_is (n % 2) (omega arith)))
    (ones_tally w (n / 2) (half_lt n w h) ∙ tally_same w (has (n / 2)) (λ k. has n (suc k)) (λ k l. ap (λ d. eqb d 1) (sym (bit_half n k))))
    ∙ sym (tally_first w (has n))

-- the digits of a complement
other_digit : (w a k : ℕ) → a < 2 ^ w → k < w → ((2 ^ w - 1) - a) / 2 ^ k % 2 ≡ 1 - a / 2 ^ k % 2
other_digit zero a k h l = absurd (omega arith)
other_digit (suc w) a zero h l =
    let p = pow-suc 2 w in let q = pow_pos w in
    zero_bit ((2 ^ suc w - 1) - a) ∙ (let e : ((2 ^ suc w - 1) - a) % 2 ≡ 1 - a % 2 = omega arith in e) ∙ ap (λ x. 1 - x) (sym (zero_bit a))
other_digit (suc w) a (suc k) h l =
    let p = pow-suc 2 w in let q = pow_pos w in
    let e : ((2 ^ suc w - 1) - a) / 2 ≡ (2 ^ w - 1) - a / 2 = omega arith in
    bit_half ((2 ^ suc w - 1) - a) k ∙ ap (λ x. x / 2 ^ k % 2) e ∙ other_digit w (a / 2) k (half_lt a w h) (omega arith) ∙ ap (λ x. 1 - x) (sym (bit_half a k))

both_digits : (x y : ℕ) → x < 2 → y < 2 → eqb (bit_and x (1 - y)) 1 ≡ (eqb x 1 && not (eqb y 1))
both_digits zero zero h k = refl
both_digits zero (suc zero) h k = refl
both_digits zero (suc (suc y)) h k = absurd (omega arith)
both_digits (suc zero) zero h k = refl
both_digits (suc zero) (suc zero) h k = refl
both_digits (suc zero) (suc (suc y)) h k = absurd (omega arith)
both_digits (suc (suc x)) y h k = absurd (omega arith)

-- what the masked set counts
pub lacked_ones : (s o : ℕ) → s < 2 ^ 64 → o < 2 ^ 64 → ones (bit_and s ((2 ^ 64 - 1) - o)) ≡ lacked s o
lacked_ones s o hs ho =
    ones_tally 64 _ (and_lt 64 s ((2 ^ 64 - 1) - o) hs (omega arith))
    ∙ tally_same 64 (has (bit_and s ((2 ^ 64 - 1) - o))) (λ b. has s b && not (has o b)) (λ k l.
    ap (λ x. eqb x 1) (ap (λ x. x % 2) (and_shr s ((2 ^ 64 - 1) - o) k) ∙ and_mod (s / 2 ^ k) (((2 ^ 64 - 1) - o) / 2 ^ k) 1 ∙ ap (bit_and (s / 2 ^ k % 2)) (other_digit 64 o k ho l))
    ∙ both_digits (s / 2 ^ k % 2) (o / 2 ^ k % 2) (omega arith) (omega arith))
