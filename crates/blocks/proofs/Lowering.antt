-- The lowest set digit of a number is where its trailing zeros end.
use Rattle.std.proofs.Common.{◌≡◌, ℕ, zero, suc, ◌/◌, ◌%◌, ◌^◌, ◌<◌, sym, refl, ap, ◌∙◌, subst, div-one, one-add, arith, shr-shr, shr_lt}
use lib.Count.{count_trailing_zeros, under}
use Rattle.blocks.specs.Members.{Lowest}
use Rattle.blocks.proofs.Digits.{Has, has_on, has_is}

-- digit k + 1 of a number is digit k of its half
pub bit_half : (n k : ℕ) → n / 2 ^ suc k % 2 ≡ n / 2 / 2 ^ k % 2
bit_half n k = ap (λ x. n / 2 ^ x % 2) (sym (one-add k)) ∙ ap (λ x. x % 2) (sym (shr-shr n 1 k))

pub record Found (w n t : ℕ) : Type 0 where
  pub below : t < w
  pub held : Has n t
  pub first : (k : ℕ) → k < t → Has n k → ⊥

pub half_lt : (n w : ℕ) → n < 2 ^ suc w → n / 2 < 2 ^ w
half_lt n w h = shr_lt w 1 (subst (λ x. n < 2 ^ x) (omega arith) h)

pub zero_bit : (n : ℕ) → n / 2 ^ 0 % 2 ≡ n % 2
zero_bit n = ap (λ x. x % 2) (div-one n)

step : (w n d : ℕ) → n % 2 ≡ d → d < 2 → (t : ℕ) → (d ≡ 0 → Found w (n / 2) t) → Found (suc w) n (under d t)
step w n zero e h t rest =
    let f = rest refl in
    record {
      below = omega (arith, f.below);
      held = bit_half n t ∙ f.held;
      first = λ (k : ℕ). lower k;
    }
  where
    lower : (k : ℕ) → k < suc t → Has n k → ⊥
    lower zero l b = omega (arith, zero_bit n)
    lower (suc k) l b = (rest refl).first k (omega arith) (sym (bit_half n k) ∙ b)
step w n (suc zero) e h t rest = record { below = omega arith; held = zero_bit n ∙ e; first = λ k l b. omega arith }
step w n (suc (suc d)) e h t rest = absurd (omega arith)

pub found : (w n : ℕ) → 0 < n → n < 2 ^ w → Found w n (count_trailing_zeros w n)
unfolding count_trailing_zeros
found zero n p h = absurd (omega arith)
found (suc w) n p h =
    step w n (n % 2) refl (omega arith) (count_trailing_zeros w (n / 2)) (λ e. found w (n / 2) (omega arith) (half_lt n w h))

pub lowest : (n : ℕ) → (n ≡ 0 → ⊥) → n < 2 ^ 64 → Lowest n (count_trailing_zeros 64 n)
lowest n p h =
    let f = found 64 n (omega arith) h in
    record {
      below = f.below;
      held = has_on n (count_trailing_zeros 64 n) f.held;
      first = λ k l t. f.first k l (has_is n k t);
    }
