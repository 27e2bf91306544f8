-- Two sets share a block exactly if their meet is not zero.
use Rattle.std.proofs.Common.{◌≡◌, ℕ, zero, suc, ◌^◌, ◌<◌, true, not, T, ◌↔◌, eqb, ap, subst, inl, inr, pow-suc, arith}
use lib.Bits.{bit_and}
use lib.Count.{count_trailing_zeros}
use Rattle.std.proofs.lemmas.Bool.{cases_eq, ne_eqb, not-true, eqb-false, eqb-true, eq-eqb}
use Rattle.blocks.specs.Members.{has, Empty, Common, shared}
use Rattle.blocks.proofs.Digits.{has_on, has_none, has_and, and_has}
use Rattle.blocks.proofs.Lowering.{found}

below_power : (n : ℕ) → n < 2 ^ n
below_power zero = omega arith
below_power (suc n) = let h = below_power n in let p = pow-suc 2 n in omega arith

-- a number that is not zero has a digit
pub some_digit : (n : ℕ) → (n ≡ 0 → ⊥) → (b : ℕ) × T (has n b)
some_digit n ne =
    let f = found n n (omega arith) (below_power n) in
    (count_trailing_zeros n n, has_on n (count_trailing_zeros n n) f.held)

pub empty_zero : (n : ℕ) → Empty n → n ≡ 0
empty_zero n h = elim (cases_eq n 0) [ inl e ↦ e | inr ne ↦ (let d = some_digit n ne in absurd (h d.0 d.1)) ]

pub zero_empty : (n : ℕ) → n ≡ 0 → Empty n
zero_empty n e b h = has_none b (subst (λ x. T (has x b)) e h)

pub shared_common : (s t : ℕ) → shared s t ≡ true → Common s t
unfolding shared
shared_common s t e =
    let d = some_digit (bit_and s t) (eqb-false _ _ (not-true _ e)) in
    let p = has_and s t d.0 d.1 in
    record { block = d.0; left = p.0; right = p.1 }

pub common_shared : (s t : ℕ) → Common s t → shared s t ≡ true
unfolding shared
common_shared s t c =
    ap not (ne_eqb (bit_and s t) 0 (λ e. zero_empty (bit_and s t) e c.block (and_has s t c.block c.left c.right)))

-- the two tests decide what they are to tell
pub empty_told : (set : ℕ) → (eqb set 0 ≡ true) ↔ Empty set
empty_told set = (λ e. zero_empty set (eqb-true _ _ e), λ h. eq-eqb _ _ (empty_zero set h))

pub shared_told : (s t : ℕ) → (shared s t ≡ true) ↔ Common s t
shared_told s t = (shared_common s t, common_shared s t)
