-- How many nodes are not seen yet.
use Rattle.std.proofs.Common.{◌≡◌, ℕ, zero, suc, ◌+◌, ◌-◌, ◌<◌, ◌≤◌, ◌⊎◌, List, [], ◌∷◌, length, get_or, set, inl, inr, arith}

-- How many marks are 0.
abbrev pub unseen : List ℕ → ℕ
unseen [] = 0
unseen (x ∷ xs) = (1 - x) + unseen xs

pub fewer_set : (xs : List ℕ) (i : ℕ) → i < length xs → get_or xs i 0 ≡ 0 → unseen (set xs i 1) < unseen xs
fewer_set [] i l e = absurd (omega arith)
fewer_set (x ∷ xs) zero l e = omega arith
fewer_set (x ∷ xs) (suc i) l e = let h = fewer_set xs i (omega arith) e in omega arith

-- each mark stays, or is no more 0
pub fewer_grown : (xs ys : List ℕ) → length ys ≡ length xs → ((v : ℕ) → (get_or ys v 0 ≡ get_or xs v 0) ⊎ (0 < get_or ys v 0)) → unseen ys ≤ unseen xs
fewer_grown [] [] e g = omega arith
fewer_grown [] (y ∷ ys) e g = absurd (omega arith)
fewer_grown (x ∷ xs) [] e g = absurd (omega arith)
fewer_grown (x ∷ xs) (y ∷ ys) e g =
    let h = fewer_grown xs ys (omega arith) (λ v. g (suc v)) in
    elim (g 0) [ inl s ↦ omega arith | inr s ↦ omega arith ]
