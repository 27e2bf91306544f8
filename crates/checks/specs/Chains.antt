-- A row of nodes, each with an arc to the next, and perhaps one back.
use Rattle.std.specs.Prelude.{◌≡◌, ℕ, ◌+◌, ◌<◌, Bool, true, cond, ◌&&◌, ◌||◌, ℤ, pos, negsuc, ◌≤ℤ◌, ◌==◌, nat_lt}
use Rattle.std.proofs.Common.{arith}
use Rattle.std.proofs.lemmas.Int.{ints}
use Rattle.std.proofs.lemmas.Bool.{and_parts, ltb-true, cond_both}

-- from each node below n to the next, and with `back` from node 2 to node 1
abbrev pub follows : ℕ → Bool → ℕ → ℕ → Bool
follows n back a b = (nat_lt a n && nat_lt b n) && (a + 1 == b || (back && (a == 2 && b == 1)))

pub follows_inside : (n : ℕ) (back : Bool) (a b : ℕ) → follows n back a b ≡ true → (a < n) × (b < n)
follows_inside n back a b e =
    let p = and_parts (nat_lt a n && nat_lt b n) (a + 1 == b || (back && (a == 2 && b == 1))) e in
    let q = and_parts (nat_lt a n) (nat_lt b n) p.0 in
    (ltb-true a n q.0, ltb-true b n q.1)

-- 7 onward, -3 back
abbrev pub heft : ℕ → ℕ → ℤ
heft a b = cond (nat_lt a b) (pos 7) (negsuc 2)

pub heft_limited : (a b : ℕ) → (negsuc 999 ≤ℤ heft a b) × (heft a b ≤ℤ pos 1000)
heft_limited a b =
    cond_both (nat_lt a b) (pos 7) (negsuc 2) (λ z. (negsuc 999 ≤ℤ z) × (z ≤ℤ pos 1000))
    (λ _. (omega (arith, ints), omega (arith, ints))) (λ _. (omega (arith, ints), omega (arith, ints)))
