-- Numbers below a count: a rule for each, the first that breaks it, the lowest that passes a test, and sums.
use Rattle.std.specs.Prelude.{ℕ, zero, suc, ◌+◌, ◌<◌, Bool, false, cond, ◌||◌, nat_lt}

abbrev pub Each : ℕ → (ℕ → Type 0) → Type 0
Each n passes = (i : ℕ) → i < n → passes i

-- the first number that does not pass fails so
pub record First {F : Type 0} (n : ℕ) (passes : ℕ → Type 0) (fails : ℕ → F → Type 0) (f : F) : Type 0 where
  pub at : ℕ
  pub below : at < n
  pub fault : fails at f
  pub earlier : Each at passes

-- the lowest number below n that the test is true of, or n
abbrev pub lowest : ℕ → (ℕ → Bool) → ℕ
lowest zero test = 0
lowest (suc n) test = cond (nat_lt (lowest n test) n) (lowest n test) (cond (test n) n (suc n))

-- the test is true of some number below n
abbrev pub any : ℕ → (ℕ → Bool) → Bool
any zero test = false
any (suc n) test = any n test || test n

-- f 0 + f 1 + .. up to below n
abbrev pub summed : ℕ → (ℕ → ℕ) → ℕ
summed zero f = 0
summed (suc n) f = summed n f + f n
