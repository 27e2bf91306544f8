-- The byte behind a mark.
use Rattle.std.proofs.Common.{◌≡◌, ℕ, zero, suc, ◌≤◌, refl, arith}
use Rattle.net.specs.Marks.{mark_of}
use Rattle.net.specs.declared.marks.Mark.TheVariants.{Unseen, OnPath, Done}

pub byte_unseen : (n : ℕ) → Unseen ≡ mark_of n → n ≡ 0
byte_unseen zero e = refl
byte_unseen (suc zero) e = absurd (let z : ◌≡◌ {A = ℕ} 0 1 = cc in omega arith)
byte_unseen (suc (suc n)) e = absurd (let z : ◌≡◌ {A = ℕ} 0 1 = cc in omega arith)

pub byte_on_path : (n : ℕ) → OnPath ≡ mark_of n → n ≡ 1
byte_on_path zero e = absurd (let z : ◌≡◌ {A = ℕ} 0 1 = cc in omega arith)
byte_on_path (suc zero) e = refl
byte_on_path (suc (suc n)) e = absurd (let z : ◌≡◌ {A = ℕ} 0 1 = cc in omega arith)

pub byte_done : (n : ℕ) → Done ≡ mark_of n → 2 ≤ n
byte_done zero e = absurd (let z : ◌≡◌ {A = ℕ} 0 1 = cc in omega arith)
byte_done (suc zero) e = absurd (let z : ◌≡◌ {A = ℕ} 0 1 = cc in omega arith)
byte_done (suc (suc n)) e = omega arith
