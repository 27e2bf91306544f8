-- The scan of a list for a difference between two events.
use Rattle.std.proofs.Common.{◌≡◌, ℕ, zero, suc, ◌<◌, ◌≤◌, ◌+◌, Bool, false, ◌||◌, List, [], ◌∷◌, length, get_or, refl, ap, ◌∙◌, add-one, arith, Ok, Err, Result, MatchResult}
use Rattle.std.specs.List.{list_any, range_with_len}
use Rattle.engine.specs.Precedence.{joins, joins_at, precedes}
use Rattle.engine.specs.States.{Found}
use Rattle.engine.specs.declared.fault.EngineFault.{EngineFault}
use Rattle.engine.specs.declared.difference.Difference.{Difference}

any_later : (test : ℕ → Bool) (a n : ℕ) → list_any test (range_with_len (a + 1) n) ≡ list_any (λ p. test (suc p)) (range_with_len a n)
any_later test a zero = refl
any_later test a (suc n) =
    ap (λ z. test z || list_any test (range_with_len (a + 1 + 1) n)) (add-one a) ∙ ap (λ b. test (suc a) || b) (any_later test (a + 1) n)

-- some place of the list leads so exactly if some difference does
pub scanned : (ds : List Difference) (a b : ℕ) → list_any (λ p. joins_at ds p a b) (range_with_len 0 (length ds)) ≡ precedes ds a b
unfolding precedes
scanned [] a b = refl
scanned (d ∷ ds) a b = ap (λ z. joins d a b || z) (any_later (λ p. joins_at (d ∷ ds) p a b) 0 (length ds) ∙ scanned ds a b)

joins_there : (ds : List Difference) (place : ℕ) (d : Difference) (a b : ℕ) → place < length ds → d ≡ get_or ds place d → joins d a b ≡ joins_at ds place a b
joins_there [] place d a b low e = absurd (omega arith)
joins_there (x ∷ ds) zero d a b low e = ap (λ z. joins z a b) e
joins_there (x ∷ ds) (suc place) d a b low e = joins_there ds place d a b (omega arith) e

joins_past : (ds : List Difference) (place a b : ℕ) → length ds ≤ place → false ≡ joins_at ds place a b
joins_past [] place a b past = refl
joins_past (x ∷ ds) zero a b past = absurd (omega arith)
joins_past (x ∷ ds) (suc place) a b past = joins_past ds place a b (omega arith)

-- the answer at a place, from the difference found there
pub joins_found : (ds : List Difference) (place a b : ℕ) (r : Result Difference EngineFault) (q : Bool) → Found place ds r → MatchResult r (λ d. q ≡ joins d a b) (λ _. q ≡ false) → q ≡ joins_at ds place a b
joins_found ds place a b (Ok d) q found same = same ∙ joins_there ds place d a b found.0 found.1
joins_found ds place a b (Err f) q found same = same ∙ joins_past ds place a b found.1
