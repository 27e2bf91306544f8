-- A table of the greatest sums over the walks between every two events.
use Rattle.std.specs.Prelude.{◌≡◌, ℕ, ◌+◌, ◌*◌, ◌/◌, ◌%◌, ◌<◌, ◌≤◌, Bool, true, false, List, ℤ, pos, negsuc, ◌+ℤ◌, ◌≤ℤ◌, Some, None, Option, slice_index_or}
use Rattle.engine.specs.Ways.{joined, greater}

-- a table with n columns to a row has in each place what f says
abbrev pub Tabled : ℕ → (ℕ → ℕ → Option ℤ) → List (Option ℤ) → Type 0
Tabled n f table = (p : ℕ) → p < n * n → slice_index_or table p None ≡ f (p / n) (p % n)

-- what the table says in row x and column y
abbrev pub entry : ℕ → List (Option ℤ) → ℕ → ℕ → Option ℤ
entry n table x y = slice_index_or table (x * n + y) None

-- no sum, or one from -95,000 to 95,000: at most 95 differences of at most 1,000
abbrev pub Bounded : Option ℤ → Type 0
Bounded None = Unit {0}
Bounded (Some s) = (negsuc 94999 ≤ℤ s) × (s ≤ℤ pos 95000)

abbrev pub AllBounded : ℕ → List (Option ℤ) → Type 0
AllBounded n table = (p : ℕ) → p < n * n → Bounded (slice_index_or table p None)

-- a k from -1,000 to 1,000
abbrev pub SmallStep : ℤ → Type 0
SmallStep k = (negsuc 999 ≤ℤ k) × (k ≤ℤ pos 1000)

-- there is a way back, and with k more it rises
abbrev pub Rises : ℤ → Option ℤ → Type 0
Rises k None = ⊥
Rises k (Some s) = pos 1 ≤ℤ (s +ℤ k)

abbrev pub Rising : ℤ → Option ℤ → Bool → Type 0
Rising k way true = Rises k way
Rising k way false = Rises k way → ⊥

-- row x raised, by the way into a difference, its k, and the ways out of it; the other rows are as before
pub record RowRaised (n x : ℕ) (into : Option ℤ) (k : ℤ) (out old new : List (Option ℤ)) : Type 0 where
  pub before : (q : ℕ) → q < x * n → slice_index_or new q None ≡ slice_index_or old q None
  pub here : (y : ℕ) → y < n → entry n new x y ≡ greater (entry n old x y) (joined into k (slice_index_or out y None))
  pub after : (q : ℕ) → x * n + n ≤ q → slice_index_or new q None ≡ slice_index_or old q None
