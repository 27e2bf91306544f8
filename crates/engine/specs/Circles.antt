-- Lists of differences, walks along them, and circles that rise.
use Rattle.std.specs.Prelude.{◌≡◌, ℕ, ◌<◌, ◌⊎◌, List, [], ◌∷◌, ℤ, pos, negsuc, ◌+ℤ◌, ◌≤ℤ◌}
use Rattle.engine.specs.declared.difference.Difference.{Difference}

-- the difference stands in the list
abbrev pub In : Difference → List Difference → Type 0
In d [] = ⊥
In d (x ∷ xs) = (d ≡ x) ⊎ In d xs

-- the difference is between two of n events
abbrev pub Among : ℕ → Difference → Type 0
Among n d = (d.from < n) × (d.to < n)

-- its k is from -1,000 to 1,000
abbrev pub Small : Difference → Type 0
Small d = (negsuc 999 ≤ℤ d.k) × (d.k ≤ℤ pos 1000)

-- so are all differences of the list
abbrev pub Lawful : ℕ → List Difference → Type 0
Lawful n ds = (d : Difference) → In d ds → Among n d × Small d

-- a walk of no, one or more differences of the list, with its two ends and the sum of their k
pub data Walk (ds : List Difference) : ℕ → ℕ → ℤ → Type 0 where
  stay : {a : ℕ} → Walk ds a a (pos 0)
  step : {b : ℕ} {s : ℤ} (d : Difference) → In d ds → Walk ds d.to b s → Walk ds d.from b (d.k +ℤ s)

-- no circle of the list sums above zero
abbrev pub NoRisingCircle : List Difference → Type 0
NoRisingCircle ds = (a : ℕ) (s : ℤ) → Walk ds a a s → s ≤ℤ pos 0

-- the numbers meet every difference of the list
abbrev pub Meets : (ℕ → ℤ) → List Difference → Type 0
Meets number ds = (d : Difference) → In d ds → (number d.from +ℤ d.k) ≤ℤ number d.to

-- each walk back from the end of a difference to its start, with its k, sums to zero or below
abbrev pub NoRiseThrough : List Difference → Difference → Type 0
NoRiseThrough ds d = (t : ℤ) → Walk ds d.to d.from t → (t +ℤ d.k) ≤ℤ pos 0
