-- Walks with the events that they visit.
use Rattle.std.specs.Prelude.{◌≡◌, ℕ, ◌⊎◌, List, [], ◌∷◌, ℤ, pos, ◌+ℤ◌, ◌≤ℤ◌}
use Rattle.engine.specs.Circles.{In}
use Rattle.engine.specs.declared.difference.Difference.{Difference}

-- the event stands in the list
abbrev pub Visited : ℕ → List ℕ → Type 0
Visited x [] = ⊥
Visited x (v ∷ vs) = (x ≡ v) ⊎ Visited x vs

-- no event stands in it twice
abbrev pub Distinct : List ℕ → Type 0
Distinct [] = Unit {0}
Distinct (v ∷ vs) = (Visited v vs → ⊥) × Distinct vs

-- a walk with the events that it visits, its two ends among them
pub data Path (ds : List Difference) : ℕ → ℕ → ℤ → List ℕ → Type 0 where
  end : {a : ℕ} → Path ds a a (pos 0) (a ∷ [])
  on : {b : ℕ} {s : ℤ} {vs : List ℕ} (d : Difference) → In d ds → Path ds d.to b s vs → Path ds d.from b (d.k +ℤ s) (d.from ∷ vs)

-- a path with these ends that visits no event twice and sums to at least s
pub record Short (ds : List Difference) (a b : ℕ) (s : ℤ) : Type 0 where
  pub total : ℤ
  pub seen : List ℕ
  pub path : Path ds a b total seen
  pub apart : Distinct seen
  pub above : s ≤ℤ total
