-- A number for each event, raised pass by pass.
use Rattle.std.specs.Prelude.{◌≡◌, ℕ, ◌+◌, ◌*◌, ◌<◌, Bool, true, false, List, [], length, take, ℤ, pos, ◌+ℤ◌, ◌≤ℤ◌, ◌<ℤ◌, Some, None, Option, slice_index_or, slice_set}
use Rattle.engine.specs.Circles.{In, Walk, NoRisingCircle}
use Rattle.engine.specs.Ways.{top}
use Rattle.engine.specs.declared.difference.Difference.{Difference}

abbrev pub number : List ℤ → ℕ → ℤ
number ps y = slice_index_or ps y (pos 0)

-- each number is the greatest sum of the walks that end there
abbrev pub Tops : List Difference → List ℤ → Type 0
Tops ds ps = (y : ℕ) → y < 96 → number ps y ≡ top 96 ds y

-- a place of the list
abbrev pub Place : List Difference → Type 0
Place ds = (i : ℕ) × (i < length ds)

-- so was it before each difference of the list
abbrev pub Before : List Difference → List (List ℤ) → Type 0
Before ds snapshots = (p : Place ds) (y : ℕ) → y < 96 → number (slice_index_or snapshots p.0 []) y ≡ top 96 (take p.0 ds) y

-- one difference was looked at; true where it raised a number
abbrev pub Relaxed : Difference → List ℤ → List ℤ → Bool → Type 0
Relaxed d ps ps' true = (number ps d.to <ℤ (number ps d.from +ℤ d.k)) × (ps' ≡ slice_set ps d.to (number ps d.from +ℤ d.k))
Relaxed d ps ps' false = ((number ps d.from +ℤ d.k) ≤ℤ number ps d.to) × (ps' ≡ ps)

-- none below zero
abbrev pub Floor : List ℤ → Type 0
Floor ps = (y : ℕ) → y < 96 → pos 0 ≤ℤ number ps y

-- none above b
abbrev pub Ceiling : ℕ → List ℤ → Type 0
Ceiling b ps = (y : ℕ) → y < 96 → number ps y ≤ℤ pos b

-- each number is the sum of a walk that ends there
abbrev pub Attained : List Difference → List ℤ → Type 0
Attained ds ps = (y : ℕ) → y < 96 → ((x : ℕ) × Walk ds x y (number ps y))

-- true where some number rose
abbrev pub Changed : List ℤ → List ℤ → Bool → Type 0
Changed old new true = (y : ℕ) × (y < 96) × (number old y <ℤ number new y)
Changed old new false = new ≡ old

-- what a pass over a list of differences makes of the numbers
pub record Passed (done : List Difference) (old new : List ℤ) (changed : Bool) : Type 0 where
  pub sized : length new ≡ 96
  pub up : (y : ℕ) → y < 96 → number old y ≤ℤ number new y
  pub met : (d : Difference) → In d done → (number old d.from +ℤ d.k) ≤ℤ number new d.to
  pub told : Changed old new changed
  pub attained : (ds : List Difference) → ((d : Difference) → In d done → In d ds) → Attained ds old → Attained ds new
  pub ceiling : (b : ℕ) → Ceiling b old → Ceiling (b + 1000 * length done) new

-- the numbers for the list of differences, or none where one of its circles rises
abbrev pub Settled : List Difference → Option (List ℤ) → Type 0
Settled ds None = NoRisingCircle ds → ⊥
Settled ds (Some ps) = NoRisingCircle ds × Tops ds ps
