-- The greatest sums of the walks between every two events, one difference after another.
use Rattle.std.specs.Prelude.{ℕ, zero, suc, cond, List, [], ◌∷◌, ℤ, pos, ◌+ℤ◌, ◌≤ℤ◌, Some, None, Option, ◌==◌, int_lt}
use Rattle.engine.specs.Circles.{Walk}
use Rattle.engine.specs.States.{State}
use Rattle.engine.specs.declared.difference.Difference.{Difference}

-- the sum over two ways with k between them, if there are both
abbrev pub joined : Option ℤ → ℤ → Option ℤ → Option ℤ
joined None k b = None
joined (Some s) k None = None
joined (Some s) k (Some t) = Some ((s +ℤ k) +ℤ t)

abbrev pub greater : Option ℤ → Option ℤ → Option ℤ
greater None b = b
greater (Some s) None = Some s
greater (Some s) (Some t) = Some (cond (int_lt s t) t s)

-- with nothing held only the walk of no differences is there
abbrev pub unheld : ℕ → ℕ → Option ℤ
unheld x y = cond (x == y) (Some (pos 0)) None

-- one difference more
abbrev pub raised : (ℕ → ℕ → Option ℤ) → Difference → ℕ → ℕ → Option ℤ
raised f d x y = greater (f x y) (joined (f x d.from) d.k (f d.to y))

abbrev pub ways_on : (ℕ → ℕ → Option ℤ) → List Difference → ℕ → ℕ → Option ℤ
ways_on f [] = f
ways_on f (d ∷ ds) = ways_on (raised f d) ds

abbrev pub ways : List Difference → ℕ → ℕ → Option ℤ
ways ds = ways_on unheld ds

-- the greatest sum of the walks from x to y, or none where there is no walk
abbrev pub Best : List Difference → ℕ → ℕ → Option ℤ → Type 0
Best ds x y None = (t : ℤ) → Walk ds x y t → ⊥
Best ds x y (Some s) = Walk ds x y s × ((t : ℤ) → Walk ds x y t → t ≤ℤ s)

-- the greater of a number and a way, if there is one
abbrev pub higher : ℤ → Option ℤ → ℤ
higher s None = s
higher s (Some t) = cond (int_lt s t) t s

-- the greatest of 0 and what f says below m
abbrev pub peak : (ℕ → Option ℤ) → ℕ → ℤ
peak f zero = pos 0
peak f (suc m) = higher (peak f m) (f m)

-- the greatest sum of the walks that end in y
unfoldable pub top : ℕ → List Difference → ℕ → ℤ
top n ds y = peak (λ x. ways ds x y) n

-- its law: a walk that ends in y has this sum, and none has a higher one
pub record Greatest (ds : List Difference) (y : ℕ) (s : ℤ) : Type 0 where
  pub start : ℕ
  pub walk : Walk ds start y s
  pub most : (x : ℕ) (t : ℤ) → Walk ds x y t → t ≤ℤ s

-- the state of n events with each at its greatest sum
abbrev pub topped : ℕ → List Difference → State
topped n ds = record { events = n; held = ds; number = top n ds }
