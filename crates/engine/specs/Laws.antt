-- What holds of differences, walks and engines, whatever is held.
use Rattle.std.specs.Prelude.{◌≡◌, ℕ, ◌<◌, true, ◌↔◌, List, [], ◌∷◌, ◌++◌, length, ℤ, pos, negsuc, is_ok, Result}
use Rattle.engine.specs.Circles.{In, Among, Small, Lawful, Walk, NoRisingCircle, NoRiseThrough, Meets}
use Rattle.engine.specs.Paths.{Short}
use Rattle.engine.specs.States.{State, Added}
use Rattle.engine.specs.declared.difference.Difference.{Difference}
use Rattle.engine.specs.declared.fault.EngineFault.{EngineFault}

-- where no circle rises, none rises among some of the differences
abbrev pub PartsHaveNoRisingCircle : Type 0
PartsHaveNoRisingCircle = (xs ys : List Difference) → ((d : Difference) → In d xs → In d ys) → NoRisingCircle ys → NoRisingCircle xs

-- lists of the same differences, in any order and however often each stands there
abbrev pub SameMembers : List Difference → List Difference → Type 0
SameMembers xs ys = (d : Difference) → In d xs ↔ In d ys

abbrev pub OrderDoesNotMatter : Type 0
OrderDoesNotMatter = (xs ys : List Difference) → SameMembers xs ys → (NoRisingCircle xs ↔ NoRisingCircle ys)

-- with one difference more only the circles through it are new
abbrev pub NewestClosesNoRisingCircle : Type 0
NewestClosesNoRisingCircle = (ds : List Difference) (d : Difference) → (NoRisingCircle (ds ++ (d ∷ [])) ↔ (NoRisingCircle ds × NoRiseThrough ds d))

-- numbers that meet every difference leave no circle that rises
abbrev pub NumbersExcludeRisingCircles : Type 0
NumbersExcludeRisingCircles = (number : ℕ → ℤ) (ds : List Difference) → Meets number ds → NoRisingCircle ds

-- and where none rises there are such numbers
abbrev pub LevelExactlyIfNumbersMeet : Type 0
LevelExactlyIfNumbersMeet = (n : ℕ) (ds : List Difference) → Lawful n ds → (NoRisingCircle ds ↔ ((number : ℕ → ℤ) × Meets number ds))

-- where no circle rises, a walk has one beside it that visits no event twice and sums as high
abbrev pub WalksShorten : Type 0
WalksShorten = (ds : List Difference) (a b : ℕ) (s : ℤ) → NoRisingCircle ds → Walk ds a b s → Short ds a b s

-- what adding answers
abbrev pub Answer : Type 0
Answer = Result (Unit {0}) EngineFault

-- a lawful difference that there is room for is held exactly if no circle rises with it
abbrev pub AcceptsExactlyWithoutRisingCircle : Type 0
AcceptsExactlyWithoutRisingCircle =
    (d : Difference) (s s' : State) (r : Answer) → Added d s s' r → Among s.events d → Small d → length s.held < 1100 → ((is_ok r ≡ true) ↔ NoRisingCircle (s.held ++ (d ∷ [])))

-- the events and the held differences determine what adding answers, in every engine
abbrev pub OneAnswer : Type 0
OneAnswer =
    (d : Difference) (s s' t t' : State) (r q : Answer) → Added d s s' r → Added d t t' q → s.events ≡ t.events → s.held ≡ t.held → r ≡ q

-- ---- small lists between three events

abbrev pub up_by_one : Difference
up_by_one = record { from = 0; to = 1; k = pos 1 }

abbrev pub back_by_one : Difference
back_by_one = record { from = 1; to = 0; k = negsuc 0 }

abbrev pub back_by_none : Difference
back_by_none = record { from = 1; to = 0; k = pos 0 }

abbrev pub own_by_none : Difference
own_by_none = record { from = 2; to = 2; k = pos 0 }

abbrev pub own_by_one : Difference
own_by_one = record { from = 2; to = 2; k = pos 1 }

-- a circle that sums to zero does not rise, one that sums to 1 does, and an event may be level with itself but not above itself
pub record Worked : Type 0 where
  pub lawful : Lawful 3 (up_by_one ∷ back_by_one ∷ back_by_none ∷ own_by_none ∷ own_by_one ∷ [])
  pub zero_around : NoRisingCircle (up_by_one ∷ back_by_one ∷ [])
  pub one_around : NoRisingCircle (up_by_one ∷ back_by_none ∷ []) → ⊥
  pub level_with_itself : NoRisingCircle (own_by_none ∷ [])
  pub above_itself : NoRisingCircle (own_by_one ∷ []) → ⊥
