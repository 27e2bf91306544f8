-- The theorems on differences and engines.
use Rattle.std.proofs.Common.{ℕ, zero, suc, [], ◌∷◌, ℤ, pos, ◌+ℤ◌, ◌≤ℤ◌, sym, refl, subst, inl, inr, arith}
use Rattle.std.proofs.lemmas.Int.{ints}
use Rattle.engine.specs.Circles.{Among, Small, Lawful, Walk, stay, step, Meets}
use Rattle.engine.specs.Ways.{top}
use Rattle.engine.specs.Laws.{PartsHaveNoRisingCircle, OrderDoesNotMatter, NewestClosesNoRisingCircle, NumbersExcludeRisingCircles, LevelExactlyIfNumbersMeet, WalksShorten, up_by_one, back_by_one, back_by_none, own_by_none, own_by_one, Worked}
use Rattle.engine.specs.declared.difference.Difference.{Difference}
use Rattle.engine.proofs.Walking.{walk_part, flat_front, meets_walk}
use Rattle.engine.proofs.Short.{short}
use Rattle.engine.proofs.Greatest.{flat_push, level_from}
use Rattle.engine.proofs.Tops.{top_meets}

pub parts : PartsHaveNoRisingCircle
parts xs ys part flat a s w = flat a s (walk_part part w)

pub order : OrderDoesNotMatter
order xs ys same = (parts ys xs (λ d. (same d).1), parts xs ys (λ d. (same d).0))

pub newest : NewestClosesNoRisingCircle
newest ds d = ((λ flat. (flat_front ds (d ∷ []) flat, level_from ds d flat)), λ h. flat_push ds d h.0 h.1)

pub excluded : NumbersExcludeRisingCircles
excluded number ds meets a s w = let l = meets_walk number meets w in omega (arith, ints)

pub level : LevelExactlyIfNumbersMeet
level n ds ok = ((λ flat. (top n ds, top_meets n ds ok flat)), λ m. excluded m.0 ds m.1)

pub shortens : WalksShorten
shortens ds a b s flat w = short flat w

-- numbers for the lists without a rising circle
steps : ℕ → ℤ
steps zero = pos 0
steps (suc n) = pos 1

met : Meets steps (up_by_one ∷ back_by_one ∷ [])
unfolding steps
met d (inl e) = subst (λ z. (steps z.from +ℤ z.k) ≤ℤ steps z.to) (sym e) (omega (arith, ints))
met d (inr (inl e)) = subst (λ z. (steps z.from +ℤ z.k) ≤ℤ steps z.to) (sym e) (omega (arith, ints))
met d (inr (inr h)) = absurd h

met_alone : Meets (λ _. pos 0) (own_by_none ∷ [])
met_alone d (inl e) = subst (λ z. (pos 0 +ℤ z.k) ≤ℤ pos 0) (sym e) (omega (arith, ints))
met_alone d (inr h) = absurd h

around : Walk (up_by_one ∷ back_by_none ∷ []) 0 0 (pos 1)
around = step up_by_one (inl refl) (step back_by_none (inr (inl refl)) stay)

own : Walk (own_by_one ∷ []) 2 2 (pos 1)
own = step own_by_one (inl refl) stay

abbrev Fine : Difference → Type 0
Fine d = Among 3 d × Small d

fine : Lawful 3 (up_by_one ∷ back_by_one ∷ back_by_none ∷ own_by_none ∷ own_by_one ∷ [])
fine d (inl e) = subst Fine (sym e) ((omega arith, omega arith), (omega (arith, ints), omega (arith, ints)))
fine d (inr (inl e)) = subst Fine (sym e) ((omega arith, omega arith), (omega (arith, ints), omega (arith, ints)))
fine d (inr (inr (inl e))) = subst Fine (sym e) ((omega arith, omega arith), (omega (arith, ints), omega (arith, ints)))
fine d (inr (inr (inr (inl e)))) = subst Fine (sym e) ((omega arith, omega arith), (omega (arith, ints), omega (arith, ints)))
fine d (inr (inr (inr (inr (inl e))))) = subst Fine (sym e) ((omega arith, omega arith), (omega (arith, ints), omega (arith, ints)))
fine d (inr (inr (inr (inr (inr h))))) = absurd h

pub worked : Worked
worked =
    record {
      lawful = fine;
      zero_around = excluded steps (up_by_one ∷ back_by_one ∷ []) met;
      one_around = λ flat. let l = flat 0 (pos 1) around in omega (arith, ints);
      level_with_itself = excluded (λ _. pos 0) (own_by_none ∷ []) met_alone;
      above_itself = λ flat. let l = flat 2 (pos 1) own in omega (arith, ints);
    }
