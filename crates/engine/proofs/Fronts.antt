-- Fronts of lists of differences, and one difference more or less.
use Rattle.std.proofs.Common.{◌≡◌, ℕ, zero, suc, ◌<◌, ◌≤◌, List, [], ◌∷◌, ◌++◌, length, get_or, take, drop, pos, Ok, Err, Some, None, Option, Result, OnOk, OnErr, IfSome, IfNone, sym, refl, subst, inl, inr, arith}
use Rattle.std.proofs.lemmas.List.{take-append-drop}
use Rattle.bounded.specs.Items.{items}
use Rattle.bounded.specs.declared.list.BoundedList.{BoundedList}
use Rattle.bounded.specs.declared.list.Full.{Full}
use Rattle.bounded.proofs.Items.{few_items}
use Rattle.engine.specs.Circles.{In, Among, Small, Lawful}
use Rattle.engine.specs.declared.difference.Difference.{Difference}
use Rattle.engine.specs.Lists.{held_in}
use Rattle.engine.specs.declared.list.DifferenceList.{DifferenceList}
use Rattle.engine.proofs.Walking.{in_longer, in_push}

-- what stands past the end
abbrev pub no_difference : Difference
no_difference = record { from = 0; to = 0; k = pos 0 }

pub lawful_front : (n : ℕ) (xs ys : List Difference) → Lawful n (xs ++ ys) → Lawful n xs
lawful_front n xs ys ok d h = ok d (in_longer xs ys d h)

pub lawful_part : (n i : ℕ) (ds : List Difference) → Lawful n ds → Lawful n (take i ds)
lawful_part n i ds ok = lawful_front n (take i ds) (drop i ds) (subst (Lawful n) (sym (take-append-drop i ds)) ok)

pub lawful_push : (n : ℕ) (ds : List Difference) (d : Difference) → Lawful n ds → Among n d → Small d → Lawful n (ds ++ (d ∷ []))
lawful_push n ds d ok among small e h =
    elim (in_push ds d e h) [ inl i ↦ ok e i | inr i ↦ subst (λ z. Among n z × Small z) (sym i) (among, small) ]

-- a list that was pushed to or popped from keeps its differences lawful
pub lawful_pushed : (n : ℕ) (l l' : BoundedList Difference 1100) (d : Difference) (r : Result (Unit {0}) Full) → OnOk r (items l' ≡ items l ++ (d ∷ [])) → OnErr r (l' ≡ l)
    → Lawful n (items l) → Among n d → Small d → Lawful n (items l')
lawful_pushed n l l' d (Ok _) pushed kept ok among small = subst (Lawful n) (sym pushed) (lawful_push n (items l) d ok among small)
lawful_pushed n l l' d (Err _) pushed kept ok among small = subst (λ x. Lawful n (items x)) (sym kept) ok

pub lawful_popped : (n : ℕ) (l l' : BoundedList Difference 1100) (r : Option Difference) → IfSome r (λ d. items l ≡ items l' ++ (d ∷ [])) → IfNone r (l' ≡ l) → Lawful n (items l) → Lawful n (items l')
lawful_popped n l l' (Some d) popped kept ok = lawful_front n (items l') (d ∷ []) (subst (Lawful n) popped ok)
lawful_popped n l l' None popped kept ok = subst (λ x. Lawful n (items x)) (sym kept) ok

pub in_at : (xs : List Difference) (i : ℕ) (d : Difference) → i < length xs → In (get_or xs i d) xs
in_at [] i d low = absurd (omega arith)
in_at (x ∷ xs) zero d low = inl refl
in_at (x ∷ xs) (suc i) d low = inr (in_at xs i d (omega arith))

-- differences between n events are between more
pub lawful_wider : (n m : ℕ) (ds : List Difference) → n ≤ m → Lawful n ds → Lawful m ds
lawful_wider n m ds le ok d h = let own = ok d h in ((omega (arith, own.0.0), omega (arith, own.0.1)), own.1)

pub few_held : (l : DifferenceList) → length (held_in l) ≤ 1100
few_held l = few_items l.entries
