-- The starts of the trains, place by place and train by train.
use Rattle.std.proofs.Common.{◌≡◌, ℕ, ◌<◌, ◌≤◌, Bool, true, false, eqb, Some, None, Option, MatchOption, sym, ap, ◌∙◌, arith}
use Rattle.std.specs.Option.{option_eq}
use Rattle.std.proofs.lemmas.Bool.{eqb-true, both_ways, false_from_ne_true}
use Rattle.listing.specs.Scans.{Each, any}
use Rattle.listing.specs.Shape.{OwnersKnown, TrainsPlaced}
use Rattle.listing.specs.Yards.{Yard, start}
use Rattle.listing.proofs.Scanned.{lowest_passes, any_here, any_found}
use Rattle.sheet.specs.Checks.{Decides}
use Rattle.sheet.specs.Conflicts.{conflict}
use Rattle.sheet.specs.Lawful.{StartsApart, SharesStart}

-- the start of a train that has a place is its own
owner_of_start : (y : Yard) (t : ℕ) → start y t < y.places → y.owner (start y t) ≡ t
owner_of_start y t h = eqb-true _ _ (lowest_passes y.places (λ q. eqb (y.owner q) t) h)

-- whether the start that was found of the place's train is the place
pub start_told : (y : Yard) → OwnersKnown y → (p t : ℕ) (o : Option ℕ) (r : Bool) → p < y.places → t ≡ y.owner p
    → MatchOption o (y.trains ≤ t) (λ q. (t < y.trains) × (q < y.places) × (q ≡ start y t)) → r ≡ option_eq eqb o (Some p) → r ≡ eqb (start y (y.owner p)) p
start_told y known p t None r h own found e = absurd (omega (arith, found, own, known p h))
start_told y known p t (Some q) r h own found e = e ∙ ap (λ x. eqb x p) (found.2 ∙ ap (start y) own)

-- a start, and whether it conflicts with a start
pub decide_shared : (y : Yard) (p : ℕ) (r : Bool) → p < y.places → start y (y.owner p) ≡ p → r ≡ any y.trains (λ u. conflict y p (start y u)) → Decides r (SharesStart y p)
decide_shared y p true h s e =
    let w = any_found y.trains (λ u. conflict y p (start y u)) (sym e) in
    record { known = h; starts = s; other = w.0; other_known = w.1; conflicts = w.2 }
decide_shared y p false h s e = λ k.
    both_ways _ (sym e) (any_here y.trains (λ u. conflict y p (start y u)) k.other k.other_known k.conflicts)

pub all_apart : (y : Yard) → TrainsPlaced y → Each y.places (λ p. SharesStart y p → ⊥) → StartsApart y
all_apart y placed none t u ht hu = false_from_ne_true _ (λ e. none (start y t) (placed t ht) (record {
  known = placed t ht;
  starts = ap (start y) (owner_of_start y t (placed t ht));
  other = u;
  other_known = hu;
  conflicts = e;
}))

pub not_shared : (y : Yard) → OwnersKnown y → StartsApart y → (p : ℕ) → SharesStart y p → ⊥
not_shared y known apart p s =
    both_ways _ (apart (y.owner p) s.other (known p s.known) s.other_known)
    (ap (λ q. conflict y q (start y s.other)) s.starts ∙ s.conflicts)
