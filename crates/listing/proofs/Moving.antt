-- The moves that bytes list are a set of moves that starts at places and stays with each train.
use Rattle.std.proofs.Common.{◌≡◌, ℕ, Bool, true, false, cond, eqb, List, sym, refl, ap, ◌∙◌, inl, inr, arith}
use Rattle.std.proofs.lemmas.Bool.{and_parts, eqb-true, eqb-false, both_ways, cases_lt}
use Rattle.listing.specs.declared.place.Destination.TheVariants.{Place, Out}
use Rattle.listing.specs.Scans.{Each}
use Rattle.listing.specs.Moves.{same_destination}
use Rattle.listing.specs.Bytes.{yard_in, listed, from_of, to_of, destination}
use Rattle.listing.specs.Shape.{MovesStart, MovesStay}
use Rattle.listing.specs.Rules.{Allowed}
use Rattle.listing.proofs.Scanned.{any_found}

-- a byte that leads to a place is its number, and not that for out
leads_to : (n q : ℕ) → same_destination (destination n) (Place q) ≡ true → (n ≡ q) × (n ≡ 255 → ⊥)
leads_to n q e = go (eqb n 255) refl e
  where
    go : (out : Bool) → eqb n 255 ≡ out → same_destination (cond out Out (Place n)) (Place q) ≡ true → (n ≡ q) × (n ≡ 255 → ⊥)
    go true k s = absurd (both_ways false refl s)
    go false k s = (eqb-true n q s, eqb-false n 255 k)

pub moves_start : (b : List ℕ) → Each (listed b) (Allowed b) → MovesStart (yard_in b)
moves_start b allowed p d e =
    let w = any_found _ _ e in
    let at = eqb-true (from_of b w.0) p (and_parts _ _ w.2).0 in
    let k = (allowed w.0 w.1).0 in
    omega arith

pub moves_stay : (b : List ℕ) → Each (listed b) (Allowed b) → MovesStay (yard_in b)
moves_stay b allowed p q e =
    let w = any_found _ _ e in
    let parts = and_parts (eqb (from_of b w.0) p) (same_destination (destination (to_of b w.0)) (Place q)) w.2 in
    let at : from_of b w.0 ≡ p = eqb-true _ _ parts.0 in
    let to = leads_to (to_of b w.0) q parts.1 in
    let a = allowed w.0 w.1 in
    elim (cases_lt (to_of b w.0) (yard_in b).places) [
      | inl near ↦ (let same = to.0 in omega arith, ap (yard_in b).owner (sym at) ∙ a.2 near ∙ ap (yard_in b).owner to.0)
      | inr far ↦ absurd (to.1 (a.1 far))
    ]
