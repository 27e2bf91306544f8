-- The sheet of one train in block 0 with one move, out, is lawful.
use Rattle.std.proofs.Common.{◌≡◌, ℕ, ◌<◌, ◌≤◌, true, false, eqb, refl, subst, arith}
use Rattle.std.proofs.lemmas.Bool.{and_parts, both_ways, false_from_ne_true}
use Rattle.blocks.proofs.Tallies.{tally_most}
use Rattle.net.specs.Walks.{Walk, last, then}
use Rattle.listing.specs.Listings.{fresh}
use Rattle.listing.specs.Yards.{Yard, Same, start}
use Rattle.listing.specs.Moves.{same_destination}
use Rattle.listing.specs.declared.place.Destination.{Destination}
use Rattle.listing.specs.declared.place.Destination.TheVariants.{Place, Out}
use Rattle.sheet.specs.Conflicts.{conflict}
use Rattle.sheet.specs.Lawful.{Lawful}
use Rattle.sheet.specs.Movement.{arcs, event}
use Rattle.sheet.specs.Moving.{arcs_leads}
use Rattle.sheet.proofs.Agreeing.{lawful_same}
use Rattle.sheet.proofs.Conflicting.{conflict_told}

-- its arcs lead from node 0 out
away : (t a : ℕ) (d : Destination) → fresh.move a d ≡ true → 84 ≤ event t d
away t a (Place q) e = absurd (both_ways false refl (and_parts (eqb 0 a) (same_destination Out (Place q)) e).1)
away t a Out e = omega arith

ends_far : (t : ℕ) {a b : ℕ} → Walk (arcs fresh t) a b → (a < 1) × (84 ≤ b)
ends_far t {a} {b} (last e) =
    let l = arcs_leads fresh t a b e in
    (l.known, subst (λ n. 84 ≤ n) l.arrives (away t a l.to l.move))
ends_far t {a} (then {b = m} e w) = ((arcs_leads fresh t a m e).known, (ends_far t w).1)

apart : (p q : ℕ) → conflict fresh p q ≡ false
apart p q = false_from_ne_true _ (λ e. ((conflict_told fresh p q).0 e).others refl)

fresh_lawful : Lawful fresh
fresh_lawful = record {
  no_circles = λ t h v c. (let p = ends_far t c in omega (arith, p.0, p.1));
  starts_apart = λ t u ht hu. apart (start fresh t) (start fresh u);
  conflicts_few = omega (arith, tally_most 0 (λ a. conflict fresh a 0));
}

-- so is each that says the same
pub lawful_as_fresh : (y : Yard) → Same fresh y → ∥ Lawful y ∥₁
lawful_as_fresh y s = ∣ lawful_same fresh y s fresh_lawful ∣₁
