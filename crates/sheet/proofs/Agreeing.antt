-- Yards that say the same keep the same rules.
use Rattle.std.proofs.Common.{◌≡◌, ℕ, true, ap, ◌∙◌, ap₂, arith}
use Rattle.net.specs.Walks.{Walk, last, then, NoCircle}
use Rattle.listing.proofs.Agreeing.{start_same, same_turned}
use Rattle.listing.specs.Yards.{Yard, start, Same}
use Rattle.sheet.specs.Conflicts.{conflict}
use Rattle.sheet.specs.Lawful.{Lawful, NoCircles, StartsApart, FirstCircle, SharesStart, FirstShared}
use Rattle.sheet.specs.Movement.{arcs}
use Rattle.sheet.specs.Moving.{arcs_leads}
use Rattle.listing.specs.declared.place.Destination.TheVariants.{Place, Out}
use Rattle.sheet.proofs.Conflicting.{conflict_same, pairs_same}

-- yards that say the same have the same arcs
arcs_carried : (y z : Yard) → Same y z → (t a b : ℕ) → arcs y t a b ≡ true → arcs z t a b ≡ true
unfolding arcs
arcs_carried y z s t a b e =
    let known = (arcs_leads y t a b e).known in
    rw (s.places, s.owner a known, s.move a (Place b), s.move a Out) e

module _ (y z : Yard) (s : Same y z) where
  walk_carried : (t : ℕ) {a b : ℕ} → Walk (arcs y t) a b → Walk (arcs z t) a b
  walk_carried t {a} {b} (last e) = last (arcs_carried y z s t a b e)
  walk_carried t {a} (then {b = m} e w) = then (arcs_carried y z s t a m e) (walk_carried t w)

module _ (y z : Yard) (s : Same y z) where
  circle_free : (t : ℕ) → NoCircle (arcs y t) → NoCircle (arcs z t)
  circle_free t free v c = free v (walk_carried z y (same_turned y z s) t c)

  starts_same : (t u : ℕ) → conflict z (start z t) (start z u) ≡ conflict y (start y t) (start y u)
  starts_same t u = ap₂ (conflict z) (start_same y z s t) (start_same y z s u) ∙ conflict_same y z s (start y t) (start y u)

  pub lawful_same : Lawful y → Lawful z
  lawful_same l = record {
    no_circles = λ t h. circle_free t (l.no_circles t (omega (arith, s.trains)));
    starts_apart = λ t u ht hu. starts_same t u ∙ l.starts_apart t u (omega (arith, s.trains)) (omega (arith, s.trains));
    conflicts_few = omega (arith, pairs_same y z s, l.conflicts_few);
  }

  pub no_circles_same : NoCircles y → NoCircles z
  no_circles_same n t h = circle_free t (n t (omega (arith, s.trains)))

  pub starts_apart_same : StartsApart y → StartsApart z
  starts_apart_same n t u ht hu = starts_same t u ∙ n t u (omega (arith, s.trains)) (omega (arith, s.trains))

  pub first_circle_same : (t : ℕ) → FirstCircle y t → FirstCircle z t
  first_circle_same t f = record {
    known = omega (arith, s.trains, f.known);
    circle = (f.circle.0, walk_carried y z s t f.circle.1);
    lower = λ u h. circle_free u (f.lower u h);
  }

shares_carried : (y z : Yard) → Same y z → (p : ℕ) → SharesStart y p → SharesStart z p
shares_carried y z s p k = record {
  known = omega (arith, s.places, k.known);
  starts = ap (start z) (s.owner p k.known) ∙ start_same y z s (y.owner p) ∙ k.starts;
  other = k.other;
  other_known = omega (arith, s.trains, k.other_known);
  conflicts = ap (conflict z p) (start_same y z s k.other) ∙ conflict_same y z s p (start y k.other) ∙ k.conflicts;
}

pub first_shared_same : (y z : Yard) → Same y z → (p : ℕ) → FirstShared y p → FirstShared z p
first_shared_same y z s p f = record {
  here = shares_carried y z s p f.here;
  lower = λ q h k. f.lower q h (shares_carried z y (same_turned y z s) q k);
}
