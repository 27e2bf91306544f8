-- What says the same keeps the same rules.
use Rattle.std.proofs.Common.{◌≡◌, ℕ, ◌<◌, eqb, sym, ap, ◌∙◌, arith}
use Rattle.listing.specs.declared.place.Destination.TheVariants.{Place}
use Rattle.listing.specs.Yards.{Yard, Same, start}
use Rattle.listing.specs.Scans.{lowest}
use Rattle.listing.specs.Shape.{Shaped, Placed}
use Rattle.listing.proofs.Scanned.{lowest_same}

pub start_same : (y z : Yard) → Same y z → (t : ℕ) → start z t ≡ start y t
start_same y z s t =
    ap (λ n. lowest n (λ p. eqb (z.owner p) t)) s.places
    ∙ lowest_same y.places (λ p. eqb (z.owner p) t) (λ p. eqb (y.owner p) t) (λ p h. ap (λ o. eqb o t) (s.owner p h))

placed_same : (y z : Yard) → Same y z → (t : ℕ) → Placed y t → Placed z t
placed_same y z s t h = let e = start_same y z s t in let n = s.places in omega arith

pub same_turned : (y z : Yard) → Same y z → Same z y
same_turned y z s = let n = s.places in record {
  trains = sym s.trains;
  places = sym s.places;
  owner = λ p h. sym (s.owner p (omega arith));
  blocks = λ p h. sym (s.blocks p (omega arith));
  move = λ p d. sym (s.move p d);
}

pub shaped_same : (y z : Yard) → Same y z → Shaped y → Shaped z
shaped_same y z s l =
    let ts = s.trains in
    let ps = s.places in
    let tr = l.trains_ranged in
    let pr = l.places_ranged in record {
      trains_ranged = (omega arith, omega arith);
      places_ranged = (omega arith, omega arith);
      owners_known = λ p h. let k : p < y.places = omega arith in let o = s.owner p k in let r = l.owners_known p k in omega arith;
      trains_placed = λ t h. placed_same y z s t (l.trains_placed t (omega arith));
      sets_filled = λ p h e. let k : p < y.places = omega arith in l.sets_filled p k (sym (s.blocks p k) ∙ e);
      moves_start = λ p d e. let k = l.moves_start p d (sym (s.move p d) ∙ e) in omega arith;
      moves_stay = λ p q e.
          let was = sym (s.move p (Place q)) ∙ e in
          let from = l.moves_start p (Place q) was in
          let to = l.moves_stay p q was in
          let near = to.0 in
          (omega arith, s.owner p from ∙ to.1 ∙ sym (s.owner q near));
    }
