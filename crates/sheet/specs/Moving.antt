-- The laws of movement nets.
use Rattle.std.specs.Prelude.{◌≡◌, ℕ, ◌+◌, ◌<◌, ◌≤◌, true, cond, ◌&&◌, pos, negsuc, ◌≤ℤ◌, ◌==◌, nat_lt, ◌↔◌, refl}
use Rattle.std.proofs.Common.{sym, ◌∙◌, inl, inr, arith}
use Rattle.std.proofs.Math.Path.{ap}
use Rattle.std.proofs.lemmas.Bool.{and_parts, and_from, ltb-true, lt-ltb, le-ltb, eqb-true, eq-eqb, cases_lt, cond-true, cond-false, cond_both}
use Rattle.std.proofs.lemmas.Int.{ints}
use Rattle.blocks.specs.Members.{lacked}
use Rattle.blocks.proofs.Tallies.{tally_most}
use Rattle.listing.specs.Yards.{Yard}
use Rattle.listing.specs.Shape.{Shaped}
use Rattle.listing.specs.Listings.{yard}
use Rattle.listing.specs.declared.content.Listing.{Listing}
use Rattle.listing.specs.declared.place.Destination.{Destination}
use Rattle.listing.specs.declared.place.Destination.TheVariants.{Place, Out}
use Rattle.listing.proofs.Drawn.{drawn}
use Rattle.sheet.specs.Movement.{event, Leads, arcs, weighs}

pub arcs_leads : (y : Yard) (t a b : ℕ) → arcs y t a b ≡ true → Leads y t a b
unfolding arcs
arcs_leads y t a b e =
    let p = and_parts (nat_lt a y.places && y.owner a == t) (cond (nat_lt b 84) (y.move a (Place b)) (b == 84 + t && y.move a Out)) e in
    let k = and_parts (nat_lt a y.places) (y.owner a == t) p.0 in
    elim (cases_lt b 84) [
      | inl h ↦ record {
        known = ltb-true _ _ k.0;
        own = eqb-true _ _ k.1;
        to = Place b;
        move = sym (cond-true (nat_lt b 84) (y.move a (Place b)) (b == 84 + t && y.move a Out) (lt-ltb _ _ h)) ∙ p.1;
        arrives = refl;
      }
      | inr h ↦
          (let q = and_parts (b == 84 + t) (y.move a Out) (sym (cond-false (nat_lt b 84) (y.move a (Place b)) (b == 84 + t && y.move a Out) (le-ltb _ _ h)) ∙ p.1) in
          record {
            known = ltb-true _ _ k.0;
            own = eqb-true _ _ k.1;
            to = Out;
            move = q.1;
            arrives = sym (eqb-true _ _ q.0);
          })
    ]

module _ (y : Yard) (shaped : Shaped y) where
  pub leads_arcs : (t a b : ℕ) → Leads y t a b → arcs y t a b ≡ true
  unfolding arcs
  leads_arcs t a b l = and_from _ _ (and_from _ _ (lt-ltb _ _ l.known) (eq-eqb _ _ l.own)) (by l.to l.move l.arrives)
    where
      by : (d : Destination) → y.move a d ≡ true → event t d ≡ b → cond (nat_lt b 84) (y.move a (Place b)) (b == 84 + t && y.move a Out) ≡ true
      by (Place q) m e =
          let h : b < 84 = omega (arith, (shaped.moves_stay a q m).0, shaped.places_ranged.1, e) in
          cond-true (nat_lt b 84) _ _ (lt-ltb _ _ h) ∙ ap (λ x. y.move a (Place x)) (sym e) ∙ m
      by Out m e = cond-false (nat_lt b 84) _ _ (le-ltb _ _ (omega (arith, e))) ∙ and_from _ _ (eq-eqb _ _ (sym e)) m

  pub leads_inside : (t a b : ℕ) → Leads y t a b → (a < 96) × (b < 96)
  leads_inside t a b l = (omega (arith, l.known, shaped.places_ranged.1), by l.to l.move l.arrives)
    where
      by : (d : Destination) → y.move a d ≡ true → event t d ≡ b → b < 96
      by (Place q) m e = omega (arith, (shaped.moves_stay a q m).0, shaped.places_ranged.1, e)
      by Out m e = omega (arith, shaped.owners_known a l.known, shaped.trains_ranged.1, l.own, e)

-- the yard of a listing keeps the rules of its parts
pub shaped : (l : Listing) → Shaped (yard l)
shaped l = drawn (yard l) l.shaped

-- so the test of a net tells its moves
pub arcs_told : (l : Listing) (t a b : ℕ) → (arcs (yard l) t a b ≡ true) ↔ Leads (yard l) t a b
arcs_told l t a b = (arcs_leads (yard l) t a b, leads_arcs (yard l) (shaped l) t a b)

pub arcs_inside : (l : Listing) (t a b : ℕ) → arcs (yard l) t a b ≡ true → (a < 96) × (b < 96)
arcs_inside l t a b e = leads_inside (yard l) (shaped l) t a b (arcs_leads (yard l) t a b e)

small : (n : ℕ) → n ≤ 64 → (negsuc 999 ≤ℤ pos n) × (pos n ≤ℤ pos 1000)
small n h = (omega (arith, ints), omega (arith, ints))

pub weighs_limited : (y : Yard) (a b : ℕ) → (negsuc 999 ≤ℤ weighs y a b) × (weighs y a b ≤ℤ pos 1000)
unfolding weighs
weighs_limited y a b =
    cond_both (nat_lt a y.places && nat_lt b y.places) (pos (lacked (y.blocks b) (y.blocks a))) (pos 0) (λ z. (negsuc 999 ≤ℤ z) × (z ≤ℤ pos 1000))
    (λ _. small _ (tally_most 64 _)) (λ _. small 0 (omega arith))
