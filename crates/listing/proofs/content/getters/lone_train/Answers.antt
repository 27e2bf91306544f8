use Rattle.std.proofs.Common.{◌≡◌, ℕ, ◌≢◌, false, eqb, [], ◌∷◌, get_or, length, refl, sym, ap, ◌∙◌, subst, arith}
use Rattle.std.proofs.lemmas.Bool.{and_parts, eqb-true, both_ways}
use Rattle.bounded.specs.Items.{items}
use Rattle.bounded.specs.declared.list.BoundedList.{BoundedList}
use Rattle.listing.specs.Moves.{same_destination, leads}
use Rattle.listing.specs.declared.place.Destination.TheVariants.{Place as To, Out}
use Rattle.listing.specs.declared.place.Place.{Place}
use Rattle.listing.specs.declared.place.Move.{Move}
use Rattle.listing.specs.Listings.{lone}
use Rattle.listing.specs.Scans.{Each, any}
use Rattle.listing.specs.Shape.{Shaped}
use Rattle.listing.specs.Tables.{no_place, no_move, tabled}
use Rattle.listing.specs.Yards.{Same}
use Rattle.listing.proofs.Agreeing.{shaped_same}
use Rattle.listing.proofs.Tabled.{count_items, entry_of}
use Rattle.listing.proofs.content.getters.lone_train.Goals as goal

-- below one is only zero
only : (P : ℕ → Type 0) → P 0 → Each 1 P
only P here i h = let e : 0 ≡ i = omega arith in subst P e here

shaped : (bits : ℕ) → bits ≢ 0 → Shaped (lone bits)
shaped bits some = record {
  trains_ranged = (omega arith, omega arith);
  places_ranged = (omega arith, omega arith);
  owners_known = only _ (omega arith);
  trains_placed = only _ (omega arith);
  sets_filled = only _ some;
  moves_start = λ p d e. let z = eqb-true 0 p (and_parts (eqb 0 p) (same_destination Out d) e).0 in omega arith;
  moves_stay = λ p q e. absurd (both_ways false refl (and_parts (eqb 0 p) (same_destination Out (To q)) e).1);
}

-- the lists of one item each say it
same : (bits : ℕ) (ps : BoundedList Place 84) (ms : BoundedList Move 200) (x : Place)
    → items ps ≡ x ∷ [] → items ms ≡ record { from = 0; to = Out } ∷ [] → x.train ≡ 0 → x.blocks.bits ≡ bits
    → Same (lone bits) (tabled 1 ps.count ps.entries ms.count ms.entries)
same bits ps ms x p m train set =
    let place = entry_of ps 0 no_place (omega (arith, ap length p)) ∙ ap (λ xs. get_or xs 0 no_place) p in
    let move = entry_of ms 0 no_move (omega (arith, ap length m)) ∙ ap (λ xs. get_or xs 0 no_move) m in
    record {
      trains = refl;
      places = sym (count_items ps) ∙ ap length p;
      owner = only _ (ap (λ (p : Place). p.train) place ∙ train);
      blocks = only _ (ap (λ (p : Place). p.blocks.bits) place ∙ set);
      move = λ from to.
          ap (λ n. any n (λ i. leads (get_or ms.entries i no_move) from to)) (sym (count_items ms) ∙ ap length m)
          ∙ ap (λ m. leads m from to) move;
    }

pub invariant_of-result : goal.invariant_of-result
invariant_of-result c = record {
  trains_ranged = (omega arith, omega arith);
  shaped = ∣ shaped_same _ _ (same c.args.bits c.list_of_one-places.result c.list_of_one-moves.result _ c.list_of_one-places.ensures c.list_of_one-moves.ensures refl c.from_bits.ensures) (shaped c.args.bits c.requires) ∣₁;
}

pub returns : goal.returns
returns c = same c.args.bits c.list_of_one-places.result c.list_of_one-moves.result _ c.list_of_one-places.ensures c.list_of_one-moves.ensures refl c.from_bits.ensures
