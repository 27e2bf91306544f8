-- Lists that hold what bytes say.
use Rattle.std.proofs.Common.{◌≡◌, ℕ, ◌<◌, ◌&&◌, eqb, length, List, get_or, sym, ap, ◌∙◌, ap₂, subst, arith}
use Rattle.std.proofs.lemmas.List.{get_or-take, length-take-le}
use Rattle.bounded.specs.Items.{items}
use Rattle.bounded.specs.declared.list.BoundedList.{BoundedList}
use Rattle.listing.specs.declared.place.Place.{Place}
use Rattle.listing.specs.declared.place.Move.{Move}
use Rattle.listing.specs.Scans.{Each, any}
use Rattle.listing.specs.Moves.{leads, same_destination}
use Rattle.listing.specs.Yards.{Same}
use Rattle.listing.specs.Tables.{no_place, no_move, tabled}
use Rattle.listing.specs.Bytes.{yard_in, listed, from_of, to_of, destination, PlaceIn, MoveIn}
use Rattle.listing.proofs.Scanned.{any_same}

-- as many entries are items as are counted
pub count_items : {T : Type 0} {N : ℕ} (l : BoundedList T N) → length (items l) ≡ l.count
count_items l = let few = l.few in let sized = l.sized in length-take-le l.count l.entries (omega arith)

pub entry_of : {T : Type 0} {N : ℕ} (l : BoundedList T N) (i : ℕ) (d : T) → i < length (items l) → get_or l.entries i d ≡ get_or (items l) i d
entry_of l i d h = let few : i < l.count = omega (arith, count_items l) in sym (get_or-take l.count l.entries i d few)

-- what holds of each item holds of each of the first entries
entries_each : {T : Type 0} {N : ℕ} (P : ℕ → T → Type 0) (l : BoundedList T N) (d : T) (n : ℕ) → length (items l) ≡ n
    → Each n (λ i. P i (get_or (items l) i d)) → Each n (λ i. P i (get_or l.entries i d))
entries_each P l d n size each i h = subst (P i) (sym (entry_of l i d (omega arith))) (each i h)

pub same : (b : List ℕ) (trains : ℕ) (ps : BoundedList Place 84) (ms : BoundedList Move 200)
    → trains ≡ (yard_in b).trains → length (items ps) ≡ (yard_in b).places → length (items ms) ≡ listed b
    → Each (yard_in b).places (λ p. PlaceIn b p (get_or (items ps) p no_place))
    → Each (listed b) (λ m. MoveIn b m (get_or (items ms) m no_move))
    → Same (yard_in b) (tabled trains ps.count ps.entries ms.count ms.entries)
same b trains ps ms t p m all_places all_moves =
    let at_places = entries_each (PlaceIn b) ps no_place (yard_in b).places p all_places in
    let at-moves = entries_each (MoveIn b) ms no_move (listed b) m all_moves in
    record {
      trains = t;
      places = sym (count_items ps) ∙ p;
      owner = λ i h. (at_places i h).0;
      blocks = λ i h. (at_places i h).1;
      move = λ from to.
          ap (λ n. any n (λ i. leads (get_or ms.entries i no_move) from to)) (sym (count_items ms) ∙ m)
          ∙ any_same (listed b) (λ i. leads (get_or ms.entries i no_move) from to) (λ i. eqb (from_of b i) from && same_destination (destination (to_of b i)) to)
          (λ i h. ap₂ (λ f d. eqb f from && same_destination d to) (at-moves i h).0 (at-moves i h).1);
    }
