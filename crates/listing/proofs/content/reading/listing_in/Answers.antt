use Rattle.std.proofs.Common.{◌∙◌, arith, rules}
use Rattle.listing.specs.Rules.{trains_ranged}
use Rattle.listing.specs.Tables.{no_place, no_move}
use Rattle.listing.proofs.Agreeing.{shaped_same}
use Rattle.listing.proofs.Exact.{each_rule, shaped}
use Rattle.listing.proofs.Tabled.{same}
use Rattle.listing.proofs.content.reading.listing_in.Goals as goal

pub invariant_of-result : goal.invariant_of-result
invariant_of-result c =
    let b = c.args.input.now in
    let rule = each_rule b c.requires in
    let trains = rule trains_ranged in
    record {
      trains_ranged = (omega (arith, trains.0), omega (arith, trains.1));
      shaped = ∣ shaped_same _ _ (same b c.trains.result c.listed_items-places.result c.listed_items-moves.result
          c.trains.ensures.is (c.listed_items-places.ensures.size ∙ c.places.ensures.is) (c.listed_items-moves.ensures.size ∙ c.moves.ensures.is)
          (λ i h. let e = c.listed_items-places.ensures.each no_place i (omega (arith, c.places.ensures.is)) in search rules)
          (λ i h. let e = c.listed_items-moves.ensures.each no_move i (omega (arith, c.moves.ensures.is)) in search rules)) (shaped b rule) ∣₁;
    }

pub returns : goal.returns
returns c =
    let b = c.args.input.now in
    same b c.trains.result c.listed_items-places.result c.listed_items-moves.result
    c.trains.ensures.is (c.listed_items-places.ensures.size ∙ c.places.ensures.is) (c.listed_items-moves.ensures.size ∙ c.moves.ensures.is)
    (λ i h. let e = c.listed_items-places.ensures.each no_place i (omega (arith, c.places.ensures.is)) in search rules)
    (λ i h. let e = c.listed_items-moves.ensures.each no_move i (omega (arith, c.moves.ensures.is)) in search rules)
