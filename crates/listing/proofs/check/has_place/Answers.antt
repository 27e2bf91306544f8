use Rattle.std.proofs.Common.{◌≡◌, eqb, refl, ◌∙◌, arith, rules, tests}
use Rattle.std.proofs.lemmas.Iterator.{YieldsList-from_range}
use Rattle.std.proofs.lemmas.Iterator.Search.{any_from_yields_List}
use Rattle.listing.specs.Bytes.{yard_in}
use Rattle.listing.specs.Scans.{any}
use Rattle.listing.proofs.Listed.{any_ranged}
use Rattle.listing.proofs.Scanned.{any_lowest}
use Rattle.listing.proofs.check.has_place.Goals as goal

pub returns : goal.returns
returns c =
    let y = yard_in c.args.input.now in
    let list = YieldsList-from_range 0 c.places.result c.places.result refl (omega arith) in
    let is : c.any.result ≡ any c.places.result (λ p. eqb (y.owner p) c.args.train) =
    any_from_yields_List (λ p. eqb (y.owner p) c.args.train) _ _ c.any.result c.any.ensures.ran list (λ x b q k. search (rules, tests))
    ∙ any_ranged c.places.result (λ p. eqb (y.owner p) c.args.train) in
    rw (is, c.places.ensures.is) (any_lowest y.places (λ p. eqb (y.owner p) c.args.train))
