use Rattle.std.proofs.Common.{ℕ, cond, eqb, ◌∙◌, rules, tests, arith}
use Rattle.listing.specs.Listings.{yard}
use Rattle.sheet.proofs.Chains.{totalled, total_fits, tally_summed, one_most}
use Rattle.sheet.proofs.count.places_of.Goals as goal

pub sum-requires-clause-fits : goal.sum-requires-clause-fits
sum-requires-clause-fits c =
    let y = yard c.args.listing.now in
    let one = λ (p : ℕ). cond (eqb (y.owner p) c.args.train) 1 0 in
    total_fits c.map.result c.place_count.result one c.map.ensures.source c.map.ensures.closure (λ k x q h. search (rules, tests)) 1 (λ k h. one_most (eqb (y.owner k) c.args.train)) (omega arith)

pub returns : goal.returns
returns c =
    let y = yard c.args.listing.now in
    let one = λ (p : ℕ). cond (eqb (y.owner p) c.args.train) 1 0 in
    totalled c.map.result y.places one (cc) c.map.ensures.closure (λ k x q h. search (rules, tests)) _ c.sum.ensures.ran
    ∙ tally_summed y.places (λ p. eqb (y.owner p) c.args.train)
