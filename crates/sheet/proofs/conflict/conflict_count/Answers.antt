use Rattle.std.proofs.Common.{ℕ, rules, tests, arith}
use Rattle.blocks.specs.Members.{tally}
use Rattle.blocks.proofs.Tallies.{tally_most}
use Rattle.listing.specs.Listings.{yard}
use Rattle.sheet.specs.Conflicts.{conflict}
use Rattle.sheet.proofs.Chains.{totalled, total_fits}
use Rattle.sheet.proofs.conflict.conflict_count.Goals as goal

pub sum-requires-clause-fits : goal.sum-requires-clause-fits
sum-requires-clause-fits c =
    let y = yard c.args.listing.now in
    let below = λ (p : ℕ). tally p (λ a. conflict y a p) in
    total_fits c.map.result c.place_count.result below c.map.ensures.source c.map.ensures.closure (λ k x q h. search (rules, tests)) 84 (λ k h. omega (arith, tally_most k (λ a. conflict y a k))) (omega arith)

pub returns : goal.returns
returns c =
    let y = yard c.args.listing.now in
    let below = λ (p : ℕ). tally p (λ a. conflict y a p) in
    totalled c.map.result y.places below (cc) c.map.ensures.closure (λ k x q h. search (rules, tests)) _ c.sum.ensures.ran
