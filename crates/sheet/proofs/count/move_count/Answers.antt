use Rattle.std.proofs.Common.{ℕ, ◌+◌, ◌≤◌, rules, tests, arith}
use Rattle.std.proofs.lemmas.Bool.{cond_both}
use Rattle.blocks.proofs.Tallies.{tally_most}
use Rattle.listing.specs.Listings.{yard}
use Rattle.listing.specs.Yards.{Yard}
use Rattle.listing.specs.declared.place.Destination.TheVariants.{Place, Out}
use Rattle.sheet.specs.Counts.{onward}
use Rattle.sheet.proofs.Chains.{totalled, total_fits}
use Rattle.sheet.proofs.count.move_count.Goals as goal

onward_most : (y : Yard) (p : ℕ) → onward y p ≤ y.places + 1
onward_most y p =
    omega (arith, tally_most y.places (λ q. y.move p (Place q)), cond_both (y.move p Out) 1 0 (λ n. n ≤ 1) (λ _. omega arith) (λ _. omega arith))

pub sum-requires-clause-fits : goal.sum-requires-clause-fits
sum-requires-clause-fits c =
    let y = yard c.args.listing.now in
    total_fits c.map.result c.place_count.result (onward y) c.map.ensures.source c.map.ensures.closure (λ k x q h. search (rules, tests)) 85 (λ k h. omega (arith, onward_most y k)) (omega arith)

pub returns : goal.returns
returns c =
    let y = yard c.args.listing.now in
    totalled c.map.result y.places (onward y) (cc) c.map.ensures.closure (λ k x q h. search (rules, tests)) _ c.sum.ensures.ran
