use Rattle.std.proofs.Common.{rules, tests, ◌+◌, ap₂}
use Rattle.listing.specs.Listings.{yard}
use Rattle.listing.specs.declared.place.Destination.TheVariants.{Place}
use Rattle.sheet.proofs.Chains.{counted}
use Rattle.sheet.proofs.count.moves_from.Goals as goal

pub returns : goal.returns
returns c =
    let y = yard c.args.listing.now in
    ap₂ ◌+◌
    (counted c.filter.result _ y.places (λ q. y.move c.args.place (Place q)) c.count-to_places.ensures.ran (cc) c.filter.ensures.closure (λ k b q h. search (rules, tests)))
    (search rules)
