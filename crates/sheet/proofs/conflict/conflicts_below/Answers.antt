use Rattle.std.proofs.Common.{rules, tests}
use Rattle.listing.specs.Listings.{yard}
use Rattle.sheet.specs.Conflicts.{conflict}
use Rattle.sheet.proofs.Chains.{counted}
use Rattle.sheet.proofs.conflict.conflicts_below.Goals as goal

pub returns : goal.returns
returns c =
    counted c.filter.result _ c.args.place (λ a. conflict (yard c.args.listing.now) a c.args.place) c.count.ensures.ran c.filter.ensures.source c.filter.ensures.closure
    (λ k b q h. search (rules, tests))
