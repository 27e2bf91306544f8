use Rattle.std.proofs.Common.{rules, tests, arith}
use Rattle.listing.specs.Listings.{yard}
use Rattle.sheet.specs.Lawful.{SharesStart, StartsApart, FirstShared}
use Rattle.sheet.specs.Moving.{shaped}
use Rattle.sheet.proofs.Chains.{found_first}
use Rattle.sheet.proofs.Starts.{all_apart}
use Rattle.sheet.proofs.check.first_shared_start.Goals as goal

pub returns : goal.returns
returns c =
    let y = yard c.args.listing.now in
    found_first _ _ c.place_count.result (SharesStart y) (StartsApart y) (FirstShared y) c.find.ensures.ran (λ k b q h. search (rules, tests))
    (λ none. all_apart y (shaped c.args.listing.now).trains_placed (λ p h. none p (omega (arith, c.place_count.ensures.value))))
    (λ p h here lower. record { here = here; lower = lower })
