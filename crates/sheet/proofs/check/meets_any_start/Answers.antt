use Rattle.std.proofs.Common.{ℕ, rules, tests, ap, ◌∙◌}
use Rattle.listing.specs.Listings.{yard}
use Rattle.listing.specs.Scans.{any}
use Rattle.listing.specs.Yards.{start}
use Rattle.sheet.specs.Conflicts.{conflict}
use Rattle.sheet.proofs.Chains.{found_any}
use Rattle.sheet.proofs.check.meets_any_start.Goals as goal

pub returns : goal.returns
returns c =
    let y = yard c.args.listing.now in
    let test = λ (u : ℕ). conflict y c.args.place (start y u) in
    found_any _ c.train_count.result test c.any.ensures.ran (λ k b q h. search (rules, tests)) ∙ ap (λ n. any n test) c.train_count.ensures.value
