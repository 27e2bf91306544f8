use Rattle.std.proofs.Common.{◌≢◌}
use Rattle.listing.specs.Bytes.{yard_in}
use Rattle.listing.specs.Scans.{Each}
use Rattle.listing.proofs.check.check_sets.Given as goal

abbrev pub invariant-loop-place : goal.invariant-loop-place
invariant-loop-place l = Each l.place (λ p. (yard_in l.input).blocks p ≢ 0)
