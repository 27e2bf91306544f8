use Rattle.std.proofs.Common.{◌<◌}
use Rattle.listing.specs.Bytes.{yard_in}
use Rattle.listing.specs.Scans.{Each}
use Rattle.listing.specs.Shape.{Placed}
use Rattle.listing.proofs.check.check_owners.Given as goal

abbrev pub invariant-loop-place : goal.invariant-loop-place
invariant-loop-place l = Each l.place (λ p. (yard_in l.input).owner p < (yard_in l.input).trains)

abbrev pub invariant-loop-train : goal.invariant-loop-train
invariant-loop-train l = Each l.train (Placed (yard_in l.input))
