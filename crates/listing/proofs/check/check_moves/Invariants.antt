use Rattle.listing.specs.Rules.{Allowed}
use Rattle.listing.specs.Scans.{Each}
use Rattle.listing.proofs.check.check_moves.Given as goal

abbrev pub invariant-loop-index : goal.invariant-loop-index
invariant-loop-index l = Each l.index (Allowed l.input)
