use Rattle.std.proofs.Common.{length}
use Rattle.engine.proofs.Several.{Shortened}
use Rattle.engine.proofs.together.shorten_to.Given as goal

abbrev pub invariant-loop-engine : goal.invariant-loop-engine
invariant-loop-engine g l = Shortened l.count (g.E.DifferenceEngine.state l.initial.engine) (g.E.DifferenceEngine.state l.engine)

-- each turn drops one
abbrev pub decreases-loop-engine : goal.decreases-loop-engine
decreases-loop-engine g l = length (g.E.DifferenceEngine.state l.engine).held
