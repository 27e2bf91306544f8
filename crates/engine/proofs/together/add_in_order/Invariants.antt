use Rattle.engine.proofs.Several.{Reached}
use Rattle.engine.proofs.together.add_in_order.Given as goal

abbrev pub invariant-loop-difference : goal.invariant-loop-difference
invariant-loop-difference g l = Reached l.differences l.difference-index (g.E.DifferenceEngine.state l.initial.engine) (g.E.DifferenceEngine.state l.engine)
