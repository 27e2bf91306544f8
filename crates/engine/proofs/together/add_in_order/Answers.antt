use Rattle.std.proofs.lemmas.Result.{err_from_is_err_and}
use Rattle.engine.proofs.Fronts.{no_difference}
use Rattle.engine.proofs.Several.{reached_all, stopped}
use Rattle.engine.proofs.together.add_in_order.Goals as goal

pub returns-in_err-add : goal.returns-in_err-add
returns-in_err-add g c =
    let p = err_from_is_err_and c.from_residual.result c.from_residual.ensures.1 in
    rw (p.1, p.2)
    (stopped _ _ _ _ (g.E.DifferenceEngine.sound c.loop-difference.engine) c.loop-difference.invariant c.loop-difference-test.true no_difference
    (g.E.DifferenceEngine.state c.add.new.self) c.in_err-add.field-0.0 c.in_err-add.ensures)

pub returns : goal.returns
returns g c = reached_all _ _ _ _ (g.E.DifferenceEngine.sound c.loop-difference.engine) c.loop-difference.invariant c.loop-difference-test.false
