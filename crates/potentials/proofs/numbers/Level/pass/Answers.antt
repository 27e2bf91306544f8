use Rattle.std.proofs.Common.{subst, arith}
use Rattle.std.proofs.lemmas.List.{take_more, take_all, length-take-le}
use Rattle.std.proofs.lemmas.Int.{ints}
use Rattle.engine.proofs.Fronts.{no_difference}
use Rattle.potentials.specs.Numbers.{Passed}
use Rattle.potentials.proofs.Passes.{lawful_at, passed_more, passed_differs}
use Rattle.potentials.proofs.numbers.Level.pass.Goals as goal

pub relax-requires-clause-lawful : goal.relax-requires-clause-lawful
relax-requires-clause-lawful c = lawful_at c.args.self _ c.loop-difference-test.true

pub relax-requires-clause-high : goal.relax-requires-clause-high
relax-requires-clause-high c =
    let within = c.loop-difference-test.true in
    let high = c.loop-difference.invariant.1.ceiling 900000000 c.requires.high _ (lawful_at c.args.self _ within).0.0 in
    omega (arith, ints, length-take-le c.loop-difference.difference-index c.args.self.held.now (omega arith), c.args.self.few)

pub loop-difference-preserved : goal.loop-difference-preserved
loop-difference-preserved c =
    let within = c.loop-difference-test.true in
    rw (take_more c.args.self.held.now c.loop-difference.difference-index no_difference within)
    (passed_more _ _ _ _ c.loop-difference.invariant.1 _ _ _ (lawful_at c.args.self _ within) c.relax.ensures)

pub returns : goal.returns
returns c =
    let p = c.loop-difference.invariant in
    rw (c.ne.ensures, passed_differs _ _ _ _ p.1) (subst (λ ds. Passed ds c.args.raised.now c.loop-difference.raised p.0) (take_all _ _ c.loop-difference-test.false) p.1)
