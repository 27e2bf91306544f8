use Rattle.std.proofs.Common.{arith}
use Rattle.std.proofs.lemmas.Int.{ints}
use Rattle.potentials.proofs.Passes.{covers_floor, near, settled_kept, raise_rises, mending_none, mending_more, mending_done}
use Rattle.potentials.proofs.numbers.Level.settle.Goals as goal

pub relax-requires-clause-low : goal.relax-requires-clause-low
relax-requires-clause-low c = (near c.args.self _ c.requires.0.0).0

pub relax-requires-clause-high : goal.relax-requires-clause-high
relax-requires-clause-high c = let high = (near c.args.self _ c.requires.0.0).1 in omega (arith, ints)

pub returns-then-not-relax : goal.returns-then-not-relax
returns-then-not-relax c = settled_kept c.args.self _ c.requires _ c.if-not-relax.ensures

pub loop-init : goal.loop-init
loop-init c = mending_none c.args.self _ c.requires _ c.relax.array_long c.if-not-relax.ensures

pub returns-then-raised-difference : goal.returns-then-raised-difference
returns-then-raised-difference c = raise_rises c.args.self _ c.requires _ _ c.loop.invariant (grind (arith, ints))

pub pass-requires-clause-low : goal.pass-requires-clause-low
pass-requires-clause-low c = covers_floor _ _ _ c.loop.invariant.cover

pub returns-then-not-pass : goal.returns-then-not-pass
returns-then-not-pass c = mending_done c.args.self _ c.requires _ _ _ c.loop.invariant (grind (arith, ints)) c.if-not-pass.ensures

pub loop-preserved : goal.loop-preserved
loop-preserved c = mending_more c.args.self _ c.requires _ _ _ c.loop.invariant (grind (arith, ints)) c.if-not-pass.ensures

pub returns : goal.returns
returns c = c.loop.invariant.risen c.loop-test.false
