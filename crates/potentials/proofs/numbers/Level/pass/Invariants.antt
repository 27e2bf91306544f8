use Rattle.std.proofs.Common.{take, Bool}
use Rattle.potentials.specs.Numbers.{Passed}
use Rattle.potentials.proofs.numbers.Level.pass.Given as goal

abbrev pub invariant-loop-difference : goal.invariant-loop-difference
invariant-loop-difference l = (c : Bool) × Passed (take l.difference-index l.self.held.now) l.initial.raised l.raised c
