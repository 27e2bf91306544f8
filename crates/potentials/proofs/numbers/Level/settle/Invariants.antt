use Rattle.potentials.proofs.Passes.{Mending}
use Rattle.potentials.proofs.numbers.Level.settle.Given as goal

abbrev pub invariant-loop : goal.invariant-loop
invariant-loop l = Mending l.self l.difference l.counter l.raised
