use Rattle.std.proofs.Common.{Some, ap, arith}
use Rattle.std.proofs.lemmas.Int.{ints}
use Rattle.distances.proofs.way.sum_over.Goals as goal

pub overflow_add-result-2 : goal.overflow_add-result-2
overflow_add-result-2 c =
    let left = rw c.in_ok-a.was at c.requires.left in
    let right = rw c.in_ok-b.was at c.requires.right in
    omega (arith, ints)

pub returns : goal.returns
returns c =
    let left = rw c.in_ok-a.was at c.requires.left in
    let right = rw c.in_ok-b.was at c.requires.right in
    rw (c.in_ok-a.was, c.in_ok-b.was) (ap Some (omega (arith, ints)))
