use Rattle.std.proofs.Common.{◌≡◌, ◌∙◌, subst, arith, rules, w32, to_z, of_z}
use Rattle.std.proofs.lemmas.Int.{ints}
use Rattle.engine.specs.Lists.{held_in}
use Rattle.distances.specs.Tables.{Rising}
use Rattle.distances.proofs.Sums.{table_bounded, table_way, closing}
use Rattle.distances.proofs.distance.DistanceEngine.closes_rising_circle.Goals as goal

pub rises-requires-clause-bounded : goal.rises-requires-clause-bounded
rises-requires-clause-bounded c = let bounded = table_bounded c.args.self.now in search rules

pub returns : goal.returns
returns c =
    let e = c.args.self.now in
    let d = c.args.difference in
    let way = c.sum-back.ensures ∙ table_way e d.to d.from (omega arith) (omega arith) in
    let same : to_z w32 (of_z w32 d.k) ≡ d.k = omega (arith, ints, c.requires.1.0, c.requires.1.1) in
    closing (held_in e.list.differences) d c.sum-back.result c.rises.result e.list.level way (subst (λ k. Rising k c.sum-back.result c.rises.result) same c.rises.ensures)
