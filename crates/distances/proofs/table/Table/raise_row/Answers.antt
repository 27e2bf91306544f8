use Rattle.std.proofs.Common.{◌≡◌, ◌*◌, ◌≤◌, length, arith, w32, to_z, of_z}
use Rattle.std.proofs.lemmas.Grind.{common_steps}
use Rattle.std.proofs.lemmas.Int.{ints}
use Rattle.std.proofs.lemmas.Nat.{mul-le}
use Rattle.distances.proofs.Tables.{row_raised}
use Rattle.distances.proofs.table.Table.raise_row.Goals as goal

pub loop-y-preserved : goal.loop-y-preserved
loop-y-preserved c =
    record {
      raised = λ q low. grind (arith, common_steps, c.loop-y.invariant.raised q, c.loop-y.invariant.rest q);
      rest = λ q high. grind (arith, common_steps, c.loop-y.invariant.rest q);
    }

pub returns-clause-sums : goal.returns-clause-sums
returns-clause-sums c =
    let t = c.args.self.now in
    let within : c.args.x * t.events ≤ length t.sums = omega (arith, t.sized, mul-le c.args.x t.events 96 96 (omega arith) t.few) in
    let same : to_z w32 (of_z w32 c.args.k) ≡ c.args.k = omega (arith, ints, c.requires.between.0, c.requires.between.1) in
    row_raised t.events _ c.args.x c.args.into c.args.k _ c.args.out.now t.sums c.loop-y.sum-items (omega arith) same within (omega arith) (λ y low. c.loop-y.invariant.raised y (omega arith))
