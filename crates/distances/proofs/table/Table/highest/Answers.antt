use Rattle.std.proofs.Common.{◌≡◌, pos, rules, arith, ◌∙◌, w32, to_z, of_z, refl}
use Rattle.std.proofs.lemmas.Int.{ints}
use Rattle.std.proofs.lemmas.Iterator.{YieldsList-from_range, YieldsList-from_map}
use Rattle.std.proofs.lemmas.Iterator.Consumers.{fold_from_yields_List}
use Rattle.engine.specs.Ways.{higher}
use Rattle.distances.specs.Tables.{entry}
use Rattle.distances.proofs.Sums.{peak_fold}
use Rattle.distances.proofs.table.Table.highest.Goals as goal

pub returns : goal.returns
returns c =
    let t = c.args.self.now in
    let same : to_z w32 (of_z w32 c.fold.result) ≡ c.fold.result = omega (arith, ints) in
    let folded = fold_from_yields_List _ higher (pos 0) c.fold.result c.fold.ensures.ran (YieldsList-from_map _ (λ x. entry t.events t.sums x c.args.event) (YieldsList-from_range 0 t.events t.events (cc) (omega arith)) refl (λ x r q k. search rules)) (λ a x b q k. search rules) in
    same ∙ (folded ∙ peak_fold (λ x. entry t.events t.sums x c.args.event) t.events)
