use Rattle.std.proofs.Common.{◌≡◌, [], ◌∷◌, ◌++◌}
use Rattle.std.proofs.lemmas.Result.{IfOk-at_ok}
use Rattle.bounded.specs.Items.{items}
use Rattle.potentials.proofs.Snapshots.{kept, before_push}
use Rattle.potentials.proofs.potential.PotentialEngine.hold.Goals as goal

pub invariant_of-self-2-clause-before : goal.invariant_of-self-2-clause-before
invariant_of-self-2-clause-before c =
    let e = c.args.self.now in
    let newest : items c.push-2.new.self ≡ items e.snapshots ++ (e.numbers ∷ []) = IfOk-at_ok _ c.unwrap.ensures c.push-2.ensures.pushed in
    before_push _ _ _ _ _ _ c.in_ok-push.ensures.2 newest (kept e)
