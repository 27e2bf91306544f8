use Rattle.std.proofs.Common.{◌≡◌, [], ◌∷◌, ◌++◌, length, ap, arith}
use Rattle.std.proofs.lemmas.List.{length_push}
use Rattle.std.proofs.lemmas.Option.{MatchOption-at_some}
use Rattle.bounded.specs.Items.{items}
use Rattle.potentials.proofs.Snapshots.{popped_newest, kept, kept_pop}
use Rattle.potentials.proofs.potential.PotentialEngine.release.Goals as goal

pub invariant_of-self-2 : goal.invariant_of-self-2
invariant_of-self-2 c =
    let e = c.args.self.now in
    let before = c.in_ok-self.field-0 in
    let newest : items e.snapshots ≡ items c.pop.new.self ++ (before ∷ []) = MatchOption-at_some _ _ _ c.in_ok-self.ensures.ok_part c.pop.ensures.popped in
    let popped = popped_newest _ _ _ c.pop-2.ensures (omega (arith, ap length newest, length_push (items c.pop.new.self) before, e.paired)) in
    kept_pop _ _ _ _ _ _ popped.1 newest e.numbers (kept e)
