use Rattle.std.proofs.Common.{length, ◌∙◌, arith, rules}
use Rattle.std.proofs.lemmas.Iterator.{YieldsList-from_range}
use Rattle.std.proofs.lemmas.Iterator.Search.{any_from_yields_List}
use Rattle.engine.specs.Precedence.{joins_at}
use Rattle.engine.proofs.Scans.{scanned}
use Rattle.engine.proofs.precedence.PrecedenceNet.leads.Goals as goal

pub returns : goal.returns
returns g c =
    let held = (g.E.DifferenceEngine.state c.args.self.now.engine.now).held in
    let places = YieldsList-from_range 0 (length held) (length held) (cc c.held_count.ensures) (omega arith) in
    any_from_yields_List (λ p. joins_at held p c.args.from c.args.to) _ _ c.any.result c.any.ensures.ran places (λ x b q k. search rules) ∙ scanned held c.args.from c.args.to
