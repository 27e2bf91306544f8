use Rattle.std.proofs.Common.{rules}
use Rattle.std.proofs.lemmas.Result.{MatchResult-weaker}
use Rattle.engine.proofs.Scans.{joins_found}
use Rattle.engine.proofs.precedence.PrecedenceNet.joins_at.Goals as goal

pub returns : goal.returns
returns g c =
    joins_found _ c.args.place c.args.from c.args.to c.held_at.result c.is_ok_and.result c.held_at.ensures (MatchResult-weaker c.held_at.result c.is_ok_and.ensures (λ x h. search rules) (λ y h. h))
