use Rattle.std.proofs.Common.{refl}
use Rattle.sheet.proofs.Exact.{unlisted}
use Rattle.sheet.proofs.sheet.Sheet.parse.Goals as goal

pub returns-in_err-listing-clause-answer : goal.returns-in_err-listing-clause-answer
returns-in_err-listing-clause-answer c =
    let f = c.in_err-listing.field-0.0 in
    unlisted c.args.input.now _ f _ c.from_residual.ensures.1 c.if-marks-lt-MOST_NODES.false ((c.in_err-listing.ensures.refused f).0 refl)
