use Rattle.std.proofs.Common.{Ok, rules as std_rules}
use Rattle.listing.specs.Rules.{Checked, rules}
use Rattle.listing.proofs.Exact.{accepted, stopped}
use Rattle.listing.proofs.content.reading.read_from.Goals as goal

pub returns-in_err-check : goal.returns-in_err-check
returns-in_err-check c =
    let verdict : Checked c.args.input.now rules c.from_residual.result = search std_rules in
    record {
      accepted = accepted c.args.input.now c.from_residual.result verdict;
      refused = stopped c.args.input.now c.from_residual.result verdict;
      content = search std_rules;
    }

pub returns : goal.returns
returns c = record {
  accepted = accepted c.args.input.now (Ok c.listing_in.result) c.in_ok-check.ensures;
  refused = stopped c.args.input.now (Ok c.listing_in.result) c.in_ok-check.ensures;
  content = c.listing_in.ensures;
}
