use Rattle.std.proofs.Common.{◌≡◌, length, get_or}
use Rattle.bounded.specs.Items.{items}
use Rattle.listing.specs.Scans.{Each}
use Rattle.listing.proofs.content.reading.listed_items.Given as goal

abbrev pub invariant-loop-i : goal.invariant-loop-i
invariant-loop-i g l = record {
  size : length (items l.list) ≡ l.i;
  each : (d : _) → Each l.i (λ i. goal.F-post g l.item i (get_or (items l.list) i d));
}
