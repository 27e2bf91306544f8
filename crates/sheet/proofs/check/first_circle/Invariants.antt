use Rattle.std.proofs.Common.{◌≡◌, ◌<◌, ◌≤◌, length}
use Rattle.net.specs.Marks.{Cleared}
use Rattle.net.specs.Walks.{NoCircle}
use Rattle.listing.specs.Listings.{yard}
use Rattle.listing.specs.Scans.{Each}
use Rattle.sheet.specs.Movement.{arcs}
use Rattle.sheet.proofs.check.first_circle.Given as goal

-- after no walk the marks are as before, after one or more they are cleared
abbrev pub invariant-loop-train : goal.invariant-loop-train
invariant-loop-train l = record {
  free : Each l.train (λ t. NoCircle (arcs (yard l.listing) t));
  before_walks : l.train ≡ 0 → l.marks ≡ l.initial.marks;
  after_walks : 0 < l.train → (96 ≤ length l.initial.marks) × Cleared l.initial.marks l.marks;
}
