use Rattle.std.proofs.Common.{◌≤◌}
use Rattle.listing.specs.Yards.{start}
use Rattle.listing.specs.Listings.{yard}
use Rattle.listing.proofs.content.Listing.start.Given as goal

-- no place so far is the start
abbrev pub invariant-loop-place : goal.invariant-loop-place
invariant-loop-place l = l.place ≤ start (yard l.self) l.train
