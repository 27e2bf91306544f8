use Rattle.std.proofs.Common.{◌≡◌, drop}
use Rattle.listing.specs.Moves.{some_leads}
use Rattle.listing.proofs.content.Listing.has_move.Given as goal

-- none of the moves so far leads there, so the rest tell
abbrev pub invariant-loop-index : goal.invariant-loop-index
invariant-loop-index l = some_leads l.moves l.from l.to ≡ some_leads (drop l.index l.moves) l.from l.to
