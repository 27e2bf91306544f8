use Rattle.std.proofs.Common.{◌≡◌, length}
use Rattle.net.proofs.Counts.{unseen}
use Rattle.net.proofs.Searches.{Going}
use Rattle.net.proofs.Ways.{Raised}
use Rattle.net.proofs.longest.+settle.Given as goal

-- the nodes that are not seen yet
abbrev pub decreases-settle : goal.decreases-settle
decreases-settle g l = unseen l.marks.now.bytes.now

abbrev pub invariant-loop-next : goal.invariant-loop-next
invariant-loop-next g l =
    (l.marks.bytes.ghost_name ≡ l.initial.marks.bytes.ghost_name) ×
    (length l.sums ≡ 96) ×
    Going (g.N.Net.arc l.net) (g.N.Net.nodes l.net) l.initial.marks.bytes.now l.marks.bytes.now l.at l.next ×
    Raised (g.N.Net.arc l.net) (g.N.WeightedNet.weighs l.net) (g.N.Net.nodes l.net) l.marks.bytes.now l.sums l.at l.next l.best
