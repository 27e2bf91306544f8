use Rattle.std.proofs.Common.{◌≡◌}
use Rattle.net.proofs.Counts.{unseen}
use Rattle.net.proofs.Searches.{Going}
use Rattle.net.proofs.circle.+visit.Given as goal

-- the nodes that are not seen yet
abbrev pub decreases-visit : goal.decreases-visit
decreases-visit g l = unseen l.marks.now.bytes.now

abbrev pub invariant-loop-next : goal.invariant-loop-next
invariant-loop-next g l =
    (l.marks.bytes.ghost_name ≡ l.initial.marks.bytes.ghost_name) ×
    Going (g.N.Net.arc l.net) (g.N.Net.nodes l.net) l.initial.marks.bytes.now l.marks.bytes.now l.at l.next
