use Rattle.std.proofs.Common.{◌≡◌}
use Rattle.net.proofs.Searches.{Between}
use Rattle.net.proofs.circle.find_circle.Given as goal

abbrev pub invariant-loop-start : goal.invariant-loop-start
invariant-loop-start g l =
    (l.marks.bytes.ghost_name ≡ l.initial.marks.bytes.ghost_name) ×
    Between (g.N.Net.arc l.net) (g.N.Net.nodes l.net) l.initial.marks.bytes.now l.marks.bytes.now l.start
