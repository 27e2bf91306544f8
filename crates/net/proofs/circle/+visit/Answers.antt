use Rattle.std.proofs.Common.{◌≡◌, ◌<◌, ◌≤◌, get_or, sym, ◌∙◌, subst, arith}
use Rattle.std.proofs.lemmas.Bool.{both_ways}
use Rattle.net.proofs.Counts.{unseen}
use Rattle.net.proofs.Decoded.{byte_unseen, byte_on_path, byte_done}
use Rattle.net.proofs.Searches.{fewer_unseen, ready_next, circle_met, going_past, going_after, kinds_kept, visited_here, visited_all}
use Rattle.net.proofs.circle.+visit.Goals as goal
use Rattle.net.proofs.circle.+visit.Goals.{then-has_arc+in-Unseen+in_default, then-has_arc+in-Done, else-has_arc}

pub visit-requires : goal.visit-requires
visit-requires g t c κs within =
    let net = c.args.net.now in
    let has = sym c.if-has_arc.ensures in
    let ready = ready_next _ _ (g.N.Net.ranged net).1 (g.N.Net.inside net) _ _ c.requires _ c.put.ensures.written _ _ c.loop-next.invariant.1 has (byte_unseen _ c.in-Unseen.ensures) in
    let less = fewer_unseen _ _ (g.N.Net.ranged net).1 (g.N.Net.inside net) _ _ c.requires _ c.put.ensures.written _ _ c.loop-next.invariant.1 in
    (subst (λ n. unseen c.loop-next.marks.bytes.now < n) c.decreases less, (within, ready))

pub returns-in-OnPath : goal.returns-in-OnPath
returns-in-OnPath g t c =
    let net = c.args.net.now in
    let has = sym c.if-has_arc.ensures in
    let circle = circle_met _ _ (g.N.Net.ranged net).1 (g.N.Net.inside net) _ _ c.requires _ c.put.ensures.written _ _ c.loop-next.invariant.1 has (byte_on_path _ c.in-OnPath.ensures) in
    record {
      lent = c.loop-next.invariant.0 ∙ c.put.ensures.lent;
      visited = visited_here _ _ (g.N.Net.ranged net).1 (g.N.Net.inside net) _ _ c.requires _ c.put.ensures.written _ _ c.loop-next.invariant.1 _ circle;
    }

pub loop-next-preserved : goal.loop-next-preserved
loop-next-preserved g t c =
    let net = c.args.net.now in
    let going = c.loop-next.invariant.1 in
    let few = (g.N.Net.ranged net).1 in
    elim c.if-has_arc.branch [
      | then-has_arc+in-Unseen+in_default w ↦
          (let met = w.in_default.ensures in
          rw w.marks-is (met.lent ∙ c.loop-next.invariant.0, going_after _ _ (g.N.Net.ranged net).1 (g.N.Net.inside net) _ _ c.requires _ c.put.ensures.written _ _ going _ met.visited.size met.visited.answer))
      | then-has_arc+in-Done w ↦
          (let kind = kinds_kept _ _ (g.N.Net.ranged net).1 (g.N.Net.inside net) _ _ c.requires _ c.put.ensures.written _ _ going c.loop-next.next (omega arith) in
          let far : 2 ≤ get_or c.loop-next.marks.bytes.now c.loop-next.next 0 = byte_done _ w.in-Done.ensures in
          rw w.marks-is (c.loop-next.invariant.0, going_past _ _ (g.N.Net.ranged net).1 (g.N.Net.inside net) _ _ c.requires _ c.put.ensures.written _ _ going (λ _. omega (arith, kind, far))))
      | else-has_arc w ↦
          rw w.marks-is (c.loop-next.invariant.0, going_past _ _ (g.N.Net.ranged net).1 (g.N.Net.inside net) _ _ c.requires _ c.put.ensures.written _ _ going (λ h. absurd (both_ways _ (sym w.if-has_arc.ensures) h)))
    ]

pub returns : goal.returns
returns g t c =
    let net = c.args.net.now in
    let end : c.loop-next.next ≡ g.N.Net.nodes net = omega arith in
    record {
      lent = c.put-2.ensures.lent ∙ c.loop-next.invariant.0 ∙ c.put.ensures.lent;
      visited = visited_all _ _ (g.N.Net.ranged net).1 (g.N.Net.inside net) _ _ c.requires _ c.put.ensures.written _ (rw end at c.loop-next.invariant.1) _ c.put-2.ensures.written;
    }
