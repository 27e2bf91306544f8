use Rattle.std.proofs.Common.{◌≡◌, ◌<◌, sym, refl, ◌∙◌, subst, arith}
use Rattle.std.proofs.lemmas.Int.{ints, clamps}
use Rattle.std.proofs.lemmas.Bool.{both_ways}
use Rattle.net.proofs.Counts.{unseen}
use Rattle.net.proofs.Searches.{going_first, fewer_unseen, going_past, going_after, going_room}
use Rattle.net.proofs.Ways.{ready_open, settled_within, raised_first, open_next, raised_past, raised_after, settled_all}
use Rattle.net.proofs.longest.+settle.Goals as goal
use Rattle.net.proofs.longest.+settle.Goals.{then-has_arc, else-has_arc}

pub loop-next-init : goal.loop-next-init
loop-next-init g t c =
    let net = c.args.net.now in
    let few = (g.N.Net.ranged net).1 in
    let inside = g.N.Net.inside net in
    let limited = g.N.WeightedNet.limited net in
    let ready = ready_open _ _ _ few inside limited _ _ _ c.requires _ c.mark.ensures c.in_default.not-Done in
    (refl, c.told-sums, going_first _ _ few inside _ _ ready _ c.put.ensures.written, raised_first _ _ _ few inside limited _ _ ready _ c.put.ensures.written _ c.requires.summed)

pub settle-requires : goal.settle-requires
settle-requires g t c κs within =
    let net = c.args.net.now in
    let few = (g.N.Net.ranged net).1 in
    let inside = g.N.Net.inside net in
    let limited = g.N.WeightedNet.limited net in
    let ready = ready_open _ _ _ few inside limited _ _ _ c.requires _ c.mark.ensures c.in_default.not-Done in
    let put = c.put.ensures.written in
    let going = c.loop-next.invariant.2 in
    let has = sym c.if-has_arc.ensures in
    let room = going_room _ _ few inside _ _ ready _ put _ _ going in
    let less = fewer_unseen _ _ few inside _ _ ready _ put _ _ going in (
      subst (λ n. unseen c.loop-next.marks.bytes.now < n) c.decreases less,
      (within, open_next _ _ _ few inside limited _ _ ready _ put _ _ going _ _ c.loop-next.invariant.3 c.requires.straight room has),
    )

pub overflow_add-sum : goal.overflow_add-sum
overflow_add-sum g t c =
    let net = c.args.net.now in
    let few = (g.N.Net.ranged net).1 in
    let inside = g.N.Net.inside net in
    let limited = g.N.WeightedNet.limited net in
    let bound = settled_within _ _ _ few inside limited _ _ _ _ _ (inside _ _ (sym c.if-has_arc.ensures)).1 c.settle.ensures.settled in
    let limit = limited c.args.at c.loop-next.next in
    let is = c.weight.ensures in
    omega (arith, ints)

pub loop-next-preserved : goal.loop-next-preserved
loop-next-preserved g t c =
    let net = c.args.net.now in
    let few = (g.N.Net.ranged net).1 in
    let inside = g.N.Net.inside net in
    let limited = g.N.WeightedNet.limited net in
    let ready = ready_open _ _ _ few inside limited _ _ _ c.requires _ c.mark.ensures c.in_default.not-Done in
    let put = c.put.ensures.written in
    let going = c.loop-next.invariant.2 in
    let raised = c.loop-next.invariant.3 in
    elim c.if-has_arc.branch [
      | then-has_arc w ↦
          (let has = sym w.if-has_arc.ensures in
          let met = w.settle.ensures in
          let bound = settled_within _ _ _ few inside limited _ _ _ _ _ (inside _ _ has).1 met.settled in
          let limit = limited c.args.at c.loop-next.next in
          let higher = w.max-best.ensures.value in
          let weighed = w.weight.ensures in
          rw (w.marks-is, w.sums-is) (
            met.lent ∙ c.loop-next.invariant.0,
            w.settle.array_long,
            going_after _ _ few inside _ _ ready _ put _ _ going _ met.settled.size met.settled.passed,
            raised_after _ _ _ few inside limited _ _ ready _ put _ _ going _ _ raised _ _ _ _ has met.settled (omega (arith, ints, clamps)),
          ))
      | else-has_arc w ↦
          (let none = both_ways _ (sym w.if-has_arc.ensures) in
          rw (w.marks-is, w.sums-is, w.best-is) (
            c.loop-next.invariant.0,
            c.loop-next.invariant.1,
            going_past _ _ few inside _ _ ready _ put _ _ going (λ h. absurd (none h)),
            raised_past _ _ _ few inside limited _ _ ready _ put _ _ going _ _ raised none,
          ))
    ]

pub returns : goal.returns
returns g t c =
    let net = c.args.net.now in
    let few = (g.N.Net.ranged net).1 in
    let inside = g.N.Net.inside net in
    let limited = g.N.WeightedNet.limited net in
    let ready = ready_open _ _ _ few inside limited _ _ _ c.requires _ c.mark.ensures c.in_default.not-Done in
    let put = c.put.ensures.written in
    let end : c.loop-next.next ≡ g.N.Net.nodes net = omega arith in
    record {
      lent = c.put-2.ensures.lent ∙ c.loop-next.invariant.0 ∙ c.put.ensures.lent;
      settled = settled_all _ _ _ few inside limited _ _ ready _ put _ (rw end at c.loop-next.invariant.2) _ _ (rw end at c.loop-next.invariant.3) _ c.loop-next.invariant.1 c.put-2.ensures.written;
    }
