-- The laws of precedence nets.
use Rattle.std.specs.Prelude.{◌≡◌, ℕ, ◌<◌, true, ◌↔◌, ◌⊎◌, List, [], ◌∷◌, pos, negsuc, ◌≤ℤ◌, ◌==◌, refl}
use Rattle.std.proofs.Common.{sym, subst, ◌∙◌, ap, inl, inr, arith}
use Rattle.std.proofs.lemmas.Int.{ints}
use Rattle.std.proofs.lemmas.Bool.{and_parts, and_from, or_cases, or_left, or_right, eqb-true, eq-eqb, false≢true}
use Rattle.engine.specs.Circles.{In, Lawful}
use Rattle.engine.specs.Precedence.{Leads, joins, precedes}
use Rattle.engine.specs.declared.difference.Difference.{Difference}

-- the test decides Leads
pub precedes_leads : (ds : List Difference) (a b : ℕ) → precedes ds a b ≡ true → Leads ds a b
unfolding precedes
precedes_leads [] a b e = absurd (false≢true e)
precedes_leads (d ∷ ds) a b e = by (or_cases (joins d a b) (precedes ds a b) e) (precedes_leads ds a b)
  where
    by : ((joins d a b ≡ true) ⊎ (precedes ds a b ≡ true)) → (precedes ds a b ≡ true → Leads ds a b) → Leads (d ∷ ds) a b
    by (inl here) rest =
        let p = and_parts (d.from == a) (d.to == b) here in
        record { difference = d; held = inl refl; start = eqb-true _ _ p.0; end = eqb-true _ _ p.1 }
    by (inr there) rest =
        let l = rest there in
        record { difference = l.difference; held = inr l.held; start = l.start; end = l.end }

in_precedes : (ds : List Difference) (d : Difference) → In d ds → precedes ds d.from d.to ≡ true
unfolding precedes
in_precedes [] d h = absurd h
in_precedes (x ∷ ds) d (inl e) =
    or_left (joins x d.from d.to) _ (and_from _ _ (eq-eqb _ _ (ap (λ z. z.from) (sym e))) (eq-eqb _ _ (ap (λ z. z.to) (sym e))))
in_precedes (x ∷ ds) d (inr h) = or_right (joins x d.from d.to) _ (in_precedes ds d h)

pub leads_precedes : (ds : List Difference) (a b : ℕ) → Leads ds a b → precedes ds a b ≡ true
leads_precedes ds a b l =
    ap (λ z. precedes ds z b) (sym l.start) ∙ ap (λ z. precedes ds l.difference.from z) (sym l.end) ∙ in_precedes ds l.difference l.held

pub precedes_told : (ds : List Difference) (a b : ℕ) → (precedes ds a b ≡ true) ↔ Leads ds a b
precedes_told ds a b = (precedes_leads ds a b, leads_precedes ds a b)

-- arcs lead between the events of lawful differences
pub precedes_inside : (n : ℕ) (ds : List Difference) → Lawful n ds → (a b : ℕ) → precedes ds a b ≡ true → (a < n) × (b < n)
precedes_inside n ds ok a b e =
    let l = precedes_leads ds a b e in
    let own = (ok l.difference l.held).0 in
    (subst (λ z. z < n) l.start own.0, subst (λ z. z < n) l.end own.1)

-- the weight of every arc is in range
pub one_limited : (negsuc 999 ≤ℤ pos 1) × (pos 1 ≤ℤ pos 1000)
one_limited = (omega (arith, ints), omega (arith, ints))
