-- The laws of conflict.
use Rattle.std.proofs.Common.{◌≡◌, ℕ, true, not, ◌&&◌, eqb, ltb, ◌↔◌, sym, refl, ap, ◌∙◌, arith}
use Rattle.std.proofs.lemmas.Bool.{and_parts, and_from, ltb-true, lt-ltb, not-true, not_from_false, eqb-false, ne_eqb}
use Rattle.std.proofs.lemmas.Bool.Decides.{same_from_decides, Decides-like}
use Rattle.blocks.specs.Members.{shared, tally}
use Rattle.blocks.proofs.Sharing.{shared_common, common_shared}
use Rattle.blocks.proofs.Tallies.{tally_same}
use Rattle.listing.specs.Scans.{summed}
use Rattle.listing.specs.Yards.{Yard, Same}
use Rattle.listing.proofs.Agreeing.{same_turned}
use Rattle.listing.proofs.Scanned.{summed_same}
use Rattle.sheet.specs.Conflicts.{Conflict, conflict, pairs}

conflict_holds : (y : Yard) (a c : ℕ) → conflict y a c ≡ true → Conflict y a c
unfolding conflict
conflict_holds y a c e =
    let p = and_parts (ltb a y.places && ltb c y.places) (not (eqb (y.owner a) (y.owner c)) && shared (y.blocks a) (y.blocks c)) e in
    let k = and_parts (ltb a y.places) (ltb c y.places) p.0 in
    let o = and_parts (not (eqb (y.owner a) (y.owner c))) (shared (y.blocks a) (y.blocks c)) p.1 in
    record {
      first = ltb-true _ _ k.0;
      second = ltb-true _ _ k.1;
      others = eqb-false _ _ (not-true _ o.0);
      common = shared_common _ _ o.1;
    }

holds_conflict : (y : Yard) (a c : ℕ) → Conflict y a c → conflict y a c ≡ true
unfolding conflict
holds_conflict y a c k =
    and_from _ _ (and_from _ _ (lt-ltb _ _ k.first) (lt-ltb _ _ k.second))
    (and_from _ _ (not_from_false _ (ne_eqb _ _ k.others)) (common_shared _ _ k.common))

-- so the test tells of conflict
pub conflict_told : (y : Yard) (a c : ℕ) → (conflict y a c ≡ true) ↔ Conflict y a c
conflict_told y a c = (conflict_holds y a c, holds_conflict y a c)

-- what the test computes
pub conflict_computed : (y : Yard) (a c : ℕ) →
    conflict y a c ≡ ((ltb a y.places && ltb c y.places) && (not (eqb (y.owner a) (y.owner c)) && shared (y.blocks a) (y.blocks c)))
unfolding conflict
conflict_computed y a c = refl

turned : (y : Yard) (a c : ℕ) → Conflict y a c → Conflict y c a
turned y a c k = record {
  first = k.second;
  second = k.first;
  others = λ e. k.others (sym e);
  common = record { block = k.common.block; left = k.common.right; right = k.common.left };
}

pub conflict_turned : (y : Yard) (a c : ℕ) → conflict y a c ≡ conflict y c a
conflict_turned y a c = same_from_decides _ _ (conflict_told y a c) (Decides-like _ (turned y c a) (turned y a c) (conflict_told y c a))

carried : (y z : Yard) → Same y z → (a c : ℕ) → Conflict y a c → Conflict z a c
carried y z s a c k = record {
  first = omega (arith, s.places, k.first);
  second = omega (arith, s.places, k.second);
  others = λ e. k.others (sym (s.owner a k.first) ∙ e ∙ s.owner c k.second);
  common = rw (s.blocks a k.first, s.blocks c k.second) k.common;
}

-- yards that say the same have the same conflicts
pub conflict_same : (y z : Yard) → Same y z → (a c : ℕ) → conflict z a c ≡ conflict y a c
conflict_same y z s a c =
    same_from_decides _ _ (conflict_told z a c) (Decides-like _ (carried y z s a c) (carried z y (same_turned y z s) a c) (conflict_told y a c))

pub pairs_same : (y z : Yard) → Same y z → pairs z ≡ pairs y
pairs_same y z s =
    ap (λ n. summed n (λ c. tally c (λ a. conflict z a c))) s.places
    ∙ summed_same y.places (λ c. tally c (λ a. conflict z a c)) (λ c. tally c (λ a. conflict y a c)) (λ c h.
    tally_same c (λ a. conflict z a c) (λ a. conflict y a c) (λ a l. conflict_same y z s a c))
