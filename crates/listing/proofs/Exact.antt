-- Bytes either are well listed or stop at one fault.
use Rattle.std.proofs.Common.{◌≡◌, ℕ, ◌<◌, ◌≤◌, true, ◌⊎◌, ◌↔◌, List, is_ok, Ok, Err, Result, sym, refl, ap, ◌∙◌, subst, inl, inr, arith}
use Rattle.std.proofs.lemmas.Bool.{cases_lt, cases_eq}
use Rattle.listing.specs.declared.fault.ListingFault.{ListingFault}
use Rattle.listing.specs.declared.fault.ListingFault.TheVariants.{UnknownTrain, TrainWithoutPlace, EmptySet, NoSuchOrigin, NoSuchDestination, OtherTrain}
use Rattle.listing.specs.Yards.{start}
use Rattle.listing.specs.Shape.{Shaped}
use Rattle.listing.specs.Bytes.{yard_in, from_of, to_of, owner_at, set_at, from_at, to_at}
use Rattle.listing.specs.Rules.{Rule, trains_there, trains_ranged, places_there, places_ranged, owners_there, owners_known, trains_placed, sets_there, sets_filled, count_there, count_ranged, moves_there, nothing_over, moves_allowed, Allowed, NotAllowed, from_nowhere, to_nowhere, other_train, Holds, Breaks, WellListed, StopsAt, Checked, rules}
use Rattle.listing.specs.Order.{AllHold}
use Rattle.listing.proofs.Ordered.{all_listed, never_stops, stops_once, all_or_stops}
use Rattle.listing.proofs.Scanned.{first_once, first_or_all}
use Rattle.listing.proofs.Moving.{moves_start, moves_stay}

-- the list has each rule
pub each_rule : (b : List ℕ) → AllHold (Holds b) rules → WellListed b
each_rule b h trains_there = h.0
each_rule b h trains_ranged = h.1.0
each_rule b h places_there = h.1.1.0
each_rule b h places_ranged = h.1.1.1.0
each_rule b h owners_there = h.1.1.1.1.0
each_rule b h owners_known = h.1.1.1.1.1.0
each_rule b h trains_placed = h.1.1.1.1.1.1.0
each_rule b h sets_there = h.1.1.1.1.1.1.1.0
each_rule b h sets_filled = h.1.1.1.1.1.1.1.1.0
each_rule b h count_there = h.1.1.1.1.1.1.1.1.1.0
each_rule b h count_ranged = h.1.1.1.1.1.1.1.1.1.1.0
each_rule b h moves_there = h.1.1.1.1.1.1.1.1.1.1.1.0
each_rule b h nothing_over = h.1.1.1.1.1.1.1.1.1.1.1.1.0
each_rule b h moves_allowed = h.1.1.1.1.1.1.1.1.1.1.1.1.1.0

pub shaped : (b : List ℕ) → WellListed b → Shaped (yard_in b)
shaped b w = record {
  trains_ranged = w trains_ranged;
  places_ranged = w places_ranged;
  owners_known = w owners_known;
  trains_placed = w trains_placed;
  sets_filled = w sets_filled;
  moves_start = moves_start b (w moves_allowed);
  moves_stay = moves_stay b (w moves_allowed);
}

outside : (low n high : ℕ) → (low ≤ n) × (n ≤ high) → (n < low) ⊎ (high < n) → ⊥
outside low n high h (inl k) = omega arith
outside low n high h (inr k) = omega arith

refused : (b : List ℕ) (m : ℕ) (f : ListingFault) → Allowed b m → NotAllowed b m f → ⊥
refused b m f a (from_nowhere h e) = let k = a.0 in omega arith
refused b m f a (to_nowhere h k ne e) = ne (a.1 k)
refused b m f a (other_train h k ne e) = ne (a.2 k)

-- no rule both holds and is broken
pub rule_apart : (b : List ℕ) (r : Rule) (f : ListingFault) → Holds b r → Breaks b r f → ⊥
rule_apart b trains_there f h k = let l = k.0 in omega arith
rule_apart b trains_ranged f h k = outside _ _ _ h k.0
rule_apart b places_there f h k = let l = k.0 in omega arith
rule_apart b places_ranged f h k = outside _ _ _ h k.0
rule_apart b owners_there f h k = let l = k.0 in omega arith
rule_apart b owners_known f h k = let low = h k.at k.below in let high = k.fault.0 in omega arith
rule_apart b trains_placed f h k = let low = h k.at k.below in let high = k.fault.0 in omega arith
rule_apart b sets_there f h k = let l = k.0 in omega arith
rule_apart b sets_filled f h k = h k.at k.below k.fault.0
rule_apart b count_there f h k = let l = k.0 in omega arith
rule_apart b count_ranged f h k = let l = k.0 in omega arith
rule_apart b moves_there f h k = let l = k.0 in omega arith
rule_apart b nothing_over f h k = let l = k.0 in omega arith
rule_apart b moves_allowed f h k = refused b k.at f (h k.at k.below) k.fault

refused_once : (b : List ℕ) (m : ℕ) (f g : ListingFault) → NotAllowed b m f → NotAllowed b m g → f ≡ g
refused_once b m f g (from_nowhere h e) (from_nowhere h' e') = e ∙ sym e'
refused_once b m f g (from_nowhere h e) (to_nowhere h' k' ne' e') = absurd (omega arith)
refused_once b m f g (from_nowhere h e) (other_train h' k' ne' e') = absurd (omega arith)
refused_once b m f g (to_nowhere h k ne e) (from_nowhere h' e') = absurd (omega arith)
refused_once b m f g (to_nowhere h k ne e) (to_nowhere h' k' ne' e') = e ∙ sym e'
refused_once b m f g (to_nowhere h k ne e) (other_train h' k' ne' e') = absurd (omega arith)
refused_once b m f g (other_train h k ne e) (from_nowhere h' e') = absurd (omega arith)
refused_once b m f g (other_train h k ne e) (to_nowhere h' k' ne' e') = absurd (omega arith)
refused_once b m f g (other_train h k ne e) (other_train h' k' ne' e') = e ∙ sym e'

-- a rule is broken in one way
pub rule_once : (b : List ℕ) (r : Rule) (f g : ListingFault) → Breaks b r f → Breaks b r g → f ≡ g
rule_once b trains_there f g s t = s.1 ∙ sym t.1
rule_once b trains_ranged f g s t = s.1 ∙ sym t.1
rule_once b places_there f g s t = s.1 ∙ sym t.1
rule_once b places_ranged f g s t = s.1 ∙ sym t.1
rule_once b owners_there f g s t = s.1 ∙ sym t.1
rule_once b owners_known f g s t = first_once _ _ _ (λ i x h k. let high = k.0 in omega arith) (λ i x y h k. h.1 ∙ sym k.1) f g s t
rule_once b trains_placed f g s t = first_once _ _ _ (λ i x h k. let high = k.0 in omega arith) (λ i x y h k. h.1 ∙ sym k.1) f g s t
rule_once b sets_there f g s t = s.1 ∙ sym t.1
rule_once b sets_filled f g s t = first_once _ _ _ (λ i x h k. h k.0) (λ i x y h k. h.1 ∙ sym k.1) f g s t
rule_once b count_there f g s t = s.1 ∙ sym t.1
rule_once b count_ranged f g s t = s.1 ∙ sym t.1
rule_once b moves_there f g s t = s.1 ∙ sym t.1
rule_once b nothing_over f g s t = s.1 ∙ sym t.1
rule_once b moves_allowed f g s t = first_once _ _ _ (refused b) (refused_once b) f g s t

-- a limit is kept, or passed with this fault
kept : (m n : ℕ) (g : ListingFault) → (m ≤ n) ⊎ ((f : ListingFault) × ((n < m) × (f ≡ g)))
kept m n g = elim (cases_lt n m) [ inl past ↦ inr (g, (past, refl)) | inr fits ↦ inl fits ]

ranged : (low n high : ℕ) (g : ListingFault)
    → ((low ≤ n) × (n ≤ high)) ⊎ ((f : ListingFault) × (((n < low) ⊎ (high < n)) × (f ≡ g)))
ranged low n high g = elim (cases_lt n low) [
  | inl short ↦ inr (g, (inl short, refl))
  | inr fits ↦ elim (cases_lt high n) [ inl past ↦ inr (g, (inr past, refl)) | inr fits' ↦ inl (fits, fits') ]
]

allowed_or : (b : List ℕ) (m : ℕ) → Allowed b m ⊎ ((f : ListingFault) × NotAllowed b m f)
allowed_or b m = elim (cases_lt (from_of b m) (yard_in b).places) [
  | inr nowhere ↦ inr (NoSuchOrigin (from_at b m), from_nowhere nowhere refl)
  | inl from ↦ elim (cases_lt (to_of b m) (yard_in b).places) [
    | inl near ↦ elim (cases_eq ((yard_in b).owner (from_of b m)) ((yard_in b).owner (to_of b m))) [
      | inl same ↦ inl (from, λ far. absurd (omega arith), λ _. same)
      | inr other ↦ inr (OtherTrain (from_at b m), other_train from near other refl)
    ]
    | inr far ↦ elim (cases_eq (to_of b m) 255) [
      | inl out ↦ inl (from, λ _. out, λ near. absurd (omega arith))
      | inr nowhere ↦ inr (NoSuchDestination (to_at b m), to_nowhere from far nowhere refl)
    ]
  ]
]

-- each rule holds or is broken
pub rule_either : (b : List ℕ) (r : Rule) → Holds b r ⊎ ((f : ListingFault) × Breaks b r f)
rule_either b trains_there = kept _ _ _
rule_either b trains_ranged = ranged _ _ _ _
rule_either b places_there = kept _ _ _
rule_either b places_ranged = ranged _ _ _ _
rule_either b owners_there = kept _ _ _
rule_either b owners_known = first_or_all _ _ _ (λ p. elim (cases_lt ((yard_in b).owner p) (yard_in b).trains) [
  | inl known ↦ inl known
  | inr unknown ↦ inr (UnknownTrain (owner_at b p), (unknown, refl))
])
rule_either b trains_placed = first_or_all _ _ _ (λ t. elim (cases_lt (start (yard_in b) t) (yard_in b).places) [
  | inl placed ↦ inl placed
  | inr nowhere ↦ inr (TrainWithoutPlace, (nowhere, refl))
])
rule_either b sets_there = kept _ _ _
rule_either b sets_filled = first_or_all _ _ _ (λ p. elim (cases_eq ((yard_in b).blocks p) 0) [
  | inl empty ↦ inr (EmptySet (set_at b p), (empty, refl))
  | inr filled ↦ inl filled
])
rule_either b count_there = kept _ _ _
rule_either b count_ranged = kept _ _ _
rule_either b moves_there = kept _ _ _
rule_either b nothing_over = kept _ _ _
rule_either b moves_allowed = first_or_all _ _ _ (allowed_or b)

-- bytes are well listed or stop at a fault, not both, and at one fault only
pub either : (b : List ℕ) → WellListed b ⊎ ((f : ListingFault) × StopsAt b f)
either b = elim (all_or_stops (Holds b) (Breaks b) (rule_either b) rules) [ inl all ↦ inl (each_rule b all) | inr w ↦ inr w ]

pub apart : (b : List ℕ) (f : ListingFault) → WellListed b → StopsAt b f → ⊥
apart b f w s = never_stops (Holds b) (Breaks b) (rule_apart b) rules f (all_listed (Holds b) w rules) s

pub once : (b : List ℕ) (f g : ListingFault) → StopsAt b f → StopsAt b g → f ≡ g
once b f g s t = stops_once (Holds b) (Breaks b) (rule_apart b) (rule_once b) rules f g s t

-- so what a check of all rules answers says which of the two it is
pub accepted : {U : Type 0} (b : List ℕ) (r : Result U ListingFault) → Checked b rules r → (is_ok r ≡ true) ↔ WellListed b
accepted b (Ok u) k = (λ _. each_rule b k, λ _. refl)
accepted b (Err f) k = (λ e. let z : ◌≡◌ {A = ℕ} 0 1 = cc in absurd (omega arith), λ w. absurd (apart b f w k))

pub stopped : {U : Type 0} (b : List ℕ) (r : Result U ListingFault) → Checked b rules r → (f : ListingFault) → (r ≡ Err f) ↔ StopsAt b f
stopped b (Ok u) k f = (λ e. let z : ◌≡◌ {A = ℕ} 0 1 = cc in absurd (omega arith), λ s. absurd (apart b f (each_rule b k) s))
stopped b (Err g) k f = (
  λ e. let same : g ≡ f = cc in subst (λ x. StopsAt b x) same k,
  λ s. ap Err (once b g f k s),
)
