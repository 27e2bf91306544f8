-- Bytes either are a sheet or get one refusal.
use Rattle.std.proofs.Common.{IsErrAnd, ◌≡◌, ℕ, ◌≤◌, List, Ok, Err, Result, sym, refl, ap, subst, inl, inr, arith}
use Rattle.std.proofs.lemmas.Bool.{cases_order}
use Rattle.listing.specs.Bytes.{yard_in}
use Rattle.listing.specs.Rules.{WellListed, StopsAt}
use Rattle.listing.specs.declared.fault.ListingFault.{ListingFault}
use Rattle.listing.specs.Yards.{Yard, Same}
use Rattle.listing.proofs.Agreeing.{same_turned}
use Rattle.listing.proofs.Exact.{shaped, apart, once}
use Rattle.sheet.specs.Lawful.{NoCircles, StartsApart, FirstCircle, FirstShared}
use Rattle.listing.specs.Listings.{yard as listed_yard}
use Rattle.listing.specs.declared.content.Listing.{Listing}
use Rattle.sheet.specs.Admitting.{Admitted, Parsed}
use Rattle.sheet.specs.declared.sheet.Sheet.{Sheet}
use Rattle.sheet.proofs.Agreeing.{lawful_same, no_circles_same, starts_apart_same, first_circle_same, first_shared_same}
use Rattle.sheet.proofs.Conflicting.{pairs_same}
use Rattle.sheet.specs.Reading.{WellFormed, Refused, short_marks, not_listed, circular, start_shared, crowded}
use Rattle.sheet.specs.declared.fault.SheetFault.{SheetFault}
use Rattle.sheet.specs.declared.fault.SheetFault.TheVariants.{Walk, Listed, Circle, SharedStart, TooManyConflicts}
use Rattle.sheet.proofs.Starts.{not_shared}

no_first_circle : (y : Yard) (t : ℕ) → NoCircles y → FirstCircle y t → ⊥
no_first_circle y t none f = none t f.known f.circle.0 f.circle.1

no_first_shared : (b : List ℕ) (p : ℕ) → WellListed b → StartsApart (yard_in b) → FirstShared (yard_in b) p → ⊥
no_first_shared b p w apart f = not_shared (yard_in b) (shaped b w).owners_known apart p f.here

-- the lowest train and the lowest start are each one
circle_once : (y : Yard) (t u : ℕ) → FirstCircle y t → FirstCircle y u → t ≡ u
circle_once y t u f g = elim (cases_order t u) [
  | inl e ↦ e
  | inr k ↦ elim k [
    | inl l ↦ absurd (g.lower t l f.circle.0 f.circle.1)
    | inr l ↦ absurd (f.lower u l g.circle.0 g.circle.1)
  ]
]

shared_once : (y : Yard) (p q : ℕ) → FirstShared y p → FirstShared y q → p ≡ q
shared_once y p q f g = elim (cases_order p q) [
  | inl e ↦ e
  | inr k ↦ elim k [
    | inl l ↦ absurd (g.lower p l f.here)
    | inr l ↦ absurd (f.lower q l g.here)
  ]
]

-- what is well-formed is not refused
pub never_refused : (b : List ℕ) (m : ℕ) {f : SheetFault} → 96 ≤ m → WellFormed b → Refused b m f → ⊥
never_refused b m h w (short_marks k) = omega arith
never_refused b m h w (not_listed {f = f} k s) = apart b f w.listed s
never_refused b m h w (circular {t = t} k l c) = no_first_circle (yard_in b) t w.lawful.no_circles c
never_refused b m h w (start_shared {p = p} k l n s) = no_first_shared b p l w.lawful.starts_apart s
never_refused b m h w (crowded k l n s c) = omega (arith, w.lawful.conflicts_few)

-- what is refused is refused in one way
pub refused_once : (b : List ℕ) (m : ℕ) {f g : SheetFault} → Refused b m f → Refused b m g → f ≡ g
refused_once b m (short_marks h) (short_marks k) = refl
refused_once b m (short_marks h) (not_listed k s) = absurd (omega arith)
refused_once b m (short_marks h) (circular k l c) = absurd (omega arith)
refused_once b m (short_marks h) (start_shared k l n s) = absurd (omega arith)
refused_once b m (short_marks h) (crowded k l n s c) = absurd (omega arith)
refused_once b m (not_listed h s) (short_marks k) = absurd (omega arith)
refused_once b m (not_listed {f = f} h s) (not_listed {f = g} k r) = ap Listed (once b f g s r)
refused_once b m (not_listed {f = f} h s) (circular k l c) = absurd (apart b f l s)
refused_once b m (not_listed {f = f} h s) (start_shared k l n r) = absurd (apart b f l s)
refused_once b m (not_listed {f = f} h s) (crowded k l n r c) = absurd (apart b f l s)
refused_once b m (circular h l c) (short_marks k) = absurd (omega arith)
refused_once b m (circular h l c) (not_listed {f = g} k s) = absurd (apart b g l s)
refused_once b m (circular {t = t} h l c) (circular {t = u} k l' d) = ap Circle (circle_once (yard_in b) t u c d)
refused_once b m (circular {t = t} h l c) (start_shared k l' n s) = absurd (no_first_circle (yard_in b) t n c)
refused_once b m (circular {t = t} h l c) (crowded k l' n s d) = absurd (no_first_circle (yard_in b) t n c)
refused_once b m (start_shared h l n s) (short_marks k) = absurd (omega arith)
refused_once b m (start_shared h l n s) (not_listed {f = g} k r) = absurd (apart b g l r)
refused_once b m (start_shared h l n s) (circular {t = u} k l' d) = absurd (no_first_circle (yard_in b) u n d)
refused_once b m (start_shared {p = p} h l n s) (start_shared {p = q} k l' n' r) = ap SharedStart (shared_once (yard_in b) p q s r)
refused_once b m (start_shared {p = p} h l n s) (crowded k l' n' r d) = absurd (no_first_shared b p l r s)
refused_once b m (crowded h l n s c) (short_marks k) = absurd (omega arith)
refused_once b m (crowded h l n s c) (not_listed {f = g} k r) = absurd (apart b g l r)
refused_once b m (crowded h l n s c) (circular {t = u} k l' d) = absurd (no_first_circle (yard_in b) u n d)
refused_once b m (crowded h l n s c) (start_shared {p = q} k l' n' r) = absurd (no_first_shared b q l s r)
refused_once b m (crowded h l n s c) (crowded k l' n' r d) = refl

-- bytes that are not a listing are no sheet
pub unlisted : (b : List ℕ) (m : ℕ) (f : ListingFault) (r : Result Sheet SheetFault) → IsErrAnd r (λ g. g ≡ Listed f) → 96 ≤ m → StopsAt b f → Parsed b m r
unlisted b m f (Ok x) e h s = absurd e
unlisted b m f (Err g) e h s = subst (λ k. Refused b m k) (sym e) (not_listed h s)

-- content that is checked says of its bytes what it says of itself
module _ (b : List ℕ) (m : ℕ) (h : 96 ≤ m) (w : WellListed b) (l : Listing) (s : Same (yard_in b) (listed_yard l)) where
  back : Same (listed_yard l) (yard_in b)
  back = same_turned (yard_in b) (listed_yard l) s

  pub parsed : (r : Result Sheet SheetFault) → Admitted l r → Parsed b m r
  parsed (Ok x) a = (
    h,
    record { listed = w; lawful = lawful_same (listed_yard l) (yard_in b) back a.1 },
    subst (λ k. Same (yard_in b) (listed_yard k)) (sym a.0) s,
  )
  parsed (Err (Walk f)) a = absurd a
  parsed (Err (Listed f)) a = absurd a
  parsed (Err (Circle t)) a = circular h w (first_circle_same (listed_yard l) (yard_in b) back t a)
  parsed (Err (SharedStart p)) a =
      start_shared h w (no_circles_same (listed_yard l) (yard_in b) back a.0) (first_shared_same (listed_yard l) (yard_in b) back p a.1)
  parsed (Err TooManyConflicts) a =
      crowded h w (no_circles_same (listed_yard l) (yard_in b) back a.0) (starts_apart_same (listed_yard l) (yard_in b) back a.1)
      (omega (arith, pairs_same (listed_yard l) (yard_in b) back, a.2))
