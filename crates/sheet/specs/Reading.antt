-- When bytes are a sheet, and which refusal they get otherwise.
use Rattle.std.specs.Prelude.{◌≡◌, ℕ, ◌<◌, ◌≤◌, List, Some, None, Ok, Err, Option, Result}
use Rattle.net.specs.Marks.{Cleared}
use Rattle.net.specs.declared.fault.WalkFault.TheVariants.{ShortMarks}
use Rattle.listing.specs.Bytes.{yard_in}
use Rattle.listing.specs.Rules.{WellListed, StopsAt}
use Rattle.listing.specs.declared.fault.ListingFault.{ListingFault}
use Rattle.sheet.specs.Conflicts.{pairs}
use Rattle.sheet.specs.Lawful.{Lawful, NoCircles, StartsApart, FirstCircle, FirstShared}
use Rattle.sheet.specs.declared.fault.SheetFault.{SheetFault}
use Rattle.sheet.specs.declared.fault.SheetFault.TheVariants.{Walk, Listed, Circle, SharedStart, TooManyConflicts}

-- the bytes keep every rule of a sheet
pub record WellFormed (b : List ℕ) : Type 0 where
  pub listed : WellListed b
  pub lawful : Lawful (yard_in b)

-- with so many marks the bytes are refused so; what is checked before holds
pub data Refused (b : List ℕ) (marks : ℕ) : SheetFault → Type 0 where
  short_marks : marks < 96 → Refused b marks (Walk ShortMarks)
  not_listed : {f : ListingFault} → 96 ≤ marks → StopsAt b f → Refused b marks (Listed f)
  circular : {t : ℕ} → 96 ≤ marks → WellListed b → FirstCircle (yard_in b) t → Refused b marks (Circle t)
  start_shared : {p : ℕ} → 96 ≤ marks → WellListed b → NoCircles (yard_in b) → FirstShared (yard_in b) p → Refused b marks (SharedStart p)
  crowded : 96 ≤ marks → WellListed b → NoCircles (yard_in b) → StartsApart (yard_in b) → 1000 < pairs (yard_in b) → Refused b marks TooManyConflicts

-- the marks are as before unless the nets were walked, which clears them
abbrev pub MarksRefused : List ℕ → List ℕ → SheetFault → Type 0
MarksRefused before after (Walk f) = after ≡ before
MarksRefused before after (Listed f) = after ≡ before
MarksRefused before after (Circle t) = Cleared before after
MarksRefused before after (SharedStart p) = Cleared before after
MarksRefused before after TooManyConflicts = Cleared before after

abbrev pub MarksLeft : {U : Type 0} → List ℕ → List ℕ → Result U SheetFault → Type 0
MarksLeft before after (Ok u) = Cleared before after
MarksLeft before after (Err f) = MarksRefused before after f

-- the fault of a refusal
abbrev pub fault_of : {U : Type 0} → Result U SheetFault → Option SheetFault
fault_of (Ok u) = None
fault_of (Err f) = Some f
