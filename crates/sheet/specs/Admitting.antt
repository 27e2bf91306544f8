-- What content gets that is checked against the rules of the whole yard.
use Rattle.std.specs.Prelude.{◌≡◌, ℕ, ◌<◌, ◌≤◌, List, Ok, Err, Result}
use Rattle.listing.specs.Bytes.{yard_in}
use Rattle.listing.specs.Listings.{yard as listed_yard}
use Rattle.listing.specs.Yards.{Same}
use Rattle.listing.specs.declared.content.Listing.{Listing}
use Rattle.sheet.specs.Conflicts.{pairs}
use Rattle.sheet.specs.Lawful.{Lawful, NoCircles, StartsApart, FirstCircle, FirstShared}
use Rattle.sheet.specs.Reading.{WellFormed, Refused}
use Rattle.sheet.specs.Sheets.{yard}
use Rattle.sheet.specs.declared.fault.SheetFault.{SheetFault}
use Rattle.sheet.specs.declared.fault.SheetFault.TheVariants.{Walk, Listed, Circle, SharedStart, TooManyConflicts}
use Rattle.sheet.specs.declared.sheet.Sheet.{Sheet}

-- content that keeps the rules as it is, or the first rule that it breaks
abbrev pub Admitted : Listing → Result Sheet SheetFault → Type 0
Admitted l (Ok s) = (s.listing ≡ l) × Lawful (listed_yard l)
Admitted l (Err (Walk f)) = ⊥
Admitted l (Err (Listed f)) = ⊥
Admitted l (Err (Circle t)) = FirstCircle (listed_yard l) t
Admitted l (Err (SharedStart p)) = NoCircles (listed_yard l) × FirstShared (listed_yard l) p
Admitted l (Err TooManyConflicts) = NoCircles (listed_yard l) × StartsApart (listed_yard l) × (1000 < pairs (listed_yard l))

-- the sheet that the bytes say, or their refusal
abbrev pub Parsed : List ℕ → ℕ → Result Sheet SheetFault → Type 0
Parsed b marks (Ok s) = (96 ≤ marks) × WellFormed b × Same (yard_in b) (yard s)
Parsed b marks (Err f) = Refused b marks f
