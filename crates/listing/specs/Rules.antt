-- The rules of a listing, in the order in which they are checked, and how each is broken.
use Rattle.std.specs.Prelude.{◌≡◌, ℕ, ◌+◌, ◌<◌, ◌≤◌, ◌≢◌, ◌⊎◌, List, [], ◌∷◌, ◌++◌, length, Result, MatchResult}
use Rattle.listing.specs.declared.fault.BytesFault.TheVariants.{Ended, LeftOver}
use Rattle.listing.specs.declared.fault.ListingFault.{ListingFault}
use Rattle.listing.specs.declared.fault.ListingFault.TheVariants.{Bytes, Size, UnknownTrain, TrainWithoutPlace, EmptySet, NoSuchOrigin, NoSuchDestination, OtherTrain}
use Rattle.listing.specs.Scans.{Each, First}
use Rattle.listing.specs.Shape.{TrainsRanged, PlacesRanged, OwnersKnown, Placed, TrainsPlaced, SetsFilled}
use Rattle.listing.specs.Yards.{start}
use Rattle.listing.specs.Bytes.{yard_in, listed, from_of, to_of, owner_at, set_at, count_at, from_at, to_at, end_at}
use Rattle.listing.specs.Order.{AllHold, Stops}

pub data Rule : Type 0 where
  trains_there : Rule
  trains_ranged : Rule
  places_there : Rule
  places_ranged : Rule
  owners_there : Rule
  owners_known : Rule
  trains_placed : Rule
  sets_there : Rule
  sets_filled : Rule
  count_there : Rule
  count_ranged : Rule
  moves_there : Rule
  nothing_over : Rule
  moves_allowed : Rule

abbrev pub train_rules : List Rule
train_rules = trains_there ∷ trains_ranged ∷ []

abbrev pub place_rules : List Rule
place_rules = places_there ∷ places_ranged ∷ []

abbrev pub owner_rules : List Rule
owner_rules = owners_there ∷ owners_known ∷ trains_placed ∷ []

abbrev pub set_rules : List Rule
set_rules = sets_there ∷ sets_filled ∷ []

abbrev pub count_rules : List Rule
count_rules = count_there ∷ count_ranged ∷ []

abbrev pub move_rules : List Rule
move_rules = moves_there ∷ nothing_over ∷ moves_allowed ∷ []

abbrev pub rules : List Rule
rules = train_rules ++ (place_rules ++ (owner_rules ++ (set_rules ++ (count_rules ++ move_rules))))

-- listed move m starts at a place, leads to a place or out, and stays with its train
abbrev pub Allowed : List ℕ → ℕ → Type 0
Allowed b m = (from_of b m < (yard_in b).places) × ((yard_in b).places ≤ to_of b m → to_of b m ≡ 255)
    × (to_of b m < (yard_in b).places → (yard_in b).owner (from_of b m) ≡ (yard_in b).owner (to_of b m))

-- listed move m is not allowed, and this is the first reason
pub data NotAllowed (b : List ℕ) (m : ℕ) (f : ListingFault) : Type 0 where
  from_nowhere : (yard_in b).places ≤ from_of b m → f ≡ NoSuchOrigin (from_at b m) → NotAllowed b m f
  to_nowhere : from_of b m < (yard_in b).places → (yard_in b).places ≤ to_of b m → to_of b m ≢ 255
      → f ≡ NoSuchDestination (to_at b m) → NotAllowed b m f
  other_train : from_of b m < (yard_in b).places → to_of b m < (yard_in b).places
      → (yard_in b).owner (from_of b m) ≢ (yard_in b).owner (to_of b m) → f ≡ OtherTrain (from_at b m) → NotAllowed b m f

abbrev pub Holds : List ℕ → Rule → Type 0
Holds b trains_there = 1 ≤ length b
Holds b trains_ranged = TrainsRanged (yard_in b)
Holds b places_there = 2 ≤ length b
Holds b places_ranged = PlacesRanged (yard_in b)
Holds b owners_there = owner_at b (yard_in b).places ≤ length b
Holds b owners_known = OwnersKnown (yard_in b)
Holds b trains_placed = TrainsPlaced (yard_in b)
Holds b sets_there = set_at b (yard_in b).places ≤ length b
Holds b sets_filled = SetsFilled (yard_in b)
Holds b count_there = count_at b + 1 ≤ length b
Holds b count_ranged = listed b ≤ 200
Holds b moves_there = end_at b ≤ length b
Holds b nothing_over = length b ≤ end_at b
Holds b moves_allowed = Each (listed b) (Allowed b)

abbrev pub Breaks : List ℕ → Rule → ListingFault → Type 0
Breaks b trains_there f = (length b < 1) × (f ≡ Bytes (Ended (length b)))
Breaks b trains_ranged f = (((yard_in b).trains < 1) ⊎ (12 < (yard_in b).trains)) × (f ≡ Size 0)
Breaks b places_there f = (length b < 2) × (f ≡ Bytes (Ended (length b)))
Breaks b places_ranged f = (((yard_in b).places < (yard_in b).trains) ⊎ (84 < (yard_in b).places)) × (f ≡ Size 1)
Breaks b owners_there f = (length b < owner_at b (yard_in b).places) × (f ≡ Bytes (Ended (length b)))
Breaks b owners_known f = First (yard_in b).places (λ p. (yard_in b).owner p < (yard_in b).trains)
    (λ p g. ((yard_in b).trains ≤ (yard_in b).owner p) × (g ≡ UnknownTrain (owner_at b p))) f
Breaks b trains_placed f = First (yard_in b).trains (Placed (yard_in b))
    (λ t g. ((yard_in b).places ≤ start (yard_in b) t) × (g ≡ TrainWithoutPlace)) f
Breaks b sets_there f = (length b < set_at b (yard_in b).places) × (f ≡ Bytes (Ended (length b)))
Breaks b sets_filled f = First (yard_in b).places (λ p. (yard_in b).blocks p ≢ 0)
    (λ p g. ((yard_in b).blocks p ≡ 0) × (g ≡ EmptySet (set_at b p))) f
Breaks b count_there f = (length b < count_at b + 1) × (f ≡ Bytes (Ended (length b)))
Breaks b count_ranged f = (200 < listed b) × (f ≡ Size (count_at b))
Breaks b moves_there f = (length b < end_at b) × (f ≡ Bytes (Ended (length b)))
Breaks b nothing_over f = (end_at b < length b) × (f ≡ Bytes (LeftOver (end_at b)))
Breaks b moves_allowed f = First (listed b) (Allowed b) (NotAllowed b) f

-- the bytes keep every rule
abbrev pub WellListed : List ℕ → Type 0
WellListed b = (r : Rule) → Holds b r

-- the first rule that the bytes break is broken so
abbrev pub StopsAt : List ℕ → ListingFault → Type 0
StopsAt b f = Stops (Holds b) (Breaks b) rules f

-- what a check of these rules answers
abbrev pub Checked : List ℕ → List Rule → {U : Type 0} → Result U ListingFault → Type 0
Checked b rs r = MatchResult r (λ _. AllHold (Holds b) rs) (Stops (Holds b) (Breaks b) rs)
