-- The rules that the parts of a sheet keep, each by itself.
use Rattle.std.specs.Prelude.{◌≡◌, ℕ, ◌<◌, ◌≤◌, true, ◌≢◌}
use Rattle.listing.specs.Scans.{Each}
use Rattle.listing.specs.Yards.{Yard, start}
use Rattle.listing.specs.declared.place.Destination.{Destination}
use Rattle.listing.specs.declared.place.Destination.TheVariants.{Place}

abbrev pub TrainsRanged : Yard → Type 0
TrainsRanged y = (1 ≤ y.trains) × (y.trains ≤ 12)

abbrev pub PlacesRanged : Yard → Type 0
PlacesRanged y = (y.trains ≤ y.places) × (y.places ≤ 84)

abbrev pub OwnersKnown : Yard → Type 0
OwnersKnown y = Each y.places (λ p. y.owner p < y.trains)

-- some place belongs to train t
abbrev pub Placed : Yard → ℕ → Type 0
Placed y t = start y t < y.places

abbrev pub TrainsPlaced : Yard → Type 0
TrainsPlaced y = Each y.trains (Placed y)

abbrev pub SetsFilled : Yard → Type 0
SetsFilled y = Each y.places (λ p. y.blocks p ≢ 0)

-- moves start at places, and lead to places of the same train or out
abbrev pub MovesStart : Yard → Type 0
MovesStart y = (p : ℕ) (d : Destination) → y.move p d ≡ true → p < y.places

abbrev pub MovesStay : Yard → Type 0
MovesStay y = (p q : ℕ) → y.move p (Place q) ≡ true → (q < y.places) × (y.owner p ≡ y.owner q)

pub record Shaped (y : Yard) : Type 0 where
  pub trains_ranged : TrainsRanged y
  pub places_ranged : PlacesRanged y
  pub owners_known : OwnersKnown y
  pub trains_placed : TrainsPlaced y
  pub sets_filled : SetsFilled y
  pub moves_start : MovesStart y
  pub moves_stay : MovesStay y
