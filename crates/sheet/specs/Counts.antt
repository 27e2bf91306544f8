-- How many places and moves there are.
use Rattle.std.specs.Prelude.{ℕ, ◌+◌, cond, nat_eq}
use Rattle.blocks.specs.Members.{tally}
use Rattle.listing.specs.Scans.{summed}
use Rattle.listing.specs.Yards.{Yard}
use Rattle.listing.specs.declared.place.Destination.TheVariants.{Place, Out}

-- the places of a train
abbrev pub own_places : Yard → ℕ → ℕ
own_places y t = tally y.places (λ p. nat_eq (y.owner p) t)

-- the moves from a place
abbrev pub onward : Yard → ℕ → ℕ
onward y p = tally y.places (λ q. y.move p (Place q)) + cond (y.move p Out) 1 0

-- the moves of all places, each once however often it is listed
abbrev pub moves : Yard → ℕ
moves y = summed y.places (onward y)
