-- What a listing says.
use Rattle.std.specs.Prelude.{◌≡◌, ℕ, ◌<◌, ◌≤◌, ◌&&◌, Option, MatchOption, ◌==◌}
use Rattle.listing.specs.declared.place.Place.{Place}
use Rattle.listing.specs.declared.place.Destination.TheVariants as destination
use Rattle.listing.specs.Moves.{same_destination}
use Rattle.listing.specs.declared.content.Listing.{Listing}
use Rattle.listing.specs.Yards.{Yard}
use Rattle.listing.specs.Tables.{tabled}

abbrev pub yard : Listing → Yard
yard l = tabled l.train_count l.places.count l.places.entries l.moves.count l.moves.entries

-- the record of place p, or none where there is no such place
abbrev pub Read : Yard → ℕ → Option Place → Type 0
Read y p r = MatchOption r (y.places ≤ p) (λ x. (p < y.places) × (x.train ≡ y.owner p) × (x.blocks.bits ≡ y.blocks p))

-- one train in these blocks with one move, out
abbrev pub lone : ℕ → Yard
lone bits = record {
  trains = 1;
  places = 1;
  owner = λ p. 0;
  blocks = λ p. bits;
  move = λ p d. (0 == p) && same_destination destination.Out d;
}

-- the smallest listing: that train in block 0
abbrev pub fresh : Yard
fresh = lone 1
