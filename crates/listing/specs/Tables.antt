-- What tables of places and moves say.
use Rattle.std.specs.Prelude.{ℕ, List, get_or, slice_index_or}
use Rattle.listing.specs.Scans.{any}
use Rattle.listing.specs.Moves.{leads}
use Rattle.listing.specs.Yards.{Yard}
use Rattle.listing.specs.declared.place.Place.{Place}
use Rattle.listing.specs.declared.place.Move.{Move}
use Rattle.listing.specs.declared.place.Destination.TheVariants as destination

-- the entries past the end of a table
abbrev pub no_place : Place
no_place = record { train = 0; blocks = record { bits = 0 } }

abbrev pub no_move : Move
no_move = record { from = 0; to = destination.Place 0 }

abbrev pub tabled : ℕ → ℕ → List Place → ℕ → List Move → Yard
tabled trains places ps moves ms = record {
  trains = trains;
  places = places;
  owner = λ p. (get_or ps p no_place).train;
  blocks = λ p. (get_or ps p no_place).blocks.bits;
  move = λ p d. any moves (λ m. leads (slice_index_or ms m no_move) p d);
}
