-- Where the parts of a sheet lie in its bytes, and what they say.
use Rattle.std.specs.Prelude.{◌≡◌, ℕ, ◌+◌, ◌*◌, cond, ◌&&◌, List, ◌==◌, slice_index}
use Rattle.listing.specs.Scans.{any}
use Rattle.listing.specs.Moves.{same_destination}
use Rattle.listing.specs.Yards.{Yard}
use Rattle.listing.specs.declared.place.Destination.{Destination}
use Rattle.listing.specs.declared.place.Destination.TheVariants as destinations
use Rattle.listing.specs.declared.place.Move.{Move}
use Rattle.listing.specs.declared.place.Place.{Place}

-- the byte at an offset
abbrev pub byte : List ℕ → ℕ → ℕ
byte b i = slice_index b i

-- a set of 8 bytes, the most significant first
abbrev pub set_from : List ℕ → ℕ → ℕ
set_from b at =
    byte b at * 72057594037927936 + byte b (at + 1) * 281474976710656 + byte b (at + 2) * 1099511627776
    + byte b (at + 3) * 4294967296 + byte b (at + 4) * 16777216 + byte b (at + 5) * 65536 + byte b (at + 6) * 256
    + byte b (at + 7)

-- the offsets: of the train of place p, of the set of place p, of the number of moves, of the two ends of move m, and of the end
abbrev pub owner_at : List ℕ → ℕ → ℕ
owner_at b p = 2 + p

abbrev pub set_at : List ℕ → ℕ → ℕ
set_at b p = 2 + byte b 1 + 8 * p

abbrev pub count_at : List ℕ → ℕ
count_at b = 2 + 9 * byte b 1

abbrev pub from_at : List ℕ → ℕ → ℕ
from_at b m = count_at b + 1 + m

abbrev pub to_at : List ℕ → ℕ → ℕ
to_at b m = count_at b + 1 + byte b (count_at b) + m

abbrev pub end_at : List ℕ → ℕ
end_at b = count_at b + 1 + 2 * byte b (count_at b)

-- how many moves are listed, and the two bytes of move m
abbrev pub listed : List ℕ → ℕ
listed b = byte b (count_at b)

abbrev pub from_of : List ℕ → ℕ → ℕ
from_of b m = byte b (from_at b m)

abbrev pub to_of : List ℕ → ℕ → ℕ
to_of b m = byte b (to_at b m)

-- where a byte leads: 255 is out
abbrev pub destination : ℕ → Destination
destination n = cond (n == 255) destinations.Out (destinations.Place n)

-- what the bytes say
abbrev pub yard_in : List ℕ → Yard
yard_in b = record {
  trains = byte b 0;
  places = byte b 1;
  owner = λ p. byte b (owner_at b p);
  blocks = λ p. set_from b (set_at b p);
  move = λ p d. any (listed b) (λ m. (from_of b m == p) && same_destination (destination (to_of b m)) d);
}

-- a record of place p that says what the bytes say, and one of listed move m
abbrev pub PlaceIn : List ℕ → ℕ → Place → Type 0
PlaceIn b p x = (x.train ≡ (yard_in b).owner p) × (x.blocks.bits ≡ (yard_in b).blocks p)

abbrev pub MoveIn : List ℕ → ℕ → Move → Type 0
MoveIn b m x = (x.from ≡ from_of b m) × (x.to ≡ destination (to_of b m))
