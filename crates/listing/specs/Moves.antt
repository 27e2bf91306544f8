-- Moves and where they lead.
use Rattle.std.specs.Prelude.{ℕ, Bool, true, false, ◌&&◌, ◌||◌, List, [], ◌∷◌, ◌==◌}
use Rattle.listing.specs.declared.place.Move.{Move}
use Rattle.listing.specs.declared.place.Destination.{Destination}
use Rattle.listing.specs.declared.place.Destination.TheVariants.{Place, Out}

abbrev pub same_destination : Destination → Destination → Bool
same_destination (Place p) (Place q) = p == q
same_destination (Place p) Out = false
same_destination Out (Place q) = false
same_destination Out Out = true

-- the move leads from p to d
abbrev pub leads : Move → ℕ → Destination → Bool
leads m p d = m.from == p && same_destination m.to d

-- some move of the list leads from p to d
abbrev pub some_leads : List Move → ℕ → Destination → Bool
some_leads [] p d = false
some_leads (m ∷ ms) p d = leads m p d || some_leads ms p d
