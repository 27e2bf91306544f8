-- The movement net of a train: its moves, and the blocks that each enters.
use Rattle.std.specs.Prelude.{◌≡◌, ℕ, ◌+◌, ◌<◌, Bool, true, cond, ◌&&◌, ℤ, pos, ◌==◌, nat_lt}
use Rattle.blocks.specs.Members.{lacked}
use Rattle.listing.specs.Yards.{Yard}
use Rattle.listing.specs.declared.place.Destination.{Destination}
use Rattle.listing.specs.declared.place.Destination.TheVariants.{Place, Out}

-- the node of a destination of train t: arrival at place p is node p, and train t out is node 84 + t
abbrev pub event : ℕ → Destination → ℕ
event t (Place p) = p
event t Out = 84 + t

-- a move of train t leads from node a to node b
pub record Leads (y : Yard) (t a b : ℕ) : Type 0 where
  pub known : a < y.places
  pub own : y.owner a ≡ t
  pub to : Destination
  pub move : y.move a to ≡ true
  pub arrives : event t to ≡ b

-- the same, as a test; its law is that it decides Leads in a yard that keeps the rules of its parts
unfoldable pub arcs : Yard → ℕ → ℕ → ℕ → Bool
arcs y t a b =
    (nat_lt a y.places && y.owner a == t) && cond (nat_lt b 84) (y.move a (Place b)) (b == 84 + t && y.move a Out)

-- the blocks of the place entered that the place left lacks; a move out enters none
unfoldable pub weighs : Yard → ℕ → ℕ → ℤ
weighs y a b = cond (nat_lt a y.places && nat_lt b y.places) (pos (lacked (y.blocks b) (y.blocks a))) (pos 0)
