-- What a walk over the first entries of a table finds.
use Rattle.std.proofs.Common.{◌≡◌, ℕ, zero, suc, ◌+◌, ◌<◌, ◌≤◌, Bool, false, ◌&&◌, ◌||◌, eqb, List, [], ◌∷◌, length, get_or, take, drop, refl, sym, ap, ap₂, ◌∙◌, add-one, zero-add, arith}
use Rattle.std.specs.List.{list_any, range_with_len}
use Rattle.std.proofs.lemmas.Bool.{eq-eqb, eqb-true}
use Rattle.std.proofs.lemmas.List.{take_all, at_drop_more, at_drop_all}
use Rattle.std.proofs.lemmas.List.FromFn.{length-range_with_len, get_or-range_with_len}
use Rattle.std.proofs.lemmas.List.Folds.{list_any_more}
use Rattle.listing.specs.declared.place.Destination.{Destination}
use Rattle.listing.specs.declared.place.Destination.TheVariants.{Place, Out}
use Rattle.listing.specs.declared.place.Move.{Move}
use Rattle.listing.specs.declared.content.Listing.{Listing}
use Rattle.listing.specs.Listings.{yard}
use Rattle.listing.proofs.Drawn.{drawn}
use Rattle.listing.specs.Moves.{same_destination, leads, some_leads}
use Rattle.listing.specs.contracts.place.DestinationPartialEq.TheImpl as destinations
use Rattle.listing.specs.contracts.place.MovePartialEq.TheImpl as moves
use Rattle.listing.specs.Tables.{no_move, no_place}
use Rattle.listing.specs.Scans.{any}
use Rattle.listing.specs.Yards.{start}
use Rattle.listing.proofs.Scanned.{any_same, lowest_passes, lowest_most}

-- the derived `==` of two destinations says whether they are the same
pub same_equal : (d e : Destination) → destinations.ghosts.eq d e ≡ same_destination d e
same_equal (Place p) (Place q) = refl
same_equal (Place p) Out = refl
same_equal Out (Place q) = refl
same_equal Out Out = refl

-- the derived `==` of two moves says whether the one leads where the other does
pub leads_equal : (ms : List Move) (p : ℕ) (d : Destination)
    → list_any (λ m. moves.ghosts.eq m (record { from = p; to = d })) ms ≡ some_leads ms p d
leads_equal [] p d = refl
leads_equal (m ∷ ms) p d = ap₂ (λ here rest. (eqb m.from p && here) || rest) (same_equal m.to d) (leads_equal ms p d)

some_listed : (ms : List Move) (p : ℕ) (d : Destination) → some_leads ms p d ≡ list_any (λ m. leads m p d) ms
some_listed [] p d = refl
some_listed (m ∷ ms) p d = ap (λ rest. leads m p d || rest) (some_listed ms p d)

-- one of the first entries passes
any_listed : {X : Type 0} (test : X → Bool) (xs : List X) (d : X) (n : ℕ) → n ≤ length xs
    → list_any test (take n xs) ≡ any n (λ i. test (get_or xs i d))
any_listed test xs d zero h = refl
any_listed test xs d (suc n) h =
    let more = list_any_more test xs n d (omega arith) in
    (rw add-one at more) ∙ ap (λ b. b || test (get_or xs n d)) (any_listed test xs d n (omega arith))

-- one of the numbers below n passes
pub any_ranged : (n : ℕ) (test : ℕ → Bool) → list_any test (range_with_len 0 n) ≡ any n test
any_ranged n test =
    let size = length-range_with_len 0 n in
    ap (list_any test) (sym (take_all n (range_with_len 0 n) (omega arith)))
    ∙ any_listed test (range_with_len 0 n) 0 n (omega arith)
    ∙ any_same n _ _ (λ i h. ap test (get_or-range_with_len 0 n i 0 h ∙ zero-add i))

pub any_leads : (ms : List Move) (n p : ℕ) (d : Destination) → n ≤ length ms
    → some_leads (take n ms) p d ≡ any n (λ i. leads (get_or ms i no_move) p d)
any_leads ms n p d h = some_listed (take n ms) p d ∙ any_listed (λ m. leads m p d) ms no_move n h

-- of the moves from one on, that one leads there or a later one
pub leads_on : (ms : List Move) (i p : ℕ) (d : Destination) → i < length ms
    → some_leads (drop i ms) p d ≡ (leads (get_or ms i no_move) p d || some_leads (drop (i + 1) ms) p d)
leads_on ms i p d h = at_drop_more (λ xs. some_leads xs p d) ms i no_move h

pub leads_past : (ms : List Move) (i p : ℕ) (d : Destination) → length ms ≤ i → some_leads (drop i ms) p d ≡ false
leads_past ms i p d h = at_drop_all (λ xs. some_leads xs p d) ms i h

-- a train's start is a place of it, and each train has one
pub start_known : (l : Listing) (t : ℕ) → (start (yard l) t < l.places.count → (get_or l.places.entries (start (yard l) t) no_place).train ≡ t) × (t < l.train_count → start (yard l) t < l.places.count)
start_known l t = (
  λ h. eqb-true _ _ (lowest_passes l.places.count (λ p. eqb (get_or l.places.entries p no_place).train t) h),
  λ h. (drawn (yard l) l.shaped).trains_placed t h,
)

-- a place belongs to a train, which starts no later
pub owner_known : (l : Listing) (p : ℕ) → p < l.places.count
    → ((get_or l.places.entries p no_place).train < l.train_count) × (start (yard l) (get_or l.places.entries p no_place).train ≤ p)
owner_known l p h = (
  (drawn (yard l) l.shaped).owners_known p h,
  lowest_most l.places.count (λ q. eqb (get_or l.places.entries q no_place).train (get_or l.places.entries p no_place).train) p h (eq-eqb _ _ refl),
)
