-- Places of a table and the values in them.
use Rattle.std.proofs.Common.{◌≡◌, ℕ, ◌+◌, ◌*◌, ◌/◌, ◌%◌, ◌<◌, ◌≤◌, List, length, get_or, ℤ, None, Option, sym, ap, ◌∙◌, subst, inl, inr, arith}
use Rattle.std.proofs.lemmas.Grind.{common_steps}
use borrow.Rule.Slice.PartMut.{put_mid, mid_of}
use Rattle.std.proofs.lemmas.Nat.{rows, mul-add-lt, div-mul-add, mod-mul-add, div-add-mod'}
use Rattle.std.proofs.lemmas.Bool.{cases_eq}
use Rattle.engine.specs.Ways.{joined, greater, raised}
use Rattle.engine.specs.declared.difference.Difference.{Difference}
use Rattle.distances.specs.Tables.{entry, Tabled, Bounded, AllBounded, RowRaised}

pub row_of : (n p : ℕ) → p < n * n → p / n < n
row_of n p low = grind (arith, common_steps, rows)

column_of : (n p : ℕ) → p < n * n → p % n < n
column_of n p low = grind (arith, common_steps, rows)

-- what the table says of two events
pub tabled_at : (n : ℕ) (f : ℕ → ℕ → Option ℤ) (table : List (Option ℤ)) (x y : ℕ) → Tabled n f table → x < n → y < n → entry n table x y ≡ f x y
tabled_at n f table x y told row column =
    told (x * n + y) (mul-add-lt x n y n row column) ∙ (ap (λ z. f z ((x * n + y) % n)) (div-mul-add x n y column) ∙ ap (λ z. f x z) (mod-mul-add x n y column))

pub tabled_from : (n : ℕ) (f : ℕ → ℕ → Option ℤ) (table : List (Option ℤ)) → ((x y : ℕ) → x < n → y < n → entry n table x y ≡ f x y) → Tabled n f table
tabled_from n f table all p low =
    subst (λ z. get_or table z None ≡ f (p / n) (p % n)) (div-add-mod' p n) (all (p / n) (p % n) (row_of n p low) (column_of n p low))

-- ---- row by row

-- a row that is raised and written back
module _ (n m x : ℕ) (into : Option ℤ) (k j : ℤ) (out old row : List (Option ℤ)) (here : m ≡ n) (same : j ≡ k) (within : x * n ≤ length old) (long : length row ≡ n) (raised_row : (y : ℕ) → y < n → get_or row y None ≡ greater (get_or (mid_of (x * n) m old) y None) (joined into j (get_or out y None))) where
  written : (y : ℕ) → y < n → get_or (put_mid (x * n) m old row) (x * n + y) None ≡ get_or row y None
  written y low = grind (arith, common_steps)

  read : (y : ℕ) → y < n → get_or (mid_of (x * n) m old) y None ≡ get_or old (x * n + y) None
  read y low = grind (arith, common_steps)

  pub row_raised : RowRaised n x into k out old (put_mid (x * n) m old row)
  row_raised =
      record {
        before = λ q low. grind (arith, common_steps);
        here = λ y low. written y low ∙ (raised_row y low ∙ (ap (λ z. greater z (joined into j (get_or out y None))) (read y low) ∙ ap (λ z. greater (get_or old (x * n + y) None) (joined into z (get_or out y None))) same));
        after = λ q high. grind (arith, common_steps);
      }

-- the first x rows are raised
pub record RowsRaised (n x : ℕ) (d : Difference) (old new : List (Option ℤ)) : Type 0 where
  pub done : (a b : ℕ) → a < x → b < n → entry n new a b ≡ raised (entry n old) d a b
  pub rest : (q : ℕ) → x * n ≤ q → get_or new q None ≡ get_or old q None

module _ (n m x : ℕ) (d : Difference) (into : Option ℤ) (old mid : List (Option ℤ)) (events : m ≡ n) (low : x < n) (own : d.from < n) (ins : into ≡ entry m mid x d.from) (r : RowsRaised n x d old mid) where
  -- a row is as before until its turn comes
  same_row : (y : ℕ) → entry n mid x y ≡ entry n old x y
  same_row y = r.rest (x * n + y) (omega arith)

  way_in : into ≡ entry n old x d.from
  way_in = ins ∙ (ap (λ z. entry z mid x d.from) events ∙ same_row d.from)

  pub into_bounded : AllBounded n old → Bounded into
  into_bounded bounded = subst Bounded (sym way_in) (bounded (x * n + d.from) (mul-add-lt x n d.from n low own))

  pub rows_more : (k : ℤ) (out new : List (Option ℤ)) → k ≡ d.k → ((y : ℕ) → y < n → get_or out y None ≡ entry n old d.to y) → RowRaised m x into k out mid new → RowsRaised n (x + 1) d old new
  rows_more k out new same outs raised_row =
      record {
        done = λ a b row column. elim (cases_eq a x) [ inl e ↦ subst (λ z. entry n new z b ≡ raised (entry n old) d z b) (sym e) (here b column) | inr ne ↦ one.before (a * n + b) (omega (arith, mul-add-lt a n b x (omega arith) column)) ∙ r.done a b (omega arith) column ];
        rest = λ q past. one.after q (omega arith) ∙ r.rest q (omega arith);
      }
    where
      one : RowRaised n x into k out mid new
      one = subst (λ z. RowRaised z x into k out mid new) events raised_row

      here : (b : ℕ) → b < n → entry n new x b ≡ raised (entry n old) d x b
      here b column =
          let before = same_row b in
          let raised_here = one.here b column in
          let front = way_in in
          let back = outs b column in
          cc
