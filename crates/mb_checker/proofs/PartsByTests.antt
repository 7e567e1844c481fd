-- Parts that are written out have the shapes and ranges of a certificate's text where tests of
-- them pass, and these compute.
use Rattle.std.proofs.Common.{All, Bool, List, ap, arith, length, nat_eq, nat_le, nat_lt, negsuc, not, pos, slice_index_or, suc, true, unsigned_abs, ℕ, ℤ, ◌&&◌, ◌+◌, ◌<◌, ◌≡◌, ◌≤◌, ◌^◌}
use Rattle.std.proofs.lemmas.Bool.{and_parts, leb-true, not-true}
use Rattle.std.proofs.lemmas.Bool.Decides.{Decides-eqb, nat_tests}
use Rattle.std.proofs.lemmas.Int.{ints}
use Rattle.std.proofs.lemmas.List.Elements.{recursion_from_All}
use Rattle.std.proofs.lemmas.List.Sums.{AllPass-from_list_all}
use Rattle.std.specs.List.{list_all}
use Rattle.mb_certificate.specs.Certificate.{AreNumbers, AreParts, AreSides, AreTraces, Certificate, IsJoin, IsPath, IsSide, IsSigned, IsStart, Join, Path, Start}
use Rattle.mb_matrix.specs.Fiber.{IsColumn}
use Rattle.mb_matrix.specs.Limits.{largest_entry}
use Rattle.mb_matrix.specs.Matrix.{Design, IsDesign}
use Rattle.mb_order.specs.Limits.{largest_exponent}
use Rattle.mb_order.specs.Monomial.{Monomial}
use Rattle.mb_order.specs.Rewriting.{Rule}
use Rattle.mb_tables.specs.Entries.{IsEntry}
use Rattle.mb_tables.specs.Limits.{most_cells, most_moves}
use Rattle.mb_tables.specs.Vectors.{all_zero}

-- what each element is by a test that it passes, all are
all-by : {X : Type 0} (p : X → Bool) (P : X → Type 0) → ((x : X) → p x ≡ true → P x) →
    (xs : List X) → list_all p xs ≡ true → All P xs
all-by p P each xs e k d l = each (slice_index_or xs k d) (AllPass-from_list_all p xs e k d l)

-- a number that is told to be below another
below : (n bound : ℕ) → nat_lt n bound ≡ true → n < bound
below n bound e = grind (arith, nat_tests)

-- whether a list is a column of a design matrix
abbrev is_column : ℕ → List ℕ → Bool
is_column d column =
    (nat_eq (length column) d && not (all_zero column))
    && list_all (λ entry. nat_le entry largest_entry) column

-- whether a matrix is one
abbrev pub is_design : Design → Bool
is_design matrix =
    ((nat_le 1 matrix.rows && nat_le matrix.rows most_cells)
    && (nat_le 1 (length matrix.columns) && nat_le (length matrix.columns) most_cells))
    && list_all (is_column matrix.rows) matrix.columns

-- a list that passes is a column
column : (d : ℕ) (c : List ℕ) → is_column d c ≡ true →
    IsColumn d c × All (λ entry. entry ≤ largest_entry) c
column d c e =
    let a = and_parts _ _ e in
    let b = and_parts _ _ a.0 in (
      record { high = (Decides-eqb (length c) d).0 b.0; not_zero = not-true (all_zero c) b.1 },
      all-by (λ entry. nat_le entry largest_entry) (λ entry. entry ≤ largest_entry)
          (λ entry. leb-true entry largest_entry) c a.1,
    )

-- a matrix that passes is a design matrix
design : (matrix : Design) → is_design matrix ≡ true → IsDesign matrix
design matrix e =
    let a = and_parts _ _ e in
    let b = and_parts _ _ a.0 in
    let rows = and_parts _ _ b.0 in
    let cells = and_parts _ _ b.1 in record {
      some_rows = leb-true 1 matrix.rows rows.0;
      few_rows = leb-true matrix.rows most_cells rows.1;
      some_cells = leb-true 1 (length matrix.columns) cells.0;
      few_cells = leb-true (length matrix.columns) most_cells cells.1;
      each = recursion_from_All (IsColumn matrix.rows) matrix.columns
          (all-by (is_column matrix.rows) (IsColumn matrix.rows)
          (λ c f. (column matrix.rows c f).0) matrix.columns a.1);
      small = all-by (is_column matrix.rows) (All (λ entry. entry ≤ largest_entry))
          (λ c f. (column matrix.rows c f).1) matrix.columns a.1;
    }

-- whether a number can be an entry
abbrev is_entry : ℤ → Bool
is_entry z = nat_lt (unsigned_abs z) (2 ^ 31)

-- a number that passes is an entry
entry : (z : ℤ) → is_entry z ≡ true → IsEntry z
entry (pos n) e = let l = below n (2 ^ 31) e in (omega (arith, ints), omega (arith, ints))
entry (negsuc n) e = let l = below (suc n) (2 ^ 31) e in (omega (arith, ints), omega (arith, ints))

-- whether a row has so many numbers, each of them an entry
abbrev is_row : ℕ → List ℤ → Bool
is_row width row = nat_eq (length row) width && list_all is_entry row

-- whether a side has so many exponents, none too large
abbrev is_side : ℕ → Monomial → Bool
is_side symbols side =
    nat_eq (length side) symbols && list_all (λ exponent. nat_le exponent largest_exponent) side

-- whether both sides of a rule do
abbrev are_sides : ℕ → Rule → Bool
are_sides symbols rule = is_side symbols rule.0 && is_side symbols rule.1

-- a side that passes is one
side : (matrix : Design) (m : Monomial) →
    is_side (matrix.rows + length matrix.columns) m ≡ true → IsSide matrix m
side matrix m e =
    let a = and_parts _ _ e in record {
      symbols = (Decides-eqb (length m) (matrix.rows + length matrix.columns)).0 a.0;
      small = all-by (λ exponent. nat_le exponent largest_exponent)
          (λ exponent. exponent ≤ largest_exponent)
          (λ exponent. leb-true exponent largest_exponent) m a.1;
    }

-- whether a list of rule numbers is one, and short
abbrev is_trace : List ℕ → Bool
is_trace trace = list_all (λ k. nat_lt k (2 ^ 32)) trace && nat_lt (length trace) (2 ^ 64)

-- two that pass are traces
traces : (first second : List ℕ) → (is_trace first && is_trace second) ≡ true →
    AreTraces first second
traces first second e =
    let a = and_parts _ _ e in
    let b = and_parts _ _ a.0 in
    let c = and_parts _ _ a.1 in
    let numbers : (trace : List ℕ) → list_all (λ k. nat_lt k (2 ^ 32)) trace ≡ true →
    AreNumbers trace =
    all-by (λ k. nat_lt k (2 ^ 32)) (λ k. k < 2 ^ 32) (λ k. below k (2 ^ 32)) in record {
      first_numbers = numbers first b.0;
      second_numbers = numbers second c.0;
      first_short = below (length first) (2 ^ 64) b.1;
      second_short = below (length second) (2 ^ 64) c.1;
    }

-- whether a join is of rule numbers
abbrev is_join : Join → Bool
is_join join =
    (nat_lt join.low (2 ^ 32) && nat_lt join.high (2 ^ 32))
    && (is_trace join.low_steps && is_trace join.high_steps)

-- one that passes is
join-of : (join : Join) → is_join join ≡ true → IsJoin join
join-of join e =
    let a = and_parts _ _ e in
    let b = and_parts _ _ a.0 in record {
      low_fits = below join.low (2 ^ 32) b.0;
      high_fits = below join.high (2 ^ 32) b.1;
      traces = traces join.low_steps join.high_steps a.1;
    }

-- whether a number is that of a move with a sign
abbrev is_signed : ℤ → Bool
is_signed z = nat_le 1 (unsigned_abs z) && nat_lt (unsigned_abs z) (2 ^ 32)

-- one that passes is
signed : (z : ℤ) → is_signed z ≡ true → IsSigned z
signed z e =
    let a = and_parts _ _ e in
    let l = leb-true 1 (unsigned_abs z) a.0 in record {
      some = λ f. (let g : unsigned_abs z ≡ 0 = ap unsigned_abs f in omega arith);
      fits = below (unsigned_abs z) (2 ^ 32) a.1;
    }

-- whether a path is of a rule number and of moves with signs
abbrev is_path : Path → Bool
is_path path =
    nat_lt path.rule (2 ^ 32)
    && (list_all is_signed path.steps && nat_lt (length path.steps) (2 ^ 64))

-- one that passes is
path-of : (path : Path) → is_path path ≡ true → IsPath path
path-of path e =
    let a = and_parts _ _ e in
    let b = and_parts _ _ a.1 in record {
      rule_fits = below path.rule (2 ^ 32) a.0;
      signed = all-by is_signed IsSigned signed path.steps b.0;
      short = below (length path.steps) (2 ^ 64) b.1;
    }

-- parts that pass have the shapes and ranges
pub parts-by : (c : Certificate) → is_design c.matrix ≡ true →
    list_all (is_row (length c.matrix.columns)) c.moves ≡ true →
    list_all (are_sides (c.matrix.rows + length c.matrix.columns)) c.rules ≡ true →
    list_all (λ (start : Start). is_trace start.margin_steps && is_trace start.cell_steps) c.starts
    ≡ true → list_all is_join c.joins ≡ true → list_all is_path c.paths ≡ true →
    length c.starts ≡ length c.matrix.columns → length c.moves ≤ most_moves →
    length c.rules ≤ most_moves → length c.joins < 2 ^ 40 → length c.paths < 2 ^ 32 → AreParts c
parts-by c matrix moves rules starts joins paths each_cell few_moves few_rules few_joins few_paths =
    let sound = design c.matrix matrix in
    let width = length c.matrix.columns in record {
      design = sound;
      moves = record {
        positive = sound.some_cells;
        narrow = sound.few_cells;
        each = all-by (is_row width) (λ row. length row ≡ width)
            (λ row e. (Decides-eqb (length row) width).0 (and_parts _ _ e).0) c.moves moves;
        some = omega arith;
        few = few_moves;
        entries = all-by (is_row width) (All IsEntry)
            (λ row e. all-by is_entry IsEntry entry row (and_parts _ _ e).1) c.moves moves;
      };
      rules = all-by (are_sides (c.matrix.rows + width)) (AreSides c.matrix)
          (λ rule e. let a = and_parts _ _ e in
          record { left = side c.matrix rule.0 a.0; right = side c.matrix rule.1 a.1 })
          c.rules rules;
      few_rules = few_rules;
      starts = all-by (λ (start : Start). is_trace start.margin_steps && is_trace start.cell_steps)
          IsStart (λ start. traces start.margin_steps start.cell_steps) c.starts starts;
      each_cell = each_cell;
      joins = all-by is_join IsJoin join-of c.joins joins;
      few_joins = few_joins;
      paths = all-by is_path IsPath path-of c.paths paths;
      few_paths = few_paths;
    }
