-- What is known of the model that a model file says on a dataset.
use Rattle.std.proofs.Common.{All, Bool, Err, List, None, Ok, Option, Result, Some, [], ap, arith, cond, false, length, map, negsuc, not, pos, refl, subst, sym, true, ℕ, ℤ, ◌&&◌, ◌<◌, ◌==◌, ◌^◌, ◌∙◌, ◌∷◌, ◌≡◌}
use Rattle.std.proofs.lemmas.Bool.{eqb-true, leb-true}
use Rattle.std.proofs.lemmas.List.{length-map}
use Rattle.std.proofs.lemmas.List.Elements.{All-cons, All-nil}
use Rattle.std.specs.List.{list_all, range_with_len}
use Rattle.std.specs.Prelude.{codes, if◌then◌else◌, nat_le}
use Rattle.std.specs.Str.{bytes_eq}
use Rattle.mb_data.specs.CrossTable.{CrossTable}
use Rattle.mb_kinds.proofs.Chains.{base_length, each_map, rows_wide}
use Rattle.mb_kinds.specs.Generators.{are_factors, base_for, cell_count, factors_named, first_margin, margin_array, margins_model, model_on, of_matrix, of_measure}
use Rattle.mb_kinds.specs.KindLaws.{IsModelOver, ReadModelIsSound}
use Rattle.mb_kinds.specs.Kinds.{are_apart, array_model, class_array, class_row, file_for, file_model, genotypes, hardy_weinberg, hierarchical, named_model, of_file, of_kind, of_matrix_file, orders, pairs_of, quasi_independence, rasch, rasch_model, scheme_for, so_or}
use Rattle.mb_kinds.specs.Model.{ModelValue}
use Rattle.mb_kinds.specs.ModelText.{base_at, classes_at, generators_at, items_by, list_in, number_in, optional, scale_at, text_at, toml_of}
use Rattle.mb_kinds.specs.declared.kind_fault.KindFault.{KindFault}
use Rattle.mb_kinds.specs.declared.kind_fault.KindFault.TheVariants.{CellCount, EmptyGenerators, MissingKey, NotBinary, NotTwoFactors, UnknownFactor, UnknownKind}
use Rattle.mb_kinds.specs.declared.kind_fault.ModelKey.TheVariants.{Base, Item, Kind, Person, Response}
use Rattle.mb_matrix.proofs.NoFault.{accepted, no_fault}
use Rattle.mb_matrix.proofs.RowsAndColumns.{length-columns}
use Rattle.mb_matrix.specs.Faults as matrices
use Rattle.mb_matrix.specs.Matrix.{Design, IsDesign}
use Rattle.mb_matrix.specs.Measure.{IsMeasureOf, Scheme, Total, Weighting, groups_of, measure_fault, measure_of}
use Rattle.mb_matrix.specs.Faults.{unless_fault}
use Rattle.mb_matrix.specs.declared.fault.MatrixFault.{MatrixFault}
use Rattle.mb_matrix.specs.declared.measure_fault.MeasureFault.{MeasureFault}
use Rattle.mb_moves.proofs.AcceptedTexts.{array_taken}
use Rattle.mb_moves.specs.GridText.{matrix_of}
use Rattle.mb_moves.specs.declared.fault.GridFault.{GridFault}
use Rattle.mb_tables.specs.Answers.{◌>>=◌}
use Rattle.mb_tables.specs.Limits.{most_cells}
use Rattle.mb_tables.specs.Rows.{Rows}
use Rattle.mb_text.specs.Tokens.{tokens}
use Rattle.toml.specs.Data as toml
use Rattle.toml.specs.Data.{Data, Items, Members, get_member}

-- ---- steps

-- the model that is answered, if one is, is one over so many cells
abbrev Models : ℕ → Result ModelValue KindFault → Type 0
Models cells made = (model : ModelValue) → made ≡ Ok model → IsModelOver cells model

-- a fault is no model
none : (cells : ℕ) (fault : KindFault) → Models cells (Err fault)
none cells fault model e = absurd (cc)

-- so it is of a step and what comes after it, where it is of each that may come
after : {A : Type 0} (cells : ℕ) (step : Result A KindFault)
    (next : A → Result ModelValue KindFault) →
    ((x : A) → step ≡ Ok x → Models cells (next x)) → Models cells (step >>= next)
after cells (Ok x) next each model e = each x refl model e
after cells (Err fault) next each model e = none cells fault model e

-- of what comes after a test
tested : (cells : ℕ) (holds : Bool) (fault : KindFault) (next : Result ModelValue KindFault) →
    (holds ≡ true → Models cells next) → Models cells (so_or holds fault next)
tested cells true fault next passed model e = passed refl model e
tested cells false fault next passed model e = none cells fault model e

-- and of either of two
either : (cells : ℕ) (test : Bool) (first second : Result ModelValue KindFault) →
    Models cells first → Models cells second → Models cells (if test then first else second)
either cells true first second one other = one
either cells false first second one other = other

-- as many cells as another number that was tested to be equal
same_cells : (n cells : ℕ) (made : Result ModelValue KindFault) → (n == cells) ≡ true →
    Models n made → Models cells made
same_cells n cells made same has model e =
    subst (λ k. IsModelOver k model) (eqb-true n cells same) (has model e)

-- ---- the model of an array

-- each number fits 32 bits
abbrev Fit : List ℕ → Type 0
Fit numbers = All (λ number. number < 2 ^ 32) numbers

-- a matrix that was accepted
matrix_ok : (step : Result Design MatrixFault) (matrix : Design) → of_matrix step ≡ Ok matrix →
    step ≡ Ok matrix
matrix_ok (Ok other) matrix e = cc
matrix_ok (Err fault) matrix e = absurd (cc)

-- a measure that was accepted
measure_ok : (step : Result Weighting MeasureFault) (measure : Weighting) →
    of_measure step ≡ Ok measure → step ≡ Ok measure
measure_ok (Ok other) measure e = cc
measure_ok (Err fault) measure e = absurd (cc)

-- it is one of the matrix, with the base numbers that were given
measure_made : (matrix : Design) (scale : Scheme) (base : List ℕ) (measure : Weighting) →
    length base ≡ length matrix.columns → measure_of matrix scale base ≡ Ok measure →
    IsMeasureOf matrix measure × (measure.bases ≡ base)
measure_made matrix scale base measure long e = by (measure_fault matrix scale base) refl e
  where
    own : Weighting
    own = record { scale = scale; groups = groups_of matrix scale; bases = base }

    by : (fault : Option MeasureFault) → measure_fault matrix scale base ≡ fault →
        unless_fault fault own ≡ Ok measure → IsMeasureOf matrix measure × (measure.bases ≡ base)
    by None none f =
        let same : own ≡ measure = cc in
        subst (λ (m : Weighting). IsMeasureOf matrix m × (m.bases ≡ base)) same (
          record { each_base = long; made = ap (λ fault. unless_fault fault own) none },
          refl,
        )
    by (Some fault) none f = absurd (cc)

-- an array that is as wide as there are cells, with a base number a cell
array_models : (array : Rows) (scale : Scheme) (base : List ℕ) →
    All (λ row. length row ≡ array.width) array.rows → length base ≡ array.width → Fit base →
    Models array.width (model_on array scale base)
array_models array scale base wide long fits =
    after array.width (of_matrix (matrices.matrix_of array))
    (λ matrix. of_measure (measure_of matrix scale base) >>= λ measure.
    Ok (record { matrix = matrix; measure = measure }))
    (λ matrix read. after array.width (of_measure (measure_of matrix scale base))
    (λ measure. Ok (record { matrix = matrix; measure = measure }))
    (λ measure made. is matrix read measure made))
  where
    is : (matrix : Design) → of_matrix (matrices.matrix_of array) ≡ Ok matrix →
        (measure : Weighting) → of_measure (measure_of matrix scale base) ≡ Ok measure →
        Models array.width (Ok (record { matrix = matrix; measure = measure }))
    is matrix read measure made model e =
        let taken = accepted array matrix (matrix_ok (matrices.matrix_of array) matrix read) in
        let known = no_fault array wide taken.0 in
        let many : length matrix.columns ≡ array.width =
        ap (λ (m : Design). length m.columns) taken.1 ∙ length-columns array in
        let own : ModelValue = record { matrix = matrix; measure = measure } in
        let weighed =
        measure_made matrix scale base measure (long ∙ sym many)
        (measure_ok (measure_of matrix scale base) measure made) in
        let same : own ≡ model = cc in
        let fact : IsModelOver array.width own = record {
          sound = record {
            design = subst IsDesign (sym taken.1) known.design;
            weighted = weighed.0;
          };
          fits = subst Fit (sym weighed.1) fits;
          many = many;
        } in
        subst (IsModelOver array.width) same fact

-- ---- the base numbers

-- numbers that may be given fit, where they are
abbrev FitIfGiven : Option (List ℕ) → Type 0
FitIfGiven None = Unit {0}
FitIfGiven (Some numbers) = Fit numbers

-- a conjunction that is true has a true second part
second_true : (a b : Bool) → (a && b) ≡ true → b ≡ true
second_true true b e = e
second_true false b e = absurd (cc)

-- a number that was read fits
number_fits : (value : Data) (n : ℕ) → number_in Base 1 4294967295 value ≡ Ok n → n < 2 ^ 32
number_fits (toml.integer (pos k)) n e = by (nat_le 1 k && nat_le k 4294967295) refl e
  where
    by : (b : Bool) → (nat_le 1 k && nat_le k 4294967295) ≡ b →
        ◌≡◌ {A = Result ℕ KindFault} (cond b (Ok k) (Err (MissingKey Base))) (Ok n) → n < 2 ^ 32
    by true test f =
        let same : k ≡ n = cc in
        let l = leb-true k 4294967295 (second_true (nat_le 1 k) (nat_le k 4294967295) test) in
        subst (λ m. m < 2 ^ 32) same (omega (arith, l))
    by false test f = absurd (cc)
number_fits (toml.integer (negsuc k)) n e = absurd (cc)
number_fits (toml.string text) n e = absurd (cc)
number_fits (toml.float x) n e = absurd (cc)
number_fits (toml.boolean b) n e = absurd (cc)
number_fits (toml.datetime t) n e = absurd (cc)
number_fits (toml.array items) n e = absurd (cc)
number_fits (toml.table m) n e = absurd (cc)

-- so do all of a list
items_fit : (items : Items) (numbers : List ℕ) →
    items_by (number_in Base 1 4294967295) items ≡ Ok numbers → Fit numbers
items_fit toml.no_items numbers e =
    let same : ◌≡◌ {A = List ℕ} [] numbers = cc in
    subst Fit same (All-nil (λ number. number < 2 ^ 32))
items_fit (toml.item value items) numbers e =
    front (number_in Base 1 4294967295 value) refl (λ xs. items_fit items xs) e
  where
    rest : (x : ℕ) → x < 2 ^ 32 → (read : Result (List ℕ) KindFault) →
        ((xs : List ℕ) → read ≡ Ok xs → Fit xs) → (read >>= λ xs. Ok (x ∷ xs)) ≡ Ok numbers →
        Fit numbers
    rest x fits (Ok xs) others f =
        let same : ◌≡◌ {A = List ℕ} (x ∷ xs) numbers = cc in
        subst Fit same (All-cons (λ number. number < 2 ^ 32) x xs fits (others xs refl))
    rest x fits (Err fault) others f = absurd (cc)

    front : (first : Result ℕ KindFault) → number_in Base 1 4294967295 value ≡ first →
        ((xs : List ℕ) → items_by (number_in Base 1 4294967295) items ≡ Ok xs → Fit xs) →
        (first >>= λ x. items_by (number_in Base 1 4294967295) items >>= λ xs. Ok (x ∷ xs))
        ≡ Ok numbers → Fit numbers
    front (Ok x) read others f =
        rest x (number_fits value x read) (items_by (number_in Base 1 4294967295) items) others f
    front (Err fault) read others f = absurd (cc)

-- a value that is a list
list_fits : (value : Data) (numbers : List ℕ) →
    list_in Base (number_in Base 1 4294967295) value ≡ Ok numbers → Fit numbers
list_fits (toml.array items) numbers e = items_fit items numbers e
list_fits (toml.integer z) numbers e = absurd (cc)
list_fits (toml.string text) numbers e = absurd (cc)
list_fits (toml.float x) numbers e = absurd (cc)
list_fits (toml.boolean b) numbers e = absurd (cc)
list_fits (toml.datetime t) numbers e = absurd (cc)
list_fits (toml.table m) numbers e = absurd (cc)

-- the base numbers of a model file fit, where it has them
optional_fits : (value : Option Data) (given : Option (List ℕ)) →
    optional (list_in Base (number_in Base 1 4294967295)) value ≡ Ok given → FitIfGiven given
optional_fits None given e =
    let same : ◌≡◌ {A = Option (List ℕ)} None given = cc in subst FitIfGiven same tt
optional_fits (Some value) given e =
    by (list_in Base (number_in Base 1 4294967295) value) refl e
  where
    by : (read : Result (List ℕ) KindFault) →
        list_in Base (number_in Base 1 4294967295) value ≡ read →
        (read >>= λ x. Ok (Some x)) ≡ Ok given → FitIfGiven given
    by (Ok numbers) read f =
        let same : Some numbers ≡ given = cc in
        subst FitIfGiven same (list_fits value numbers read)
    by (Err fault) read f = absurd (cc)

-- those of its table
given_fit : (members : Members) (given : Option (List ℕ)) → base_at members ≡ Ok given →
    FitIfGiven given
given_fit members given e = optional_fits (get_member (codes "base") members) given e

-- so do those of a model
base_fits : (cells : ℕ) (given : Option (List ℕ)) (base : List ℕ) → FitIfGiven given →
    base_for cells given ≡ Ok base → Fit base
base_fits cells None base fits e =
    let same : map (λ k. 1) (range_with_len 0 cells) ≡ base = cc in
    subst Fit same
    (each_map (λ number. number < 2 ^ 32) (λ k. 1) (range_with_len 0 cells) 0 (λ k. omega arith))
base_fits cells (Some numbers) base fits e = by (length numbers == cells) e
  where
    by : (b : Bool) →
        ◌≡◌ {A = Result (List ℕ) KindFault}
        (cond b (Ok numbers) (Err (CellCount (length numbers) cells))) (Ok base) → Fit base
    by true f = let same : numbers ≡ base = cc in subst Fit same fits
    by false f = absurd (cc)

-- ---- the five kinds

-- a genotype comes in one order or in two
orders_fit : (pair : ℕ × ℕ) → orders pair < 2 ^ 32
orders_fit pair = by (pair.0 == pair.1)
  where
    by : (b : Bool) → cond b 1 2 < 2 ^ 32
    by true = omega arith
    by false = omega arith

-- a matrix file that was read
file_ok : (step : Result Rows GridFault) (array : Rows) → of_file step ≡ Ok array → step ≡ Ok array
file_ok (Ok other) array e = cc
file_ok (Err fault) array e = absurd (cc)

module _ (table : CrossTable) where
  -- how many cells the table has
  abbrev cells : ℕ
  cells = cell_count table

  -- the model of generators
  of_margins : (generators : List (List ℕ)) (given : Option (List ℕ)) → FitIfGiven given →
      Models cells (margins_model table generators given)
  of_margins generators given fits =
      after cells (base_for cells given)
      (λ base. model_on (margin_array table generators) (first_margin table generators) base)
      (λ base made.
      array_models (margin_array table generators) (first_margin table generators) base
      (rows_wide table generators) (base_length cells given base made)
      (base_fits cells given base fits made))

  -- the hierarchical model by names of factors
  of_names : (generators : List (List (List ℕ))) (base : Option (List ℕ)) → FitIfGiven base →
      Models cells (named_model table generators base)
  of_names generators base fits =
      let places = map (factors_named table.factors) generators in
      tested cells (list_all (are_factors table.factors) generators) UnknownFactor
      (so_or (not (length generators == 0)) EmptyGenerators (margins_model table places base))
      (λ known. tested cells (not (length generators == 0)) EmptyGenerators
      (margins_model table places base) (λ some. of_margins places base fits))

  -- and that of a model file
  are_hierarchical : (members : Members) → Models cells (hierarchical table members)
  are_hierarchical members =
      after cells (generators_at members)
      (λ generators. base_at members >>= λ base. named_model table generators base)
      (λ generators read. after cells (base_at members) (λ base. named_model table generators base)
      (λ base given. of_names generators base (given_fit members base given)))

  -- quasi-independence of two factors
  are_quasi : (members : Members) → Models cells (quasi_independence table members)
  are_quasi members =
      let two : List (List ℕ) = (0 ∷ []) ∷ (1 ∷ []) ∷ [] in
      after cells (base_at members)
      (λ base. so_or (length table.factors == 2) NotTwoFactors (margins_model table two base))
      (λ base given. tested cells (length table.factors == 2) NotTwoFactors
      (margins_model table two base)
      (λ two_factors. of_margins two base (given_fit members base given)))

  -- the Rasch model of three factors
  of_three : (person item response : List ℕ) (base : Option (List ℕ)) → FitIfGiven base →
      Models cells (rasch_model table person item response base)
  of_three person item response base fits =
      let places = map (factors_named table.factors) (pairs_of person item response) in
      tested cells (are_factors table.factors (person ∷ item ∷ response ∷ [])) UnknownFactor
      (so_or (are_apart table person item response) NotBinary (margins_model table places base))
      (λ known. tested cells (are_apart table person item response) NotBinary
      (margins_model table places base) (λ apart. of_margins places base fits))

  -- and that of a model file
  are_rasch : (members : Members) → Models cells (rasch table members)
  are_rasch members =
      after cells (text_at Person (codes "person") members)
      (λ person. text_at Item (codes "item") members >>= λ item.
      text_at Response (codes "response") members >>= λ response.
      base_at members >>= λ base. rasch_model table person item response base)
      (λ person read. after cells (text_at Item (codes "item") members)
      (λ item. text_at Response (codes "response") members >>= λ response.
      base_at members >>= λ base. rasch_model table person item response base)
      (λ item read. after cells (text_at Response (codes "response") members)
      (λ response. base_at members >>= λ base. rasch_model table person item response base)
      (λ response read. after cells (base_at members)
      (λ base. rasch_model table person item response base)
      (λ base given. of_three person item response base (given_fit members base given)))))

  -- the Hardy-Weinberg model of so many classes
  of_classes : (classes : ℕ) →
      Models (length (genotypes classes))
      (model_on (class_array classes) Total (map orders (genotypes classes)))
  of_classes classes =
      array_models (class_array classes) Total (map orders (genotypes classes))
      (each_map (λ (row : List ℤ). length row ≡ length (genotypes classes)) (class_row classes)
      (range_with_len 0 classes) 0 (λ i. length-map (genotypes classes) _))
      (length-map (genotypes classes) orders)
      (each_map (λ number. number < 2 ^ 32) orders (genotypes classes) (0, 0) orders_fit)

  -- and that of a model file
  are_genotypes : (members : Members) → Models cells (hardy_weinberg table members)
  are_genotypes members =
      after cells (classes_at members)
      (λ classes. so_or (length (genotypes classes) == cells)
      (CellCount (length (genotypes classes)) cells)
      (model_on (class_array classes) Total (map orders (genotypes classes))))
      (λ classes read. tested cells (length (genotypes classes) == cells)
      (CellCount (length (genotypes classes)) cells)
      (model_on (class_array classes) Total (map orders (genotypes classes)))
      (λ same. same_cells (length (genotypes classes)) cells
      (model_on (class_array classes) Total (map orders (genotypes classes))) same
      (of_classes classes)))

  -- the model of an array that was read
  of_rows : (array : Rows) (scale given : Option (List ℕ)) →
      All (λ row. length row ≡ array.width) array.rows → FitIfGiven given →
      (array.width == cells) ≡ true → Models array.width (array_model table array scale given)
  of_rows array scale given wide fits same =
      after array.width (base_for cells given) (λ base. model_on array (scheme_for scale) base)
      (λ base made. array_models array (scheme_for scale) base wide
      (base_length cells given base made ∙ sym (eqb-true array.width cells same))
      (base_fits cells given base fits made))

  -- that of a matrix file
  of_files : (file : List ℕ) (scale given : Option (List ℕ)) → FitIfGiven given →
      Models cells (file_model table file scale given)
  of_files file scale given fits =
      after cells (of_file (matrix_of file))
      (λ array. so_or (array.width == cells) (CellCount array.width cells)
      (array_model table array scale given))
      (λ array read. tested cells (array.width == cells) (CellCount array.width cells)
      (array_model table array scale given)
      (λ same. same_cells array.width cells (array_model table array scale given) same
      (of_rows array scale given
      (array_taken 1 most_cells (tokens file) array (file_ok (matrix_of file) array read)).0.each
      fits same)))

  -- and that of a model file with a matrix file
  are_of_files : (matrix : Option (List ℕ)) (members : Members) →
      Models cells (of_matrix_file table matrix members)
  are_of_files matrix members =
      after cells (file_for matrix)
      (λ file. scale_at members >>= λ scale. base_at members >>= λ base.
      file_model table file scale base)
      (λ file read. after cells (scale_at members)
      (λ scale. base_at members >>= λ base. file_model table file scale base)
      (λ scale read. after cells (base_at members) (λ base. file_model table file scale base)
      (λ base given. of_files file scale base (given_fit members base given))))

  -- the model of a kind by its name
  of_each_kind : (kind : List ℕ) (matrix : Option (List ℕ)) (members : Members) →
      Models cells (of_kind kind table matrix members)
  of_each_kind kind matrix members =
      either cells (bytes_eq kind (codes "hierarchical")) (hierarchical table members) _
      (are_hierarchical members)
      (either cells (bytes_eq kind (codes "quasi-independence"))
      (quasi_independence table members) _ (are_quasi members)
      (either cells (bytes_eq kind (codes "rasch")) (rasch table members) _ (are_rasch members)
      (either cells (bytes_eq kind (codes "hardy-weinberg")) (hardy_weinberg table members) _
      (are_genotypes members)
      (either cells (bytes_eq kind (codes "matrix")) (of_matrix_file table matrix members)
      (Err UnknownKind) (are_of_files matrix members) (none cells UnknownKind)))))

-- what a model file says on a dataset is a model over its cells
pub model_reads : ReadModelIsSound
model_reads text matrix table =
    after (cell_count table) (toml_of text)
    (λ members. text_at Kind (codes "kind") members >>= λ kind. of_kind kind table matrix members)
    (λ members read. after (cell_count table) (text_at Kind (codes "kind") members)
    (λ kind. of_kind kind table matrix members)
    (λ kind read. of_each_kind table kind matrix members))
