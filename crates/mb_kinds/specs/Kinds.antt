-- The five kinds of log-linear models, and the model that a model file says on a dataset.
use Rattle.std.specs.List.{flat_map, list_all, range_with_len}
use Rattle.std.specs.Prelude.{Bool, Err, List, None, Ok, Option, Result, Some, [], codes, if◌then◌else◌, length, map, not, pos, ℕ, ℤ, ◌&&◌, ◌+◌, ◌-◌, ◌==◌, ◌∷◌}
use Rattle.std.specs.Str.{bytes_eq}
use Rattle.mb_data.specs.CrossTable.{CrossTable, sizes}
use Rattle.mb_kinds.specs.Generators.{are_factors, base_for, cell_count, factors_named, margins_model, model_on}
use Rattle.mb_kinds.specs.Model.{ModelValue}
use Rattle.mb_kinds.specs.ModelText.{base_at, classes_at, generators_at, scale_at, text_at, toml_of}
use Rattle.mb_kinds.specs.declared.kind_fault.KindFault.{KindFault}
use Rattle.mb_kinds.specs.declared.kind_fault.KindFault.TheVariants.{CellCount, EmptyGenerators, MatrixText, MissingKey, NotBinary, NotTwoFactors, UnknownFactor, UnknownKind}
use Rattle.mb_kinds.specs.declared.kind_fault.ModelKey.TheVariants.{Item, Kind, Matrix, Person, Response}
use Rattle.mb_matrix.specs.Measure.{RowMargins, Scheme, Total}
use Rattle.mb_moves.specs.GridText.{matrix_of}
use Rattle.mb_moves.specs.declared.fault.GridFault.{GridFault}
use Rattle.mb_tables.specs.Answers.{◌>>=◌}
use Rattle.mb_tables.specs.Rows.{Rows}
use Rattle.mb_tables.specs.Vectors.{at}
use Rattle.toml.specs.Data.{Members}

-- goes on where it is so, else the fault
abbrev pub so_or : {X : Type 0} → Bool → KindFault → Result X KindFault → Result X KindFault
so_or holds fault next = if holds then next else Err fault

-- hierarchical, by the names of each generator's factors
abbrev pub named_model : CrossTable → List (List (List ℕ)) → Option (List ℕ) →
    Result ModelValue KindFault
named_model table generators base =
    so_or (list_all (are_factors table.factors) generators) UnknownFactor
    (so_or (not (length generators == 0)) EmptyGenerators
    (margins_model table (map (factors_named table.factors) generators) base))

abbrev pub hierarchical : CrossTable → Members → Result ModelValue KindFault
hierarchical table members = do
  generators ← generators_at members
  base ← base_at members
  named_model table generators base

-- quasi-independence: the two factors, each a generator of its own
abbrev pub quasi_independence : CrossTable → Members → Result ModelValue KindFault
quasi_independence table members = do
  base ← base_at members
  so_or (length table.factors == 2) NotTwoFactors
      (margins_model table ((0 ∷ []) ∷ (1 ∷ []) ∷ []) base)

-- the three pairs of three factors
abbrev pub pairs_of : List ℕ → List ℕ → List ℕ → List (List (List ℕ))
pairs_of person item response =
    (person ∷ item ∷ []) ∷ (person ∷ response ∷ []) ∷ (item ∷ response ∷ []) ∷ []

-- whether the factors that are named have two levels each
abbrev pub are_binary : CrossTable → List (List ℕ) → Bool
are_binary table names =
    list_all (λ k. at (sizes table.levels) k == 2) (factors_named table.factors names)

-- three different names, the last that of a factor with two levels
abbrev pub are_apart : CrossTable → List ℕ → List ℕ → List ℕ → Bool
are_apart table person item response =
    not (bytes_eq person item) && not (bytes_eq person response) && not (bytes_eq item response)
    && are_binary table (response ∷ [])

-- Rasch: the hierarchical model of person by item, person by response, and item by response
abbrev pub rasch_model : CrossTable → List ℕ → List ℕ → List ℕ → Option (List ℕ) →
    Result ModelValue KindFault
rasch_model table person item response base =
    so_or (are_factors table.factors (person ∷ item ∷ response ∷ [])) UnknownFactor
    (so_or (are_apart table person item response) NotBinary
    (margins_model table (map (factors_named table.factors) (pairs_of person item response)) base))

abbrev pub rasch : CrossTable → Members → Result ModelValue KindFault
rasch table members = do
  person ← text_at Person (codes "person") members
  item ← text_at Item (codes "item") members
  response ← text_at Response (codes "response") members
  base ← base_at members
  rasch_model table person item response base

-- the pairs of so many classes (alleles), each with itself and each later one: the genotypes
abbrev pub genotypes : ℕ → List (ℕ × ℕ)
genotypes classes =
    flat_map (λ i. map (λ j. (i, j)) (range_with_len i (classes - i))) (range_with_len 0 classes)

-- 1 where two classes are the same
abbrev pub same : ℕ → ℕ → ℕ
same i j = if i == j then 1 else 0

-- the row of a class: how often each genotype has it
abbrev pub class_row : ℕ → ℕ → List ℤ
class_row classes i = map (λ pair. pos (same i pair.0 + same i pair.1)) (genotypes classes)

-- in how many orders a genotype comes: 1 for an equal pair, 2 for an unequal one
abbrev pub orders : ℕ × ℕ → ℕ
orders pair = if pair.0 == pair.1 then 1 else 2

-- the array of the Hardy-Weinberg model
abbrev pub class_array : ℕ → Rows
class_array classes = record {
  width = length (genotypes classes);
  rows = map (class_row classes) (range_with_len 0 classes);
}

abbrev pub hardy_weinberg : CrossTable → Members → Result ModelValue KindFault
hardy_weinberg table members = do
  classes ← classes_at members
  so_or (length (genotypes classes) == cell_count table)
      (CellCount (length (genotypes classes)) (cell_count table))
      (model_on (class_array classes) Total (map orders (genotypes classes)))

-- the matrix file, where there is one
abbrev pub file_for : Option (List ℕ) → Result (List ℕ) KindFault
file_for None = Err (MissingKey Matrix)
file_for (Some file) = Ok file

-- a fault of the matrix file, as one of the model
abbrev pub of_file : Result Rows GridFault → Result Rows KindFault
of_file (Ok array) = Ok array
of_file (Err fault) = Err (MatrixText fault)

-- the named rows, or all cells
abbrev pub scheme_for : Option (List ℕ) → Scheme
scheme_for None = Total
scheme_for (Some rows) = RowMargins rows

-- the model of the rows of a matrix file
abbrev pub array_model : CrossTable → Rows → Option (List ℕ) → Option (List ℕ) →
    Result ModelValue KindFault
array_model table array scale given = do
  base ← base_for (cell_count table) given
  model_on array (scheme_for scale) base

-- the model of a matrix file
abbrev pub file_model : CrossTable → List ℕ → Option (List ℕ) → Option (List ℕ) →
    Result ModelValue KindFault
file_model table file scale given = do
  array ← of_file (matrix_of file)
  so_or (array.width == cell_count table) (CellCount array.width (cell_count table))
      (array_model table array scale given)

abbrev pub of_matrix_file : CrossTable → Option (List ℕ) → Members → Result ModelValue KindFault
of_matrix_file table matrix members = do
  file ← file_for matrix
  scale ← scale_at members
  base ← base_at members
  file_model table file scale base

-- the model of a kind by its name
abbrev pub of_kind : List ℕ → CrossTable → Option (List ℕ) → Members → Result ModelValue KindFault
of_kind kind table matrix members =
    if bytes_eq kind (codes "hierarchical") then hierarchical table members else
    if bytes_eq kind (codes "quasi-independence") then quasi_independence table members else
    if bytes_eq kind (codes "rasch") then rasch table members else
    if bytes_eq kind (codes "hardy-weinberg") then hardy_weinberg table members else
    if bytes_eq kind (codes "matrix") then of_matrix_file table matrix members else
    Err UnknownKind

-- the model that a model file says on a dataset, with the matrix file beside it, or the first
-- fault
abbrev pub model_of : List ℕ → Option (List ℕ) → CrossTable → Result ModelValue KindFault
model_of text matrix table = do
  members ← toml_of text
  kind ← text_at Kind (codes "kind") members
  of_kind kind table matrix members
