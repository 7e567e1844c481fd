-- Lines of a record, written one after the other.
use Rattle.std.proofs.Common.{List, [], ap, append_assoc, append-nil, arith, codes, length, map, refl, sym, ℕ, ◌++◌, ◌+◌, ◌∙◌, ◌∷◌, ◌≡◌}
use Rattle.std.proofs.lemmas.Grind.{flat_map-append}
use Rattle.std.proofs.lemmas.List.FromFn.{map-range_with_len_more}
use Rattle.std.specs.Fmt.{decimal}
use Rattle.std.specs.List.{flat_map, range_with_len}
use Rattle.mb_kinds.specs.Record.{ModelRecord, base_items, head_lines, scale_items, written_record}
use Rattle.mb_matrix.specs.Matrix.{Design}
use Rattle.mb_matrix.specs.Measure.{Scheme, Weighting}
use Rattle.mb_moves.specs.Written.{row_lines}
use Rattle.mb_text.proofs.SaidLines.{end_line}
use Rattle.mb_text.specs.Lines.{line}

-- the first line
pub header_line : codes "model 1\n" ≡ line (codes "model" ∷ codes "1" ∷ [])
unfolding line
header_line = refl

-- the line of the dataset
pub dataset_line : (name : List ℕ) →
    codes "dataset " ++ (name ++ 10 ∷ []) ≡ line (codes "dataset" ∷ name ∷ [])
unfolding line
dataset_line name = refl

-- the line of a scale of all cells
pub all_line : codes "scale all\n" ≡ line (codes "scale" ∷ codes "all" ∷ [])
unfolding line
all_line = refl

-- the line of a scale of rows
pub rows_line : (rows : List (List ℕ)) →
    codes "scale " ++ line (codes "rows" ∷ rows) ≡ line (codes "scale" ∷ codes "rows" ∷ rows)
unfolding line
rows_line rows = refl

-- one more line of those of numbers from 0 on
pub line_more : (before : List ℕ) (items : ℕ → List (List ℕ)) (row : ℕ) →
    (before ++ flat_map line (map items (range_with_len 0 row))) ++ line (items row)
    ≡ before ++ flat_map line (map items (range_with_len 0 (row + 1)))
line_more before items row =
    append_assoc before (flat_map line (map items (range_with_len 0 row))) (line (items row))
    ∙ ap (λ text. before ++ text)
    (sym (ap (flat_map line) (map-range_with_len_more items 0 row row (omega arith))
    ∙ flat_map-append line (map items (range_with_len 0 row)) (items row ∷ [])
    ∙ ap (λ text. flat_map line (map items (range_with_len 0 row)) ++ text)
    (append-nil (line (items row)))))

-- a scale of rows is written
pub scale_written : (before a b : List ℕ) (rows : List (List ℕ)) → a ≡ before ++ codes "scale " →
    b ≡ a ++ line (codes "rows" ∷ rows) →
    b ≡ before ++ line (codes "scale" ∷ codes "rows" ∷ rows)
scale_written before a b rows ea eb =
    eb ∙ ap (λ t. t ++ line (codes "rows" ∷ rows)) ea
    ∙ append_assoc before (codes "scale ") (line (codes "rows" ∷ rows))
    ∙ ap (λ t. before ++ t) (rows_line rows)

-- what the lines that begin a record are put behind
pub head_written : (before a b c d e bytes name matrix : List ℕ) → bytes ≡ name →
    a ≡ before ++ codes "model 1\n" →
    b ≡ a ++ codes "dataset " → c ≡ b ++ bytes → d ≡ c ++ codes "\n" → e ≡ d ++ matrix →
    e ≡ before ++ (line (codes "model" ∷ codes "1" ∷ [])
    ++ (line (codes "dataset" ∷ name ∷ []) ++ matrix))
head_written before a b c d e bytes name matrix eq ea eb ec ed ee =
    let M = codes "model 1\n" in
    let D = codes "dataset " in
    let N = codes "\n" in
    ee ∙ ap (λ t. t ++ matrix) (ed ∙ ap (λ t. t ++ N) (ec ∙ ap (λ t. b ++ t) eq
    ∙ ap (λ t. t ++ name) (eb ∙ ap (λ t. t ++ D) ea)))
    ∙ append_assoc (((before ++ M) ++ D) ++ name) N matrix
    ∙ append_assoc ((before ++ M) ++ D) name (N ++ matrix)
    ∙ append_assoc (before ++ M) D (name ++ (N ++ matrix))
    ∙ append_assoc before M (D ++ (name ++ (N ++ matrix)))
    ∙ ap (λ t. before ++ (M ++ t))
    (sym (ap (λ t. t ++ matrix) (sym (dataset_line name))
    ∙ append_assoc D (name ++ N) matrix
    ∙ ap (λ t. D ++ t) (append_assoc name N matrix)))
    ∙ ap (λ t. before ++ (t ++ (line (codes "dataset" ∷ name ∷ []) ++ matrix))) header_line

-- all lines of a record are written
pub all_written : (entry : ModelRecord) (a b c d e : List ℕ) →
    a ≡ [] ++ (line (codes "model" ∷ codes "1" ∷ [])
    ++ (line (codes "dataset" ∷ entry.dataset ∷ [])
    ++ line (codes "matrix" ∷ decimal entry.model.matrix.rows
    ∷ decimal (length entry.model.matrix.columns) ∷ []))) →
    b ≡ a ++ flat_map line (row_lines entry.model.matrix) →
    c ≡ b ++ line (scale_items entry.model.measure.scale) →
    d ≡ c ++ line (base_items entry.model.measure.bases) →
    e ≡ d ++ codes "end\n" →
    e ≡ written_record entry
unfolding written_record
all_written entry a b c d e ea eb ec ed ee =
    let first = line (codes "model" ∷ codes "1" ∷ []) in
    let second = line (codes "dataset" ∷ entry.dataset ∷ []) in
    let third =
    line (codes "matrix" ∷ decimal entry.model.matrix.rows
    ∷ decimal (length entry.model.matrix.columns) ∷ []) in
    let head = first ++ (second ++ third) in
    let rows = flat_map line (row_lines entry.model.matrix) in
    let scale = line (scale_items entry.model.measure.scale) in
    let base = line (base_items entry.model.measure.bases) in
    let last = line (codes "end" ∷ []) in
    let tail =
    scale_items entry.model.measure.scale ∷ base_items entry.model.measure.bases
    ∷ (codes "end" ∷ []) ∷ [] in
    let tail_is : flat_map line tail ≡ scale ++ (base ++ last) =
    ap (λ t. scale ++ (base ++ t)) (append-nil last) in
    let head_is : flat_map line (head_lines entry) ≡ head =
    ap (λ t. first ++ (second ++ t)) (append-nil third) in
    ee ∙ ap (λ t. d ++ t) end_line
    ∙ ap (λ t. t ++ last) (ed ∙ ap (λ t. t ++ base) (ec ∙ ap (λ t. t ++ scale)
    (eb ∙ ap (λ t. t ++ rows) ea)))
    ∙ append_assoc ((head ++ rows) ++ scale) base last
    ∙ append_assoc (head ++ rows) scale (base ++ last)
    ∙ append_assoc head rows (scale ++ (base ++ last))
    ∙ sym (flat_map-append line (head_lines entry) (row_lines entry.model.matrix ++ tail)
    ∙ ap (λ t. t ++ flat_map line (row_lines entry.model.matrix ++ tail)) head_is
    ∙ ap (λ t. head ++ t) (flat_map-append line (row_lines entry.model.matrix) tail
    ∙ ap (λ t. rows ++ t) tail_is))

-- so they are where the parts of the model are those that are written
pub model_written : (entry : ModelRecord) (matrix : Design) (measure : Weighting)
    (scale : Scheme) (rows cells : ℕ) (bases out a b c d e : List ℕ) →
    matrix ≡ entry.model.matrix → measure ≡ entry.model.measure → rows ≡ matrix.rows →
    cells ≡ length matrix.columns → scale ≡ measure.scale → bases ≡ measure.bases → out ≡ [] →
    a ≡ out ++ (line (codes "model" ∷ codes "1" ∷ [])
    ++ (line (codes "dataset" ∷ entry.dataset ∷ [])
    ++ line (codes "matrix" ∷ decimal rows ∷ decimal cells ∷ []))) →
    b ≡ a ++ flat_map line (row_lines matrix) → c ≡ b ++ line (scale_items scale) →
    d ≡ c ++ line (base_items bases) → e ≡ d ++ codes "end\n" → e ≡ written_record entry
model_written entry matrix measure scale rows cells bases out a b c d e em ew er ec es eb eo ea
    ebb ecc ed ee =
    all_written entry a b c d e
    (ea ∙ ap (λ out. out ++ (line (codes "model" ∷ codes "1" ∷ [])
    ++ (line (codes "dataset" ∷ entry.dataset ∷ [])
    ++ line (codes "matrix" ∷ decimal rows ∷ decimal cells ∷ [])))) eo
    ∙ ap (λ rows. [] ++ (line (codes "model" ∷ codes "1" ∷ [])
    ++ (line (codes "dataset" ∷ entry.dataset ∷ [])
    ++ line (codes "matrix" ∷ decimal rows ∷ decimal cells ∷ []))))
    (er ∙ ap (λ (m : Design). m.rows) em)
    ∙ ap (λ cells. [] ++ (line (codes "model" ∷ codes "1" ∷ [])
    ++ (line (codes "dataset" ∷ entry.dataset ∷ [])
    ++ line (codes "matrix" ∷ decimal entry.model.matrix.rows ∷ decimal cells ∷ []))))
    (ec ∙ ap (λ (m : Design). length m.columns) em))
    (ebb ∙ ap (λ matrix. a ++ flat_map line (row_lines matrix)) em)
    (ecc ∙ ap (λ scale. b ++ line (scale_items scale)) (es ∙ ap (λ (w : Weighting). w.scale) ew))
    (ed ∙ ap (λ bases. c ++ line (base_items bases)) (eb ∙ ap (λ (w : Weighting). w.bases) ew))
    ee
