-- The starts and rules of a made certificate, and all its parts together.
use Rattle.std.proofs.Common.{All, List, Some, [], ap, arith, inl, inr, length, length-append, map, slice_get, subst, sym, take, ℕ, ◌++◌, ◌+◌, ◌<◌, ◌^◌, ◌∙◌, ◌∷◌, ◌≡◌, ◌⊎◌}
use Rattle.std.proofs.lemmas.List.Elements.{All-weaker}
use Rattle.std.proofs.lemmas.List.{map-append, take_more}
use Rattle.std.proofs.lemmas.Option.{get_or_from_slice_get}
use Rattle.mb_certificate.specs.Certificate.{AreSides, IsJoin, IsPath, IsStart, Join, Path, Start}
use Rattle.mb_certificate.specs.Sides.{AreHeld, PairSuits, sides}
use Rattle.mb_certificate.specs.Valid.{free_rules}
use Rattle.mb_certificate.specs.declared.parts.Pair.{Pair}
use Rattle.mb_completion.proofs.FirstRules.{first_rule_light}
use Rattle.mb_completion.proofs.FreeRules.{free-few, free-within}
use Rattle.mb_completion.proofs.MadeJoins.{joins-few}
use Rattle.mb_completion.proofs.MadePaths.{paths-length, paths-sound}
use Rattle.mb_completion.specs.Made.{AreNormalJoins, AreNormalStarts, IsNormalStart, paths_of}
use Rattle.mb_completion.specs.Start.{birth_of}
use Rattle.mb_matrix.specs.Matrix.{Design, column_at}
use Rattle.mb_order.specs.Rewriting.{Rule}
use Rattle.mb_order.specs.Weight.{IsLight}
use Rattle.mb_rules.specs.RuleList.{AreRules, RuleList}
use Rattle.mb_rules.specs.Sides.{sides as code_sides}
use Rattle.mb_rules.specs.declared.rule.Rule as code
use Rattle.mb_tables.proofs.ListLaws.{get-front, get-last, place-within}
use Rattle.mb_tables.specs.Limits.{most_moves}
use Rattle.mb_tables.specs.Rows.{AreRows, Rows}

-- what is so of each place of a list, and of what is put last, is so of each place then
each-push : {X : Type 0} (P : ℕ → X → Type 0) (xs : List X) (x : X) →
    ((j : ℕ) (y : X) → slice_get xs j ≡ Some y → P j y) → P (length xs) x →
    (j : ℕ) (y : X) → slice_get (xs ++ (x ∷ [])) j ≡ Some y → P j y
each-push {X} P xs x each last j y e =
    let h = place-within (xs ++ (x ∷ [])) j y e in
    let long = length-append xs (x ∷ []) in
    let cases : (j < length xs) ⊎ (j ≡ length xs) = grind arith in
    elim cases [
      | inl l ↦ each j y (sym (get-front xs (x ∷ []) j l) ∙ e)
      | inr f ↦
          let here : Some x ≡ Some y =
          sym (get-last xs x) ∙ ap (slice_get (xs ++ (x ∷ []))) (sym f) ∙ e in
          let same : x ≡ y = some_same x y here in
          subst (P j) same (subst (λ n. P n x) (sym f) last)
    ]
  where
    some_same : (a b : X) → Some a ≡ Some b → a ≡ b
    some_same a b g = cc

-- the starts of the cells before and the next one
pub starts-push : (matrix : Design) (rules : List Rule) (starts more : List Start) (start : Start)
    (cell : ℕ) → length starts ≡ cell →
    ((j : ℕ) (s : Start) → slice_get starts j ≡ Some s → IsNormalStart matrix rules j s) →
    IsNormalStart matrix rules cell start → more ≡ starts ++ (start ∷ []) →
    (j : ℕ) (s : Start) → slice_get more j ≡ Some s → IsNormalStart matrix rules j s
starts-push matrix rules starts more start cell long each last e j s f =
    each-push (IsNormalStart matrix rules) starts start each
    (subst (λ n. IsNormalStart matrix rules n start) (sym long) last) j s
    (ap (λ l. slice_get l j) (sym e) ∙ f)

-- the two monomials of a start are light
pub start_light : (list : RuleList) (matrix : Design) (j : ℕ) (first : code.Rule) →
    AreRules list → j < length list.matrix.columns → matrix ≡ list.matrix →
    code_sides first ≡ birth_of matrix.rows (length matrix.columns) j (column_at matrix j) →
    IsLight list.matrix first.left.list × IsLight list.matrix first.right.list
start_light list matrix j first are h e f =
    first_rule_light list.matrix list.order j (code_sides first) are.design h
    (f ∙ ap (λ (m : Design). birth_of m.rows (length m.columns) j (column_at m j)) e)

-- the first rules and the next one
pub rules-push : (rules : List Rule) (pairs more : List Pair) (pair : Pair) (k : ℕ) →
    map sides pairs ≡ take k rules → k < length rules → slice_get rules k ≡ Some (sides pair) →
    more ≡ pairs ++ (pair ∷ []) → map sides more ≡ take (k + 1) rules
rules-push rules pairs more pair k so_far h e f =
    ap (map sides) f ∙ map-append sides pairs (pair ∷ [])
    ∙ ap (λ l. l ++ (sides pair ∷ [])) so_far
    ∙ ap (λ r. take k rules ++ (r ∷ []))
    (sym (get_or_from_slice_get rules k (sides pair) (sides pair) e))
    ∙ sym (take_more rules k (sides pair) h)

-- the parts are those of a certificate
pub are_held : (list : RuleList) (moves : Rows) (pairs : List Pair) (starts : List Start)
    (joins : List Join) (paths : List Path) → AreRules list → AreRows 0 most_moves moves →
    moves.width ≡ length list.matrix.columns → map sides pairs ≡ list.rules →
    All (PairSuits list.matrix) pairs → All (AreSides list.matrix) list.rules →
    AreNormalStarts list.matrix list.rules starts → All IsStart starts →
    AreNormalJoins list.rules joins → All IsJoin joins →
    paths ≡ paths_of list.matrix.rows list.rules →
    AreHeld list.matrix list.order moves pairs starts joins paths
are_held list moves pairs starts joins paths are rows width same suits sound normal start_sound
    joined join_sound e =
    let matrix = list.matrix in
    let free = free_rules matrix.rows list.rules in
    let few = are.few in
    let some = free-few matrix.rows list.rules (length list.rules) in
    let within = free-within matrix.rows list.rules (length list.rules) in
    let long = paths-length 0 free in
    let as_many = ap length e in
    record {
      parts = record {
        design = are.design;
        moves = subst (λ w. AreRows 0 most_moves (record { width = w; rows = moves.rows })) width
            rows;
        rules = subst (All (AreSides matrix)) (sym same) sound;
        few_rules = (let f = ap length same in omega arith);
        starts = start_sound;
        each_cell = normal.each_cell;
        joins = join_sound;
        few_joins = joins-few list.rules joins few joined;
        paths = subst (All IsPath) (sym e) (paths-sound 0 free
            (All-weaker (λ i. i < length list.rules) (λ i. i < 2 ^ 32) (λ i h. omega arith) free
            within) (omega arith));
        few_paths = omega arith;
      };
      width = width;
      shape = suits;
    }
