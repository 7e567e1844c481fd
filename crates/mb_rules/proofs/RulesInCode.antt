-- Steps of a list of rules over a design matrix, as the code makes them.
use Rattle.std.proofs.Common.{Bool, List, Some, [], ap, arith, false, get_or, inl, inr, length, length-append, map, refl, slice_get, subst, sym, true, ℕ, ◌++◌, ◌+◌, ◌<◌, ◌∙◌, ◌∷◌, ◌≡◌, ◌≤◌, ◌⊎◌}
use Rattle.std.proofs.lemmas.List.Sums.{passes_at_first}
use Rattle.std.proofs.lemmas.List.{get_or-map, length-map, map-append}
use Rattle.std.proofs.lemmas.Option.{slice_get-get_or}
use Rattle.std.specs.Bool.{OnFalse, OnTrue}
use Rattle.std.specs.List.{position_or_len}
use Rattle.mb_matrix.specs.Fiber.{AreColumns}
use Rattle.mb_matrix.specs.Matrix.{Design, IsDesign}
use Rattle.mb_order.proofs.CellWeights.{light-exponents}
use Rattle.mb_order.proofs.OrderLaws.{is_order}
use Rattle.mb_order.proofs.WeightLaws.{symbols-fit, symbols-length}
use Rattle.mb_order.specs.Monomial.{Exponents, Monomial}
use Rattle.mb_order.specs.Order.{IsOrder}
use Rattle.mb_order.specs.Rewriting.{IsValid, Rule, Step, made}
use Rattle.mb_order.specs.Weight.{IsLight, symbols_of, weights}
use Rattle.mb_order.specs.declared.order.Order.{Order}
use Rattle.mb_rules.proofs.Confluence.{rank, step_lowers, step_weight, step_wide}
use Rattle.mb_order.proofs.StepLaws.{made-step, step-divides}
use Rattle.mb_order.specs.Symbols.{IsSetOf}
use Rattle.mb_rules.proofs.PushedRules.{at-front, at-last, last_is, push-cases}
use Rattle.mb_rules.specs.NormalForm.{IsFirst, NormalBy}
use Rattle.mb_rules.specs.RuleList.{AreRules, IsRuleOf, RuleList, ValidRules, cmp_of}
use Rattle.mb_rules.specs.Sides.{AreLeftSets, IsRuleList, RuleSuits, sides}
use Rattle.mb_rules.specs.declared.rule.Rule as code
use Rattle.mb_tables.proofs.ListLaws.{get-front, place-within}
use Rattle.mb_tables.specs.Vectors.{at, within}

module _ (list : RuleList) (are : AreRules list) where
  -- the columns of all symbols are columns
  pub fit : AreColumns list.matrix.rows (symbols_of list.matrix)
  fit = let s = are.design in symbols-fit list.matrix.rows list.matrix.columns s.each

  -- there is a column for each symbol
  pub wide : length (symbols_of list.matrix) ≡ list.matrix.rows + length list.matrix.columns
  wide = symbols-length list.matrix.rows list.matrix.columns

  -- the order of the list is a monomial order
  pub order : IsOrder (length (symbols_of list.matrix)) (cmp_of list.order list.matrix)
  order = is_order list.order list.matrix.rows (length (symbols_of list.matrix))

  module _ (k : ℕ) (rule : Rule) (m : Monomial) (e : slice_get list.rules k ≡ Some rule)
      (w : length m ≡ list.matrix.rows + length list.matrix.columns) where
    -- where the left side divides, what the rule makes is a step away
    pub made_step : within rule.0 m ≡ true → Step list.rules k m (made rule m)
    made_step f =
        let v = are.valid k rule e in
        let left = v.left_wide in
        let right = v.right_wide in
        let all = wide in
        made-step list.rules k rule e m (made rule m) (omega arith) (omega arith) f refl

    -- the left side divides what a step starts from
    pub step_divides : (p : Monomial) → Step list.rules k m p → within rule.0 m ≡ true
    step_divides p s = step-divides list.rules k rule e m p s

    pub made_weight : within rule.0 m ≡ true →
        weights list.matrix (made rule m) ≡ weights list.matrix m
    made_weight f =
        sym (step_weight list.matrix.rows (symbols_of list.matrix)
        (cmp_of list.order list.matrix) list.rules fit order are.valid k m (made rule m)
        (made_step f))

    pub made_wide : within rule.0 m ≡ true →
        length (made rule m) ≡ list.matrix.rows + length list.matrix.columns
    made_wide f =
        step_wide list.matrix.rows (symbols_of list.matrix) (cmp_of list.order list.matrix)
        list.rules fit order are.valid k m (made rule m) (made_step f) (w ∙ sym wide)
        ∙ wide

    pub made_small : IsLight list.matrix m → within rule.0 m ≡ true → (i : ℕ) →
        at (made rule m) i ≤ 65535
    made_small light f =
        light-exponents list.matrix.rows (symbols_of list.matrix) (made rule m) 65535 fit
        (made_wide f ∙ sym wide)
        (λ i. let a = ap (λ u. at u i) (made_weight f) in let b = light i in omega arith)

    -- what the code's answers mean
    pub stepped : (b t : Bool) (next : Monomial) → t ≡ within rule.0 m → b ≡ t →
        OnTrue b (next ≡ made rule m) → OnTrue b (Step list.rules k m next)
    stepped true t next f g h = subst (Step list.rules k m) (sym h) (made_step (sym f ∙ sym g))
    stepped false t next f g h = tt

    pub refused : (b : Bool) → b ≡ within rule.0 m →
        OnFalse b ((p : Monomial) → Step list.rules k m p → ⊥)
    refused true f = tt
    refused false f = λ p s. (let a = step_divides p s in cc)

    pub kept_weight : (b : Bool) (next : Monomial) → b ≡ within rule.0 m →
        OnTrue b (next ≡ made rule m) → OnFalse b (next ≡ m) →
        weights list.matrix next ≡ weights list.matrix m
    kept_weight true next f g h = ap (weights list.matrix) g ∙ made_weight (sym f)
    kept_weight false next f g h = ap (weights list.matrix) h

-- equal monomials have equal exponents
pub same_list : (b : Bool) (x y : Exponents) → OnFalse b (x ≡ y) → OnFalse b (x.list ≡ y.list)
same_list true x y h = tt
same_list false x y h = ap (λ (m : Exponents). m.list) h

-- a rule of the matrix may be added
pub push_sound : (list : RuleList) (rule : Rule) → AreRules list →
    IsValid list.matrix.rows (symbols_of list.matrix) (cmp_of list.order list.matrix) rule →
    length list.rules < 1000064 →
    AreRules (record {
      matrix = list.matrix;
      order = list.order;
      rules = list.rules ++ (rule ∷ []);
    })
push_sound list rule are valid few = record {
  design = are.design;
  valid = λ k r e. elim (push-cases list.rules rule k r e) [
    | inl f ↦ are.valid k r f
    | inr f ↦
        subst (IsValid list.matrix.rows (symbols_of list.matrix) (cmp_of list.order list.matrix)) f
        valid
  ];
  few = (let l = length-append list.rules (rule ∷ []) in omega arith);
}

-- a set is added with its rule
pub push_marked : (rules : List code.Rule) (sets : List ℕ) (rule : code.Rule) (set : ℕ) →
    AreLeftSets rules sets → IsSetOf set rule.left.list →
    AreLeftSets (rules ++ (rule ∷ [])) (sets ++ (set ∷ []))
push_marked rules sets rule set are marks = record {
  as_many =
      let a = length-append rules (rule ∷ []) in
      let b = length-append sets (set ∷ []) in
      let m = are.as_many in
      omega arith;
  each = λ k r e.
      let h = place-within (rules ++ (rule ∷ [])) k r e in
      let long = length-append rules (rule ∷ []) in
      let m = are.as_many in
      let cases : (k < length rules) ⊎ (k ≡ length rules) = grind arith in
      elim cases [
        | inl l ↦
            subst (λ n. IsSetOf n r.left.list) (sym (at-front sets (set ∷ []) k (omega arith)))
            (are.each k r (sym (get-front rules (rule ∷ []) k l) ∙ e))
        | inr g ↦
            let same : rule ≡ r = last_is rules rule k r g e in
            subst (λ n. IsSetOf n r.left.list) (sym (at-last sets set k (g ∙ sym m)))
            (subst (λ (x : code.Rule). IsSetOf set x.left.list) same marks)
      ];
}

-- a rule of the matrix and its set are added
pub push_kept : (matrix : Design) (order : Order) (rules : List code.Rule) (sets : List ℕ)
    (rule : code.Rule) (set : ℕ) → IsRuleList matrix order rules sets → RuleSuits matrix rule →
    IsRuleOf order matrix (sides rule) → length (map sides rules) < 1000064 →
    IsSetOf set rule.left.list →
    IsRuleList matrix order (rules ++ (rule ∷ [])) (sets ++ (set ∷ []))
push_kept matrix order rules sets rule set are suits valid few marks = record {
  sound = subst (λ l. AreRules (record { matrix = matrix; order = order; rules = l }))
      (sym (map-append sides rules (rule ∷ [])))
      (push_sound (record { matrix = matrix; order = order; rules = map sides rules })
      (sides rule) are.sound valid few);
  suited = λ k r e. elim (push-cases rules rule k r e) [
    | inl f ↦ are.suited k r f
    | inr f ↦ subst (RuleSuits matrix) f suits
  ];
  marked = push_marked rules sets rule set are.marked marks;
}

-- in place of a rule where there is none
pub no_rule : Rule
no_rule = ([], [])

-- the sides of a rule that stands at a place
pub rule_at : (items : List code.Rule) (list : List Rule) (k : ℕ) (r : code.Rule) →
    map sides items ≡ list → k < length items → r ≡ get_or items k r →
    get_or list k no_rule ≡ sides r
rule_at items list k r e h f = ap (λ l. get_or l k no_rule) (sym e)
    ∙ get_or-map sides items k r no_rule h ∙ ap sides (sym f)

-- so the left side there divides what that of the rule divides
pub fit_here : (items : List code.Rule) (list : List Rule) (k : ℕ) (r : code.Rule) (m : Monomial) →
    map sides items ≡ list → k < length items → r ≡ get_or items k r →
    within (get_or list k no_rule).0 m ≡ within r.left.list m
fit_here items list k r m e h f =
    ap (λ (rule : Rule). within rule.0 m) (rule_at items list k r e h f)

-- there is a rule at each place of the sets of left sides, read as a slice
pub rule_of_set : (items : List code.Rule) (sets slice : List ℕ) (k : ℕ) →
    AreLeftSets items sets → slice ≡ sets → k < length slice → k < length items
rule_of_set items sets slice k marked e h =
    let a = marked.as_many in
    let b = ap length e in
    omega arith

-- the first rule that fits makes a step
pub taken : (list : RuleList) (are : AreRules list) (k : ℕ) (m next : Monomial) →
    length m ≡ list.matrix.rows + length list.matrix.columns →
    position_or_len (λ (rule : Rule). within rule.0 m) list.rules ≡ k → k < length list.rules →
    (b : Bool) → OnTrue b (Step list.rules k m next) →
    OnFalse b ((p : Monomial) → Step list.rules k m p → ⊥) → Step list.rules k m next
taken list are k m next w first h true f g = f
taken list are k m next w first h false f g =
    let rule = get_or list.rules k no_rule in
    let e = slice_get-get_or list.rules k no_rule h in
    let fits : Rule → Bool = λ rule. within rule.0 m in
    let p = passes_at_first fits list.rules no_rule (let x = first in omega arith) in
    let q : within rule.0 m ≡ true = ap (λ i. within (get_or list.rules i no_rule).0 m) (sym first)
    ∙ p in
    absurd (g (made rule m) (made_step list are k rule m e w q))

-- a step of the first rule and a normal form after it are a normal form
pub normal-more : (rules : List Rule) (k : ℕ) (trace : List ℕ) (m next p : Monomial) →
    IsFirst rules k m → Step rules k m next → NormalBy rules trace next p →
    NormalBy rules (k ∷ trace) m p
unfolding NormalBy
normal-more rules k trace m next p f s h = (next, f, s, h)

-- where no rule fits, a monomial is its own normal form
pub normal-end : (rules : List Rule) (m : Monomial) → IsFirst rules (length rules) m →
    NormalBy rules [] m m
unfolding NormalBy
normal-end rules m f = (f, refl)

-- a step goes down
pub step_smaller : (list : RuleList) (are : AreRules list) (k : ℕ) (m p : Monomial) →
    length m ≡ list.matrix.rows + length list.matrix.columns → Step list.rules k m p →
    rank list.matrix.rows (symbols_of list.matrix)
    (cmp_of list.order list.matrix) p < rank list.matrix.rows (symbols_of list.matrix)
    (cmp_of list.order list.matrix) m
step_smaller list are k m p w s =
    step_lowers list.matrix.rows (symbols_of list.matrix) (cmp_of list.order list.matrix) list.rules
    (fit list are) (order list are) are.valid k m p s (w ∙ sym (wide list are))

-- rules of the matrix, with their sets, are what a list keeps
pub list_of : (matrix : Design) (order : Order) (rules : List code.Rule) (sets : List ℕ) →
    IsDesign matrix →
    ((k : ℕ) (rule : code.Rule) → slice_get rules k ≡ Some rule → RuleSuits matrix rule) →
    ValidRules order matrix (map sides rules) → length rules ≤ 1000064 →
    AreLeftSets rules sets → IsRuleList matrix order rules sets
list_of matrix order rules sets design suits valid few marked = record {
  sound = record {
    design = design;
    valid = valid;
    few = (let e = length-map rules sides in omega arith);
  };
  suited = suits;
  marked = marked;
}
