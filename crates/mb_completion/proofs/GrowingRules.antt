-- What leads and meets by some rules does so by more.
use Rattle.std.proofs.Common.{List, [], length, refl, ℕ, ◌++◌, ◌∷◌, ◌≡◌}
use Rattle.mb_order.specs.Monomial.{Monomial}
use Rattle.mb_order.specs.Rewriting.{Leads, LeadsBy, Meet, Rule, Step}
use Rattle.mb_rules.proofs.Confluence.{leads_then}
use Rattle.mb_tables.proofs.ListLaws.{get-last, get-more}
use Rattle.mb_tables.proofs.VectorLaws.{plus-nil}
use Rattle.mb_tables.specs.Vectors.{plus}

-- what leads by some rules leads by more
pub leads_more : (rules more : List Rule) (trace : List ℕ) (m p : Monomial) →
    LeadsBy rules trace m p → LeadsBy (rules ++ more) trace m p
unfolding LeadsBy
leads_more rules more [] m p h = h
leads_more rules more (k ∷ trace) m p h = (
  h.0,
  ((h.1).0, (h.1).1, get-more rules more k (h.1).0 (h.1).2, (h.1).3, (h.1).4),
  leads_more
      rules more trace h.0 p h.2,
)

-- what meets by some rules meets by more
pub meet_more : (rules more : List Rule) (a b : Monomial) → Meet rules a b →
    Meet (rules ++ more) a b
meet_more rules more a b h = (
  h.0,
  ((h.1).0, leads_more rules more (h.1).0 a h.0 (h.1).1),
  ((h.2).0, leads_more rules more (h.2).0 b h.0 (h.2).1),
)

-- a new rule between the ends lets the beginnings meet
pub new_rule_meets : (rules : List Rule) (a b p q : Monomial) → Leads rules a p → Leads rules b q →
    Meet (rules ++ ((p, q) ∷ [])) a b
unfolding LeadsBy
new_rule_meets rules a b p q h g =
    let rule : Rule = (p, q) in
    let all = rules ++ (rule ∷ []) in
    let e : p ≡ plus p [] = plus-nil p in
    let f : q ≡ plus q [] = plus-nil q in
    let s : Step all (length rules) p q = (rule, [], get-last rules rule, e, f) in (
      q,
      leads_then all h.0 a p q (leads_more rules (rule ∷ []) h.0 a p h.1)
          (length rules ∷ [], (q, s, refl)),
      (g.0, leads_more rules (rule ∷ []) g.0 b q g.1),
    )
