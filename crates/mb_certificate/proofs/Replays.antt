-- What a trace makes of a monomial is where it leads.
use Rattle.std.proofs.Common.{Bool, List, None, Some, [], ap, arith, cond, false, length, refl, slice_get, sym, true, ℕ, ◌∙◌, ◌∷◌, ◌≡◌}
use Rattle.std.proofs.lemmas.Option.{option_and_then_some}
use Rattle.std.specs.Option.{option_and_then}
use Rattle.mb_certificate.proofs.Reasons.{ends-none, none-ends}
use Rattle.mb_certificate.specs.FirstFault.{ends_fault, replay, rewritten}
use Rattle.mb_certificate.specs.Valid.{TracesMeet}
use Rattle.mb_certificate.specs.declared.line_fault.Reason.{Reason}
use Rattle.mb_order.proofs.StepLaws.{made-step, step-divides, step-makes}
use Rattle.mb_order.specs.Monomial.{Monomial}
use Rattle.mb_order.specs.Rewriting.{LeadsBy, Rule, Step, made}
use Rattle.mb_tables.proofs.VectorLaws.{length-minus, length-plus}
use Rattle.mb_tables.specs.Vectors.{minus, within}

-- a choice that gives something was made by a test that passes
chosen : (t : Bool) (x p : Monomial) → cond t (Some x) None ≡ Some p → (t ≡ true) × (x ≡ p)
chosen true x p e = (refl, cc)
chosen false x p e = cc

-- both sides of each rule have this width
abbrev pub AreWide : ℕ → List Rule → Type 0
AreWide width rules =
    (k : ℕ) (rule : Rule) → slice_get rules k ≡ Some rule →
    (length rule.0 ≡ width) × (length rule.1 ≡ width)

module _ (rules : List Rule) (width : ℕ) (wide : AreWide width rules) where
  -- what a rule makes of a monomial is as wide
  pub made-wide : (k : ℕ) (rule : Rule) (m : Monomial) → slice_get rules k ≡ Some rule →
      length m ≡ width → length (made rule m) ≡ width
  made-wide k rule m e w =
      let v = wide k rule e in
      let a = v.1 in
      let b = length-minus m rule.0 in
      length-plus rule.1 (minus m rule.0) ∙ omega arith

  -- what the rule of a number makes of a monomial is a step away
  rewritten-step : (k : ℕ) (m p : Monomial) → length m ≡ width → rewritten rules k m ≡ Some p →
      Step rules k m p × (length p ≡ width)
  rewritten-step k m p w e =
      option_and_then_some (λ (rule : Rule). cond (within rule.0 m) (Some (made rule m)) None)
      (slice_get rules k) p e (λ rule f g.
      let c = chosen (within rule.0 m) (made rule m) p g in
      let v = wide k rule f in (
        made-step rules k rule f m p (v.0 ∙ sym w) (v.1 ∙ sym w) c.0 (sym c.1),
        ap length (sym c.1) ∙ made-wide k rule m f w,
      ))

  -- and the other way round
  step-rewritten : (k : ℕ) (m p : Monomial) → length m ≡ width → Step rules k m p →
      (rewritten rules k m ≡ Some p) × (length p ≡ width)
  step-rewritten k m p w s =
      let rule = s.0 in
      let v = wide k rule s.2 in
      let a = v.0 in
      let b = v.1 in
      let c = ap length s.3 ∙ length-plus rule.0 s.1 in
      let d = ap length s.4 ∙ length-plus rule.1 s.1 in
      let long : length p ≡ width = omega arith in
      let divides = step-divides rules k rule s.2 m p s in
      let makes = step-makes rules k rule s.2 m p (long ∙ sym w) (b ∙ sym w) s in (
        ap (option_and_then (λ (r : Rule). cond (within r.0 m) (Some (made r m)) None)) s.2
            ∙ ap (λ t. cond t (Some (made rule m)) None) divides ∙ ap Some (sym makes),
        long,
      )

  -- what a trace makes of a monomial is where it leads
  pub replay-leads : (trace : List ℕ) (m p : Monomial) → length m ≡ width →
      replay rules trace m ≡ Some p → LeadsBy rules trace m p × (length p ≡ width)
  unfolding replay LeadsBy
  replay-leads [] m p w e = let f : m ≡ p = cc in (f, ap length (sym f) ∙ w)
  replay-leads (k ∷ trace) m p w e =
      option_and_then_some (λ next. replay rules trace next) (rewritten rules k m) p e
      (λ next f g.
      let s = rewritten-step k m next w f in
      let r = replay-leads trace next p s.1 g in
      ((next, s.0, r.0), r.1))

  -- and the other way round
  pub leads-replay : (trace : List ℕ) (m p : Monomial) → length m ≡ width →
      LeadsBy rules trace m p → replay rules trace m ≡ Some p
  unfolding replay LeadsBy
  leads-replay [] m p w h = ap Some h
  leads-replay (k ∷ trace) m p w h =
      let s = step-rewritten k m h.0 w h.1 in
      ap (option_and_then (λ next. replay rules trace next)) s.0
      ∙ leads-replay trace h.0 p s.1 h.2

  -- two traces without fault lead two monomials to one
  pub traces-meet : (differ : Reason) (first second : List ℕ) (a b : Monomial) →
      length a ≡ width → length b ≡ width →
      ends_fault differ (replay rules first a) (replay rules second b) ≡ None →
      TracesMeet rules first a second b
  traces-meet differ first second a b w v e =
      let r = ends-none differ (replay rules first a) (replay rules second b) e in
      (r.0, (replay-leads first a r.0 w r.1).0, (replay-leads second b r.0 v r.2).0)

  -- and the other way round
  pub meet-traces : (differ : Reason) (first second : List ℕ) (a b : Monomial) →
      length a ≡ width → length b ≡ width → TracesMeet rules first a second b →
      ends_fault differ (replay rules first a) (replay rules second b) ≡ None
  meet-traces differ first second a b w v h =
      none-ends differ (replay rules first a) (replay rules second b) h.0
      (leads-replay first a h.0 w h.1) (leads-replay second b h.0 v h.2)
