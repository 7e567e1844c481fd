-- A trace, replayed from its front.
use Rattle.std.proofs.Common.{List, None, Option, Some, ap, arith, drop, length, slice_index_or, suc, sym, ℕ, ◌+◌, ◌<◌, ◌∙◌, ◌≡◌, ◌≤◌}
use Rattle.std.proofs.Math.Seq.{drop-cons}
use Rattle.std.proofs.lemmas.List.{drop_all}
use Rattle.std.specs.Option.{option_and_then}
use Rattle.mb_certificate.specs.FirstFault.{replay, rewritten}
use Rattle.mb_order.specs.Monomial.{Monomial}
use Rattle.mb_order.specs.Rewriting.{Rule}

module _ (rules : List Rule) (trace : List ℕ) (k : ℕ) (m : Monomial) (whole : Option Monomial)
    (rest : replay rules (drop k trace) m ≡ whole) where
  -- what is left of a trace is its next number and what is left then
  front : k < length trace →
      option_and_then (λ next. replay rules (drop (suc k) trace) next)
      (rewritten rules (slice_index_or trace k 0) m) ≡ whole
  unfolding replay
  front l = ap (λ t. replay rules t m) (sym (drop-cons trace k 0 l)) ∙ rest

  -- a trace stops where the next number fits nothing
  pub replay-stops : k < length trace → rewritten rules (slice_index_or trace k 0) m ≡ None →
      whole ≡ None
  replay-stops l e =
      sym (front l) ∙ ap (option_and_then (λ next. replay rules (drop (suc k) trace) next)) e

  -- and goes on where it does
  pub replay-goes : (next : Monomial) → k < length trace →
      rewritten rules (slice_index_or trace k 0) m ≡ Some next →
      replay rules (drop (k + 1) trace) next ≡ whole
  replay-goes next l e =
      let n : k + 1 ≡ suc k = omega arith in
      ap (λ i. replay rules (drop i trace) next) n
      ∙ sym (ap (option_and_then (λ next. replay rules (drop (suc k) trace) next)) e) ∙ front l

  -- and ends where no number is left
  pub replay-ends : length trace ≤ k → whole ≡ Some m
  unfolding replay
  replay-ends l = sym rest ∙ ap (λ t. replay rules t m) (drop_all k trace l)
