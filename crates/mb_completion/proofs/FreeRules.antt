-- The margin-free rules, one after the other.
use Rattle.std.proofs.Common.{All, List, [], ap, append-nil, arith, cond, false, length, sym, true, ℕ, ◌++◌, ◌+◌, ◌<◌, ◌∙◌, ◌∷◌, ◌≡◌, ◌≤◌}
use Rattle.std.proofs.lemmas.List.Elements.{All-filter, All-from_get_or}
use Rattle.std.proofs.lemmas.List.FromFn.{get_or-range_with_len, length-range_with_len, map-range_with_len_more}
use Rattle.std.proofs.lemmas.List.{map-id}
use Rattle.std.proofs.lemmas.List.Sums.{count_by-le-length, length-filter}
use Rattle.std.specs.List.{filter, range_with_len}
use Rattle.mb_certificate.specs.Valid.{is_free}
use Rattle.mb_completion.specs.loops.Making.{free_below}
use Rattle.mb_order.specs.Rewriting.{Rule}
use Rattle.mb_tables.proofs.ListLaws.{filter-append}

module _ (d : ℕ) (rules : List Rule) (k : ℕ) where
  -- the next rule joins those before it, if it is margin-free
  next : free_below d rules (k + 1) ≡ free_below d rules k ++ cond (is_free d rules k) (k ∷ []) []
  next =
      let e : 0 + k ≡ k = omega arith in
      ap (filter (is_free d rules)) (sym (map-id (range_with_len 0 (k + 1)))
      ∙ map-range_with_len_more (λ i. i) 0 k k e
      ∙ ap (λ l. l ++ (k ∷ [])) (map-id (range_with_len 0 k)))
      ∙ filter-append (is_free d rules) (range_with_len 0 k) (k ∷ [])

  -- it does where it is margin-free, and else it is passed
  pub free-joined : is_free d rules k ≡ true →
      free_below d rules (k + 1) ≡ free_below d rules k ++ (k ∷ [])
  free-joined e = next ∙ ap (λ t. free_below d rules k ++ cond t (k ∷ []) []) e

  pub free-passed : is_free d rules k ≡ false → free_below d rules (k + 1) ≡ free_below d rules k
  free-passed e =
      next ∙ ap (λ t. free_below d rules k ++ cond t (k ∷ []) []) e
      ∙ append-nil (free_below d rules k)

  -- there are no more than rules
  pub free-few : length (free_below d rules k) ≤ k
  free-few =
      let a = length-filter (is_free d rules) (range_with_len 0 k) in
      let b = count_by-le-length (is_free d rules) (range_with_len 0 k) in
      let c = length-range_with_len 0 k in
      omega arith

  -- each is the number of a rule
  pub free-within : All (λ i. i < k) (free_below d rules k)
  free-within =
      All-filter (is_free d rules) (λ i. i < k) (range_with_len 0 k)
      (All-from_get_or (λ i. i < k) (range_with_len 0 k) 0 (λ i h.
      let c = length-range_with_len 0 k in
      let e = get_or-range_with_len 0 k i 0 (omega arith) in
      omega arith))
