-- A certificate that is made of the reduced basis is valid. The two monomials of a start weigh the
-- same, and so do those of a join; so their normal forms are equal, and the traces lead to one
-- monomial. Each path subtracts its rule's own move.
use Rattle.std.proofs.Common.{List, Some, [], ap, length, slice_get, subst, sym, true, ℕ, ◌∙◌, ◌≡◌}
use Rattle.std.proofs.lemmas.List.Elements.{filter_passes}
use Rattle.mb_certificate.proofs.FaultLists.{pairing}
use Rattle.mb_certificate.proofs.LineFaults.{all-at, at-all, read-at}
use Rattle.mb_certificate.specs.Certificate.{Certificate, Join}
use Rattle.mb_certificate.specs.Valid.{AreJoins, AreRules, AreStarts, ArePaths, AreMoves, IsValid, PeakMeets, TracesMeet, of_cell, of_column, pair_of}
use Rattle.mb_completion.proofs.FreeMoves.{made-moves, made-paths}
use Rattle.mb_completion.proofs.FromClasses.{AreAlike, cell_alike, sides_alike}
use Rattle.mb_completion.proofs.MinimalLefts.{reduced_all_valid}
use Rattle.mb_completion.proofs.NormalEnds.{one_form}
use Rattle.mb_completion.proofs.Turns.{share}
use Rattle.mb_completion.specs.Basis.{IsReducedBasis}
use Rattle.mb_completion.specs.Laws.{IsMade, MadeIsValid}
use Rattle.mb_completion.specs.Made.{AreNormalJoins, AreNormalStarts, IsNormalJoin, IsNormalTrace, moves_of, paths_of}
use Rattle.mb_completion.specs.Run.{AreLightPeaks}
use Rattle.mb_matrix.specs.Fiber.{AreColumns}
use Rattle.mb_matrix.specs.Matrix.{Design, IsDesign}
use Rattle.mb_order.proofs.OrderLaws.{is_order}
use Rattle.mb_order.proofs.PeakLaws.{old_places, pairs-only, sides-get}
use Rattle.mb_order.proofs.WeightLaws.{symbols-fit}
use Rattle.mb_order.specs.Monomial.{Monomial}
use Rattle.mb_order.specs.Order.{IsOrder}
use Rattle.mb_order.specs.Peak.{pairs_below, peak, shared_pairs, sides_of}
use Rattle.mb_order.specs.Rewriting.{LeadsBy, Rule, made}
use Rattle.mb_order.specs.Weight.{symbols_of}
use Rattle.mb_order.specs.declared.order.Order.{Order}
use Rattle.mb_rules.specs.RuleList.{cmp_of}
use Rattle.mb_tables.proofs.ListLaws.{In-filter_only, place-in}

module _ (c : Certificate) (design : IsDesign c.matrix)
    (basis : IsReducedBasis c.matrix c.order c.rules) where
  -- the columns of all symbols
  fit : AreColumns c.matrix.rows (symbols_of c.matrix)
  fit = symbols-fit c.matrix.rows c.matrix.columns design.each

  -- the order of their monomials
  order : IsOrder (length (symbols_of c.matrix)) (cmp_of c.order c.matrix)
  order = is_order c.order c.matrix.rows (length (symbols_of c.matrix))

  -- the rules are valid
  rules-valid : AreRules c.matrix c.order c.rules
  rules-valid = reduced_all_valid c.matrix.rows (symbols_of c.matrix) (cmp_of c.order c.matrix) fit
      order c.rules basis.reduced

  -- the traces of normal forms lead monomials of equal weight to one
  forms-meet : (s t : List ℕ) (a b : Monomial) → AreAlike c.matrix.rows (symbols_of c.matrix) a b →
      IsNormalTrace c.rules s a → IsNormalTrace c.rules t b → TracesMeet c.rules s a t b
  forms-meet s t a b alike h k =
      let r = one_form c.matrix.rows (symbols_of c.matrix) (cmp_of c.order c.matrix) c.rules fit
      order basis.reduced s t a b h.0 k.0 alike h.1 k.1 in
      (h.0, r.0, subst (LeadsBy c.rules t b) (sym r.2) r.1)

  module _ (made-of : IsMade c) where
    -- the starts lead
    starts : AreStarts c.matrix c.rules c.starts
    starts j column start e f =
        let n = made-of.starts.normal j start f in
        let margin = subst (λ x. IsNormalTrace c.rules start.margin_steps
        (of_column (length c.matrix.columns) x)) (read-at c.matrix.columns j column [] e)
        n.margin in
        forms-meet start.margin_steps start.cell_steps
        (of_column (length c.matrix.columns) column) (of_cell c.matrix j)
        (cell_alike c.matrix.rows c.matrix.columns j column design.each e) margin n.cell

    -- a join leads, and its peak is light
    join-meets : AreLightPeaks c.matrix c.rules → (k : ℕ) (join : Join) →
        slice_get c.joins k ≡ Some join →
        PeakMeets c.matrix c.rules join (sides_of c.rules join.low) (sides_of c.rules join.high)
    join-meets peaks k join e =
        let low = sides_of c.rules join.low in
        let high = sides_of c.rules join.high in
        let pairs = pairs_below (length c.rules) in
        let pair = pair_of join in
        let next = pairing pair_of c.joins (shared_pairs c.rules) made-of.joins.all k join e in
        let places = old_places c.rules join.low join.high k next in
        let below = pairs-only (length c.rules) pair (In-filter_only (share c.rules) pair pairs
        (place-in (shared_pairs c.rules) k pair next)) in
        let shared = all-at (λ p. share c.rules p ≡ true) (shared_pairs c.rules) k pair
        (filter_passes (share c.rules) pairs) next in
        let first = sides-get c.rules join.low places.0 in
        let second = sides-get c.rules join.high places.1 in
        let forms = all-at (IsNormalJoin c.rules) c.joins k join made-of.joins.normal e in (
          peaks join.low join.high low high below.0 first second shared,
          forms-meet join.low_steps join.high_steps (made low (peak low high))
              (made high (peak low high))
              (sides_alike c.matrix.rows (symbols_of c.matrix) (cmp_of c.order c.matrix) c.rules fit
              rules-valid join.low join.high low high first second)
              forms.0 forms.1,
        )

    -- all do
    joins : AreLightPeaks c.matrix c.rules → AreJoins c.matrix c.rules c.joins
    joins peaks = record {
      all = made-of.joins.all;
      meet = at-all (λ join.
          PeakMeets c.matrix c.rules join (sides_of c.rules join.low) (sides_of c.rules join.high))
          c.joins (join-meets peaks);
    }

    -- all parts together
    valid : AreLightPeaks c.matrix c.rules → IsValid c
    valid peaks =
        let compare = cmp_of c.order c.matrix in
        let moves = moves_of c.matrix.rows c.rules in record {
          moves = subst (AreMoves c.matrix) (sym made-of.moves)
              (made-moves c.matrix compare c.rules design.each rules-valid);
          rules = rules-valid;
          starts = starts;
          joins = joins peaks;
          paths = subst (λ m. ArePaths c.matrix c.rules m c.paths) (sym made-of.moves)
              (subst (ArePaths c.matrix c.rules moves) (sym made-of.paths)
              (made-paths c.matrix compare c.rules design.each rules-valid));
        }

-- the law of made certificates
pub made_valid : MadeIsValid
made_valid c design basis peaks made-of = valid c design basis made-of peaks

-- the certificate that is made of completed rules is valid, where they are the reduced basis
pub made_certificate : (matrix : Design) (order : Order) (rules : List Rule) (c : Certificate) →
    IsDesign matrix → AreLightPeaks matrix rules → c.matrix ≡ matrix → c.order ≡ order →
    c.rules ≡ rules → c.moves ≡ moves_of matrix.rows rules → AreNormalStarts matrix rules c.starts →
    AreNormalJoins rules c.joins → c.paths ≡ paths_of matrix.rows rules →
    IsReducedBasis matrix order rules → IsValid c
made_certificate matrix order rules c design peaks m o r moves starts joins paths basis =
    let by_matrix = subst (λ (x : Design). IsReducedBasis x order rules) (sym m) basis in
    let by_order = subst (λ (x : Order). IsReducedBasis c.matrix x rules) (sym o) by_matrix in
    made_valid c (subst IsDesign (sym m) design)
    (subst (IsReducedBasis c.matrix c.order) (sym r) by_order)
    (subst (AreLightPeaks c.matrix) (sym r)
    (subst (λ (x : Design). AreLightPeaks x rules) (sym m) peaks))
    (record {
      moves = moves ∙ ap (λ (x : Design). moves_of x.rows rules) (sym m)
          ∙ ap (moves_of c.matrix.rows) (sym r);
      starts = subst (λ x. AreNormalStarts c.matrix x c.starts) (sym r)
          (subst (λ (x : Design). AreNormalStarts x rules c.starts) (sym m) starts);
      joins = subst (λ x. AreNormalJoins x c.joins) (sym r) joins;
      paths = paths ∙ ap (λ (x : Design). paths_of x.rows rules) (sym m)
          ∙ ap (paths_of c.matrix.rows) (sym r);
    })
