-- The lines of joins, judged pair by pair.
use Rattle.std.proofs.Common.{Bool, List, None, Option, Some, [], ap, arith, cond, false, length, length-append, nat_eq, nat_le, slice_get, sym, true, ℕ, ◌&&◌, ◌+◌, ◌<◌, ◌∙◌, ◌∷◌, ◌≡◌, ◌≤◌, ◌^◌}
use Rattle.std.proofs.lemmas.Bool.Decides.{nat_tests}
use Rattle.std.proofs.lemmas.Option.{slice_get_past}
use Rattle.std.specs.Bool.{OnFalse, OnTrue}
use Rattle.std.specs.List.{filter}
use Rattle.std.specs.Option.{option_and_then, option_or}
use Rattle.mb_certificate.proofs.LineFaults.{is-light, left-none}
use Rattle.mb_certificate.specs.Certificate.{Certificate, Join}
use Rattle.mb_certificate.specs.FirstFault.{ends_fault, faults_from, first_from, join_fault, join_lines, left_over, peak_fault, replay, rewritten, unless}
use Rattle.mb_certificate.specs.declared.line_fault.Reason.{Reason}
use Rattle.mb_certificate.specs.declared.line_fault.Reason.TheVariants.{PairMissing, PairNotJoined, PeakTooHeavy}
use Rattle.mb_checker.proofs.JudgedLines.{fault-at, faults-length, first-wrong, none-wrong, right-more, right-none, wrong}
use Rattle.mb_checker.proofs.PairTurns.{pair-turn, until-all, until-more, until-none, until-row, with}
use Rattle.mb_checker.proofs.Turns.{counts, passes}
use Rattle.mb_checker.specs.loops.Joined.{AreMet, pairs_until, share}
use Rattle.mb_matrix.specs.Matrix.{Design}
use Rattle.mb_order.proofs.PeakLaws.{sides-get}
use Rattle.mb_order.specs.Monomial.{Monomial}
use Rattle.mb_order.specs.Peak.{peak, shared_pairs, sides_of}
use Rattle.mb_order.specs.Rewriting.{Rule, made}
use Rattle.mb_order.specs.Weight.{IsLight}
use Rattle.mb_tables.proofs.ListLaws.{get-last, get-more, place-within, some_at}
use Rattle.mb_tables.proofs.VectorLaws.{at-greater, within-yes}
use Rattle.mb_tables.specs.Vectors.{within}

-- what the rule of a number makes of a monomial that its left side divides
pub divisor-rewritten : (rules : List Rule) (k : ℕ) (m : Monomial) → k < length rules →
    within (sides_of rules k).0 m ≡ true →
    rewritten rules k m ≡ Some (made (sides_of rules k) m)
divisor-rewritten rules k m l e =
    ap (option_and_then (λ (rule : Rule). cond (within rule.0 m) (Some (made rule m)) None))
    (sides-get rules k l)
    ∙ ap (λ t. cond t (Some (made (sides_of rules k) m)) None) e

-- what a step has made where it is known what it makes
pub step-made : (rules : List Rule) (k : ℕ) (m p q : Monomial) (b : Bool) →
    OnTrue b (rewritten rules k m ≡ Some p) → OnFalse b (rewritten rules k m ≡ None) →
    rewritten rules k m ≡ Some q → p ≡ q
step-made rules k m p q true e f g = cc
step-made rules k m p q false e f g = cc

-- the same at a monomial that is known
pub step-made_at : (rules : List Rule) (k : ℕ) (m top p q : Monomial) (b : Bool) → m ≡ top →
    OnTrue b (rewritten rules k m ≡ Some p) → OnFalse b (rewritten rules k m ≡ None) →
    rewritten rules k top ≡ Some q → p ≡ q
step-made_at rules k m top p q b e f g h =
    step-made rules k m p q b f g (ap (rewritten rules k) e ∙ h)

-- both left sides divide their least common multiple
pub low-divides : (low high : Rule) → within low.0 (peak low high) ≡ true
low-divides low high =
    within-yes low.0 (peak low high) (λ i. omega (arith, at-greater low.0 high.0 i))

pub high-divides : (low high : Rule) → within high.0 (peak low high) ≡ true
high-divides low high =
    within-yes high.0 (peak low high) (λ i. omega (arith, at-greater low.0 high.0 i))

module _ (matrix : Design) (rules : List Rule) (join : Join) (low high : Rule) where
  abbrev ends : Monomial → Monomial → Option Reason
  ends first second =
      ends_fault PairNotJoined (replay rules join.low_steps first)
      (replay rules join.high_steps second)

  -- where the peak is light, the traces decide
  pub peak-judged : (first second : Monomial) → IsLight matrix (peak low high) →
      first ≡ made low (peak low high) → second ≡ made high (peak low high) →
      ends first second ≡ peak_fault matrix rules join low high
  peak-judged first second light e f =
      ap (λ m. ends m second) e ∙ ap (ends (made low (peak low high))) f
      ∙ sym (ap (λ t. option_or (unless t PeakTooHeavy)
      (ends (made low (peak low high)) (made high (peak low high))))
      (is-light matrix (peak low high) light))

module _ (c : Certificate) where
  abbrev pairs : List (ℕ × ℕ)
  pairs = shared_pairs c.rules

  abbrev fault : ℕ → Join → Option Reason
  fault k join = join_fault c.matrix c.rules (slice_get pairs k) join

  abbrev last : Option Reason
  last = left_over (length pairs) (length c.joins) PairMissing

  -- the line of a join
  join-line : (next : ℕ) (join : Join) → slice_get c.joins next ≡ Some join →
      slice_get (join_lines c) next ≡ Some (fault next join)
  join-line next join e =
      get-more (faults_from fault 0 c.joins) (last ∷ []) next (fault next join)
      (fault-at fault c.joins next join e)

  -- the line after the joins
  last-line : slice_get (join_lines c) (length c.joins) ≡ Some last
  last-line =
      ap (slice_get (join_lines c)) (sym (faults-length fault 0 c.joins))
      ∙ get-last (faults_from fault 0 c.joins) last

  -- there are these lines
  pub lines-length : length (join_lines c) ≡ length c.joins + 1
  lines-length =
      length-append (faults_from fault 0 c.joins) (last ∷ [])
      ∙ ap (λ n. n + 1) (faults-length fault 0 c.joins)

  module _ (low high next : ℕ) (there : slice_get pairs next ≡ Some (with high low)) where
    -- where a pair comes and no join is left, the line after the joins is wrong
    pub pair-left : next ≡ length c.joins →
        slice_get (join_lines c) next ≡ Some (Some PairMissing)
    pair-left e =
        let l = place-within pairs next (with high low) there in
        let f : nat_le (length pairs) (length c.joins) ≡ false = grind (arith, nat_tests) in
        ap (slice_get (join_lines c)) e ∙ last-line
        ∙ ap (λ t. Some (unless t PairMissing)) f

    -- a join of another pair is wrong
    pub pair-other : (join : Join) → slice_get c.joins next ≡ Some join →
        (nat_eq low join.low && nat_eq high join.high) ≡ false →
        slice_get (join_lines c) next ≡ Some (Some PairMissing)
    pair-other join e f =
        join-line next join e
        ∙ ap (λ o. Some (join_fault c.matrix c.rules o join)) there
        ∙ ap (λ t. Some (option_or (unless t PairMissing)
        (peak_fault c.matrix c.rules join (sides_of c.rules join.low)
        (sides_of c.rules join.high)))) f

    -- one of this pair is judged by its peak
    pub pair-same : (join : Join) → slice_get c.joins next ≡ Some join →
        (nat_eq low join.low && nat_eq high join.high) ≡ true →
        slice_get (join_lines c) next ≡ Some (peak_fault c.matrix c.rules join
        (sides_of c.rules join.low) (sides_of c.rules join.high))
    pair-same join e f =
        join-line next join e
        ∙ ap (λ o. Some (join_fault c.matrix c.rules o join)) there
        ∙ ap (λ t. Some (option_or (unless t PairMissing)
        (peak_fault c.matrix c.rules join (sides_of c.rules join.low)
        (sides_of c.rules join.high)))) f

  -- at first none is judged
  pub met-none : length c.joins < 2 ^ 40 → AreMet c 0 0 0
  met-none few = record {
    place = sym (ap (λ l. length (filter (share c.rules) l)) until-none);
    right = right-none (join_lines c);
    within = omega arith;
    few = few;
  }

  -- a pair that shares no symbol is passed
  pub met-passed : (i j next : ℕ) → AreMet c i j next → share c.rules (i, j) ≡ false →
      AreMet c (i + 1) j next
  met-passed i j next met e = record {
    place = met.place ∙ sym (ap (λ l. length (filter (share c.rules) l)) (until-more i j)
        ∙ passes (share c.rules) (pairs_until i j) (with j i) e);
    right = met.right;
    within = met.within;
    few = met.few;
  }

  -- one that shares some has its line
  pub met-counted : (i j next : ℕ) → AreMet c i j next → share c.rules (i, j) ≡ true →
      slice_get (join_lines c) next ≡ Some None → next < length c.joins →
      AreMet c (i + 1) j (next + 1)
  met-counted i j next met e f l = record {
    place = ap (λ n. n + 1) met.place
        ∙ sym (ap (λ l. length (filter (share c.rules) l)) (until-more i j)
        ∙ counts (share c.rules) (pairs_until i j) (with j i) e);
    right = right-more (join_lines c) next met.right f;
    within = omega arith;
    few = met.few;
  }

  -- the next row begins where one ends
  pub met-row : (j next : ℕ) → AreMet c j j next → AreMet c 0 (j + 1) next
  met-row j next met = record {
    place = met.place ∙ ap (λ l. length (filter (share c.rules) l)) (until-row j);
    right = met.right;
    within = met.within;
    few = met.few;
  }

  -- the pair that takes its turn
  pub met-turn : (i j next : ℕ) → AreMet c i j next → i < j → j < length c.rules →
      share c.rules (i, j) ≡ true → slice_get pairs next ≡ Some (with j i)
  met-turn i j next met h l e =
      ap (slice_get pairs) met.place ∙ pair-turn c.rules i j h l e

  module _ (next line : ℕ) (met : AreMet c 0 (length c.rules) next) where
    -- all pairs are judged
    all-met : next ≡ length pairs
    all-met =
        met.place ∙ ap (λ l. length (filter (share c.rules) l)) (until-all (length c.rules))

    -- a join that is left is wrong
    pub join-left : next < length c.joins →
        first_from line (join_lines c) ≡ wrong (line + next) PairMissing
    join-left l =
        let join = some_at c.joins next l in
        let past : slice_get pairs next ≡ None =
        slice_get_past pairs next (let e = all-met in omega arith) in
        first-wrong line (join_lines c) next PairMissing met.right
        (join-line next join.0 join.1
        ∙ ap (λ o. Some (join_fault c.matrix c.rules o join.0)) past)

    -- where none is left, no line is wrong
    pub joins-right : length c.joins ≤ next → first_from line (join_lines c) ≡ None
    joins-right l =
        let within = met.within in
        let e : next ≡ length c.joins = omega arith in
        let f = all-met in
        let g = lines-length in
        none-wrong line (join_lines c) (next + 1)
        (right-more (join_lines c) next met.right
        (ap (slice_get (join_lines c)) e ∙ last-line
        ∙ ap Some (left-none (length pairs) (length c.joins) PairMissing (omega arith))))
        (omega arith)
