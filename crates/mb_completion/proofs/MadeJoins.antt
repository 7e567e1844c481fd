-- The joins of the pairs of rules, one after the other.
use Rattle.std.proofs.Common.{All, List, [], ap, arith, false, length, length-append, map, refl, subst, suc, sym, true, zero, ℕ, ◌++◌, ◌*◌, ◌+◌, ◌<◌, ◌^◌, ◌∙◌, ◌∷◌, ◌≡◌, ◌≤◌}
use Rattle.std.proofs.lemmas.List.{length-map, map-append}
use Rattle.std.proofs.lemmas.List.Elements.{All-nil, All-push}
use Rattle.std.proofs.lemmas.List.FromFn.{length-map-range_with_len}
use Rattle.std.proofs.lemmas.List.Sums.{count_by-le-length, length-filter}
use Rattle.std.specs.List.{range_with_len}
use Rattle.mb_certificate.specs.Certificate.{IsJoin, Join}
use Rattle.mb_certificate.specs.Valid.{pair_of}
use Rattle.mb_completion.proofs.Turns.{before-all, before-joined, before-passed, before-row, share, with}
use Rattle.mb_completion.specs.Made.{AreNormalJoins, IsNormalJoin}
use Rattle.mb_completion.specs.Run.{AreLightPeaks}
use Rattle.mb_completion.specs.loops.Going.{pairs_before}
use Rattle.mb_completion.specs.loops.Making.{AreJoining}
use Rattle.mb_matrix.specs.Matrix.{Design}
use Rattle.mb_order.proofs.PeakLaws.{sides-get}
use Rattle.mb_order.specs.Peak.{left_of, pairs_below, sides_of}
use Rattle.mb_order.specs.Rewriting.{Rule}
use Rattle.mb_order.specs.Weight.{IsLight}
use Rattle.mb_tables.specs.Vectors.{greater}

-- the peak of a pair that shares a symbol is light
pub pair_light : (matrix : Design) (rules : List Rule) (i j : ℕ) → AreLightPeaks matrix rules →
    i < j → j < length rules → share rules (i, j) ≡ true →
    IsLight matrix (greater (left_of rules i) (left_of rules j))
pair_light matrix rules i j peaks h l e =
    peaks i j (sides_of rules i) (sides_of rules j) h (sides-get rules i (omega arith))
    (sides-get rules j l) e

module _ (rules : List Rule) where
  -- before the first pair there is none
  pub joins-none : AreJoining rules 0 0 []
  unfolding pairs_below
  joins-none = record { all = refl; normal = All-nil (IsNormalJoin rules); sound = All-nil IsJoin }

  -- a pair that shares no symbol is passed
  pub joins-passed : (i j : ℕ) (joins : List Join) → share rules (i, j) ≡ false →
      AreJoining rules i j joins → AreJoining rules (i + 1) j joins
  joins-passed i j joins e are = record {
    all = are.all ∙ sym (before-passed rules i j e);
    normal = are.normal;
    sound = are.sound;
  }

  -- the join of one that shares some is added
  pub joins-joined : (i j : ℕ) (joins more : List Join) (join : Join) →
      share rules (i, j) ≡ true → join.low ≡ i → join.high ≡ j → IsNormalJoin rules join →
      IsJoin join → more ≡ joins ++ (join ∷ []) → AreJoining rules i j joins →
      AreJoining rules (i + 1) j more
  joins-joined i j joins more join e low high normal sound f are = record {
    all = ap (map pair_of) f ∙ map-append pair_of joins (join ∷ [])
        ∙ ap (λ l. l ++ (pair_of join ∷ [])) are.all
        ∙ ap (λ n. let p : ℕ × ℕ = (n, join.high) in pairs ++ (p ∷ [])) low
        ∙ ap (λ n. let p : ℕ × ℕ = (i, n) in pairs ++ (p ∷ [])) high
        ∙ sym (before-joined rules i j e);
    normal = subst (All (IsNormalJoin rules)) (sym f)
        (All-push (IsNormalJoin rules) joins join are.normal normal);
    sound = subst (All IsJoin) (sym f) (All-push IsJoin joins join are.sound sound);
  }
    where
      pairs : List (ℕ × ℕ)
      pairs = pairs_before rules i j

  -- a row's end is the next row's beginning
  pub joins-row : (i j : ℕ) (joins : List Join) → i ≡ j → AreJoining rules i j joins →
      AreJoining rules 0 (j + 1) joins
  joins-row i j joins e are = record {
    all = are.all ∙ ap (λ n. pairs_before rules n j) e ∙ before-row rules j;
    normal = are.normal;
    sound = are.sound;
  }

  -- past the last row all are there
  pub joins-all : (j : ℕ) (joins : List Join) → j ≡ length rules → AreJoining rules 0 j joins →
      AreNormalJoins rules joins
  joins-all j joins e are = record {
    all = are.all ∙ ap (pairs_before rules 0) e ∙ before-all rules;
    normal = are.normal;
  }

-- there are few pairs
pairs-few : (n : ℕ) → n ≤ 1000064 → length (pairs_below n) ≤ n * 1000064
unfolding pairs_below
pairs-few zero h = omega arith
pairs-few (suc n) h =
    let a = pairs-few n (omega arith) in
    let b = length-append (pairs_below n) (map (with n) (range_with_len 0 n)) in
    let c = length-map-range_with_len (with n) 0 n in
    omega arith

-- so there are few joins
pub joins-few : (rules : List Rule) (joins : List Join) → length rules ≤ 1000064 →
    AreNormalJoins rules joins → length joins < 2 ^ 40
joins-few rules joins h are =
    let pairs = pairs_below (length rules) in
    let a = ap length are.all in
    let b = length-map joins pair_of in
    let c = length-filter (share rules) pairs in
    let d = count_by-le-length (share rules) pairs in
    let e = pairs-few (length rules) h in
    omega arith
