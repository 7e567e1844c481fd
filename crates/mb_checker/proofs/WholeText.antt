-- The first wrong line of the text is the first one of its lists.
use Rattle.std.proofs.Common.{List, None, Option, Result, Some, [], ap, arith, length, refl, replicate, subst, suc, sym, zero, ℕ, ◌++◌, ◌+◌, ◌∙◌, ◌∷◌, ◌≡◌, ◌↔◌}
use Rattle.std.specs.Option.{option_or}
use Rattle.std.specs.Prelude.{Err}
use Rattle.mb_certificate.proofs.NoFaults.{none-valid, valid-none}
use Rattle.mb_certificate.specs.Certificate.{AreParts, Certificate}
use Rattle.mb_certificate.specs.FirstFault.{faults, first_fault, first_from, join_lines, move_lines, path_lines, rule_lines, start_lines}
use Rattle.mb_certificate.specs.Valid.{IsValid}
use Rattle.mb_certificate.specs.declared.line_fault.Fault.{Fault}
use Rattle.mb_certificate.specs.declared.line_fault.Reason.{Reason}
use Rattle.mb_checker.proofs.JoinLines.{lines-length}
use Rattle.mb_checker.proofs.LinesOfParts.{moves-length, rules-length, starts-length}
use Rattle.mb_checker.specs.Finds.{Finds}
use Rattle.mb_checker.specs.Verdict.{told_fault}
use Rattle.mb_checker.specs.declared.stop.Stop.TheVariants.{OutOfMemory, Wrong}
use Rattle.mb_checker.specs.declared.stop.Stop.{Stop}
use Rattle.mb_checker.specs.declared.verdict.Verdict.TheVariants.{Joins, Refused}
use Rattle.mb_checker.specs.declared.verdict.Verdict.{Verdict}

-- the first wrong line of two lists one after the other
first-append : (line : ℕ) (xs ys : List (Option Reason)) →
    first_from line (xs ++ ys)
    ≡ option_or (first_from line xs) (first_from (line + length xs) ys)
unfolding first_from
first-append line [] ys = let n : line ≡ line + 0 = omega arith in ap (λ l. first_from l ys) n
first-append line (Some reason ∷ xs) ys = refl
first-append line (None ∷ xs) ys =
    let n : suc line + length xs ≡ line + suc (length xs) = omega arith in
    first-append (suc line) xs ys
    ∙ ap (λ l. option_or (first_from (suc line) xs) (first_from l ys)) n

-- lines that nothing is asked of are passed
first-replicate : (line n : ℕ) (ys : List (Option Reason)) →
    first_from line (replicate n None ++ ys) ≡ first_from (line + n) ys
unfolding first_from
first-replicate line zero ys = let n : line ≡ line + 0 = omega arith in ap (λ l. first_from l ys) n
first-replicate line (suc n) ys =
    let m : suc line + n ≡ line + suc n = omega arith in
    first-replicate (suc line) n ys ∙ ap (λ l. first_from l ys) m

-- a list with a line after it that nothing is asked of
first-list : (line next : ℕ) (xs ys : List (Option Reason)) → next ≡ line + length xs + 1 →
    first_from line (xs ++ (None ∷ ys)) ≡ option_or (first_from line xs) (first_from next ys)
unfolding first_from
first-list line next xs ys e =
    let n : suc (line + length xs) ≡ next = omega arith in
    first-append line xs (None ∷ ys)
    ∙ ap (λ l. option_or (first_from line xs) (first_from l ys)) n

-- the first wrong line from the joins on, from the starts on, and from the rules on
abbrev pub from_joins : Certificate → ℕ → Option Fault
from_joins c line =
    option_or (first_from line (join_lines c))
    (first_from (line + length c.joins + 1) (path_lines c))

abbrev pub from_starts : Certificate → ℕ → Option Fault
from_starts c line =
    option_or (first_from line (start_lines c)) (from_joins c (line + length c.starts + 1))

abbrev pub from_rules : Certificate → ℕ → Option Fault
from_rules c line =
    option_or (first_from line (rule_lines c)) (from_starts c (line + length c.rules + 1))

-- the first wrong line of the text, list by list
pub from-top : (c : Certificate) (line : ℕ) → line ≡ c.matrix.rows + 5 →
    first_fault c
    ≡ option_or (first_from line (move_lines c)) (from_rules c (line + length c.moves + 1))
unfolding faults
from-top c a p =
    let b = a + length c.moves + 1 in
    let d = b + length c.rules + 1 in
    let e = d + length c.starts + 1 in
    let joins = join_lines c ++ path_lines c in
    let starts = start_lines c ++ (None ∷ joins) in
    let rules = rule_lines c ++ (None ∷ starts) in
    let moves = move_lines c ++ (None ∷ rules) in
    let top : 1 + (c.matrix.rows + 4) ≡ a = omega arith in
    let end : e + length (join_lines c) ≡ e + length c.joins + 1 =
    (let l = lines-length c in omega arith) in
    first-replicate 1 (c.matrix.rows + 4) moves ∙ ap (λ l. first_from l moves) top
    ∙ first-list a b (move_lines c) rules (let l = moves-length c in omega arith)
    ∙ ap (option_or (first_from a (move_lines c)))
    (first-list b d (rule_lines c) starts (let l = rules-length c in omega arith)
    ∙ ap (option_or (first_from b (rule_lines c)))
    (first-list d e (start_lines c) joins (let l = starts-length c in omega arith)
    ∙ ap (option_or (first_from d (start_lines c)))
    (first-append e (join_lines c) (path_lines c)
    ∙ ap (λ l. option_or (first_from e (join_lines c)) (first_from l (path_lines c))) end)))

-- where no line of the first list is wrong, the search goes on after it, from a line that is known
pub goes-on : (whole first : Option Fault) (rest : ℕ → Option Fault) (line next : ℕ) →
    whole ≡ option_or first (rest line) → first ≡ None → next ≡ line → whole ≡ rest next
goes-on whole first rest line next e f g =
    e ∙ ap (λ o. option_or o (rest line)) f ∙ ap rest (sym g)

-- a check that stops in the first list stops there
pub stops-first : (stop : Stop) (a b : Option Fault) →
    Finds {X = Unit {0}} (Err stop) a → Finds {X = Unit {0}} (Err stop) (option_or a b)
stops-first (Wrong fault) a b e = ap (λ o. option_or o b) e
stops-first OutOfMemory a b e = tt

pub stops : (result part : Result (Unit {0}) Stop) (stop : Stop) (whole a b : Option Fault) →
    result ≡ part → part ≡ Err stop → whole ≡ option_or a b → Finds part a → Finds result whole
stops result part stop whole a b e f g h =
    subst (λ o. Finds result o) (sym g)
    (subst (λ r. Finds r (option_or a b)) (sym (e ∙ f))
    (stops-first stop a b (subst (λ r. Finds r a) f h)))

-- the verdict is that there is none exactly on a valid certificate
pub verdict-valid : (c : Certificate) (are : AreParts c) (verdict : Verdict) →
    first_fault c ≡ told_fault verdict → (verdict ≡ Joins) ↔ IsValid c
verdict-valid c are Joins e = (λ _. valid-none c are e, λ _. refl)
verdict-valid c are (Refused line reason) e =
    (λ f. cc, λ h. let g = none-valid c are h in cc)
