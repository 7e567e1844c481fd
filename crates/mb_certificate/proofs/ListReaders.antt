-- Lines of rules, starts, joins and paths, both ways.
use Rattle.std.proofs.Common.{All, List, Ok, Result, Some, [], ap, arith, codes, length, map, refl, subst, sym, ℕ, ℤ, ◌++◌, ◌-◌, ◌<◌, ◌^◌, ◌∙◌, ◌∷◌, ◌≡◌, ◌≢◌, ◌≤◌}
use Rattle.std.proofs.lemmas.List.Elements.{All-append, All-from_recursion, All-map}
use Rattle.std.specs.Fmt.{decimal, signed_decimal}
use Rattle.mb_certificate.proofs.ItemLaws.{all_of_read, items_at, one_read, one_written, times_read, times_written}
use Rattle.mb_text.proofs.RecordSteps.{step_on, stepped}
use Rattle.mb_certificate.proofs.LineLaws.{Reads}
use Rattle.mb_certificate.proofs.LineReaders.{all_written, decimal_token, front, number_tokens, word_token}
use Rattle.mb_certificate.proofs.NumberItems.{signed_number_read, signed_number_written, word_read, word_written}
use Rattle.mb_text.proofs.NumeralItems.{number_read, number_written}
use Rattle.mb_certificate.specs.Certificate.{AreTraces, IsJoin, IsPath, IsSigned, IsStart, Join, Path, Start}
use Rattle.mb_certificate.specs.CertificateText.{all_of, exponent, join_in, list_length, path_in, rule_in, rule_number, signed_number, start_in, traces_in}
use Rattle.mb_certificate.specs.Reading.{ItemsLeft, one, times, word}
use Rattle.mb_certificate.specs.Written.{join_items, path_items, rule_items, start_items, trace_items}
use Rattle.mb_order.specs.Rewriting.{Rule}
use Rattle.mb_tables.specs.Answers.{◌>>=◌}
use Rattle.mb_text.proofs.LineTokens.{token-signed_decimal}
use Rattle.mb_text.specs.Tokens.{IsToken}

-- an exponent
abbrev pub IsExponent : ℕ → Type 0
IsExponent n = n ≤ 65535

-- a rule number
abbrev IsNumber : ℕ → Type 0
IsNumber n = n < 2 ^ 32

-- a length
abbrev IsLength : ℕ → Type 0
IsLength n = n < 2 ^ 64

-- exponents are read
exponent_written : (n : ℕ) → IsExponent n → exponent (decimal n) ≡ Some n
exponent_written n small = number_written 65535 n (omega arith) small

-- and what is read is one
exponent_read : (item : List ℕ) (n : ℕ) → exponent item ≡ Some n →
    (item ≡ decimal n) × IsExponent n
exponent_read item n e = number_read 65535 item n (omega arith) e

-- rule numbers are read
rule_number_written : (n : ℕ) → IsNumber n → rule_number (decimal n) ≡ Some n
rule_number_written n small = number_written (2 ^ 32 - 1) n (omega arith) (omega arith)

-- and what is read is one
rule_number_read : (item : List ℕ) (n : ℕ) → rule_number item ≡ Some n →
    (item ≡ decimal n) × IsNumber n
rule_number_read item n e =
    let found = number_read (2 ^ 32 - 1) item n (omega arith) e in
    (found.0, let small = found.1 in omega arith)

-- lengths are read
length_written : (n : ℕ) → IsLength n → list_length (decimal n) ≡ Some n
length_written n small = number_written (2 ^ 64 - 1) n (omega arith) (omega arith)

-- and what is read is one
length_read : (item : List ℕ) (n : ℕ) → list_length item ≡ Some n →
    (item ≡ decimal n) × IsLength n
length_read item n e =
    let found = number_read (2 ^ 64 - 1) item n (omega arith) e in
    (found.0, let small = found.1 in omega arith)

-- a rule of monomials with so many symbols
pub record IsRuleLine (symbols : ℕ) (rule : Rule) : Type 0 where
  pub left_long : length rule.0 ≡ symbols
  pub left_small : All IsExponent rule.0
  pub right_long : length rule.1 ≡ symbols
  pub right_small : All IsExponent rule.1

-- after the arrow
abbrev after_arrow : ℕ → List ℕ → Unit {0} × ItemsLeft → Result Rule ℕ
after_arrow symbols left arrow = all_of exponent symbols arrow.1 >>= λ right. Ok (left, right)

-- after the left side
abbrev after_left : ℕ → List ℕ × ItemsLeft → Result Rule ℕ
after_left symbols left = one (word (codes ">")) left.1
    >>= λ arrow. after_arrow symbols left.0 arrow

-- exponents are tokens
exponent_tokens : (list : List ℕ) → All IsExponent list → All IsToken (map decimal list)
exponent_tokens list small =
    All-map IsToken decimal list (λ k d l. decimal_token _ (let s = small k d l in omega arith))

-- a list with an item in the middle isn't empty
in_the_middle : (left : List (List ℕ)) (x : List ℕ) (right : List (List ℕ)) →
    left ++ (x ∷ right) ≢ []
in_the_middle [] x right = λ e. cc
in_the_middle (y ∷ left) x right = λ e. cc

-- the line of a rule
pub rule_reads : (symbols : ℕ) → Reads (rule_in symbols) rule_items (IsRuleLine symbols)
rule_reads symbols = record {
  written =
      λ number rule is.
      let behind = codes ">" ∷ map decimal rule.1 in
      let final : List ℕ → Result Rule ℕ = λ right. Ok (rule.0, right) in
      step_on (times (one exponent) symbols (items_at number (rule_items rule)))
      (rule.0, items_at number behind) (after_left symbols) _
      (ap (λ n. times (one exponent) n (items_at number (rule_items rule))) (sym is.left_long)
      ∙ times_written exponent decimal IsExponent number rule.0 behind
      (λ k d l. exponent_written _ (is.left_small k d l)))
      (step_on (one (word (codes ">")) (items_at number behind))
      (tt, items_at number (map decimal rule.1)) (after_arrow symbols rule.0) _
      (one_written (word (codes ">")) (λ _. codes ">") (λ _. Unit {0}) number tt
      (map decimal rule.1) (word_written (codes ">")))
      (step_on (all_of exponent symbols (items_at number (map decimal rule.1))) rule.1 final _
      (ap (λ n. all_of exponent n (items_at number (map decimal rule.1))) (sym is.right_long)
      ∙ all_written exponent decimal number rule.1
      (λ k d l. exponent_written _ (is.right_small k d l)))
      refl));
  is_written =
      λ items rule e.
      let a = stepped (times (one exponent) symbols items) (after_left symbols) rule e in
      let b = stepped (one (word (codes ">")) a.0.1) (after_arrow symbols a.0.0) rule a.2 in
      let final : List ℕ → Result Rule ℕ = λ right. Ok (a.0.0, right) in
      let c = stepped (all_of exponent symbols b.0.1) final rule b.2 in
      let same : (a.0.0, c.0) ≡ rule = cc in
      let left =
      times_read exponent decimal IsExponent exponent_read symbols items a.0.1 a.0.0 a.1 in
      let arrow =
      one_read (word (codes ">")) (λ _. codes ">") (λ _. Unit {0})
      (λ item y f. (word_read (codes ">") item y f, tt)) a.0.1 b.0.1 b.0.0 b.1 in
      let right =
      all_of_read exponent decimal IsExponent exponent_read symbols b.0.1 c.0 c.1 in
      let made : Rule = (a.0.0, c.0) in
      let known : IsRuleLine symbols made = record {
        left_long = left.2;
        left_small = All-from_recursion IsExponent a.0.0 left.1;
        right_long = right.2;
        right_small = All-from_recursion IsExponent c.0 right.1;
      } in (
        left.0 ∙ ap (λ list. map decimal a.0.0 ++ list)
            (arrow.0 ∙ ap (λ list. codes ">" ∷ list) right.0)
            ∙ ap rule_items same,
        subst (IsRuleLine symbols) same known,
      );
  some = λ rule is. in_the_middle (map decimal rule.0) (codes ">") (map decimal rule.1);
  tokens =
      λ rule is.
      All-append IsToken (map decimal rule.0) (codes ">" ∷ map decimal rule.1)
      (exponent_tokens rule.0 is.left_small)
      (front (codes ">") (map decimal rule.1) (word_token (codes ">") (omega arith) refl)
      (exponent_tokens rule.1 is.right_small));
}

-- after the first list
abbrev after_first : ℕ → List ℕ × ItemsLeft → Result (List ℕ × List ℕ) ℕ
after_first second numbers =
    all_of rule_number second numbers.1 >>= λ others. Ok (numbers.0, others)

-- after the second length
abbrev after_second_length : ℕ → ℕ × ItemsLeft → Result (List ℕ × List ℕ) ℕ
after_second_length first second =
    times (one rule_number) first second.1 >>= λ numbers. after_first second.0 numbers

-- after the first length
abbrev after_first_length : ℕ × ItemsLeft → Result (List ℕ × List ℕ) ℕ
after_first_length first =
    one list_length first.1 >>= λ second. after_second_length first.0 second

-- two lists of rule numbers are read
traces_written : (number : ℕ) (a b : List ℕ) → AreTraces a b →
    traces_in (items_at number (trace_items a b)) ≡ Ok (a, b)
traces_written number a b is =
    let both = map decimal a ++ map decimal b in
    let final : List ℕ → Result (List ℕ × List ℕ) ℕ = λ others. Ok (a, others) in
    step_on (one list_length (items_at number (trace_items a b)))
    (length a, items_at number (decimal (length b) ∷ both)) after_first_length _
    (one_written list_length decimal IsLength number (length a) (decimal (length b) ∷ both)
    (length_written (length a) is.first_short))
    (step_on (one list_length (items_at number (decimal (length b) ∷ both)))
    (length b, items_at number both) (after_second_length (length a)) _
    (one_written list_length decimal IsLength number (length b) both
    (length_written (length b) is.second_short))
    (step_on (times (one rule_number) (length a) (items_at number both))
    (a, items_at number (map decimal b)) (after_first (length b)) _
    (times_written rule_number decimal IsNumber number a (map decimal b)
    (λ k d l. rule_number_written _ (is.first_numbers k d l)))
    (step_on (all_of rule_number (length b) (items_at number (map decimal b))) b final _
    (all_written rule_number decimal number b
    (λ k d l. rule_number_written _ (is.second_numbers k d l)))
    refl)))

-- and what is read is what is written of two
traces_read : (items : ItemsLeft) (p : List ℕ × List ℕ) → traces_in items ≡ Ok p →
    (items.items ≡ trace_items p.0 p.1) × AreTraces p.0 p.1
traces_read items p e =
    let a = stepped (one list_length items) after_first_length p e in
    let b = stepped (one list_length a.0.1) (after_second_length a.0.0) p a.2 in
    let c = stepped (times (one rule_number) a.0.0 b.0.1) (after_first b.0.0) p b.2 in
    let final : List ℕ → Result (List ℕ × List ℕ) ℕ = λ others. Ok (c.0.0, others) in
    let d = stepped (all_of rule_number b.0.0 c.0.1) final p c.2 in
    let same : (c.0.0, d.0) ≡ p = cc in
    let one_ = one_read list_length decimal IsLength length_read items a.0.1 a.0.0 a.1 in
    let two = one_read list_length decimal IsLength length_read a.0.1 b.0.1 b.0.0 b.1 in
    let three =
    times_read rule_number decimal IsNumber rule_number_read a.0.0 b.0.1 c.0.1 c.0.0 c.1 in
    let four =
    all_of_read rule_number decimal IsNumber rule_number_read b.0.0 c.0.1 d.0 d.1 in
    let first_long = three.2 in
    let second_long = four.2 in
    let short = one_.1 in
    let other_short = two.1 in
    let made : List ℕ × List ℕ = (c.0.0, d.0) in
    let known : AreTraces made.0 made.1 = record {
      first_numbers = All-from_recursion IsNumber c.0.0 three.1;
      second_numbers = All-from_recursion IsNumber d.0 four.1;
      first_short = omega arith;
      second_short = omega arith;
    } in (
      one_.0 ∙ ap (λ list. decimal a.0.0 ∷ list)
          (two.0 ∙ ap (λ list. decimal b.0.0 ∷ list)
          (three.0 ∙ ap (λ list. map decimal c.0.0 ++ list) four.0))
          ∙ ap (λ n. decimal n ∷ decimal b.0.0 ∷ map decimal c.0.0 ++ map decimal d.0)
          (sym first_long)
          ∙ ap (λ n. decimal (length c.0.0) ∷ decimal n ∷ map decimal c.0.0 ++ map decimal d.0)
          (sym second_long)
          ∙ ap (λ (q : List ℕ × List ℕ). trace_items q.0 q.1) same,
      subst (λ (q : List ℕ × List ℕ). AreTraces q.0 q.1) same known,
    )

-- two lists are tokens
trace_tokens : (a b : List ℕ) → AreTraces a b → All IsToken (trace_items a b)
trace_tokens a b is =
    let first = is.first_short in
    let second = is.second_short in
    front (decimal (length a)) (decimal (length b) ∷ map decimal a ++ map decimal b)
    (decimal_token (length a) (omega arith))
    (front (decimal (length b)) (map decimal a ++ map decimal b)
    (decimal_token (length b) (omega arith))
    (All-append IsToken (map decimal a) (map decimal b) (number_tokens a is.first_numbers)
    (number_tokens b is.second_numbers)))

-- the start of two lists
abbrev start_of : List ℕ × List ℕ → Start
start_of p = record { margin_steps = p.0; cell_steps = p.1 }

-- the line of a start
pub start_reads : Reads start_in start_items IsStart
start_reads = record {
  written =
      λ number start is.
      let final : List ℕ × List ℕ → Result Start ℕ = λ p. Ok (start_of p) in
      step_on (traces_in (items_at number (start_items start)))
      (start.margin_steps, start.cell_steps) final _
      (traces_written number start.margin_steps start.cell_steps is) refl;
  is_written =
      λ items start e.
      let final : List ℕ × List ℕ → Result Start ℕ = λ p. Ok (start_of p) in
      let a = stepped (traces_in items) final start e in
      let same : start_of a.0 ≡ start = cc in
      let found = traces_read items a.0 a.1 in
      (found.0 ∙ ap start_items same, subst IsStart same found.1);
  some = λ start is e. cc;
  tokens = λ start is. trace_tokens start.margin_steps start.cell_steps is;
}

-- the join of two numbers and two lists
abbrev join_of : ℕ → ℕ → List ℕ × List ℕ → Join
join_of low high p = record { low = low; high = high; low_steps = p.0; high_steps = p.1 }

-- after the second number
abbrev after_high : ℕ → ℕ × ItemsLeft → Result Join ℕ
after_high low high = traces_in high.1 >>= λ traces. Ok (join_of low high.0 traces)

-- after the first number
abbrev after_low : ℕ × ItemsLeft → Result Join ℕ
after_low low = one rule_number low.1 >>= λ high. after_high low.0 high

-- the line of a join
pub join_reads : Reads join_in join_items IsJoin
join_reads = record {
  written =
      λ number join is.
      let traces = trace_items join.low_steps join.high_steps in
      let final : List ℕ × List ℕ → Result Join ℕ = λ p. Ok (join_of join.low join.high p) in
      step_on (one rule_number (items_at number (join_items join)))
      (join.low, items_at number (decimal join.high ∷ traces)) after_low _
      (one_written rule_number decimal IsNumber number join.low (decimal join.high ∷ traces)
      (rule_number_written join.low is.low_fits))
      (step_on (one rule_number (items_at number (decimal join.high ∷ traces)))
      (join.high, items_at number traces) (after_high join.low) _
      (one_written rule_number decimal IsNumber number join.high traces
      (rule_number_written join.high is.high_fits))
      (step_on (traces_in (items_at number traces)) (join.low_steps, join.high_steps) final _
      (traces_written number join.low_steps join.high_steps is.traces) refl));
  is_written =
      λ items join e.
      let a = stepped (one rule_number items) after_low join e in
      let b = stepped (one rule_number a.0.1) (after_high a.0.0) join a.2 in
      let final : List ℕ × List ℕ → Result Join ℕ = λ p. Ok (join_of a.0.0 b.0.0 p) in
      let c = stepped (traces_in b.0.1) final join b.2 in
      let same : join_of a.0.0 b.0.0 c.0 ≡ join = cc in
      let low = one_read rule_number decimal IsNumber rule_number_read items a.0.1 a.0.0 a.1 in
      let high = one_read rule_number decimal IsNumber rule_number_read a.0.1 b.0.1 b.0.0 b.1 in
      let found = traces_read b.0.1 c.0 c.1 in
      let known : IsJoin (join_of a.0.0 b.0.0 c.0) =
      record { low_fits = low.1; high_fits = high.1; traces = found.1 } in (
        low.0 ∙ ap (λ list. decimal a.0.0 ∷ list)
            (high.0 ∙ ap (λ list. decimal b.0.0 ∷ list) found.0)
            ∙ ap join_items same,
        subst IsJoin same known,
      );
  some = λ join is e. cc;
  tokens =
      λ join is.
      let low = is.low_fits in
      let high = is.high_fits in
      let traces = trace_items join.low_steps join.high_steps in
      front (decimal join.low) (decimal join.high ∷ traces) (decimal_token join.low (omega arith))
      (front (decimal join.high) traces (decimal_token join.high (omega arith))
      (trace_tokens join.low_steps join.high_steps is.traces));
}

-- the path of a number and a list
abbrev path_of : ℕ → List ℤ → Path
path_of rule steps = record { rule = rule; steps = steps }

-- after the length
abbrev after_length : ℕ → ℕ × ItemsLeft → Result Path ℕ
after_length rule count =
    all_of signed_number count.0 count.1 >>= λ steps. Ok (path_of rule steps)

-- after the number of the rule
abbrev after_rule : ℕ × ItemsLeft → Result Path ℕ
after_rule rule = one list_length rule.1 >>= λ count. after_length rule.0 count

-- the line of a path
pub path_reads : Reads path_in path_items IsPath
path_reads = record {
  written =
      λ number path is.
      let steps = map signed_decimal path.steps in
      let final : List ℤ → Result Path ℕ = λ steps. Ok (path_of path.rule steps) in
      step_on (one rule_number (items_at number (path_items path)))
      (path.rule, items_at number (decimal (length path.steps) ∷ steps)) after_rule _
      (one_written rule_number decimal IsNumber number path.rule
      (decimal (length path.steps) ∷ steps) (rule_number_written path.rule is.rule_fits))
      (step_on (one list_length (items_at number (decimal (length path.steps) ∷ steps)))
      (length path.steps, items_at number steps) (after_length path.rule) _
      (one_written list_length decimal IsLength number (length path.steps) steps
      (length_written (length path.steps) is.short))
      (step_on (all_of signed_number (length path.steps) (items_at number steps)) path.steps
      final _
      (all_written signed_number signed_decimal number path.steps
      (λ k d l. signed_number_written _ (is.signed k d l)))
      refl));
  is_written =
      λ items path e.
      let a = stepped (one rule_number items) after_rule path e in
      let b = stepped (one list_length a.0.1) (after_length a.0.0) path a.2 in
      let final : List ℤ → Result Path ℕ = λ steps. Ok (path_of a.0.0 steps) in
      let c = stepped (all_of signed_number b.0.0 b.0.1) final path b.2 in
      let same : path_of a.0.0 c.0 ≡ path = cc in
      let rule = one_read rule_number decimal IsNumber rule_number_read items a.0.1 a.0.0 a.1 in
      let count = one_read list_length decimal IsLength length_read a.0.1 b.0.1 b.0.0 b.1 in
      let found =
      all_of_read signed_number signed_decimal IsSigned signed_number_read b.0.0 b.0.1 c.0 c.1 in
      let long = found.2 in
      let small = count.1 in
      let known : IsPath (path_of a.0.0 c.0) = record {
        rule_fits = rule.1;
        signed = All-from_recursion IsSigned c.0 found.1;
        short = omega arith;
      } in (
        rule.0 ∙ ap (λ list. decimal a.0.0 ∷ list)
            (count.0 ∙ ap (λ list. decimal b.0.0 ∷ list) found.0)
            ∙ ap (λ n. decimal a.0.0 ∷ decimal n ∷ map signed_decimal c.0) (sym long)
            ∙ ap path_items same,
        subst IsPath same known,
      );
  some = λ path is e. cc;
  tokens =
      λ path is.
      let rule = is.rule_fits in
      let short = is.short in
      front (decimal path.rule)
      (decimal (length path.steps) ∷ map signed_decimal path.steps)
      (decimal_token path.rule (omega arith))
      (front (decimal (length path.steps)) (map signed_decimal path.steps)
      (decimal_token (length path.steps) (omega arith))
      (All-map IsToken signed_decimal path.steps
      (λ k d l. token-signed_decimal _ (let f = (is.signed k d l).fits in omega arith))));
}
