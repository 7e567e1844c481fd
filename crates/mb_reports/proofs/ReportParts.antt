-- The parts of a report's text, both ways.
use Rattle.std.proofs.Common.{List, Ok, Result, [], ap, codes, map, refl, subst, true, ℕ, ◌++◌, ◌<◌, ◌^◌, ◌∙◌, ◌∷◌, ◌≡◌}
use Rattle.std.proofs.lemmas.Slice.Eq.{bytes_eq-Decides}
use Rattle.std.specs.Fmt.{decimal}
use Rattle.std.specs.List.{join_with_byte}
use Rattle.std.specs.Prelude.{sum}
use Rattle.mb_reports.proofs.ReportItems.{AreSums, IsPositive}
use Rattle.mb_reports.proofs.ReportLines.{are_few, decimals_reads, fraction_reads, observed_reads, rings_reads, tables_reads, weight_reads}
use Rattle.mb_reports.specs.Report.{fraction_item}
use Rattle.mb_reports.specs.ReportText.{counts_in, decimals_in, fraction_in, have_in_all, names_in, observed_in, p_value_in, rings_in, tables_in, weight_in}
use Rattle.mb_tables.specs.Answers.{◌>>=◌}
use Rattle.mb_text.proofs.ItemBytes.{is_item}
use Rattle.mb_text.proofs.LineReaders.{PassNumbers, line_back, line_read, name_reads}
use Rattle.mb_text.proofs.NumeralItems.{decimal_is_numeral}
use Rattle.mb_text.proofs.RecordSteps.{step_on, stepped}
use Rattle.mb_text.proofs.SaidLines.{ends_read}
use Rattle.mb_text.specs.LineForms.{is_numeral, name_after}
use Rattle.mb_text.specs.Lines.{line, lines}
use Rattle.mb_text.specs.Name.{IsName}
use Rattle.mb_text.specs.RecordLines.{ends, says}
use Rattle.mb_weights.specs.Decimals.{decimals_of}

-- the four names
abbrev pub Names : Type 0
Names = List ℕ × List ℕ × List ℕ × List ℕ

-- four names of the form of names
pub record AreNames (names : Names) : Type 0 where
  pub named : IsName names.0
  pub of_basis : IsName names.1
  pub of_model : IsName names.2
  pub of_dataset : IsName names.3

-- the lines of the names, and a rest
abbrev pub names_then : Names → List ℕ → List ℕ
names_then names rest =
    line (codes "analysis" ∷ names.0 ∷ []) ++ (line (codes "basis" ∷ names.1 ∷ [])
    ++ (line (codes "model" ∷ names.2 ∷ []) ++ (line (codes "dataset" ∷ names.3 ∷ []) ++ rest)))

-- after the last name
abbrev with_dataset : List ℕ → List ℕ → List ℕ → List ℕ × List (List ℕ) →
    Result (Names × List (List ℕ)) ℕ
with_dataset name basis model dataset = Ok ((name, basis, model, dataset.0), dataset.1)

-- after the third
abbrev with_model : List ℕ → List ℕ → List ℕ × List (List ℕ) → Result (Names × List (List ℕ)) ℕ
with_model name basis model =
    says 4 (name_after (codes "dataset")) model.1 >>= λ dataset.
    with_dataset name basis model.0 dataset

-- after the second
abbrev with_basis : List ℕ → List ℕ × List (List ℕ) → Result (Names × List (List ℕ)) ℕ
with_basis name basis =
    says 3 (name_after (codes "model")) basis.1 >>= λ model. with_model name basis.0 model

-- after the first
abbrev with_name : List ℕ × List (List ℕ) → Result (Names × List (List ℕ)) ℕ
with_name name = says 2 (name_after (codes "basis")) name.1 >>= λ basis. with_basis name.0 basis

-- a name that is written is read
name_said : (number : ℕ) (word : List ℕ) → is_item word ≡ true → (name rest : List ℕ) →
    IsName name →
    says number (name_after word) (lines (line (word ∷ name ∷ []) ++ rest)) ≡ Ok (name, lines rest)
name_said number word is_word name rest is =
    line_read (name_after word) (λ n. word ∷ n ∷ []) IsName (name_reads word is_word) number name
    rest is

-- a name that was read is what is written
name_back : (number : ℕ) (word : List ℕ) → is_item word ≡ true → (pieces : List (List ℕ))
    (name : List ℕ) (rest : List (List ℕ)) → says number (name_after word) pieces
    ≡ Ok (name, rest) →
    (join_with_byte 10 pieces ≡ line (word ∷ name ∷ []) ++ join_with_byte 10 rest) × IsName name
name_back number word is_word pieces name rest e =
    line_back (name_after word) (λ n. word ∷ n ∷ []) IsName (name_reads word is_word) number pieces
    name rest e

-- the names are read as they are written
pub names_said : (names : Names) (rest : List ℕ) → AreNames names →
    names_in (lines (names_then names rest)) ≡ Ok (names, lines rest)
unfolding names_in
names_said names rest are =
    let four = line (codes "dataset" ∷ names.3 ∷ []) ++ rest in
    let three = line (codes "model" ∷ names.2 ∷ []) ++ four in
    let two = line (codes "basis" ∷ names.1 ∷ []) ++ three in
    step_on _ (names.0, lines two) with_name _
    (name_said 1 (codes "analysis") refl names.0 two are.named)
    (step_on _ (names.1, lines three) (with_basis names.0) _
    (name_said 2 (codes "basis") refl names.1 three are.of_basis)
    (step_on _ (names.2, lines four) (with_model names.0 names.1) _
    (name_said 3 (codes "model") refl names.2 four are.of_model)
    (step_on _ (names.3, lines rest) (with_dataset names.0 names.1 names.2) _
    (name_said 4 (codes "dataset") refl names.3 rest are.of_dataset)
    refl)))

-- names that were read, and what follows them
pub record NamesRead (pieces : List (List ℕ)) (found : Names × List (List ℕ)) : Type 0 where
  pub are : AreNames found.0
  pub joined : join_with_byte 10 pieces ≡ names_then found.0 (join_with_byte 10 found.1)

-- are names, and their lines are what is written of them
pub names_back : (pieces : List (List ℕ)) (found : Names × List (List ℕ)) →
    names_in pieces ≡ Ok found → NamesRead pieces found
unfolding names_in
names_back pieces found e =
    let a = stepped (says 1 (name_after (codes "analysis")) pieces) with_name found e in
    let b = stepped (says 2 (name_after (codes "basis")) a.0.1) (with_basis a.0.0) found a.2 in
    let c =
    stepped (says 3 (name_after (codes "model")) b.0.1) (with_model a.0.0 b.0.0) found b.2 in
    let d =
    stepped (says 4 (name_after (codes "dataset")) c.0.1) (with_dataset a.0.0 b.0.0 c.0.0) found
    c.2 in
    let made : Names × List (List ℕ) = ((a.0.0, b.0.0, c.0.0, d.0.0), d.0.1) in
    let same : made ≡ found = cc in
    let one = name_back 1 (codes "analysis") refl pieces a.0.0 a.0.1 a.1 in
    let two = name_back 2 (codes "basis") refl a.0.1 b.0.0 b.0.1 b.1 in
    let three = name_back 3 (codes "model") refl b.0.1 c.0.0 c.0.1 c.1 in
    let four = name_back 4 (codes "dataset") refl c.0.1 d.0.0 d.0.1 d.1 in
    let read : NamesRead pieces made = record {
      are = record { named = one.1; of_basis = two.1; of_model = three.1; of_dataset = four.1 };
      joined =
          one.0 ∙ ap (λ t. line (codes "analysis" ∷ a.0.0 ∷ []) ++ t)
          (two.0 ∙ ap (λ t. line (codes "basis" ∷ b.0.0 ∷ []) ++ t)
          (three.0 ∙ ap (λ t. line (codes "model" ∷ c.0.0 ∷ []) ++ t) four.0));
    } in
    subst (NamesRead pieces) same read

-- the observed table, and the sizes of the rings
abbrev pub Counts : Type 0
Counts = List ℕ × List ℕ

-- both are numbers of their lines
pub record AreCounts (counts : Counts) : Type 0 where
  pub observed : PassNumbers are_few counts.0
  pub rings : PassNumbers (have_in_all (decimal (sum counts.1))) counts.1

-- the lines of the counts, and a rest
abbrev pub counts_then : Counts → List ℕ → List ℕ
counts_then counts rest =
    line (codes "observed" ∷ map decimal counts.0)
    ++ (line (codes "tables" ∷ decimal (sum counts.1) ∷ [])
    ++ (line (codes "rings" ∷ map decimal counts.1) ++ rest))

-- after the rings
abbrev with_rings : List ℕ → List ℕ × List (List ℕ) → Result (Counts × List (List ℕ)) ℕ
with_rings observed rings = Ok ((observed, rings.0), rings.1)

-- after the number of tables
abbrev with_tables : List ℕ → List ℕ × List (List ℕ) → Result (Counts × List (List ℕ)) ℕ
with_tables observed tables =
    says 7 (rings_in tables.0) tables.1 >>= λ rings. with_rings observed rings

-- after the observed table
abbrev with_observed : List ℕ × List (List ℕ) → Result (Counts × List (List ℕ)) ℕ
with_observed observed =
    says 6 tables_in observed.1 >>= λ tables. with_tables observed.0 tables

-- the counts are read as they are written
pub counts_said : (counts : Counts) (rest : List ℕ) → AreCounts counts →
    sum counts.1 < 10 ^ 64 → counts_in (lines (counts_then counts rest)) ≡ Ok (counts, lines rest)
unfolding counts_in
counts_said counts rest are small =
    let number = decimal (sum counts.1) in
    let three = line (codes "rings" ∷ map decimal counts.1) ++ rest in
    let two = line (codes "tables" ∷ number ∷ []) ++ three in
    step_on _ (counts.0, lines two) with_observed _
    (line_read observed_in (λ list. codes "observed" ∷ map decimal list) (PassNumbers are_few)
    observed_reads 5 counts.0 two are.observed)
    (step_on _ (number, lines three) (with_tables counts.0) _
    (line_read tables_in (λ item. codes "tables" ∷ item ∷ []) (λ item. is_numeral item ≡ true)
    tables_reads 6 number three (decimal_is_numeral (sum counts.1) small))
    (step_on _ (counts.1, lines rest) (with_rings counts.0) _
    (line_read (rings_in number) (λ list. codes "rings" ∷ map decimal list)
    (PassNumbers (have_in_all number)) (rings_reads number) 7 counts.1 rest are.rings)
    refl))

-- counts that were read, and what follows them
pub record CountsRead (pieces : List (List ℕ)) (found : Counts × List (List ℕ)) : Type 0 where
  pub are : AreCounts found.0
  pub joined : join_with_byte 10 pieces ≡ counts_then found.0 (join_with_byte 10 found.1)

-- fit their lines, which are what is written of them
pub counts_back : (pieces : List (List ℕ)) (found : Counts × List (List ℕ)) →
    counts_in pieces ≡ Ok found → CountsRead pieces found
unfolding counts_in
counts_back pieces found e =
    let a = stepped (says 5 observed_in pieces) with_observed found e in
    let b = stepped (says 6 tables_in a.0.1) (with_tables a.0.0) found a.2 in
    let c = stepped (says 7 (rings_in b.0.0) b.0.1) (with_rings a.0.0) found b.2 in
    let made : Counts × List (List ℕ) = ((a.0.0, c.0.0), c.0.1) in
    let same : made ≡ found = cc in
    let one =
    line_back observed_in (λ list. codes "observed" ∷ map decimal list) (PassNumbers are_few)
    observed_reads 5 pieces a.0.0 a.0.1 a.1 in
    let two =
    line_back tables_in (λ item. codes "tables" ∷ item ∷ []) (λ item. is_numeral item ≡ true)
    tables_reads 6 a.0.1 b.0.0 b.0.1 b.1 in
    let three =
    line_back (rings_in b.0.0) (λ list. codes "rings" ∷ map decimal list)
    (PassNumbers (have_in_all b.0.0)) (rings_reads b.0.0) 7 b.0.1 c.0.0 c.0.1 c.1 in
    let total : b.0.0 ≡ decimal (sum c.0.0) =
    (bytes_eq-Decides b.0.0 (decimal (sum c.0.0))).0 three.1.pass in
    let read : CountsRead pieces made = record {
      are = record {
        observed = one.1;
        rings = subst (λ item. PassNumbers (have_in_all item) c.0.0) total three.1;
      };
      joined =
          one.0 ∙ ap (λ t. line (codes "observed" ∷ map decimal a.0.0) ++ t)
          (two.0 ∙ ap (λ item. line (codes "tables" ∷ item ∷ []) ++ join_with_byte 10 b.0.1) total
          ∙ ap (λ t. line (codes "tables" ∷ decimal (sum c.0.0) ∷ []) ++ t) three.0);
    } in
    subst (CountsRead pieces) same read

-- the weight, and the two sums
abbrev pub PValue : Type 0
PValue = ℕ × (ℕ × ℕ)

-- fit their lines
pub record IsPValue (p : PValue) : Type 0 where
  pub weight : IsPositive p.0
  pub sums : AreSums p.0 p.1

-- the lines of a p-value
abbrev pub p_value_text : PValue → List ℕ
p_value_text p =
    line (codes "weight" ∷ decimal p.0 ∷ [])
    ++ (line (codes "fraction" ∷ fraction_item p.1 ∷ [])
    ++ (line (codes "decimals" ∷ decimals_of p.1.0 p.1.1 ∷ []) ++ []))

-- after the decimals
abbrev with_decimals : ℕ → ℕ × ℕ → Unit {0} × List (List ℕ) → Result PValue ℕ
with_decimals weight sums decimals = ends 11 decimals.1 >>= λ nothing. Ok (weight, sums)

-- after the fraction
abbrev with_sums : ℕ → (ℕ × ℕ) × List (List ℕ) → Result PValue ℕ
with_sums weight sums =
    says 10 (decimals_in sums.0) sums.1 >>= λ decimals. with_decimals weight sums.0 decimals

-- after the weight
abbrev with_weight : ℕ × List (List ℕ) → Result PValue ℕ
with_weight weight =
    says 9 (fraction_in weight.0) weight.1 >>= λ sums. with_sums weight.0 sums

-- a p-value is read as it is written
pub p_value_said : (p : PValue) → IsPValue p → p_value_in (lines (p_value_text p)) ≡ Ok p
unfolding p_value_in
p_value_said p is =
    let three = line (codes "decimals" ∷ decimals_of p.1.0 p.1.1 ∷ []) ++ [] in
    let two = line (codes "fraction" ∷ fraction_item p.1 ∷ []) ++ three in
    step_on _ (p.0, lines two) with_weight _
    (line_read weight_in (λ n. codes "weight" ∷ decimal n ∷ []) IsPositive weight_reads 8 p.0 two
    is.weight)
    (step_on _ (p.1, lines three) (with_sums p.0) _
    (line_read (fraction_in p.0) (λ sums. codes "fraction" ∷ fraction_item sums ∷ [])
    (AreSums p.0) (fraction_reads p.0) 9 p.1 three is.sums)
    (step_on _ (tt, lines []) (with_decimals p.0 p.1) _
    (line_read (decimals_in p.1) (λ _. codes "decimals" ∷ decimals_of p.1.0 p.1.1 ∷ [])
    (λ _. Unit {0}) (decimals_reads p.1) 10 tt [] tt)
    refl))

-- a p-value that was read, to the end of the text
pub record PValueRead (pieces : List (List ℕ)) (p : PValue) : Type 0 where
  pub is : IsPValue p
  pub joined : join_with_byte 10 pieces ≡ p_value_text p

-- fits its lines, which are what is written of it
pub p_value_back : (pieces : List (List ℕ)) (p : PValue) → p_value_in pieces ≡ Ok p →
    PValueRead pieces p
unfolding p_value_in
p_value_back pieces p e =
    let a = stepped (says 8 weight_in pieces) with_weight p e in
    let b = stepped (says 9 (fraction_in a.0.0) a.0.1) (with_sums a.0.0) p a.2 in
    let c = stepped (says 10 (decimals_in b.0.0) b.0.1) (with_decimals a.0.0 b.0.0) p b.2 in
    let after : Unit {0} → Result PValue ℕ = λ nothing. Ok (a.0.0, b.0.0) in
    let d = stepped (ends 11 c.0.1) after p c.2 in
    let made : PValue = (a.0.0, b.0.0) in
    let same : made ≡ p = cc in
    let one =
    line_back weight_in (λ n. codes "weight" ∷ decimal n ∷ []) IsPositive weight_reads 8 pieces
    a.0.0 a.0.1 a.1 in
    let two =
    line_back (fraction_in a.0.0) (λ sums. codes "fraction" ∷ fraction_item sums ∷ [])
    (AreSums a.0.0) (fraction_reads a.0.0) 9 a.0.1 b.0.0 b.0.1 b.1 in
    let three =
    line_back (decimals_in b.0.0) (λ _. codes "decimals" ∷ decimals_of b.0.0.0 b.0.0.1 ∷ [])
    (λ _. Unit {0}) (decimals_reads b.0.0) 10 b.0.1 c.0.0 c.0.1 c.1 in
    let read : PValueRead pieces made = record {
      is = record { weight = one.1; sums = two.1 };
      joined =
          one.0 ∙ ap (λ t. line (codes "weight" ∷ decimal a.0.0 ∷ []) ++ t)
          (two.0 ∙ ap (λ t. line (codes "fraction" ∷ fraction_item b.0.0 ∷ []) ++ t)
          (three.0 ∙ ap (λ ps. line (codes "decimals" ∷ decimals_of b.0.0.0 b.0.0.1 ∷ [])
          ++ join_with_byte 10 ps) (ends_read 11 c.0.1 d.0 d.1)));
    } in
    subst (PValueRead pieces) same read
