-- The text of a report, both ways.
use Rattle.std.proofs.Common.{List, Ok, Result, ap, arith, length, nat_le, refl, subst, sym, true, ℕ, ◌<◌, ◌^◌, ◌∙◌, ◌≡◌, ◌≤◌}
use Rattle.std.proofs.lemmas.Bool.Decides.{nat_tests}
use Rattle.std.proofs.lemmas.List.Splits.{join_with_byte-slice_split}
use Rattle.std.specs.Fmt.{decimal}
use Rattle.std.specs.Prelude.{sum}
use Rattle.mb_reports.proofs.ReportParts.{Counts, Names, PValue, counts_back, counts_said, counts_then, names_back, names_said, names_then, p_value_back, p_value_said, p_value_text}
use Rattle.mb_reports.specs.Report.{FitsReport, IsReport, Report, report_text}
use Rattle.mb_reports.specs.ReportText.{counts_in, names_in, p_value_in, report_of}
use Rattle.mb_tables.specs.Answers.{◌>>=◌}
use Rattle.mb_text.proofs.PieceCases.{same_text}
use Rattle.mb_text.proofs.RecordSteps.{step_on, stepped}
use Rattle.mb_text.specs.Lines.{lines}

-- the names of a report
abbrev names_of : Report → Names
names_of report = (report.name, report.basis, report.model, report.dataset)

-- its counts
abbrev counts_of : Report → Counts
counts_of report = (report.observed, report.rings)

-- its p-value
abbrev p_value_of : Report → PValue
p_value_of report = (report.weight, (report.below, report.whole))

-- the report of these parts
abbrev of_parts : Names → Counts → PValue → Report
of_parts names counts p = record {
  name = names.0;
  basis = names.1;
  model = names.2;
  dataset = names.3;
  observed = counts.0;
  rings = counts.1;
  weight = p.0;
  below = p.1.0;
  whole = p.1.1;
}

-- the parts of a report's text, one after the other
pub text_is : (report : Report) →
    report_text report
    ≡ names_then (names_of report) (counts_then (counts_of report)
    (p_value_text (p_value_of report)))
unfolding report_text
text_is report = refl

-- after the p-value
abbrev with_p_value : Names → Counts → PValue → Result Report ℕ
with_p_value names counts p = Ok (of_parts names counts p)

-- after the counts
abbrev with_counts : Names → Counts × List (List ℕ) → Result Report ℕ
with_counts names counts = p_value_in counts.1 >>= λ p. with_p_value names counts.0 p

-- after the names
abbrev with_names : Names × List (List ℕ) → Result Report ℕ
with_names names = counts_in names.1 >>= λ counts. with_counts names.0 counts

-- counts of a table are few
are_few-true : (n : ℕ) → n ≤ 64 → nat_le n 64 ≡ true
are_few-true n few = grind (arith, nat_tests, few)

-- what is read of a report's text is the report
pub report_said : (report : Report) → IsReport report → FitsReport report →
    sum report.rings < 2 ^ 128 → report_of (report_text report) ≡ Ok report
unfolding report_of
report_said report is fits small =
    let p = p_value_of report in
    let counts = counts_of report in
    let sums = fits.sums in
    let likely = is.likely in
    let within = is.within in
    ap (λ text. names_in (lines text) >>= with_names) (text_is report)
    ∙ step_on _ (names_of report, lines (counts_then counts (p_value_text p))) with_names _
    (names_said (names_of report) (counts_then counts (p_value_text p))
    (record {
      named = is.named;
      of_basis = is.of_basis;
      of_model = is.of_model;
      of_dataset = is.of_dataset;
    }))
    (step_on _ (counts, lines (p_value_text p)) (with_counts (names_of report)) _
    (counts_said counts (p_value_text p)
    (record {
      observed = record {
        are = record { some = is.some_cells; small = fits.table.fits };
        pass = are_few-true (length report.observed) fits.table.few;
      };
      rings = record {
        are = record { some = is.some_rings; small = fits.sizes };
        pass = same_text (decimal (sum report.rings));
      };
    })
    (omega arith))
    (step_on _ p (with_p_value (names_of report) counts) _
    (p_value_said p
    (record {
      weight = record { some = is.weighed; small = omega arith };
      sums = record { low = is.likely; high = is.within; small = fits.sums };
    }))
    refl))

-- counts that pass are those of a table
few-are : (n : ℕ) → nat_le n 64 ≡ true → n ≤ 64
few-are n e = grind (arith, nat_tests, e)

-- parts that were read are those of a report that the program can hold
pub parts_are : (pieces : List (List ℕ)) (names : Names) (next : List (List ℕ)) (counts : Counts)
    (last : List (List ℕ)) (p : PValue) → names_in pieces ≡ Ok (names, next) →
    counts_in next ≡ Ok (counts, last) → p_value_in last ≡ Ok p →
    IsReport (of_parts names counts p) × FitsReport (of_parts names counts p)
parts_are pieces names next counts last p en ec ep =
    let read = names_back pieces (names, next) en in
    let found = counts_back next (counts, last) ec in
    let value = p_value_back last p ep in (
      record {
        named = read.are.named;
        of_basis = read.are.of_basis;
        of_model = read.are.of_model;
        of_dataset = read.are.of_dataset;
        some_cells = found.are.observed.are.some;
        some_rings = found.are.rings.are.some;
        weighed = value.is.weight.some;
        likely = value.is.sums.low;
        within = value.is.sums.high;
      },
      record {
        table = record {
          few = few-are (length counts.0) found.are.observed.pass;
          fits = found.are.observed.are.small;
        };
        sizes = found.are.rings.are.small;
        sums = value.is.sums.small;
      },
    )

-- what a text is that was read as a report
pub record ReportRead (text : List ℕ) (report : Report) : Type 0 where
  pub written : text ≡ report_text report
  pub is : IsReport report
  pub fits : FitsReport report

-- so is each
pub report_back : (text : List ℕ) (report : Report) → report_of text ≡ Ok report →
    ReportRead text report
unfolding report_of
report_back text report e =
    let a = stepped (names_in (lines text)) with_names report e in
    let b = stepped (counts_in a.0.1) (with_counts a.0.0) report a.2 in
    let c = stepped (p_value_in b.0.1) (with_p_value a.0.0 b.0.0) report b.2 in
    let made = of_parts a.0.0 b.0.0 c.0 in
    let same : made ≡ report = cc in
    let names = names_back (lines text) a.0 a.1 in
    let counts = counts_back a.0.1 b.0 b.1 in
    let p = p_value_back b.0.1 c.0 c.1 in
    let are = parts_are (lines text) a.0.0 a.0.1 b.0.0 b.0.1 c.0 a.1 b.1 c.1 in
    let read : ReportRead text made = record {
      written =
          sym (join_with_byte-slice_split 10 text) ∙ names.joined
          ∙ ap (names_then a.0.0) (counts.joined ∙ ap (counts_then b.0.0) p.joined)
          ∙ sym (text_is made);
      is = are.0;
      fits = are.1;
    } in
    subst (ReportRead text) same read
