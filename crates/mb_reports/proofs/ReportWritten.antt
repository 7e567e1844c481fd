-- The lines of a report, written one after the other.
use Rattle.std.proofs.Common.{List, [], ap, append-nil, append_assoc, codes, map, sym, ℕ, ◌++◌, ◌∙◌, ◌∷◌, ◌≡◌}
use Rattle.std.specs.Fmt.{decimal}
use Rattle.std.specs.Prelude.{sum}
use Rattle.mb_reports.proofs.ReportTexts.{text_is}
use Rattle.mb_reports.specs.Report.{Report, fraction_item, report_text}
use Rattle.mb_text.proofs.PutBehind.{four_put, three_put}
use Rattle.mb_text.specs.Lines.{line}
use Rattle.mb_weights.specs.Decimals.{decimals_of}

-- the line of a fraction, put behind a text
pub fraction_put : (before a b c d e : List ℕ) (below whole : ℕ) →
    a ≡ before ++ codes "fraction " → b ≡ a ++ decimal below → c ≡ b ++ codes "/" →
    d ≡ c ++ decimal whole → e ≡ d ++ codes "\n" →
    e ≡ before ++ line (codes "fraction" ∷ fraction_item (below, whole) ∷ [])
unfolding line
fraction_put before a b c d e below whole ea eb ec ed ee =
    four_put a b c d e (decimal below) (codes "/") (decimal whole) (codes "\n") eb ec ed ee
    ∙ ap (λ t. t ++ (decimal below ++ 47 ∷ (decimal whole ++ 10 ∷ []))) ea
    ∙ append_assoc before (codes "fraction ")
    (decimal below ++ 47 ∷ (decimal whole ++ 10 ∷ []))
    ∙ ap (λ t. before ++ (codes "fraction " ++ t))
    (sym (append_assoc (decimal below) (47 ∷ decimal whole) (10 ∷ [])))

-- three pieces and a rest
three_then : (x y z rest : List ℕ) → (x ++ (y ++ z)) ++ rest ≡ x ++ (y ++ (z ++ rest))
three_then x y z rest =
    append_assoc x (y ++ z) rest ∙ ap (λ t. x ++ t) (append_assoc y z rest)

-- the parts of a report, put one after the other, are its text
pub report_put : (report : Report) (observed rings empty a b c : List ℕ) →
    observed ≡ report.observed → rings ≡ report.rings → empty ≡ [] →
    a ≡ empty ++ (line (codes "analysis" ∷ report.name ∷ [])
    ++ (line (codes "basis" ∷ report.basis ∷ [])
    ++ (line (codes "model" ∷ report.model ∷ [])
    ++ line (codes "dataset" ∷ report.dataset ∷ [])))) →
    b ≡ a ++ (line (codes "observed" ∷ map decimal observed)
    ++ (line (codes "tables" ∷ decimal (sum rings) ∷ [])
    ++ line (codes "rings" ∷ map decimal rings))) →
    c ≡ b ++ (line (codes "weight" ∷ decimal report.weight ∷ [])
    ++ (line (codes "fraction" ∷ fraction_item (report.below, report.whole) ∷ [])
    ++ line (codes "decimals" ∷ decimals_of report.below report.whole ∷ []))) →
    c ≡ report_text report
report_put report observed rings empty a b c eo er none ea eb ec =
    let name = line (codes "analysis" ∷ report.name ∷ []) in
    let basis = line (codes "basis" ∷ report.basis ∷ []) in
    let model = line (codes "model" ∷ report.model ∷ []) in
    let dataset = line (codes "dataset" ∷ report.dataset ∷ []) in
    let table = line (codes "observed" ∷ map decimal report.observed) in
    let tables = line (codes "tables" ∷ decimal (sum report.rings) ∷ []) in
    let sizes = line (codes "rings" ∷ map decimal report.rings) in
    let weight = line (codes "weight" ∷ decimal report.weight ∷ []) in
    let fraction = line (codes "fraction" ∷ fraction_item (report.below, report.whole) ∷ []) in
    let decimals = line (codes "decimals" ∷ decimals_of report.below report.whole ∷ []) in
    let first = name ++ (basis ++ (model ++ dataset)) in
    let second = table ++ (tables ++ sizes) in
    let counts : List ℕ → List ℕ → List ℕ =
    λ o r. line (codes "observed" ∷ map decimal o)
    ++ (line (codes "tables" ∷ decimal (sum r) ∷ []) ++ line (codes "rings" ∷ map decimal r)) in
    let third = weight ++ (fraction ++ decimals) in
    three_put empty a b c first second third ea
    (eb ∙ ap (λ o. a ++ counts o rings) eo ∙ ap (λ r. a ++ counts report.observed r) er) ec
    ∙ ap (λ t. t ++ (first ++ (second ++ third))) none
    ∙ append_assoc name (basis ++ (model ++ dataset)) (second ++ third)
    ∙ ap (λ t. name ++ t) (three_then basis model dataset (second ++ third))
    ∙ ap (λ t. name ++ (basis ++ (model ++ (dataset ++ t))))
    (three_then table tables sizes third
    ∙ ap (λ t. table ++ (tables ++ (sizes ++ (weight ++ (fraction ++ t)))))
    (sym (append-nil decimals)))
    ∙ sym (text_is report)
