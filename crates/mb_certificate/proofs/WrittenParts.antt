-- Lines that are written number by number, and lists of lines.
use Rattle.std.proofs.Common.{Err, List, Ok, OnOk, Result, [], ap, append_assoc, arith, codes, length, map, refl, sym, ℕ, ℤ, ◌++◌, ◌+◌, ◌∙◌, ◌∷◌, ◌≡◌, ◌≤◌}
use Rattle.std.proofs.lemmas.List.{length-map}
use Rattle.std.proofs.lemmas.Simd.{map-map}
use Rattle.std.specs.Fmt.{decimal, signed_decimal}
use Rattle.std.specs.List.{flat_map, join_with_byte}
use Rattle.mb_certificate.specs.Certificate.{Certificate, Join, Path, Start}
use Rattle.mb_certificate.specs.CertificateText.{order_name}
use Rattle.mb_certificate.specs.Sides.{sides}
use Rattle.mb_certificate.specs.Written.{join_items, matrix_text, move_items, path_items, rule_items, rules_text, section_text, start_items, text_of, trace_items}
use Rattle.mb_certificate.specs.declared.parts.Pair.{Pair}
use Rattle.mb_matrix.specs.Matrix.{Design}
use Rattle.mb_order.specs.Rewriting.{Rule}
use Rattle.mb_order.specs.declared.order.Order.{Order}
use Rattle.mb_text.proofs.JoinSteps.{joined, line_added}
use Rattle.mb_text.proofs.SaidLines.{end_line}
use Rattle.mb_text.specs.Lines.{line}

-- items that are joined, and more of them
join_more : {A : Type 0} (text : A → List ℕ) (first : List ℕ) (list : List (List ℕ))
    (xs : List A) →
    join_with_byte 32 (first ∷ list ++ map text xs)
    ≡ join_with_byte 32 (first ∷ list) ++ flat_map (λ x. 32 ∷ text x) xs
join_more text first [] xs = joined text first xs
join_more text first (item ∷ list) xs =
    ap (λ more. first ++ (32 ∷ more)) (join_more text item list xs)
    ∙ sym (append_assoc first (32 ∷ join_with_byte 32 (item ∷ list))
    (flat_map (λ x. 32 ∷ text x) xs))

-- more items behind a text that ends with some
pub extended : {A : Type 0} (text : A → List ℕ) (before out new first : List ℕ)
    (list : List (List ℕ)) (xs : List A) → out ≡ before ++ join_with_byte 32 (first ∷ list) →
    new ≡ out ++ flat_map (λ x. 32 ∷ text x) xs →
    new ≡ before ++ join_with_byte 32 (first ∷ list ++ map text xs)
extended text before out new first list xs e f =
    f ∙ ap (λ o. o ++ flat_map (λ x. 32 ∷ text x) xs) e
    ∙ append_assoc before (join_with_byte 32 (first ∷ list)) (flat_map (λ x. 32 ∷ text x) xs)
    ∙ ap (λ more. before ++ more) (sym (join_more text first list xs))

-- the lines of a list, one after the other
pub each_line : {A : Type 0} (items : A → List (List ℕ)) (xs : List A) →
    flat_map (λ x. line (items x)) xs ≡ flat_map line (map items xs)
each_line items [] = refl
each_line items (x ∷ xs) = ap (λ text. line (items x) ++ text) (each_line items xs)

-- two lists behind the items that a line begins with, and its end
two_lists : (before o1 o2 o3 o4 first : List ℕ) (list : List (List ℕ)) (a b : List ℕ) →
    o1 ≡ before ++ join_with_byte 32 (first ∷ list) →
    o2 ≡ o1 ++ flat_map (λ n. 32 ∷ decimal n) a → o3 ≡ o2 ++ flat_map (λ n. 32 ∷ decimal n) b →
    o4 ≡ o3 ++ 10 ∷ [] → o4 ≡ before ++ line (first ∷ list ++ (map decimal a ++ map decimal b))
two_lists before o1 o2 o3 o4 first list a b e1 e2 e3 e4 =
    line_added before o3 o4 (first ∷ list ++ (map decimal a ++ map decimal b))
    (extended decimal before o2 o3 first (list ++ map decimal a) b
    (extended decimal before o1 o2 first list a e1 e2) e3
    ∙ ap (λ items. before ++ join_with_byte 32 (first ∷ items))
    (append_assoc list (map decimal a) (map decimal b)))
    e4

-- a start is written
pub start_written : (before p o1 o2 o3 o4 a b : List ℕ) (la lb : ℕ) (start : Start) →
    a ≡ start.margin_steps → b ≡ start.cell_steps → la ≡ length a → lb ≡ length b →
    p ≡ before ++ decimal la → o1 ≡ p ++ flat_map (λ n. 32 ∷ decimal n) (lb ∷ []) →
    o2 ≡ o1 ++ flat_map (λ n. 32 ∷ decimal n) a → o3 ≡ o2 ++ flat_map (λ n. 32 ∷ decimal n) b →
    o4 ≡ o3 ++ 10 ∷ [] → o4 ≡ before ++ line (start_items start)
start_written before p o1 o2 o3 o4 a b la lb start ea eb ela elb ep e1 e2 e3 e4 =
    two_lists before o1 o2 o3 o4 (decimal la) (decimal lb ∷ []) a b
    (extended decimal before p o1 (decimal la) [] (lb ∷ []) ep e1) e2 e3 e4
    ∙ ap (λ n. before ++ line (decimal n ∷ decimal lb ∷ map decimal a ++ map decimal b)) ela
    ∙ ap (λ n. before ++ line (decimal (length a) ∷ decimal n ∷ map decimal a ++ map decimal b)) elb
    ∙ ap (λ l. before ++ line (trace_items l b)) ea
    ∙ ap (λ l. before ++ line (trace_items start.margin_steps l)) eb

-- a join is written
pub join_written : (before p o1 o2 o3 o4 a b : List ℕ) (low high la lb : ℕ) (join : Join) →
    low ≡ join.low → high ≡ join.high →
    a ≡ join.low_steps → b ≡ join.high_steps → la ≡ length a → lb ≡ length b →
    p ≡ before ++ join_with_byte 32 (map decimal (low ∷ high ∷ [])) →
    o1 ≡ p ++ flat_map (λ n. 32 ∷ decimal n) (la ∷ lb ∷ []) →
    o2 ≡ o1 ++ flat_map (λ n. 32 ∷ decimal n) a → o3 ≡ o2 ++ flat_map (λ n. 32 ∷ decimal n) b →
    o4 ≡ o3 ++ 10 ∷ [] → o4 ≡ before ++ line (join_items join)
join_written before p o1 o2 o3 o4 a b low high la lb join el eh ea eb ela elb ep e1 e2 e3 e4 =
    two_lists before o1 o2 o3 o4 (decimal low) (decimal high ∷ decimal la ∷ decimal lb ∷ []) a b
    (extended decimal before p o1 (decimal low) (decimal high ∷ []) (la ∷ lb ∷ []) ep e1) e2 e3 e4
    ∙ ap (λ n. before ++ line (decimal low ∷ decimal high ∷ decimal n ∷ decimal lb
    ∷ map decimal a ++ map decimal b)) ela
    ∙ ap (λ n. before ++ line (decimal low ∷ decimal high ∷ decimal (length a) ∷ decimal n
    ∷ map decimal a ++ map decimal b)) elb
    ∙ ap (λ n. before ++ line (decimal n ∷ decimal high ∷ trace_items a b)) el
    ∙ ap (λ n. before ++ line (decimal join.low ∷ decimal n ∷ trace_items a b)) eh
    ∙ ap (λ l. before ++ line (decimal join.low ∷ decimal join.high ∷ trace_items l b)) ea
    ∙ ap (λ l. before ++ line (decimal join.low ∷ decimal join.high
    ∷ trace_items join.low_steps l)) eb

-- a path is written
pub path_written : (before p o1 o2 o3 : List ℕ) (a : List ℤ) (rule la : ℕ) (path : Path) →
    rule ≡ path.rule → a ≡ path.steps → la ≡ length a →
    p ≡ before ++ decimal rule → o1 ≡ p ++ flat_map (λ n. 32 ∷ decimal n) (la ∷ []) →
    o2 ≡ o1 ++ flat_map (λ z. 32 ∷ signed_decimal z) a → o3 ≡ o2 ++ 10 ∷ [] →
    o3 ≡ before ++ line (path_items path)
path_written before p o1 o2 o3 a rule la path er ea ela ep e1 e2 e3 =
    line_added before o2 o3 (decimal rule ∷ decimal la ∷ map signed_decimal a)
    (extended signed_decimal before o1 o2 (decimal rule) (decimal la ∷ []) a
    (extended decimal before p o1 (decimal rule) [] (la ∷ []) ep e1) e2)
    e3
    ∙ ap (λ n. before ++ line (decimal rule ∷ decimal n ∷ map signed_decimal a)) ela
    ∙ ap (λ n. before ++ line (decimal n ∷ decimal (length a) ∷ map signed_decimal a)) er
    ∙ ap (λ l. before ++ line (decimal path.rule ∷ decimal (length l) ∷ map signed_decimal l)) ea

-- a rule is written
pub rule_written : (before o1 o2 o3 o4 left right : List ℕ) (rule : Rule) →
    left ≡ rule.0 → right ≡ rule.1 → 1 ≤ length left →
    o1 ≡ before ++ join_with_byte 32 (map decimal left) → o2 ≡ o1 ++ codes " >" →
    o3 ≡ o2 ++ flat_map (λ n. 32 ∷ decimal n) right → o4 ≡ o3 ++ 10 ∷ [] →
    o4 ≡ before ++ line (rule_items rule)
rule_written before o1 o2 o3 o4 [] right rule el er some e1 e2 e3 e4 = absurd (omega arith)
rule_written before o1 o2 o3 o4 (x ∷ xs) right rule el er some e1 e2 e3 e4 =
    let left = map decimal xs in
    let items = decimal x ∷ left ++ (codes ">" ∷ map decimal right) in
    line_added before o3 o4 items
    (extended decimal before o2 o3 (decimal x) (left ++ codes ">" ∷ []) right
    (extended (λ (w : List ℕ). w) before o1 o2 (decimal x) left (codes ">" ∷ []) e1 e2) e3
    ∙ ap (λ list. before ++ join_with_byte 32 (decimal x ∷ list))
    (append_assoc left (codes ">" ∷ []) (map decimal right)))
    e4
    ∙ ap (λ l. before ++ line (map decimal l ++ (codes ">" ∷ map decimal right))) el
    ∙ ap (λ r. before ++ line (map decimal rule.0 ++ (codes ">" ∷ map decimal r))) er

-- a section is written
pub section_added : {A : Type 0} (items : A → List (List ℕ)) (before o1 o2 name : List ℕ)
    (xs : List A) → o1 ≡ before ++ line (name ∷ decimal (length xs) ∷ []) →
    o2 ≡ o1 ++ flat_map (λ x. line (items x)) xs → o2 ≡ before ++ section_text name items xs
section_added items before o1 o2 name xs e1 e2 =
    e2 ∙ ap (λ o. o ++ flat_map (λ x. line (items x)) xs) e1
    ∙ append_assoc before (line (name ∷ decimal (length xs) ∷ []))
    (flat_map (λ x. line (items x)) xs)
    ∙ ap (λ t. before ++ (line (name ∷ decimal (length xs) ∷ []) ++ t)) (each_line items xs)

-- a section of rules is written
pub rules_added : (before o1 o2 : List ℕ) (pairs : List Pair) →
    o1 ≡ before ++ line (codes "rules" ∷ decimal (length pairs) ∷ []) →
    o2 ≡ o1 ++ flat_map (λ p. line (rule_items (sides p))) pairs →
    o2 ≡ before ++ rules_text (map sides pairs)
rules_added before o1 o2 pairs e1 e2 =
    section_added (λ p. rule_items (sides p)) before o1 o2 (codes "rules") pairs e1 e2
    ∙ ap (λ n. before ++ (line (codes "rules" ∷ decimal n ∷ [])
    ++ flat_map line (map (λ p. rule_items (sides p)) pairs))) (sym (length-map pairs sides))
    ∙ ap (λ list. before ++ (line (codes "rules" ∷ decimal (length (map sides pairs)) ∷ [])
    ++ flat_map line list)) (sym (map-map rule_items sides pairs))

-- the line that names the format
pub version_line : codes "certificate 1\n" ≡ line (codes "certificate" ∷ codes "1" ∷ [])
unfolding line
version_line = refl

-- the lines of the orders
pub lex_line : codes "order lex\n" ≡ line (codes "order" ∷ codes "lex" ∷ [])
unfolding line
lex_line = refl

-- the other
pub grevlex_line : codes "order grevlex\n" ≡ line (codes "order" ∷ codes "grevlex" ∷ [])
unfolding line
grevlex_line = refl

-- texts in their groups, one after the other
in_groups : (v m o mo r s j p e : List ℕ) →
    (((((v ++ (m ++ o)) ++ mo) ++ r) ++ (s ++ (j ++ p))) ++ e)
    ≡ v ++ (m ++ (o ++ (mo ++ (r ++ (s ++ (j ++ (p ++ e)))))))
in_groups v m o mo r s j p e = simp append_assoc

-- a certificate is written
pub all_written : (c : Certificate) (out o1 o2 o3 o4 o5 : List ℕ) → out ≡ [] →
    o1 ≡ out ++ (line (codes "certificate" ∷ codes "1" ∷ [])
    ++ (matrix_text c.matrix ++ line (codes "order" ∷ order_name c.order ∷ []))) →
    o2 ≡ o1 ++ section_text (codes "moves") move_items c.moves →
    o3 ≡ o2 ++ rules_text c.rules →
    o4 ≡ o3 ++ (section_text (codes "starts") start_items c.starts
    ++ (section_text (codes "joins") join_items c.joins
    ++ section_text (codes "paths") path_items c.paths)) →
    o5 ≡ o4 ++ codes "end\n" → o5 ≡ text_of c
unfolding text_of
all_written c out o1 o2 o3 o4 o5 e e1 e2 e3 e4 e5 =
    let head = line (codes "certificate" ∷ codes "1" ∷ [])
    ++ (matrix_text c.matrix ++ line (codes "order" ∷ order_name c.order ∷ [])) in
    let moves = section_text (codes "moves") move_items c.moves in
    let rules = rules_text c.rules in
    let proof = section_text (codes "starts") start_items c.starts
    ++ (section_text (codes "joins") join_items c.joins
    ++ section_text (codes "paths") path_items c.paths) in
    e5 ∙ ap (λ t. o4 ++ t) end_line
    ∙ ap (λ t. t ++ line (codes "end" ∷ [])) (e4 ∙ ap (λ t. t ++ proof) (e3 ∙ ap (λ t. t ++ rules)
    (e2 ∙ ap (λ t. t ++ moves) (e1 ∙ ap (λ t. t ++ head) e))))
    ∙ in_groups (line (codes "certificate" ∷ codes "1" ∷ [])) (matrix_text c.matrix)
    (line (codes "order" ∷ order_name c.order ∷ [])) moves rules
    (section_text (codes "starts") start_items c.starts)
    (section_text (codes "joins") join_items c.joins)
    (section_text (codes "paths") path_items c.paths) (line (codes "end" ∷ []))

-- what follows where all goes well
pub on_ok : {T F A B : Type 0} (r : Result T F) → OnOk r A → (A → B) → OnOk r B
on_ok (Ok x) h f = f h
on_ok (Err e) h f = tt

-- a certificate of parts that are its own is written
pub parts_written : (c : Certificate) (matrix : Design) (order : Order) (moves : List (List ℤ))
    (pairs : List Pair) (starts : List Start) (joins : List Join) (paths : List Path)
    (out o1 o2 o3 o4 o5 : List ℕ) → matrix ≡ c.matrix → order ≡ c.order → moves ≡ c.moves →
    map sides pairs ≡ c.rules → starts ≡ c.starts → joins ≡ c.joins → paths ≡ c.paths →
    out ≡ [] →
    o1 ≡ out ++ (line (codes "certificate" ∷ codes "1" ∷ [])
    ++ (matrix_text matrix ++ line (codes "order" ∷ order_name order ∷ []))) →
    o2 ≡ o1 ++ section_text (codes "moves") move_items moves →
    o3 ≡ o2 ++ rules_text (map sides pairs) →
    o4 ≡ o3 ++ (section_text (codes "starts") start_items starts
    ++ (section_text (codes "joins") join_items joins
    ++ section_text (codes "paths") path_items paths)) →
    o5 ≡ o4 ++ codes "end\n" → o5 ≡ text_of c
parts_written c matrix order moves pairs starts joins paths out o1 o2 o3 o4 o5 em eo ez er es ej
    ep e e1 e2 e3 e4 e5 =
    let v = line (codes "certificate" ∷ codes "1" ∷ []) in
    let o : Order → List ℕ = λ order. line (codes "order" ∷ order_name order ∷ []) in
    let s : List Start → List ℕ = section_text (codes "starts") start_items in
    let j : List Join → List ℕ = section_text (codes "joins") join_items in
    let p : List Path → List ℕ = section_text (codes "paths") path_items in
    all_written c out o1 o2 o3 o4 o5 e
    (e1 ∙ ap (λ m. out ++ (v ++ (matrix_text m ++ o order))) em
    ∙ ap (λ order. out ++ (v ++ (matrix_text c.matrix ++ o order))) eo)
    (e2 ∙ ap (λ z. o1 ++ section_text (codes "moves") move_items z) ez)
    (e3 ∙ ap (λ r. o2 ++ rules_text r) er)
    (e4 ∙ ap (λ l. o3 ++ (s l ++ (j joins ++ p paths))) es
    ∙ ap (λ l. o3 ++ (s c.starts ++ (j l ++ p paths))) ej
    ∙ ap (λ l. o3 ++ (s c.starts ++ (j c.joins ++ p l))) ep)
    e5
