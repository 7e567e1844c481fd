-- Bounds of cells, and mixed-radix numbers.
use Rattle.std.proofs.Common.{List, [], add-one, ap, arith, drop, drop-cons, false, get_or, inl, inr, length, min, refl, suc, sym, zero, ℕ, ◌*◌, ◌++◌, ◌+◌, ◌-◌, ◌/◌, ◌^◌, ◌<◌, ◌∙◌, ◌∷◌, ◌≡◌, ◌≤◌}
use Rattle.std.proofs.lemmas.List.Elements.{All-head, All-tail, recursion_from_All}
use Rattle.std.proofs.lemmas.List.{get_or_default}
use Rattle.std.proofs.lemmas.Nat.{mul-add-lt, same_from_place}
use Rattle.std.proofs.Math.Nat.{le-mul_of_pos_right, mul-add, mul-le-mul_left, mul_assoc, mul_comm}
use Rattle.std.specs.List.{AllByRecursion, fold}
use Rattle.mb_matrix.specs.Key.{Suits, key_count, least, number, quotients}
use Rattle.mb_matrix.specs.declared.digit.Digit.{Digit}
use Rattle.mb_tables.specs.Lists.{In}
use Rattle.mb_tables.specs.Vectors.{all_zero, at}

-- the quotients from a row on, where its entry is 0
pub quotients-drop_zero : (column margins : List ℕ) (k : ℕ) →
    k < length column → k < length margins → at column k ≡ 0 →
    quotients (drop k column) (drop k margins)
    ≡ quotients (drop (k + 1) column) (drop (k + 1) margins)
unfolding quotients
quotients-drop_zero column margins k h l e =
    rw (add-one, drop-cons column k 0 h, drop-cons margins k 0 l, e) refl

-- and where it is above 0
pub quotients-drop_some : (column margins : List ℕ) (k entry : ℕ) →
    k < length column → k < length margins → at column k ≡ entry → 0 < entry →
    quotients (drop k column) (drop k margins)
    ≡ (at margins k / entry) ∷ quotients (drop (k + 1) column) (drop (k + 1) margins)
unfolding quotients
quotients-drop_some column margins k zero h l e some = absurd (omega arith)
quotients-drop_some column margins k (suc n) h l e some =
    rw (add-one, drop-cons column k 0 h, drop-cons margins k 0 l, e) refl

-- behind the last row there are none
pub quotients-drop_all : (column margins : List ℕ) (k : ℕ) → length column ≤ k →
    quotients (drop k column) (drop k margins) ≡ []
unfolding quotients
quotients-drop_all [] margins zero h = refl
quotients-drop_all [] margins (suc k) h = refl
quotients-drop_all (a ∷ column) margins zero h = absurd (omega arith)
quotients-drop_all (a ∷ column) [] (suc k) h = none (drop k column)
  where
    none : (column : List ℕ) → quotients column [] ≡ []
    none [] = refl
    none (zero ∷ column) = refl
    none (suc a ∷ column) = refl
quotients-drop_all (a ∷ column) (m ∷ margins) (suc k) h =
    quotients-drop_all column margins k (omega arith)

-- a column that is not zero has a quotient
pub some_quotient : (column margins : List ℕ) → all_zero column ≡ false →
    length column ≤ length margins → 0 < length (quotients column margins)
unfolding quotients all_zero
some_quotient [] margins e h = absurd (cc)
some_quotient (a ∷ column) [] e h = absurd (omega arith)
some_quotient (zero ∷ column) (m ∷ margins) e h = some_quotient column margins e (omega arith)
some_quotient (suc a ∷ column) (m ∷ margins) e h = omega arith

-- a quotient is no greater than what bounds the margins
pub quotients_below : (column margins : List ℕ) (most : ℕ) →
    AllByRecursion (λ m. m ≤ most) margins →
    AllByRecursion (λ q. q ≤ most) (quotients column margins)
unfolding quotients
quotients_below [] margins most h = tt
quotients_below (zero ∷ column) [] most h = tt
quotients_below (suc a ∷ column) [] most h = tt
quotients_below (zero ∷ column) (m ∷ margins) most h = quotients_below column margins most h.1
quotients_below (suc a ∷ column) (m ∷ margins) most h =
    (omega arith, quotients_below column margins most h.1)

-- the least of some numbers that a bound is no less than, begun with the bound
pub least-from : (most : ℕ) (qs : List ℕ) → 0 < length qs → AllByRecursion (λ q. q ≤ most) qs →
    fold min most qs ≡ least qs
least-from most [] h b = absurd (omega arith)
least-from most (q ∷ qs) h b =
    let e : min most q ≡ q = omega arith in ap (λ x. fold min x qs) e

-- a row that counts the cell lowers the bound
pub bound-counted : (column margins : List ℕ) (k entry bound next : ℕ) →
    k < length column → k < length margins → at column k ≡ entry → 0 < entry →
    next ≡ min bound (at margins k / entry) →
    fold min next (quotients (drop (k + 1) column) (drop (k + 1) margins))
    ≡ fold min bound (quotients (drop k column) (drop k margins))
bound-counted column margins k entry bound next h l e some n =
    ap (λ b. fold min b (quotients (drop (k + 1) column) (drop (k + 1) margins))) n
    ∙ sym (ap (λ qs. fold min bound qs) (quotients-drop_some column margins k entry h l e some))

-- and another row leaves it
pub bound-other : (column margins : List ℕ) (k bound : ℕ) →
    k < length column → k < length margins → at column k ≡ 0 →
    fold min bound (quotients (drop (k + 1) column) (drop (k + 1) margins))
    ≡ fold min bound (quotients (drop k column) (drop k margins))
bound-other column margins k bound h l e =
    ap (λ qs. fold min bound qs) (sym (quotients-drop_zero column margins k h l e))

-- at the end the bound is the least quotient
pub bound-end : (column margins : List ℕ) (k bound : ℕ) → length column ≤ k →
    all_zero column ≡ false → length column ≤ length margins →
    ((i : ℕ) → i < length margins → at margins i < 2 ^ 64) →
    fold min bound (quotients (drop k column) (drop k margins))
    ≡ fold min (2 ^ 64 - 1) (quotients column margins) →
    bound ≡ least (quotients column margins)
bound-end column margins k bound h some wide fits e =
    let small = recursion_from_All (λ m. m ≤ 2 ^ 64 - 1) margins
    (λ i d l. let f = fits i l in let g = get_or_default margins i d 0 l in omega arith) in
    sym (ap (λ qs. fold min bound qs) (quotients-drop_all column margins k h)) ∙ e
    ∙ least-from (2 ^ 64 - 1) (quotients column margins) (some_quotient column margins some wide)
    (quotients_below column margins (2 ^ 64 - 1) small)

-- a table that suits digits counts no more at the first than its bound
pub suits-first : (d : Digit) (digits : List Digit) (u : List ℕ) → Suits (d ∷ digits) u →
    at u d.cell ≤ d.bound
suits-first d digits u s = All-head (λ (b : Digit). at u b.cell ≤ b.bound) d digits s.bounded

-- and suits the others
pub suits-others : (d : Digit) (digits : List Digit) (u : List ℕ) → Suits (d ∷ digits) u →
    Suits digits u
suits-others d digits u s = record {
  cells = All-tail (λ (b : Digit). b.cell < length u) d digits s.cells;
  bounded = All-tail (λ (b : Digit). at u b.cell ≤ b.bound) d digits s.bounded;
}

-- the number of a table that suits is below how many keys there are
pub number-most : (digits : List Digit) (u : List ℕ) → Suits digits u →
    number digits u < key_count digits
unfolding number key_count
number-most [] u s = omega arith
number-most (d ∷ digits) u s =
    let first = suits-first d digits u s in
    let later = number-most digits u (suits-others d digits u s) in
    let e = mul-add-lt (number digits u) (suc d.bound) (at u d.cell) (key_count digits) later
    (omega arith) in
    let f : suc d.bound * number digits u ≡ number digits u * suc d.bound =
    mul_comm (suc d.bound) (number digits u) in
    omega arith

-- the same number is of the same digits
pub number_same : (digits : List Digit) (u v : List ℕ) → Suits digits u → Suits digits v →
    number digits u ≡ number digits v → (d : Digit) → In d digits → at u d.cell ≡ at v d.cell
unfolding number In
number_same [] u v s t e d i = absurd i
number_same (b ∷ digits) u v s t e d i =
    let first = suits-first b digits u s in
    let second = suits-first b digits v t in
    let f : suc b.bound * number digits u ≡ number digits u * suc b.bound =
    mul_comm (suc b.bound) (number digits u) in
    let g : suc b.bound * number digits v ≡ number digits v * suc b.bound =
    mul_comm (suc b.bound) (number digits v) in
    let parts = same_from_place (number digits u) (at u b.cell) (number digits v) (at v b.cell)
    (suc b.bound) (omega arith) (omega arith) (omega arith) in
    elim i [
      | inl h ↦ ap (λ (k : Digit). at u k.cell) h ∙ parts.1
          ∙ sym (ap (λ (k : Digit). at v k.cell) h)
      | inr j ↦ number_same digits u v (suits-others b digits u s) (suits-others b digits v t)
          parts.0 d j
    ]

-- there is some key
pub some_key : (digits : List Digit) → 1 ≤ key_count digits
unfolding key_count
some_key [] = omega arith
some_key (d ∷ digits) =
    let later = some_key digits in
    let e = le-mul_of_pos_right (suc d.bound) later in
    omega arith

-- one digit more
pub key_count-append : (digits more : List Digit) →
    key_count (digits ++ more) ≡ key_count digits * key_count more
unfolding key_count
key_count-append [] more = omega arith
key_count-append (d ∷ digits) more =
    ap (λ n. suc d.bound * n) (key_count-append digits more)
    ∙ sym (mul_assoc (suc d.bound) (key_count digits) (key_count more))

-- one digit more at the end
pub key_count-more : (digits : List Digit) (d : Digit) →
    key_count (digits ++ (d ∷ [])) ≡ key_count digits * suc d.bound
unfolding key_count
key_count-more digits d =
    let e : suc d.bound * 1 ≡ suc d.bound = omega arith in
    key_count-append digits (d ∷ []) ∙ ap (λ n. key_count digits * n) e

-- with further digits there are no fewer keys
pub key_count-front : (digits more : List Digit) (d : Digit) →
    key_count digits * suc d.bound ≤ key_count (digits ++ (d ∷ more))
unfolding key_count
key_count-front digits more d =
    let e = le-mul_of_pos_right (suc d.bound) (some_key more) in
    let f = mul-le-mul_left (key_count digits) e in
    let g = key_count-append digits (d ∷ more) in
    omega arith

-- the place value of a digit fits, and so does that of the next
pub record PlaceStep (all : List Digit) (k : ℕ) (d : Digit) (place : ℕ) : Type 0 where
  pub radix : d.bound + 1 < 2 ^ 64
  pub next : place * (d.bound + 1) < 2 ^ 64
  pub placed : place * (d.bound + 1) * key_count (drop (k + 1) all) ≡ key_count all

-- a sum over the digits fits with one digit more, which counts so much
pub record NumberStep
    (all : List Digit) (u : List ℕ) (k : ℕ) (d : Digit) (sum place count : ℕ) : Type 0 where
  pub product : place * count < 2 ^ 64
  pub total : sum + place * count < 2 ^ 64
  pub so_far : sum + place * count + place * (d.bound + 1) * number (drop (k + 1) all) u
      ≡ number all u

-- the number of the digits from a place on
pub number-drop : (all : List Digit) (u : List ℕ) (k : ℕ) (d other : Digit) → k < length all →
    d ≡ get_or all k other →
    number (drop k all) u ≡ at u d.cell + suc d.bound * number (drop (k + 1) all) u
unfolding number
number-drop all u k d other h e =
    let n : suc k ≡ k + 1 = omega arith in
    ap (λ l. number l u) (drop-cons all k other h)
    ∙ ap (λ (b : Digit). at u b.cell + suc b.bound * number (drop (suc k) all) u) (sym e)
    ∙ ap (λ i. at u d.cell + suc d.bound * number (drop i all) u) n

-- how many keys the digits from a place on make
pub key_count-drop : (all : List Digit) (k : ℕ) (d other : Digit) → k < length all →
    d ≡ get_or all k other →
    key_count (drop k all) ≡ suc d.bound * key_count (drop (k + 1) all)
unfolding key_count
key_count-drop all k d other h e =
    let n : suc k ≡ k + 1 = omega arith in
    ap key_count (drop-cons all k other h)
    ∙ ap (λ (b : Digit). suc b.bound * key_count (drop (suc k) all)) (sym e)
    ∙ ap (λ i. suc d.bound * key_count (drop i all)) n

-- a product above 0 has its first factor above 0
positive_left : (a b : ℕ) → 0 < a * b → 0 < a
positive_left zero b p = absurd (omega arith)
positive_left (suc a) b p = omega arith

-- one digit more of the place values
pub place_step : (all : List Digit) (k : ℕ) (d other : Digit) (place : ℕ) →
    k < length all → d ≡ get_or all k other →
    place * key_count (drop k all) ≡ key_count all → key_count all < 2 ^ 64 →
    PlaceStep all k d place
place_step all k d other place h e placed fits =
    let rest = drop (k + 1) all in
    let radix : suc d.bound ≡ d.bound + 1 = omega arith in
    let s : place * key_count (drop k all) ≡ place * (d.bound + 1) * key_count rest =
    ap (λ t. place * t) (key_count-drop all k d other h e)
    ∙ sym (mul_assoc place (suc d.bound) (key_count rest))
    ∙ ap (λ t. place * t * key_count rest) radix in
    let whole : place * (d.bound + 1) ≤ place * (d.bound + 1) * key_count rest =
    le-mul_of_pos_right (place * (d.bound + 1)) (some_key rest) in
    let some = some_key all in
    let positive : 0 < place = positive_left place (d.bound + 1)
    (positive_left (place * (d.bound + 1)) (key_count rest) (omega arith)) in
    let wide : d.bound + 1 ≤ place * (d.bound + 1) =
    let g = le-mul_of_pos_right (d.bound + 1) positive in
    let f = mul_comm (d.bound + 1) place in omega arith in
    record { radix = omega arith; next = omega arith; placed = sym s ∙ placed }

-- one digit more of the sum
pub number_step :
    (all : List Digit) (u : List ℕ) (k : ℕ) (d other : Digit) (sum place count : ℕ) →
    k < length all → d ≡ get_or all k other → count ≡ at u d.cell → Suits all u →
    sum + place * number (drop k all) u ≡ number all u → key_count all < 2 ^ 64 →
    NumberStep all u k d sum place count
number_step all u k d other sum place count h e c suits whole fits =
    let rest = drop (k + 1) all in
    let radix : suc d.bound ≡ d.bound + 1 = omega arith in
    let n : place * number (drop k all) u
    ≡ place * count + place * (d.bound + 1) * number rest u =
    ap (λ t. place * t)
    (number-drop all u k d other h e ∙ ap (λ t. t + suc d.bound * number rest u) (sym c))
    ∙ mul-add place count (suc d.bound * number rest u)
    ∙ ap (λ t. place * count + t) (sym (mul_assoc place (suc d.bound) (number rest u)))
    ∙ ap (λ t. place * count + place * t * number rest u) radix in
    let most = number-most all u suits in
    record { product = omega arith; total = omega arith; so_far = omega arith }

-- behind the last digit nothing is added
pub number-drop_all : (all : List Digit) (u : List ℕ) (k : ℕ) → length all ≤ k →
    number (drop k all) u ≡ 0
unfolding number
number-drop_all [] u zero h = refl
number-drop_all [] u (suc k) h = refl
number-drop_all (d ∷ all) u zero h = absurd (omega arith)
number-drop_all (d ∷ all) u (suc k) h = number-drop_all all u k (omega arith)

-- the digit of no list, which is read past a list's end
abbrev pub none : Digit
none = record { cell = 0; bound = 0 }
