-- Numbers of combinations and of the levels in them.
use Rattle.std.proofs.Common.{Bool, List, false, true, Some, [], ap, arith, drop, get_or, inl, inr, length, min, refl, suc, sym, zero, ℕ, ◌%◌, ◌*◌, ◌+◌, ◌-◌, ◌/◌, ◌<◌, ◌∙◌, ◌∷◌, ◌≡◌, ◌≤◌, ◌⊎◌}
use Rattle.std.proofs.Math.Arith.{mod-mul}
use Rattle.std.proofs.Math.Dec.{ltb}
use Rattle.std.proofs.Math.Nat.{div-lt_iff_lt-mul, div-div-eq-div-mul, div-one, min-eq_left, min-eq_right, mod-eq_of_lt, mod-lt, mul-zero, mul_comm, zero-mul}
use Rattle.std.proofs.lemmas.Bool.{ltb-false, ltb-true}
use Rattle.std.proofs.lemmas.List.{drop_all}
use Rattle.std.proofs.Math.Seq.{drop-cons}
use Rattle.std.proofs.lemmas.Nat.{div-mul-add, mod-mul-add}
use Rattle.std.specs.List.{slice_get}
use Rattle.mb_data.specs.CrossTable.{combination, combinations}

-- a product that is past some number has no factor 0
pub first_there : (size rest number : ℕ) → number < size * rest → 1 ≤ size
first_there zero rest number some = absurd (omega (arith, some))
first_there (suc size) rest number some = omega arith

-- nor has it a second factor 0
pub rest_there : (size rest number : ℕ) → number < size * rest → 1 ≤ rest
rest_there size zero number some = absurd (omega (arith, some))
rest_there size (suc rest) number some = omega arith

-- where there is a combination, each factor has levels
pub size_there : (sizes : List ℕ) (number factor : ℕ) → number < combinations sizes
    → factor < length sizes → 1 ≤ get_or sizes factor 0
unfolding combinations
size_there [] number factor some within = absurd (omega (arith, within))
size_there (size ∷ sizes) number zero some within =
    first_there size (combinations sizes) number some
size_there (size ∷ sizes) number (suc factor) some within =
    let there : 0 < combinations sizes =
    omega (arith, rest_there size (combinations sizes) number some) in
    size_there sizes 0 factor there (omega (arith, within))

-- how many combinations there are of one factor more
pub combinations_more : (sizes : List ℕ) (k : ℕ) → k < length sizes
    → combinations (drop (length sizes - (k + 1)) sizes)
    ≡ get_or sizes (length sizes - 1 - k) 0 * combinations (drop (length sizes - k) sizes)
unfolding combinations
combinations_more sizes k within =
    let at : length sizes - (k + 1) ≡ length sizes - 1 - k = omega arith in
    let below : length sizes - 1 - k < length sizes = omega (arith, within) in
    let next : suc (length sizes - 1 - k) ≡ length sizes - k = omega (arith, within) in
    ap (λ n. combinations (drop n sizes)) at
    ∙ ap combinations (drop-cons sizes (length sizes - 1 - k) 0 below)
    ∙ ap (λ n. get_or sizes (length sizes - 1 - k) 0 * combinations (drop n sizes)) next

-- a level's number doesn't depend on the factors before
digit_after : (sizes : List ℕ) (factor number : ℕ) → factor < length sizes → 1 ≤ combinations sizes
    → number % combinations sizes / combinations (drop (suc factor) sizes) % get_or sizes factor 0
    ≡ number / combinations (drop (suc factor) sizes) % get_or sizes factor 0
unfolding combinations
digit_after [] factor number within some = absurd (omega (arith, within))
digit_after (size ∷ sizes) zero number within some =
    let one : 0 < size = first_there size (combinations sizes) 0 some in
    let two : 0 < combinations sizes = rest_there size (combinations sizes) 0 some in
    ap (λ n. n / combinations sizes % size) (mod-mul number one two)
    ∙ ap (λ n. n % size)
    (div-mul-add (number / combinations sizes % size) (combinations sizes)
    (number % combinations sizes) (mod-lt number two))
    ∙ mod-eq_of_lt (mod-lt (number / combinations sizes) one)
digit_after (size ∷ sizes) (suc factor) number within some =
    let one : 0 < size = first_there size (combinations sizes) 0 some in
    let two : 0 < combinations sizes = rest_there size (combinations sizes) 0 some in
    let below : factor < length sizes = omega (arith, within) in
    sym (digit_after sizes factor (number % (size * combinations sizes)) below two)
    ∙ ap (λ n. n % combinations sizes / combinations (drop (suc factor) sizes) %
    get_or sizes factor 0)
    (mod-mul number one two)
    ∙ ap (λ n. n / combinations (drop (suc factor) sizes) % get_or sizes factor 0)
    (mod-mul-add (number / combinations sizes % size) (combinations sizes)
    (number % combinations sizes) (mod-lt number two))
    ∙ digit_after sizes factor number below two

-- the number of a factor's level in a combination
pub digit_at : (sizes : List ℕ) (number factor : ℕ) → number < combinations sizes
    → factor < length sizes
    → slice_get (combination sizes number) factor
    ≡ Some (number / combinations (drop (suc factor) sizes) % get_or sizes factor 0)
unfolding combinations combination
digit_at [] number factor below within = absurd (omega (arith, within))
digit_at (size ∷ sizes) number zero below within =
    let two : 0 < combinations sizes = rest_there size (combinations sizes) number below in
    ap (λ n. Some n) (sym (mod-eq_of_lt ((div-lt_iff_lt-mul two).1 below)))
digit_at (size ∷ sizes) number (suc factor) below within =
    let two : 0 < combinations sizes = rest_there size (combinations sizes) number below in
    digit_at sizes (number % combinations sizes) factor (mod-lt number two) (omega (arith, within))
    ∙ ap (λ n. Some n) (digit_after sizes factor number (omega (arith, within)) two)

-- the same, by its value
pub digit_is : (sizes : List ℕ) (number factor left size digit : ℕ) → number < combinations sizes
    → factor < length sizes → left ≡ number / combinations (drop (factor + 1) sizes)
    → size ≡ get_or sizes factor 0 → digit ≡ left % size
    → (slice_get (combination sizes number) factor ≡ Some digit) × (digit < size)
digit_is sizes number factor left size digit below within left_is size_is is =
    let more : suc factor ≡ factor + 1 = omega arith in
    let same : digit ≡ number / combinations (drop (suc factor) sizes) % get_or sizes factor 0 =
    is ∙ ap (λ n. left % n) size_is ∙ ap (λ n. n % get_or sizes factor 0) left_is
    ∙ ap (λ n. number / combinations (drop n sizes) % get_or sizes factor 0) (sym more) in
    let some : 0 < size = omega (arith, size_there sizes number factor below within, size_is) in (
      digit_at sizes number factor below within ∙ ap (λ n. Some n) (sym same),
      omega (arith, mod-lt left some, is),
    )

-- a product is cut at the same place, whether its factor was cut before or not
cut_product : (size number limit : ℕ)
    → min (min number limit * size) limit ≡ min (size * number) limit
cut_product size number limit = elim (which (ltb limit number) refl) [
  | inl past ↦ by_size size past
  | inr within ↦
      let same : min number limit ≡ number = min-eq_left within in
      ap (λ n. min (n * size) limit) same ∙ ap (λ n. min n limit) (mul_comm number size)
]
  where
    which : (b : Bool) → ltb limit number ≡ b → (limit < number) ⊎ (number ≤ limit)
    which true is = inl (ltb-true limit number is)
    which false is = inr (ltb-false limit number is)

    by_size : (size : ℕ) → limit < number
        → min (min number limit * size) limit ≡ min (size * number) limit
    by_size zero past = ap (λ n. min n limit) (mul-zero (min number limit) ∙ sym (zero-mul number))
    by_size (suc size) past =
        let same : min number limit ≡ limit = min-eq_right (omega (arith, past)) in
        let some : limit ≤ limit * suc size = omega arith in
        let more : limit ≤ suc size * number = omega (arith, past) in
        ap (λ n. min (n * suc size) limit) same ∙ min-eq_right some ∙ sym (min-eq_right more)

-- the number of combinations of no factor
pub no_factor : (sizes : List ℕ) → combinations (drop (length sizes - 0) sizes) ≡ 1
unfolding combinations
no_factor sizes = ap combinations (drop_all (length sizes - 0) sizes (omega arith))

-- the number of combinations of one factor more, cut
pub cut_more : (sizes : List ℕ) (k count size limit next : ℕ) → k < length sizes
    → count ≡ min (combinations (drop (length sizes - k) sizes)) limit
    → size ≡ get_or sizes (length sizes - 1 - k) 0 → next ≡ min (count * size) limit
    → next ≡ min (combinations (drop (length sizes - (k + 1)) sizes)) limit
cut_more sizes k count size limit next within so_far size_is is =
    let before = combinations (drop (length sizes - k) sizes) in
    let at = get_or sizes (length sizes - 1 - k) 0 in
    is ∙ ap (λ n. min (n * size) limit) so_far
    ∙ ap (λ n. min (min before limit * n) limit) size_is
    ∙ cut_product at before limit
    ∙ ap (λ n. min n limit) (sym (combinations_more sizes k within))

-- all combinations are counted
pub all_counted : (sizes : List ℕ) (k : ℕ) → length sizes ≤ k
    → combinations (drop (length sizes - k) sizes) ≡ combinations sizes
all_counted sizes k past =
    ap (λ n. combinations (drop n sizes)) (let e : length sizes - k ≡ 0 = omega (arith, past) in e)

-- one factor less is left
pub left_more : (number after size before left : ℕ) → before ≡ size * after → left ≡ number / after
    → left / size ≡ number / before
left_more number after size before left is so_far =
    ap (λ n. n / size) so_far ∙ div-div-eq-div-mul number after size
    ∙ ap (λ n. number / n) (let e : after * size ≡ size * after = grind (arith) in e ∙ sym is)

-- a number over 1, where no factor is after
pub none_left : (sizes : List ℕ) (number : ℕ)
    → number ≡ number / combinations (drop (length sizes - 0) sizes)
none_left sizes number =
    sym (ap (λ n. number / n) (no_factor sizes) ∙ div-one number)
