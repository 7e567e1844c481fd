-- The probe path stays within the words, and goes from word to word.
use Rattle.std.proofs.Common.{List, ap, arith, get_or, inl, inr, length, mul-le-mul_right, subst, sum, sym, ℕ, ◌%◌, ◌*◌, ◌+◌, ◌^◌, ◌/◌, ◌<◌, ◌∙◌, ◌≡◌, ◌≤◌}
use Rattle.std.proofs.lemmas.Bool.{cases_lt}
use Rattle.std.proofs.Math.Nat.{mod-add-mod}
use Rattle.std.proofs.lemmas.List.{get_or_past, get_or_read}
use Rattle.std.proofs.lemmas.List.Elements.{All-from_get_or}
use Rattle.std.proofs.lemmas.List.Sums.{sum_by-le, sum_by-take-le, sum_by_more}
use Rattle.std.proofs.lemmas.Nat.{mod_below}
use Rattle.atomic_table.specs.Seated.{TableId}
use Rattle.mb_claims.specs.Probe.{probe, shard_of, start_of}
use Rattle.mb_claims.specs.loops.Parts.{AreShardParts, AreSizes}

-- a shard that has words is one of the shards
pub shard_there : (sizes : List ℕ) (shard n : ℕ) → n < get_or sizes shard 0 → shard < length sizes
shard_there sizes shard n h =
    elim (cases_lt shard (length sizes)) [
      | inl l ↦ l
      | inr l ↦ let e = get_or_past sizes shard 0 l in absurd (omega arith)
    ]

-- the words of a shard end within the table
pub shard_ends : (sizes : List ℕ) (shard : ℕ) → shard < length sizes →
    start_of sizes shard + get_or sizes shard 0 ≤ sum sizes
shard_ends sizes shard l =
    let more = sum_by_more (λ x. x) sizes shard 0 l in
    let part = sum_by-take-le (λ x. x) sizes (shard + 1) in omega (arith, more, part)

-- each word of the probe path is one of the table
pub probe-within : (sizes : List ℕ) (key steps n : ℕ) →
    n < get_or sizes (shard_of sizes key) 0 → probe sizes key steps < sum sizes
probe-within sizes key steps n h =
    let shard : ℕ = shard_of sizes key in
    let size : ℕ = get_or sizes shard 0 in
    let ends = shard_ends sizes shard (shard_there sizes shard n h) in
    let low = mod_below (key / length sizes + steps) size (omega arith) in omega (arith, ends, low)

-- the words of all shards together are at most 2 ^ 28
pub sum_fits : (sizes : List ℕ) → AreSizes sizes → sum sizes ≤ 2 ^ 28
sum_fits sizes fit =
    let all : sum sizes ≤ length sizes * 2 ^ 22 =
    sum_by-le (λ x. x) (2 ^ 22) sizes
    (All-from_get_or (λ n. n ≤ 2 ^ 22) sizes 0 (λ i k. (fit.each i k).1)) in
    let most : length sizes * 2 ^ 22 ≤ 64 * 2 ^ 22 = mul-le-mul_right (2 ^ 22) fit.few in
    omega (arith, all, most)

-- all words of all shards, and so those up to the end of one, are at most 2 ^ 28
pub home_ends : {table : TableId} {ruled sizes starts : List ℕ} →
    AreShardParts table ruled sizes starts →
    (shard start size : ℕ) → shard < length sizes →
    start ≡ get_or starts shard start → size ≡ get_or sizes shard size → start + size ≤ 2 ^ 28
home_ends {sizes = sizes} {starts = starts} parts shard start size l s z =
    let first : start ≡ start_of sizes shard =
    get_or_read starts shard start (subst (λ n. shard < n) (sym parts.first.count) l) s 0
    ∙ parts.first.each shard l in
    let long : size ≡ get_or sizes shard 0 = get_or_read sizes shard size l z 0 in
    let ends = shard_ends sizes shard l in
    omega (arith, first, long, ends, sum_fits sizes parts.fit)

-- the word after so many steps along the path, by the parts of its place
pub probe_is : (sizes : List ℕ) (key shard start words at steps : ℕ) →
    shard ≡ shard_of sizes key → start ≡ start_of sizes shard → words ≡ get_or sizes shard 0 →
    at ≡ (key / length sizes + steps) % words → start + at ≡ probe sizes key steps
probe_is sizes key shard start words at steps is first long here = cc

-- the place after one, once around
pub turned : (first steps size at next : ℕ) → at ≡ (first + steps) % size →
    next ≡ (at + 1) % size → next ≡ (first + (steps + 1)) % size
turned first steps size at next here e =
    e ∙ ap (λ n. (n + 1) % size) here ∙ mod-add-mod (first + steps) size 1
    ∙ ap (λ n. n % size) (let k : first + steps + 1 ≡ first + (steps + 1) = omega arith in k)

-- there is a word
pub some_words : {table : TableId} {ruled sizes starts : List ℕ} →
    AreShardParts table ruled sizes starts →
    0 < table.words
some_words {sizes = sizes} parts =
    let first = parts.fit.each 0 parts.fit.some in
    let ends = shard_ends sizes 0 parts.fit.some in
    let whole = parts.total in omega (arith, first.0, ends, whole)
