-- The lists of the owners, joined one by one.
use Rattle.std.proofs.Common.{List, [], ap, append_assoc, arith, drop, get_or, length, refl, suc, sym, zero, ℕ, ◌++◌, ◌+◌, ◌<◌, ◌∙◌, ◌∷◌, ◌≡◌, slice_set}
use Rattle.std.proofs.lemmas.List.{drop_more}
use Rattle.mb_rings.specs.Ring.{Ring, tables_of}
use Rattle.mb_walk.specs.loops.Piles.{joined, kept}
use Rattle.mb_walk.specs.declared.owner.Owner.{Owner}

-- what an owner keeps stays, where its list is taken
pub kept-taken : (owners : List Owner) (i : ℕ) (o x : Owner) → i < length owners →
    x.visited ≡ (get_or owners i o).visited → kept (slice_set owners i x) ≡ kept owners
kept-taken [] i o x l e = absurd (omega arith)
kept-taken (y ∷ owners) zero o x l e = ap (λ v. v ∷ kept owners) e
kept-taken (y ∷ owners) (suc i) o x l e =
    ap (λ list. y.visited ∷ list) (kept-taken owners i o x (omega arith) e)

-- the owners behind it are as they were
behind-taken : (owners : List Owner) (i : ℕ) (x : Owner) →
    drop (suc i) (slice_set owners i x) ≡ drop (suc i) owners
behind-taken [] i x = refl
behind-taken (y ∷ owners) zero x = refl
behind-taken (y ∷ owners) (suc i) x = behind-taken owners i x

-- a list more is joined
pub join-more : (owners : List Owner) (i : ℕ) (o x : Owner) (ring more all : Ring) →
    i < length owners → ring ++ tables_of (joined (drop i owners)) ≡ all →
    more ≡ ring ++ (get_or owners i o).next.items →
    more ++ tables_of (joined (drop (i + 1) (slice_set owners i x))) ≡ all
join-more owners i o x ring more all l e f =
    let next : Ring = (get_or owners i o).next.items in
    let rest : Ring = tables_of (joined (drop (i + 1) owners)) in
    let one : i + 1 ≡ suc i = omega arith in
    let behind : drop (i + 1) (slice_set owners i x) ≡ drop (i + 1) owners =
    ap (λ n. drop n (slice_set owners i x)) one ∙ behind-taken owners i x
    ∙ ap (λ n. drop n owners) (sym one) in
    ap (λ list. more ++ tables_of (joined list)) behind
    ∙ ap (λ list. list ++ rest) f
    ∙ append_assoc ring next rest
    ∙ ap (λ list. ring ++ tables_of (joined list)) (sym (drop_more owners i o l))
    ∙ e
