-- The line so far has the counts before this one.
use Rattle.std.proofs.Common.{string_bytes, take, ◌++◌, ◌≡◌, ◌∷◌}
use Rattle.std.specs.Fmt.{decimal}
use Rattle.std.specs.List.{flat_map}
use Rattle.mb_desk.proofs.lines.append_spaced.Given as goal

abbrev pub invariant-loop-count : goal.invariant-loop-count
invariant-loop-count l =
    string_bytes l.line
    ≡ string_bytes l.initial.line ++ flat_map (λ n. 32 ∷ decimal n) (take l.count-index l.counts)
