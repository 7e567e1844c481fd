-- The word is among the names exactly where it is among those that are left.
use Rattle.std.proofs.Common.{drop, map, ◌≡◌}
use Rattle.std.specs.List.{list_any}
use Rattle.std.specs.Str.{bytes_eq}
use Rattle.mb_desk.proofs.options.is_among.Given as goal

abbrev pub invariant-loop-name : goal.invariant-loop-name
invariant-loop-name l =
    list_any (bytes_eq l.fn.word) (map (λ name. name.now) l.fn.names)
    ≡ list_any (bytes_eq l.fn.word) (map (λ name. name.now) (drop l.name-index l.names))
