use Rattle.std.proofs.Common.{Some, ap, arith, get_or, ◌∙◌}
use Rattle.std.proofs.lemmas.List.{get_or-map, length-map}
use Rattle.std.proofs.lemmas.Option.{slice_get-get_or}
use Rattle.mb_keyed.proofs.ring_tables.read_at.Goals as goal
use Rattle.mb_keyed.specs.declared.ranked.Ranked.{Ranked}
use Rattle.mb_keyed.specs.loops.Worked.{keys_in}
use Rattle.mb_tables.proofs.ListLaws.{place-in}

pub table-requires : goal.table-requires
table-requires c =
    let order = c.args.order.now in
    let place = c.args.place in
    let none : Ranked = record { key = 0; rank = 0 } in
    let long = length-map order (λ (r : Ranked). r.key) in
    c.requires.there (get_or order place none).key
    (place-in (keys_in order) place (get_or order place none).key
    (slice_get-get_or (keys_in order) place 0 (omega arith)
    ∙ ap Some (get_or-map (λ (r : Ranked). r.key) order place none 0 c.requires.place)))
