use Rattle.std.proofs.Common.{[], map, ◌++◌, ◌∷◌, ◌≡◌}
use Rattle.std.specs.List.{flat_map, range_with_len}
use Rattle.csv.specs.Writing.{default_writer, row_text}
use Rattle.mb_data.specs.HeaderText.{count_word}
use Rattle.mb_data.specs.Written.{record_of}
use Rattle.mb_data.proofs.writing.write_dataset.Given as goal

abbrev pub invariant-loop-number : goal.invariant-loop-number
invariant-loop-number l =
    l.text.items
    ≡ flat_map (row_text default_writer)
    ((l.dataset.factors ++ count_word ∷ [])
    ∷ map (record_of l.dataset) (range_with_len 0 l.number))
