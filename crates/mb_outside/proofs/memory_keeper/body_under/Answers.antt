-- What the rows have under a key is the body that the look-up found.
use Rattle.std.proofs.Common.{Some, ap, sym, ◌∙◌}
use Rattle.std.specs.Prelude.{option_map}
use Rattle.mb_outside.proofs.KeptRows.{get-tree_rows, items}
use Rattle.mb_outside.specs.RowsInTree.{key_of}
use Rattle.mb_outside.proofs.memory_keeper.body_under.Goals as goal

pub returns-in-Some : goal.returns-in-Some
returns-in-Some c =
    ap Some c.as_slice.ensures.value ∙ ap (option_map items) c.in-Some.ensures.value
    ∙ sym (get-tree_rows c.args.bodies.now (key_of c.args.key.now))

pub returns-in-None : goal.returns-in-None
returns-in-None c =
    ap (option_map items) c.in-None.ensures.value
    ∙ sym (get-tree_rows c.args.bodies.now (key_of c.args.key.now))
