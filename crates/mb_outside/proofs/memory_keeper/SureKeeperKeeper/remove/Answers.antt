-- The removal from the tree is the one that the clause names.
use Rattle.std.proofs.Common.{ap, sym, ◌∙◌}
use Rattle.std.specs.Prelude.{option_map}
use Rattle.mb_outside.proofs.KeptRows.{get-tree_rows, items, tree_rows-removed, tree_rows-same}
use Rattle.mb_outside.specs.RowsInTree.{key_of}
use Rattle.mb_outside.proofs.memory_keeper.SureKeeperKeeper.remove.Goals as goal

pub returns-in-Some-clause-told : goal.returns-in-Some-clause-told
returns-in-Some-clause-told c =
    let key = c.in_ok-key.ensures in
    let there =
    get-tree_rows c.self.inside.bodies (key_of c.in_ok-key.key)
    ∙ ap (option_map items) (sym c.in-Some.ensures.value) in
    let removed =
    tree_rows-removed c.self.inside.bodies c.remove.new.self c.in_ok-key.key
    c.in-Some.ensures.updates in
    ((items c.in-Some.field-0, cc (there, key, c.self.view_is)), cc (removed, key, c.self.view_is))

pub returns-clause-told : goal.returns-clause-told
returns-clause-told c =
    let key = c.in_ok-key.ensures in
    let gone =
    get-tree_rows c.self.inside.bodies (key_of c.in_ok-key.key)
    ∙ ap (option_map items) (sym c.in-None.ensures.value) in
    let same = tree_rows-same c.self.inside.bodies c.remove.new.self c.in-None.ensures.unchanged in
    (cc (gone, key, c.self.view_is), cc (same, c.self.view_is))
