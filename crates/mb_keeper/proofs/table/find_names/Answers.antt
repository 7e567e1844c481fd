use Rattle.sqlite.specs.Held.{state}
use Rattle.mb_keeper.proofs.Calls.{names_read}
use Rattle.mb_keeper.proofs.table.find_names.Goals as goal

pub returns : goal.returns
returns g c knows =
    names_read (state g.S.Store c.args.connection.now) (state g.S.Store c.name_rows.new.connection)
    c.args.kind c.in_ok-rows.rows.items c.texts_of.result
    (c.in_ok-rows.ensures knows) (rw c.as_slice.ensures.value at c.texts_of.ensures)
