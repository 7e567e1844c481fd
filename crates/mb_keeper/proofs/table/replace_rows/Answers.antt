use Rattle.std.proofs.Common.{rules, subst, ◌≡◌, true}
use Rattle.sqlite.specs.State.{State}
use Rattle.sqlite.specs.Held.{state}
use Rattle.mb_keeper.specs.Effects.{IsWithin, Keeps, Replaced}
use Rattle.mb_keeper.specs.Known.{Knows}
use Rattle.mb_keeper.proofs.Within.{begun_holds, begun_within, keeps_committed, keeps_undone, within_then}
use Rattle.mb_keeper.proofs.table.replace_rows.Goals as goal

pub returns-in_err-delete_all : goal.returns-in_err-delete_all
returns-in_err-delete_all g c knows =
    let old = c.args.connection.now in
    let mid = c.delete_all.new.transaction.conn.now in
    let end = c.drop-transaction.new.self.0 in
    let begun : State = record (state g.S.Store old) { in_transaction = true } in
    let within : IsWithin (state g.S.Store old) (state g.S.Store mid) =
    within_then (state g.S.Store old) begun (state g.S.Store mid)
    (begun_within (state g.S.Store old))
    (rw c.transaction-transaction.ensures.begun at c.delete_all.ensures.within) in
    let same : end ≡ c.connection-1.given.0 = search rules in
    subst (λ h. Keeps (state g.S.Store old) (state g.S.Store h)
    (Replaced c.args.rows.now c.from_residual.result)) same
    (keeps_undone (state g.S.Store old) (state g.S.Store mid) (state g.S.Store end) c.args.rows.now
    c.from_residual.result c.look.ensures c.requires.settled within
    c.drop-transaction.ensures.survives.clean c.drop-transaction.ensures.undone (search rules)
    knows)

pub returns-in_err-insert_all : goal.returns-in_err-insert_all
returns-in_err-insert_all g c knows =
    let old = c.args.connection.now in
    let first = c.delete_all.new.transaction.conn.now in
    let mid = c.insert_all.new.transaction.conn.now in
    let end = c.drop-transaction-in_err-insert_all.new.self.0 in
    let begun : State = record (state g.S.Store old) { in_transaction = true } in
    let within : IsWithin (state g.S.Store old) (state g.S.Store mid) =
    within_then (state g.S.Store old) (state g.S.Store first) (state g.S.Store mid)
    (within_then (state g.S.Store old) begun (state g.S.Store first)
    (begun_within (state g.S.Store old))
    (rw c.transaction-transaction.ensures.begun at c.delete_all.ensures.within))
    c.insert_all.ensures.within in
    let same : end ≡ c.connection-in_err-insert_all-1.given.0 = search rules in
    subst (λ h. Keeps (state g.S.Store old) (state g.S.Store h)
    (Replaced c.args.rows.now c.from_residual-in_err-insert_all.result)) same
    (keeps_undone (state g.S.Store old) (state g.S.Store mid) (state g.S.Store end) c.args.rows.now
    c.from_residual-in_err-insert_all.result c.look.ensures c.requires.settled within
    c.drop-transaction-in_err-insert_all.ensures.survives.clean
    c.drop-transaction-in_err-insert_all.ensures.undone (search rules) knows)

pub returns : goal.returns
returns g c knows =
    let old = c.args.connection.now in
    let first = c.delete_all.new.transaction.conn.now in
    let mid = c.insert_all.new.transaction.conn.now in
    let end = c.commit.new.self.0 in
    let begun : State = record (state g.S.Store old) { in_transaction = true } in
    let cleared : IsWithin begun (state g.S.Store first) =
    rw c.transaction-transaction.ensures.begun at c.delete_all.ensures.within in
    let within : IsWithin (state g.S.Store old) (state g.S.Store mid) =
    within_then (state g.S.Store old) (state g.S.Store first) (state g.S.Store mid)
    (within_then (state g.S.Store old) begun (state g.S.Store first)
    (begun_within (state g.S.Store old)) cleared)
    c.insert_all.ensures.within in
    let ours = λ (knows : Knows (state g.S.Store old)).
    c.in_ok-insert_all.ensures.added
    (rw c.transaction-transaction.ensures.begun at c.in_ok-delete_all.ensures.cleared _
    (begun_holds (state g.S.Store old) knows)) in
    let same : end ≡ c.connection-2-1.given.0 = search rules in
    subst (λ h. Keeps (state g.S.Store old) (state g.S.Store h)
    (Replaced c.args.rows.now c.commit.result)) same
    (keeps_committed (state g.S.Store old) (state g.S.Store mid) (state g.S.Store end)
    c.args.rows.now c.commit.result c.look.ensures c.requires.settled within
    c.commit.ensures.survives.clean c.commit.ensures.ok c.commit.ensures.err ours knows)
