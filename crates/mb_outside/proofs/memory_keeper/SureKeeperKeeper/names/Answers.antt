-- Each key that is of the kind is listed, and no other.
use Rattle.std.proofs.Common.{List, ap, map, refl, string_bytes, sym, ℕ, ◌++◌, ◌∙◌}
use Rattle.mb_outside.proofs.KeptRows.{names-kept, names-none, names-tree_rows, names-skipped}
use Rattle.mb_outside.specs.Rows.{names_among, names_of}
use Rattle.mb_outside.specs.RowsInTree.{key_of}
use Rattle.mb_outside.specs.declared.memory_keeper.RowKey.{RowKey}
use Rattle.mb_outside.proofs.memory_keeper.SureKeeperKeeper.names.Goals as goal

pub loop-key-preserved-in_ok-push : goal.loop-key-preserved-in_ok-push
loop-key-preserved-in_ok-push c =
    let names = c.loop-key.names.items in
    let left : List RowKey → List (List ℕ) = λ keys. names_among c.args.kind (map key_of keys) in
    ap (λ ns. map string_bytes ns ++ left c.next.new.self) c.in_ok-push.ensures.items
    ∙ names-kept c.args.kind names c.in_ok-from_str.field-0 c.in-Some.key.now c.next.new.self
    c.if-key-kind.true (c.in_ok-from_str.ensures.ok ∙ c.as_str.ensures.value)
    ∙ ap (λ ks. map string_bytes names ++ left ks) (sym c.in-Some.ensures.steps)
    ∙ c.loop-key.invariant

pub loop-key-preserved : goal.loop-key-preserved
loop-key-preserved c =
    let names = map string_bytes c.loop-key.names.items in
    ap (λ ns. names ++ ns)
    (names-skipped c.args.kind (key_of c.in-Some.key.now) (map key_of c.next.new.self)
    c.if-key-kind.false)
    ∙ ap (λ ks. names ++ names_among c.args.kind (map key_of ks)) (sym c.in-Some.ensures.steps)
    ∙ c.loop-key.invariant

pub returns-clause-told : goal.returns-clause-told
returns-clause-told c =
    let names = map string_bytes c.loop-key.names.items in
    let all : List RowKey → List (List ℕ) = λ keys. names_among c.args.kind (map key_of keys) in (
      refl,
      sym (names-none c.args.kind names)
          ∙ ap (λ ks. names ++ all ks) (sym c.in-None.ensures.steps.0)
          ∙ c.loop-key.invariant
          ∙ ap all (c.into_iter-key-iterator.ensures.into_iter_gives
          ∙ c.keys-key-items.ensures.rest)
          ∙ sym (names-tree_rows c.args.kind c.self.inside.bodies c.keys-key-items.ensures.ordered)
          ∙ ap (names_of c.args.kind) c.self.view_is,
    )
