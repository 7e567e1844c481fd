use Rattle.std.proofs.Common.{List, None, Some, [], ap, length, rules, sym, ◌++◌, ◌∙◌, ◌∷◌, ◌≡◌, ℕ}
use Rattle.std.proofs.lemmas.List.FromFn.{length-map-range_with_len}
use Rattle.std.specs.List.{remove}
use Rattle.std.specs.Map.{update}
use Rattle.std.specs.Option.{IsSome}
use Rattle.std.specs.Str.{bytes_eq}
use Rattle.mb_data.specs.DatasetText.{Row, entry_by_rows, with_levels}
use Rattle.mb_data.specs.Rows.{entry_at}
use Rattle.mb_data.specs.declared.entry.Entry.{Entry}
use Rattle.mb_data.specs.loops.Keys.{key_of}
use Rattle.mb_data.proofs.AddedRows.{given_back, levels_are_texts, repeat_refused, row_added, step_is, total_refused}
use Rattle.mb_data.proofs.GatheredRows.{gathers_more}
use Rattle.mb_data.proofs.gathered.Gathered.add.Goals as goal

pub returns-then-not-branch-clause-added : goal.returns-then-not-branch-clause-added
returns-then-not-branch-clause-added c = λ rows so_far.
    let levels = remove c.args.records.now.fields c.args.header.now.place in
    let said = c.in_ok-entry.ensures.row in
    let row : Row = record { levels = levels; entry = said.0 } in
    let key : c.in_ok-key.key.items ≡ key_of levels = search rules in
    let texts = levels_are_texts c.args.records.now.fields c.args.header.now.place
    c.in_ok-entry.ensures.text in
    let some : IsSome (entry_at c.args.self.now.rows c.in_ok-key.key.items) = search rules in
    step_is c.args.header.now c.args.number rows c.args.records.now.fields row said.1
    ∙ repeat_refused c.args.number rows row
    (entry_at c.args.self.now.rows c.in_ok-key.key.items) some
    (ap (entry_at c.args.self.now.rows) key ∙ so_far.entries levels texts)

pub returns-in-None-clause-added : goal.returns-in-None-clause-added
returns-in-None-clause-added c = λ rows so_far.
    let levels = remove c.args.records.now.fields c.args.header.now.place in
    let said = c.in_ok-entry.ensures.row in
    let row : Row = record { levels = levels; entry = said.0 } in
    let key : c.in_ok-key.key.items ≡ key_of levels = search rules in
    let texts = levels_are_texts c.args.records.now.fields c.args.header.now.place
    c.in_ok-entry.ensures.text in
    let none : entry_at c.args.self.now.rows c.in_ok-key.key.items ≡ None = search rules in
    step_is c.args.header.now c.args.number rows c.args.records.now.fields row said.1
    ∙ total_refused c.args.number c.args.self.now.total rows row c.in_ok-entry.entry
    (sym (so_far.entries levels texts) ∙ sym (ap (entry_at c.args.self.now.rows) key) ∙ none)
    so_far.total_is said.2 (sym c.in-None.is ∙ c.total_with.ensures)

pub returns-clause-added : goal.returns-clause-added
returns-clause-added c = λ rows so_far.
    let levels = remove c.args.records.now.fields c.args.header.now.place in
    let said = c.in_ok-entry.ensures.row in
    let row : Row = record { levels = levels; entry = said.0 } in
    let key : c.in_ok-key.key.items ≡ key_of levels = search rules in
    let texts = levels_are_texts c.args.records.now.fields c.args.header.now.place
    c.in_ok-entry.ensures.text in
    let none : entry_at c.args.self.now.rows c.in_ok-key.key.items ≡ None = search rules in
    let new : entry_by_rows rows levels ≡ None =
    sym (so_far.entries levels texts) ∙ sym (ap (entry_at c.args.self.now.rows) key) ∙ none in
    let added = row_added c.args.number c.args.self.now.total c.in-Some.total rows row
    c.in_ok-entry.entry
    new so_far.total_is said.2 (sym c.in-Some.is ∙ c.total_with.ensures) in
    let put : (others : List ℕ) → entry_at c.put.new.self others
    ≡ update bytes_eq (entry_at c.args.self.now.rows) c.in_ok-key.key.items
    (Some c.in_ok-entry.entry) others =
    (rw c.if-not-branch.false at c.in_ok-put.ensures).1 in
    let names : c.add_levels.new.levels ≡ with_levels c.args.self.now.levels.items
    levels = search rules in
    let after : (others : List ℕ) → entry_at c.put.new.self others
    ≡ update bytes_eq (entry_at c.args.self.now.rows) (key_of levels) (Some row.entry) others =
    λ others.
    put others
    ∙ ap (λ (k : List ℕ). update bytes_eq (entry_at c.args.self.now.rows) k
    (Some c.in_ok-entry.entry) others) key
    ∙ ap (λ (e : Entry). update bytes_eq (entry_at c.args.self.now.rows) (key_of levels)
    (Some e) others) added.1 in
    let kept = gathers_more (length c.args.header.now.factors) rows row
    c.args.self.now.levels.items (entry_at c.args.self.now.rows) (entry_at c.put.new.self)
    c.args.self.now.total so_far texts new after in
    let back = given_back c.args.self.now.levels.items c.add_levels.new.levels
    c.args.self.now.levels.len (search rules) (search (rules, length-map-range_with_len)) in (
      rows ++ row ∷ [],
      step_is c.args.header.now c.args.number rows c.args.records.now.fields row said.1 ∙ added.0,
      rw (back, names, added.2) kept,
    )
