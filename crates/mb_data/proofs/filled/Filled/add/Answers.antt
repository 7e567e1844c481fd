use Rattle.std.proofs.Common.{[], false, rules, ◌+◌, ◌++◌, ◌==◌, ◌∷◌, ◌≡◌, ◌≤◌}
use Rattle.mb_data.specs.declared.entry.Entry.TheVariants.{Count, StructuralZero}
use Rattle.mb_data.proofs.CellLists.{count_filled, past_cells, zero_filled}
use Rattle.mb_data.proofs.filled.Filled.add.Goals as goal

pub returns-then-self-eq64 : goal.returns-then-self-eq64
returns-then-self-eq64 c =
    let full : c.args.self.now.cells ≡ 64 = search rules in
    rw c.in-Count.is (past_cells c.args.self.now.entries.items c.args.self.now.cells
    c.args.self.now.total c.in-Count.count c.args.self.now.is full)

pub invariant_of-self-in-Count : goal.invariant_of-self-in-Count
invariant_of-self-in-Count c =
    let more : (c.args.self.now.cells == 64) ≡ false = search rules in
    let pushed : c.push_reserved.new.self.items ≡ c.args.self.now.entries.items
    ++ Count c.in-Count.count ∷ [] = search rules in
    let within : c.args.self.now.total + c.in-Count.count
    ≤ 1000000 = rw c.in-Count.is at c.requires in
    let is = count_filled c.args.self.now.entries.items c.args.self.now.cells
    c.args.self.now.total c.in-Count.count c.args.self.now.is more within in
    record { is = rw pushed is }

pub invariant_of-self-in-StructuralZero : goal.invariant_of-self-in-StructuralZero
invariant_of-self-in-StructuralZero c =
    let pushed : c.push_reserved-in-StructuralZero.new.self.items ≡ c.args.self.now.entries.items
    ++ StructuralZero ∷ [] = search rules in
    record {
      is = rw pushed (zero_filled c.args.self.now.entries.items c.args.self.now.cells
          c.args.self.now.total c.args.self.now.is);
    }
