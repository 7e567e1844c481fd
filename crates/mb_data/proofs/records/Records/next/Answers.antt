use Rattle.std.proofs.Common.{refl, sym, ◌∙◌, ap}
use Rattle.mb_data.specs.Records.{Reading}
use Rattle.mb_data.proofs.RecordsLeft.{left_after, left_at_end}
use Rattle.mb_data.proofs.records.Records.next.Goals as goal

pub returns-in-Ok-true : goal.returns-in-Ok-true
returns-in-Ok-true c =
    let is = rw (sym c.deref_mut.ensures.value) at c.self.invariant in
    let read = rw (c.in-Ok-true.is, c.in-Ok-true.field-0-test) at
    c.read_byte_record.ensures.reads in
    let reads = rw c.deref_mut.ensures.value at (read is.untrimmed is.ready) in
    sym (ap (λ (r : Reading). r.left) c.self.view_is)
    ∙ left_after _ _ _ _ _ _ c.self.invariant.known (rw c.self.invariant.defaults at reads.0)
    ∙ rw reads.1 refl

pub returns-in-Ok-false : goal.returns-in-Ok-false
returns-in-Ok-false c =
    let is = rw (sym c.deref_mut.ensures.value) at c.self.invariant in
    let read = rw (c.in-Ok-false.is, c.in-Ok-false.field-0-test) at
    c.read_byte_record.ensures.reads in
    let reads = rw c.deref_mut.ensures.value at (read is.untrimmed is.ready) in
    sym (ap (λ (r : Reading). r.left) c.self.view_is)
    ∙ left_at_end _ _ _ _ _ _ c.self.invariant.known (rw c.self.invariant.defaults at reads.0)
