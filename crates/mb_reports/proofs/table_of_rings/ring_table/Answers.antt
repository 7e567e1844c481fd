use Rattle.std.proofs.Common.{List, arith, subst, ℕ, ◌++◌, ◌≡◌}
use Rattle.mb_reports.proofs.Lines.{rings-more, rings_lines-none}
use Rattle.mb_reports.specs.RingTable.{ring_lines}
use Rattle.mb_reports.proofs.table_of_rings.ring_table.Goals as goal

pub loop-k-init : goal.loop-k-init
loop-k-init c = rings_lines-none c.push_word_line.new.out.items

pub loop-k-preserved : goal.loop-k-preserved
loop-k-preserved c =
    rings-more c.push_word_line.new.out.items c.loop-k.out.items c.append_ring.new.out.items
    c.args.rings.now c.loop-k.k c.index-rings-k.result c.loop-k.invariant
    (subst (λ (ring : List (List ℕ)). c.append_ring.new.out.items
    ≡ c.loop-k.out.items ++ ring_lines c.loop-k.k ring) c.as_slice.ensures.value
    c.in_ok-append_ring.ensures)
    (omega arith) c.index-rings-k.is
