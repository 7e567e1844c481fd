use Rattle.std.proofs.Common.{Err, Global, Vec, rules, ◌≡◌, ◌∙◌}
use Rattle.mb_registry.proofs.ListSteps.{listed_none, listed_on, listed_refused}
use Rattle.mb_registry.proofs.LookingOn.{all_looked, look_refused, none_changed, one_looked, still_same}
use Rattle.mb_registry.specs.Faults.{fault_cause}
use Rattle.mb_registry.specs.declared.listing.Listed.{Listed}
use Rattle.mb_registry.specs.Listing.{listed_row}
use Rattle.mb_registry.proofs.listing.listed_rows.Goals as goal

pub returns-in_err-row : goal.returns-in_err-row
returns-in_err-row g c =
    let fault = c.in_err-row.field-0.0 in
    let is : c.from_residual.result ≡ Err fault = search rules in
    let look = c.in_err-row.ensures.looks in
    let (left, counts) = c.loop-name.invariant in
    rw is (record {
      looks = record {
        decided =
            look_refused _ _ _ _ _ (listed_row c.args.kind c.as_str.result.now) (λ row. row)
            (λ (rows : Vec Listed Global). rows.items) fault left look.decided look.same
            (λ rows refused.
            listed_refused (fault_cause fault) c.args.kind c.args.names.now c.loop-name.name-index
            c.name-item.result c.as_str.result.now rows c.loop-name.rows.items
            c.loop-name-test.true c.name-item.is c.as_str.ensures.value refused);
        same = still_same _ _ _ _ _ left look.same;
        cause = search rules;
      };
    })

pub loop-name-preserved : goal.loop-name-preserved
loop-name-preserved g c =
    let look = c.in_ok-row.ensures.looks in
    let (left, counts) = c.loop-name.invariant in (
      one_looked _ _ _ _ _ _ (listed_row c.args.kind c.as_str.result.now) (λ row. row)
          c.in_ok-row.row left look.decided look.same
          (λ rows e.
          listed_on c.args.kind c.args.names.now c.loop-name.name-index c.name-item.result
          c.as_str.result.now rows c.loop-name.rows.items _ c.in_ok-row.row c.loop-name-test.true
          c.name-item.is c.as_str.ensures.value c.in_ok-push.ensures.items e),
      look.cause.counted ∙ counts,
    )

pub returns : goal.returns
returns g c =
    let (left, counts) = c.loop-name.invariant in
    record {
      looks = record {
        decided =
            all_looked _ _ _ _ (λ (rows : Vec Listed Global). rows.items) c.loop-name.rows left
            (λ rows.
            listed_none c.args.kind c.args.names.now c.loop-name.name-index rows
            c.loop-name.rows.items c.loop-name-test.false);
        same = none_changed _ _ _ _ left;
        cause = search rules;
      };
    }
