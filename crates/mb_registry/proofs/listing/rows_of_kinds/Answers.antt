use Rattle.std.proofs.Common.{Err, Global, Vec, refl, rules, ◌≡◌, ◌∙◌}
use Rattle.mb_registry.proofs.ListSteps.{kinds_none, kinds_on, kinds_refused}
use Rattle.mb_registry.proofs.LookingOn.{all_looked, look_refused, none_changed, one_looked, still_same}
use Rattle.mb_registry.specs.Faults.{fault_cause}
use Rattle.mb_registry.specs.declared.listing.Listed.{Listed}
use Rattle.mb_registry.specs.Listing.{rows_of_kind}
use Rattle.mb_registry.proofs.listing.rows_of_kinds.Goals as goal

pub returns-in_err-rows : goal.returns-in_err-rows
returns-in_err-rows g c =
    let fault = c.in_err-rows.field-0.0 in
    let is : c.from_residual.result ≡ Err fault = search rules in
    let look = c.in_err-rows.ensures.looks in
    let (left, counts) = c.loop-kind.invariant in
    rw is (record {
      looks = record {
        decided =
            look_refused _ _ _ _ _ (rows_of_kind _) (λ (rows : Vec Listed Global). rows.items)
            (λ (rows : Vec Listed Global). rows.items) fault left look.decided look.same
            (λ rows refused.
            kinds_refused (fault_cause fault) c.args.kinds.now c.loop-kind.kind-index
            _ _ rows c.loop-kind.all.items c.loop-kind-test.true refl refused);
        same = still_same _ _ _ _ _ left look.same;
        cause = search rules;
      };
    })

pub loop-kind-preserved : goal.loop-kind-preserved
loop-kind-preserved g c =
    let look = c.in_ok-rows.ensures.looks in
    let (left, counts) = c.loop-kind.invariant in (
      one_looked _ _ _ _ _ _ (rows_of_kind _) (λ (rows : Vec Listed Global). rows.items)
          c.in_ok-rows.rows left look.decided look.same
          (λ rows e.
          kinds_on c.args.kinds.now c.loop-kind.kind-index _ _ rows c.loop-kind.all.items _
          c.in_ok-rows.rows.items c.loop-kind-test.true refl
          c.in_ok-append.ensures.items e),
      look.cause.counted ∙ counts,
    )

pub returns : goal.returns
returns g c =
    let (left, counts) = c.loop-kind.invariant in
    record {
      looks = record {
        decided =
            all_looked _ _ _ _ (λ (rows : Vec Listed Global). rows.items) c.loop-kind.all left
            (λ rows.
            kinds_none c.args.kinds.now c.loop-kind.kind-index rows c.loop-kind.all.items
            c.loop-kind-test.false);
        same = none_changed _ _ _ _ left;
        cause = search rules;
      };
    }
