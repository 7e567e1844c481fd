use Rattle.std.proofs.Common.{Err, ap, drop, map, rules, string_bytes, sym, subst, ◌+◌, ◌∙◌, ◌≡◌}
use Rattle.mb_registry.proofs.ListSteps.{let_go_more, let_go_none}
use Rattle.mb_registry.proofs.LookingOn.{all_looked, look_refused, none_changed, one_looked, refused_on, still_same}
use Rattle.mb_registry.specs.Faults.{fault_cause}
use Rattle.mb_registry.specs.Removing.{all_let_go, lets_go}
use Rattle.mb_tables.specs.Answers.{IsRefused, ◌>>=◌}
use Rattle.mb_registry.proofs.removing.all_let_go.Goals as goal

pub returns-in_err-lets_go : goal.returns-in_err-lets_go
returns-in_err-lets_go g c =
    let fault = c.in_err-lets_go.field-0.0 in
    let is : c.from_residual.result ≡ Err fault = search rules in
    let look = c.in_err-lets_go.ensures.looks in
    let (left, counts) = c.loop-referring.invariant in
    rw is (record {
      looks = record {
        decided =
            look_refused _ _ _ _ _ (lets_go c.args.name.now c.args.by c.as_str.result.now)
            (λ done. done) (λ done. done) fault left look.decided look.same
            (λ rows refused.
            subst (IsRefused (fault_cause fault))
            (sym (let_go_more c.args.name.now c.args.by c.args.names.now
            c.loop-referring.referring-index c.referring-item.result c.as_str.result.now rows
            c.loop-referring-test.true c.referring-item.is c.as_str.ensures.value))
            (refused_on (fault_cause fault) _ _ refused));
        same = still_same _ _ _ _ _ left look.same;
        cause = search rules;
      };
    })

pub loop-referring-preserved : goal.loop-referring-preserved
loop-referring-preserved g c =
    let look = c.in_ok-lets_go.ensures.looks in
    let (left, counts) = c.loop-referring.invariant in (
      one_looked _ _ _ _ _ _ (lets_go c.args.name.now c.args.by c.as_str.result.now) (λ done. done)
          c.in_ok-lets_go.field-0 left look.decided look.same
          (λ rows e.
          let_go_more c.args.name.now c.args.by c.args.names.now c.loop-referring.referring-index
          c.referring-item.result c.as_str.result.now rows c.loop-referring-test.true
          c.referring-item.is c.as_str.ensures.value
          ∙ ap (λ r. r >>= λ free. all_let_go c.args.name.now c.args.by
          (map string_bytes (drop (c.loop-referring.referring-index + 1) c.args.names.now)) rows)
          e),
      look.cause.counted ∙ counts,
    )

pub returns : goal.returns
returns g c =
    let (left, counts) = c.loop-referring.invariant in
    record {
      looks = record {
        decided =
            all_looked _ _ _ _ (λ done. done) (tt {0}) left
            (λ rows.
            let_go_none c.args.name.now c.args.by c.args.names.now c.loop-referring.referring-index
            rows c.loop-referring-test.false);
        same = none_changed _ _ _ _ left;
        cause = search rules;
      };
    }
