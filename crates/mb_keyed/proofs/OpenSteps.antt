-- Passes are opened, one after another.
use Rattle.std.proofs.Common.{All, List, [], ap, arith, inl, length, length-append, subst, sym, ℕ, ◌++◌, ◌∙◌, ◌∷◌, ◌≡◌, ⊎_elim}
use Rattle.std.proofs.lemmas.List.{map-append}
use Rattle.std.proofs.lemmas.List.Elements.{All-push}
use Rattle.mb_claims.specs.ClaimStep.{begins, opens}
use Rattle.mb_claims.specs.Claims.{RootSeat, ShardWords}
use Rattle.mb_claims.specs.declared.views.RootView.{RootView}
use Rattle.mb_keyed.specs.loops.Worked.{IsIdle, IsWorkerOf, numbers}
use Rattle.mb_keyed.specs.declared.worker.Worker.{Worker}
use Rattle.mb_tables.proofs.ListLaws.{In-left, In-right}
use Rattle.mb_tables.specs.Lists.{In}

-- the workers have the open passes; where there are none, the root is as it was
pub record AreOpened (shards : ShardWords) (before now : RootSeat) (workers : List Worker)
    : Type 0 where
  pub gathered : now.knows.gathered ≡ before.knows.gathered
  pub opened : (n : ℕ) → In n now.knows.opened → In n (numbers workers)
  pub ours : All (IsWorkerOf shards) workers
  pub idle : All IsIdle workers
  pub none : length workers ≡ 0 → now ≡ before

-- one pass more
pub opened_more : (shards : ShardWords) (before now next : RootSeat) (workers all : List Worker)
    (worker : Worker) → AreOpened shards before now workers → next.knows ≡ opens now.knows →
    worker.pass.knows ≡ begins now.knows → worker.found.items ≡ [] → IsWorkerOf shards worker →
    all ≡ workers ++ worker ∷ [] → AreOpened shards before next all
unfolding In
opened_more shards before now next workers all worker h e pass found ours f =
    subst (AreOpened shards before next) (sym f) (record {
      gathered = ap (λ (r : RootView). r.gathered) e ∙ h.gathered;
      opened = λ n i.
          let split : numbers (workers ++ worker ∷ [])
          ≡ numbers workers ++ worker.pass.knows.number ∷ [] =
          map-append (λ (w : Worker). w.pass.knows.number) workers (worker ∷ []) in
          subst (λ list. In n list) (sym split)
          (⊎_elim
          (λ (same : n ≡ (begins now.knows).number).
          In-right n (numbers workers) (worker.pass.knows.number ∷ [])
          (inl (same ∙ sym (ap (λ p. p.number) pass))))
          (λ old. In-left n (numbers workers) (worker.pass.knows.number ∷ []) (h.opened n old))
          (subst (λ (r : RootView). In n r.opened) e i));
      ours = All-push (IsWorkerOf shards) workers worker h.ours ours;
      idle = All-push IsIdle workers worker h.idle (record {
        won = ap (λ p. p.won) pass;
        notes = ap (λ p. p.notes) pass;
        found = found;
      });
      none = λ l. let many = length-append workers (worker ∷ []) in absurd (omega arith);
    })
