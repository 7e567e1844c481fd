-- A plan and its change are the work.
use Rattle.std.proofs.Common.{Err, Ok}
use Rattle.mb_desk.proofs.SoundWorks.{committed_sound, stopped_sound}
use Rattle.mb_desk.proofs.Works.{committed, each_left, none_left, stopped}
use Rattle.mb_desk.specs.Decision.{scene}
use Rattle.mb_desk.specs.Commands.{needs_of}
use Rattle.mb_desk.proofs.work.work.Goals as goal

pub returns-in-Err-clause-ends : goal.returns-in-Err-clause-ends
returns-in-Err-clause-ends g c = stopped _ _ _ c.in-Err.stop c.in-Err.ensures.does

pub returns-in-Err-clause-each_failed : goal.returns-in-Err-clause-each_failed
returns-in-Err-clause-each_failed g c failed = (
  Ok tt,
  none_left (needs_of c.args.request.now) _ _ _ _ c.in-Err.ensures.same_files
      c.in-Err.ensures.same_rows,
)

pub returns-in-Ok-commit-clause-ends : goal.returns-in-Ok-commit-clause-ends
returns-in-Ok-commit-clause-ends g c =
    committed c.args.request.now (scene _ _ _ _) (scene _ _ _ _) (scene _ _ _ _) c.in-Ok.planned
    (Ok c.in-Ok-commit.field-0) c.in-Ok.ensures.does c.in-Ok.ensures.touches
    c.in-Ok-commit.ensures.commits

pub returns-in-Err-commit-clause-ends : goal.returns-in-Err-commit-clause-ends
returns-in-Err-commit-clause-ends g c =
    committed c.args.request.now (scene _ _ _ _) (scene _ _ _ _) (scene _ _ _ _) c.in-Ok.planned
    (Err c.in-Err-commit.stop) c.in-Ok.ensures.does c.in-Ok.ensures.touches
    c.in-Err-commit.ensures.commits

pub returns-in-Ok-commit-clause-each_done : goal.returns-in-Ok-commit-clause-each_done
returns-in-Ok-commit-clause-each_done g c =
    each_left (needs_of c.args.request.now) _ _ (scene _ _ _ _) (scene _ _ _ _) c.in-Ok.planned
    (Ok c.in-Ok-commit.field-0) c.in-Ok.ensures.same_files c.in-Ok.ensures.same_rows
    c.in-Ok.ensures.touches c.in-Ok-commit.ensures.commits

pub returns-in-Err-commit-clause-each_failed : goal.returns-in-Err-commit-clause-each_failed
returns-in-Err-commit-clause-each_failed g c failed = (
  Err c.in-Err-commit.stop,
  each_left (needs_of c.args.request.now) _ _ (scene _ _ _ _) (scene _ _ _ _) c.in-Ok.planned
      (Err c.in-Err-commit.stop) c.in-Ok.ensures.same_files c.in-Ok.ensures.same_rows
      c.in-Ok.ensures.touches c.in-Err-commit.ensures.commits,
)

pub returns-in-Err-clause-sound : goal.returns-in-Err-clause-sound
returns-in-Err-clause-sound g c = stopped_sound _ _ _ c.in-Err.stop c.in-Err.ensures.does

pub returns-in-Ok-commit-clause-sound : goal.returns-in-Ok-commit-clause-sound
returns-in-Ok-commit-clause-sound g c =
    committed_sound c.args.request.now (scene _ _ _ _) (scene _ _ _ _) (scene _ _ _ _)
    c.in-Ok.planned (Ok c.in-Ok-commit.field-0) c.in-Ok.ensures.does c.in-Ok.ensures.touches
    c.in-Ok.ensures.said c.in-Ok-commit.ensures.commits

pub returns-in-Err-commit-clause-sound : goal.returns-in-Err-commit-clause-sound
returns-in-Err-commit-clause-sound g c =
    committed_sound c.args.request.now (scene _ _ _ _) (scene _ _ _ _) (scene _ _ _ _)
    c.in-Ok.planned (Err c.in-Err-commit.stop) c.in-Ok.ensures.does c.in-Ok.ensures.touches
    c.in-Ok.ensures.said c.in-Err-commit.ensures.commits
