-- What is put is the reply to how the work ended; the other clauses follow from that.
use Rattle.mb_desk.proofs.Meanings.{answer_means}
use Rattle.mb_desk.proofs.Replies.{blames_one, completes, done_answers, done_holds, each_is_left, later, not_words, quiet, refused_stays, replied, where_some}
use Rattle.mb_desk.specs.Commands.{plan_of, scene_for}
use Rattle.mb_desk.specs.Forms.{texts}
use Rattle.mb_desk.specs.Words.{request_of}
use Rattle.mb_desk.proofs.top.desk.Goals as goal

pub returns-in-Some-clause-told : goal.returns-in-Some-clause-told
returns-in-Some-clause-told g c =
    where_some _ (request_of (texts c.args.words.now)) c.in-Some.request c.in-Some.ensures
    (replied _ _ (plan_of c.in-Some.request) _ _ _ _ c.work-ended.result c.put_reply.ensures.put.0
    c.put_reply.result c.work-ended.ensures.ends c.put_reply.ensures.put.1
    c.put_reply.ensures.put.2)

pub returns-in-Some-clause-done : goal.returns-in-Some-clause-done
returns-in-Some-clause-done g c is_done =
    where_some _ (request_of (texts c.args.words.now)) c.in-Some.request c.in-Some.ensures
    (done_answers _ _ (plan_of c.in-Some.request) _ _ _ _ c.put_reply.result
    (replied _ _ (plan_of c.in-Some.request) _ _ _ _ c.work-ended.result c.put_reply.ensures.put.0
    c.put_reply.result c.work-ended.ensures.ends c.put_reply.ensures.put.1
    c.put_reply.ensures.put.2) is_done)

pub returns-in-Some-clause-means : goal.returns-in-Some-clause-means
returns-in-Some-clause-means g c is_done =
    where_some _ (request_of (texts c.args.words.now)) c.in-Some.request c.in-Some.ensures
    (answer_means
    (scene_for c.in-Some.request (g.F.Files.held c.args.files.now)
    (g.F.Files.faults c.args.files.now) (g.K.Keeper.rows c.args.keeper.now)
    (g.K.Keeper.faults c.args.keeper.now))
    (scene_for c.in-Some.request (g.F.Files.held c.work-ended.new.files)
    (g.F.Files.faults c.work-ended.new.files) (g.K.Keeper.rows c.work-ended.new.keeper)
    (g.K.Keeper.faults c.work-ended.new.keeper))
    c.in-Some.request (g.S.Sink.taken c.args.out.now) (g.S.Sink.taken c.put_reply.new.out)
    (done_answers _ _ (plan_of c.in-Some.request) _ _ _ _ c.put_reply.result
    (replied _ _ (plan_of c.in-Some.request) _ _ _ _ c.work-ended.result c.put_reply.ensures.put.0
    c.put_reply.result c.work-ended.ensures.ends c.put_reply.ensures.put.1
    c.put_reply.ensures.put.2) is_done))

pub returns-in-Some-clause-complete : goal.returns-in-Some-clause-complete
returns-in-Some-clause-complete g c files rows sink =
    where_some _ (request_of (texts c.args.words.now)) c.in-Some.request c.in-Some.ensures
    (completes _ _ (plan_of c.in-Some.request) _ _ _ _ c.put_reply.result
    (replied _ _ (plan_of c.in-Some.request) _ _ _ _ c.work-ended.result c.put_reply.ensures.put.0
    c.put_reply.result c.work-ended.ensures.ends c.put_reply.ensures.put.1
    c.put_reply.ensures.put.2) files rows sink)

pub returns-in-Some-clause-same_files : goal.returns-in-Some-clause-same_files
returns-in-Some-clause-same_files g c =
    refused_stays _ _ _ _ _ c.work-ended.result c.put_reply.ensures.put.0 c.put_reply.result
    c.work-ended.ensures.same_files c.put_reply.ensures.put.1 c.put_reply.ensures.put.2

pub returns-in-Some-clause-same_rows : goal.returns-in-Some-clause-same_rows
returns-in-Some-clause-same_rows g c =
    refused_stays _ _ _ _ _ c.work-ended.result c.put_reply.ensures.put.0 c.put_reply.result
    c.work-ended.ensures.same_rows c.put_reply.ensures.put.1 c.put_reply.ensures.put.2

pub returns-in-Some-clause-each : goal.returns-in-Some-clause-each
returns-in-Some-clause-each g c =
    where_some _ (request_of (texts c.args.words.now)) c.in-Some.request c.in-Some.ensures
    (each_is_left _ _ _ _ _ c.work-ended.result c.work-ended.ensures.same_files
    c.work-ended.ensures.same_rows c.work-ended.ensures.each_done
    c.work-ended.ensures.each_failed)

pub returns-in-Some-clause-each_done : goal.returns-in-Some-clause-each_done
returns-in-Some-clause-each_done g c is_done =
    where_some _ (request_of (texts c.args.words.now)) c.in-Some.request c.in-Some.ensures
    (done_holds _ _ _ _ _ c.work-ended.result c.put_reply.ensures.put.0 c.put_reply.result
    c.work-ended.ensures.each_done c.put_reply.ensures.put.1 c.put_reply.ensures.put.2 is_done)

pub returns-in-Some-clause-sound : goal.returns-in-Some-clause-sound
returns-in-Some-clause-sound g c =
    where_some _ (request_of (texts c.args.words.now)) c.in-Some.request c.in-Some.ensures
    c.work-ended.ensures.sound

pub returns-in-Some-clause-words : goal.returns-in-Some-clause-words
returns-in-Some-clause-words g c is_words =
    absurd (not_words _ _ (plan_of c.in-Some.request) _ _ _ _ c.put_reply.result
    (replied _ _ (plan_of c.in-Some.request) _ _ _ _ c.work-ended.result c.put_reply.ensures.put.0
    c.put_reply.result c.work-ended.ensures.ends c.put_reply.ensures.put.1
    c.put_reply.ensures.put.2) is_words)

pub returns-in-Some-clause-outside : goal.returns-in-Some-clause-outside
returns-in-Some-clause-outside g c =
    blames_one _ _ (plan_of c.in-Some.request) _ _ _ _ c.put_reply.result
    (replied _ _ (plan_of c.in-Some.request) _ _ _ _ c.work-ended.result c.put_reply.ensures.put.0
    c.put_reply.result c.work-ended.ensures.ends c.put_reply.ensures.put.1
    c.put_reply.ensures.put.2)

pub returns-in-Some-clause-quiet : goal.returns-in-Some-clause-quiet
returns-in-Some-clause-quiet g c =
    quiet _ _ (plan_of c.in-Some.request) _ _ _ _ c.put_reply.result
    (replied _ _ (plan_of c.in-Some.request) _ _ _ _ c.work-ended.result c.put_reply.ensures.put.0
    c.put_reply.result c.work-ended.ensures.ends c.put_reply.ensures.put.1
    c.put_reply.ensures.put.2)

pub returns-in-Some-clause-later_files : goal.returns-in-Some-clause-later_files
returns-in-Some-clause-later_files g c =
    (later _ _ (plan_of c.in-Some.request) _ _ _ _ c.put_reply.result
    (replied _ _ (plan_of c.in-Some.request) _ _ _ _ c.work-ended.result c.put_reply.ensures.put.0
    c.put_reply.result c.work-ended.ensures.ends c.put_reply.ensures.put.1
    c.put_reply.ensures.put.2)).0

pub returns-in-Some-clause-later_keeper : goal.returns-in-Some-clause-later_keeper
returns-in-Some-clause-later_keeper g c =
    (later _ _ (plan_of c.in-Some.request) _ _ _ _ c.put_reply.result
    (replied _ _ (plan_of c.in-Some.request) _ _ _ _ c.work-ended.result c.put_reply.ensures.put.0
    c.put_reply.result c.work-ended.ensures.ends c.put_reply.ensures.put.1
    c.put_reply.ensures.put.2)).1
