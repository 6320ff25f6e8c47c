use Rattle.std.proofs.lemmas.Result.{err_from_is_err_and}
use Rattle.log_client.proofs.Sync.SyncCalls.{explained_by_plays, refused_by_plays}
use Rattle.log_client.proofs.client.Client.sync.Goals as goal

pub returns-in_err-answer-clause-err : goal.returns-in_err-answer-clause-err
returns-in_err-answer-clause-err g c =
    let p = err_from_is_err_and c.from_residual.result c.from_residual.ensures.1 in
    rw (p.1, p.2) (refused_by_plays c.args.store.now c.args.self.now c.play_colour.new.self c.args.colour
    c.in_err-answer.field-0.0 c.in_err-answer.ensures.err)

pub returns-clause-ok : goal.returns-clause-ok
returns-clause-ok g c =
    explained_by_plays c.args.store.now c.args.self.now c.play_colour.new.self c.args.colour c.in_ok-answer.answer.0
    c.in_ok-answer.ensures.ok
