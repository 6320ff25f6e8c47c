use Rattle.std.proofs.Common.{◌∙◌, ℕ, ◌<◌, ap, sym, subst}
use Rattle.world_code.specs.WorldView.{world_of}
use Rattle.script_in_order.specs.Runs.{RepliesView, with_reply, with_read_found, reply_of}
use Rattle.script_in_order.proofs.TransactionSteps.{object_there, taken_fits, still_there, did_transact, transacts_none}
use Rattle.script_in_order.proofs.run.do_transaction.Goals as goal

pub take_read-taken-requires : goal.take_read-taken-requires
take_read-taken-requires c =
    subst (λ (n : ℕ). c.args.object < n) (sym c.requires.reads)
    (object_there c.args.objects.now c.args.command.now.what c.args.object c.requires.kind c.requires.fits.uses)

pub transact-requires-clause-rests : goal.transact-requires-clause-rests
transact-requires-clause-rests c =
    taken_fits c.args.mine.now.reads c.args.object c.take_read-taken.result c.take_read-taken.ensures.value
    c.requires.rests

pub keep_read-requires : goal.keep_read-requires
keep_read-requires c =
    still_there c.args.mine.now c.take_read-taken.new.self c.args.object c.take_read-taken.ensures.reads
    (subst (λ (n : ℕ). c.args.object < n) (sym c.requires.reads)
    (object_there c.args.objects.now c.args.command.now.what c.args.object c.requires.kind c.requires.fits.uses))

pub add-requires : goal.add-requires
add-requires c =
    subst (λ (r : RepliesView). 0 < r.room)
    (sym (c.keep_read.ensures
    ∙ ap (λ (r : RepliesView). with_read_found r c.args.object c.in-Ok.kept) c.take_read-taken.ensures.reads))
    c.requires.room

pub add-requires-in-Err : goal.add-requires-in-Err
add-requires-in-Err c =
    subst (λ (r : RepliesView). 0 < r.room) (sym c.take_read-taken.ensures.reads) c.requires.room

pub returns-in-Ok-clause-done : goal.returns-in-Ok-clause-done
returns-in-Ok-clause-done c =
    did_transact c.args.objects.now c.args.command.now c.args.object c.args.mine.now c.add.new.self
    (world_of c.args.world.now) (world_of c.transact.new.world) c.in-Ok.answer c.in-Ok.kept c.take_read-taken.result
    c.reply_of.result c.take_read-taken.ensures.value c.in-Ok.ensures.ok
    (c.reply_of.ensures ∙ ap (reply_of c.args.command.now c.in-Ok.answer) c.new.ensures)
    (c.add.ensures ∙ ap (λ (r : RepliesView). with_reply r c.reply_of.result)
    (c.keep_read.ensures
    ∙ ap (λ (r : RepliesView). with_read_found r c.args.object c.in-Ok.kept) c.take_read-taken.ensures.reads))

pub returns-in-Err-clause-done : goal.returns-in-Err-clause-done
returns-in-Err-clause-done c =
    transacts_none c.args.objects.now c.args.command.now c.args.object c.args.mine.now c.add-in-Err.new.self
    (world_of c.args.world.now) (world_of c.transact.new.world) c.reply_of-in-Err.result c.requires.kind
    c.in-Err.ensures.err c.reply_of-in-Err.ensures
    (c.add-in-Err.ensures
    ∙ ap (λ (r : RepliesView). with_reply r c.reply_of-in-Err.result) c.take_read-taken.ensures.reads)
