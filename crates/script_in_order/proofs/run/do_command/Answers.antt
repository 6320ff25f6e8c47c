use Rattle.std.proofs.Common.{◌∙◌, ◌<◌, sym, subst, ap, set, length}
use Rattle.world_code.specs.WorldView.{world_of}
use Rattle.script_in_order.specs.Runs.{RepliesView, IsDone, with_reply, no_replies, found_at}
use Rattle.script_in_order.specs.Transacting.{AreFit, Transacts}
use Rattle.script_in_order.proofs.RunReplies.{command_done, transaction_done, any_default}
use Rattle.script_in_order.proofs.TransactionSteps.{object_there}
use Rattle.script_in_order.proofs.run.do_command.Goals as goal

pub add-requires : goal.add-requires
add-requires c =
    subst (λ (r : RepliesView). 0 < r.room)
    (sym (c.index_mut.ensures.value ∙ any_default c.args.replies.now.items c.args.command.now.client
    c.index_mut.result.now
    (no_replies 0 0) c.requires.client)) c.requires.room

pub returns-in-None-clause-done : goal.returns-in-None-clause-done
returns-in-None-clause-done c =
    let is = c.index_mut.ensures.value ∙ any_default c.args.replies.now.items c.args.command.now.client
    c.index_mut.result.now
    (no_replies 0 0) c.requires.client in
    subst (λ (r : RepliesView). IsDone c.args.objects.now c.args.command.now
    (record { world = c.args.world.now; replies = c.args.replies.now.items })
    (record { world = c.answer_at_home-given.new.world; replies = set c.args.replies.now.items c.args.command.now.client r }))
    (sym (c.add.ensures ∙ ap (λ (r : RepliesView). with_reply r c.reply_of.result) is))
    (command_done c.args.objects.now c.args.command.now (record { world = c.args.world.now; replies = c.args.replies.now.items })
    c.answer_at_home-given.new.world c.answer_at_home-given.result c.reply_of.result
    (sym c.transaction_of.ensures ∙ c.in-None.is) c.requires.client c.answer_at_home-given.ensures.ok
    c.answer_at_home-given.ensures.err c.reply_of.ensures)

pub do_transaction-requires : goal.do_transaction-requires
do_transaction-requires c =
    let is = c.index_mut-mine.ensures.value ∙ any_default c.args.replies.now.items c.args.command.now.client
    c.index_mut-mine.result.now
    (no_replies 0 0) c.requires.client in record {
      kind = sym c.transaction_of.ensures ∙ c.in-Some.is;
      fits = c.requires.fits;
      reads = ap (λ (r : RepliesView). length r.reads) is ∙ c.requires.reads;
      rests = subst (λ (r : RepliesView). AreFit (found_at r.reads)) (sym is) c.requires.rests;
      room = subst (λ (r : RepliesView). 0 < r.room) (sym is) c.requires.room;
      folded = c.requires.folded;
    }

pub returns-in-Some-clause-done : goal.returns-in-Some-clause-done
returns-in-Some-clause-done c =
    let is = c.index_mut-mine.ensures.value ∙ any_default c.args.replies.now.items c.args.command.now.client
    c.index_mut-mine.result.now
    (no_replies 0 0) c.requires.client in
    transaction_done c.args.objects.now c.args.command.now c.in-Some.object
    (record { world = c.args.world.now; replies = c.args.replies.now.items }) c.do_transaction.new.world
    c.do_transaction.new.mine c.requires.client
    (subst (λ n. c.in-Some.object < n) (sym c.requires.reads)
    (object_there c.args.objects.now c.args.command.now.what c.in-Some.object
    (sym c.transaction_of.ensures ∙ c.in-Some.is) c.requires.fits.uses))
    (subst (λ (r : RepliesView). Transacts c.args.objects.now c.args.command.now c.in-Some.object
    (world_of c.args.world.now) (world_of c.do_transaction.new.world) r c.do_transaction.new.mine) is
    c.do_transaction.ensures.done)
