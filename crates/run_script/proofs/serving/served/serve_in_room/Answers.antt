use Rattle.std.proofs.Common.{◌≡◌, ◌∙◌, refl, ap, sym, subst, arith, ℕ, List, [], ◌∷◌, ◌++◌, length, Some, slice_get}
use Rattle.std.specs.List.{All}
use Rattle.std.proofs.lemmas.List.{length_push, map-id}
use Rattle.std.proofs.lemmas.Option.{get_or_from_slice_get, slice_get_within}
use Rattle.std.proofs.lemmas.Iterator.Consumers.{YieldsList-turn, YieldsList-end, YieldsList-so_far}
use Rattle.script_text.specs.declared.script.Command.{Command}
use Rattle.script_beside.specs.Dealt.{share_commands}
use Rattle.report_text.specs.declared.report.ReplyLine.{ReplyLine}
use Rattle.run_script.specs.Served.{IsServable}
use Rattle.run_script.specs.Serving.{Serves}
use Rattle.run_script.proofs.Pieces.{all_pieces}
use Rattle.run_script.proofs.ServedClients.{forgets_same, forgotten, serves_next, was_served}
use Rattle.run_script.proofs.Yielding.{there, finished_before, room_left}
use Rattle.run_script.proofs.serving.served.serve_in_room.Goals as goal

pub loop-command-init : goal.loop-command-init
loop-command-init g c = record {
  of = c.requires.can.of;
  kept = λ done. c.requires.can.kept;
  serves = subst (λ (rs : List ReplyLine). Serves c.args.store.now c.args.objects.now c.args.served.now.client
      c.args.served.now.objects.items [] rs)
      (sym c.requires.can.replies) c.requires.can.serves;
  same = (refl, refl);
  count = ap length c.requires.can.replies;
  room = refl;
}

pub serve-reply-requires-clause-client : goal.serve-reply-requires-clause-client
serve-reply-requires-clause-client g c κs within = c.loop-command.invariant.serves.rests

pub serve-reply-requires-clause-kept : goal.serve-reply-requires-clause-kept
serve-reply-requires-clause-kept g c κs within =
    let was = c.loop-command.invariant in
    let yielded = c.loop-command.yielded in
    let flat = c.flatten-command-items.ensures in
    let all = all_pieces _ _ _ c.next.ensures.steps (λ x j b. (b.0, b.1 ∙ x.ok.0)) c.into_iter-command-iterator.ensures.into_iter_gives
    flat.source flat.front flat.back flat.done c.replace-commands.ensures.value c.into_iter.ensures.rest c.into_iter.ensures.len in
    let commands = share_commands c.args.served.now.commands.items in
    let t = YieldsList-turn all yielded _
    c.loop-command.yielded_by _ c.next.new.self c.in-Some.command c.in-Some.is c.next.ensures.steps in
    let so_far = sym (map-id yielded) ∙ YieldsList-so_far all yielded _ c.loop-command.yielded_by in
    was.kept (finished_before c.args.store.now c.args.objects.now c.loop-command.served.client commands
    (length yielded) c.in-Some.command c.loop-command.served.objects.items yielded c.loop-command.served.replies.items
    c.requires.can.stops
    (there commands (length yielded) c.in-Some.command
    t) so_far was.serves)

-- one of the commands that can be served
servable : (P : Command → Type 0) (commands : List Command) (n : ℕ) (command : Command) → All P commands
    → slice_get commands n ≡ Some command → P command
servable P commands n command all at =
    subst P (get_or_from_slice_get commands n command command at) (all n command (slice_get_within commands n command at))

pub serve-reply-requires-clause-command : goal.serve-reply-requires-clause-command
serve-reply-requires-clause-command g c κs within =
    let yielded = c.loop-command.yielded in
    let flat = c.flatten-command-items.ensures in
    let all = all_pieces _ _ _ c.next.ensures.steps (λ x j b. (b.0, b.1 ∙ x.ok.0)) c.into_iter-command-iterator.ensures.into_iter_gives
    flat.source flat.front flat.back flat.done c.replace-commands.ensures.value c.into_iter.ensures.rest c.into_iter.ensures.len in
    let commands = share_commands c.args.served.now.commands.items in
    let t = YieldsList-turn all yielded _
    c.loop-command.yielded_by _ c.next.new.self c.in-Some.command c.in-Some.is c.next.ensures.steps in
    servable (IsServable c.args.store.now c.args.objects.now) commands (length yielded) c.in-Some.command
    c.requires.can.servable (there commands (length yielded) c.in-Some.command t)

pub push_reserved-requires : goal.push_reserved-requires
push_reserved-requires g c =
    let yielded = c.loop-command.yielded in
    let flat = c.flatten-command-items.ensures in
    let all = all_pieces _ _ _ c.next.ensures.steps (λ x j b. (b.0, b.1 ∙ x.ok.0)) c.into_iter-command-iterator.ensures.into_iter_gives
    flat.source flat.front flat.back flat.done c.replace-commands.ensures.value c.into_iter.ensures.rest c.into_iter.ensures.len in
    let t = YieldsList-turn all yielded _
    c.loop-command.yielded_by _ c.next.new.self c.in-Some.command c.in-Some.is c.next.ensures.steps in
    room_left _ _ (length yielded) (length (share_commands c.args.served.now.commands.items)) _ _ c.loop-command.served.replies.ok.0
    c.loop-command.invariant.count t.0 c.requires.room c.loop-command.invariant.room

pub loop-command-preserved : goal.loop-command-preserved
loop-command-preserved g c =
    let was = c.loop-command.invariant in
    let store = c.args.store.now in
    let objects = c.args.objects.now in
    let client = c.loop-command.served.client in
    let yielded = c.loop-command.yielded in
    let replies = c.loop-command.served.replies.items in
    let flat = c.flatten-command-items.ensures in
    let all = all_pieces _ _ _ c.next.ensures.steps (λ x j b. (b.0, b.1 ∙ x.ok.0)) c.into_iter-command-iterator.ensures.into_iter_gives
    flat.source flat.front flat.back flat.done c.replace-commands.ensures.value c.into_iter.ensures.rest c.into_iter.ensures.len in
    let commands = share_commands c.args.served.now.commands.items in
    let t = YieldsList-turn all yielded _
    c.loop-command.yielded_by _ c.next.new.self c.in-Some.command c.in-Some.is c.next.ensures.steps in
    let so_far = sym (map-id yielded) ∙ YieldsList-so_far all yielded _ c.loop-command.yielded_by in
    let stops = c.requires.can.stops in
    let finished = finished_before store objects client commands (length yielded) c.in-Some.command
    c.loop-command.served.objects.items yielded replies stops (there commands (length yielded) c.in-Some.command
    t) so_far was.serves in
    let e = c.serve-reply.ensures.answered in
    let items_are = ap length c.push_reserved.ensures.items in
    let long = length_push yielded c.in-Some.command in
    let longer = length_push replies c.serve-reply.result in
    record {
      of = c.serve-reply.ensures.of;
      kept = c.serve-reply.ensures.kept;
      serves = subst (Serves store objects c.serve-reply.new.client c.serve-reply.new.slots.items (yielded ++ c.in-Some.command ∷ []))
          (sym c.push_reserved.ensures.items)
          (serves_next store objects client c.serve-reply.new.client c.loop-command.served.objects.items
          c.serve-reply.new.slots.items yielded replies c.in-Some.command c.serve-reply.result was.serves finished e);
      same = (e.2.same.0 ∙ was.same.0, e.2.same.1 ∙ was.same.1);
      count = omega (arith, items_are, long, longer, was.count);
      room = c.push_reserved.ensures.capacity ∙ was.room;
    }

pub returns : goal.returns
returns g c =
    let flat = c.flatten-command-items.ensures in
    let all = all_pieces _ _ _ c.next.ensures.steps (λ x j b. (b.0, b.1 ∙ x.ok.0)) c.into_iter-command-iterator.ensures.into_iter_gives
    flat.source flat.front flat.back flat.done c.replace-commands.ensures.value c.into_iter.ensures.rest c.into_iter.ensures.len in
    let commands = share_commands c.args.served.now.commands.items in
    let t = YieldsList-end all c.loop-command.yielded _ c.loop-command.yielded_by _ c.next.new.self c.in-None.is c.next.ensures.steps in
    let whole = sym (map-id c.loop-command.yielded) ∙ t.0 in
    let store = c.args.store.now in
    let objects = c.args.objects.now in
    let client = c.loop-command.served.client in
    let xs = c.loop-command.served.objects.items in
    let replies = c.loop-command.served.replies.items in
    record {
      same = forgets_same c.args.served.now.client client c.forget_played.new.self c.loop-command.invariant.same
          c.forget_played.ensures;
      served = forgotten store objects client c.forget_played.new.self commands replies
          (was_served store objects client xs commands replies
          (subst (λ (l : List Command). Serves store objects client xs l replies) whole c.loop-command.invariant.serves))
          c.forget_played.ensures;
    }

pub forget_played-requires : goal.forget_played-requires
forget_played-requires g c =
    let first = c.requires.can.serves.rests.colours in
    let last = c.loop-command.invariant.serves.rests.colours in
    let few = c.requires.can.few in
    omega (arith, first, last, few)
