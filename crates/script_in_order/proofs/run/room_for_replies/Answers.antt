use Rattle.std.proofs.Common.{◌≡◌, ◌∙◌, ◌++◌, ◌∷◌, [], ap, sym, map, List, ℕ, zero-add, length, arith}
use Rattle.std.specs.List.{range_with_len}
use Rattle.std.proofs.lemmas.List.FromFn.{map-range_with_len_more}
use Rattle.script_text.specs.declared.script.Command.{Command}
use Rattle.script_in_order.specs.Runs.{RepliesView, no_replies, asks}
use Rattle.script_in_order.proofs.run.room_for_replies.Goals as goal

pub loop-client-preserved : goal.loop-client-preserved
loop-client-preserved c =
    let n = c.loop-client.client in
    let made = λ (number : ℕ). no_replies (asks number c.args.script.now.commands) (length c.args.script.now.objects) in
    let one = c.in_ok-new.ensures ∙ (ap (λ (r : ℕ). no_replies r c.len.result) (c.asks-room.ensures ∙ ap (λ (l : List Command). asks n l)
    c.as_slice.ensures) ∙ ap (no_replies (asks n c.args.script.now.commands)) c.len.ensures) in
    c.in_ok-push.ensures.items
    ∙ (ap (λ (l : List RepliesView). l ++ c.in_ok-new.field-0 ∷ []) c.loop-client.invariant
    ∙ (ap (λ (x : RepliesView). map made (range_with_len 0 n) ++ x ∷ []) one
    ∙ sym (map-range_with_len_more made 0 n n (zero-add n))))

pub returns : goal.returns
returns c =
    let all : c.loop-client.client ≡ length c.args.script.now.shape.homes =
    omega (arith, c.len-client-end.ensures, c.loop-client-test.false, c.loop-client.auto.client-end) in
    c.loop-client.invariant ∙ ap (λ (n : ℕ). map (λ client. no_replies (asks client c.args.script.now.commands) (length c.args.script.now.objects))
    (range_with_len 0 n)) all
