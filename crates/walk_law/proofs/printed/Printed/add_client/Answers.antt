use Rattle.std.proofs.Common.{◌≡◌, ◌⊎◌, ◌≤◌, ◌∙◌, ◌+◌, ◌&&◌, ◌||◌, ◌==◌, ℕ, List, ap, arith, drop, get_or, inl, inr, length, subst, sym}
use Rattle.std.specs.Prelude.{slice_index_or}
use Rattle.std.proofs.lemmas.Bool.{cases_lt}
use Rattle.std.proofs.lemmas.Option.{get_or_from_slice_get, slice_get_within}
use Rattle.script_text.specs.declared.script.Command.{Command}
use Rattle.lawful_run.specs.Callers.{caller_of, commands_of}
use Rattle.run_rules.specs.Printed.{printed, printed_all}
use Rattle.run_rules.specs.Telling.{is_among}
use Rattle.walk_law.specs.PlaceTables.{is_asked_by, is_printed}
use Rattle.walk_law.proofs.PrintLemmas.{all_done, all_left, command_of, none_more, rest_parts, where_length}
use Rattle.walk_law.proofs.printed.Printed.add_client.Goals as goal

pub offset_bounds-commands-numbers : goal.offset_bounds-commands-numbers
offset_bounds-commands-numbers c =
    let least = c.min-both.ensures in
    let less = c.loop-at-test.true in
    let here = command_of c.args.script.now.commands c.args.client c.args.numbers.now c.requires.numbers c.loop-at.at (omega (arith, least, less)) 0 in
    let within = slice_get_within c.args.script.now.commands (slice_index_or c.args.numbers.now c.loop-at.at 0) here.0 here.1 in
    let long = ap length c.as_slice-commands.ensures in
    let fits = c.as_slice-commands.type_inv.1 in
    omega (arith, within, long, fits)

pub bounds-commands-numbers : goal.bounds-commands-numbers
bounds-commands-numbers c =
    let least = c.min-both.ensures in
    let less = c.loop-at-test.true in
    let here = command_of c.args.script.now.commands c.args.client c.args.numbers.now c.requires.numbers c.loop-at.at (omega (arith, least, less)) 0 in
    let within = slice_get_within c.args.script.now.commands (slice_index_or c.args.numbers.now c.loop-at.at 0) here.0 here.1 in
    let long = ap length c.as_slice-commands.ensures in
    omega (arith, within, long)

pub loop-at-preserved : goal.loop-at-preserved
loop-at-preserved c = λ n r k p.
    let script = c.args.script.now in
    let client = c.args.client in
    let at = c.loop-at.at in
    let cmds = commands_of script client in
    let replies = c.args.replies.now in
    let own = (caller_of script client).own in
    let m = client == n in
    let least = c.min-both.ensures in
    let less = c.loop-at-test.true in
    let here = command_of script.commands client c.args.numbers.now c.requires.numbers at (omega (arith, least, less)) 0 in
    let number = slice_index_or c.args.numbers.now at 0 in
    let x = c.index-commands-numbers.result in
    let y = c.index-replies-at.result in
    let is_x = c.index-commands-numbers.is
    ∙ (ap (λ (l : List Command). get_or l number x) c.as_slice-commands.ensures ∙ get_or_from_slice_get script.commands number here.0 x here.1) in
    let is_c = is_x ∙ sym (get_or_from_slice_get cmds at here.0 x here.2) in
    rest_parts m p (printed own y.answer x.what r k) (printed_all own (drop (at + 1) cmds) (drop (at + 1) replies) r k)
    (is_printed c.loop-at.self n r k p) (is_printed c.add_answer.new.self n r k p)
    (subst (λ (h : List ℕ). is_printed c.add_answer.new.self n r k p
    ≡ ((m && is_among p (printed (get_or h client 0) y.answer x.what r k)) || is_printed c.loop-at.self n r k p)) c.as_slice.ensures
    (c.in_ok-add_answer.ensures n r k p))
    ∙ (ap (λ (l : List ℕ). (m && is_among p l) || is_printed c.loop-at.self n r k p)
    (sym (all_left own cmds replies at x y (slice_get_within cmds at here.0 here.2) (omega (arith, least, less)) is_c c.index-replies-at.is r k))
    ∙ c.loop-at.invariant n r k p)

pub returns : goal.returns
returns c = λ n r k p.
    let script = c.args.script.now in
    let client = c.args.client in
    let at = c.loop-at.at in
    let own = (caller_of script client).own in
    let least = c.min-both.ensures in
    let ge = c.loop-at-test.false in
    let many = ap length c.requires.numbers ∙ where_length (is_asked_by client) 0 script.commands in
    let done : (length (commands_of script client) ≤ at) ⊎ (length c.args.replies.now ≤ at) =
    elim (cases_lt at (length c.args.replies.now)) [
      | inl less ↦ inl (omega (arith, least, ge, less, many))
      | inr beyond ↦ inr beyond
    ] in
    sym (none_more (client == n) p (printed_all own (drop at (commands_of script client)) (drop at c.args.replies.now) r k)
    (is_printed c.loop-at.self n r k p) (all_done own (commands_of script client) c.args.replies.now at done r k))
    ∙ c.loop-at.invariant n r k p
