use Rattle.std.proofs.Common.{List, ℕ, ◌<◌, map, Vec, Global, ap, subst, sym, ◌∙◌}
use Rattle.std.specs.List.{All, list_any}
use Rattle.script_text.specs.declared.script.Command.{Command}
use Rattle.script_text.specs.Items.{is_stop}
use Rattle.script_text.specs.Grammar.{IsScript}
use Rattle.script_beside.specs.Begins.{begins_in}
use Rattle.script_beside.proofs.PartLemmas.{are_callers, can_be_later, is_read}
use Rattle.script_beside.proofs.part.read.Goals as goal

pub own_lists-requires-clause-callers : goal.own_lists-requires-clause-callers
own_lists-requires-clause-callers c =
    subst (λ (n : ℕ). All (λ (d : Command). d.client < n) c.in_ok-script.script.commands) (sym c.len.ensures)
    (are_callers c.as_slice.result.now c.in_ok-script.script c.in_ok-script.ensures.accepted)

pub own_lists-requires-clause-lines : goal.own_lists-requires-clause-lines
own_lists-requires-clause-lines c =
    can_be_later c.as_slice.result.now c.in_ok-script.script c.args.cut.now.before c.in_ok-script.ensures.accepted c.args.cut.now.few

pub returns : goal.returns
returns c =
    is_read c.args.header.now c.args.cut.now c.in_ok-script.script c.has_stop-stops.result c.len.result _
    (subst (λ (l : List ℕ). IsScript l c.in_ok-script.script) (c.as_slice.ensures.value ∙ c.in_ok-all.ensures) c.in_ok-script.ensures.accepted)
    c.len.ensures c.in_ok-lists.ensures
    (c.has_stop-stops.ensures ∙ ap (λ (l : List Command). list_any (λ (d : Command). is_stop d.what) l) c.as_slice-2.ensures)
    (c.in_ok-begins.ensures ∙ ap (map (λ (l : Vec Command Global). begins_in l.items)) c.as_slice-3.ensures.value)
