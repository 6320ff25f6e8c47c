use Rattle.std.proofs.Common.{◌∙◌, ◌<◌, List, ℕ, ap, length, refl, sym, subst}
use Rattle.std.specs.Prelude.{nat_lt}
use Rattle.std.specs.List.{All}
use Rattle.std.specs.Option.{option_copied}
use Rattle.log_node.specs.declared.limits.TheConstants.{MAX_COLOURS}
use Rattle.script_text.specs.declared.script.Script.{Script}
use Rattle.lawful_run.specs.Callers.{Caller, caller_of}
use Rattle.walk_law.specs.Asking.{HaveLowColours}
use Rattle.object_law.proofs.AppendedNodes.{asked_low, says_draft}
use Rattle.walk_law.proofs.CallerLemmas.{low_objects}
use Rattle.object_law.proofs.drafts.draft_appended.Goals as goal

pub kind_asked-kind-requires : goal.kind_asked-kind-requires
kind_asked-kind-requires c =
    subst HaveLowColours (sym (c.as_slice.ensures ∙ ap (λ (s : Script). s.objects) c.script.ensures))
    (low_objects c.args.subject.now.script c.agrees.ensures.may.1.fitting)

pub node_saying-requires-clause-low : goal.node_saying-requires-clause-low
node_saying-requires-clause-low c =
    subst (λ (l : List ℕ). All (λ colour. colour < MAX_COLOURS) l)
    (sym (c.as_slice-2.ensures ∙ c.in_ok-asked.ensures c.requires.counts.0 c.requires.counts.1))
    (asked_low c.args.subject.now.script c.agrees.ensures.may.1.fitting c.args.client c.requires.counts.0 c.args.what.now c.requires.within)

pub returns : goal.returns
returns c = λ kept commands found counted of_found are.
    let caller : Caller = caller_of c.args.subject.now.script c.args.client in
    let asked = c.in_ok-asked.ensures kept counted in
    says_draft commands found c.args.decision caller kept c.args.what.now c.args.answer.now c.args.used
    (nat_lt 1 c.len.result) c.as_slice-2.result.now (option_copied c.kind_asked-kind.result) (option_copied c.nothing_found.result)
    c.in_ok-text.text c.in_ok-node.node c.drafted.result
    (ap (λ (n : ℕ). nat_lt 1 n) (c.len.ensures ∙ ap (λ (l : List ℕ). length l) asked))
    (sym c.tells_node.ensures ∙ c.if-not-tells_node.false) (c.as_slice-2.ensures ∙ asked)
    (c.kind_asked-kind.ensures.kind caller (sym (c.as_slice.ensures ∙ ap (λ s. s.objects) c.script.ensures))) of_found are
    c.nothing_found.ensures c.in_ok-text.ensures
    (c.in_ok-node.ensures _ caller kept refl (sym c.own-own.ensures.own) counted) c.drafted.ensures
