use Rattle.std.proofs.Common.{◌≡◌, ◌∙◌, Bool, List, ℕ, Option, Some, None, ap, subst, sym, true}
use Rattle.std.specs.Option.{option_copied}
use denote.Ref.{Bor}
use Rattle.script_text.specs.declared.script.Kind.{Kind}
use Rattle.lawful_run.specs.Callers.{Caller, caller_of}
use Rattle.column_track.specs.Tracks.{Tells}
use Rattle.run_rules.specs.Said.{shown_text}
use Rattle.run_rules.specs.Told.{is_several}
use Rattle.walk_law.specs.TextsSaid.{CanSay, ShowsSayable, tells_node}
use Rattle.walk_law.specs.Walking.{log_walked}
use Rattle.walk_law.proofs.Members.{ok_as}
use Rattle.walk_law.proofs.SayingLemmas.{shown_sayable, unshown_sayable}
use Rattle.walk_law.proofs.could_say.shows_sayable.Goals as goal

pub returns-in_default : goal.returns-in_default
returns-in_default c = λ kept counted.
    let walked = c.args.subject.now in
    let none : shown_text c.args.texts.now (record { client = c.args.client; count = kept.ids }) ≡ None =
    ap (λ (n : ℕ). shown_text c.args.texts.now (record { client = c.args.client; count = n })) (sym (c.ids-count.ensures ∙ counted.ids))
    ∙ (sym c.text.ensures ∙ ap (λ (o : Option (Bor (List ℕ))). option_copied o) c.in_default.is) in
    unshown_sayable c.args.texts.now (log_walked walked) (caller_of walked.script c.args.client) kept c.args.what.now
    c.args.answer.now none

pub returns : goal.returns
returns c = λ kept counted.
    let walked = c.args.subject.now in
    let caller : Caller = caller_of walked.script c.args.client in
    let what = c.args.what.now in
    let answer = c.args.answer.now in
    let text = c.in-Some.text.now in
    let found = option_copied c.found_of-found.result in
    let is : shown_text c.args.texts.now (record { client = c.args.client; count = kept.ids }) ≡ Some text =
    ap (λ (n : ℕ). shown_text c.args.texts.now (record { client = c.args.client; count = n })) (sym (c.ids-count.ensures ∙ counted.ids))
    ∙ (sym c.text.ensures ∙ ap (λ (o : Option (Bor (List ℕ))). option_copied o) c.in-Some.is) in
    let one : tells_node (is_several caller kept what) answer ≡ true =
    ap (λ (b : Bool). tells_node b answer) (sym (c.in_ok-several.ensures kept counted))
    ∙ (sym c.tells_node.ensures ∙ c.if-not-tells_node.false) in
    ok_as c.can_say.result (CanSay (option_copied c.kind_asked-kind.result) found what text)
    (ShowsSayable c.args.texts.now (log_walked walked) caller kept what answer)
    (λ b told. shown_sayable c.args.texts.now (log_walked walked) caller kept what answer text found b one is
    (c.found_of-found.ensures kept counted)
    (subst (λ (k : Option Kind). Tells b (CanSay k found what text))
    (c.kind_asked-kind.ensures.kind caller (sym (c.as_slice.ensures ∙ ap (λ s. s.objects) c.script.ensures))) told)) c.can_say.ensures
