use Rattle.std.proofs.Common.{◌≡◌, ◌∙◌, ℕ, List, ap, subst, sym}
use Rattle.std.specs.Prelude.{OnOk}
use Rattle.col_core.specs.Keeping.{Kept, kept_after_event}
use Rattle.script_text.specs.declared.commands.What.{What}
use Rattle.report_text.specs.declared.report.Answer.TheVariants as answers
use Rattle.lawful_run.specs.Callers.{caller_of}
use Rattle.lawful_run.specs.Moves.{with_places}
use Rattle.lawful_run.specs.Reads.{events_until, kept_after_place}
use Rattle.run_rules.specs.Told.{kept_pulled}
use Rattle.run_rules.specs.Telling.{low_told, made_between}
use Rattle.walk_law.specs.Keepings.{IsCounted}
use Rattle.walk_law.specs.Walking.{log_walked}
use Rattle.walk_law.proofs.keeping.Keeping.pulled.Goals as goal

pub returns-in_ok-event-in-Pull-clause-kept : goal.returns-in_ok-event-in-Pull-clause-kept
returns-in_ok-event-in-Pull-clause-kept c replies kept untold count low s =
    let log = log_walked c.args.subject.now in
    let caller = caller_of c.args.subject.now.script c.args.client in
    let region = c.in-Pull.region in
    let colour = c.in-Pull.colour in
    let place = events_until c.args.give in
    let too_low : c.made_between-too_low.result.now ≡ untold.too_low =
    c.made_between-too_low.ensures replies kept s
    ∙ (ap (made_between log caller kept region colour) c.events_until-place.ensures
    ∙ sym (low ∙ ap (λ (w : What). low_told log caller kept w (answers.Pulled count c.args.give c.args.carry)) c.in-Pull.is)) in
    let before : Kept = with_places kept region colour untold.too_low in
    let gave : Kept = kept_after_event before region colour place in
    let one = subst (λ (l : List ℕ). IsCounted replies (with_places kept region colour l) c.places.new.self) too_low
    (c.in_ok-places-in-Pull.ensures.kept replies kept s) in
    let two = subst (λ (n : ℕ). IsCounted replies (kept_after_event before region colour n) c.event.new.self) c.events_until-place.ensures
    (c.in_ok-event-in-Pull.ensures.kept replies before one) in
    subst (λ (w : What). OnOk c.place_at.result (IsCounted replies (kept_pulled untold caller kept w c.args.give c.args.carry)
    c.place_at.new.self)) (sym c.in-Pull.is)
    (subst (λ (o : ℕ). OnOk c.place_at.result (IsCounted replies (kept_after_place gave o colour c.args.carry) c.place_at.new.self))
    c.own.ensures.own (c.place_at.ensures.kept replies gave two))
