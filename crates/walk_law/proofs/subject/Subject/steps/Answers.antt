use Rattle.std.proofs.Common.{◌≡◌, ◌∙◌, ℕ, true, false, append-nil, ap, arith, get_or, sym}
use Rattle.std.specs.Prelude.{not}
use Rattle.std.specs.List.{filter}
use Rattle.run_rules.specs.Telling.{is_among, step_places}
use Rattle.walk_law.specs.Walking.{journal_walked, places_printed}
use Rattle.walk_law.proofs.BehindLemmas.{left_more, steps_are}
use Rattle.walk_law.proofs.PastLemmas.{take_all_of}
use Rattle.walk_law.proofs.SubjectLemmas.{clients_many, seen}
use Rattle.walk_law.proofs.subject.Subject.steps.Goals as goal
use Rattle.walk_law.proofs.subject.Subject.steps.Goals.{then-not-has+in_ok-push, else-not-has}

-- what is printed is what the replies print
printed_is : (c : goal.Joined-not-has) → c.has.result ≡ is_among (get_or c.all_steps-place-items.result.now c.loop-place.place-index 0)
    (places_printed c.args.self.now c.args.client c.own-own.result c.args.colour)
printed_is c =
    let inv = seen c.args.self.now c.self.inside.script.now c.self.inside.report.now c.self.inside.tracks.now c.self.inside.commands
    c.self.inside.places.items c.self.inside.printed c.self.inside.rows c.self.view_is c.self.invariant in
    let many = clients_many c.args.self.now.script c.args.self.now.report c.self.inside.tracks.now inv.may in
    let walker = c.requires in
    c.has.ensures
    ∙ inv.printed_are c.args.client (omega (arith, many, walker)) c.own-own.result c.args.colour
    (get_or c.all_steps-place-items.result.now c.loop-place.place-index 0)

pub loop-place-preserved : goal.loop-place-preserved
loop-place-preserved c = elim c.if-not-has.branch [
  | then-not-has+in_ok-push w ↦ left_more (λ p. not (is_among p (places_printed c.args.self.now c.args.client c.own-own.result c.args.colour)))
      c.all_steps-place-items.result.now c.loop-place.place-index c.loop-place.places c.if-not-has.places true c.loop-place-test.true
      (ap not (sym (printed_is c) ∙ w.if-not-has.true)) c.loop-place.invariant (w.places-is ∙ w.in_ok-push.ensures.ok)
  | else-not-has w ↦ left_more (λ p. not (is_among p (places_printed c.args.self.now c.args.client c.own-own.result c.args.colour)))
      c.all_steps-place-items.result.now c.loop-place.place-index c.loop-place.places c.if-not-has.places false c.loop-place-test.true
      (ap not (sym (printed_is c) ∙ w.if-not-has.false)) c.loop-place.invariant (w.places-is ∙ sym (append-nil c.loop-place.places))
]

pub returns : goal.returns
returns c =
    let walked = c.args.self.now in
    let client = c.args.client in
    let own = c.own-own.result in
    let colour = c.args.colour in
    let left = λ (p : ℕ). not (is_among p (places_printed walked client own colour)) in
    c.loop-place.invariant
    ∙ (ap (filter left) (take_all_of c.all_steps-place-items.result.now c.loop-place.place-index c.loop-place-test.false
    ∙ c.all_steps-place-items.ensures)
    ∙ (steps_are client c.args.count (places_printed walked client own colour) (journal_walked walked own colour)
    ∙ ap (λ (o : ℕ). step_places client (record { client = client; count = c.args.count }) (places_printed walked client o colour)
    (journal_walked walked o colour)) c.own-own.ensures.own))
