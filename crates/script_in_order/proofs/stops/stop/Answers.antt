use Rattle.std.proofs.Common.{◌≡◌, ◌∙◌, ◌-◌, [], List, ap, sym, subst, ℕ, suc, refl, arith}
use Rattle.log_node.specs.declared.node.Shape.{Shape}
use Rattle.world_laws.specs.Laws.{IsBounded}
use Rattle.world_laws.specs.Worlds.{World}
use Rattle.world_laws.proofs.CallerLemmas.{of_reached}
use Rattle.world_code.specs.Replies.{begun_reply}
use Rattle.world_code.specs.WorldView.{world_of}
use Rattle.report_text.specs.declared.report.Answer.TheVariants as answers
use Rattle.script_text.specs.Fitting.{IsWithin}
use Rattle.script_meaning.specs.Appends.{stopped}
use Rattle.script_in_order.specs.Doing.{DoneBy}
use Rattle.script_in_order.proofs.FirstSteps.{begins, fills, nothing_begun}
use Rattle.script_in_order.proofs.AppendsAndStops.{stops_at_once, stops_full, stops_within}
use Rattle.script_in_order.proofs.CommandKinds.{does_what}
use Rattle.script_in_order.proofs.stops.stop.Goals as goal

pub returns-then-steps-eq0-clause-ok : goal.returns-then-steps-eq0-clause-ok
returns-then-steps-eq0-clause-ok c =
    does_what c.args.objects.now c.args.command.now c.requires.asks (stops_at_once c.args.command.now c.args.colours c.args.text.now c.args.steps
    (world_of c.args.world.now) c.if-steps-eq0.true)

pub complete_first-requires : goal.complete_first-requires
complete_first-requires c =
    (begins (world_of c.args.world.now) c.args.command.now.client c.args.colours c.in_ok-text.text c.in-Some.begun.row
    c.in-Some.begun.id
    (world_of c.begin.new.self) (ap begun_reply (sym c.in-Some.is) ∙ c.in_ok-new.ensures.reply) c.in_ok-new.ensures.ok).begun

pub returns-in-Some-clause-ok : goal.returns-in-Some-clause-ok
returns-in-Some-clause-ok c =
    let w = world_of c.args.world.now in
    let steps : c.args.steps ≡ suc (c.args.steps - 1) = omega (arith, c.if-steps-eq0.false) in
    let b = begins w c.args.command.now.client c.args.colours c.in_ok-text.text c.in-Some.begun.row c.in-Some.begun.id
    (world_of c.begin.new.self) (ap begun_reply (sym c.in-Some.is) ∙ c.in_ok-new.ensures.reply) c.in_ok-new.ensures.ok in
    does_what c.args.objects.now c.args.command.now c.requires.asks (subst (λ (t : List ℕ). DoneBy (λ grants state. stopped grants state c.args.command.now c.args.colours t c.args.steps)
    c.args.command.now w (world_of c.complete_first.new.self) (answers.Stopped c.args.steps) [])
    (c.in_ok-text.ensures ∙ c.as_bytes.ensures)
    (stops_within c.args.command.now c.args.colours c.in_ok-text.text c.args.steps (c.args.steps - 1) (c.args.steps - 1)
    c.complete_first.result c.in-Some.begun.row c.in-Some.begun.id w (world_of c.begin.new.self)
    (world_of c.complete_first.new.self) steps refl b c.complete_first.ensures))

pub returns-in-None-clause-ok : goal.returns-in-None-clause-ok
returns-in-None-clause-ok c =
    let w = world_of c.args.world.now in
    let client = c.args.command.now.client in
    let whole = c.is_whole.ensures in
    let within = subst (IsWithin c.args.world.now.shape.regions c.args.world.now.shape.colours) c.requires.asks
    c.requires.fits.within in
    let steps : c.args.steps ≡ suc (c.args.steps - 1) = omega (arith, c.if-steps-eq0.false) in
    let answer = ap begun_reply (sym c.in-None.is) ∙ c.in_ok-new.ensures.reply in
    let same = nothing_begun w (world_of c.begin.new.self) client c.args.colours c.in_ok-text.text answer
    c.in_ok-new.ensures.ok in
    let full = fills w client c.args.colours c.in_ok-text.text c.requires.fits.caller
    (whole.homes client 0 c.requires.fits.caller)
    within.0.many within.1
    (of_reached IsBounded c.is_lawful.ensures.bounds w whole.reached) answer in
    does_what c.args.objects.now c.args.command.now c.requires.asks (subst (λ (x : World). DoneBy
    (λ grants state. stopped grants state c.args.command.now c.args.colours c.args.text.now c.args.steps)
    c.args.command.now w x
    (answers.Full c.shape.result.now.rows) []) (sym same)
    (stops_full c.args.command.now c.args.colours c.args.text.now c.args.steps (c.args.steps - 1)
    c.shape.result.now.rows w
    steps full (ap (λ (s : Shape). s.rows) c.shape.ensures ∙ ap (λ (x : World). x.shape.rows) same)))
