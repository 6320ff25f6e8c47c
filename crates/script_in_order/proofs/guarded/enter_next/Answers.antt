use Rattle.std.proofs.Common.{◌≡◌, ◌∙◌, ◌<◌, [], ◌∷◌, List, ap, sym, subst, ℕ, None, length}
use Rattle.log_node.specs.declared.ids.Id.{Id}
use Rattle.log_node.specs.declared.node.Shape.{Shape}
use Rattle.report_text.specs.declared.report.Answer.TheVariants as answers
use Rattle.world_laws.specs.declared.steps.Step.TheVariants.{Single}
use Rattle.world_laws.specs.declared.steps.Reply.TheVariants.{Event}
use Rattle.world_laws.specs.Laws.{IsFinal}
use Rattle.world_laws.specs.Worlds.{World, home_history, next_id, after, reply}
use Rattle.world_code.specs.Replies.{placed_reply}
use Rattle.world_code.specs.WorldView.{world_of}
use Rattle.script_meaning.specs.Guards.{appended_next}
use Rattle.script_in_order.specs.Doing.{DoneBy}
use Rattle.script_in_order.proofs.FirstSteps.{entered, not_entered}
use Rattle.script_in_order.proofs.Finals.{single_final, run_shape}
use Rattle.script_in_order.proofs.GuardSteps.{stands_next, ends_next}
use Rattle.script_in_order.proofs.guarded.enter_next.Goals as goal

pub position-requires-clause-client : goal.position-requires-clause-client
position-requires-clause-client c =
    subst (λ (s : Shape). c.args.command.now.client < length s.homes)
    (sym (run_shape (world_of c.args.world.now) (world_of c.single.new.self)
    (Single c.args.command.now.client c.args.colour c.in_ok-text.text ∷ []) (sym c.in_ok-entered.ensures.ok)))
    c.requires.caller

pub position-requires-clause-colour : goal.position-requires-clause-colour
position-requires-clause-colour c =
    subst (λ (s : Shape). c.args.colour < s.colours)
    (sym (run_shape (world_of c.args.world.now) (world_of c.single.new.self)
    (Single c.args.command.now.client c.args.colour c.in_ok-text.text ∷ []) (sym c.in_ok-entered.ensures.ok)))
    c.requires.within

-- its node is final then
final : (w w1 : World) (client colour place stamp : ℕ) (id : Id) (text : List ℕ)
    → Event place stamp ≡ reply w (Single client colour text) → w1 ≡ after w (Single client colour text)
    → id ≡ next_id w client → IsFinal (home_history w1 client colour) id stamp
final w w1 client colour place stamp id text answer is mine =
    let e = entered w client colour text place stamp answer in
    subst (λ (i : Id). IsFinal (home_history w1 client colour) i stamp) (sym mine)
    (subst (λ (n : ℕ). IsFinal (home_history w1 client colour) (next_id w client) n) (sym e.2)
    (single_final w w1 client colour text e.0 is))

pub position-requires-clause-stamped : goal.position-requires-clause-stamped
position-requires-clause-stamped c =
    final (world_of c.args.world.now) (world_of c.single.new.self) c.args.command.now.client c.args.colour
    c.in-Some.placed.place c.in-Some.placed.stamp c.next_id-id.result c.in_ok-text.text
    (ap placed_reply (sym c.in-Some.is) ∙ c.in_ok-entered.ensures.reply) c.in_ok-entered.ensures.ok c.next_id-id.ensures

pub returns-in-None-clause-ok : goal.returns-in-None-clause-ok
returns-in-None-clause-ok c =
    let w = world_of c.args.world.now in
    let client = c.args.command.now.client in
    let none = not_entered w (world_of c.single.new.self) client c.args.colour c.in_ok-text.text
    (ap placed_reply (sym c.in-None.is) ∙ c.in_ok-entered.ensures.reply) c.in_ok-entered.ensures.ok in
    subst (λ (x : World). DoneBy (λ grants state. appended_next state c.args.command.now c.args.colour c.args.text.now)
    c.args.command.now w x (answers.StampEnd c.args.colour) []) (sym none.1)
    (ends_next c.args.command.now c.args.text.now c.args.colour w c.requires.next none.0)

pub returns-in-Some-clause-ok : goal.returns-in-Some-clause-ok
returns-in-Some-clause-ok c =
    let w = world_of c.args.world.now in
    let client = c.args.command.now.client in
    let e = entered w client c.args.colour c.in_ok-text.text c.in-Some.placed.place c.in-Some.placed.stamp
    (ap placed_reply (sym c.in-Some.is) ∙ c.in_ok-entered.ensures.reply) in
    subst (λ (t : List ℕ). DoneBy (λ grants state. appended_next state c.args.command.now c.args.colour t)
    c.args.command.now w (world_of c.single.new.self) (answers.Stood c.in-Some.placed.stamp None c.one.result) [])
    (c.in_ok-text.ensures ∙ c.as_bytes.ensures)
    (stands_next c.args.command.now c.in_ok-text.text c.args.colour w c.in-Some.placed.place c.in-Some.placed.stamp
    c.position.result c.next_id-id.result (world_of c.single.new.self) c.requires.next e.0 e.1 e.2 c.next_id-id.ensures
    c.in_ok-entered.ensures.ok c.position.ensures c.one.result c.one.ensures)
