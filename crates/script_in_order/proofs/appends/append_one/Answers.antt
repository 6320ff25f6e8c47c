use Rattle.std.proofs.Common.{◌≡◌, ◌∙◌, ◌<◌, [], ◌∷◌, List, None, ap, sym, subst, ℕ, length}
use Rattle.log_node.specs.declared.ids.Id.{Id}
use Rattle.log_node.specs.declared.node.Shape.{Shape}
use Rattle.report_text.specs.declared.report.Answer.TheVariants as answers
use Rattle.world_laws.specs.declared.steps.Step.TheVariants.{Single}
use Rattle.world_laws.specs.Laws.{Always, LogGrows, IsFinal}
use Rattle.world_laws.specs.Worlds.{World, home_history, next_id, after, reply}
use Rattle.world_laws.specs.declared.steps.Reply.TheVariants.{Event}
use Rattle.col_core.specs.History.{entry_key}
use Rattle.script_in_order.specs.Helps.{HelpsLead}
use Rattle.world_laws.proofs.CallerLemmas.{of_reached, after_reached}
use Rattle.world_code.specs.Replies.{placed_reply}
use Rattle.world_code.specs.WorldView.{world_of}
use Rattle.world_laws.specs.Laws.{IsReached}
use Rattle.script_meaning.specs.Helping.{cleared}
use Rattle.script_meaning.specs.Appends.{appended_one}
use Rattle.script_in_order.specs.Doing.{DoneBy}
use Rattle.script_in_order.proofs.FirstSteps.{entered, not_entered}
use Rattle.script_in_order.proofs.Finals.{single_final, final_later, run_shape}
use Rattle.script_in_order.proofs.AppendsAndStops.{stands_alone, ends_alone}
use Rattle.script_in_order.proofs.appends.append_one.Goals as goal

pub clear-requires-clause-by : goal.clear-requires-clause-by
clear-requires-clause-by c =
    subst (λ (s : Shape). c.args.command.now.client < length s.homes)
    (sym (run_shape (world_of c.args.world.now) (world_of c.single.new.self)
    (Single c.args.command.now.client c.args.colour c.in_ok-text.text ∷ []) (sym c.in_ok-entered.ensures.ok)))
    c.requires.caller

pub clear-requires-clause-colour : goal.clear-requires-clause-colour
clear-requires-clause-colour c =
    subst (λ (s : Shape). c.args.colour < s.colours)
    (sym (run_shape (world_of c.args.world.now) (world_of c.single.new.self)
    (Single c.args.command.now.client c.args.colour c.in_ok-text.text ∷ []) (sym c.in_ok-entered.ensures.ok)))
    c.requires.within

pub returns-in-None-clause-ok : goal.returns-in-None-clause-ok
returns-in-None-clause-ok c =
    let w = world_of c.args.world.now in
    let client = c.args.command.now.client in
    let none = not_entered w (world_of c.single.new.self) client c.args.colour c.in_ok-text.text
    (ap placed_reply (sym c.in-None.is) ∙ c.in_ok-entered.ensures.reply) c.in_ok-entered.ensures.ok in
    subst (λ (x : World). DoneBy (λ grants state. appended_one grants state c.args.command.now c.args.text.now
    c.args.colour)
    c.args.command.now w x (answers.StampEnd c.args.colour) []) (sym none.1)
    (ends_alone c.args.command.now c.args.text.now c.args.colour w none.0)

later : (w w1 new : World) (client colour place stamp : ℕ) (id : Id) (text : List ℕ) → IsReached w → Always LogGrows
    → Event place stamp ≡ reply w (Single client colour text) → w1 ≡ after w (Single client colour text)
    → id ≡ next_id w client
    → HelpsLead (λ grants h. cleared grants client (entry_key stamp id) h colour) w1 new
    → IsFinal (home_history new client colour) id stamp
later w w1 new client colour place stamp id text reached law answer is mine helps =
    let e = entered w client colour text place stamp answer in
    let reached1 : IsReached w1 = subst IsReached (sym is) (after_reached w (Single client colour text) reached) in
    let first : IsFinal (home_history w1 client colour) id stamp =
    subst (λ (i : Id). IsFinal (home_history w1 client colour) i stamp) (sym mine)
    (subst (λ (n : ℕ). IsFinal (home_history w1 client colour) (next_id w client) n) (sym e.2)
    (single_final w w1 client colour text e.0 is)) in
    final_later w1 new helps.steps reached1 (of_reached LogGrows law w1 reached1) helps.run client colour stamp id first

pub position-requires-clause-client : goal.position-requires-clause-client
position-requires-clause-client c =
    subst (λ (s : Shape). c.args.command.now.client < length s.homes)
    (sym (c.clear.ensures.shape ∙ run_shape (world_of c.args.world.now) (world_of c.single.new.self)
    (Single c.args.command.now.client c.args.colour c.in_ok-text.text ∷ []) (sym c.in_ok-entered.ensures.ok)))
    c.requires.caller

pub position-requires-clause-colour : goal.position-requires-clause-colour
position-requires-clause-colour c =
    subst (λ (s : Shape). c.args.colour < s.colours)
    (sym (c.clear.ensures.shape ∙ run_shape (world_of c.args.world.now) (world_of c.single.new.self)
    (Single c.args.command.now.client c.args.colour c.in_ok-text.text ∷ []) (sym c.in_ok-entered.ensures.ok)))
    c.requires.within

pub position-requires-clause-stamped : goal.position-requires-clause-stamped
position-requires-clause-stamped c =
    later (world_of c.args.world.now) (world_of c.single.new.self) (world_of c.clear.new.world)
    c.args.command.now.client
    c.args.colour c.in-Some.placed.place c.in-Some.placed.stamp c.next_id-id.result c.in_ok-text.text c.agrees.ensures
    c.log_only_grows.ensures.log (ap placed_reply (sym c.in-Some.is) ∙ c.in_ok-entered.ensures.reply) c.in_ok-entered.ensures.ok
    c.next_id-id.ensures c.clear.ensures.helps

pub returns-in-Some-clause-ok : goal.returns-in-Some-clause-ok
returns-in-Some-clause-ok c =
    let w = world_of c.args.world.now in
    let client = c.args.command.now.client in
    let new = world_of c.clear.new.world in
    let e = entered w client c.args.colour c.in_ok-text.text c.in-Some.placed.place c.in-Some.placed.stamp
    (ap placed_reply (sym c.in-Some.is) ∙ c.in_ok-entered.ensures.reply) in
    subst (λ (t : List ℕ). DoneBy (λ grants state. appended_one grants state c.args.command.now t c.args.colour)
    c.args.command.now w new (answers.Stood c.in-Some.placed.stamp None c.one.result) [])
    (c.in_ok-text.ensures ∙ c.as_bytes.ensures)
    (stands_alone c.args.command.now c.in_ok-text.text c.args.colour c.in-Some.placed.place c.in-Some.placed.stamp c.position.result
    c.next_id-id.result w (world_of c.single.new.self) new e.0 e.1 e.2 c.next_id-id.ensures c.in_ok-entered.ensures.ok
    c.clear.ensures.helps c.position.ensures c.one.result c.one.ensures)
