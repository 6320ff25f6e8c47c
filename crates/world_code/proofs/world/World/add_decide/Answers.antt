use Rattle.std.proofs.Common.{◌≡◌, true, ap, sym, subst, ◌∙◌}
use Rattle.log_node.specs.declared.marks.Outcome.TheVariants.{Open}
use Rattle.skeen_core.specs.Boards.{Board}
use Rattle.world_laws.specs.declared.steps.Step.TheVariants as steps
use Rattle.world_laws.specs.Laws.{IsBounded}
use Rattle.world_laws.specs.Worlds.{is_begun, row_of, after, reply}
use Rattle.world_laws.proofs.CallerLemmas.{of_reached}
use Rattle.world_code.specs.Replies.{decided_reply}
use Rattle.world_code.specs.WorldView.{WorldView, world_of, IsWhole}
use Rattle.world_code.proofs.ChangedRows.{Begun, begun_is}
use Rattle.world_code.proofs.DecideSteps.{row_is, decided_world, decided_whole, reply_is}
use Rattle.world_code.proofs.Views.{view_of}
use Rattle.world_code.proofs.world.World.add_decide.Goals.{After-self}
use Rattle.world_code.proofs.world.World.add_decide.Goals as goal

begun : (c : After-self) → Begun (view_of c.self.inside) c.args.row
begun c = begun_is (view_of c.self.inside) c.self.invariant c.args.row
    (subst (λ (k : WorldView). is_begun (world_of k) c.args.row ≡ true) (sym c.self.view_is) c.requires.begun)

opens : (c : After-self) → (row_of (world_of (view_of c.self.inside)) c.args.row).last ≡ Open
opens c = subst (λ (k : WorldView). (row_of (world_of k) c.args.row).last ≡ Open) (sym c.self.view_is) c.requires.last

pub decide-outcome-requires : goal.decide-outcome-requires
decide-outcome-requires c =
    row_is (view_of c.self.inside) c.self.invariant c.args.row (begun (goal.at.decide-outcome-requires c).After-self)
    (of_reached IsBounded c.is_lawful.ensures.bounds (world_of (view_of c.self.inside)) c.self.invariant.reached)

pub invariant_of-self : goal.invariant_of-self
invariant_of-self c =
    let at = (goal.at.invariant_of-self c).After-self in
    subst (λ (b : Board). IsWhole (record (view_of c.self.inside) { board = b })) (sym c.decide-outcome.ensures.rows)
    (decided_whole (view_of c.self.inside) c.self.invariant c.args.row (begun at) (opens at))

pub returns-clause-world : goal.returns-clause-world
returns-clause-world c =
    let at = (goal.at.returns-clause-world c).After-self in
    ap (λ (b : Board). world_of (record (view_of c.self.inside) { board = b })) c.decide-outcome.ensures.rows
    ∙ (decided_world (view_of c.self.inside) c.self.invariant c.args.row (begun at) (opens at)
    ∙ ap (λ (k : WorldView). after (world_of k) (steps.Decide c.args.row)) c.self.view_is)

pub returns-clause-reply : goal.returns-clause-reply
returns-clause-reply c =
    let at = (goal.at.returns-clause-reply c).After-self in
    ap decided_reply c.decided_outcome.ensures
    ∙ (reply_is (view_of c.self.inside) c.self.invariant c.args.row (begun at) (opens at) c.decide-outcome.result
    c.decide-outcome.ensures.outcome
    ∙ ap (λ (k : WorldView). reply (world_of k) (steps.Decide c.args.row)) c.self.view_is)
