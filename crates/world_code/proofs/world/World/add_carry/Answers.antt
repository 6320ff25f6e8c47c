use Rattle.std.proofs.Common.{◌≡◌, ◌+◌, true, List, refl, ap, sym, subst, ◌∙◌}
use Rattle.column.specs.Columns.{ColumnState, AreItems}
use Rattle.world_laws.specs.declared.steps.Step.{Step}
use Rattle.world_laws.specs.declared.steps.Step.TheVariants as steps
use Rattle.world_laws.specs.Worlds.{may_carry, after, reply}
use Rattle.world_code.specs.Replies.{place_reply}
use Rattle.world_code.specs.WorldView.{WorldView, column_at, world_of}
use Rattle.world_code.proofs.MoveCalls.{Moved, CarryCall, put_columns, carry_moved, carry_other, carry_region, carry_reply}
use Rattle.world_code.proofs.RaiseSteps.{put_back, on_err}
use Rattle.world_code.proofs.Views.{view_of}
use Rattle.world_code.proofs.world.World.add_carry.Goals.{After-index_mut, In_ok-at}
use Rattle.world_code.proofs.world.World.add_carry.Goals as goal

-- what the code has read
read : (c : After-index_mut) → CarryCall (view_of c.self.inside) c.args.origin c.args.region c.args.colour c.args.count
    c.args.given.now c.index_mut.result.now
read c =
    let origin = c.args.origin in
    let colour = c.args.colour in
    let given = c.args.given.now in
    let back = sym c.self.view_is in
    record {
      whole = c.self.invariant;
      guard = subst (λ (k : WorldView).
          may_carry (world_of k) origin c.args.region colour given.start c.args.count ≡ true) back c.requires.may;
      items = subst (λ (k : WorldView).
          AreItems (column_at k.columns origin colour) origin given.start (given.start + c.args.count) given.items) back
          c.requires.given;
      columns_are = c.index_mut.ensures.value;
    }

abbrev its_step : In_ok-at → Step
its_step c =
    steps.Carry c.args.by c.args.origin c.args.region c.args.colour c.args.given.now.start c.args.count

-- what has become of the world
its_move : (c : In_ok-at) → Moved (view_of c.self.inside) (its_step c)
    (put_columns (view_of c.self.inside) c.args.region c.carry.new.self)
its_move c = carry_moved (read c.before.before.before.before) c.args.by c.in_ok-at.ensures.ok

pub carry-requires-clause-other : goal.carry-requires-clause-other
carry-requires-clause-other c = carry_other (read c)

pub carry-requires-clause-region : goal.carry-requires-clause-region
carry-requires-clause-region c = carry_region (read c)

pub invariant_of-self-2 : goal.invariant_of-self-2
invariant_of-self-2 c = (its_move (goal.at.invariant_of-self-2 c).In_ok-at).whole

pub returns-clause-ok : goal.returns-clause-ok
returns-clause-ok c =
    let at = (goal.at.returns-clause-ok c).In_ok-at in
    (its_move at).world ∙ ap (λ (k : WorldView). after (world_of k) (its_step at)) c.self.view_is

pub returns-clause-reply : goal.returns-clause-reply
returns-clause-reply c =
    let at = (goal.at.returns-clause-reply c).In_ok-at in
    ap place_reply c.event_at.ensures
    ∙ (carry_reply (read (goal.at.returns-clause-reply c).After-index_mut) c.args.by c.in_ok-at.ensures.answer
    ∙ ap (λ (k : WorldView). reply (world_of k) (its_step at)) c.self.view_is)

pub returns-in_err-at-clause-err : goal.returns-in_err-at-clause-err
returns-in_err-at-clause-err c =
    on_err c.from_residual.result _
    (ap (λ (cs : List (List ColumnState)). record (view_of c.self.inside) { columns = cs })
    (put_back c.args.region refl c.index_mut.ensures.value c.in_err-at.ensures.err) ∙ c.self.view_is)
