use Rattle.std.proofs.Common.{◌≡◌, true, List, length, refl, ap, sym, subst, ◌∙◌}
use Rattle.column.specs.Columns.{ColumnState}
use Rattle.world_laws.specs.declared.steps.Step.TheVariants as steps
use Rattle.world_laws.specs.Worlds.{may_give, after}
use Rattle.world_code.specs.WorldView.{WorldView, world_of}
use Rattle.world_code.proofs.MoveCalls.{Moved, GiveCall, put_columns, given_moved, give_other, give_region, give_place}
use Rattle.world_code.proofs.RaiseSteps.{put_back, on_err}
use Rattle.world_code.proofs.Views.{view_of}
use Rattle.world_code.proofs.world.World.add_give.Goals.{After-index_mut, In_ok-place}
use Rattle.world_code.proofs.world.World.add_give.Goals as goal

-- what the code has read
read : (c : After-index_mut) → GiveCall (view_of c.self.inside) c.args.origin c.args.region c.args.colour c.args.from
    c.index_mut.result.now
read c = record {
  whole = c.self.invariant;
  guard = subst (λ (k : WorldView). may_give (world_of k) c.args.origin c.args.region c.args.colour c.args.from ≡ true)
      (sym c.self.view_is) c.requires;
  columns_are = c.index_mut.ensures.value;
}

-- what has become of the world
its_move : (c : In_ok-place) → Moved (view_of c.self.inside)
    (steps.Give c.args.by c.args.origin c.args.region c.args.colour c.args.from)
    (put_columns (view_of c.self.inside) c.args.origin c.note.new.self)
its_move c = given_moved (read c.before.before.before.before) c.args.by c.in_ok-place.ensures.ok

pub note-requires-clause-other : goal.note-requires-clause-other
note-requires-clause-other c = give_other (read c)

pub note-requires-clause-region : goal.note-requires-clause-region
note-requires-clause-region c = give_region (read c)

pub invariant_of-self-2 : goal.invariant_of-self-2
invariant_of-self-2 c = (its_move c).whole

pub returns-clause-ok : goal.returns-clause-ok
returns-clause-ok c =
    (its_move c).world ∙ ap (λ (k : WorldView). after (world_of k) (steps.Give c.args.by c.args.origin c.args.region
    c.args.colour c.args.from)) c.self.view_is

pub returns-clause-place : goal.returns-clause-place
returns-clause-place c =
    c.in_ok-place.ensures.answer
    ∙ (give_place (read (goal.at.returns-clause-place c).After-index_mut)
    ∙ ap (λ (k : WorldView). length ((world_of k).histories c.args.origin c.args.colour)) c.self.view_is)

pub returns-in_err-place-clause-err : goal.returns-in_err-place-clause-err
returns-in_err-place-clause-err c =
    on_err c.from_residual.result _
    (ap (λ (cs : List (List ColumnState)). record (view_of c.self.inside) { columns = cs })
    (put_back c.args.origin refl c.index_mut.ensures.value c.in_err-place.ensures.err) ∙ c.self.view_is)
