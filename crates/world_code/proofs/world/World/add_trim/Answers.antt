use Rattle.std.proofs.Common.{◌≡◌, true, List, length, refl, ap, sym, subst, ◌∙◌}
use Rattle.column.specs.Columns.{ColumnState}
use Rattle.world_laws.specs.declared.steps.Step.TheVariants as steps
use Rattle.world_laws.specs.Worlds.{is_column, after}
use Rattle.world_code.specs.WorldView.{WorldView, world_of}
use Rattle.world_code.proofs.MoveCalls.{Moved, put_columns, trim_moved, trim_place}
use Rattle.world_code.proofs.RaiseSteps.{put_back, on_err}
use Rattle.world_code.proofs.Views.{view_of}
use Rattle.world_code.proofs.world.World.add_trim.Goals.{In_ok-place}
use Rattle.world_code.proofs.world.World.add_trim.Goals as goal

there : (c : In_ok-place) → is_column (world_of (view_of c.self.inside)) c.args.region c.args.colour ≡ true
there c = subst (λ (k : WorldView). is_column (world_of k) c.args.region c.args.colour ≡ true) (sym c.self.view_is)
    c.requires

-- what has become of the world
its_move : (c : In_ok-place) → Moved (view_of c.self.inside)
    (steps.Trim c.args.by c.args.region c.args.colour c.args.counts)
    (put_columns (view_of c.self.inside) c.args.region c.trim.new.self)
its_move c =
    trim_moved (view_of c.self.inside) c.self.invariant c.args.by c.args.region c.args.colour c.args.counts (there c)
    c.index_mut.result.now c.index_mut.ensures.value c.trim.new.self c.in_ok-place.ensures.ok

pub invariant_of-self-2 : goal.invariant_of-self-2
invariant_of-self-2 c = (its_move c).whole

pub returns-clause-ok : goal.returns-clause-ok
returns-clause-ok c =
    (its_move c).world ∙ ap (λ (k : WorldView). after (world_of k) (steps.Trim c.args.by c.args.region c.args.colour
    c.args.counts)) c.self.view_is

pub returns-clause-place : goal.returns-clause-place
returns-clause-place c =
    c.in_ok-place.ensures.answer
    ∙ (trim_place (view_of c.self.inside) c.self.invariant c.args.region c.args.colour (there c)
    c.index_mut.result.now c.index_mut.ensures.value
    ∙ ap (λ (k : WorldView). length ((world_of k).histories c.args.region c.args.colour)) c.self.view_is)

pub returns-in_err-place-clause-err : goal.returns-in_err-place-clause-err
returns-in_err-place-clause-err c =
    on_err c.from_residual.result _
    (ap (λ (cs : List (List ColumnState)). record (view_of c.self.inside) { columns = cs })
    (put_back c.args.region refl c.index_mut.ensures.value c.in_err-place.ensures.err) ∙ c.self.view_is)
