use Rattle.std.proofs.Common.{◌≡◌, true, List, [], get_or, set, ap, sym, subst, ◌∙◌}
use Rattle.column.specs.Columns as columns
use Rattle.column.specs.Columns.{ColumnState}
use Rattle.world_laws.specs.Worlds.{may_raise, after_raise}
use Rattle.world_code.specs.WorldView.{WorldView, no_column, column_at, world_of, IsWhole}
use Rattle.world_code.proofs.ChangedParts.{with_column}
use Rattle.world_code.proofs.RaiseSteps.{raised_world, raised_whole, row_there, default_free}
use Rattle.world_code.proofs.Views.{view_of}
use Rattle.world_code.proofs.world.World.add_raise.Goals.{In_ok-place}
use Rattle.world_code.proofs.world.World.add_raise.Goals as goal

may : (c : In_ok-place) → may_raise (world_of (view_of c.self.inside)) c.args.region c.args.colour c.args.to ≡ true
may c = subst (λ (k : WorldView). may_raise (world_of k) c.args.region c.args.colour c.args.to ≡ true)
    (sym c.self.view_is) c.requires

-- the columns then
changed : (c : In_ok-place) → set (view_of c.self.inside).columns c.args.region c.raise.new.self
    ≡ with_column (view_of c.self.inside).columns c.args.region c.args.colour
    (columns.after_raise (column_at (view_of c.self.inside).columns c.args.region c.args.colour) c.args.by c.args.to)
changed c =
    let cs = (view_of c.self.inside).columns in
    let row = c.index_mut.result.now in
    let there = row_there (view_of c.self.inside) c.self.invariant c.args.by c.args.region c.args.colour c.args.to (may c) in
    let is : row ≡ get_or cs c.args.region [] = c.index_mut.ensures.value
    ∙ default_free cs c.args.region row [] there in
    ap (λ (l : List ColumnState). set cs c.args.region l)
    (c.in_ok-place.ensures.ok
    ∙ ap (λ (l : List ColumnState). set l c.args.colour
    (columns.after_raise (get_or l c.args.colour no_column) c.args.by c.args.to)) is)

pub invariant_of-self-2 : goal.invariant_of-self-2
invariant_of-self-2 c =
    subst (λ (cs : List (List ColumnState)). IsWhole (record (view_of c.self.inside) { columns = cs })) (sym (changed c))
    (raised_whole (view_of c.self.inside) c.self.invariant c.args.by c.args.region c.args.colour c.args.to (may c))

pub returns-clause-ok : goal.returns-clause-ok
returns-clause-ok c =
    ap (λ (cs : List (List ColumnState)). world_of (record (view_of c.self.inside) { columns = cs })) (changed c)
    ∙ (raised_world (view_of c.self.inside) c.self.invariant c.args.by c.args.region c.args.colour c.args.to (may c)
    ∙ ap (λ (k : WorldView). after_raise (world_of k) c.args.by c.args.region c.args.colour c.args.to) c.self.view_is)
