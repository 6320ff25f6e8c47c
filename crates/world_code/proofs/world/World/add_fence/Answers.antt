use Rattle.std.proofs.Common.{◌≡◌, true, ap, sym, subst, ◌∙◌}
use Rattle.log_node.specs.declared.marks.Mark.{Mark}
use Rattle.log_node.specs.declared.marks.Mark.TheVariants as marks
use Rattle.skeen_core.specs.Boards.{Board, first_mark}
use Rattle.world_laws.specs.Worlds.{may_mark, may_fence, with_mark}
use Rattle.world_laws.proofs.CallerLemmas.{may_mark_is, may_fence_marks}
use Rattle.world_code.specs.WorldView.{WorldView, world_of, IsWhole}
use Rattle.world_code.proofs.MarkSteps.{board_colour, board_row, fence_world, fence_whole}
use Rattle.world_code.proofs.Views.{view_of}
use Rattle.world_code.proofs.world.World.add_fence.Goals.{After-self}
use Rattle.world_code.proofs.world.World.add_fence.Goals as goal

guard : (c : After-self) → may_fence (world_of (view_of c.self.inside)) c.args.row c.args.colour c.args.why ≡ true
guard c = subst (λ (k : WorldView). may_fence (world_of k) c.args.row c.args.colour c.args.why ≡ true)
    (sym c.self.view_is) c.requires

may : (c : After-self) → may_mark (world_of (view_of c.self.inside)) c.args.row c.args.colour ≡ true
may c = may_fence_marks (world_of (view_of c.self.inside)) c.args.row c.args.colour c.args.why (guard c)

pub fence-requires-clause-colour : goal.fence-requires-clause-colour
fence-requires-clause-colour c =
    board_colour (view_of c.self.inside) c.self.invariant c.args.row c.args.colour
    (may (goal.at.fence-requires-clause-colour c).After-self)

pub fence-requires-clause-row : goal.fence-requires-clause-row
fence-requires-clause-row c =
    board_row (view_of c.self.inside) c.self.invariant c.args.row c.args.colour
    (may (goal.at.fence-requires-clause-row c).After-self)

pub invariant_of-self : goal.invariant_of-self
invariant_of-self c =
    let at = (goal.at.invariant_of-self c).After-self in
    subst (λ (b : Board). IsWhole (record (view_of c.self.inside) { board = b })) (sym c.fence.ensures.rows)
    (fence_whole (view_of c.self.inside) c.self.invariant c.args.row c.args.colour (may at) c.args.why (guard at))

pub returns-clause-world : goal.returns-clause-world
returns-clause-world c =
    let at = (goal.at.returns-clause-world c).After-self in
    ap (λ (b : Board). world_of (record (view_of c.self.inside) { board = b })) c.fence.ensures.rows
    ∙ (fence_world (view_of c.self.inside) c.self.invariant c.args.row c.args.colour (may at) c.args.why
    ∙ ap (λ (k : WorldView). with_mark (world_of k) c.args.row c.args.colour (marks.Fenced c.args.why)) c.self.view_is)

pub returns-clause-mark : goal.returns-clause-mark
returns-clause-mark c =
    let at = (goal.at.returns-clause-mark c).After-self in
    let missing = (may_mark_is (world_of (view_of c.self.inside)) c.args.row c.args.colour (may at)).missing in
    c.fence.ensures.answer ∙ ap (λ (m : Mark). first_mark m (marks.Fenced c.args.why)) missing
