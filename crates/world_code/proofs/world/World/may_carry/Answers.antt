use Rattle.std.proofs.Common.{◌+◌, ◌≤◌, length, ap, sym, subst, ◌∙◌, arith}
use Rattle.col_core.specs.History.{line}
use Rattle.column.specs.Columns.{ColumnState, base_of}
use Rattle.world_laws.proofs.CallerLemmas.{are_two}
use Rattle.world_code.specs.WorldView.{IsWhole, world_of}
use Rattle.world_code.proofs.MayCarry.{below_base, there}
use Rattle.world_code.proofs.world.World.may_carry.Goals as goal

pub bounds-base-origin : goal.bounds-base-origin
bounds-base-origin c =
    let w = subst IsWhole c.self.view_is c.self.invariant in
    let two = are_two (world_of c.args.self.now) c.args.origin c.args.region c.args.colour
    (sym c.are_two.ensures ∙ c.if-not-are_two.false) in
    let lt = two.origin_is in
    let few = w.few_regions in
    omega (arith, lt, few)

pub returns-then-start-base : goal.returns-then-start-base
returns-then-start-base c =
    let w = subst IsWhole c.self.view_is c.self.invariant in
    below_base c.args.self.now w c.args.origin c.args.region c.args.colour c.args.start c.args.count
    (sym c.are_two.ensures ∙ c.if-not-are_two.false) c.base.result
    (c.base.ensures ∙ ap base_of c.column-column.ensures) c.if-start-base.true

pub returns : goal.returns
returns c =
    let w = subst IsWhole c.self.view_is c.self.invariant in
    let a = c.if-end-start.false in
    let b = c.if-end-start-2.false in
    let within : c.args.start + c.args.count ≤ length c.line.result.now = omega (arith, a, b) in
    c.lacks.ensures
    ∙ there c.args.self.now w c.args.origin c.args.region c.args.colour c.args.start c.args.count
    (sym c.are_two.ensures ∙ c.if-not-are_two.false) c.base.result c.line.result.now
    (c.base.ensures ∙ ap base_of c.column-column.ensures) c.if-start-base.false
    (c.line.ensures ∙ ap (λ (q : ColumnState). line q.journal) c.column-column.ensures) within
