use Rattle.std.proofs.Common.{ap, subst, sym, ◌∙◌}
use Rattle.std.specs.Prelude.{IfOk}
use Rattle.turn_cell.specs.Cells.{seen}
use Rattle.chain_store.specs.Looking.{ShowsOn}
use Rattle.chain_store.specs.Passes.{ColumnCell, HasTurnOf, IsHolder, tag_in}
use Rattle.chain_store.proofs.Turning.{saw}
use Rattle.chain_store.proofs.looks.look_on_in.Goals as goal

pub looked_at-requires-clause-turn : goal.looked_at-requires-clause-turn
looked_at-requires-clause-turn g c =
    let t = c.begin-turn.ensures in
    subst (λ (z : ColumnCell). HasTurnOf z c.args.by c.begin-turn.new.pass) (sym t.turn.1) t.turn.0

pub looked_at-requires-clause-tag : goal.looked_at-requires-clause-tag
looked_at-requires-clause-tag g c = c.begin-turn.ensures.tag ∙ ap tag_in (sym c.begin-turn.ensures.turn.1)

pub returns-clause-pass : goal.returns-clause-pass
returns-clause-pass g c =
    let t = c.begin-turn.ensures in
    let v = c.looked_at.ensures in (
      subst (λ (z : ColumnCell). IsHolder z c.args.by c.looked_at.new.pass) t.turn.1 v.pass.0,
      saw c.args.by c.args.pass.now c.begin-turn.new.pass c.looked_at.new.pass t.more v.pass.1,
    )

pub returns-clause-looked : goal.returns-clause-looked
returns-clause-looked g c =
    subst (λ (z : ColumnCell). IfOk c.looked_at.result (ShowsOn (tag_in z) (seen c.looked_at.new.pass) c.args.from))
    c.begin-turn.ensures.turn.1 c.looked_at.ensures.looked
