use Rattle.std.proofs.Common.{◌≡◌, true, false, ap, sym, subst, ◌∙◌}
use Rattle.std.proofs.lemmas.Bool.{true≢false}
use Rattle.column.specs.Columns.{ColumnState, HasOnlyCause, moved_from}
use Rattle.column.proofs.column.Column.only.Goals as goal

stayed : (c : goal.After-fault_of) → moved_from c.args.self.now c.args.node.value ≡ false
stayed c =
    sym (c.if-has_moved.ensures ∙ ap (λ (s : ColumnState). moved_from s c.deref.result.now) c.self.view_is
    ∙ ap (moved_from c.args.self.now) c.deref.ensures)

pub returns-in-Err-clause-moved : goal.returns-in-Err-clause-moved
returns-in-Err-clause-moved c = λ moved. absurd (true≢false (sym moved ∙ stayed c))

pub returns-in-Err-clause-cause : goal.returns-in-Err-clause-cause
returns-in-Err-clause-cause c =
    c.fault_of.ensures c.args.self.now c.args.node.value
    (c.own_colour-colour.ensures ∙ ap (λ (s : ColumnState). s.colour) c.self.view_is) (stayed c) c.in-Err.ensures.cause

entered : (c : goal.In-Ok) → moved_from c.args.self.now c.args.node.value ≡ false
entered c =
    sym (c.if-has_moved.ensures ∙ ap (λ (s : ColumnState). moved_from s c.deref.result.now) c.self.view_is
    ∙ ap (moved_from c.args.self.now) c.deref.ensures)

pub returns-in-Ok-clause-held : goal.returns-in-Ok-clause-held
returns-in-Ok-clause-held c = entered c

pub returns-in-Ok-clause-moved : goal.returns-in-Ok-clause-moved
returns-in-Ok-clause-moved c = λ moved. absurd (true≢false (sym moved ∙ entered c))

pub returns-then-has_moved-clause-cause : goal.returns-then-has_moved-clause-cause
returns-then-has_moved-clause-cause c =
    let moved = c.if-has_moved.ensures ∙ ap (λ (s : ColumnState). moved_from s c.deref.result.now) c.self.view_is
    ∙ ap (moved_from c.args.self.now) c.deref.ensures in
    subst (HasOnlyCause c.args.self.now c.args.node.value) (sym c.moved.ensures) (sym moved)
