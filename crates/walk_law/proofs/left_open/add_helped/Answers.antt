use Rattle.std.proofs.Common.{◌∙◌, ap, sym, Bool}
use Rattle.std.specs.Prelude.{◌||◌, ◌&&◌}
use Rattle.std.specs.List.{list_any}
use Rattle.std.proofs.lemmas.Bool.{eq-eqb}
use Rattle.col_core.specs.declared.Entry.{Entry}
use Rattle.walk_law.specs.LeftOpen.{has_id, helps, is_help_in}
use Rattle.walk_law.proofs.LeftLemmas.{on_ok}
use Rattle.walk_law.proofs.left_open.add_helped.Goals as goal

pub returns : goal.returns
returns c = λ id.
    on_ok c.put_helped.result _ _
    (λ put. put
    ∙ ap (λ (b : Bool). has_id c.args.ids.now id || b)
    (ap (list_any (λ (e : Entry). helps id e.by e.event)) c.as_slice.ensures
    ∙ sym (ap (λ (b : Bool). b && is_help_in id c.args.column.now)
    (eq-eqb c.args.column.now.region c.args.region c.if-column-region.false))))
    (c.put_helped.ensures id)
