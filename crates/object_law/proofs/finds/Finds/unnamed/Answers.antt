use Rattle.std.proofs.Common.{◌∙◌, ◌++◌, ◌∷◌, [], ap, map, sym, take, List}
use Rattle.log_node.specs.declared.forms.Version.{Version}
use Rattle.report_text.specs.declared.report.ReplyLine.{ReplyLine}
use Rattle.run_rules.specs.Telling.{unnamed}
use Rattle.object_law.specs.Unnamed.{unnamed_to}
use Rattle.object_law.proofs.FoundLemmas.{mapped_more}
use Rattle.object_law.proofs.finds.Finds.unnamed.Goals as goal

pub loop-client-preserved : goal.loop-client-preserved
loop-client-preserved c =
    let shown = c.as_slice-shown.result.now in
    let n = c.loop-client.client-index in
    let before = map unnamed_to (take n shown) in
    c.in_ok-push.ensures.items
    ∙ (ap (λ (l : List (List (List Version))). l ++ c.in_ok-unnamed.field-0 ∷ []) c.loop-client.invariant
    ∙ (ap (λ (f : List (List Version)). before ++ f ∷ [])
    (c.in_ok-unnamed.ensures ∙ ap (λ (rs : List ReplyLine). map (λ (r : ReplyLine). unnamed r.answer) rs) c.as_slice.ensures)
    ∙ sym (mapped_more unnamed_to shown n c.client-item.result c.loop-client-test.true c.client-item.is)))
