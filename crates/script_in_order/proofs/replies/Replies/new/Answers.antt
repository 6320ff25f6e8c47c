use Rattle.std.proofs.Common.{◌∙◌, ◌++◌, ◌∷◌, [], List, Option, None, ap, sym, zero-add}
use Rattle.std.proofs.lemmas.List.FromFn.{map-range_with_len_more}
use Rattle.log_node.specs.declared.forms.Version.{Version}
use Rattle.script_in_order.proofs.replies.Replies.new.Goals as goal

pub loop-preserved : goal.loop-preserved
loop-preserved c =
    let n = c.loop.counter in
    c.in_ok-push.ensures.items
    ∙ (ap (λ (l : List (Option (List Version))). l ++ None ∷ []) c.loop.invariant
    ∙ sym (map-range_with_len_more (λ _. None) 0 n n (zero-add n)))
