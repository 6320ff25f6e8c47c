-- The verdict on a node among the nodes that were read.
use Rattle.std.proofs.Common.{◌≡◌, List, [], ◌∷◌, map, Option, Some, true, inl, inr, refl, ap, sym, subst, ◌∙◌, eq-eqb}
use Rattle.std.specs.Prelude.{◌==◌, unwrap_or}
use Rattle.std.specs.List.{find}
use Rattle.std.proofs.lemmas.Bool.{and_from}
use Rattle.log_node.specs.declared.ids.Key.{Key}
use Rattle.log_node.specs.declared.forms.Pair.{Pair}
use Rattle.log_node.specs.declared.forms.Version.{Version}
use Rattle.log_node.specs.declared.forms.Form.TheVariants as forms
use Rattle.log_node.specs.declared.node.Node.{Node}
use Rattle.log_node.specs.Order.{same_key}
use Rattle.log_node.proofs.CallerLemmas.{same_key-is}
use Rattle.object_form.specs.Forms.{IsForm, form_text}
use Rattle.object_form.specs.Laws.{ReadsBack}
use Rattle.object_form.specs.Readings.{form_of}
use Rattle.object_fold.specs.Nodes.{ObjectNode, nodes_before}
use Rattle.object_fold.specs.Transactions.{writes_after, verdict_on, form_verdict, verdict_among, verdict_of}
use Rattle.col_core.proofs.CallerLemmas.{choice, same_id-refl, apart, In}
use Rattle.world_laws.specs.Worlds.{World, no_row}
use Rattle.script_meaning.specs.Helping.{node_by_id}
use Rattle.script_meaning.specs.Dequeues.{object_node_at}

same_key-itself : (key : Key) → same_key key key ≡ true
same_key-itself key = and_from (key.stamp == key.stamp) _ (eq-eqb key.stamp key.stamp refl) (same_id-refl key.id)

-- the node with a key is found among those that are read
pub found_own : (w : World) (own : Key) (keys : List Key) → In own keys
    → find (λ (node : ObjectNode). same_key node.key own) (map (object_node_at w) keys) ≡ Some (object_node_at w own)
found_own w own [] i = absurd i
found_own w own (key ∷ keys) i =
    let rest = find (λ (node : ObjectNode). same_key node.key own) (map (object_node_at w) keys) in
    choice (λ (o : Option ObjectNode). o ≡ Some (object_node_at w own)) (same_key key own) (Some (object_node_at w key)) rest
    (λ t. ap (λ (k : Key). Some (object_node_at w k)) (same_key-is key own t))
    (λ f. found_own w own keys (elim i [
      | inl e ↦ absurd (apart (same_key key own) (subst (λ (k : Key). same_key k own ≡ true) (sym e) (same_key-itself own)) f)
      | inr j ↦ j
    ]))

-- A transaction's node that is read has the verdict on its versions, after the nodes before it.
pub own_verdict : ReadsBack → (w : World) (own : Key) (keys : List Key) → In own keys → (node : Node)
    → node_by_id w own.id ≡ Some node → (versions : List Version) (pairs : List Pair)
    → IsForm (forms.Transaction versions pairs) → node.text ≡ form_text (forms.Transaction versions pairs)
    → verdict_of (map (object_node_at w) keys) own
    ≡ Some (verdict_on (writes_after (nodes_before own (map (object_node_at w) keys))) own.stamp versions)
own_verdict back w own keys i node there versions pairs is_form text =
    let nodes = map (object_node_at w) keys in
    let before = writes_after (nodes_before own nodes) in
    let its_text : (object_node_at w own).text ≡ form_text (forms.Transaction versions pairs) =
    ap (λ (x : Option Node). (unwrap_or x no_row.node).text) there ∙ text in
    ap (verdict_among nodes) (found_own w own keys i)
    ∙ ap (form_verdict own before)
    (ap form_of its_text ∙ back (forms.Transaction versions pairs) is_form)
