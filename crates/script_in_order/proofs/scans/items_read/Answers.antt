use Rattle.std.proofs.Common.{◌≡◌, ◌≢◌, ◌∙◌, List, None, map, ap, sym, subst}
use Rattle.std.specs.List.{All}
use Rattle.std.proofs.lemmas.Result.{IfOk-weaker}
use Rattle.log_node.specs.declared.ids.Key.{Key}
use Rattle.log_node.specs.Seen.{PlacedNode}
use Rattle.log_node.specs.Sets.{members}
use Rattle.world_code.specs.WorldView.{world_of}
use Rattle.script_meaning.specs.Helping.{node_by_id}
use Rattle.script_meaning.specs.Stamped.{shown_key, keys_read}
use Rattle.script_meaning.proofs.CallerLemmas.{keys_listed}
use Rattle.script_in_order.proofs.StampedWholes.{all_listed}
use Rattle.script_in_order.proofs.scans.items_read.Goals as goal

pub shown_keys-requires : goal.shown_keys-requires
shown_keys-requires c =
    let w = world_of c.args.world.now in
    let cs = members c.args.colours in record {
      listed = subst (All (λ (key : Key). node_by_id w key.id ≢ None))
          (sym (c.as_slice.ensures.value ∙ c.in_ok-keys.ensures))
          (all_listed w (keys_read w c.args.client c.args.stamp cs)
          (keys_listed w c.agrees.ensures c.args.client c.args.stamp cs));
    }

pub returns : goal.returns
returns c =
    let w = world_of c.args.world.now in
    IfOk-weaker c.shown_keys.result
    (λ (items : List PlacedNode). items ≡ map (shown_key w) c.as_slice.result.now)
    (λ (items : List PlacedNode).
    items ≡ map (shown_key w) (keys_read w c.args.client c.args.stamp (members c.args.colours)))
    (λ items e. e ∙ ap (map (shown_key w)) (c.as_slice.ensures.value ∙ c.in_ok-keys.ensures))
    c.shown_keys.ensures
