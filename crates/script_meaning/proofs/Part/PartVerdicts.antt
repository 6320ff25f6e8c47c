-- The transaction for which a part waits is among the nodes of a stamped read behind the play of its line, so the read tells
-- what became of it.
use Rattle.std.proofs.Common.{◌≡◌, ℕ, zero, suc, List, [], ◌∷◌, map, take, Bool, Option, Some, false, inl, inr, refl, ap, sym, subst, ◌∙◌}
use Rattle.std.specs.Prelude.{slice_get, unwrap_or}
use Rattle.log_node.specs.declared.ids.Key.{Key}
use Rattle.log_node.specs.declared.node.Node.{Node}
use Rattle.object_form.specs.Readings.{form_of}
use Rattle.object_fold.specs.Nodes.{ObjectNode}
use Rattle.object_fold.specs.Transactions.{verdict_of}
use Rattle.part_fold.specs.Agreement.{outcome}
use Rattle.part_fold.specs.Parts.{Part, undecided_after}
use Rattle.part_fold.proofs.CallerLemmas.{IsTransaction, StandsAmong, has_outcome, undecided_stands}
use Rattle.col_core.specs.History.{line}
use Rattle.col_core.proofs.CallerLemmas.{In, in_take}
use Rattle.world_laws.specs.Laws.{IsReached}
use Rattle.world_laws.specs.Worlds.{World, home_of, home_history}
use Rattle.lawful_run.specs.Parts.{IsRuledAs}
use Rattle.script_meaning.specs.Dequeues.{object_node_at}
use Rattle.script_meaning.specs.Parts.{nodes_now, commits_among}
use Rattle.script_meaning.proofs.Object.LaterNodes.{object_stays}
use Rattle.script_meaning.proofs.Run.GrantedSteps.{RunsTo}
use Rattle.script_meaning.proofs.Transaction.TransactionVerdicts.{found_own}
use Rattle.script_meaning.proofs.World.ChainNodes.{line_node}

-- the key whose node stands at a place among those of some keys
key_at : (w : World) (keys : List Key) (place : ℕ) (node : ObjectNode)
    → slice_get (map (object_node_at w) keys) place ≡ Some node
    → (key : Key) × In key keys × (object_node_at w key ≡ node)
key_at w [] place node e = absurd (let f : ⊥ = cc in f)
key_at w (key ∷ keys) zero node e = (key, inl refl, (let f : object_node_at w key ≡ node = cc (e) in f))
key_at w (key ∷ keys) (suc place) node e =
    let k = key_at w keys place node e in (k.0, inr k.1, k.2)

-- The part of a line that is played now waits for a transaction.
module _ (w : World) (reached : IsReached w) (u c : ℕ) (part : Part) (waits : Key)
    (is : undecided_after part (nodes_now w u c) ≡ Some waits) where
  stands : StandsAmong waits (nodes_now w u c)
  stands = undecided_stands part (nodes_now w u c) waits is

  -- its node, in the line and as a transaction
  pub record Waiting : Type 0 where
    pub there : In waits (line (home_history w u c))
    pub form : IsTransaction (form_of (object_node_at w waits).text)

  pub waiting : Waiting
  waiting =
      let l = line (home_history w u c) in
      let k = key_at w (take _ l) stands.place stands.node stands.there in
      let same : k.0 ≡ waits = ap (λ (n : ObjectNode). n.key) k.2 ∙ stands.key_is in record {
        there = subst (λ (key : Key). In key l) same (in_take _ l k.0 k.1);
        form = subst (λ (key : Key). IsTransaction (form_of (object_node_at w key).text)) same
            (subst (λ (n : ObjectNode). IsTransaction (form_of n.text)) (sym k.2) stands.form);
      }

  -- nodes of a later world, with its own among them, tell what became of it
  pub ruled_among : (x : World) → RunsTo w x → (keys : List Key) → In waits keys
      → IsRuledAs waits (commits_among (map (object_node_at x) keys) waits) (map (object_node_at x) keys)
  ruled_among x to keys i =
      let node = line_node w reached (home_of w u) c waits waiting.there in
      let stays : object_node_at x waits ≡ object_node_at w waits = object_stays w x reached to waits node.0 node.1 in
      let told = has_outcome (map (object_node_at x) keys) waits (object_node_at x waits) (found_own x waits keys i)
      (subst (λ (n : ObjectNode). IsTransaction (form_of n.text)) (sym stays) waiting.form) in
      told.1 ∙ ap Some (sym (ap (λ (o : Option Bool). unwrap_or o false) told.1))
