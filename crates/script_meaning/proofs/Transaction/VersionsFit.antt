-- The keys of lines are such as the text of a transaction may name.
use Rattle.std.proofs.Common.{◌≡◌, ℕ, ◌^◌, ◌<◌, ◌≤◌, List, length, Some, true, subst, arith}
use Rattle.std.specs.Prelude.{◌==◌}
use Rattle.std.proofs.lemmas.Bool.{eqb-true}
use Rattle.std.proofs.lemmas.List.Sums.{count_by-le-length, length-filter}
use Rattle.log_node.specs.declared.ids.Key.{Key}
use Rattle.log_node.specs.declared.limits.TheConstants.{MAX_CLIENTS}
use Rattle.object_form.specs.Forms.{is_writer}
use Rattle.col_core.specs.History.{line}
use Rattle.col_core.proofs.CallerLemmas.{In, in_filter}
use Rattle.world_laws.specs.Worlds.{World}
use Rattle.world_laws.specs.Laws.{IsReached}
use Rattle.world_laws.proofs.CallerLemmas.{lawful_past_in}
use Rattle.script_text.specs.declared.script.Command.{Command}
use Rattle.lawful_run.proofs.CallerLemmas.{get_within, writer_fits}
use Rattle.script_meaning.proofs.World.ChainNodes.{line_node}
use Rattle.script_meaning.proofs.Run.Invariant.{AreFew}
use Rattle.script_meaning.proofs.Lists.{asked_by}
use Rattle.script_meaning.proofs.Object.ObjectKinds.{some_of}
use Rattle.script_meaning.proofs.World.Reached.{held_of, listed_of}

-- keys of lines are such as a version may name
module _ (w : World) (reached : IsReached w) (commands : List Command) (clients : ℕ) (small : clients ≤ MAX_CLIENTS)
    (callers : (c : Command) → In c commands → c.client < clients) (short : length commands < 2 ^ 15)
    (few : AreFew commands w) where
  asked_one : (n : ℕ) (cs : List Command) → 0 < length (asked_by n cs) → (c : Command) × In c cs × (c.client ≡ n)
  asked_one n cs lt =
      let x = some_of (asked_by n cs) (omega (arith, lt)) in
      let f = in_filter (λ (c : Command). c.client == n) x.0 cs x.1 in
      (x.0, f.0, eqb-true x.0.client n f.1)

  pub key_fits : (r c : ℕ) (key : Key) → In key (line (w.histories r c)) → is_writer (Some key) ≡ true
  key_fits r c key i =
      let node = line_node w reached r c key i in
      let client = key.id.client in
      let count = get_within (w.nodes client) key.id.count node.0 node.1 in
      let total = (listed_of w reached).counts client in
      let fewer = few client in
      let kept = length-filter (λ (c : Command). c.client == client) commands in
      let all = count_by-le-length (λ (c : Command). c.client == client) commands in
      let one = asked_one client commands (omega (arith, count, total, fewer)) in
      let low : client < clients = subst (λ (n : ℕ). n < clients) one.2 (callers one.0 one.1) in
      writer_fits (w.histories r c) (lawful_past_in w (held_of w reached) r c) key i (omega (arith, low, small))
      (omega (arith, count, total, fewer, kept, all, short))
