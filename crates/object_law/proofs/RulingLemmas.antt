-- The verdict on a transaction among the nodes up to a stamp, of which it is noted what becomes of each.
use Rattle.std.proofs.Common.{◌≡◌, ◌∙◌, ap, subst, sym, ℕ, ◌<◌, ◌≤◌, List, Option, Some, None, get_or, length, take, arith}
use Rattle.std.proofs.lemmas.List.{length-map}
use Rattle.std.proofs.lemmas.Option.{slice_get_within}
use Rattle.log_node.specs.declared.ids.Key.{Key}
use Rattle.log_node.specs.declared.node.Node.{Node}
use Rattle.object_fold.specs.declared.verdict.Verdict.{Verdict}
use Rattle.object_fold.specs.Folds.{told_of}
use Rattle.object_fold.specs.Transactions.{ruling, verdict_of}
use Rattle.column_track.specs.Tracks.{Tracked}
use Rattle.playback.specs.Laws.{RegionOrderIsLawful}
use Rattle.playback.specs.Merging.{AreRising, region_order}
use Rattle.object_law.specs.AnswerPlays.{IsTxRuling}
use Rattle.object_law.specs.KeysRead.{whole_lines}
use Rattle.object_law.specs.NodeTables.{nodes_under}
use Rattle.object_law.specs.ObjectAnswers.{IsKeyOrder}
use Rattle.object_law.specs.Tenth.{stamped_nodes}
use Rattle.object_law.specs.ToldNodes.{HasPlace}
use Rattle.object_law.specs.declared.key_order.KeyOrder.{KeyOrder}
use Rattle.object_law.specs.declared.tx_told.TxRuling.{TxRuling}
use Rattle.walk_law.specs.Walking.{MayWalk, Walked, log_walked}
use Rattle.object_law.proofs.ObjectOrders.{order_rising}
use Rattle.object_law.proofs.ToldOfLemmas.{none_there, none_up, told_up, told_verdict}

module _ (ordered : RegionOrderIsLawful) (walked : Walked) (tracks : List Tracked) (may : MayWalk walked.script walked.report tracks) where
  -- the keys of an order rise
  pub keys_rising : (o : KeyOrder) → IsKeyOrder walked o → AreRising o.keys.items
  keys_rising o is =
      subst AreRising (sym is.keys) (order_rising ordered walked tracks may o.region is.region o.colours is.colours)

  module _ (table : List (List Node)) (p : TxRuling) (is : IsTxRuling walked table p) (own : Key) where
    -- there is one for each key
    pub ruling_within : (place : ℕ) → HasPlace p.order.keys.items own (Some place) → place < length p.told.items
    ruling_within place at =
        let long : length p.told.items ≡ length p.order.keys.items =
        ap length is.told ∙ length-map p.order.keys.items (told_of ruling (nodes_under table p.order.keys.items)) in
        let lt = slice_get_within p.order.keys.items place own at in
        omega (arith, long, lt)

    module _ (stamp count : ℕ)
        (taken : take count p.order.keys.items ≡ region_order stamp (whole_lines (log_walked walked) p.order.region p.order.colours)) where
      abbrev keys : List Key
      keys = p.order.keys.items

      abbrev begun : List Key
      begun = region_order stamp (whole_lines (log_walked walked) p.order.region p.order.colours)

      abbrev verdict : Option Verdict
      verdict = verdict_of (stamped_nodes walked table p.order.region p.order.colours stamp) own

      by_told : told_of ruling (nodes_under table begun) own ≡ verdict
      by_told = told_verdict (nodes_under table begun) own

      pub ruling_up : (place : ℕ) → HasPlace keys own (Some place) → place < count → (d : Option Verdict)
          → get_or p.told.items place d ≡ verdict
      ruling_up place at low d =
          told_up ruling table keys (keys_rising p.order is.order) own count begun taken p.told.items is.told place at low d ∙ by_told

      pub ruling_behind : (place : ℕ) → HasPlace keys own (Some place) → count ≤ place → None ≡ verdict
      ruling_behind place at over =
          none_up ruling table keys (keys_rising p.order is.order) own count begun taken place at over ∙ by_told

      pub ruling_none : HasPlace keys own None → None ≡ verdict
      ruling_none others =
          none_there ruling table keys (keys_rising p.order is.order) own count begun taken others ∙ by_told
