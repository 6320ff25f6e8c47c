-- A get of a causal map answers by nodes of the closing lines of all regions.
use Rattle.std.proofs.Common.{◌≡◌, ◌<◌, ℕ, List, Some, slice_get, ap, refl, ◌∙◌}
use Rattle.log_node.specs.declared.ids.Key.{Key}
use Rattle.object_fold.specs.Causal.{ChainNode}
use Rattle.col_core.specs.History.{line}
use Rattle.col_core.specs.Cuts.{chain}
use Rattle.col_core.specs.Log.{first}
use Rattle.col_core.specs.PlayOrder.{Place}
use Rattle.script_text.specs.declared.script.Script.{Script}
use Rattle.script_text.specs.Fitting.{IsFitting}
use Rattle.report_text.specs.declared.report.Report.{Report}
use Rattle.lawful_run.specs.Callers.{caller_of}
use Rattle.lawful_run.specs.Objects.{IsChainNode, places_within}
use Rattle.lawful_run.specs.Lawful.{LawfulRun}
use Rattle.lawful_run.specs.Readings.{StandsAtEnd}
use Rattle.lawful_run.specs.ObjectReadings.{IsChainNodeOf, CausalGetsAreFolds}
use Rattle.lawful_run.proofs.Listed.{get_in}
use Rattle.lawful_run.proofs.LaterFacts.{all_zip_of}
use Rattle.lawful_run.proofs.Standing.{column_is}
use Rattle.lawful_run.proofs.Shown.{stands_in, chain_at, text_of}
use Rattle.lawful_run.proofs.Folds.{closing_line, reason}

module _ (script : Script) (report : Report) (fits : IsFitting script) (run : LawfulRun script report) where
  ends : (region colour position : ℕ) (key : Key) → slice_get (line (run.log.histories region colour)) position
      ≡ Some key
      → StandsAtEnd report region colour position key
  ends region colour position key stands column there own same =
      let c = column_is script report fits run column there in
      let shown : column.line ≡ line (run.log.histories region colour) =
      c.closing.line_shown ∙ (ap line c.history ∙ (ap (λ (r : ℕ). line (run.log.histories r column.colour)) own
      ∙ ap (λ (d : ℕ). line (run.log.histories region d)) same)) in
      ap (λ (l : List Key). slice_get l position) shown ∙ stands

  -- a node of the chains that a region holds
  chain_node : (own colour : ℕ) → own < script.shape.regions → colour < script.shape.colours → (events : ℕ)
      (place : Place) (node : ChainNode)
      → IsChainNode run.log (chain own (first run.log own colour events)) place node
      → IsChainNodeOf run colour place node
  chain_node own colour lo lc events place node n =
      let c = chain_at script report fits run own colour lo lc events place.region place.position n.head n.stands in
      let s = stands_in script report fits run place.region colour c.0 lc n.head.key
      (get_in (line (run.log.histories place.region colour)) place.position n.head.key c.1) in
      let t = text_of script report fits run place.region colour n.head.key s node.text n.text in
      record {
        region_is = n.region_is;
        position_is = n.position_is;
        key = n.head.key;
        stands = ends place.region colour place.position n.head.key c.1;
        k = t.0;
        reply = t.1;
        colours = t.2;
        append = t.3;
        tells = t.4;
      }

pub causal_gets_are_folds : CausalGetsAreFolds
causal_gets_are_folds script report fits run client n reply h values sync is l closing =
    let r = reason script report fits run client n reply _ h is in
    let x = r.explained in
    let own = (caller_of script client).own in
    let w = closing_line script report fits run own sync.colour l closing in
    let g = x.6 in (
      r.command.what,
      (r.command, r.asked, refl),
      x.1,
      x.2,
      x.3,
      x.4,
      g.nodes,
      all_zip_of (IsChainNode run.log (chain own (first run.log own sync.colour sync.events)))
          (IsChainNodeOf run sync.colour)
          (chain_node script report fits run own sync.colour w.0 w.1 sync.events)
          (places_within sync.counts) g.nodes g.played,
      g.answer,
    )
