use Rattle.std.proofs.Common.{◌≡◌, ◌∙◌, ◌+◌, ◌++◌, ◌∷◌, [], ap, sym, subst, ℕ, List, arith}
use Rattle.col_core.specs.declared.Entry.{Entry}
use Rattle.col_core.specs.Computed.{dated}
use Rattle.col_core.specs.Legal.{IsColumnHistory}
use Rattle.walk_law.specs.Twelfth.{open_behind, opens_to}
use Rattle.walk_law.proofs.OpenLemmas.{open_after, open_few, opens_more, opens_next}
use Rattle.walk_law.proofs.opens.opens_of.Goals as goal

pub loop-entry-preserved : goal.loop-entry-preserved
loop-entry-preserved c =
    let history = c.args.journal.now in
    let track = c.args.track.now in
    let n = c.loop-entry.entry-index in
    let e = c.entry-item.result in
    let lawful = subst (λ (h : List Entry). IsColumnHistory track.region track.regions (dated track.region h)) c.requires
    c.agrees.ensures in
    let count : c.open_behind-count.result ≡ open_after history (n + 1) =
    c.open_behind-count.ensures
    ∙ (ap (λ (k : ℕ). open_behind k e.event) c.loop-entry.invariant.counted
    ∙ sym (opens_next track.region track.regions history lawful n e c.loop-entry-test.true c.entry-item.is)) in
    record {
      listed = c.in_ok-push-2.ensures.ok
          ∙ (ap (λ (l : List ℕ). l ++ c.open_behind-count.result ∷ []) c.loop-entry.invariant.listed
          ∙ (ap (λ (k : ℕ). opens_to history (n + 1) ++ k ∷ []) count ∙ sym (opens_more history (n + 1))));
      counted = count;
      few =
          let step = open_few c.loop-entry.count e.event in
          let is = c.open_behind-count.ensures in
          let before = c.loop-entry.invariant.few in
          omega (arith, step, is, before);
    }
