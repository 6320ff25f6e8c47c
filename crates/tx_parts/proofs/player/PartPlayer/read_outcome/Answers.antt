use Rattle.std.proofs.Common.{Bool, false, List, ℕ, Option, ap, subst, sym, ◌∙◌}
use Rattle.std.specs.Prelude.{unwrap_or}
use Rattle.part_fold.specs.declared.ruled_fold.RuledFold.{RuledFold}
use Rattle.part_fold.specs.Ruled.{IsRuled}
use Rattle.lawful_run.specs.Asks.{rising}
use Rattle.log_client.specs.StampedReads.{ReadHidden, ReadRefused}
use Rattle.region_fold.specs.Reads.{AreWriters, KeepsFold, ReadsNodes}
use Rattle.tx_parts.proofs.PlayerAnswers.{player_read, reads_outcome}
use Rattle.tx_parts.proofs.player.PartPlayer.read_outcome.Goals as goal

pub read-requires-clause-kept : goal.read-requires-clause-kept
read-requires-clause-kept g c =
    subst (λ (l : List ℕ). KeepsFold IsRuled c.args.client.now (rising l) c.args.self.now.map.kept) (sym c.as_slice.ensures)
    c.requires.player.reads

pub returns-in-Ok-clause-player : goal.returns-in-Ok-clause-player
returns-in-Ok-clause-player g c =
    player_read c.args.store.now c.args.client.now c.read.new.client c.read.ensures.client c.args.self.now c.read.new.self
    c.as_slice.result.now c.requires.client c.requires.player c.as_slice.ensures c.read.ensures.kept

pub returns-in-Ok-clause-ok : goal.returns-in-Ok-clause-ok
returns-in-Ok-clause-ok g c =
    reads_outcome c.args.store.now c.args.client.now c.read.new.client c.args.self.now.colours c.args.self.now.map.kept.last
    c.args.key c.unwrap_or.result c.in-Ok.read c.read.new.self.kept.state
    (λ nodes is apart. c.unwrap_or.ensures ∙ ap (λ (o : Option Bool). unwrap_or o false)
    (c.outcome.ensures nodes (subst (λ (f : RuledFold). IsRuled f nodes) (sym c.state.ensures) is) apart))
    (subst (λ (l : List ℕ). ReadsNodes c.args.store.now c.args.client.now c.read.new.client l c.args.self.now.map.kept.last
    c.in-Ok.read (λ nodes. IsRuled c.read.new.self.kept.state nodes × AreWriters nodes)) c.as_slice.ensures c.in-Ok.ensures.ok)

pub returns-in-Ok-clause-hidden : goal.returns-in-Ok-clause-hidden
returns-in-Ok-clause-hidden g c =
    subst (λ (l : List ℕ). ReadHidden c.args.store.now c.args.client.now c.read.new.client (rising l)) c.as_slice.ensures
    c.in-Ok.ensures.hidden

pub returns-in-Err-clause-player : goal.returns-in-Err-clause-player
returns-in-Err-clause-player g c =
    player_read c.args.store.now c.args.client.now c.read.new.client c.read.ensures.client c.args.self.now c.read.new.self
    c.as_slice.result.now c.requires.client c.requires.player c.as_slice.ensures c.read.ensures.kept

pub returns-in-Err-clause-err : goal.returns-in-Err-clause-err
returns-in-Err-clause-err g c =
    subst (λ (l : List ℕ). ReadRefused c.args.store.now c.args.client.now c.read.new.client (rising l) c.in-Err.fault)
    c.as_slice.ensures c.in-Err.ensures.err
