-- What a decide syncs and appends on, by its object.
use Rattle.std.proofs.Common.{◌≡◌, ◌∙◌, ℕ, List, ◌∷◌, Option, ap, sym}
use Rattle.object_fold.specs.Nodes.{shard_of}
use Rattle.col_core.specs.Keeping.{Kept}
use Rattle.script_text.specs.declared.commands.What.{What}
use Rattle.script_text.specs.declared.script.Kind.{Kind}
use Rattle.report_text.specs.declared.report.SyncPiece.{SyncPiece}
use Rattle.lawful_run.specs.Callers.{Caller}
use Rattle.lawful_run.specs.Asks.{kind_asked, object_colours, rising}
use Rattle.lawful_run.specs.Deeds.{colours_synced}
use Rattle.lawful_run.specs.Parts.{AsksToDecide}
use Rattle.lawful_run.proofs.CallerLemmas.{decide_kind}
use Rattle.run_rules.specs.Told.{colours_asked}

module _ (caller : Caller) (what : What) (sync : SyncPiece) (colours : List ℕ)
    (asks : AsksToDecide caller what sync colours) where
  -- the object's colours
  pub decide_own : object_colours (kind_asked caller what) ≡ colours
  decide_own = ap object_colours (decide_kind caller what sync colours asks)

  -- it syncs its key's shard, and then all colours
  pub decide_synced : colours_synced caller what ≡ sync.colour ∷ rising colours
  decide_synced =
      ap (colours_synced caller) asks.2
      ∙ (ap (λ (k : Option Kind). shard_of (object_colours k) asks.1 ∷ rising (object_colours k)) asks.4
      ∙ ap (λ (c : ℕ). c ∷ rising colours) (sym asks.5))

  -- and appends on colours that do not rest on what its client keeps
  pub decide_asked : (a b : Kept) → colours_asked caller a what ≡ colours_asked caller b what
  decide_asked a b = ap (colours_asked caller a) asks.2 ∙ sym (ap (colours_asked caller b) asks.2)
