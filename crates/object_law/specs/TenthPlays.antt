-- The objects that the tenth rule's pass plays from answer to answer.
use Rattle.std.specs.Prelude.{◌≡◌, ℕ, ◌<◌, List, map, Option, Some, None, slice_get}
use Rattle.std.specs.List.{All}
use Rattle.log_node.specs.declared.node.Node.{Node}
use Rattle.script_text.specs.declared.script.Kind.{Kind}
use Rattle.script_text.specs.declared.script.Kind.TheVariants as kinds
use Rattle.report_text.specs.declared.report.Answer.{Answer}
use Rattle.report_text.specs.declared.report.Answer.TheVariants as answers
use Rattle.report_text.specs.declared.report.ReplyLine.{ReplyLine}
use Rattle.report_text.specs.declared.report.SyncPiece.{SyncPiece}
use Rattle.run_rules.specs.Telling.{replies_to}
use Rattle.object_law.specs.declared.tenth.AnswerPlays.{AnswerPlays}
use Rattle.object_law.specs.AnswerPlays.{AreQueuePlays, AreSeveralPlays, AreTxPlays, AreTxRulings}
use Rattle.object_law.specs.CausalPlays.{AreCausalPlays, ShowsCut}
use Rattle.object_law.specs.ObjectAnswers.{AreShardPlays}
use Rattle.walk_law.specs.Walking.{Walked}

-- it is a map with a home, without transactions
abbrev pub IsMap : Option Kind → Type 0
IsMap (Some (kinds.Map home colours)) = Unit {0}
IsMap _ = ⊥

-- the colours of syncs, in their order
abbrev pub sync_colours : List SyncPiece → List ℕ
sync_colours syncs = map (λ (s : SyncPiece). s.colour) syncs

-- all are below this number
abbrev pub AreBelow : ℕ → List ℕ → Type 0
AreBelow count colours = All (λ colour. colour < count) colours

-- these are the colours of syncs, each below a number; or one of theirs is not
abbrev pub AreColoursRead : ℕ → List SyncPiece → Option (List ℕ) → Type 0
AreColoursRead count syncs None = AreBelow count (sync_colours syncs) → ⊥
AreColoursRead count syncs (Some colours) = (colours ≡ sync_colours syncs) × AreBelow count colours

-- the sync behind an answer of a causal map shows the cut of its column
abbrev pub HasCut : Walked → ℕ → Answer → Type 0
HasCut walked client (answers.GotMany values sync) = ShowsCut walked client sync
HasCut walked client _ = Unit {0}

-- so it is of each reply
abbrev pub HaveCuts : Walked → Type 0
HaveCuts walked = (client place : ℕ) (reply : ReplyLine) → slice_get (replies_to walked.report client) place ≡ Some reply
    → HasCut walked client reply.answer

-- all objects that answered so far are played over the nodes in a table
pub record AreAnswerPlays (walked : Walked) (table : List (List Node)) (plays : AnswerPlays) : Type 0 where
  pub shards : AreShardPlays walked table plays.shards
  pub queues : AreQueuePlays walked table plays.queues
  pub causal : AreCausalPlays walked table plays.causal
  pub several : AreSeveralPlays walked table plays.several
  pub maps : AreTxPlays walked table plays.maps
  pub rulings : AreTxRulings walked table plays.rulings

-- so they stand between steps, and syncs of causal maps show cuts
pub record AnswersStand (plays : AnswerPlays) (walked : Walked) (table : List (List Node)) : Type 0 where
  pub played : AreAnswerPlays walked table plays
  pub cuts : HaveCuts walked
