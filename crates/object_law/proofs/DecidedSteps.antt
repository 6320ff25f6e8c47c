-- One decision, by what those say whose reads have lower stamps.
use Rattle.std.proofs.Common.{◌≡◌, ◌∙◌, ap, sym, subst, Bool, ℕ, List, take, Option, Some, None}
use Rattle.std.specs.Prelude.{slice_get}
use Rattle.std.specs.List.{All}
use Rattle.log_node.specs.declared.ids.Key.{Key}
use Rattle.log_node.specs.Vectors.{at}
use Rattle.log_node.proofs.CallerLemmas.{same_some}
use Rattle.part_fold.specs.declared.decision.Decision.{Decision}
use Rattle.part_fold.specs.Agreement.{part_at}
use Rattle.part_fold.specs.Parts.{undecided_after}
use Rattle.col_core.specs.History.{line}
use Rattle.column_track.specs.Tracks.{Tracked}
use Rattle.script_text.specs.declared.script.Command.{Command}
use Rattle.report_text.specs.declared.report.Answer.TheVariants as answers
use Rattle.report_text.specs.declared.report.Ended.{Ended}
use Rattle.report_text.specs.declared.report.RaisePiece.{RaisePiece}
use Rattle.report_text.specs.declared.report.ReplyLine.{ReplyLine}
use Rattle.report_text.specs.declared.report.SyncPiece.{SyncPiece}
use Rattle.lawful_run.specs.Asks.{kind_asked}
use Rattle.lawful_run.specs.Callers.{caller_of, commands_of}
use Rattle.run_rules.specs.Computing.{answer_in, answer_to}
use Rattle.run_rules.specs.Deciding.{ColoursDiffer, decisions_of, key_or}
use Rattle.run_rules.specs.Keeping.{Keeps}
use Rattle.run_rules.specs.Telling.{replies_to}
use Rattle.object_law.specs.Decided.{AreDecidedBelow, DecisionsStand, IsDecidedBy, IsDecisionOf, StandsDecided, decided_nodes, stamp_of_read, synced_keys}
use Rattle.object_law.specs.PartAnswers.{part_colours}
use Rattle.object_law.specs.declared.decisions_by_stamp.StampedDecision.{StampedDecision}
use Rattle.object_law.proofs.PartLemmas.{AreOwn, own_are, place_one}
use Rattle.walk_law.specs.Walking.{MayWalk, Walked, journal_walked}

module _ (law : DecisionsStand) (walked : Walked) (tracks : List Tracked) (may : MayWalk walked.script walked.report tracks)
    (keeps : Keeps walked.script walked.report 9) (differ : ColoursDiffer walked.script) (it : StampedDecision)
    (of : IsDecisionOf walked it) (command : Command) (asks : slice_get (commands_of walked.script it.client) it.place ≡ Some command)
    (reply : ReplyLine) (replied : slice_get (replies_to walked.report it.client) it.place ≡ Some reply) where
  answered : answer_to walked.report it.client it.place ≡ reply.answer
  answered = ap answer_in replied

  module _ (commits : Bool) (stamp : ℕ) (sync : SyncPiece) (read_stamp : ℕ) (raises : List RaisePiece) (syncs : List SyncPiece)
      (ended : Ended) (is : reply.answer ≡ answers.Decided commits stamp sync read_stamp raises syncs ended) where
    pub stands : IsDecidedBy walked it.client it.place command.what commits sync read_stamp
    stands =
        law walked tracks may keeps differ it.client it.place commits stamp sync read_stamp raises syncs ended (answered ∙ is) command asks

    at_stamp : read_stamp ≡ it.stamp
    at_stamp = same_some (sym (ap stamp_of_read (answered ∙ is)) ∙ of.stamp)

    -- its map is one that is played by parts
    pub has_parts : part_colours (kind_asked (caller_of walked.script it.client) command.what) ≡ None → ⊥
    has_parts none = let kind = stands.kind in let f : ⊥ = cc (kind, none) in f

    module _ (own : List ℕ) (mine : part_colours (kind_asked (caller_of walked.script it.client) command.what) ≡ Some own) where
      same_own : stands.own ≡ own
      same_own = same_some (sym stands.kind ∙ mine)

      pub are : AreOwn walked.script (caller_of walked.script it.client) command.what own
      are = own_are walked.script may.fitting differ it.client command.what own mine

      pub has_place : ((place : ℕ) → slice_get own place ≡ Some sync.colour → ⊥) → ⊥
      has_place none =
          none stands.place (subst (λ (cs : List ℕ). slice_get cs stands.place ≡ Some sync.colour) same_own stands.there)

      module _ (region : ℕ) (home : region ≡ (caller_of walked.script it.client).own) where
        -- the keys that are played
        abbrev keys : List Key
        keys = take (at sync.counts region) (line (journal_walked walked region sync.colour))

        same_keys : synced_keys walked it.client sync ≡ keys
        same_keys =
            ap (λ (r : ℕ). take (at sync.counts r) (line (journal_walked walked r sync.colour))) (sym home)

        pub all_stand : (decided : ℕ → ℕ → Decision) → AreDecidedBelow walked it.stamp decided → All (StandsDecided walked decided) keys
        all_stand decided below =
            subst (All (StandsDecided walked decided)) same_keys
            (stands.stand decided (subst (λ (w : ℕ). AreDecidedBelow walked w decided) (sym at_stamp) below))

        pub it_says : (place : ℕ) → slice_get own place ≡ Some sync.colour → (key : Option Key)
            → key ≡ undecided_after (part_at own place) (decided_nodes walked keys) → (nobody : Key) → nobody ≡ key_or key
            → record { key = nobody; commits = commits } ≡ decisions_of walked.script walked.report it.client it.place
        it_says place there key waits nobody is_key =
            ap (λ (k : Key). let d : Decision = record { key = k; commits = commits } in d) (is_key ∙ (ap key_or waits
            ∙ (ap (λ (p : ℕ). key_or (undecided_after (part_at own p) (decided_nodes walked keys))) same_place
            ∙ (ap (λ (ks : List Key). key_or (undecided_after (part_at own stands.place) (decided_nodes walked ks))) (sym same_keys)
            ∙ ap (λ (cs : List ℕ). key_or (undecided_after (part_at cs stands.place)
            (decided_nodes walked (synced_keys walked it.client sync)))) (sym same_own)))))
            ∙ sym stands.says where
              same_place : place ≡ stands.place
              same_place =
                  place_one own are.differ place stands.place sync.colour there
                  (subst (λ (cs : List ℕ). slice_get cs stands.place ≡ Some sync.colour) same_own stands.there)
