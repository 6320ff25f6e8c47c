-- A decide: steps lead to the state behind it, and where it finds memory it does what it does with memory granted everywhere.
use Rattle.std.proofs.Common.{◌≡◌, ℕ, List, [], ◌∷◌, map, Option, Some, None, Bool, cond, refl, ap, ◌∙◌}
use Rattle.log_node.specs.declared.ids.Key.{Key}
use Rattle.object_fold.specs.Nodes.{shard_of}
use Rattle.part_fold.specs.Decisions.{decision_text}
use Rattle.part_fold.specs.Parts.{undecided_after}
use Rattle.col_core.proofs.CallerLemmas.{choice}
use Rattle.world_laws.specs.declared.steps.Step.TheVariants.{Play}
use Rattle.world_laws.specs.Worlds.{World, next_id, may_single, single_stamp, may_play, after}
use Rattle.script_text.specs.declared.script.Object.{Object}
use Rattle.script_text.specs.declared.script.Command.{Command}
use Rattle.report_text.specs.declared.report.Answer.{Answer}
use Rattle.report_text.specs.declared.report.Answer.TheVariants as answers
use Rattle.report_text.specs.declared.report.Ended.{Ended}
use Rattle.report_text.specs.declared.report.Ended.TheVariants as ends
use Rattle.report_text.specs.declared.report.RaisePiece.{RaisePiece}
use Rattle.report_text.specs.declared.report.SyncPiece.{SyncPiece}
use Rattle.lawful_run.specs.Asks.{colours_of_object, rising}
use Rattle.script_meaning.specs.States.{State, Grants, all_granted, answered}
use Rattle.script_meaning.specs.Appends.{point_in, with_single}
use Rattle.script_meaning.specs.Stamped.{ReadEnd, Whole, Refused, Unraised, StampedRead, stamped_read, ended_so}
use Rattle.script_meaning.specs.Objects.{caller_in}
use Rattle.script_meaning.specs.Dequeues.{object_node_at, sync_now, base_now}
use Rattle.script_meaning.specs.Parts.{part_of, nodes_now, commits_among, decision_ended, decided_in, decided_by, decided}
use Rattle.script_meaning.proofs.Run.GrantedCommands.{GoesOn, Extends, HadMemory, goes_before, answer_goes, answers_so, by_sides, by_grant, end_goes, told, told_so, single_runs, single_exact}
use Rattle.script_meaning.proofs.Run.GrantedReads.{IsRaised, read_runs, read_exact}
use Rattle.script_meaning.proofs.Run.GrantedSteps.{RunsTo, clean_from}

module _ (objects : List Object) (grants : Grants) (state : State) (command : Command) where
  abbrev u : ℕ
  u = command.client

  abbrev w : World
  w = state.world

  -- THE APPEND

  module _ (waits : Key) (sync : SyncPiece) (v : World) (stamp : ℕ) (raises : List RaisePiece) (syncs : List SyncPiece)
      (keys : List Key) where
    abbrev commits : Bool
    commits = commits_among (map (object_node_at v) keys) waits

    abbrev said : List ℕ
    said = decision_text (record { key = waits; commits = commits })

    abbrev tells : Ended → Answer
    tells = answers.Decided commits waits.stamp sync stamp raises syncs

    abbrev there : State
    there = record state { world = v }

    abbrev stood_in : World → State
    stood_in y = answered state command y
        (tells (ends.Stood (single_stamp v u sync.colour) (point_in v y u (next_id v u) sync.colour))) []

    abbrev no_stamp : State
    no_stamp = answered state command v (tells (ends.StampEnd sync.colour)) []

    abbrev no_memory : State
    no_memory = answered state command v (tells ends.NoMemory) []

    abbrev appended : Grants → World
    appended g = with_single g v u said sync.colour

    stood_goes : GoesOn v state (stood_in (appended grants))
    stood_goes =
        let y = appended grants in
        answer_goes state command y
        (tells (ends.Stood (single_stamp v u sync.colour) (point_in v y u (next_id v u) sync.colour))) []
        (single_runs objects grants there command said sync.colour)

    ended_goes : GoesOn v state (decided_in grants state command waits sync v stamp raises syncs keys)
    ended_goes =
        choice (GoesOn v state) grants.own (cond (may_single v u sync.colour) (stood_in (appended grants)) no_stamp) no_memory
        (λ _. choice (GoesOn v state) (may_single v u sync.colour) (stood_in (appended grants)) no_stamp (λ _. stood_goes)
        (λ _. answers_so objects grants state command v (tells (ends.StampEnd sync.colour))))
        (λ _. answers_so objects grants state command v (tells ends.NoMemory))

    ended_exact : HadMemory u (decided_in grants state command waits sync v stamp raises syncs keys)
        → decided_in grants state command waits sync v stamp raises syncs keys
        ≡ decided_in all_granted state command waits sync v stamp raises syncs keys
    ended_exact =
        by_grant grants.own (cond (may_single v u sync.colour) (stood_in (appended grants)) no_stamp) no_memory
        (cond (may_single v u sync.colour) (stood_in (appended all_granted)) no_stamp)
        (by_sides (may_single v u sync.colour) (stood_in (appended grants)) no_stamp (stood_in (appended all_granted)) no_stamp
        (λ stood. ap stood_in (single_exact objects grants there command said sync.colour
        (clean_from (appended grants) _ (answers_so objects grants state command (appended grants)
        (tells (ends.Stood (single_stamp v u sync.colour)
        (point_in v (appended grants) u (next_id v u) sync.colour)))).world stood.clean)))
        (λ _. refl))
        (λ had. (told objects grants state command v (tells ends.NoMemory) had).decided commits waits.stamp sync stamp raises
        syncs refl)

  -- BEHIND THE SYNC

  abbrev behind : Grants
  behind = record grants { helps = grants.read_helps }

  module _ (colours : List ℕ) (sync : SyncPiece) (v : World) where
    by_end_exact : (waits : Key) (x : World) (e : ReadEnd)
        → HadMemory u (ended_so grants state command (decided_in grants state command waits sync x) x e)
        → IsRaised e × (ended_so grants state command (decided_in grants state command waits sync x) x e
        ≡ ended_so all_granted state command (decided_in all_granted state command waits sync x) x e)
    by_end_exact waits x (Whole stamp raises syncs keys) had = (
      tt,
      by_grant grants.items (decided_in grants state command waits sync x stamp raises syncs keys)
          (answered state command x answers.NoMemory [])
          (decided_in all_granted state command waits sync x stamp raises syncs keys)
          (ended_exact waits sync x stamp raises syncs keys) (told_so objects grants state command x) had,
    )
    by_end_exact waits x (Refused colour base) had = (tt, refl)
    by_end_exact waits x Unraised had = absurd (told_so objects grants state command x had)

    pub by_goes : (waits : Option Key) → GoesOn v state (decided_by grants state command colours sync v waits)
    by_goes None = answers_so objects grants state command v (answers.Got None sync)
    by_goes (Some waits) =
        let read = stamped_read behind v u (rising colours) in
        goes_before v read.world (read_runs behind v u (rising colours))
        (end_goes objects grants state command (λ x. decided_in grants state command waits sync x)
        (λ x. ended_goes waits sync x) read.world read.ends)

    by_exact : (waits : Option Key) → HadMemory u (decided_by grants state command colours sync v waits)
        → decided_by grants state command colours sync v waits ≡ decided_by all_granted state command colours sync v waits
    by_exact None had = refl
    by_exact (Some waits) had =
        let read = stamped_read behind v u (rising colours) in
        let ended = by_end_exact waits read.world read.ends had in
        ended.1
        ∙ ap (λ (r : StampedRead).
        ended_so all_granted state command (decided_in all_granted state command waits sync r.world) r.world r.ends)
        (read_exact behind v u (rising colours)
        (clean_from read.world _ (end_goes objects grants state command (λ x. decided_in grants state command waits sync x)
        (λ x. ended_goes waits sync x) read.world read.ends).world had.clean) ended.0)

  -- ALL OF IT

  module _ (object : ℕ) (key : List ℕ) where
    abbrev its : List ℕ
    its = colours_of_object (caller_in w objects u) object

    abbrev c : ℕ
    c = shard_of its key

    abbrev played : World
    played = after w (Play u c)

    abbrev waits : Option Key
    waits = undecided_after (part_of its key) (nodes_now w u c)

    abbrev trimmed : State
    trimmed = answered state command w (answers.Trimmed c (base_now w u c)) []

    pub decide_extends : Extends state (decided objects grants state command object key)
    decide_extends =
        choice (Extends state) (may_play w u c) (decided_by grants state command its (sync_now w u c) played waits) trimmed
        (λ _. goes_before w played (record { steps = Play u c ∷ []; run = refl }) (by_goes its (sync_now w u c) played waits))
        (λ _. answers_so objects grants state command w (answers.Trimmed c (base_now w u c)))

    pub decide_exact : HadMemory u (decided objects grants state command object key)
        → decided objects grants state command object key ≡ decided objects all_granted state command object key
    decide_exact =
        by_sides (may_play w u c) (decided_by grants state command its (sync_now w u c) played waits) trimmed
        (decided_by all_granted state command its (sync_now w u c) played waits) trimmed
        (by_exact its (sync_now w u c) played waits) (λ _. refl)
