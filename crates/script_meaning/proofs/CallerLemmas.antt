-- For those who do the commands: each state to which commands lead has a world of the script's shape that steps have
-- made.
use Rattle.std.proofs.Common.{◌≡◌, ℕ, List, [], ◌++◌, Option, Some, refl, ◌∙◌, ap, sym}
use Rattle.log_node.specs.declared.forms.Version.{Version}
use Rattle.log_node.specs.declared.ids.Colours.{Colours}
use Rattle.log_node.specs.declared.ids.Key.{Key}
use Rattle.object_form.specs.Forms.{AreVersions}
use Rattle.object_form.specs.Laws.{ReadsBack}
use Rattle.world_laws.specs.Worlds.{World}
use Rattle.world_laws.proofs.CallerLemmas.{run_grows}
use Rattle.script_text.specs.declared.script.Command.{Command}
use Rattle.script_text.specs.declared.script.Script.{Script}
use Rattle.script_text.specs.declared.script.Object.{Object}
use Rattle.script_text.specs.Fitting.{IsFitting}
use Rattle.report_text.specs.declared.report.SyncPiece.{SyncPiece}
use Rattle.script_meaning.specs.States.{State, Grants, no_reads, StopsAreLast}
use Rattle.script_meaning.specs.Meaning.{LeadTo, nothing, next, done}
use Rattle.script_meaning.specs.Appends.{with_single, appended}
use Rattle.script_meaning.specs.Parts.{decided_by}
use Rattle.script_meaning.specs.Telling.{ReadAnswer, appended_and_told}
use Rattle.script_meaning.proofs.Run.GrantedCommands.{append_extends, telling_extends, single_runs}
use Rattle.script_meaning.proofs.Run.DoneCommands.{done_extends}
use Rattle.script_meaning.proofs.Run.GrantedDecides.{by_goes}
use Rattle.script_meaning.proofs.Run.InvariantHolds.{runs_lead}
pub use Rattle.script_meaning.proofs.Tree.TreeLaws.{TreesReadBack}
pub use Rattle.script_meaning.proofs.World.Lines.{final_stays}
pub use Rattle.script_meaning.proofs.World.Rows.{standing_as}
pub use Rattle.script_meaning.proofs.Run.HelpGrants.{single_same, all_cleared_same}
pub use Rattle.script_meaning.proofs.Object.CausalAnswers.{causal_answer, one_answer}
pub use Rattle.script_meaning.proofs.Object.CausalNodes.{AtPlace, at_place, causal_node_is, place_within}
pub use Rattle.script_meaning.proofs.World.ChainNodes.{line_node}
pub use Rattle.script_meaning.proofs.Read.StampedEnds.{rising_line, keys_ordered, keys_listed, keys_stand}
pub use Rattle.script_meaning.proofs.Read.StampedReads.{stamp_low}
pub use Rattle.script_meaning.proofs.Object.ShardSets.{keys_set, shard_members, set_has, shard_below, shards_below, shards_has, key_in, rising_some, rising_below, own_below}
pub use Rattle.script_meaning.proofs.Run.GrantedSteps.{RunsTo, stays_there}
pub use Rattle.script_meaning.proofs.Run.GrantedReads.{read_runs}
pub use Rattle.script_meaning.proofs.Object.LaterNodes.{line_longer, nodes_stay, new_behind, whole_stamp, read_behind}
pub use Rattle.script_meaning.proofs.Object.ObjectKinds.{kind_colours, object_has, parts_of, queue_colour, queue_one, some_of}
pub use Rattle.script_meaning.proofs.World.Playing.{at_or}

pub lead_shape : (script : Script) {commands : List Command} {state : State} → LeadTo script commands state
    → state.world.shape ≡ script.shape
lead_shape script nothing = refl
lead_shape script (next {commands} {state} command grants leads) =
    let more = (done_extends script.objects grants state command).world in
    ap (λ (x : World). x.shape) (sym more.run)
    ∙ ((run_grows state.world more.steps).shape ∙ lead_shape script leads)

-- what a kept read found is such as the text of a transaction may name
pub reads_fit : ReadsBack → TreesReadBack → (script : Script) → IsFitting script → StopsAreLast script
    → {commands : List Command} {state : State} → LeadTo script commands state → (rest : List Command)
    → script.commands ≡ commands ++ rest → (client object : ℕ) (versions : List Version)
    → state.reads client object ≡ Some versions → AreVersions versions
reads_fit back tree script fits last leads rest is client object versions found =
    (runs_lead back tree script fits last leads rest is).versions client object versions found

-- what an append to one colour leads to, and that it leaves the shape
pub single_to : (grants : Grants) (w : World) (command : Command) (text : List ℕ) (c : ℕ)
    → RunsTo w (with_single grants w command.client text c)
single_to grants w command text c = single_runs [] grants (record { world = w; replies = λ _. []; reads = λ _. no_reads }) command text c

pub single_shape : (grants : Grants) (w : World) (command : Command) (text : List ℕ) (c : ℕ)
    → (with_single grants w command.client text c).shape ≡ w.shape
single_shape grants w command text c =
    let more = single_to grants w command text c in
    ap (λ (x : World). x.shape) (sym more.run) ∙ (run_grows w more.steps).shape

-- what an append leads to
pub append_to : (grants : Grants) (state : State) (command : Command) (colours : Colours) (text ms : List ℕ)
    → RunsTo state.world (appended grants state command colours text ms).world
append_to grants state command colours text ms = (append_extends [] grants state command colours text ms).world

-- what a command leads to
pub done_to : (objects : List Object) (grants : Grants) (state : State) (command : Command)
    → RunsTo state.world (done objects grants state command).world
done_to objects grants state command = (done_extends objects grants state command).world

-- what a decide leads to behind its sync
pub decided_to : (grants : Grants) (state : State) (command : Command) (colours : List ℕ) (sync : SyncPiece) (w : World)
    (waits : Option Key) → RunsTo w (decided_by grants state command colours sync w waits).world
decided_to grants state command colours sync w waits = (by_goes [] grants state command colours sync w waits).world

-- what a command leads to that is told what becomes of its node
pub told_to : (tells : ReadAnswer) (objects : List Object) (grants : Grants) (state : State) (command : Command) (object : ℕ)
    (set : Colours) (text : List ℕ)
    → RunsTo state.world (appended_and_told tells objects grants state command object set text).world
told_to tells objects grants state command object set text =
    (telling_extends objects grants state command tells object set text).world
