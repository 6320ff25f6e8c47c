-- What a command does to a client that keeps reads of objects, and which of them it is left with.
use Rattle.std.proofs.Common.{◌≡◌, ◌⊎◌, ℕ, List, Option, Some, None, ap, sym, ◌∙◌, eq-eqb}
use Rattle.std.specs.Prelude.{◌≢◌, ◌==◌}
use mathlib.Core.Path.{fun_ext}
use Rattle.log_node.specs.declared.forms.Version.{Version}
use Rattle.log_node.specs.Seen.{PlacedNode}
use Rattle.col_core.specs.Keeping.{Kept, nothing_kept, updated, with_read}
use Rattle.col_core.proofs.CallerLemmas.{if_true, if_false}
use Rattle.world_laws.specs.declared.steps.Step.{Step}
use Rattle.world_laws.specs.Worlds.{World, home_of, run_steps}
use Rattle.world_laws.specs.Laws.{log_of}
use Rattle.world_laws.proofs.CallerLemmas.{at_updated}
use Rattle.script_text.specs.declared.commands.What.{What}
use Rattle.script_text.specs.declared.commands.What.TheVariants as whats
use Rattle.script_text.specs.declared.script.Object.{Object}
use Rattle.script_text.specs.declared.uses.ReadUse.TheVariants.{Takes, UsesUp}
use Rattle.script_text.specs.declared.uses.Use.{Use}
use Rattle.script_text.specs.declared.uses.Use.TheVariants.{OfObject}
use Rattle.script_text.specs.Commands.{use_of}
use Rattle.report_text.specs.declared.report.Answer.{Answer}
use Rattle.report_text.specs.declared.report.Answer.TheVariants as answers
use Rattle.report_text.specs.declared.report.KeyAnswer.{KeyAnswer}
use Rattle.report_text.specs.declared.report.RaisePiece.{RaisePiece}
use Rattle.report_text.specs.declared.report.SyncPiece.{SyncPiece}
use Rattle.lawful_run.specs.Explains.{Explains}
use Rattle.lawful_run.specs.Refusals.{before_by, behind_by, kept_before, kept_behind}
use Rattle.lawful_run.proofs.CallerLemmas.{before_is, behind_is, explained_keeps}
use Rattle.script_meaning.specs.States.{LastReads, reads_left}
use Rattle.script_meaning.proofs.World.Additions.{Adds}
use Rattle.script_meaning.proofs.Client.Kept.{caller_in, IsKeptBy, MadeBy, Does}

-- The reads of which nothing is said

-- what reads of an object are kept, the world does not show
with_any : (w : World) (client : ℕ) (kept : Kept) (object : ℕ) (found : Option (List Version)) → IsKeptBy w client kept
    → IsKeptBy w client (with_read kept object found)
with_any w client kept object found k = record {
  floor = k.floor;
  starts = k.starts;
  seen = k.seen;
  known = k.known;
  made = k.made;
  ids = k.ids;
  rows = k.rows;
}

pub before_kept : (w : World) (client : ℕ) (what : What) (kept : Kept) → IsKeptBy w client kept
    → IsKeptBy w client (kept_before what kept)
before_kept w client what kept k =
    before_is (IsKeptBy w client) what kept k (λ object. with_any w client kept object None k)

pub behind_kept : (w : World) (client : ℕ) (what : What) (kept : Kept) → IsKeptBy w client kept
    → IsKeptBy w client (kept_behind what kept)
behind_kept w client what kept k =
    behind_is (IsKeptBy w client) what kept k (λ object. with_any w client kept object None k)

pub without_read : (w : World) (client : ℕ) (kept : Kept) (object : ℕ) → IsKeptBy w client kept
    → IsKeptBy w client (with_read kept object None)
without_read w client kept object k = with_any w client kept object None k

pub found_kept : (w : World) (client : ℕ) (kept : Kept) (object : ℕ) (versions : List Version)
    → IsKeptBy w client kept → IsKeptBy w client (with_read kept object (Some versions))
found_kept w client kept object versions k = with_any w client kept object (Some versions) k

-- what is found comes in place of none
pub found_anew : (reads : LastReads) (object : ℕ) (found : List Version)
    → updated (updated reads object None) object (Some found) ≡ updated reads object (Some found)
found_anew reads object found = fun_ext (λ n.
    at_updated (λ (r : Option (List Version)). r ≡ updated reads object (Some found) n) (updated reads object None) object
    (Some found) n (λ e. sym (if_true (n == object) (Some found) (reads n) (eq-eqb n object e)))
    (λ f. if_false (n == object) None (reads n) f ∙ sym (if_false (n == object) (Some found) (reads n) f)))

-- What is left

-- a command that found nothing leaves the reads that are meant
left_is : (what : What) (kept after : Kept) (reads : LastReads) → kept.reads ≡ reads
    → after.reads ≡ (kept_before what kept).reads → (kept_behind what after).reads ≡ reads_left what reads
left_is what kept after reads same = by (use_of what) where
  by : (u : Use) → after.reads ≡ (before_by u kept).reads
      → (behind_by u after).reads ≡ (behind_by u (before_by u (record nothing_kept { reads = reads }))).reads
  by (OfObject object Takes) stays = stays ∙ ap (λ (r : LastReads). updated r object None) same
  by (OfObject object UsesUp) stays = ap (λ (r : LastReads). updated r object None) (stays ∙ same)
  by _ stays = stays ∙ same

without : (reads : LastReads) (object other : ℕ) (versions : List Version)
    → updated reads object None other ≡ Some versions → reads other ≡ Some versions
without reads object other versions =
    at_updated (λ (r : Option (List Version)). r ≡ Some versions → reads other ≡ Some versions) reads object None other
    (λ _ e. absurd (let f : ⊥ = cc in f)) (λ _ e. e)

-- no read comes by a command that found nothing
pub left_before : (what : What) (reads : LastReads) (other : ℕ) (versions : List Version)
    → reads_left what reads other ≡ Some versions → reads other ≡ Some versions
left_before what reads other versions = by (use_of what) where
  by : (u : Use) → (behind_by u (before_by u (record nothing_kept { reads = reads }))).reads other ≡ Some versions
      → reads other ≡ Some versions
  by (OfObject object Takes) e = without reads object other versions e
  by (OfObject object UsesUp) e = without reads object other versions e
  by _ e = e

-- What a command does

-- what the client then keeps, and that it is left with these reads
pub record KeptOver (w : World) (objects : List Object) (client : ℕ) (kept : Kept) (what : What) (answer : Answer)
    (nodes : List PlacedNode) (left : LastReads) : Type 0 where
  pub after : Kept
  pub keeps : IsKeptBy w client after
  pub explains : Explains (log_of w) (caller_in w objects client) (kept_before what kept) what answer nodes after
  pub reads : (kept_behind what after).reads ≡ left

-- a command of a client that keeps these reads, with its answer, between two worlds; and the reads that it is left with
pub record DoesOver (objects : List Object) (client : ℕ) (what : What) (w w' : World) (answer : Answer)
    (nodes : List PlacedNode) (reads left : LastReads) : Type 0 where
  pub steps : List Step
  pub run : run_steps w steps ≡ w'
  pub shape : w'.shape ≡ w.shape
  pub others : (n : ℕ) → n ≢ client → w'.clients n ≡ w.clients n
  pub adds : (r c : ℕ) → Adds (MadeBy client what w' (home_of w client) r) (w.histories r c) (w'.histories r c)
  pub keeps : (kept : Kept) → IsKeptBy w client kept → kept.reads ≡ reads
      → KeptOver w' objects client kept what answer nodes left

-- the answer does not tell of a read that found something
abbrev pub FindsNone : What → Answer → Type 0
FindsNone what answer = ((object : ℕ) (asked : List (List ℕ)) → what ≢ whats.Read object asked)
    ⊎ ((stamp : ℕ) (shown : List KeyAnswer) (raises : List RaisePiece) (syncs : List SyncPiece)
    → answer ≢ answers.GotKeys stamp shown raises syncs)

-- a command that found nothing, and may rest on what the client keeps of its reads
pub record LeavesReads (objects : List Object) (client : ℕ) (what : What) (w w' : World) (answer : Answer)
    (nodes : List PlacedNode) (reads : LastReads) : Type 0 where
  pub steps : List Step
  pub run : run_steps w steps ≡ w'
  pub shape : w'.shape ≡ w.shape
  pub others : (n : ℕ) → n ≢ client → w'.clients n ≡ w.clients n
  pub adds : (r c : ℕ) → Adds (MadeBy client what w' (home_of w client) r) (w.histories r c) (w'.histories r c)
  pub keeps : (kept : Kept) → IsKeptBy w client kept → kept.reads ≡ reads
      → (after : Kept) × IsKeptBy w' client after
      × Explains (log_of w') (caller_in w' objects client) (kept_before what kept) what answer nodes after

pub over_reads : (objects : List Object) (client : ℕ) (what : What) (w w' : World) (answer : Answer)
    (nodes : List PlacedNode) (reads : LastReads) → FindsNone what answer
    → LeavesReads objects client what w w' answer nodes reads
    → DoesOver objects client what w w' answer nodes reads (reads_left what reads)
over_reads objects client what w w' answer nodes reads none d = record {
  steps = d.steps;
  run = d.run;
  shape = d.shape;
  others = d.others;
  adds = d.adds;
  keeps = λ kept k same.
      let a = d.keeps kept k same in record {
        after = a.0;
        keeps = a.1;
        explains = a.2;
        reads = left_is what kept a.0 reads same
            (explained_keeps (log_of w') (caller_in w' objects client) (kept_before what kept) what answer nodes a.0 a.2
            none);
      };
}

-- a command that found nothing, whatever reads are kept
pub over_any : (objects : List Object) (client : ℕ) (what : What) (w w' : World) (answer : Answer)
    (nodes : List PlacedNode) (reads : LastReads) → FindsNone what answer
    → Does objects client what w w' answer nodes
    → DoesOver objects client what w w' answer nodes reads (reads_left what reads)
over_any objects client what w w' answer nodes reads none d =
    over_reads objects client what w w' answer nodes reads none (record {
      steps = d.steps;
      run = d.run;
      shape = d.shape;
      others = d.others;
      adds = d.adds;
      keeps = λ kept k _.
          let a = d.keeps (kept_before what kept) (before_kept w client what kept k) in (a.after, a.keeps, a.explains);
    })
