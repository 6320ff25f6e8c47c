-- What a served command leaves, by what its call left.
use Rattle.std.proofs.Common.{◌≡◌, ◌⊎◌, ℕ, List, [], length, Option, None, refl, ap, sym, subst, ◌∙◌, inl}
use Rattle.std.specs.Prelude.{IsTrue}
use Rattle.log_node.specs.declared.forms.Version.{Version}
use Rattle.log_node.specs.declared.ids.Counts.{Counts}
use Rattle.log_node.specs.Seen.{PlacedNode}
use Rattle.col_core.specs.Keeping.{Kept, nothing_kept, with_read}
use Rattle.col_core.specs.Log.{Log}
use Rattle.script_text.specs.Items.{is_stop}
use Rattle.script_text.specs.declared.script.Object.{Object}
use Rattle.script_text.specs.declared.commands.What.{What}
use Rattle.script_text.specs.declared.commands.What.TheVariants as whats
use Rattle.report_text.specs.declared.report.Answer.{Answer}
use Rattle.report_text.specs.declared.report.Answer.TheVariants as answers
use Rattle.lawful_run.specs.Asks.{home_asked, may_help}
use Rattle.lawful_run.specs.Callers.{Caller}
use Rattle.lawful_run.specs.Deeds.{manner_of}
use Rattle.lawful_run.specs.Explains.{Explains}
use Rattle.lawful_run.specs.Reads.{IsTrimmed}
use Rattle.lawful_run.specs.Refusals.{IsAway, IsHomeRefusal, kept_before, kept_behind}
use Rattle.lawful_run.proofs.CallerLemmas.{before_is, behind_is}
use Rattle.client_law.specs.Knowing.{Rest, log_seen}
use Rattle.log_client.specs.declared.store.Store.{Store}
use Rattle.log_client.specs.declared.client.Client.{Client}
use Rattle.log_client.specs.declared.answers.Synced.{Synced}
use Rattle.log_client.specs.declared.faults.SyncFault.TheVariants as sync_faults
use Rattle.log_client.specs.Fits.{FitsHolds, HaveGoneOn}
use Rattle.log_client.specs.Growing.{HasGrown}
use Rattle.log_client.specs.Clients.{IsClient, Finished, Helps, Keeps, caller_of, holds_of, seen_of}
use Rattle.log_client.specs.Calls.{DidNothing, IsExplained, IsSame, SyncsAs, SyncRefused, nodes_played}
use Rattle.log_client.proofs.CallerLemmas.{fits_less}
use Rattle.run_script.specs.Serving.{ServesLog, HasServed, IsStopped}
use Rattle.run_script.proofs.CommandAnswers.{IsOfLog, no_memory, of_log, synced, sync_trimmed}

-- what a read found is no matter of what the client has seen
pub keeps_read : (s : Store) (c : Client) (objects : List Object) (kept : Kept) (object : ℕ) (found : Option (List Version))
    → Keeps s c objects kept → Keeps s c objects (with_read kept object found)
keeps_read s c objects kept object found keeps = record {
  by = record {
    seen_within = keeps.by.seen_within;
    known_within = keeps.by.known_within;
    known_under = keeps.by.known_under;
    starts_under = keeps.by.starts_under;
    starts_reached = keeps.by.starts_reached;
    steps_made = keeps.by.steps_made;
  };
  floor = keeps.floor;
  ids = keeps.ids;
  rows = keeps.rows;
  starts = keeps.starts;
}

-- a client that is the same did nothing
pub did_nothing : (s : Store) (c d : Client) → d ≡ c → DidNothing s c d
did_nothing s c d e =
    λ of kept done keeps. (kept, subst (λ (x : Client). Keeps s x of kept) (sym e) keeps, λ rest fits. refl)

-- Of more that is known of what was kept follows more of what is kept behind the command.
pub knowing : {Known : Kept → Type 0} {Behind : Kept → Kept → Type 0} (s : Store) (objects : List Object) (c d : Client)
    (what : What) (answer : Answer) (nodes : List PlacedNode) (More : Kept → Type 0) (Then : Kept → Kept → Type 0)
    → HasServed s objects c d what answer nodes Known Behind → ((kept : Kept) → More kept → Known kept)
    → ((kept answered : Kept) (rest : Rest) → More kept → FitsHolds (holds_of c) rest
    → Explains (log_seen (seen_of d) rest) (caller_of s d objects) (kept_before what kept) what answer nodes answered
    → Behind kept (kept_behind what answered) → Then kept (kept_behind what answered))
    → HasServed s objects c d what answer nodes More Then
knowing s objects c d what answer nodes More Then v less says = record {
  rests = v.rests;
  same = v.same;
  goes = v.goes;
  grows = v.grows;
  explained = λ kept done keeps more.
      let e = v.explained kept done keeps (less kept more) in (
        e.0,
        e.1,
        λ rest fits.
            let r = e.2 rest fits in
            (r.0, says kept e.0 rest more (fits_less (holds_of c) (holds_of d) rest v.goes fits) r.0 r.1),
      );
  away = v.away;
  finished = v.finished;
  helps = v.helps;
}

-- Whatever a finished client kept before the call, the record holds with what it then keeps, of the log that it has then seen.
abbrev pub IsLeft : Store → List Object → Client → Client → (Log → Kept → Kept → Type 0) → Type 0
IsLeft s objects c d Record =
    (kept : Kept) → Finished c → Keeps s c objects kept → (after : Kept) × Keeps s d objects after
    × ((rest : Rest) → FitsHolds (holds_of d) rest → Record (log_seen (seen_of d) rest) kept after)

-- nothing is known of what was kept, and nothing is said of what is kept behind it
abbrev pub Any : Kept → Type 0
Any kept = Unit {0}

abbrev pub Nothing : Kept → Kept → Type 0
Nothing kept after = Unit {0}

module _ (s : Store) (c d : Client) (rests : IsClient s d) (same : IsSame c d)
    (goes : HaveGoneOn (holds_of c) (holds_of d)) (grows : HasGrown c d) where
  -- by a record that explains the answer, where this is known of what was kept
  pub served : (objects : List Object) (what : What) (answer : Answer) (nodes : List PlacedNode) (Known : Kept → Type 0)
      (Behind : Kept → Kept → Type 0) (Record : Log → Kept → Kept → Type 0)
      → (IsAway (caller_of s d objects) (home_asked (caller_of s d objects) what) → IsHomeRefusal answer)
      → (Finished c → Finished d ⊎ (IsTrue (is_stop what) × IsStopped answer))
      → (Helps d → Helps c ⊎ IsTrue (may_help (manner_of what))) → IsLeft s objects c d Record
      → ((kept after : Kept) (rest : Rest) → Known kept → FitsHolds (holds_of c) rest
      → Record (log_seen (seen_of d) rest) (kept_before what kept) after
      → Explains (log_seen (seen_of d) rest) (caller_of s d objects) (kept_before what kept) what answer nodes after
      × Behind kept (kept_behind what after))
      → HasServed s objects c d what answer nodes Known Behind
  served objects what answer nodes Known Behind Record away finished helps is explains = record {
    rests = rests;
    same = same;
    goes = goes;
    grows = grows;
    explained = λ kept done keeps known.
        let e = is (kept_before what kept) done
        (before_is (Keeps s c objects) what kept keeps (λ n. keeps_read s c objects kept n None keeps)) in (
          e.0,
          behind_is (Keeps s d objects) what e.0 e.1 (λ n. keeps_read s d objects e.0 n None e.1),
          λ rest fits.
              explains kept e.0 rest known (fits_less (holds_of c) (holds_of d) rest goes fits) (e.2 rest fits),
        );
    away = away;
    finished = finished;
    helps = helps;
  }

  -- to a command of the log
  pub gives_so : (what : What) (answer : Answer) (nodes : List PlacedNode) (Record : Log → Caller → Kept → Kept → Type 0)
      → IsOfLog what → (Finished c → Finished d ⊎ (IsTrue (is_stop what) × IsStopped answer))
      → (Helps d → Helps c ⊎ IsTrue (may_help (manner_of what))) → IsExplained s c d Record
      → ((log : Log) (caller : Caller) (kept after : Kept) → Record log caller kept after
      → Explains log caller kept what answer nodes after)
      → ServesLog s c d what answer nodes
  gives_so what answer nodes Record log_alone finished helps is explains = record {
    of = λ objects.
        served objects what answer nodes Any Nothing (λ log. Record log (caller_of s d objects))
        (λ away. absurd ((of_log what nothing_kept log_alone).2 (caller_of s d objects) away)) finished helps (is objects)
        (λ kept after rest known fits r. (
          explains (log_seen (seen_of d) rest) (caller_of s d objects) (kept_before what kept) after r,
          tt,
        ));
  }

  -- to one that helped nobody and began nothing
  module _ (finished : Finished c → Finished d) (idle : Helps d → Helps c) where
    pub gives : (what : What) (answer : Answer) (nodes : List PlacedNode) (Record : Log → Caller → Kept → Kept → Type 0)
        → IsOfLog what → IsExplained s c d Record
        → ((log : Log) (caller : Caller) (kept after : Kept) → Record log caller kept after
        → Explains log caller kept what answer nodes after)
        → ServesLog s c d what answer nodes
    gives what answer nodes Record of =
        gives_so what answer nodes Record of (λ done. inl (finished done)) (λ helps. inl (idle helps))

    pub gives_sync : (colour plays : ℕ) (y : Synced) (nodes : List PlacedNode) → nodes ≡ nodes_played d colour y
        → plays ≡ length nodes → IsExplained s c d (SyncsAs d colour y)
        → ServesLog s c d (whats.Sync colour)
        (answers.Synced (record { colour = colour; events = y.events; counts = y.snapshot.counts }) plays) nodes
    gives_sync colour plays y nodes are many is =
        let shown = nodes_played d colour y in
        let answer = answers.Synced (record { colour = colour; events = y.events; counts = y.snapshot.counts }) plays in
        gives (whats.Sync colour) answer nodes (SyncsAs d colour y) refl is
        (λ log caller kept after r.
        subst (λ (ns : List PlacedNode). Explains log caller kept (whats.Sync colour) answer ns after) (sym are)
        (synced log caller kept after colour y.events plays y.snapshot.counts shown (many ∙ ap length are) r.0 r.1 r.2))

    pub gives_sync_trimmed : (colour shown : ℕ) (base : Counts) → SyncRefused s c d colour (sync_faults.Trimmed shown base)
        → ServesLog s c d (whats.Sync colour) (answers.Trimmed shown base) []
    gives_sync_trimmed colour shown base is =
        subst (λ (k : ℕ). ServesLog s c d (whats.Sync colour) (answers.Trimmed k base) []) (sym is.0)
        (gives (whats.Sync colour) (answers.Trimmed colour base) []
        (λ log caller kept after. IsTrimmed log caller kept colour base × (after ≡ kept)) refl is.1
        (λ log caller kept after r. sync_trimmed log caller kept after colour base r.0 r.1))

    pub gives_nothing : (what : What) → IsOfLog what → DidNothing s c d → ServesLog s c d what answers.NoMemory []
    gives_nothing what of is =
        gives what answers.NoMemory [] (λ log caller kept after. after ≡ kept) of is
        (λ log caller kept after r. no_memory log caller kept after what r)
