-- What a client gives to appends, stops, pulls and trims, by what its calls left.
use Rattle.std.proofs.Common.{◌≡◌, ◌≢◌, ◌⊎◌, ℕ, ◌+◌, ◌*◌, ◌^◌, ◌<◌, ◌≤◌, List, [], length, map, true, Some, None, Err, refl, ap, sym, subst, ◌∙◌, inl, inr, arith}
use Rattle.std.specs.Prelude.{Result}
use Rattle.std.specs.List.{range_with_len}
use Rattle.std.proofs.lemmas.List.Elements.{All-contains}
use Rattle.log_node.specs.declared.ids.Colours.{Colours}
use Rattle.log_node.specs.declared.ids.Counts.{Counts}
use Rattle.log_node.specs.declared.node.At.{At}
use Rattle.log_node.specs.declared.limits.TheConstants.{MAX_COLOURS}
use Rattle.log_node.specs.Sets.{has, members}
use Rattle.log_node.proofs.CallerLemmas.{has-low}
use Rattle.col_core.specs.Keeping.{Kept}
use Rattle.col_core.specs.Log.{Log}
use Rattle.col_core.proofs.CallerLemmas.{in_filter-back, contains_in}
use Rattle.script_text.specs.Fitting.{AreBelow, HasColours}
use Rattle.script_text.specs.declared.commands.What.{What}
use Rattle.script_text.specs.declared.commands.What.TheVariants as whats
use Rattle.report_text.specs.declared.report.Answer.{Answer}
use Rattle.report_text.specs.declared.report.Answer.TheVariants as answers
use Rattle.lawful_run.specs.Callers.{Caller, node_of}
use Rattle.lawful_run.specs.Appends.{HasNoStamp, HasNoRowLeft}
use Rattle.lawful_run.specs.Explains.{Explains}
use Rattle.lawful_run.specs.Stops.{Stops}
use Rattle.client_law.specs.Knowing.{log_seen}
use Rattle.append_core.specs.declared.several.MultiFault.{MultiFault}
use Rattle.append_core.specs.declared.several.MultiFault.TheVariants as faults
use Rattle.region_pull.specs.declared.pulled.Pulled.{Pulled}
use Rattle.region_pull.specs.declared.pulled.PullFault.TheVariants as pull_faults
use Rattle.lawful_run.specs.Moves.{TrimsBy}
use Rattle.log_client.specs.declared.store.Store.{Store}
use Rattle.log_client.specs.declared.client.Client.{Client}
use Rattle.log_client.specs.declared.answers.Appended.{Appended}
use Rattle.log_client.specs.Fits.{HaveGoneOn}
use Rattle.log_client.specs.Growing.{HasGrown}
use Rattle.log_client.specs.Clients.{IsClient, Finished, Helps, Keeps, caller_of, holds_of, seen_of, starts_of}
use Rattle.log_client.specs.Calls.{IsExplained, IsSame, PullsAs, PullRefused, GaveAlone, TrimsAs}
use Rattle.log_client.specs.Appends.{AppendsAs, AppendRefused, AreColoursOf, IsStopWithin, AppendFindsNoMemory, AppendStopped, piece_of}
use Rattle.log_client.proofs.CallerLemmas.{rests_same}
use Rattle.run_script.specs.Serving.{ServesLog}
use Rattle.run_script.proofs.CommandAnswers as commands
use Rattle.run_script.proofs.CommandAnswers.{IsOfLog}
use Rattle.run_script.proofs.Giving.{did_nothing, gives, gives_nothing, gives_so}
use Rattle.col_core.proofs.CallerLemmas.{range_has as in_range}

-- SETS OF COLOURS

-- what a set has is below what its members are below
pub has_below : (set : Colours) (n : ℕ) → AreBelow n set → set.0 < 2 ^ MAX_COLOURS → (c : ℕ) → has set c ≡ true → c < n
has_below set n all few c is =
    let low = has-low set c few is in
    All-contains (λ k. k < n) (members set) c all
    (contains_in (members set) c (in_filter-back (has set) c (range_with_len 0 MAX_COLOURS)
    (in_range 0 MAX_COLOURS c (omega arith) (omega (arith, low))) is))

-- a set of so many colours, all of the store
pub colours_of : (s : Store) (colours : Colours) (least : ℕ) → 1 ≤ least → HasColours least colours
    → AreBelow s.size.colours colours → AreColoursOf s colours
colours_of s colours least some has below =
    let many = has.many in record {
      some = omega (arith, some, many);
      within = has_below colours s.size.colours below has.bits;
    }

-- a stop of several colours, within its append
pub stop_within : (colours : Colours) (steps : ℕ) → HasColours 2 colours → steps ≤ 2 * length (members colours) + 2
    → IsStopWithin colours steps
stop_within colours steps has few = (has.many, few)

-- THE COMMANDS OF THE LOG

-- there is no other
pub log_commands : (what : What) → IsOfLog what → ((c : Colours) (t : List ℕ) → what ≡ whats.Append c t → ⊥)
    → ((n : ℕ) (c : Colours) (t : List ℕ) → what ≡ whats.Stop n c t → ⊥) → ((c : ℕ) → what ≡ whats.Sync c → ⊥)
    → ((c : Colours) → what ≡ whats.Scan c → ⊥) → ((r c : ℕ) → what ≡ whats.Pull r c → ⊥)
    → ((c : ℕ) → what ≡ whats.Trim c → ⊥) → ((c : ℕ) (t : List ℕ) → what ≡ whats.Only c t → ⊥) → ⊥
log_commands (whats.Append colours text) of append stop sync scan pull trim only = append colours text refl
log_commands (whats.Stop steps colours text) of append stop sync scan pull trim only = stop steps colours text refl
log_commands (whats.Sync colour) of append stop sync scan pull trim only = sync colour refl
log_commands (whats.Scan colours) of append stop sync scan pull trim only = scan colours refl
log_commands (whats.Pull region colour) of append stop sync scan pull trim only = pull region colour refl
log_commands (whats.Trim colour) of append stop sync scan pull trim only = trim colour refl
log_commands (whats.Only colour text) of append stop sync scan pull trim only = only colour text refl
log_commands _ of append stop sync scan pull trim only = let f : ⊥ = cc (of) in f

-- APPENDS

-- memory was refused before anything was asked of the client
pub gives_unasked : (s : Store) (c : Client) (what : What) → IsOfLog what → IsClient s c
    → ServesLog s c c what answers.NoMemory []
gives_unasked s c what of is =
    let on = rests_same s c is in
    gives_nothing s c c on.client on.same on.goes on.grows (λ done. done) (λ helps. helps) what of (did_nothing s c c refl)

-- an append that answered otherwise than that it stopped has left its client finished
pub not_stopped : (c d : Client) (result : Result Appended MultiFault)
    → ((steps : ℕ) → result ≢ Err (faults.Stopped steps)) → (Finished c → Finished d ⊎ AppendStopped result)
    → Finished c → Finished d
not_stopped c d result other finished done = elim (finished done) [
  | inl still ↦ still
  | inr stop ↦ absurd (other stop.0 stop.2)
]

module _ (s : Store) (c d : Client) (rests : IsClient s d) (same : IsSame c d)
    (goes : HaveGoneOn (holds_of c) (holds_of d)) (grows : HasGrown c d) where
  module _ (colours : Colours) (text : List ℕ) where
    -- an append, which may have helped
    gives_append : (answer : Answer) (Record : Log → Caller → Kept → Kept → Type 0) → (Finished c → Finished d)
        → IsExplained s c d Record
        → ((log : Log) (caller : Caller) (kept after : Kept) → Record log caller kept after
        → Explains log caller kept (whats.Append colours text) answer [] after)
        → ServesLog s c d (whats.Append colours text) answer []
    gives_append answer Record finished =
        gives_so s c d rests same goes grows (whats.Append colours text) answer [] Record refl (λ done. inl (finished done))
        (λ helps. inr refl)

    pub gives_stood : (a : Appended) → (Finished c → Finished d) → IsExplained s c d (AppendsAs colours text a)
        → ServesLog s c d (whats.Append colours text)
        (answers.Stood a.stood.key.stamp a.row (map piece_of a.stood.points)) []
    gives_stood a finished is =
        gives_append (answers.Stood a.stood.key.stamp a.row (map piece_of a.stood.points)) (AppendsAs colours text a) finished
        is
        (λ log caller kept after r.
        commands.stood log caller kept after colours text a.stood.key.stamp a.row (map piece_of a.stood.points) r.2)

    pub gives_full : (used : ℕ) → (Finished c → Finished d)
        → AppendRefused s c d colours text None (faults.Full used)
        → ServesLog s c d (whats.Append colours text) (answers.Full used) []
    gives_full used finished is =
        gives_append (answers.Full used) (λ log caller kept after. HasNoRowLeft caller kept colours used × (after ≡ kept)) finished
        is.1
        (λ log caller kept after r. commands.full log caller kept after colours text used r.0 r.1)

    pub gives_ended : (colour : ℕ) → (Finished c → Finished d)
        → AppendRefused s c d colours text None (faults.StampEnd colour)
        → ServesLog s c d (whats.Append colours text) (answers.StampEnd colour) []
    gives_ended colour finished is =
        gives_append (answers.StampEnd colour)
        (λ log caller kept after. HasNoStamp log caller kept (node_of caller kept colours text) colour after) finished is.1
        (λ log caller kept after r. commands.ended log caller kept after colours text colour r)

    pub gives_gone : (Finished c → Finished d) → AppendRefused s c d colours text None faults.NoMemory
        → ServesLog s c d (whats.Append colours text) answers.NoMemory []
    gives_gone finished is =
        gives_append answers.NoMemory (AppendFindsNoMemory colours text None) finished is
        (λ log caller kept after r. elim r [
          | inl none ↦ commands.no_memory log caller kept after (whats.Append colours text) none
          | inr gone ↦ commands.gone_for_memory log caller kept after colours text gone.1 gone.2 gone.3
        ])

    -- STOPS

    module _ (steps : ℕ) (idle : Helps d → Helps c) where
      pub gives_full_stop : (used : ℕ) → steps ≢ 0 → (Finished c → Finished d)
          → AppendRefused s c d colours text (Some steps) (faults.Full used)
          → ServesLog s c d (whats.Stop steps colours text) (answers.Full used) []
      gives_full_stop used later finished is =
          gives s c d rests same goes grows finished idle (whats.Stop steps colours text) (answers.Full used) []
          (λ log caller kept after. HasNoRowLeft caller kept colours used × (after ≡ kept)) refl is.1
          (λ log caller kept after r. commands.full_stop log caller kept after colours text steps used later r.0 r.1)

      pub gives_stopped : (shown : ℕ) → AppendRefused s c d colours text (Some steps) (faults.Stopped shown)
          → ServesLog s c d (whats.Stop steps colours text) (answers.Stopped shown) []
      gives_stopped shown is =
          let so : steps ≡ shown = (let e = is.0 in cc (e)) in
          subst (λ (k : ℕ). ServesLog s c d (whats.Stop k colours text) (answers.Stopped shown) []) (sym so)
          (gives_so s c d rests same goes grows (whats.Stop shown colours text) (answers.Stopped shown) []
          (λ log caller kept after. Stops log caller kept (node_of caller kept colours text) shown after) refl
          (λ done. inr (refl, (shown, refl))) (λ helps. inl (idle helps)) is.1
          (λ log caller kept after r. commands.stopped log caller kept after colours text shown r))

      pub gives_no_stop : (Finished c → Finished d) → AppendRefused s c d colours text (Some steps) faults.NoMemory
          → ServesLog s c d (whats.Stop steps colours text) answers.NoMemory []
      gives_no_stop finished is =
          gives s c d rests same goes grows finished idle (whats.Stop steps colours text) answers.NoMemory []
          (AppendFindsNoMemory colours text (Some steps)) refl is
          (λ log caller kept after r. elim r [
            | inl none ↦ commands.no_memory log caller kept after (whats.Stop steps colours text) none
            | inr gone ↦ absurd (let e = gone.0 in let f : ⊥ = cc (e) in f)
          ])

  -- PULLS AND TRIMS

  module _ (finished : Finished c → Finished d) (idle : Helps d → Helps c) where
    pub gives_pulled : (region colour : ℕ) (p : Pulled) → IsExplained s c d (PullsAs region colour p)
        → ServesLog s c d (whats.Pull region colour) (answers.Pulled p.nodes p.give p.carry) []
    gives_pulled region colour p is =
        gives s c d rests same goes grows finished idle (whats.Pull region colour)
        (answers.Pulled p.nodes p.give p.carry) [] (PullsAs region colour p) refl is
        (λ log caller kept after r.
        commands.pulled log caller kept after region colour p.nodes r.0 p.give p.carry r.1 r.2 r.3 r.4)

    pub gives_same_region : (region colour : ℕ) → PullRefused s c d region colour pull_faults.SameRegion
        → ServesLog s c d (whats.Pull region colour) answers.SameRegion []
    gives_same_region region colour is =
        gives s c d rests same goes grows finished idle (whats.Pull region colour) answers.SameRegion []
        (λ log caller kept after. (region ≡ caller.own) × (after ≡ kept)) refl
        (λ objects kept done keeps. (
          kept,
          subst (λ (x : Client). Keeps s x objects kept) (sym is.1) keeps,
          λ rest fits. (is.0 ∙ ap (λ (x : Client). x.region) (sym is.1), refl),
        ))
        (λ log caller kept after r. commands.same_region log caller kept after region colour r.0 r.1)

    pub gives_gave : (region colour : ℕ) → PullRefused s c d region colour pull_faults.NoMemory
        → ServesLog s c d (whats.Pull region colour) answers.NoMemory []
    gives_gave region colour is =
        gives s c d rests same goes grows finished idle (whats.Pull region colour) answers.NoMemory []
        (GaveAlone region colour) refl is.1
        (λ log caller kept after r.
        commands.pull_no_memory log caller kept after region colour r.0 r.1 r.2 r.3 r.4)

    pub gives_trimmed : (colour : ℕ) (counts : Counts) (at : At) (base : Counts) → counts ≡ starts_of c colour
        → IsExplained s c d (TrimsAs colour counts at base)
        → ServesLog s c d (whats.Trim colour) (answers.Based at base) []
    gives_trimmed colour counts at base own is =
        gives s c d rests same goes grows finished idle (whats.Trim colour) (answers.Based at base) []
        (λ log caller kept after. Explains log caller kept (whats.Trim colour) (answers.Based at base) [] after) refl
        (λ objects kept done keeps.
        let e = is objects kept done keeps in (
          e.0,
          e.1,
          λ rest fits.
              let r = e.2 rest fits in
              commands.trimmed (log_seen (seen_of d) rest) (caller_of s d objects) kept e.0 colour r.0 at base r.1
              (subst (λ (v : Counts). TrimsBy (log_seen (seen_of d) rest) (caller_of s d objects) kept colour r.0 v base)
              (own ∙ sym (keeps.starts colour)) r.2) r.3,
        ))
        (λ log caller kept after r. r)
