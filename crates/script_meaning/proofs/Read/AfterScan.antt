-- After a scan there holds what held before.
use Rattle.std.proofs.Common.{◌≡◌, ℕ, zero, suc, ◌+◌, ◌<◌, ◌≤◌, List, [], ◌∷◌, ◌++◌, length, map, Some, Bool, refl, subst, ap, sym, inl, inr, arith}
use Rattle.std.specs.Prelude.{Option, unwrap_or}
use Rattle.std.specs.List.{AllZip, filter, range_with_len}
use Rattle.std.proofs.lemmas.List.{length-map}
use Rattle.log_node.specs.declared.ids.Colours.{Colours}
use Rattle.log_node.specs.declared.ids.Key.{Key}
use Rattle.log_node.specs.declared.node.Node.{Node}
use Rattle.log_node.specs.Sets.{has, members}
use Rattle.log_node.specs.declared.limits.TheConstants.{MAX_COLOURS}
use Rattle.col_core.specs.Keeping.{Kept}
use Rattle.col_core.specs.Log.{HasText}
use Rattle.col_core.proofs.CallerLemmas.{choice, In, in_filter}
use Rattle.world_laws.specs.Worlds.{World, no_row}
use Rattle.world_laws.specs.Laws.{IsReached, log_of}
use Rattle.script_text.specs.declared.commands.What.TheVariants as whats
use Rattle.script_text.specs.declared.script.Command.{Command}
use Rattle.script_text.specs.declared.script.Script.{Script}
use Rattle.script_text.specs.Fitting.{AreBelow, HasColours}
use Rattle.report_text.specs.declared.report.Answer.TheVariants as answers
use Rattle.report_text.specs.declared.report.RaisePiece.{RaisePiece}
use Rattle.report_text.specs.declared.report.SyncPiece.{SyncPiece}
use Rattle.lawful_run.specs.Explains.{Explains}
use Rattle.lawful_run.specs.Reads.{ShowsKey}
use Rattle.lawful_run.specs.Deeds.{manner_of, colours_synced}
use Rattle.script_meaning.specs.States.{State, Grants}
use Rattle.script_meaning.specs.Helping.{node_by_id}
use Rattle.script_meaning.specs.Stamped.{stamped_read, shown_key, scan_answer, scanned}
use Rattle.script_meaning.proofs.Run.FitCommands as fits
use Rattle.script_meaning.proofs.Run.Invariant.{IsStopped, Runs, IsFit, free, runs_done}
use Rattle.script_meaning.proofs.Client.Kept.{caller_in, IsKeptBy, KeptAfter}
use Rattle.script_meaning.proofs.Lists.{all_at, in_range}
use Rattle.script_meaning.proofs.Object.ObjectKinds.{some_of}
use Rattle.script_meaning.proofs.World.Reached.{listed_of}
use Rattle.script_meaning.proofs.Read.AfterRead.{EndsTold, read_reached, after_read}
use Rattle.script_meaning.proofs.Read.StampedRaises.{AreDistinct}

-- LISTS

filtered_above : (test : ℕ → Bool) (a n x : ℕ) → In x (filter test (range_with_len a n)) → a ≤ x
filtered_above test a n x i = (in_range a n x (in_filter test x (range_with_len a n) i).0).0

pub filtered_distinct : (test : ℕ → Bool) (n a : ℕ) → AreDistinct (filter test (range_with_len a n))
filtered_distinct test zero a = tt
filtered_distinct test (suc n) a =
    choice AreDistinct (test a) (a ∷ filter test (range_with_len (a + 1) n)) (filter test (range_with_len (a + 1) n))
    (λ _. (
      λ i. let le = filtered_above test (a + 1) n a i in let f : ⊥ = omega (arith, le) in f,
      filtered_distinct test n (a + 1),
    ))
    (λ _. filtered_distinct test n (a + 1))

-- a set has no colour twice
pub members_distinct : (set : Colours) → AreDistinct (members set)
members_distinct set = filtered_distinct (has set) MAX_COLOURS 0

-- the node lines of a scan show the keys
pub shows_keys : (w : World) → IsReached w → (keys : List Key)
    → ((key : Key) → In key keys → (node : Node) × (node_by_id w key.id ≡ Some node))
    → AllZip (ShowsKey (log_of w)) keys (map (shown_key w) keys)
shows_keys w reached [] each = tt
shows_keys w reached (key ∷ keys) each =
    let n = each key (inl refl) in
    let text : HasText (log_of w) key.id (shown_key w key).node.text = (
      n.0,
      n.1,
      (listed_of w reached).ids key.id.client key.id.count n.0 n.1,
      ap (λ (x : Option Node). (unwrap_or x no_row.node).text) (sym n.1),
    ) in
    ((refl, text), shows_keys w reached keys (λ k i. each k (inr i)))

-- THE COMMAND

module _ (script : Script) (commands : List Command) (state : State) (command : Command) (grants : Grants)
    (runs : Runs script commands state) (fit : IsFit script commands command) where
  abbrev u : ℕ
  u = command.client

  abbrev w : World
  w = state.world

  abbrev S : ℕ → Type 0
  S = IsStopped commands state.replies

  going : S u → ⊥
  going = free script commands state command runs fit

  module _ (colours : Colours) (asked : command.what ≡ whats.Scan colours) (has : HasColours 1 colours)
      (all : AreBelow script.shape.colours colours) where
    abbrev cs : List ℕ
    cs = members colours

    below : (c : ℕ) → In c cs → c < script.shape.colours
    below = all_at (λ c. c < script.shape.colours) cs all

    first : (c : ℕ) × In c cs
    first = some_of cs has.many

    abbrev x : World
    x = (stamped_read grants w u cs).world

    synced : (y : World) → colours_synced (caller_in y script.objects u) command.what ≡ cs
    synced y = ap (colours_synced (caller_in y script.objects u)) asked

    reached : IsReached x
    reached = read_reached script.objects S state command grants runs.reached runs.finished going (ap manner_of asked)
        cs synced (members_distinct colours) (fits.may_look script commands state command runs fit cs below) first.0 first.1

    told : (stamp : ℕ) (raises : List RaisePiece) (syncs : List SyncPiece) (keys : List Key)
        → EndsTold script.objects S state command grants runs.reached runs.finished going (ap manner_of asked) cs synced
        (members_distinct colours) (fits.may_look script commands state command runs fit cs below) first.0 first.1 stamp raises syncs keys
        → (kept : Kept) → IsKeptBy w u kept
        → KeptAfter x script.objects u kept command.what (scan_answer stamp raises syncs keys) (map (shown_key x) keys)
    told stamp raises syncs keys ended kept k =
        let h = ended.kept kept k in
        let nodes = map (shown_key x) keys in
        record {
          after = h.after;
          keeps = h.keeps;
          explains = subst (λ (n : ℕ). Explains (log_of x) (caller_in x script.objects u) kept command.what
              (answers.Scanned n (length keys) raises syncs) nodes h.after) (sym ended.is) (
                colours,
                asked,
                sym (length-map keys (shown_key x)),
                h.reads,
                keys,
                ended.read,
                shows_keys x reached keys ended.nodes,
              );
        }

    pub runs_scan : Runs script (commands ++ command ∷ []) (scanned grants state command (members colours))
    runs_scan =
        after_read script.objects S state command grants runs.reached runs.finished going (ap manner_of asked) cs synced
        (members_distinct colours) (fits.may_look script commands state command runs fit cs below) first.0 first.1 scan_answer (map (shown_key x))
        (Runs script (commands ++ command ∷ []))
        (λ answer nodes d fin. runs_done script commands state command runs fit x answer nodes d fin) told
