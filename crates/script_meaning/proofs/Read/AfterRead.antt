-- What a command has done that makes a stamped read, by how that ended.
use Rattle.std.proofs.Common.{◌≡◌, ℕ, List, [], true, refl, subst, ap, sym, inl, inr}
use Rattle.log_node.specs.declared.ids.Counts.{Counts}
use Rattle.log_node.specs.declared.ids.Key.{Key}
use Rattle.log_node.specs.Seen.{PlacedNode}
use Rattle.col_core.specs.Keeping.{Kept}
use Rattle.col_core.proofs.CallerLemmas.{choice, In}
use Rattle.world_laws.specs.Worlds.{World}
use Rattle.world_laws.specs.Laws.{IsReached, log_of}
use Rattle.world_laws.proofs.CallerLemmas.{run_reached}
use Rattle.script_text.specs.declared.script.Object.{Object}
use Rattle.script_text.specs.declared.script.Command.{Command}
use Rattle.report_text.specs.declared.report.Answer.{Answer}
use Rattle.report_text.specs.declared.report.Answer.TheVariants as answers
use Rattle.report_text.specs.declared.report.RaisePiece.{RaisePiece}
use Rattle.report_text.specs.declared.report.SyncPiece.{SyncPiece}
use Rattle.lawful_run.specs.Asks.{Manner, Reading, may_help}
use Rattle.lawful_run.specs.Deeds.{manner_of, colours_synced}
use Rattle.lawful_run.specs.Reads.{HidesRead, RefusesRead}
use Rattle.lawful_run.specs.Refusals.{Hides, Refuses, hidden}
use Rattle.script_meaning.specs.States.{State, Grants, answered}
use Rattle.script_meaning.specs.Stamped.{read_stamp, ReadEnd, Whole, Refused, Unraised, StampedRead, stamped_read, ended_so, ended_by}
use Rattle.script_meaning.proofs.World.Clearing.{Finished}
use Rattle.script_meaning.proofs.Client.Kept.{caller_in, IsKeptBy, Does, KeptAfter}
use Rattle.script_meaning.proofs.Client.ReadsLeft.{FindsNone}
use Rattle.script_meaning.proofs.Read.StampedEnds.{DidRead, Ends, EndsWhole, KeepsHidden, KeepsRefused, did_read}
use Rattle.script_meaning.proofs.Read.StampedPlays.{MayLook}
use Rattle.script_meaning.proofs.Read.StampedRaises.{AreDistinct}

-- a read of distinct colours, by a command that asks for no more than a read
module _ (objects : List Object) (S : ℕ → Type 0) (state : State) (command : Command) (grants : Grants)
    (reached : IsReached state.world) (fin : Finished S state.world) (free : S command.client → ⊥)
    (reading : manner_of command.what ≡ Reading) (colours : List ℕ)
    (synced : (x : World) → colours_synced (caller_in x objects command.client) command.what ≡ colours)
    (distinct : AreDistinct colours)
    (look : MayLook objects S command.client (read_stamp state.world command.client colours) state.world colours)
    (first : ℕ) (is_first : In first colours) where
  abbrev u : ℕ
  u = command.client

  abbrev w : World
  w = state.world

  abbrev may : may_help (manner_of command.what) ≡ true
  may = ap may_help reading

  abbrev pub read : StampedRead
  read = stamped_read grants w u colours

  abbrev pub EndsSo : ReadEnd → Type 0
  EndsSo = Ends objects S command.what may w reached fin u free colours distinct look first is_first read.world

  -- it is done, and its answer tells of it
  abbrev pub EndsTold : ℕ → List RaisePiece → List SyncPiece → List Key → Type 0
  EndsTold = EndsWhole objects S command.what may w reached fin u free colours distinct look first is_first read.world

  pub did : DidRead objects S command.what may w reached fin u free colours distinct look first is_first read
  did = did_read objects S command.what may w reached fin u free colours distinct look first is_first grants

  pub read_reached : IsReached read.world
  read_reached = subst IsReached did.to.run (run_reached w did.to.steps reached)

  does : (answer : Answer) (nodes : List PlacedNode)
      → ((kept : Kept) → IsKeptBy w u kept → KeptAfter read.world objects u kept command.what answer nodes)
      → Does objects u command.what w read.world answer nodes
  does answer nodes keeps = record {
    steps = did.to.steps;
    run = did.to.run;
    shape = did.to.shape;
    others = did.to.others;
    adds = did.to.adds;
    keeps = keeps;
  }

  -- what of the read no answer tells
  abbrev Unseen : Kept → Type 0
  Unseen kept = KeepsHidden objects S command.what may w reached fin u free colours distinct look first is_first
      read.world kept

  hides : (kept : Kept) (h : Unseen kept)
      → Hides (log_of read.world) (caller_in read.world objects u) kept
      (colours_synced (caller_in read.world objects u) command.what) (manner_of command.what) h.after
  hides kept h =
      let log = log_of read.world in
      let caller = caller_in read.world objects u in
      subst (λ (m : Manner). Hides log caller kept (colours_synced caller command.what) m h.after) (sym reading)
      (subst (λ (cs : List ℕ). HidesRead log caller kept cs h.after) (sym (synced read.world)) h.hides)

  refuses : (kept : Kept) (colour : ℕ) (base : Counts)
      (h : KeepsRefused objects S command.what may w reached fin u free colours distinct look first is_first read.world
      colour base kept)
      → Refuses (log_of read.world) (caller_in read.world objects u) kept
      (colours_synced (caller_in read.world objects u) command.what) (manner_of command.what) colour base h.after
  refuses kept colour base h =
      let log = log_of read.world in
      let caller = caller_in read.world objects u in
      subst (λ (m : Manner). Refuses log caller kept (colours_synced caller command.what) m colour base h.after)
      (sym reading) (subst (λ (cs : List ℕ). RefusesRead log caller kept cs colour base h.after)
      (sym (synced read.world)) h.refuses)

  -- Whatever follows where it was refused and where it is whole, follows from how the read ended.
  module _ (whole : ℕ → List RaisePiece → List SyncPiece → List Key → State) (Goal : State → Type 0)
      (refused : (answer : Answer) (nodes : List PlacedNode) → FindsNone command.what answer
      → Does objects u command.what w read.world answer nodes → Finished S read.world
      → Goal (answered state command read.world answer nodes))
      (is_whole : (stamp : ℕ) (raises : List RaisePiece) (syncs : List SyncPiece) (keys : List Key)
      → EndsTold stamp raises syncs keys → Goal (whole stamp raises syncs keys)) where
    no_memory : ((kept : Kept) → IsKeptBy w u kept → Unseen kept)
        → Goal (answered state command read.world answers.NoMemory [])
    no_memory keeps = refused answers.NoMemory [] (inr (λ _ _ _ _ e. absurd (let f : ⊥ = cc in f)))
        (does answers.NoMemory [] (λ kept k.
        let h = keeps kept k in
        record { after = h.after; keeps = h.keeps; explains = (refl, hidden h.after (hides kept h)) }))
        did.to.finished

    so_by_end : (ends : ReadEnd) → EndsSo ends → Goal (ended_so grants state command whole read.world ends)
    so_by_end (Whole stamp raises syncs keys) ended =
        choice Goal grants.items (whole stamp raises syncs keys)
        (answered state command read.world answers.NoMemory [])
        (λ _. is_whole stamp raises syncs keys ended) (λ _. no_memory ended.hidden)
    so_by_end (Refused colour base) ended =
        refused (answers.Trimmed colour base) [] (inr (λ _ _ _ _ e. absurd (let f : ⊥ = cc in f)))
        (does (answers.Trimmed colour base) [] (λ kept k.
        let h = ended kept k in
        record {
          after = h.after;
          keeps = h.keeps;
          explains = (refl, inr (inr (inl reading)), refuses kept colour base h);
        })) did.to.finished
    so_by_end Unraised ended = no_memory ended

    pub after_read_so : Goal (ended_so grants state command whole read.world read.ends)
    after_read_so = so_by_end read.ends did.ends

  -- Whatever follows from each answer, follows from how the read ended.
  module _ (answer : ℕ → List RaisePiece → List SyncPiece → List Key → Answer) (shown : List Key → List PlacedNode)
      (Goal : State → Type 0)
      (done : (answer : Answer) (nodes : List PlacedNode) → Does objects u command.what w read.world answer nodes
      → Finished S read.world → Goal (answered state command read.world answer nodes))
      (told : (stamp : ℕ) (raises : List RaisePiece) (syncs : List SyncPiece) (keys : List Key)
      → EndsTold stamp raises syncs keys → (kept : Kept) → IsKeptBy w u kept
      → KeptAfter read.world objects u kept command.what (answer stamp raises syncs keys) (shown keys)) where
    pub after_read : Goal (ended_by grants state command answer shown read.world read.ends)
    after_read =
        after_read_so
        (λ stamp raises syncs keys. answered state command read.world (answer stamp raises syncs keys) (shown keys))
        Goal (λ answer nodes _ d fin. done answer nodes d fin)
        (λ stamp raises syncs keys ended. done (answer stamp raises syncs keys) (shown keys)
        (does (answer stamp raises syncs keys) (shown keys) (told stamp raises syncs keys ended)) did.to.finished)
