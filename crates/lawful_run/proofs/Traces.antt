-- What a command leaves of ids and of singles: it uses an id for one node at most, and only the append of a node to one
-- colour makes a single.
use Rattle.std.proofs.Common.{◌≡◌, ℕ, zero, suc, List, [], ◌∷◌, ◌++◌, Some, slice_get, refl, ap, sym, subst, ◌∙◌, ◌⊎◌, inl, inr, arith}
use Rattle.std.specs.Prelude.{◌==◌, ◌≤◌, max}
use Rattle.std.specs.List.{All, Contains}
use Rattle.std.proofs.lemmas.Bool.{eqb-true}
use Rattle.std.proofs.lemmas.List.Elements.{All-contains, Contains-append_cases}
use Rattle.log_node.specs.declared.ids.Id.{Id}
use Rattle.log_node.specs.declared.ids.Counts.{Counts}
use Rattle.log_node.specs.declared.node.At.{At}
use Rattle.log_node.specs.declared.node.At.TheVariants as ats
use Rattle.log_node.specs.declared.node.Node.{Node}
use Rattle.col_core.specs.declared.Event.{Event}
use Rattle.col_core.specs.declared.Event.TheVariants as events
use Rattle.col_core.specs.declared.Entry.{Entry}
use Rattle.col_core.specs.Log.{Log}
use Rattle.col_core.specs.Keeping.{Kept, updated, updated_at, kept_after_event, with_made, with_floor}
use Rattle.col_core.proofs.CallerLemmas.{choice}
use Rattle.report_text.specs.declared.report.RaisePiece.{RaisePiece}
use Rattle.report_text.specs.declared.report.SyncPiece.{SyncPiece}
use Rattle.lawful_run.specs.Callers.{Caller}
use Rattle.lawful_run.specs.Asks.{Manner, Appending, Guarding, Stopping, Syncing, Moving, Getting, Reading, Committing, Dequeuing, Deciding}
use Rattle.col_core.specs.Ids.{IsStepOf}
use Rattle.lawful_run.specs.Appends.{AreSteps}
use Rattle.lawful_run.specs.Refusals.{Hides, HidesDecide, Refuses, RefusesDecide}
use Rattle.lawful_run.specs.Reads.{kept_after_piece, RaisesClock, kept_after_place, Raises, ClearSyncs, events_until, ReadsAt, HidesSyncs, HidesRead, RefusesRead}
use Rattle.lawful_run.specs.Moves.{GivesFrom, GivesHeld, GivesTooLow, CarriesNodes, Pulls, with_places}
pub use Rattle.log_node.proofs.CallerLemmas.{contains_none as in_none}

-- a single of the id stands at the place
pub record IsSingleAt (log : Log) (region colour place : ℕ) (id : Id) : Type 0 where
  pub entry : Entry
  pub floor : ℕ
  pub wants : Counts
  pub there : slice_get (log.histories region colour) place ≡ Some entry
  pub single : entry.event ≡ events.Single id floor wants

abbrev IsNoSingle : Event → Type 0
IsNoSingle (events.Single id floor wants) = ⊥
IsNoSingle (events.Propose id floor wants) = Unit {0}
IsNoSingle (events.Settle id outcome) = Unit {0}
IsNoSingle (events.Raise to) = Unit {0}
IsNoSingle (events.Give region from) = Unit {0}
IsNoSingle (events.Carry region start heads) = Unit {0}
IsNoSingle (events.Trim counts) = Unit {0}

no_single : (log : Log) (region colour place : ℕ) (id : Id) (e : Entry) → slice_get (log.histories region colour) place
    ≡ Some e
    → IsNoSingle e.event → IsSingleAt log region colour place id → ⊥
no_single log region colour place id e there not s =
    let t = s.there in
    let i = s.single in
    let same : s.entry ≡ e = cc in
    subst IsNoSingle (sym (ap (λ (x : Entry). x.event) same) ∙ i) not

step_is_none : (id : Id) (e : Event) → IsStepOf id e → IsNoSingle e
step_is_none id (events.Single other floor wants) s = s
step_is_none id (events.Propose other floor wants) s = tt
step_is_none id (events.Settle other outcome) s = tt
step_is_none id (events.Raise to) s = absurd s
step_is_none id (events.Give region from) s = absurd s
step_is_none id (events.Carry region start heads) s = absurd s
step_is_none id (events.Trim counts) s = absurd s

pub one_of : {A : Type 0} (x y : A) → Contains (x ∷ []) y → x ≡ y
one_of x y (zero, lt, e) = e
one_of x y (suc k, lt, e) = absurd (let f : ⊥ = omega (arith, lt) in f)

-- where a function has another value at one number
pub at_updated : {A : Type 0} (P : A → Type 0) (Q : Type 0) (f : ℕ → A) (n : ℕ) (x : A) (m : ℕ) → (m ≡ n → P x → Q) →
    (P (f m) → Q)
    → P (updated f n x m) → Q
at_updated P Q f n x m here there = choice (λ y. P y → Q) (m == n) x (f m) (λ t. here (eqb-true m n t)) (λ _. there)

pub at_updated_at : (f : ℕ → ℕ → List ℕ) (a n : ℕ) (x : List ℕ) (b m place : ℕ) → Contains
    (updated_at f a n x b m) place
    → ((b ≡ a) × (m ≡ n) × Contains x place) ⊎ Contains (f b m) place
at_updated_at f a n x b m place =
    at_updated (λ (g : ℕ → List ℕ). Contains (g m) place)
    (((b ≡ a) × (m ≡ n) × Contains x place) ⊎ Contains (f b m) place)
    f a (updated (f a) n x) b
    (λ e. at_updated (λ (l : List ℕ). Contains l place)
    (((b ≡ a) × (m ≡ n) × Contains x place) ⊎ Contains (f b m) place) (f a) n x m
    (λ g c. inl (e, g, c)) (λ c. inr (subst (λ r. Contains (f r m) place) (sym e) c)))
    inr

-- WHAT IS MADE
-- of singles only old ones are made afterwards
abbrev pub Made : Log → Kept → Kept → Type 0
Made log kept after = (region colour place : ℕ) (id : Id) → IsSingleAt log region colour place id
    → Contains (after.made region colour) place → Contains (kept.made region colour) place

-- no id was used, and no single made
pub record Quiet (log : Log) (kept after : Kept) : Type 0 where
  pub ids : after.ids ≡ kept.ids
  pub made : Made log kept after

pub quiet_self : (log : Log) (kept : Kept) → Quiet log kept kept
quiet_self log kept = record { ids = refl; made = λ region colour place id s c. c }

pub quiet_then : {log : Log} {kept middle after : Kept} → Quiet log kept middle → Quiet log middle after
    → Quiet log kept after
quiet_then a b = record {
  ids = b.ids ∙ a.ids;
  made = λ region colour place id s c. a.made region colour place id s
      (b.made region colour place id s c);
}

pub quiet_is : {log : Log} {kept after : Kept} → after ≡ kept → Quiet log kept after
quiet_is {log} {kept} e = subst (λ (k : Kept). Quiet log kept k) (sym e) (quiet_self log kept)

pub quiet_to : {log : Log} {kept : Kept} (other after : Kept) → after ≡ other → Quiet log kept other
    → Quiet log kept after
quiet_to {log} {kept} other after e q = subst (λ (k : Kept). Quiet log kept k) (sym e) q

-- made at more places of one column
pub more_places : (log : Log) (kept : Kept) (region colour : ℕ) (places : List ℕ)
    → ((place : ℕ) (id : Id) → Contains places place → IsSingleAt log region colour place id → ⊥)
    → Quiet log kept (with_places kept region colour places)
more_places log kept region colour places none = record { ids = refl; made = made } where
  made : Made log kept (with_places kept region colour places)
  made r c place id s among =
      turn (at_updated_at kept.made region colour (kept.made region colour ++ places) r c place among) where
        new : r ≡ region → c ≡ colour → Contains places place → Contains (kept.made r c) place
        new e f i = absurd (none place id i (subst (λ x. IsSingleAt log region x place id) f
            (subst (λ x. IsSingleAt log x c place id) e s)))

        old : r ≡ region → c ≡ colour → Contains (kept.made region colour) place → Contains (kept.made r c) place
        old e f i = subst (λ x. Contains (kept.made x c) place) (sym e)
            (subst (λ x. Contains (kept.made region x) place) (sym f) i)

        split : r ≡ region → c ≡ colour → Contains (kept.made region colour) place ⊎ Contains places place → Contains
            (kept.made r c) place
        split e f (inl i) = old e f i
        split e f (inr i) = new e f i

        turn : ((r ≡ region) × (c ≡ colour) × Contains (kept.made region colour ++ places) place) ⊎ Contains
            (kept.made r c) place
            → Contains (kept.made r c) place
        turn (inl (e, f, i)) = split e f (Contains-append_cases (kept.made region colour) places place i)
        turn (inr i) = i

-- made at more places of a region's columns
pub more_made : (log : Log) (kept : Kept) (own : ℕ) (places : ℕ → List ℕ)
    → ((colour place : ℕ) (id : Id) → Contains (places colour) place → IsSingleAt log own colour place id → ⊥)
    → Quiet log kept (with_made kept own places)
more_made log kept own places none = record { ids = refl; made = made } where
  made : Made log kept (with_made kept own places)
  made r c place id s =
      at_updated (λ (g : ℕ → List ℕ). Contains (g c) place) (Contains (kept.made r c) place) kept.made own
      (λ colour. kept.made own colour ++ places colour) r
      (λ e i. split e (Contains-append_cases (kept.made own c) (places c) place i)) (λ i. i) where
        split : r ≡ own → Contains (kept.made own c) place ⊎ Contains (places c) place → Contains (kept.made r c) place
        split e (inl i) = subst (λ x. Contains (kept.made x c) place) (sym e) i
        split e (inr i) = absurd (none c place id i (subst (λ x. IsSingleAt log x c place id) e s))

-- the client's events of another kind
pub an_event : (log : Log) (kept : Kept) (region colour place : ℕ) (e : Entry) → slice_get
    (log.histories region colour) place ≡ Some e
    → IsNoSingle e.event → Quiet log kept (kept_after_event kept region colour place)
an_event log kept region colour place e there not =
    let q = more_places log kept region colour (place ∷ [])
    (λ p id i s. no_single log region colour place id e there not
    (subst (λ n. IsSingleAt log region colour n id) (sym (one_of place p i)) s)) in
    record { ids = q.ids; made = q.made }

pub steps_are_none : (log : Log) (caller : Caller) (kept : Kept) (node : Node) (places : ℕ → List ℕ)
    → AreSteps log caller kept node places
    → (colour place : ℕ) (id : Id) → Contains (places colour) place → IsSingleAt log caller.own colour place id → ⊥
steps_are_none log caller kept node places steps colour place id i =
    let s = All-contains (λ (p : ℕ). (kept.seen caller.own colour ≤ p) × (e : Entry) × (slice_get (log.histories caller.own colour) p ≡ Some e)
    × (e.by ≡ caller.client) × IsStepOf node.id e.event) (places colour) place (steps colour) i in
    no_single log caller.own colour place id s.1 s.2 (step_is_none node.id s.1.event s.4)

-- READS
module _ (log : Log) (caller : Caller) where
  pub pieces : (stamp : ℕ) (kept : Kept) (syncs : List SyncPiece) (after : Kept)
      → ClearSyncs log caller stamp kept syncs after → Quiet log kept after
  pieces stamp kept [] after c = quiet_is c
  pieces stamp kept (sync ∷ syncs) after c =
      let q = pieces stamp (kept_after_piece log caller kept sync) syncs after c.2 in
      record { ids = q.ids; made = q.made }

  raise : (kept : Kept) (stamp colour : ℕ) (at : At) → RaisesClock log caller kept stamp colour at
      → Quiet log kept (kept_after_place kept caller.own colour at)
  raise kept stamp colour (ats.Event place) r = an_event log kept caller.own colour place _ r.2 tt
  raise kept stamp colour (ats.Look events) r = record { ids = refl; made = λ region colour place id s c. c }

  raises : (stamp : ℕ) (kept : Kept) (pieces : List RaisePiece) (after : Kept)
      → Raises log caller stamp kept pieces after → Quiet log kept after
  raises stamp kept [] after r = quiet_is r
  raises stamp kept (piece ∷ pieces) after r =
      quiet_then (raise kept stamp piece.colour piece.at r.0)
      (raises stamp (kept_after_place kept caller.own piece.colour piece.at) pieces after r.1)

  pub read : (kept : Kept) (colours : List ℕ) (stamp : ℕ) (up : List RaisePiece) (syncs : List SyncPiece) (after : Kept)
      → ReadsAt log caller kept colours stamp up syncs after → Quiet log kept after
  read kept colours stamp up syncs after r =
      let q = quiet_then (raises stamp kept up r.raised r.raising) (pieces stamp r.raised syncs r.synced r.syncing) in
      quiet_to (with_floor r.synced stamp) after r.after_is (record { ids = q.ids; made = q.made })

  pub hidden_syncs : (kept : Kept) (colours : List ℕ) (after : Kept) → HidesSyncs log caller kept colours after
      → Quiet log kept after
  hidden_syncs kept [] after h = quiet_is h
  hidden_syncs kept (colour ∷ colours) after h =
      let q = hidden_syncs (record kept { floor = max kept.floor h.1; starts = updated kept.starts colour h.0 }) colours
      after h.3 in
      record { ids = q.ids; made = q.made }

  hidden_read : (kept : Kept) (colours : List ℕ) (after : Kept) → HidesRead log caller kept colours after
      → Quiet log kept after
  hidden_read kept colours after h = turn h.after_is where
    none : (colour place : ℕ) (id : Id) → Contains (h.places colour) place → IsSingleAt log caller.own colour place id
        → ⊥
    none colour place id i =
        let r = All-contains (λ (p : ℕ). Contains colours colour × RaisesClock log caller kept h.stamp colour
        (ats.Event p))
        (h.places colour) place (h.raises colour) i in
        no_single log caller.own colour place id _ r.1.2 tt

    before : Quiet log kept h.synced
    before = hidden_syncs kept colours h.synced h.syncing

    raised : Quiet log kept (with_made (with_floor h.synced h.stamp) caller.own h.places)
    raised = quiet_then (record { ids = before.ids; made = before.made })
        (more_made log (with_floor h.synced h.stamp) caller.own h.places none)

    turn : (after ≡ with_made h.synced caller.own h.places) ⊎
        (after ≡ with_made (with_floor h.synced h.stamp) caller.own h.places) → Quiet log kept after
    turn (inl e) = quiet_to (with_made h.synced caller.own h.places) after e
        (quiet_then before (more_made log h.synced caller.own h.places none))
    turn (inr e) = quiet_to (with_made (with_floor h.synced h.stamp) caller.own h.places) after e raised

  hidden_decide : (kept : Kept) (colours : List ℕ) (after : Kept) → HidesDecide log caller kept colours after
      → Quiet log kept after
  hidden_decide kept [] after h = absurd h
  hidden_decide kept (first ∷ all) after h = quiet_then (hidden_syncs kept (first ∷ []) h.0 h.1) (elim h.2 [
    | inl e ↦ quiet_is e
    | inr r ↦ hidden_read h.0 all after r
  ])

  pub hides : (kept : Kept) (colours : List ℕ) (manner : Manner) (after : Kept)
      → Hides log caller kept colours manner after → Quiet log kept after
  hides kept colours Appending after h = quiet_is h
  hides kept colours Guarding after h = quiet_is h
  hides kept colours Stopping after h = quiet_is h
  hides kept colours Syncing after h = quiet_is h
  hides kept colours Moving after h = quiet_is h
  hides kept colours Getting after h = hidden_syncs kept colours after h
  hides kept colours Reading after h = hidden_read kept colours after h
  hides kept colours Committing after h = hidden_read kept colours after h
  hides kept colours Dequeuing after h = hidden_syncs kept colours after h
  hides kept colours Deciding after h = hidden_decide kept colours after h

  refused_read : (kept : Kept) (colours : List ℕ) (colour : ℕ) (shown : Counts) (after : Kept)
      → RefusesRead log caller kept colours colour shown after → Quiet log kept after
  refused_read kept colours colour shown after r =
      quiet_then (raises r.stamp kept r.raises r.raised r.raising) (pieces r.stamp r.raised r.syncs after r.syncing)

  refused_decide : (kept : Kept) (colours : List ℕ) (colour : ℕ) (shown : Counts) (after : Kept)
      → RefusesDecide log caller kept colours colour shown after → Quiet log kept after
  refused_decide kept [] colour shown after r = absurd r
  refused_decide kept (first ∷ all) colour shown after r = elim r [
    | inl at_once ↦ quiet_is at_once.2
    | inr behind ↦ quiet_then (hidden_syncs kept (first ∷ []) behind.0 behind.1)
        (refused_read behind.0 all colour shown after behind.2)
  ]

  pub refuses : (kept : Kept) (colours : List ℕ) (manner : Manner) (colour : ℕ) (shown : Counts) (after : Kept)
      → Refuses log caller kept colours manner colour shown after → Quiet log kept after
  refuses kept colours Appending colour shown after r = absurd r
  refuses kept colours Guarding colour shown after r = absurd r
  refuses kept colours Stopping colour shown after r = absurd r
  refuses kept colours Syncing colour shown after r = quiet_is r.2
  refuses kept colours Moving colour shown after r = absurd r
  refuses kept colours Getting colour shown after r = hidden_syncs kept colours after r.2
  refuses kept colours Reading colour shown after r = refused_read kept colours colour shown after r
  refuses kept colours Committing colour shown after r = refused_read kept colours colour shown after r
  refuses kept colours Dequeuing colour shown after r = hidden_syncs kept colours after r.2
  refuses kept colours Deciding colour shown after r = refused_decide kept colours colour shown after r

  -- PULLS
  gives : (kept : Kept) (region colour : ℕ) (places : List ℕ) → All
      (λ place. (from : ℕ) × GivesFrom log caller region colour place from) places
      → Quiet log kept (with_places kept region colour places)
  gives kept region colour places all = more_places log kept region colour places (λ place id i s.
      let g = All-contains (λ (p : ℕ). (from : ℕ) × GivesFrom log caller region colour p from) places place all i in
      no_single log region colour place id _ g.1 tt s)

  pub held_gives : (kept : Kept) (region colour seen until : ℕ) (places : List ℕ) → All
      (GivesHeld log caller region colour seen until) places
      → Quiet log kept (with_places kept region colour places)
  held_gives kept region colour seen until places all = gives kept region colour places
      (λ k d lt. let g = all k d lt in (g.0, g.1))

  pub too_low_gives : (kept : Kept) (region colour seen until : ℕ) (places : List ℕ) → All
      (GivesTooLow log caller region colour seen until) places
      → Quiet log kept (with_places kept region colour places)
  too_low_gives kept region colour seen until places all = gives kept region colour places
      (λ k d lt. let g = all k d lt in (g.0, g.1))

  carry : (kept : Kept) (region colour nodes : ℕ) (at : At) (held : Kept)
      → CarriesNodes log caller held region colour nodes at
      → Quiet log kept (kept_after_place kept caller.own colour at)
  carry kept region colour nodes (ats.Event place) held c = an_event log kept caller.own colour place _ c.3 tt
  carry kept region colour nodes (ats.Look events) held c =
      record { ids = refl; made = λ region colour place id s i. i }

  pub pulls : (kept : Kept) (region colour nodes place : ℕ) (at : At) (too_low : List ℕ) (after : Kept)
      → Pulls log caller kept region colour nodes place at too_low
      → after ≡ kept_after_place (kept_after_event
      (with_places kept region colour too_low) region colour place) caller.own colour at → Quiet log kept after
  pulls kept region colour nodes place at too_low after p e =
      quiet_to (kept_after_place (kept_after_event
      (with_places kept region colour too_low) region colour place) caller.own colour at) after e
      (quiet_then (too_low_gives kept region colour (kept.seen caller.own colour) (events_until at) too_low p.made_again)
      (quiet_then (an_event log (with_places kept region colour too_low) region colour place _ p.gives tt)
      (carry (kept_after_event (with_places kept region colour too_low) region colour place) region colour nodes at kept
      p.carries)))
