-- What answers name, by parts.
use Rattle.std.proofs.Common.{◌≡◌, ◌≢◌, ◌⊎◌, ◌∙◌, refl, ap, sym, subst, inl, inr, ℕ, zero, suc, ◌+◌, ◌<◌, ◌≤◌, Bool, true, false, ◌&&◌, ◌==◌, cond, List, [], ◌∷◌, ◌++◌, length, map, take, get_or, Option, Some, None, arith, flat_map}
use Rattle.std.specs.Prelude.{IsTrue, is_some, not, slice_get, slice_index, Result, Ok, Err, IfOk, nat_le}
use Rattle.std.specs.List.{All, fold}
use Rattle.std.proofs.lemmas.Bool.{and_parts, cases_lt, eq-eqb, eqb-true, leb-true, leb-false, true≢false}
use Rattle.std.proofs.lemmas.List.{length-map}
use Rattle.std.proofs.lemmas.List.Elements.{All-cons, All-contains, All-head, All-nil, All-weaker}
use Rattle.log_node.specs.declared.ids.Id.{Id}
use Rattle.log_node.specs.declared.node.At.{At}
use Rattle.log_node.specs.declared.node.At.TheVariants as ats
use Rattle.log_node.specs.declared.limits.TheConstants.{MAX_COLOURS, MAX_REGIONS}
use Rattle.log_node.specs.Vectors.{at}
use Rattle.log_node.specs.declared.ids.Key.{Key}
use Rattle.log_node.specs.declared.node.Head.{Head}
use Rattle.log_node.proofs.CallerLemmas.{at-vector, same_id-is, same_some}
use Rattle.col_core.specs.declared.Event.{Event}
use Rattle.col_core.specs.declared.Event.TheVariants.{Single, Propose, Settle, Raise, Give, Carry, Trim}
use Rattle.col_core.specs.declared.Entry.{Entry}
use Rattle.col_core.specs.Computed.{dated}
use Rattle.col_core.specs.Cuts.{Dated, carried, chain, entries_of, held, needs_of}
use Rattle.col_core.specs.History.{line}
use Rattle.col_core.specs.Ids.{IsStepOf}
use Rattle.col_core.specs.Log.{Log, is_own, places_from, places_of}
use Rattle.col_core.specs.Keeping.{Kept, kept_after_look, kept_after_single, seen_after, seen_past, updated, with_made}
use Rattle.col_core.proofs.CallerLemmas.{In, all_in, contains_in, entries_dated, in_filter}
use Rattle.report_text.specs.declared.report.Ended.{Ended}
use Rattle.report_text.specs.declared.report.Ended.TheVariants as ends
use Rattle.report_text.specs.declared.report.PointPiece.{PointPiece}
use Rattle.report_text.specs.declared.report.RaisePiece.{RaisePiece}
use Rattle.report_text.specs.declared.report.SyncPiece.{SyncPiece}
use Rattle.lawful_run.specs.Appends.{kept_after_points}
use Rattle.lawful_run.specs.Callers.{Caller, caller_of}
use Rattle.lawful_run.specs.Reads.{events_until, kept_after_piece, kept_after_place}
use Rattle.column_track.specs.Tracks.{Tells}
use Rattle.run_rules.specs.Told.{Untold, kept_after_append}
use Rattle.run_rules.specs.Telling.{is_among, is_step_at, is_step_of, step_places}
use Rattle.run_rules.specs.Naming.{Has, IsRaise, NamesAppend, NamesEnd, NamesPlace, NamesPoint, NamesRaises, NamesSteps, NamesSync, NamesSyncs}
use Rattle.walk_law.specs.Behind.{HasColumn, LeavesOutSteps, steps_untold}
use Rattle.walk_law.specs.Fourth.{AndThen, IsEndLow, IsNamed, Sees, Sighted}
use Rattle.walk_law.specs.Keepings.{Counted, IsCounted, known_at, seen_at}
use Rattle.report_text.specs.declared.report.ReplyLine.{ReplyLine}
use Rattle.walk_law.specs.Walking.{Walked, journal_walked, log_walked}
use Rattle.column_track.specs.Tracks.{Tracked}
use Rattle.walk_law.specs.Walking.{MayWalk, places_printed}
use Rattle.std.specs.Prelude.{slice_index_or, ◌*◌}
use Rattle.std.specs.List.{Contains}
use Rattle.std.proofs.lemmas.List.{get_or_append_left, get_or_push, length-append}
use Rattle.std.proofs.lemmas.Option.{slice_get_within}
use Rattle.log_node.proofs.CallerLemmas.{get_within}
use Rattle.col_core.proofs.CallerLemmas.{in_contains, in_slice, slice_in}
use Rattle.script_text.specs.Fitting.{IsFitting, IsWithin}
use Rattle.script_text.specs.declared.commands.What.{What}
use Rattle.script_text.specs.declared.commands.What.TheVariants as whats
use Rattle.script_text.specs.declared.script.Command.{Command}
use Rattle.script_text.specs.declared.script.Script.{Script}
use Rattle.report_text.specs.declared.report.Answer.{Answer}
use Rattle.report_text.specs.declared.report.Answer.TheVariants as answers
use Rattle.report_text.specs.declared.report.ColumnReport.{ColumnReport}
use Rattle.lawful_run.specs.Asks.{may_help}
use Rattle.lawful_run.specs.Callers.{commands_of}
use Rattle.lawful_run.specs.Deeds.{manner_of}
use Rattle.lawful_run.specs.Lawful.{HasHelping}
use Rattle.run_rules.specs.Told.{Account, Step, kept_at, kept_deciding}
use Rattle.run_rules.specs.Telling.{account_of, journal_among, no_nodes, replies_to, untold_told}
use Rattle.run_rules.specs.Naming.{CarriesOf, GivesTo, Names, NamesRead}
use Rattle.run_rules.specs.Rules.{IsLawfulColumn, Rule4}
use Rattle.run_rules.proofs.CallerLemmas.{reports_tell}
use Rattle.walk_law.specs.Fourth.{AreHelpers, AreNamed, ArePointsLow, AreRaisesLow, AreSyncsLow, HasMade, IsAsked, IsClientNamed, MayHelp, NamesAll}
use Rattle.walk_law.specs.Keepings.{IsCell}
use Rattle.walk_law.specs.Walking.{IsSeen, WalksTo}
use Rattle.walk_law.proofs.ColumnPlaces.{column_there, column_within}
use Rattle.walk_law.proofs.NamedColours.{can_low}
use Rattle.walk_law.proofs.SubjectLemmas.{few_regions}
use Rattle.walk_law.proofs.Lists.{told_not, told_so}
use Rattle.walk_law.proofs.SubjectLemmas.{column_none}
use Rattle.walk_law.proofs.ThirdLemmas.{few_colours}

-- WHAT IS TOLD

pub le_told : (a b : ℕ) → Tells (nat_le a b) (a ≤ b)
le_told a b = by (nat_le a b) refl where
  by : (t : Bool) → nat_le a b ≡ t → Tells t (a ≤ b)
  by true is = leb-true a b is
  by false is = λ le. let lt = leb-false a b is in let f : ⊥ = omega (arith, lt, le) in f

-- the first is so, and the second is told
pub both_told : (P Q : Type 0) (b : Bool) → P → Tells b Q → Tells b (P × Q)
both_told P Q true p q = (p, q)
both_told P Q false p fails = λ both. fails both.1

-- the first two are so
pub third_told : (P Q R : Type 0) (b : Bool) → P → Q → Tells b R → Tells b (P × Q × R)
third_told P Q R true p q r = (p, q, r)
third_told P Q R false p q fails = λ all. fails all.2

-- where something is so, what is told is told of what follows from it
pub implied_told : (P : Type 0) (t : Bool) (b : Bool) → t ≡ true → Tells b P → Tells b (IsTrue t → P)
implied_told P t true is p = λ _. p
implied_told P t false is fails = λ follows. fails (follows is)

-- something is told, and something holds behind it
pub and_told : (P Q : Type 0) (b : Bool) → AndThen b P Q → Tells b P
and_told P Q true both = both.0
and_told P Q false fails = fails

pub then_as : (P P1 Q Q1 : Type 0) (b : Bool) → (P → P1) → (P1 → P) → (Q → Q1) → AndThen b P Q → AndThen b P1 Q1
then_as P P1 Q Q1 true to from more both = (to both.0, more both.1)
then_as P P1 Q Q1 false to from more fails = λ p. fails (from p)

pub then_so : (P Q : Type 0) (b : Bool) → AndThen b P Q → b ≡ true → P × Q
then_so P Q b named is = subst (λ (t : Bool). AndThen t P Q) is named

pub then_not : (P Q : Type 0) (b : Bool) → AndThen b P Q → b ≡ false → P → ⊥
then_not P Q b named is = subst (λ (t : Bool). AndThen t P Q) is named

pub ok_to : {E : Type 0} (r : Result Bool E) (P Q : Bool → Type 0) → ((b : Bool) → P b → Q b) → IfOk r P → IfOk r Q
ok_to (Ok b) P Q more p = more b p
ok_to (Err e) P Q more p = p

-- PLACES

pub place_named : (log : Log) (caller : Caller) (kept : Kept) (region colour : ℕ) (IsSuch : Event → Type 0) (place : At)
    (client seen : ℕ) (history : List Entry) (b : Bool) → client ≡ caller.client → seen ≡ kept.seen region colour
    → history ≡ log.histories region colour → Tells b (IsNamed client seen history IsSuch place)
    → Tells b (NamesPlace log caller kept region colour IsSuch place)
place_named log caller kept region colour IsSuch place client seen history b is_client is_seen is_history told =
    by place
    (subst (λ (h : List Entry). Tells b (IsNamed caller.client (kept.seen region colour) h IsSuch place)) is_history
    (subst (λ (n : ℕ). Tells b (IsNamed caller.client n history IsSuch place)) is_seen
    (subst (λ (n : ℕ). Tells b (IsNamed n seen history IsSuch place)) is_client told))) where
      by : (a : At) → Tells b (IsNamed caller.client (kept.seen region colour) (log.histories region colour) IsSuch a)
          → Tells b (NamesPlace log caller kept region colour IsSuch a)
      by (ats.Event n) t = t
      by (ats.Look n) t = t

-- what is named is there
pub named_within : (client seen : ℕ) (history : List Entry) (IsSuch : Event → Type 0) (place : At)
    → IsNamed client seen history IsSuch place → events_until place ≤ length history
named_within client seen history IsSuch (ats.Event n) named = there history n named.1.1 where
  there : (h : List Entry) (k : ℕ) {e : Entry} → slice_get h k ≡ Some e → k ≤ length h
  there [] k is = absurd (let f : ⊥ = cc (is) in f)
  there (x ∷ xs) zero is = omega arith
  there (x ∷ xs) (suc k) is = let h = there xs k is in omega (arith, h)
named_within client seen history IsSuch (ats.Look n) named = named.1

-- WHAT IS SEEN

-- one who keeps the same of columns sees the same
pub sees_as : (caller : Caller) (a b : Kept) (own : Sighted)
    → ((colour : ℕ) → colour < MAX_COLOURS → a.seen caller.own colour ≡ b.seen caller.own colour)
    → ((colour : ℕ) → colour < MAX_COLOURS → a.known colour ≡ b.known colour)
    → Sees caller a own → Sees caller b own
sees_as caller a b own seen known s = record {
  client = s.client;
  region = s.region;
  seen = λ colour low. s.seen colour low ∙ seen colour low;
  known = λ colour low. s.known colour low ∙ known colour low;
}

pub sees_counted : (caller : Caller) (replies : List ReplyLine) (kept : Kept) (counted : Counted) (own : Sighted)
    → caller.own < MAX_REGIONS → IsCounted replies kept counted → own.client ≡ caller.client → own.region ≡ caller.own
    → ((colour : ℕ) → colour < MAX_COLOURS → slice_index own.seen colour ≡ seen_at counted caller.own colour)
    → ((colour : ℕ) → colour < MAX_COLOURS → slice_index own.known colour ≡ known_at counted colour)
    → Sees caller kept own
sees_counted caller replies kept counted own within is client region seen known = record {
  client = client;
  region = region;
  seen = λ colour low. seen colour low ∙ is.seen caller.own colour (within, low);
  known = λ colour low. known colour low ∙ is.known colour (omega (arith, low));
}

pub sees_placed : (caller : Caller) (kept : Kept) (colour : ℕ) (place : At) (own : Sighted)
    → Sees caller (kept_after_look kept caller.own colour (seen_after place)) own
    → Sees caller (kept_after_place kept caller.own colour place) own
sees_placed caller kept colour (ats.Event n) own s = record { client = s.client; region = s.region; seen = s.seen; known = s.known }
sees_placed caller kept colour (ats.Look n) own s = record { client = s.client; region = s.region; seen = s.seen; known = s.known }

-- ONE AFTER ANOTHER

module _ {X : Type 0} (P : Kept → X → Type 0) (f : Kept → X → Kept) where
  -- it holds of each, by what is kept behind those before it
  abbrev pub AreInTurn : Kept → List X → Type 0
  AreInTurn kept [] = Unit {0}
  AreInTurn kept (x ∷ xs) = P kept x × AreInTurn (f kept x) xs

  pub turn_more : (kept : Kept) (xs : List X) (i : ℕ) (d : X) → i < length xs → AreInTurn kept (take i xs)
      → P (fold f kept (take i xs)) (get_or xs i d) → AreInTurn kept (take (i + 1) xs)
  turn_more kept [] i d lt are p = absurd (let f : ⊥ = omega (arith, lt) in f)
  turn_more kept (x ∷ xs) zero d lt are p = (p, none (f kept x) xs) where
    none : (k : Kept) (ys : List X) → AreInTurn k (take zero ys)
    none k [] = tt
    none k (y ∷ ys) = tt
  turn_more kept (x ∷ xs) (suc i) d lt are p =
      subst (λ (n : ℕ). AreInTurn kept (take n (x ∷ xs))) (let e : suc (i + 1) ≡ suc i + 1 = omega arith in e)
      (are.0, turn_more (f kept x) xs i d (omega (arith, lt)) are.1 p)

  pub turn_at : (kept : Kept) (xs : List X) (i : ℕ) (d : X) → i < length xs → AreInTurn kept xs
      → P (fold f kept (take i xs)) (get_or xs i d)
  turn_at kept [] i d lt are = absurd (let f : ⊥ = omega (arith, lt) in f)
  turn_at kept (x ∷ xs) zero d lt are = first xs are.0 where
    first : (ys : List X) → P kept x → P (fold f kept (take zero (x ∷ ys))) x
    first ys p = p
  turn_at kept (x ∷ xs) (suc i) d lt are = turn_at (f kept x) xs i d (omega (arith, lt)) are.1

module _ (log : Log) (caller : Caller) where
  -- a raise
  abbrev pub NamesRaise : Kept → RaisePiece → Type 0
  NamesRaise kept raise =
      NamesPlace log caller kept caller.own raise.colour IsRaise raise.at
      × (kept.known raise.colour ≤ length (line (take (events_until raise.at) (log.histories caller.own raise.colour))))

  abbrev pub raised : Kept → RaisePiece → Kept
  raised kept raise = kept_after_place kept caller.own raise.colour raise.at

  pub raises_turn : (kept : Kept) (raises : List RaisePiece) → NamesRaises log caller kept raises → AreInTurn NamesRaise raised kept raises
  raises_turn kept [] names = tt
  raises_turn kept (r ∷ rs) names = ((names.0, names.1), raises_turn (raised kept r) rs names.2)

  pub turn_raises : (kept : Kept) (raises : List RaisePiece) → AreInTurn NamesRaise raised kept raises → NamesRaises log caller kept raises
  turn_raises kept [] are = tt
  turn_raises kept (r ∷ rs) are = (are.0.0, are.0.1, turn_raises (raised kept r) rs are.1)

  pub syncs_turn : (kept : Kept) (syncs : List SyncPiece) → NamesSyncs log caller kept syncs
      → AreInTurn (NamesSync log caller) (kept_after_piece log caller) kept syncs
  syncs_turn kept [] names = tt
  syncs_turn kept (s ∷ ss) names = (names.0, syncs_turn (kept_after_piece log caller kept s) ss names.1)

  pub turn_syncs : (kept : Kept) (syncs : List SyncPiece)
      → AreInTurn (NamesSync log caller) (kept_after_piece log caller) kept syncs → NamesSyncs log caller kept syncs
  turn_syncs kept [] are = tt
  turn_syncs kept (s ∷ ss) are = (are.0, turn_syncs (kept_after_piece log caller kept s) ss are.1)

-- APPENDS

pub append_points : (log : Log) (untold : Untold) (caller : Caller) (kept : Kept) (row : Option ℕ) (points : List PointPiece)
    → NamesAppend log untold caller kept row points → All (NamesPoint log caller kept) points
append_points log untold caller kept None points names = names
append_points log untold caller kept (Some number) points names = names.0

pub all_one : {X : Type 0} (P : X → Type 0) (x : X) (b : Bool) → Tells b (P x) → Tells b (All P (x ∷ []))
all_one P x true p = All-cons P x [] p (All-nil P)
all_one P x false fails = λ all. fails (All-head P x [] all)

pub single_appended : (caller : Caller) (kept : Kept) (untold : Untold) (stamp : ℕ) (points : List PointPiece) (point : PointPiece)
    (own : Sighted) → slice_get points 0 ≡ Some point
    → Sees caller (kept_after_single kept caller.own point.colour (events_until point.at) stamp point.position) own
    → Sees caller (kept_after_append untold caller kept stamp None points) own
single_appended caller kept untold stamp [] point own is s = absurd (let f : ⊥ = cc (is) in f)
single_appended caller kept untold stamp (p ∷ ps) point own is s =
    subst (λ (q : PointPiece). Sees caller (kept_after_single kept caller.own q.colour (events_until q.at) stamp q.position) own)
    (sym (same_some is)) s

pub append_several : (log : Log) (untold : Untold) (caller : Caller) (kept : Kept) (stamp : ℕ) (row : Option ℕ)
    (points : List PointPiece) (own : Sighted) (b : Bool) → is_some row ≡ true → All (NamesPoint log caller kept) points
    → AndThen b (NamesSteps log caller kept untold.places)
    (Sees caller (with_made (kept_after_points kept caller.own points) caller.own untold.places) own)
    → AndThen b (NamesAppend log untold caller kept row points)
    (Sees caller (kept_after_append untold caller kept stamp row points) own)
append_several log untold caller kept stamp None points own b t all named = absurd (true≢false (sym t))
append_several log untold caller kept stamp (Some number) points own b t all named =
    then_as (NamesSteps log caller kept untold.places) (NamesAppend log untold caller kept (Some number) points)
    (Sees caller (with_made (kept_after_points kept caller.own points) caller.own untold.places) own)
    (Sees caller (kept_after_append untold caller kept stamp (Some number) points) own) b (λ steps. (all, steps)) (λ names. names.1)
    (λ s. sees_as caller (with_made (kept_after_points kept caller.own points) caller.own untold.places)
    (kept_after_append untold caller kept stamp (Some number) points) own (λ colour low. refl) (λ colour low. refl) s) named

pub append_single : (log : Log) (untold : Untold) (caller : Caller) (kept : Kept) (stamp : ℕ) (row : Option ℕ)
    (points : List PointPiece) (own : Sighted) → is_some row ≡ false → All (NamesPoint log caller kept) points
    → Sees caller (kept_after_append untold caller kept stamp None points) own
    → NamesAppend log untold caller kept row points × Sees caller (kept_after_append untold caller kept stamp row points) own
append_single log untold caller kept stamp None points own f all s = (all, s)
append_single log untold caller kept stamp (Some number) points own f all s = absurd (true≢false f)

pub end_told : (log : Log) (untold : Untold) (caller : Caller) (kept : Kept) (ended : Ended) (stamp : ℕ) (point : PointPiece)
    (b : Bool) → ended ≡ ends.Stood stamp point → (point.colour < MAX_COLOURS → Tells b (NamesPoint log caller kept point))
    → IsEndLow ended → Tells b (NamesEnd log untold caller kept ended)
end_told log untold caller kept ended stamp point b is told =
    subst (λ (e : Ended). IsEndLow e → Tells b (NamesEnd log untold caller kept e)) (sym is)
    (λ low. all_one (NamesPoint log caller kept) point b (told low))

-- LINES

-- what is held of the own chain is the line
pub line_held : (own : ℕ) (history : List Entry) → own < MAX_REGIONS → at (held own (dated own history)) own ≡ length (line history)
line_held own history lt =
    at-vector (λ region. length (chain own (dated own history) region)) own (omega (arith, lt))
    ∙ (ap (λ (b : Bool). length (cond b (heads (line (entries_of (dated own history)))) (flat_map (λ (d : Dated). carried own d.entry.event)
    (dated own history)))) (eq-eqb own own refl)
    ∙ (length-map (line (entries_of (dated own history))) (λ (key : Key). let h : Head = record {
      key = key;
      needs = needs_of (dated own history) key.id;
    } in h)
    ∙ ap (λ (h : List Entry). length (line h)) (entries_dated own history))) where
      heads : List Key → List Head
      heads keys = map (λ (key : Key). record { key = key; needs = needs_of (dated own history) key.id }) keys

pub cell_within : (walked : Walked) (region colour : ℕ) (b : Bool) → HasColumn walked region colour b → b ≡ true
    → region < MAX_REGIONS
cell_within walked region colour true has t = has.2.0
cell_within walked region colour false has t = absurd (true≢false (sym t))

-- OWN STEPS

-- a step of an id
step_is : (id : Id) (event : Event) → is_step_of id event ≡ true → IsStepOf id event
step_is id (Single other floor wants) t = absurd (true≢false (sym t))
step_is id (Propose other floor wants) t = sym (same_id-is id other t)
step_is id (Settle other outcome) t = sym (same_id-is id other t)
step_is id (Raise to) t = absurd (true≢false (sym t))
step_is id (Give region from) t = absurd (true≢false (sym t))
step_is id (Carry region start heads) t = absurd (true≢false (sym t))
step_is id (Trim counts) t = absurd (true≢false (sym t))

-- what stands at a client's own places is by the client
placed_by : (client k p : ℕ) (h : List Entry) → In p (places_from k client h)
    → (n : ℕ) × (p ≡ k + n) × (e : Entry) × (slice_get h n ≡ Some e) × (e.by ≡ client)
placed_by client k p [] i = absurd i
placed_by client k p (e ∷ es) i = by ((e.by == client) && is_own client e.event) refl i (placed_by client (k + 1) p es) where
  later : (n : ℕ) × (p ≡ k + 1 + n) × (d : Entry) × (slice_get es n ≡ Some d) × (d.by ≡ client)
      → (n : ℕ) × (p ≡ k + n) × (d : Entry) × (slice_get (e ∷ es) n ≡ Some d) × (d.by ≡ client)
  later f = let is = f.1 in (suc f.0, omega (arith, is), f.2, f.3, f.4)

  by : (b : Bool) → ((e.by == client) && is_own client e.event) ≡ b
      → In p (cond b (k ∷ places_from (k + 1) client es) (places_from (k + 1) client es)) → (In p (places_from (k + 1) client es)
      → (n : ℕ) × (p ≡ k + 1 + n) × (d : Entry) × (slice_get es n ≡ Some d) × (d.by ≡ client))
      → (n : ℕ) × (p ≡ k + n) × (d : Entry) × (slice_get (e ∷ es) n ≡ Some d) × (d.by ≡ client)
  by true t (inl is) rest =
      (0, omega (arith, is), e, refl, eqb-true e.by client (and_parts (e.by == client) (is_own client e.event) t).0)
  by true t (inr j) rest = later (rest j)
  by false f j rest = later (rest j)

step_named : (client : ℕ) (id : Id) (shown : List ℕ) (history : List Entry) (p : ℕ) → In p (step_places client id shown history)
    → Has client history (IsStepOf id) p
step_named client id shown history p i =
    let f = in_filter (λ q. is_step_at id (slice_get history q) && not (is_among q shown)) p (places_of client history) i in
    let e = placed_by client 0 p history f.0 in
    let is = e.1 in
    let there : slice_get history p ≡ Some e.2 = ap (slice_get history) (let n : p ≡ e.0 = omega (arith, is) in n) ∙ e.3 in
    let step = (and_parts (is_step_at id (slice_get history p)) (not (is_among p shown)) f.1).0 in
    (e.2, there, e.4, step_is id e.2.event (subst (λ (o : Option Entry). is_step_at id o ≡ true) there step))

steps_named : (client : ℕ) (id : Id) (shown : List ℕ) (history : List Entry) (seen : ℕ)
    → All (λ p. seen ≤ p) (step_places client id shown history)
    → All (λ p. (seen ≤ p) × Has client history (IsStepOf id) p) (step_places client id shown history)
steps_named client id shown history seen all =
    all_in (λ p. (seen ≤ p) × Has client history (IsStepOf id) p) (step_places client id shown history) (λ p i. (
      All-contains (λ q. seen ≤ q) (step_places client id shown history) p all (contains_in (step_places client id shown history) p i),
      step_named client id shown history p i,
    ))

-- no step is in a column that is none
untold_none : (walked : Walked) (tracks : List Tracked) → MayWalk walked.script walked.report tracks → (client count colour : ℕ)
    → walked.script.shape.colours ≤ colour → steps_untold walked client count colour ≡ []
untold_none walked tracks may client count colour beyond =
    let own = (caller_of walked.script client).own in
    ap (step_places client (record { client = client; count = count }) (places_printed walked client own colour))
    (column_none walked.script walked.report tracks may own colour (inr beyond))

-- the first so many colours' own steps of an id were not seen before, and another one has seen them
pub record StepsSo (walked : Walked) (count : ℕ) (own first behind : Sighted) (n : ℕ) : Type 0 where
  pub unseen : (c : ℕ) → c < n → All (λ p. slice_index own.seen c ≤ p) (steps_untold walked own.client count c)
  pub client : behind.client ≡ first.client
  pub region : behind.region ≡ first.region
  pub known : behind.known ≡ first.known
  pub done : (c : ℕ) → c < n
      → slice_index behind.seen c ≡ seen_past (slice_index first.seen c) (steps_untold walked own.client count c)
  pub left : (c : ℕ) → n ≤ c → slice_index behind.seen c ≡ slice_index first.seen c

module _ (walked : Walked) (count : ℕ) (own first : Sighted) where
  pub steps_first : StepsSo walked count own first first 0
  steps_first = record {
    unseen = λ c lt. absurd (let f : ⊥ = omega (arith, lt) in f);
    client = refl;
    region = refl;
    known = refl;
    done = λ c lt. absurd (let f : ⊥ = omega (arith, lt) in f);
    left = λ c ge. refl;
  }

  pub steps_more : (n : ℕ) (old new : Sighted) (steps : List ℕ) (seen : ℕ) (b : Bool) → StepsSo walked count own first old n
      → steps ≡ steps_untold walked own.client count n → seen ≡ slice_index own.seen n → Tells b (All (λ p. seen ≤ p) steps) → b ≡ true
      → new.client ≡ old.client → new.region ≡ old.region → new.known ≡ old.known
      → slice_index new.seen n ≡ seen_past (slice_index old.seen n) steps
      → ((c : ℕ) → c ≢ n → slice_index new.seen c ≡ slice_index old.seen c) → StepsSo walked count own first new (n + 1)
  steps_more n old new steps seen b so is is_seen told t client region known here others = record {
    unseen = λ c lt. by_unseen c (cases_lt c n) lt;
    client = client ∙ so.client;
    region = region ∙ so.region;
    known = known ∙ so.known;
    done = λ c lt. by_done c (cases_lt c n) lt;
    left = λ c ge. others c (λ e. let f : ⊥ = omega (arith, ge, e) in f) ∙ so.left c (omega (arith, ge));
  } where
    all : All (λ p. slice_index own.seen n ≤ p) (steps_untold walked own.client count n)
    all =
        subst (λ (l : List ℕ). All (λ p. slice_index own.seen n ≤ p) l) is
        (subst (λ (m : ℕ). All (λ p. m ≤ p) steps) is_seen (told_so b told t))

    by_unseen : (c : ℕ) → (c < n) ⊎ (n ≤ c) → c < n + 1
        → All (λ p. slice_index own.seen c ≤ p) (steps_untold walked own.client count c)
    by_unseen c (inl less) lt = so.unseen c less
    by_unseen c (inr ge) lt =
        subst (λ (k : ℕ). All (λ p. slice_index own.seen k ≤ p) (steps_untold walked own.client count k))
        (let e : n ≡ c = omega (arith, lt, ge) in e) all

    at_here : slice_index new.seen n ≡ seen_past (slice_index first.seen n) (steps_untold walked own.client count n)
    at_here =
        here ∙ (ap (λ (m : ℕ). seen_past m steps) (so.left n (omega arith)) ∙ ap (seen_past (slice_index first.seen n)) is)

    by_done : (c : ℕ) → (c < n) ⊎ (n ≤ c) → c < n + 1
        → slice_index new.seen c ≡ seen_past (slice_index first.seen c) (steps_untold walked own.client count c)
    by_done c (inl less) lt = others c (λ e. let f : ⊥ = omega (arith, less, e) in f) ∙ so.done c less
    by_done c (inr ge) lt =
        subst (λ (k : ℕ). slice_index new.seen k ≡ seen_past (slice_index first.seen k) (steps_untold walked own.client count k))
        (let e : n ≡ c = omega (arith, lt, ge) in e) at_here

  -- over colours that have none
  pub steps_on : (n m : ℕ) (behind : Sighted) → n ≤ m
      → ((c : ℕ) → n ≤ c → c < m → steps_untold walked own.client count c ≡ []) → StepsSo walked count own first behind n
      → StepsSo walked count own first behind m
  steps_on n m behind le none so = record {
    unseen = λ c lt. by_unseen c lt (cases_lt c n);
    client = so.client;
    region = so.region;
    known = so.known;
    done = λ c lt. by_done c lt (cases_lt c n);
    left = λ c ge. so.left c (omega (arith, le, ge));
  } where
    by_unseen : (c : ℕ) → c < m → (c < n) ⊎ (n ≤ c) → All (λ p. slice_index own.seen c ≤ p) (steps_untold walked own.client count c)
    by_unseen c lt (inl less) = so.unseen c less
    by_unseen c lt (inr ge) =
        subst (All (λ p. slice_index own.seen c ≤ p)) (sym (none c ge lt)) (All-nil (λ p. slice_index own.seen c ≤ p))

    by_done : (c : ℕ) → c < m → (c < n) ⊎ (n ≤ c)
        → slice_index behind.seen c ≡ seen_past (slice_index first.seen c) (steps_untold walked own.client count c)
    by_done c lt (inl less) = so.done c less
    by_done c lt (inr ge) = so.left c ge ∙ ap (seen_past (slice_index first.seen c)) (sym (none c ge lt))

  module _ (kept after : Kept) (untold : Untold) (s : Sees (caller_of walked.script own.client) kept own)
      (ids : count ≡ kept.ids) (left_out : LeavesOutSteps walked own.client count untold) where
    abbrev caller : Caller
    caller = caller_of walked.script own.client

    abbrev Named : ℕ → ℕ → ℕ → ℕ → Type 0
    Named seen number colour p =
        (seen ≤ p) × Has caller.client (journal_walked walked caller.own colour)
        (IsStepOf (record { client = caller.client; count = number })) p

    pub steps_stop : (n : ℕ) (steps : List ℕ) (seen : ℕ) (b : Bool) → n < MAX_COLOURS
        → steps ≡ steps_untold walked own.client count n → seen ≡ slice_index own.seen n → Tells b (All (λ p. seen ≤ p) steps)
        → b ≡ false → NamesSteps (log_walked walked) caller kept untold.places → ⊥
    steps_stop n steps seen b low is is_seen told f names =
        told_not b told f
        (subst (λ (m : ℕ). All (λ p. m ≤ p) steps) (sym (is_seen ∙ s.seen n low))
        (subst (λ (l : List ℕ). All (λ p. kept.seen caller.own n ≤ p) l) (left_out n ∙ sym is)
        (All-weaker (Named (kept.seen caller.own n) kept.ids n) (λ p. kept.seen caller.own n ≤ p) (λ p named. named.0)
        (untold.places n) (names n))))

    pub steps_end : (tracks : List Tracked) → MayWalk walked.script walked.report tracks → (n : ℕ) (behind : Sighted)
        → walked.script.shape.colours ≤ n → StepsSo walked count own first behind n → n ≤ walked.script.shape.colours
        → Sees caller after first
        → NamesSteps (log_walked walked) caller kept untold.places × Sees caller (with_made after caller.own untold.places) behind
    steps_end tracks may n behind ge so le t = (λ colour. named colour (cases_lt colour n), sees) where
      few : n ≤ MAX_COLOURS
      few = let f = few_colours walked.script may.fitting in omega (arith, f, le)

      none : (colour : ℕ) → n ≤ colour → steps_untold walked own.client count colour ≡ []
      none colour beyond = untold_none walked tracks may own.client count colour (omega (arith, ge, beyond))

      here : (colour : ℕ) → colour < n → All (Named (kept.seen caller.own colour) kept.ids colour) (untold.places colour)
      here colour lt =
          subst (λ (l : List ℕ). All (Named (kept.seen caller.own colour) kept.ids colour) l) (sym (left_out colour))
          (subst (λ (k : ℕ). All (Named (kept.seen caller.own colour) k colour) (steps_untold walked own.client count colour)) ids
          (steps_named own.client (record { client = own.client; count = count })
          (places_printed walked own.client caller.own colour) (journal_walked walked caller.own colour) (kept.seen caller.own colour)
          (subst (λ (m : ℕ). All (λ p. m ≤ p) (steps_untold walked own.client count colour))
          (s.seen colour (omega (arith, lt, few))) (so.unseen colour lt))))

      named : (colour : ℕ) → (colour < n) ⊎ (n ≤ colour)
          → All (Named (kept.seen caller.own colour) kept.ids colour) (untold.places colour)
      named colour (inl lt) = here colour lt
      named colour (inr beyond) =
          subst (λ (l : List ℕ). All (Named (kept.seen caller.own colour) kept.ids colour) l)
          (sym (left_out colour ∙ none colour beyond)) (All-nil (Named (kept.seen caller.own colour) kept.ids colour))

      made : (colour : ℕ) → updated after.seen caller.own (λ c. seen_past (after.seen caller.own c) (untold.places c)) caller.own colour
          ≡ seen_past (after.seen caller.own colour) (untold.places colour)
      made colour =
          ap (λ (b : Bool). cond b (λ (c : ℕ). seen_past (after.seen caller.own c) (untold.places c)) (after.seen caller.own) colour)
          (eq-eqb caller.own caller.own refl)

      passed : (colour : ℕ) → (colour < n) ⊎ (n ≤ colour)
          → slice_index behind.seen colour ≡ seen_past (slice_index first.seen colour) (steps_untold walked own.client count colour)
      passed colour (inl lt) = so.done colour lt
      passed colour (inr beyond) =
          so.left colour beyond ∙ ap (seen_past (slice_index first.seen colour)) (sym (none colour beyond))

      sees : Sees caller (with_made after caller.own untold.places) behind
      sees = record {
        client = so.client ∙ t.client;
        region = so.region ∙ t.region;
        seen = λ colour low.
            passed colour (cases_lt colour n)
            ∙ (ap (λ (m : ℕ). seen_past m (steps_untold walked own.client count colour)) (t.seen colour low)
            ∙ (ap (seen_past (after.seen caller.own colour)) (sym (left_out colour)) ∙ sym (made colour)));
        known = λ colour low. ap (λ (l : List ℕ). slice_index l colour) so.known ∙ t.known colour low;
      }

-- what a pass over own steps tells
abbrev pub StepsTold : Walked → ℕ → Sighted → Sighted → Bool → Sighted → Type 0
StepsTold walked count old new b own = (kept after : Kept) (untold : Untold) → Sees (caller_of walked.script own.client) kept own
    → Sees (caller_of walked.script own.client) after old → count ≡ kept.ids → LeavesOutSteps walked own.client count untold
    → AndThen b (NamesSteps (log_walked walked) (caller_of walked.script own.client) kept untold.places)
    (Sees (caller_of walked.script own.client) (with_made after (caller_of walked.script own.client).own untold.places) new)

-- ANSWERS

module _ (walked : Walked) (client : ℕ) where
  abbrev by_client : Caller
  by_client = caller_of walked.script client

  pub asked_sees : (tracks : List Tracked) → MayWalk walked.script walked.report tracks → (what : What) (answer : Answer) (kept : Kept)
      (untold : Untold) (counted : Counted) (own : Sighted) (region : ℕ) → region ≡ by_client.own → region < walked.script.shape.regions
      → own.client ≡ client → own.region ≡ region
      → ((colour : ℕ) → colour < MAX_COLOURS → slice_index own.seen colour ≡ seen_at counted region colour)
      → ((colour : ℕ) → colour < MAX_COLOURS → slice_index own.known colour ≡ known_at counted colour)
      → IsAsked walked client what answer kept untold counted → Sees by_client kept own
  asked_sees tracks may what answer kept untold counted own region is within is_client is_region seen known asked =
      let few = few_regions walked.script may.fitting in
      sees_counted by_client (replies_to walked.report client) kept counted own (omega (arith, is, within, few)) asked.counts is_client
      (is_region ∙ is) (λ colour low. seen colour low ∙ ap (λ (r : ℕ). seen_at counted r colour) is) known

  pub left_out_of : (what : What) (answer : Answer) (kept : Kept) (untold : Untold) (count : ℕ) → count ≡ kept.ids
      → untold ≡ untold_told (log_walked walked) by_client (places_printed walked client) kept what answer
      → LeavesOutSteps walked client count untold
  left_out_of what answer kept untold count ids told =
      subst (λ (k : ℕ). LeavesOutSteps walked client k untold) (sym ids) (λ colour. ap (λ (u : Untold). u.places colour) told)

-- what is told of an append of a client
abbrev pub AppendTold : {E : Type 0} → Walked → ℕ → Option ℕ → List PointPiece → Sighted → Sighted → Result Bool E → ℕ → Type 0
AppendTold walked count row points old new r client = (kept : Kept) (untold : Untold) (stamp : ℕ)
    → Sees (caller_of walked.script client) kept old → count ≡ kept.ids → LeavesOutSteps walked client count untold
    → ArePointsLow points → IfOk r (λ b. AndThen b
    (NamesAppend (log_walked walked) untold (caller_of walked.script client) kept row points)
    (Sees (caller_of walked.script client) (kept_after_append untold (caller_of walked.script client) kept stamp row points) new))

-- and of a commit
abbrev pub CommitTold : {E : Type 0} → Walked → ℕ → Option ℕ → List PointPiece → List RaisePiece → List SyncPiece → Sighted
    → Result Bool E → ℕ → Type 0
CommitTold walked count row points raises syncs old r client = (kept : Kept) (untold : Untold) (stamp : ℕ)
    → Sees (caller_of walked.script client) kept old → count ≡ kept.ids → LeavesOutSteps walked client count untold
    → ArePointsLow points → AreRaisesLow raises → AreSyncsLow syncs → IfOk r (λ b. Tells b
    (NamesAppend (log_walked walked) untold (caller_of walked.script client) kept row points
    × NamesRead (log_walked walked) (caller_of walked.script client)
    (kept_after_append untold (caller_of walked.script client) kept stamp row points) raises syncs))

-- and of own steps
abbrev pub BegunTold : {E : Type 0} → Walked → ℕ → Sighted → Result Bool E → ℕ → Type 0
BegunTold walked count own r client = (kept : Kept) (untold : Untold) → Sees (caller_of walked.script client) kept own
    → count ≡ kept.ids → LeavesOutSteps walked client count untold → IfOk r (λ b. Tells b
    (NamesSteps (log_walked walked) (caller_of walked.script client) kept untold.places))

pub stopped_told : (log : Log) (untold : Untold) (by : Caller) (kept : Kept) (what : What) (steps : ℕ) (b : Bool) → (steps ≡ 0 → ⊥)
    → Tells b (NamesSteps log by kept untold.places) → Tells b (Names log untold by kept what (answers.Stopped steps))
stopped_told log untold by kept what zero b some told = absurd (some refl)
stopped_told log untold by kept what (suc n) b some told = told

pub read_arm : (log : Log) (caller : Caller) (kept : Kept) (raises : List RaisePiece) (syncs : List SyncPiece) (own : Sighted)
    (seen_raises : List RaisePiece) (seen_syncs : List SyncPiece) (b : Bool) → seen_raises ≡ raises → seen_syncs ≡ syncs
    → (Behind : Caller → Kept → ℕ → Type 0)
    → ((by : Caller) (k : Kept) (stamp : ℕ) → Sees by k own → AreRaisesLow seen_raises → AreSyncsLow seen_syncs
    → AndThen b (NamesRead log by k seen_raises seen_syncs) (Behind by k stamp))
    → Sees caller kept own → AreRaisesLow raises × AreSyncsLow syncs → Tells b (NamesRead log caller kept raises syncs)
read_arm log caller kept raises syncs own seen_raises seen_syncs b is_raises is_syncs Behind told s low =
    subst (λ (l : List RaisePiece). Tells b (NamesRead log caller kept l syncs)) is_raises
    (subst (λ (l : List SyncPiece). Tells b (NamesRead log caller kept seen_raises l)) is_syncs
    (and_told (NamesRead log caller kept seen_raises seen_syncs) (Behind caller kept 0) b
    (told caller kept 0 s (subst AreRaisesLow (sym is_raises) low.0) (subst AreSyncsLow (sym is_syncs) low.1))))

-- what is told of a decide
abbrev pub DecideTold : Walked → SyncPiece → List RaisePiece → List SyncPiece → Ended → Sighted → Bool → Type 0
DecideTold walked sync raises syncs ended own b = (caller : Caller) (kept : Kept) (untold : Untold) (stamp : ℕ) → Sees caller kept own
    → sync.colour < MAX_COLOURS → AreRaisesLow raises → AreSyncsLow syncs → IsEndLow ended → Tells b
    (NamesSync (log_walked walked) caller kept sync
    × NamesRead (log_walked walked) caller (kept_after_piece (log_walked walked) caller kept sync) raises syncs
    × NamesEnd (log_walked walked) untold caller (kept_deciding (log_walked walked) caller kept sync stamp raises syncs) ended)

pub decide_as : (walked : Walked) (sync : SyncPiece) (raises seen_raises : List RaisePiece) (syncs seen_syncs : List SyncPiece)
    (ended : Ended) (own : Sighted) (b : Bool) → seen_raises ≡ raises → seen_syncs ≡ syncs
    → DecideTold walked sync seen_raises seen_syncs ended own b → DecideTold walked sync raises syncs ended own b
decide_as walked sync raises seen_raises syncs seen_syncs ended own b is_raises is_syncs told =
    subst (λ (l : List RaisePiece). DecideTold walked sync l syncs ended own b) is_raises
    (subst (λ (l : List SyncPiece). DecideTold walked sync seen_raises l ended own b) is_syncs told)

pub cell_of : (script : Script) → IsFitting script → (region colour : ℕ) → region < script.shape.regions
    → colour < script.shape.colours → IsCell region colour
cell_of script fits region colour lt low =
    let f = few_regions script fits in
    let g = few_colours script fits in (omega (arith, lt, f), omega (arith, low, g))

pub gives_told : (log : Log) (caller : Caller) (region colour : ℕ) (history : List Entry) (own : ℕ) (places low : List ℕ) (b : Bool)
    → history ≡ log.histories region colour → own ≡ caller.own → places ≡ low
    → Tells b (All (Has caller.client history (GivesTo own)) places)
    → Tells b (All (Has caller.client (log.histories region colour) (GivesTo caller.own)) low)
gives_told log caller region colour history own places low b is_history is_own is told =
    subst (λ (l : List ℕ). Tells b (All (Has caller.client (log.histories region colour) (GivesTo caller.own)) l)) is
    (subst (λ (n : ℕ). Tells b (All (Has caller.client (log.histories region colour) (GivesTo n)) places)) is_own
    (subst (λ (h : List Entry). Tells b (All (Has caller.client h (GivesTo own)) places)) is_history told))

-- a pull of this client, whose gives that were too low are told
pub pull_told : (log : Log) (untold : Untold) (caller : Caller) (kept : Kept) (what : What) (region colour count : ℕ) (give carry : At)
    (b : Bool) → what ≡ whats.Pull region colour
    → All (Has caller.client (log.histories region colour) (GivesTo caller.own)) untold.too_low
    → NamesPlace log caller kept region colour (GivesTo caller.own) give
    → Tells b (NamesPlace log caller kept caller.own colour (CarriesOf region) carry)
    → Tells b (Names log untold caller kept what (answers.Pulled count give carry))
pull_told log untold caller kept what region colour count give carry true is low given carried =
    (region, colour, is, (low, given, carried))
pull_told log untold caller kept what region colour count give carry false is low given fails = λ names.
    let same : (let w : What = whats.Pull names.0 names.1 in w) ≡ whats.Pull region colour = sym names.2 ∙ is in
    let r : names.0 ≡ region = cc (same) in
    let k : names.1 ≡ colour = cc (same) in
    fails (subst (λ (n : ℕ). NamesPlace log caller kept caller.own colour (CarriesOf n) carry) r
    (subst (λ (n : ℕ). NamesPlace log caller kept caller.own n (CarriesOf names.0) carry) k names.3.2))

pub pull_low : (log : Log) (untold : Untold) (caller : Caller) (kept : Kept) (what : What) (region colour count : ℕ) (give carry : At)
    → what ≡ whats.Pull region colour → Names log untold caller kept what (answers.Pulled count give carry)
    → All (Has caller.client (log.histories region colour) (GivesTo caller.own)) untold.too_low
pull_low log untold caller kept what region colour count give carry is names =
    let same : (let w : What = whats.Pull names.0 names.1 in w) ≡ whats.Pull region colour = sym names.2 ∙ is in
    let r : names.0 ≡ region = cc (same) in
    let k : names.1 ≡ colour = cc (same) in
    subst (λ (n : ℕ). All (Has caller.client (log.histories n colour) (GivesTo caller.own)) untold.too_low) r
    (subst (λ (n : ℕ). All (Has caller.client (log.histories names.0 n) (GivesTo caller.own)) untold.too_low) k names.3.0)

-- CLIENTS

pub client_named : (walked : Walked) (tracks : List Tracked) → MayWalk walked.script walked.report tracks → (client : ℕ)
    (counted : Counted) (b : Bool)
    → WalksTo walked client (NamesAll walked (caller_of walked.script client)) (Some counted)
    → Tells b (HasMade walked client counted) → Tells b (IsClientNamed walked client)
client_named walked tracks may client counted b to = by b where
  cell : (region colour : ℕ) → region < walked.script.shape.regions → colour < walked.script.shape.colours → IsCell region colour
  cell region colour lt low = cell_of walked.script may.fitting region colour lt low

  by : (t : Bool) → Tells t (HasMade walked client counted) → Tells t (IsClientNamed walked client)
  by true made = record {
    named = to.0;
    made = λ region colour lt low. made region lt colour low ∙ to.1.made region colour (cell region colour lt low);
  }
  by false fails = λ is. fails (λ region lt colour low.
      is.made region colour lt low ∙ sym (to.1.made region colour (cell region colour lt low)))

pub client_stops : (walked : Walked) (client : ℕ) → WalksTo walked client (NamesAll walked (caller_of walked.script client)) None
    → IsClientNamed walked client → ⊥
client_stops walked client to is = to is.named

-- HELPERS

pub none_helps : (script : Script) (client n : ℕ) → length (commands_of script client) ≤ n
    → ((k : ℕ) (x : Command) → k < n → slice_get (commands_of script client) k ≡ Some x → may_help (manner_of x.what) ≡ false)
    → HasHelping script client → ⊥
none_helps script client n ge none has =
    let i = in_slice (commands_of script client) has.0 (in_contains (commands_of script client) has.0 has.1) in
    let lt = slice_get_within (commands_of script client) i.0 has.0 i.1 in
    true≢false (sym has.2 ∙ none i.0 has.0 (omega (arith, lt, ge)) i.1)

pub helping_more : (script : Script) (xs ys : List Bool) (b : Bool) (n : ℕ)
    → (length xs ≡ n) × ((client : ℕ) → client < n → Tells (slice_index_or xs client false) (HasHelping script client))
    → Tells b (HasHelping script n) → ys ≡ xs ++ b ∷ []
    → (length ys ≡ n + 1) × ((client : ℕ) → client < n + 1 → Tells (slice_index_or ys client false) (HasHelping script client))
helping_more script xs ys b n so told is = (
  ap length is ∙ (length-append xs (b ∷ []) ∙ ap (λ (k : ℕ). k + 1) so.0),
  λ client lt. subst (λ (l : List Bool). Tells (slice_index_or l client false) (HasHelping script client)) (sym is)
      (by client (cases_lt client n) lt),
) where
  by : (client : ℕ) → (client < n) ⊎ (n ≤ client) → client < n + 1
      → Tells (slice_index_or (xs ++ b ∷ []) client false) (HasHelping script client)
  by client (inl less) lt =
      let long = so.0 in
      subst (λ (t : Bool). Tells t (HasHelping script client))
      (sym (get_or_append_left xs (b ∷ []) false client (omega (arith, less, long)))) (so.1 client less)
  by client (inr ge) lt =
      let e : n ≡ client = omega (arith, lt, ge) in
      subst (λ (k : ℕ). Tells (slice_index_or (xs ++ b ∷ []) k false) (HasHelping script k)) e
      (subst (λ (t : Bool). Tells t (HasHelping script n)) (sym (get_or_push xs b false n so.0)) told)

-- THE RULE

module _ (walked : Walked) (tracks : List Tracked) (may : MayWalk walked.script walked.report tracks) where
  abbrev account : Account
  account = account_of walked.script walked.report no_nodes

  journal_is : (c : ColumnReport) → In c walked.report.columns → c.journal ≡ journal_among walked.report.columns c.region c.colour
  journal_is c i =
      All-contains (λ (d : ColumnReport). d.journal ≡ journal_among walked.report.columns d.region d.colour) walked.report.columns c
      (reports_tell walked.script walked.report no_nodes may.formed).histories (contains_in walked.report.columns c i)

  pub rule_from : AreNamed walked → All (AreHelpers walked.script) walked.report.columns → Rule4 walked.script walked.report account
  rule_from named helpers = record {
    named = λ n c at. (named n (slice_get_within walked.report.clients n c at)).named;
    made = λ n c at region colour lt low. (named n (slice_get_within walked.report.clients n c at)).made region colour lt low;
    helpers = λ region colour e lt low there help.
        let c = column_there walked.script.shape.regions walked.script.shape.colours walked.report.columns may.first.columns region
        colour lt low in
        let i = slice_in walked.report.columns (region * walked.script.shape.colours + colour) c.0 c.1 in
        let same : journal_among walked.report.columns region colour ≡ c.0.journal =
        ap (λ (r : ℕ). journal_among walked.report.columns r colour) (sym c.2)
        ∙ (ap (journal_among walked.report.columns c.0.region) (sym c.3) ∙ sym (journal_is c.0 i)) in
        let all = All-contains (AreHelpers walked.script) walked.report.columns c.0 helpers (contains_in walked.report.columns c.0 i) in
        subst (λ (r : ℕ). HasHelping walked.script e.by × ((caller_of walked.script e.by).own ≡ r)) c.2
        (All-contains (MayHelp walked.script c.0.region) c.0.journal e all (subst (λ (l : List Entry). Contains l e) same there) help);
  }

  pub rule_named : Rule4 walked.script walked.report account → AreNamed walked
  rule_named rule client lt =
      let c = get_within walked.report.clients client lt in record {
        named = rule.named client c.0 c.1;
        made = rule.made client c.0 c.1;
      }

  pub rule_helpers : Rule4 walked.script walked.report account → All (AreHelpers walked.script) walked.report.columns
  rule_helpers rule = all_in (AreHelpers walked.script) walked.report.columns (λ c i.
      let in_shape = column_within walked.script.shape.regions walked.script.shape.colours walked.report.columns may.first.columns c i in
      all_in (MayHelp walked.script c.region) c.journal (λ e j help.
      rule.helpers c.region c.colour e in_shape.0 in_shape.1
      (subst (λ (l : List Entry). Contains l e) (journal_is c i) (contains_in c.journal e j)) help))

  pub rule_told : AreNamed walked → (b : Bool) → Tells b (All (AreHelpers walked.script) walked.report.columns)
      → Tells b (Rule4 walked.script walked.report account)
  rule_told named true helpers = rule_from named helpers
  rule_told named false fails = λ rule. fails (rule_helpers rule)

-- makers of a column's events are clients of the script
pub makers_at : (walked : Walked) (tracks : List Tracked) → MayWalk walked.script walked.report tracks → (c : ColumnReport)
    → Contains walked.report.columns c → All (λ (e : Entry). e.by < length walked.script.shape.homes) c.journal
makers_at walked tracks may c there =
    let many = may.fitting.clients in
    All-weaker (λ (e : Entry). e.by < length walked.script.clients) (λ (e : Entry). e.by < length walked.script.shape.homes)
    (λ e lt. omega (arith, lt, many)) c.journal
    (All-contains (IsLawfulColumn walked.script) walked.report.columns c may.second.each there).makers

-- commands of the script name what its shape has
pub command_within : (walked : Walked) (tracks : List Tracked) → MayWalk walked.script walked.report tracks
    → (client place : ℕ) (x : Command) → slice_get (commands_of walked.script client) place ≡ Some x
    → IsWithin walked.script.shape.regions walked.script.shape.colours x.what
command_within walked tracks may client place x at =
    All-contains (λ (y : Command). IsWithin walked.script.shape.regions walked.script.shape.colours y.what) walked.script.commands x
    may.fitting.commands
    (contains_in walked.script.commands x
    (in_filter (λ (y : Command). y.client == client) x walked.script.commands
    (slice_in (commands_of walked.script client) place x at)).0)

-- a step that is seen is asked, and what is told of its answer is told of it
pub seen_told : (walked : Walked) (tracks : List Tracked) → MayWalk walked.script walked.report tracks → (client place : ℕ)
    (counted : Counted) (step : Step) → IsSeen walked client place counted step
    → (x : Command) → slice_get (commands_of walked.script client) place ≡ Some x
    → (r : ReplyLine) → slice_get (replies_to walked.report client) place ≡ Some r → (b : Bool)
    → ((kept : Kept) (untold : Untold) → IsAsked walked client x.what r.answer kept untold counted
    → Tells b (Names (log_walked walked) untold (caller_of walked.script client) kept x.what r.answer))
    → Tells b (NamesAll walked (caller_of walked.script client) step)
seen_told walked tracks may client place counted step seen x at_x r at_r b told =
    by x r (same_some (sym at_x ∙ seen.command)) (same_some (sym at_r ∙ seen.reply)) told where
      asked : IsAsked walked client step.command.what step.reply.answer (kept_at step) step.untold counted
      asked = record {
        counts = seen.kept;
        told = seen.untold;
        low = can_low walked.script may.fitting client (kept_at step) step.command.what
            (command_within walked tracks may client place step.command seen.command) step.reply.nodes step.reply.answer seen.can.answer;
      }

      by : (x : Command) (r : ReplyLine) → x ≡ step.command → r ≡ step.reply
          → ((kept : Kept) (untold : Untold) → IsAsked walked client x.what r.answer kept untold counted
          → Tells b (Names (log_walked walked) untold (caller_of walked.script client) kept x.what r.answer))
          → Tells b (NamesAll walked (caller_of walked.script client) step)
      by x r is_x is_r tell =
          subst (λ (y : Command). (kept : Kept) (untold : Untold) → IsAsked walked client y.what step.reply.answer kept untold counted
          → Tells b (Names (log_walked walked) untold (caller_of walked.script client) kept y.what step.reply.answer)) is_x
          (subst (λ (q : ReplyLine). (kept : Kept) (untold : Untold) → IsAsked walked client x.what q.answer kept untold counted
          → Tells b (Names (log_walked walked) untold (caller_of walked.script client) kept x.what q.answer)) is_r tell)
          (kept_at step) step.untold asked
