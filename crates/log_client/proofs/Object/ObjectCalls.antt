-- Calls of a client within a call of an object, one after another, and what of them is not told.
use Rattle.std.proofs.Common.{◌≡◌, ◌≢◌, ◌⊎◌, inl, inr, cond, Bool, ℕ, ◌+◌, ◌<◌, ◌≤◌, min, max, true, false, List, [], ◌∷◌, ◌++◌, length, map, take, Option, Some, None, refl, ap, sym, subst, ◌∙◌, arith, eq-eqb, append-nil}
use Rattle.std.specs.Prelude.{◌==◌, slice_get, if◌then◌else◌}
use mathlib.Core.Path.{fun_ext}
use Rattle.std.proofs.lemmas.Bool.{cases_eq, cases_lt, eqb-true, ne_eqb}
use Rattle.log_node.specs.declared.ids.Colours.{Colours}
use Rattle.log_node.specs.declared.ids.Counts.{Counts}
use Rattle.log_node.specs.declared.ids.Key.{Key}
use Rattle.log_node.specs.declared.node.At.{At}
use Rattle.log_node.specs.declared.node.At.TheVariants.{Event}
use Rattle.log_node.specs.declared.node.Node.{Node}
use Rattle.log_node.specs.Sets.{members}
use Rattle.log_node.specs.Seen.{PlacedNode}
use Rattle.log_node.specs.Vectors.{at}
use Rattle.col_core.specs.declared.Entry.{Entry}
use Rattle.col_core.specs.History.{line}
use Rattle.col_core.specs.Log.{Log, IsLater}
use Rattle.col_core.specs.Keeping.{Kept, updated, updated_at, seen_past, kept_after_single, kept_after_sync, with_made, with_node, with_floor}
use Rattle.col_core.proofs.CallerLemmas.{choice, if_true, if_false}
use Rattle.script_text.specs.declared.script.Object.{Object}
use Rattle.report_text.specs.declared.report.PointPiece.{PointPiece}
use Rattle.append_core.specs.declared.stood.Point.{Point}
use Rattle.lawful_run.specs.Callers.{Caller, node_of}
use Rattle.lawful_run.specs.Appends.{Appends, AppendsOne, AppendsUnshown, one_unshown}
use Rattle.lawful_run.specs.Reads.{Syncs, ShowsPlayed, HidesSyncs, HidesSync, played, greatest_played, greatest_stamp, IsTrimmed}
use Rattle.lawful_run.proofs.CallerLemmas.{append_later, hides_none, hides_syncs_later, kept_after_hidden, unshown_later, stamps_played}
use Rattle.client_law.specs.Knowing.{Rest, log_seen}
use Rattle.client_law.specs.Kept.{IsKeptBy}
use Rattle.client_law.proofs.CallerLemmas.{at_new_at}
use Rattle.log_client.specs.declared.store.Store.{Store}
use Rattle.log_client.specs.declared.client.Client.{Client}
use Rattle.log_client.specs.declared.answers.Appended.{Appended}
use Rattle.log_client.specs.declared.answers.Synced.{Synced}
use Rattle.log_client.specs.declared.faults.SyncFault.{SyncFault}
use Rattle.log_client.specs.declared.faults.SyncFault.TheVariants as sync_faults
use Rattle.log_client.specs.Fits.{FitsHolds, HaveGoneOn}
use Rattle.log_client.specs.Growing.{HasGrown}
use Rattle.log_client.specs.Clients.{holds_of, seen_of, starts_of, tracks_of, caller_of, IsClient, Keeps, Finished}
use Rattle.log_client.specs.Calls.{DidNothing, IsExplained, IsSame, SyncsAs, SyncRefused, nodes_played}
use Rattle.log_client.specs.Appends.{AppendsAs, piece_of}
use Rattle.log_client.specs.Reading.{RestsOn}
use Rattle.log_client.specs.Objects.{HidesOne, SyncsUntold, StandsThen, StandsIn, UnreadLeaves}
use Rattle.log_client.proofs.Going.Explaining.{log_then}
use Rattle.log_client.proofs.Known.Fitting.{fits_less}
use Rattle.log_client.proofs.Going.GoingOn.{same_caller}
use Rattle.log_client.proofs.Object.ObjectNodes.{counted_within}

-- WHAT EXPLAINS THEM

-- it says less
pub explained_less : (s : Store) (c d : Client) (R Q : Log → Caller → Kept → Kept → Type 0)
    → ((log : Log) (caller : Caller) (kept after : Kept) → R log caller kept after → Q log caller kept after)
    → IsExplained s c d R → IsExplained s c d Q
explained_less s c d R Q less e objects kept finished keeps =
    let r = e objects kept finished keeps in
    (r.0, r.1, λ rest fits. less (log_seen (seen_of d) rest) (caller_of s d objects) kept r.0 (r.2 rest fits))

-- one call and then another: what held of the log holds of it later
pub explained_then : (s : Store) (c m d : Client) (R Q : Log → Caller → Kept → Kept → Type 0)
    → RestsOn s c m → RestsOn s m d
    → ((old new : Log) (caller : Caller) (kept after : Kept) → IsLater old new → R old caller kept after → R new caller kept after)
    → IsExplained s c m R → IsExplained s m d Q
    → IsExplained s c d (λ log caller kept after. (stood : Kept) × R log caller kept stood × Q log caller stood after)
explained_then s c m d R Q a b later before last objects kept finished keeps =
    let x = before objects kept finished keeps in
    let y = last objects x.0 (a.finished finished) x.1 in (
      y.0,
      y.1,
      λ rest fits. (
        x.0,
        subst (λ (z : Caller). R (log_seen (seen_of d) rest) z kept x.0) (same_caller s m d objects b.same)
            (later (log_seen (seen_of m) rest) (log_seen (seen_of d) rest) (caller_of s m objects) kept x.0
            (log_then s m d b rest)
            (x.2 rest (fits_less (holds_of m) (holds_of d) rest b.goes fits))),
        y.2 rest fits,
      ),
    )

-- WHAT IS NOT TOLD

-- what is kept of a call whose nodes in the line are not told
abbrev unknown : Kept → Kept → Kept
unknown kept after = record after { known = λ c. min (kept.known c) (after.known c) }

-- and of one that tells nothing of what was seen
abbrev untold : Kept → Kept → Kept
untold kept after = record after {
  seen = λ r c. min (kept.seen r c) (after.seen r c);
  known = λ c. min (kept.known c) (after.known c);
}

module _ (s : Store) (d : Client) (objects : List Object) (kept after : Kept) (keeps : Keeps s d objects after) where
  keeps_unknown : Keeps s d objects (unknown kept after)
  keeps_unknown = record {
    by = record {
      seen_within = keeps.by.seen_within;
      known_within = λ c. let le = keeps.by.known_within c in omega (arith, le);
      known_under = λ c i key lt there. keeps.by.known_under c i key (omega (arith, lt)) there;
      starts_under = keeps.by.starts_under;
      starts_reached = keeps.by.starts_reached;
      steps_made = keeps.by.steps_made;
    };
    floor = keeps.floor;
    ids = keeps.ids;
    rows = keeps.rows;
    starts = keeps.starts;
  }

  keeps_untold : Keeps s d objects (untold kept after)
  keeps_untold = record {
    by = record {
      seen_within = λ r c. let le = keeps.by.seen_within r c in omega (arith, le);
      known_within = λ c. let le = keeps.by.known_within c in omega (arith, le);
      known_under = λ c i key lt there. keeps.by.known_under c i key (omega (arith, lt)) there;
      starts_under = keeps.by.starts_under;
      starts_reached = keeps.by.starts_reached;
      steps_made = keeps.by.steps_made;
    };
    floor = keeps.floor;
    ids = keeps.ids;
    rows = keeps.rows;
    starts = keeps.starts;
  }

less_known : (kept after : Kept) → ((c : ℕ) → kept.known c ≤ after.known c)
    → unknown kept after ≡ record after { known = kept.known }
less_known kept after le =
    ap (λ (f : ℕ → ℕ). record after { known = f }) (fun_ext (λ c. let low = le c in omega (arith, low)))

less_told : (kept after : Kept) → ((r c : ℕ) → kept.seen r c ≤ after.seen r c) → ((c : ℕ) → kept.known c ≤ after.known c)
    → untold kept after ≡ record after { seen = kept.seen; known = kept.known }
less_told kept after seen known =
    ap (λ (f : ℕ → ℕ → ℕ). record after { seen = f; known = λ c. min (kept.known c) (after.known c) })
    (fun_ext (λ r. fun_ext (λ c. let low = seen r c in omega (arith, low))))
    ∙ ap (λ (f : ℕ → ℕ). record after { seen = kept.seen; known = f })
    (fun_ext (λ c. let low = known c in omega (arith, low)))

-- a number at a column that is no less than the one there
raised_at : (f : ℕ → ℕ → ℕ) (region colour n : ℕ) → f region colour ≤ n → (r c : ℕ)
    → f r c ≤ updated_at f region colour n r c
raised_at f region colour n le r c =
    at_new_at (λ (m : ℕ). f r c ≤ m) f region colour n r c
    (λ same e. subst (λ (q : ℕ). f q c ≤ n) (sym same) (subst (λ (q : ℕ). f region q ≤ n) (sym e) le))
    (λ _. omega arith)

raised : (f : ℕ → ℕ) (colour n : ℕ) → f colour ≤ n → (c : ℕ) → f c ≤ updated f colour n c
raised f colour n le c =
    choice (λ (m : ℕ). f c ≤ m) (c == colour) n (f c)
    (λ t. subst (λ (q : ℕ). f q ≤ n) (sym (eqb-true c colour t)) le) (λ _. omega arith)

-- SYNCS

-- a client after a sync
pub rests_synced : (s : Store) (c d : Client) → IsClient s d → IsSame c d → HaveGoneOn (holds_of c) (holds_of d)
    → HasGrown c d → (Finished c → Finished d) → RestsOn s c d
rests_synced s c d is same goes grows finished =
    record { client = is; same = same; goes = goes; grows = grows; finished = finished }

-- a sync after which its answer isn't given
hidden_sync : (log : Log) (caller : Caller) (kept after : Kept) (d : Client) (colour : ℕ) (y : Synced)
    → SyncsAs d colour y log caller kept after → HidesOne colour log caller kept (untold kept after)
hidden_sync log caller kept after d colour y e =
    let syncs = e.0 in
    let counts = y.snapshot.counts in
    let stamp = greatest_played log caller kept colour y.events counts in
    let same = stamps_played log caller kept colour y.events counts (nodes_played d colour y) e.1 in
    let is : after ≡ kept_after_sync kept caller.own colour y.events counts stamp =
    e.2 ∙ ap (kept_after_sync kept caller.own colour y.events counts) same in
    let less = less_told kept (kept_after_sync kept caller.own colour y.events counts stamp)
    (raised_at kept.seen caller.own colour y.events syncs.unseen)
    (raised kept.known colour (at counts caller.own) syncs.within) in
    (counts, stamp, played y.events counts syncs, ap (untold kept) is ∙ less)

pub sync_hidden : (s : Store) (c d : Client) (colour : ℕ) (y : Synced) → IsExplained s c d (SyncsAs d colour y)
    → IsExplained s c d (HidesOne colour)
sync_hidden s c d colour y e objects kept finished keeps =
    let r = e objects kept finished keeps in (
      untold kept r.0,
      keeps_untold s d objects kept r.0 r.1,
      λ rest fits. hidden_sync (log_seen (seen_of d) rest) (caller_of s d objects) kept r.0 d colour y (r.2 rest fits),
    )

pub untold_hidden : (s : Store) (c d : Client) (colour : ℕ) → SyncsUntold s c d colour → IsExplained s c d (HidesOne colour)
untold_hidden s c d colour u = sync_hidden s c d colour u.0 u.2

-- where nothing was done
pub none_hidden : (colour : ℕ) (log : Log) (caller : Caller) (kept after : Kept) → after ≡ kept
    → HidesOne colour log caller kept after
none_hidden colour log caller kept after same =
    subst (λ (k : Kept). HidesOne colour log caller kept k) (sym same) (hides_none log caller kept (colour ∷ []))

pub nothing_hidden : (s : Store) (c d : Client) (colour : ℕ) → DidNothing s c d → IsExplained s c d (HidesOne colour)
nothing_hidden s c d colour nothing =
    explained_less s c d (λ log caller kept after. after ≡ kept) (HidesOne colour)
    (λ log caller kept after same. none_hidden colour log caller kept after same) nothing

-- APPENDS TO ONE COLOUR

-- what an append to one colour says
pub record StandsAtOne (log : Log) (caller : Caller) (kept after : Kept) (node : Node) (colour stamp : ℕ) (row : Option ℕ)
    (points : List PointPiece) : Type 0 where
  pub point : PointPiece
  pub point_is : points ≡ point ∷ []
  pub no_row : row ≡ None
  pub of_colour : point.colour ≡ colour
  pub place : ℕ
  pub at_event : point.at ≡ Event place
  pub appends : AppendsOne log caller kept node colour stamp place point.position
  pub after_is : after ≡ kept_after_single kept caller.own colour place stamp point.position

pub at_one : (log : Log) (caller : Caller) (kept after : Kept) (node : Node) (colour stamp : ℕ) (row : Option ℕ)
    (points : List PointPiece) → members node.colours ≡ colour ∷ []
    → Appends log caller kept node stamp row points after
    → StandsAtOne log caller kept after node colour stamp row points
at_one log caller kept after node colour stamp None [] one a = absurd a
at_one log caller kept after node colour stamp None (point ∷ []) one a =
    let same : point.colour ≡ colour = let e : point.colour ∷ [] ≡ colour ∷ [] = sym a.0 ∙ one in cc (e) in record {
      point = point;
      point_is = refl;
      no_row = refl;
      of_colour = same;
      place = a.1;
      at_event = a.2;
      appends = subst (λ (k : ℕ). AppendsOne log caller kept node k stamp a.1 point.position) same a.3;
      after_is = a.4 ∙ ap (λ (k : ℕ). kept_after_single kept caller.own k a.1 stamp point.position) same;
    }
at_one log caller kept after node colour stamp None (point ∷ other ∷ points) one a = absurd a
at_one log caller kept after node colour stamp (Some number) points one a =
    let several = a.2.begins.several in
    let long = ap length one in
    absurd (let f : ⊥ = omega (arith, several, long) in f)

-- the places of one event
abbrev one_place : ℕ → ℕ → ℕ → List ℕ
one_place colour place c = if c == colour then place ∷ [] else []

same_seen : (kept : Kept) (own colour place : ℕ) → kept.seen own colour ≤ place
    → updated_at kept.seen own colour (place + 1)
    ≡ updated kept.seen own (λ c. seen_past (kept.seen own c) (one_place colour place c))
same_seen kept own colour place low = ap (updated kept.seen own) (fun_ext (λ c. by_colour c (c == colour) refl)) where
  by_colour : (c : ℕ) (b : Bool) → (c == colour) ≡ b
      → updated (kept.seen own) colour (place + 1) c ≡ seen_past (kept.seen own c) (one_place colour place c)
  by_colour c true t =
      let e = eqb-true c colour t in
      if_true (c == colour) (place + 1) (kept.seen own c) t
      ∙ (let at_least : kept.seen own c ≤ place = subst (λ (q : ℕ). kept.seen own q ≤ place) (sym e) low in
      let top : place + 1 ≡ max (kept.seen own c) (place + 1) = omega (arith, at_least) in
      top ∙ ap (seen_past (kept.seen own c)) (sym (if_true (c == colour) (place ∷ []) [] t)))
  by_colour c false f =
      if_false (c == colour) (place + 1) (kept.seen own c) f
      ∙ ap (seen_past (kept.seen own c)) (sym (if_false (c == colour) (place ∷ []) [] f))

same_made : (kept : Kept) (own colour place : ℕ)
    → updated_at kept.made own colour (kept.made own colour ++ place ∷ [])
    ≡ updated kept.made own (λ c. kept.made own c ++ one_place colour place c)
same_made kept own colour place = ap (updated kept.made own) (fun_ext (λ c. by_colour c (c == colour) refl)) where
  by_colour : (c : ℕ) (b : Bool) → (c == colour) ≡ b
      → updated (kept.made own) colour (kept.made own colour ++ place ∷ []) c ≡ kept.made own c ++ one_place colour place c
  by_colour c true t =
      if_true (c == colour) (kept.made own colour ++ place ∷ []) (kept.made own c) t
      ∙ (ap (λ (q : ℕ). kept.made own q ++ place ∷ []) (sym (eqb-true c colour t))
      ∙ ap (λ (l : List ℕ). kept.made own c ++ l) (sym (if_true (c == colour) (place ∷ []) [] t)))
  by_colour c false f =
      if_false (c == colour) (kept.made own colour ++ place ∷ []) (kept.made own c) f
      ∙ (sym (append-nil (kept.made own c))
      ∙ ap (λ (l : List ℕ). kept.made own c ++ l) (sym (if_false (c == colour) (place ∷ []) [] f)))

-- an append whose place in the line is not told
unshown_one : (log : Log) (caller : Caller) (kept after : Kept) (node : Node) (colour stamp : ℕ) (row : Option ℕ)
    (points : List PointPiece) → members node.colours ≡ colour ∷ []
    → StandsAtOne log caller kept after node colour stamp row points
    → AppendsUnshown log caller kept node stamp (unknown kept after)
unshown_one log caller kept after node colour stamp row points one a =
    let position = a.point.position in
    let after_one = kept_after_single kept caller.own colour a.place stamp position in
    let behind = a.appends.behind in
    let less = less_known kept after_one (raised kept.known colour (position + 1) (omega (arith, behind))) in
    let is : unknown kept after
    ≡ with_made (with_node (with_floor kept stamp)) caller.own (one_place colour a.place) =
    ap (unknown kept) a.after_is
    ∙ (less
    ∙ (ap (λ (f : ℕ → ℕ → ℕ). record after_one { known = kept.known; seen = f })
    (same_seen kept caller.own colour a.place a.appends.unseen)
    ∙ ap (λ (f : ℕ → ℕ → List ℕ). record after_one {
      known = kept.known;
      seen = updated kept.seen caller.own (λ c. seen_past (kept.seen caller.own c) (one_place colour a.place c));
      made = f;
    }) (same_made kept caller.own colour a.place))) in
    subst (AppendsUnshown log caller kept node stamp) (sym is) (one_unshown colour a.place position one a.appends)

pub append_unshown : (s : Store) (c m : Client) (set : Colours) (text : List ℕ) (a : Appended) (colour : ℕ)
    → members set ≡ colour ∷ [] → IsExplained s c m (AppendsAs set text a)
    → IsExplained s c m (λ log caller kept after.
    AppendsUnshown log caller kept (node_of caller kept set text) a.stood.key.stamp after)
append_unshown s c m set text a colour one e objects kept finished keeps =
    let r = e objects kept finished keeps in (
      unknown kept r.0,
      keeps_unknown s m objects kept r.0 r.1,
      λ rest fits.
          let log = log_seen (seen_of m) rest in
          let caller = caller_of s m objects in
          let node = node_of caller kept set text in
          let stamp = a.stood.key.stamp in
          let points = map piece_of a.stood.points in
          unshown_one log caller kept r.0 node colour stamp a.row points one
          (at_one log caller kept r.0 node colour stamp a.row points one (r.2 rest fits).2),
    )

-- THE PLACE OF AN APPEND

-- what is kept, with all that was played known to stand
abbrev played_known : ℕ → Kept → Kept
played_known own kept = record kept { known = λ c. max (kept.known c) (at (kept.starts c) own) }

module _ (s : Store) (c : Client) (is : IsClient s c) (objects : List Object) (kept : Kept)
    (keeps : Keeps s c objects kept) where
  keeps_played : Keeps s c objects (played_known c.region kept)
  keeps_played = record {
    by = record {
      seen_within = keeps.by.seen_within;
      known_within = λ k.
          let few = s.fit.few in
          let within = is.region in
          let known = keeps.by.known_within k in
          let started = counted_within c.region (seen_of c c.region k) (kept.starts k) (omega (arith, few, within))
          (keeps.by.starts_reached k) in
          omega (arith, known, started);
      known_under = λ k i key lt there. elim (cases_lt i (kept.known k)) [
        | inl low ↦ keeps.by.known_under k i key low there
        | inr high ↦ keeps.by.starts_under k i key (omega (arith, lt, high)) there
      ];
      starts_under = keeps.by.starts_under;
      starts_reached = keeps.by.starts_reached;
      steps_made = keeps.by.steps_made;
    };
    floor = keeps.floor;
    ids = keeps.ids;
    rows = keeps.rows;
    starts = keeps.starts;
  }

-- the position of the first point
abbrev pub first_position : List PointPiece → ℕ
first_position [] = 0
first_position (x ∷ xs) = x.position

-- An append to one colour stands behind all own nodes of it that the client has played.
pub stands_behind : (s : Store) (c m : Client) (set : Colours) (text : List ℕ) (a : Appended) (colour : ℕ) (p : Point)
    (objects : List Object) (kept : Kept) (rest : Rest) → IsClient s c → RestsOn s c m → members set ≡ colour ∷ []
    → a.stood.points ≡ p ∷ [] → IsExplained s c m (AppendsAs set text a) → Finished c → Keeps s c objects kept
    → FitsHolds (holds_of m) rest → at (starts_of c colour) c.region ≤ p.position
stands_behind s c m set text a colour p objects kept rest is on one points e finished keeps fits =
    let known = played_known c.region kept in
    let r = e objects known finished (keeps_played s c is objects kept keeps) in
    let log = log_seen (seen_of m) rest in
    let caller = caller_of s m objects in
    let q = at_one log caller known r.0 (node_of caller known set text) colour a.stood.key.stamp a.row
    (map piece_of a.stood.points) one (r.2 rest fits).2 in
    let pieces : piece_of p ∷ [] ≡ q.point ∷ [] = ap (map piece_of) (sym points) ∙ q.point_is in
    let same : p.position ≡ q.point.position = ap (λ (l : List PointPiece). first_position l) pieces in
    let behind = q.appends.behind in
    let started = ap (λ (v : Counts). at v c.region) (keeps.starts colour) in
    omega (arith, same, behind, started)

-- AN APPEND AND WHAT IS REFUSED BEHIND IT

module _ (s : Store) (c m d : Client) (colour : ℕ) (text : List ℕ) (a : Appended) (x : RestsOn s c m) (y : RestsOn s m d)
    (stands : StandsIn s c m (colour ∷ []) text a) where
  then_explained : (Then : Log → Caller → Kept → Kept → Type 0) → IsExplained s m d Then
      → IsExplained s c d (StandsThen stands.set text a.stood.key.stamp Then)
  then_explained Then why = explained_then s c m d
      (λ log caller kept after. AppendsUnshown log caller kept (node_of caller kept stands.set text) a.stood.key.stamp after)
      Then x y
      (λ old new caller kept after later. unshown_later old new later caller kept (node_of caller kept stands.set text)
      a.stood.key.stamp after)
      (append_unshown s c m stands.set text a colour stands.members_are stands.explained) why

  -- memory was refused to the sync, or behind it
  pub unfolded_leaves : IsExplained s m d (HidesOne colour)
      → UnreadLeaves s c d colour text a.stood.key.stamp sync_faults.NoMemory
  unfolded_leaves why = (stands.set, stands.members_are, then_explained (HidesOne colour) why)

  -- the sync was refused
  pub unread_leaves : (fault : SyncFault) → SyncRefused s m d colour fault
      → UnreadLeaves s c d colour text a.stood.key.stamp fault
  unread_leaves (sync_faults.Trimmed shown base) why = (
    why.0,
    stands.set,
    stands.members_are,
    then_explained (λ log caller stood after. IsTrimmed log caller stood colour base × (after ≡ stood)) why.1,
  )
  unread_leaves sync_faults.NoMemory why = unfolded_leaves (nothing_hidden s m d colour why)

-- A sync's snapshot is where its colour starts.
pub one_started : (kept : Kept) (own colour events : ℕ) (counts : Counts) (stamp : ℕ) (after : Kept)
    → after ≡ kept_after_sync kept own colour events counts stamp → counts ≡ after.starts colour
one_started kept own colour events counts stamp after is =
    sym (ap (λ (k : Kept). k.starts colour) is
    ∙ if_true (colour == colour) counts (kept.starts colour) (eq-eqb colour colour refl))

-- an append to one colour makes so many nodes known
pub one_known : (kept : Kept) (own colour place stamp position : ℕ) (after : Kept)
    → after ≡ kept_after_single kept own colour place stamp position → after.known colour ≡ position + 1
one_known kept own colour place stamp position after is =
    ap (λ (k : Kept). k.known colour) is
    ∙ if_true (colour == colour) (position + 1) (kept.known colour) (eq-eqb colour colour refl)

-- clients of one store have as many colours
pub tracks_long : (s : Store) (c d : Client) → IsClient s c → IsClient s d → length (tracks_of d) ≡ length (tracks_of c)
tracks_long s c d is then_is = then_is.colours ∙ sym is.colours
