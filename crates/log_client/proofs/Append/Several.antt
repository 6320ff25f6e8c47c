-- Appends to several colours: from what a hold has seen, made and knows to what a client knows.
use Rattle.std.proofs.Common.{◌≡◌, ◌≢◌, ℕ, zero, suc, ◌+◌, ◌<◌, ◌≤◌, List, [], ◌∷◌, length, map, Some, Bool, true, false, cond, slice_get, refl, ap, sym, subst, ◌∙◌, inl, inr, arith}
use Rattle.std.specs.Prelude.{IsTrue}
use Rattle.std.specs.List.{All, filter, range_with_len}
use Rattle.std.proofs.lemmas.List.Elements.{All-cons, All-nil}
use Rattle.log_node.specs.declared.ids.Id.{Id}
use Rattle.log_node.specs.declared.ids.Colours.{Colours}
use Rattle.log_node.specs.declared.limits.TheConstants.{MAX_COLOURS}
use Rattle.log_node.specs.declared.node.At.{At}
use Rattle.log_node.specs.declared.node.At.TheVariants.{Event, Look}
use Rattle.log_node.specs.declared.node.Node.{Node}
use Rattle.log_node.specs.declared.marks.Why.TheVariants.{StampEnd}
use Rattle.log_node.specs.declared.marks.Mark.{Mark}
use Rattle.log_node.specs.declared.marks.Mark.TheVariants as marks
use Rattle.log_node.specs.declared.marks.Outcome.{Outcome}
use Rattle.log_node.specs.declared.marks.Outcome.TheVariants.{Gone, Final}
use Rattle.log_node.specs.Sets.{has, members}
use Rattle.log_node.specs.Standings.{open_entry}
use Rattle.col_core.specs.declared.Event as event_types
use Rattle.col_core.specs.declared.Entry.{Entry}
use Rattle.col_core.specs.History.{entries, has_entered, line}
use Rattle.col_core.specs.Ids.{IsStepOf}
use Rattle.col_core.specs.Log.{is_own, IsBegunFor, HasMark, HasOutcome}
use Rattle.col_core.specs.Appending.{EntersBehind, EndsAtColour, IsStepWithin}
use Rattle.col_core.specs.Keeping.{Kept}
use Rattle.col_core.specs.Rows.{BegunRow}
use Rattle.stamp_board.specs.declared.view.Size.{Size}
use Rattle.stamp_board.specs.Rows.{IsRow}
use Rattle.stamp_board.specs.Views.{KnowsMark, KnowsOutcome}
use Rattle.chain_store.specs.declared.hold.Hold.{Hold}
use Rattle.chain_store.specs.declared.region.Region.{Region}
use Rattle.chain_store.specs.Columns.{told_propose}
use Rattle.chain_store.specs.Going.{GoesOn}
use Rattle.chain_store.specs.Holds.{IsHold, view_of}
use Rattle.chain_store.proofs.CallerLemmas.{member_has}
use Rattle.append_core.specs.declared.stood.Point.{Point}
use Rattle.append_core.specs.declared.stood.Stood.{Stood}
use Rattle.append_core.specs.Helping.{IsStepIn}
use Rattle.append_core.specs.Settled.{HoldKnowsSettled}
use Rattle.append_core.specs.Several as core
use Rattle.report_text.specs.declared.report.PointPiece.{PointPiece}
use Rattle.lawful_run.specs.Callers.{Caller}
use Rattle.client_law.specs.Knowing.{Rest, log_seen, SeesOn}
use Rattle.client_law.specs.Appends.{SeesBegun, SeesPoint, SeesSeveral, SeesSettledIn, SeesSettled, SeesStop}
use Rattle.log_client.specs.Fits.{seen_by, FitsHolds}
use Rattle.log_client.specs.Appends.{piece_of}
use Rattle.log_client.proofs.Lists.{unmapped}
use Rattle.log_client.proofs.Known.Seeing.{seen_there}
use Rattle.log_client.proofs.Known.Fitting.{row_begun, row_listed, mark_there, outcome_there}
use Rattle.log_client.proofs.Append.Alone.{seen_at, seen_long}
use Rattle.log_client.proofs.Known.Steps.{steps_of_goes}

colours_shown : (ps : List Point)
    → map (λ (p : PointPiece). p.colour) (map piece_of ps) ≡ map (λ (p : Point). p.colour) ps
colours_shown [] = refl
colours_shown (p ∷ ps) = ap (λ (l : List ℕ). p.colour ∷ l) (colours_shown ps)

-- a set has each member once
above_first : (test : ℕ → Bool) (a n i c : ℕ) → slice_get (filter test (range_with_len a n)) i ≡ Some c → a ≤ c
above_first test a zero i c at = absurd (let f : ⊥ = cc in f)
above_first test a (suc n) i c at = by_bool (test a) i at (λ j e. above_first test (a + 1) n j c e) where
  by_bool : (b : Bool) (i : ℕ)
      → slice_get (cond b (a ∷ filter test (range_with_len (a + 1) n)) (filter test (range_with_len (a + 1) n))) i ≡ Some c
      → ((j : ℕ) → slice_get (filter test (range_with_len (a + 1) n)) j ≡ Some c → a + 1 ≤ c) → a ≤ c
  by_bool true zero at rest = let same : a ≡ c = cc in omega (arith, same)
  by_bool true (suc i) at rest = let le = rest i at in omega (arith, le)
  by_bool false i at rest = let le = rest i at in omega (arith, le)

once_from : (test : ℕ → Bool) (a n i j c : ℕ) → slice_get (filter test (range_with_len a n)) i ≡ Some c
    → slice_get (filter test (range_with_len a n)) j ≡ Some c → i ≡ j
once_from test a zero i j c at to = absurd (let f : ⊥ = cc in f)
once_from test a (suc n) i j c at to = by_bool (test a) i j at to (λ k l e f. once_from test (a + 1) n k l c e f) where
  late : (k : ℕ) → slice_get (filter test (range_with_len (a + 1) n)) k ≡ Some c → a ≡ c → ⊥
  late k e same = let le = above_first test (a + 1) n k c e in omega (arith, le, same)

  by_bool : (b : Bool) (i j : ℕ)
      → slice_get (cond b (a ∷ filter test (range_with_len (a + 1) n)) (filter test (range_with_len (a + 1) n))) i ≡ Some c
      → slice_get (cond b (a ∷ filter test (range_with_len (a + 1) n)) (filter test (range_with_len (a + 1) n))) j ≡ Some c
      → ((k l : ℕ) → slice_get (filter test (range_with_len (a + 1) n)) k ≡ Some c
      → slice_get (filter test (range_with_len (a + 1) n)) l ≡ Some c → k ≡ l) → i ≡ j
  by_bool true zero zero at to rest = refl
  by_bool true zero (suc j) at to rest = absurd (late j to (let same : a ≡ c = cc in same))
  by_bool true (suc i) zero at to rest = absurd (late i at (let same : a ≡ c = cc in same))
  by_bool true (suc i) (suc j) at to rest = ap suc (rest i j at to)
  by_bool false i j at to rest = rest i j at to

pub member_once : (set : Colours) (i j c : ℕ) → slice_get (members set) i ≡ Some c → slice_get (members set) j ≡ Some c
    → i ≡ j
member_once set i j c at to = once_from (has set) 0 MAX_COLOURS i j c at to

-- what holds of each item, by place
all_by : {A : Type 0} (P : A → Type 0) (xs : List A) → ((n : ℕ) (x : A) → slice_get xs n ≡ Some x → P x) → All P xs
all_by P [] each = All-nil P
all_by P (x ∷ xs) each = All-cons P x xs (each 0 x refl) (all_by P xs (λ n y at. each (suc n) y at))

-- WITH ANY NODES AND ROWS

module _ (gs hs : List Hold) (caller : Caller) (r : Region) (g h : Hold) (at_g : slice_get gs caller.own ≡ Some g)
    (at_h : slice_get hs caller.own ≡ Some h) (is : g.passes.number ≡ caller.client) (x : Node) where
  -- a row has begun, where one of the rows is for the node, which is the client's next
  pub begun_so : core.HoldBegins r g h x → SeesOn caller (seen_by gs) (seen_by hs) → (Made : ℕ → event_types.Event → Type 0)
      → GoesOn Made g h
      → ((c : ℕ) (e : event_types.Event) → Made c e → IsTrue (is_own caller.client e) → IsStepOf x.id e)
      → (rest : Rest) (row : BegunRow) → IsBegunFor (log_seen (seen_by hs) rest) x row
      → (kept : Kept) → slice_get (rest.nodes caller.client) kept.ids ≡ Some x → 2 ≤ length (members x.colours)
      → kept.rows ≡ g.seat.used → caller.rows ≡ r.board.size.rows
      → ((k : ℕ) → kept.seen caller.own k ≤ length (seen_by gs caller.own k))
      → SeesBegun (seen_by gs) (seen_by hs) rest caller kept x
  begun_so b on Made goes each rest row begun kept next several rows board before =
      let room = b.room in
      record {
        several = several;
        next = next;
        room = omega (arith, room, rows, board);
        row = row;
        begun = begun;
        steps = λ colour. steps_of_goes gs hs caller g h at_g at_h is Made on goes (IsStepOf x.id) colour
            (λ e made own. each colour e made own);
        before = before;
      }

  enters_there : (c : ℕ) (at : At) → core.HoldEnters g h x c at
      → EntersBehind (length (seen_by gs caller.own c)) (seen_by hs caller.own c) caller.client x c at
  enters_there c (Event place) e =
      let old = seen_long gs caller.own g at_g c in
      let le = e.0 in (
        omega (arith, old, le),
        (told_propose c g.passes.number x e.1).entry,
        seen_at hs caller.own h at_h c place (told_propose c g.passes.number x e.1) e.2,
        is,
        refl,
      )
  enters_there c (Look seen) e =
      let old = seen_long gs caller.own g at_g c in
      let new = seen_long hs caller.own h at_h c in
      let le = e.0 in
      let within = e.1 in (
        omega (arith, old, le),
        omega (arith, new, within),
        e.2,
        e.3,
        (told_propose c e.4 x e.6).entry,
        seen_at hs caller.own h at_h c e.2 (told_propose c e.4 x e.6) e.7,
        λ mine. e.5 (mine ∙ sym is),
        refl,
      )

  -- an append stands in all of its colours, where it has begun so and the row has the outcome
  pub stand_so : (s : Stood) (a : core.HoldAppendsSeveral r g h x s) (rest : Rest) (kept : Kept)
      → SeesBegun (seen_by gs) (seen_by hs) rest caller kept x → x.floor ≡ kept.floor
      → HasOutcome (log_seen (seen_by hs) rest) x (Final a.stamp)
      → SeesSeveral (seen_by gs) (seen_by hs) rest caller kept x a.stamp (map piece_of s.points)
  stand_so s a rest kept begun floor outcome = record {
    begun = begun;
    floor = floor;
    outcome = outcome;
    colours = colours_shown s.points ∙ a.colours;
    each = all_by (SeesPoint (seen_by gs) (seen_by hs) caller x a.stamp) (map piece_of s.points) each;
  } where
    each : (n : ℕ) (p : PointPiece) → slice_get (map piece_of s.points) n ≡ Some p
        → SeesPoint (seen_by gs) (seen_by hs) caller x a.stamp p
    each n p at =
        let q = unmapped piece_of s.points n p at in
        let t = a.each n q.0 q.1 in
        subst (SeesPoint (seen_by gs) (seen_by hs) caller x a.stamp) q.2
        (record {
          entered = enters_there q.0.colour q.0.at t.entered;
          stands = ap (λ (l : List Entry). slice_get (line l) q.0.position) (seen_there hs caller.own h at_h q.0.colour)
              ∙ t.stands;
        })

-- WITH NODES AND ROWS THAT FIT

module _ (gs hs : List Hold) (caller : Caller) (r : Region) (g h : Hold) (at_g : slice_get gs caller.own ≡ Some g)
    (at_h : slice_get hs caller.own ≡ Some h) (is : g.passes.number ≡ caller.client) (rests : IsHold r h)
    (on : SeesOn caller (seen_by gs) (seen_by hs)) (x : Node) (home : x.region ≡ caller.own)
    (same : h.passes.number ≡ g.passes.number) (rest : Rest) (fits : FitsHolds hs rest) where
  module _ (b : core.HoldBegins r g h x) where
    row_in : IsRow (view_of h).size (core.own_row g)
    row_in =
        let size = rests.seat.1 in
        let low = rests.clients.0 in
        let number = rests.number in
        let room = b.room in
        subst (λ (k : Size). IsRow k (core.own_row g)) (sym size) (omega (arith, low, number, same), room)

    -- a row has begun
    pub has_begun : (Made : ℕ → event_types.Event → Type 0) → GoesOn Made g h
        → ((c : ℕ) (e : event_types.Event) → Made c e → IsTrue (is_own caller.client e) → IsStepOf x.id e)
        → (kept : Kept) → x.id ≡ record { client = caller.client; count = kept.ids } → 2 ≤ length (members x.colours)
        → kept.rows ≡ g.seat.used → caller.rows ≡ r.board.size.rows
        → ((k : ℕ) → kept.seen caller.own k ≤ length (seen_by gs caller.own k))
        → SeesBegun (seen_by gs) (seen_by hs) rest caller kept x
    has_begun Made goes each kept id several rows board before =
        let found = row_begun hs rest caller.own h at_h fits (seen_by hs) (core.own_row g) x row_in b.knows home in
        begun_so gs hs caller r g h at_g at_h is x b on Made goes each rest found.0 found.1 kept
        (sym (ap (λ (i : Id). slice_get (rest.nodes i.client) i.count) id)
        ∙ row_listed hs rest caller.own h at_h fits (seen_by hs) (core.own_row g) x row_in b.knows home)
        several rows board before

    -- a mark and the outcome that are known of the row
    marked : (c : ℕ) (m : Mark) → has x.colours c ≡ true → KnowsMark (view_of h) (core.own_row g) c m
        → HasMark (log_seen (seen_by hs) rest) x c m
    marked c m of known =
        mark_there hs rest caller.own h at_h fits (seen_by hs) (core.own_row g) x row_in b.knows home c m of known

    decided : (o : Outcome) → KnowsOutcome (view_of h) (core.own_row g) o → HasOutcome (log_seen (seen_by hs) rest) x o
    decided o known = outcome_there hs rest caller.own h at_h fits (seen_by hs) (core.own_row g) x row_in b.knows home o known

    -- a colour of a row that is settled there
    pub settled_now : (o : Outcome) (c : ℕ) → has x.colours c ≡ true → HoldKnowsSettled h (core.own_append g x) o c
        → SeesSettledIn (seen_by hs) rest caller x c
    settled_now o c of s =
        let seen = seen_there hs caller.own h at_h c in
        record {
          not_open = ap (λ (l : List Entry). open_entry x.id (entries l)) seen ∙ s.closed;
          for_good = elim s.done [
            | inl fenced ↦ inl (
              fenced.0,
              marked c (marks.Fenced fenced.0) of
                  (subst (KnowsMark (view_of h) (core.own_row g) c) fenced.1 s.known),
            )
            | inr entered ↦ inr (ap (λ (l : List Entry). has_entered x.id l) seen ∙ entered)
          ];
        }

  -- settled in all colours, with an outcome
  module _ (o : Outcome) (s : core.HoldSettlesAll r g h x o) where
    pub settled_everywhere : SeesSettled (seen_by hs) rest caller x
    settled_everywhere = all_by (SeesSettledIn (seen_by hs) rest caller x) (members x.colours)
        (λ n c at. settled_now s.begun o c (member_has x.colours n c at) (s.settled c (member_has x.colours n c at)))

    pub settled_outcome : HasOutcome (log_seen (seen_by hs) rest) x o
    settled_outcome = decided s.begun o s.outcome

    pub settled_begun : (kept : Kept) → x.id ≡ record { client = caller.client; count = kept.ids }
        → 2 ≤ length (members x.colours) → kept.rows ≡ g.seat.used → caller.rows ≡ r.board.size.rows
        → ((k : ℕ) → kept.seen caller.own k ≤ length (seen_by gs caller.own k))
        → SeesBegun (seen_by gs) (seen_by hs) rest caller kept x
    settled_begun = has_begun s.begun (IsStepIn (core.own_append g x)) s.goes (λ c e made own. made.1)

  pub ends_at_colour : (c : ℕ) → core.HoldEndsAt r g h x c → EndsAtColour (log_seen (seen_by hs) rest) x c
  ends_at_colour c e = record {
    outcome = settled_outcome (Gone StampEnd) e.all;
    fence = marked e.all.begun c (marks.Fenced StampEnd) e.first.coloured e.first.fence;
    least = all_by (λ other. other < c → (mark : Mark) × (mark ≢ marks.None) × (mark ≢ marks.Fenced StampEnd)
        × HasMark (log_seen (seen_by hs) rest) x other mark) (members x.colours)
        (λ n d at lt. let m = e.first.least d (member_has x.colours n d at) lt in
        (m.0, m.1, m.2, marked e.all.begun d m.0 (member_has x.colours n d at) m.3));
  }

  -- a stop after so many steps
  pub stops_there : (steps : ℕ) → core.HoldStopsAfter r g h x steps → SeesStop (seen_by gs) (seen_by hs) rest caller x steps
  stops_there steps s = record {
    marked = λ n c at lt. let m = s.marked n c at lt in
        (m.mark, m.set, marked s.begun c m.mark (member_has x.colours n c at) m.known);
    decided = λ many. let d = s.decided many in (d.0, d.1, decided s.begun d.0 d.2);
    settled = λ n c at lt. let t = s.settled n c at lt in
        settled_now s.begun t.0 c (member_has x.colours n c at) t.1;
    no_later = λ n c at. steps_of_goes gs hs caller g h at_g at_h is (core.IsStepBefore x steps) on s.goes
        (IsStepWithin n (length (members x.colours)) steps) c
        (λ e made own. subst (λ (k : ℕ). IsStepWithin k (length (members x.colours)) steps e)
        (member_once x.colours made.0 n c made.1 at) made.3);
  }

  pub stops_begun : (steps : ℕ) → core.HoldStopsAfter r g h x steps → (kept : Kept)
      → x.id ≡ record { client = caller.client; count = kept.ids }
      → 2 ≤ length (members x.colours) → kept.rows ≡ g.seat.used → caller.rows ≡ r.board.size.rows
      → ((k : ℕ) → kept.seen caller.own k ≤ length (seen_by gs caller.own k))
      → SeesBegun (seen_by gs) (seen_by hs) rest caller kept x
  stops_begun steps s = has_begun s.begun (core.IsStepBefore x steps) s.goes (λ c e made own. made.2)

  -- an append stands in all of its colours, where all that it made of its own are its steps
  module _ (s : Stood) (a : core.HoldAppendsSeveral r g h x s) (Made : ℕ → event_types.Event → Type 0) (goes : GoesOn Made g h)
      (own : (c : ℕ) (e : event_types.Event) → Made c e → IsTrue (is_own caller.client e) → IsStepOf x.id e) where
    pub stand_in_all : (kept : Kept) → x.id ≡ record { client = caller.client; count = kept.ids } → x.floor ≡ kept.floor
        → 2 ≤ length (members x.colours) → kept.rows ≡ g.seat.used → caller.rows ≡ r.board.size.rows
        → ((k : ℕ) → kept.seen caller.own k ≤ length (seen_by gs caller.own k))
        → SeesSeveral (seen_by gs) (seen_by hs) rest caller kept x a.stamp (map piece_of s.points)
    stand_in_all kept id floor several rows board before =
        stand_so gs hs caller r g h at_g at_h is x s a rest kept
        (has_begun a.begun Made goes own kept id several rows board before) floor
        (decided a.begun (Final a.stamp) a.outcome)
