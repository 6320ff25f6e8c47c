-- Who hears a note has seen all that its teller had.
use Rattle.std.proofs.Common.{◌≡◌, ℕ, zero, suc, ◌≤◌, List, [], ◌∷◌, ◌++◌, length, map, take, drop, Option, Some, None, refl, ap, sym, subst, ◌∙◌, arith, append_assoc, take-append-drop}
use Rattle.std.specs.Prelude.{slice_get}
use Rattle.std.specs.List.{All}
use Rattle.std.proofs.lemmas.List.Elements.{All-cons, All-nil, All-weaker}
use Rattle.std.proofs.lemmas.Option.{slice_get_within}
use mathlib.Core.List.{IsPrefix}
use Rattle.log_node.specs.declared.ids.Colours.{Colours}
use Rattle.log_node.specs.declared.ids.Key.{Key}
use Rattle.log_node.specs.declared.node.Node.{Node}
use Rattle.log_node.specs.Reach.{IsGreatestReachable}
use Rattle.col_core.specs.declared.Entry.{Entry}
use Rattle.col_core.specs.Computed.{dated}
use Rattle.col_core.specs.Cuts.{chain}
use Rattle.col_core.specs.Legal.{IsColumnHistory}
use Rattle.col_core.proofs.CallerLemmas.{lawful_beginning, reachable_grows}
use Rattle.col_core.specs.History.{entry_key, line}
use Rattle.col_core.specs.Appending.{StandsUnder}
use Rattle.col_core.specs.Keeping.{Kept}
use Rattle.col_core.specs.Log.{Log}
use Rattle.script_text.specs.declared.script.Object.{Object}
use Rattle.report_text.specs.declared.report.PointPiece.{PointPiece}
use Rattle.chain_store.specs.declared.hold.Hold.{Hold}
use Rattle.chain_store.specs.declared.told.Told.{Told}
use Rattle.chain_store.specs.Holds.{entries_seen, seen_in}
use Rattle.lawful_run.specs.Appends.{Appends, StandsAt}
use Rattle.lawful_run.specs.Callers.{Caller, node_of}
use Rattle.lawful_run.proofs.CallerLemmas.{prefix_get}
use Rattle.client_law.specs.Knowing.{Rest, MoreIsSeen, log_seen}
use Rattle.client_law.proofs.CallerLemmas.{chain_later}
use Rattle.log_client.specs.declared.store.Store.{Store}
use Rattle.log_client.specs.declared.client.Client.{Client}
use Rattle.log_client.specs.declared.notes.Note.{Note}
use Rattle.log_client.specs.declared.answers.Appended.{Appended}
use Rattle.log_client.specs.Fits.{HaveGoneOn, entries_by}
use Rattle.log_client.specs.Clients.{IsClient, Keeps, caller_of, holds_of, seen_of}
use Rattle.log_client.specs.Appends.{AppendsAs, piece_of}
use Rattle.log_client.specs.Notes.{HasSeenAll, HearersHaveSeen, HearsSeen, IsNoteOf, PlaysSeen, TellsSeen}
use Rattle.log_client.proofs.Going.GoingOn.{client_sees_on}
use Rattle.log_client.proofs.Lists.{got}
use Rattle.log_client.proofs.Read.ReadLater.{line_longer}
use Rattle.log_client.proofs.Known.Seeing.{entries_longer}

-- an append that was answered stands at each of its points
points_stand : (log : Log) (caller : Caller) (kept : Kept) (node : Node) (stamp : ℕ) (row : Option ℕ) (points : List PointPiece)
    (after : Kept) → Appends log caller kept node stamp row points after
    → All (λ (p : PointPiece). StandsUnder (log.histories caller.own p.colour) node stamp p.position) points
points_stand log caller kept node stamp None [] after a = absurd a
points_stand log caller kept node stamp None (p ∷ []) after a =
    All-cons (λ (q : PointPiece). StandsUnder (log.histories caller.own q.colour) node stamp q.position) p [] a.3.stands
    (All-nil (λ (q : PointPiece). StandsUnder (log.histories caller.own q.colour) node stamp q.position))
points_stand log caller kept node stamp None (p ∷ q ∷ points) after a = absurd a
points_stand log caller kept node stamp (Some number) points after a =
    All-weaker (StandsAt log caller kept node stamp)
    (λ (p : PointPiece). StandsUnder (log.histories caller.own p.colour) node stamp p.position) (λ p s. s.stands) points a.2.each

-- a beginning of what is a beginning
prefix_then : {A : Type 0} (xs ys zs : List A) → IsPrefix xs ys → IsPrefix ys zs → IsPrefix xs zs
prefix_then xs ys zs p q = (
  p.0 ++ q.0,
  sym (append_assoc xs p.0 q.0) ∙ (ap (λ l. l ++ q.0) p.1 ∙ q.1),
)

-- a list that is as long as a list's beginning or longer begins with it
prefix_of_take : {A : Type 0} (xs ys : List A) (n : ℕ) → IsPrefix xs ys → length xs ≤ n → IsPrefix xs (take n ys)
prefix_of_take {A = A} xs ys n p le = subst (λ (l : List A). IsPrefix xs (take n l)) p.1 (within xs n le) where
  within : (front : List A) (m : ℕ) → length front ≤ m → IsPrefix front (take m (front ++ p.0))
  within [] m low = (take m p.0, refl)
  within (x ∷ front) zero low = absurd (let f : ⊥ = omega (arith, low) in f)
  within (x ∷ front) (suc m) low =
      let q = within front m (omega (arith, low)) in (q.0, ap (λ (l : List A). x ∷ l) q.1)

module _ (s : Store) (teller c d : Client) (note : Note) (is_teller : IsClient s teller) (of : IsNoteOf s note)
    (tells : TellsSeen teller note) (is : IsClient s d) (goes : HaveGoneOn (holds_of c) (holds_of d)) (hears : HearsSeen c note d) where
  seen : MoreIsSeen (seen_of teller) (seen_of d)
  seen region colour = by_hold (slice_get (holds_of teller) region) refl where
    by_hold : (o : Option Hold) → slice_get (holds_of teller) region ≡ o
        → IsPrefix (seen_of teller region colour) (seen_of d region colour)
    by_hold None e = subst (λ (o : Option Hold). IsPrefix (entries_by o colour) (seen_of d region colour)) (sym e)
        (seen_of d region colour, refl)
    by_hold (Some t) e =
        let lt = slice_get_within (holds_of teller) region t e in
        let many = is_teller.holds.0 in
        let told = of.0 in
        let long = is.holds.0 in
        let same = goes.0 in
        let n = got note.holds.items region (omega (arith, lt, many, told)) in
        let h = got (holds_of d) region (omega (arith, lt, many, long)) in
        let g = got (holds_of c) region (omega (arith, lt, many, long, same)) in
        subst (λ (o : Option Hold). IsPrefix (entries_by o colour) (seen_of d region colour)) (sym e)
        (subst (λ (o : Option Hold). IsPrefix (entries_seen t colour) (entries_by o colour)) (sym h.1)
        (entries_longer (seen_in t colour) (seen_in h.0 colour)
        (subst (λ (l : List Told). IsPrefix l (seen_in h.0 colour)) ((tells region t n.0 e n.1).seen colour)
        ((hears region g.0 h.0 n.0 g.1 n.1 h.1).seen colour).1)))

  lines : (region colour : ℕ) → IsPrefix (line (seen_of teller region colour)) (line (seen_of d region colour))
  lines region colour =
      line_longer region (length s.regions) (seen_of teller region colour) (seen_of d region colour) (seen region colour)
      ((client_sees_on s c d [] is goes).lawful region colour)

  -- what is kept, with all events that were seen
  abbrev all_seen : Kept → Kept
  all_seen kept = record kept { seen = λ region colour. length (seen_of d region colour) }

  keeps_all : (objects : List Object) (kept : Kept) → Keeps s d objects kept → Keeps s d objects (all_seen kept)
  keeps_all objects kept keeps = record {
    by = record {
      seen_within = λ region colour. omega arith;
      known_within = keeps.by.known_within;
      known_under = keeps.by.known_under;
      starts_under = keeps.by.starts_under;
      starts_reached = keeps.by.starts_reached;
      steps_made = keeps.by.steps_made;
    };
    floor = keeps.floor;
    ids = keeps.ids;
    rows = keeps.rows;
    starts = keeps.starts;
  }

  plays : PlaysSeen s teller d
  plays e colour y rests same on syncs objects kept rest finished keeps fits v reached =
      let own = d.region in
      let x = syncs objects (all_seen kept) finished (keeps_all objects kept keeps) in
      let z = (x.2 rest fits).0 in
      let history = seen_of e own colour in
      let looked = take y.events history in
      let later = client_sees_on s d e [] rests on in
      let cut : IsGreatestReachable (chain own (dated own looked)) y.snapshot.counts =
      subst (λ (n : ℕ). IsGreatestReachable (chain n (dated n (take y.events (seen_of e n colour)))) y.snapshot.counts) same.1
      z.cut in
      let unseen : length (seen_of d own colour) ≤ y.events =
      subst (λ (n : ℕ). length (seen_of d n colour) ≤ y.events) same.1 z.unseen in
      let told : IsPrefix (seen_of teller own colour) looked =
      prefix_then (seen_of teller own colour) (seen_of d own colour) looked (seen own colour)
      (prefix_of_take (seen_of d own colour) history y.events (later.more own colour) unseen) in
      let lawful : IsColumnHistory own (length s.regions) (dated own looked) =
      lawful_beginning own (length s.regions) looked (drop y.events history)
      (subst (λ (h : List Entry). IsColumnHistory own (length s.regions) (dated own h))
      (sym (take-append-drop y.events history)) (later.lawful own colour)) in
      cut.greatest v
      (reachable_grows (chain own (dated own (seen_of teller own colour))) (chain own (dated own looked))
      (chain_later own (length s.regions) (seen_of teller own colour) looked told lawful) v reached)

  has_seen_all : HasSeenAll s teller d
  has_seen_all = record {
    seen = seen;
    lines = lines;
    appends = λ objects rest kept after set text a x.
        let node = node_of (caller_of s teller objects) kept set text in
        let key : entry_key a.stood.key.stamp node.id ≡ a.stood.key =
        ap (entry_key a.stood.key.stamp) (sym (x.1 ∙ x.0)) in
        All-weaker
        (λ (p : PointPiece). StandsUnder (seen_of teller teller.region p.colour) node a.stood.key.stamp p.position)
        (λ (p : PointPiece). slice_get (line (seen_of d teller.region p.colour)) p.position ≡ Some a.stood.key)
        (λ p stands.
        prefix_get (line (seen_of teller teller.region p.colour)) (line (seen_of d teller.region p.colour)) p.position
        a.stood.key (lines teller.region p.colour) (stands ∙ ap (λ (k : Key). Some k) key))
        (map piece_of a.stood.points)
        (points_stand (log_seen (seen_of teller) rest) (caller_of s teller objects) kept node a.stood.key.stamp a.row
        (map piece_of a.stood.points) after x.2);
    plays = plays;
  }

pub hearers_have_seen : HearersHaveSeen
hearers_have_seen s teller c d note is_teller of tells is goes hears =
    has_seen_all s teller c d note is_teller of tells is goes hears
