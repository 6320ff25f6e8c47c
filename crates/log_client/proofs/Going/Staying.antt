-- What a client has stays as its holds see more.
use Rattle.std.proofs.Common.{◌≡◌, inl, inr, ℕ, true, List, ◌++◌, map, ap, sym, subst, ◌∙◌, append_assoc}
use mathlib.Core.List.{IsPrefix}
use Rattle.log_node.specs.declared.ids.Counts.{Counts}
use Rattle.log_node.specs.declared.node.Node.{Node}
use Rattle.log_node.specs.declared.marks.Mark.TheVariants.{Fenced}
use Rattle.log_node.specs.Seen.{PlacedNode}
use Rattle.col_core.specs.declared.Entry.{Entry}
use Rattle.col_core.specs.History.{has_entered}
use Rattle.col_core.specs.Cuts.{chain}
use Rattle.col_core.specs.Computed.{dated}
use Rattle.col_core.specs.Legal.{IsColumnHistory}
use Rattle.col_core.proofs.CallerLemmas.{entered_longer}
use Rattle.stamp_board.specs.Views.{KnowsMark, KnowsOutcome}
use Rattle.stamp_board.proofs.CallerLemmas.{begun_learnt, mark_learnt, outcome_learnt}
use Rattle.chain_store.specs.declared.told.Tag.{Tag}
use Rattle.chain_store.specs.declared.told.Told.{Told}
use Rattle.chain_store.specs.declared.hold.Hold.{Hold}
use Rattle.chain_store.specs.Owning.{row_of}
use Rattle.chain_store.specs.Passes.{IsLawfulTold, dated_in}
use Rattle.chain_store.specs.Holds.{seen_in, entries_seen, view_of}
use Rattle.region_pull.proofs.CallerLemmas.{chain_longer}
use Rattle.client_law.proofs.CallerLemmas.{closed_stays}
use Rattle.log_client.specs.declared.track.Track.{Track}
use Rattle.log_client.specs.Fits.{HasGoneOn}
use Rattle.log_client.specs.Clients.{HasPlayed, nothing_played, played_then, IsTrack, AreBegunRows, IsClosedIn, AllClosed}
use Rattle.log_client.proofs.Known.Fitting.{names_longer}
use Rattle.log_client.proofs.Sync.Plays.{reached_longer}
use Rattle.log_client.proofs.Known.Seeing.{entries_longer}

pub prefix_on : {A : Type 0} (xs ys zs : List A) → IsPrefix xs ys → IsPrefix ys zs → IsPrefix xs zs
prefix_on xs ys zs p q = (p.0 ++ q.0, sym (append_assoc xs p.0 q.0) ∙ (ap (λ l. l ++ q.0) p.1 ∙ q.1))

-- WHAT WAS PLAYED

pub played_longer : (own : ℕ) (old new : List Told) → IsPrefix old new → (v : Counts) (nodes : List PlacedNode)
    → HasPlayed own old v nodes → HasPlayed own new v nodes
played_longer own old new p v nodes h = go h where
  go : {w : Counts} {ns : List PlacedNode} → HasPlayed own old w ns → HasPlayed own new w ns
  go nothing_played = nothing_played
  go (played_then from to ms more log before within plays) =
      played_then from to ms more log (go before) (prefix_on log old new within p) plays

pub track_longer : (t : Tag) (k : ℕ) (old new : List Told) (track : Track) → IsPrefix old new → IsLawfulTold t new
    → IsTrack t.region k old track → IsTrack t.region k new track
track_longer t k old new track p lawful is = record {
  region = is.region;
  of_colour = is.of_colour;
  reached = reached_longer t old new track.snapshot.counts p lawful is.reached;
  played = played_longer t.region old new p track.snapshot.counts track.nodes is.played;
  line = prefix_on (map (λ (item : PlacedNode). item.head) track.line) (chain t.region (dated_in t old) t.region)
      (chain t.region (dated_in t new) t.region) is.line (chain_longer t old new p lawful t.region);
  line_long = is.line_long;
  named = λ n item at. names_longer old new item.head.key.id item.node p (is.named n item at);
}

-- ROWS

pub rows_longer : (number : ℕ) (g h : Hold) (rows : List Node) → HasGoneOn g h → h.seat.used ≡ g.seat.used
    → AreBegunRows number g rows → AreBegunRows number h rows
rows_longer number g h rows on used are = record {
  many = are.many ∙ sym used;
  begun = λ j x at. begun_learnt (view_of g) (view_of h) (row_of number j) on.size on.learns x (are.begun j x at);
}

-- an append that is closed in a colour stays so
pub closed_longer : (own regions : ℕ) (g h : Hold) (j : ℕ) (x : Node) (k : ℕ) → HasGoneOn g h
    → IsColumnHistory own regions (dated own (entries_seen h k)) → IsClosedIn g j x k → IsClosedIn h j x k
closed_longer own regions g h j x k on lawful (inl fenced) = inl (
  fenced.0,
  subst (λ (n : ℕ). KnowsMark (view_of h) (row_of n j) k (Fenced fenced.0)) (sym on.number)
      (mark_learnt (view_of g) (view_of h) (row_of g.passes.number j) on.size on.learns k (Fenced fenced.0) fenced.1),
)
closed_longer own regions g h j x k on lawful (inr over) =
    let more = entries_longer (seen_in g k) (seen_in h k) (on.more k) in
    inr (
      subst (λ (l : List Entry). has_entered x.id l ≡ true) more.1
          (entered_longer (entries_seen g k) more.0 x.id over.0),
      closed_stays own regions (entries_seen g k) (entries_seen h k) x.id lawful more over.0 over.1,
    )

pub all_closed_longer : (own regions : ℕ) (g h : Hold) (rows : List Node) → HasGoneOn g h
    → ((k : ℕ) → IsColumnHistory own regions (dated own (entries_seen h k))) → AllClosed g rows → AllClosed h rows
all_closed_longer own regions g h rows on lawful all j x at =
    let is = all j x at in record {
      outcome = is.outcome;
      shut = is.shut;
      known = subst (λ (n : ℕ). KnowsOutcome (view_of h) (row_of n j) is.outcome) (sym on.number)
          (outcome_learnt (view_of g) (view_of h) (row_of g.passes.number j) on.size on.learns is.outcome is.known);
      in_colours = λ k of. closed_longer own regions g h j x k on (lawful k) (is.in_colours k of);
    }
