-- A play on a track, from what a look showed.
use Rattle.std.proofs.Common.{◌≡◌, ℕ, ◌<◌, ◌≤◌, List, ◌++◌, map, ap, sym, subst, ◌∙◌}
use Rattle.std.specs.Prelude.{slice_get}
use mathlib.Core.List.{IsPrefix}
use Rattle.log_node.specs.declared.ids.Counts.{Counts}
use Rattle.log_node.specs.declared.limits.TheConstants.{MAX_STAMP}
use Rattle.log_node.specs.Vectors.{IsWithin}
use Rattle.log_node.specs.Reach.{Chains, Reachable}
use Rattle.col_core.specs.declared.view.View.{View}
use Rattle.col_core.specs.Computed.{cut}
use Rattle.col_core.specs.PlayOrder.{nodes_between}
use Rattle.log_node.specs.Seen.{PlacedNode}
use Rattle.col_core.proofs.CallerLemmas.{cut-is_greatest, reachable_grows}
use Rattle.playback.specs.declared.player.Played.{Played}
use Rattle.playback.specs.declared.player.Snapshot.{Snapshot}
use Rattle.playback.specs.Playing.{ShowsChains, ArePlayed, items_of}
use Rattle.chain_store.specs.declared.told.Tag.{Tag}
use Rattle.chain_store.specs.declared.told.Told.{Told}
use Rattle.chain_store.specs.declared.hold.Hold.{Hold}
use Rattle.chain_store.specs.declared.looks.Looked.{Looked}
use Rattle.chain_store.specs.declared.looks.Looked.TheVariants.{On}
use Rattle.chain_store.specs.Looking.{ShowsOn}
use Rattle.chain_store.specs.declared.region.Region.{Region}
use Rattle.chain_store.specs.Passes.{ShowsHistory, IsLawfulTold, dated_in}
use Rattle.chain_store.specs.Regions.{tag_at}
use Rattle.chain_store.specs.Holds.{IsHold, seen_in}
use Rattle.chain_store.proofs.CallerLemmas.{lawful_seen}
use Rattle.region_pull.proofs.CallerLemmas.{chain_longer}
use Rattle.log_client.specs.declared.track.Track.{Track}
use Rattle.log_client.specs.declared.answers.Synced.{Synced}
use Rattle.log_client.specs.Clients.{PlaysNodes}
use Rattle.log_client.specs.Inside.{Extends, PlaysOn}
use Rattle.log_client.proofs.Sync.Shown.{chains_in, shows_its_chains, its_cut_reached, own_shown, own_named, plays_shown, plays_stamped}

-- what could be reached can be as more is seen, and is within the cut
pub reached_longer : (t : Tag) (old new : List Told) (v : Counts) → IsPrefix old new → IsLawfulTold t new
    → Reachable (chains_in t old) v → Reachable (chains_in t new) v
reached_longer t old new v more lawful r =
    reachable_grows (chains_in t old) (chains_in t new) (chain_longer t old new more lawful) v r

pub reached_within_cut : (t : Tag) (old new : List Told) (v : Counts) → IsPrefix old new → IsLawfulTold t new
    → Reachable (chains_in t old) v → IsWithin v (cut t.region (dated_in t new))
reached_within_cut t old new v more lawful r =
    (cut-is_greatest t.region (dated_in t new)).greatest v (reached_longer t old new v more lawful r)

-- the counts of a track are within the cut of what a look shows
-- the view that a look shows which goes on
pub view_on : (t : Tag) (log : List Told) (from : Counts) (looked : Looked) (view : View) → looked ≡ On view
    → ShowsOn t log from looked → ShowsHistory t log from view
view_on t log from looked view is shows = (subst (ShowsOn t log from) is shows).0

pub within_view : (r : Region) (k : ℕ) (g h : Hold) (from : Counts) (view : View) → IsHold r h
    → k < r.board.size.colours → IsPrefix (seen_in g k) (seen_in h k)
    → ShowsHistory (tag_at r k) (seen_in h k) from view
    → Reachable (chains_in (tag_at r k) (seen_in g k)) from → IsWithin from view.cut
within_view r k g h from view is lt more shows reached =
    subst (IsWithin from) (sym shows.cut)
    (reached_within_cut (tag_at r k) (seen_in g k) (seen_in h k) from more (lawful_seen r h k is lt) reached)

module _ (r : Region) (h : Hold) (old new : Track) (y : Synced) (stamp events : ℕ) (view : View) (played : Played)
    (line : List PlacedNode) (few : r.number < 4) (is : IsHold r h) (lt : old.snapshot.colour < r.board.size.colours)
    (shows : ShowsHistory (tag_at r old.snapshot.colour) (seen_in h old.snapshot.colour) old.snapshot.counts view) where
  abbrev t : Tag
  t = tag_at r old.snapshot.colour

  abbrev log : List Told
  log = seen_in h old.snapshot.colour

  pub plays_on : ((chains : Chains) → ShowsChains view chains → Reachable chains view.cut
      → ArePlayed view chains old.snapshot.counts played.items)
      → played.snapshot ≡ record { region = view.region; colour = view.colour; counts = view.cut }
      → IsWithin old.snapshot.counts view.cut → IsWithin view.base old.snapshot.counts → events ≡ view.events → line ≡ items_of view view.region → Extends old new events played line y stamp
      → PlaysOn r h old new y stamp
  plays_on items snapshot within trimmed looked shown extends =
      let all = items (chains_in t log) (shows_its_chains t log old.snapshot.counts view shows)
      (its_cut_reached t log old.snapshot.counts view shows) in
      let answered : y.snapshot ≡ record { region = view.region; colour = view.colour; counts = view.cut } =
      ap (λ (z : Synced). z.snapshot) extends.answer ∙ snapshot in
      let counts : y.snapshot.counts ≡ view.cut = ap (λ (s : Snapshot). s.counts) answered in
      record {
        nodes = played.items;
        line = line;
        heads = ap (map (λ (i : PlacedNode). i.head)) own
            ∙ (own_shown t log old.snapshot.counts view shows few trimmed
            ∙ ap (λ (v : Counts). nodes_between (chains_in t log) old.snapshot.counts v r.number) (sym counts));
        named = λ n item at. own_named t log old.snapshot.counts view shows few n item
            (ap (λ (l : List PlacedNode). slice_get l n) (sym own) ∙ at);
        plays = subst (λ (v : Counts). PlaysNodes r.number log old.snapshot.counts v played.items) (sym counts)
            (plays_shown t log old.snapshot.counts view shows old.snapshot.counts played.items all within);
        looked = ap (λ (z : Synced). z.events) extends.answer ∙ (looked ∙ shows.events);
        is_cut = counts ∙ shows.cut;
        not_trimmed = subst (λ (v : Counts). IsWithin v old.snapshot.counts) shows.base trimmed;
        of_column = answered ∙ (
            λ i. record { region = shows.region i; colour = shows.colour i; counts = sym counts i });
        track = extends.track
            ∙ ap (λ (s : Snapshot). track_of s) (sym (ap (λ (z : Synced). z.snapshot) extends.answer));
        first = ap (λ (z : Synced). z.first) extends.answer;
        count = ap (λ (z : Synced). z.count) extends.answer;
        greatest = extends.greatest;
        in_range = subst (λ (n : ℕ). n ≤ MAX_STAMP) (sym extends.greatest)
            (plays_stamped t log old.snapshot.counts view shows old.snapshot.counts played.items all
            (lawful_seen r h old.snapshot.colour is lt));
      } where
        track_of : Snapshot → Track
        track_of s = record { snapshot = s; nodes = old.nodes ++ played.items; line = old.line ++ line }

        own : line ≡ items_of view r.number
        own = shown ∙ ap (items_of view) shows.region
