-- A client that has forgotten what it played rests as before.
use Rattle.std.proofs.Common.{ℕ, ◌<◌, length, Vec, Global, refl, sym, subst, ◌∙◌, arith}
use Rattle.log_node.specs.Reach.{nothing}
use Rattle.log_node.proofs.CallerLemmas.{at-zeros}
use Rattle.col_core.specs.Cuts.{chain}
use Rattle.col_core.specs.Computed.{dated}
use Rattle.chain_store.specs.declared.hold.Hold.{Hold}
use Rattle.chain_store.specs.Histories.{entries_in}
use Rattle.chain_store.specs.Holds.{seen_in}
use Rattle.log_client.specs.declared.store.Store.{Store}
use Rattle.log_client.specs.declared.client.Client.{Client}
use Rattle.log_client.specs.declared.track.Track.{Track}
use Rattle.log_client.specs.Clients.{tracks_of, nothing_played, IsTrack, IsClient}
use Rattle.log_client.specs.Opening.{fresh_track, AreFreshTracks}
use Rattle.log_client.specs.Forgetting.{HasForgotten}

-- a client with other tracks
abbrev with_tracks : Client → Vec Track Global → Client
with_tracks c tracks = record c { tracks = tracks }

-- a fresh track has nothing of what its region is told to have
pub fresh_is_track : (s : Store) (c : Client) (h : Hold) (k : ℕ) → c.region < length s.regions
    → IsTrack c.region k (seen_in h k) (fresh_track c.region k)
fresh_is_track s c h k home = record {
  region = refl;
  of_colour = refl;
  reached = nothing;
  played = nothing_played;
  line = (chain c.region (dated c.region (entries_in (seen_in h k))) c.region, refl);
  line_long = let low = home in let few = s.fit.few in sym (at-zeros c.region (omega (arith, low, few)));
  named = λ n item at. absurd (let f : ⊥ = cc (at) in f);
}

rests_with : (s : Store) (c : Client) (tracks : Vec Track Global) → IsClient s c
    → AreFreshTracks c.region (length (tracks_of c)) tracks.items → IsClient s (with_tracks c tracks)
rests_with s c tracks rests fresh = record {
  holds = rests.holds;
  numbers = rests.numbers;
  away = rests.away;
  region = rests.region;
  home = λ h at.
      let e = rests.home h at in record {
        next = e.next;
        counted = e.counted;
        rows = e.rows;
        tracks = λ k track there.
            subst (IsTrack c.region k (seen_in h k)) (sym (fresh.1 k track there)) (fresh_is_track s c h k rests.region);
      };
  floored = rests.floored;
  colours = fresh.0 ∙ rests.colours;
  nodes = rests.nodes;
  nodes_count = rests.nodes_count;
  own_nodes = rests.own_nodes;
  pulls = rests.pulls;
  helps = rests.helps;
}

pub rests_forgotten : (s : Store) (c d : Client) → IsClient s c → HasForgotten c d → IsClient s d
rests_forgotten s c d rests forgot =
    subst (IsClient s) (sym forgot.rest) (rests_with s c d.tracks rests forgot.tracks)
