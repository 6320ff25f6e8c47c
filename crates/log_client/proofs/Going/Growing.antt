-- What a client has played goes on.
use Rattle.std.proofs.Common.{◌≡◌, ℕ, List, [], Some, ap, sym, subst, ◌∙◌, inl, inr, append-nil}
use Rattle.std.specs.Prelude.{slice_get, slice_set}
use Rattle.std.proofs.lemmas.Bool.{cases_eq}
use mathlib.Core.List.{IsPrefix}
use Rattle.log_node.specs.Seen.{PlacedNode}
use Rattle.log_client.specs.declared.client.Client.{Client}
use Rattle.log_client.specs.declared.track.Track.{Track}
use Rattle.log_client.specs.Clients.{tracks_of, played_of, own_line, nodes_of_track, line_in}
use Rattle.log_client.specs.Growing.{HasGrown}
use Rattle.log_client.proofs.Going.AtHome.{set_there, set_elsewhere}
use Rattle.log_client.proofs.Going.Staying.{prefix_on}

-- where its tracks stay
pub grown_same : (c d : Client) → tracks_of d ≡ tracks_of c → HasGrown c d
grown_same c d same colour = (
  ([], append-nil (played_of c colour) ∙ ap (λ (l : List Track). nodes_of_track (slice_get l colour)) (sym same)),
  ([], append-nil (own_line c colour) ∙ ap (λ (l : List Track). line_in (slice_get l colour)) (sym same)),
)

-- one call after another
pub grown_then : (c d e : Client) → HasGrown c d → HasGrown d e → HasGrown c e
grown_then c d e a b colour = (
  prefix_on (played_of c colour) (played_of d colour) (played_of e colour) (a colour).0 (b colour).0,
  prefix_on (own_line c colour) (own_line d colour) (own_line e colour) (a colour).1 (b colour).1,
)

-- where one track goes on
pub grown_at : (c d : Client) (k : ℕ) (old new : Track) → slice_get (tracks_of c) k ≡ Some old
    → tracks_of d ≡ slice_set (tracks_of c) k new → IsPrefix old.nodes new.nodes → IsPrefix old.line new.line
    → HasGrown c d
grown_at c d k old new there changed nodes line colour = elim (cases_eq colour k) [
  | inl same ↦
      (let was = ap (slice_get (tracks_of c)) same ∙ there in
      let now = ap (slice_get (tracks_of d)) same ∙ (ap (λ (l : List Track). slice_get l k) changed
      ∙ set_there (tracks_of c) k new old there) in (
        subst (λ (l : List PlacedNode). IsPrefix l (played_of d colour)) (sym (ap nodes_of_track was))
            (subst (IsPrefix old.nodes) (sym (ap nodes_of_track now)) nodes),
        subst (λ (l : List PlacedNode). IsPrefix l (own_line d colour)) (sym (ap line_in was))
            (subst (IsPrefix old.line) (sym (ap line_in now)) line),
      ))
  | inr ne ↦
      (let other = ap (λ (l : List Track). slice_get l colour) changed ∙ set_elsewhere (tracks_of c) k new colour ne in (
        ([], append-nil (played_of c colour) ∙ ap nodes_of_track (sym other)),
        ([], append-nil (own_line c colour) ∙ ap line_in (sym other)),
      ))
]
