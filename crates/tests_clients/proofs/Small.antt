-- What an object keeps beside a client of a small store: both colours are the client's.
use Rattle.std.proofs.Common.{◌≡◌, ℕ, zero, suc, ◌<◌, ◌%◌, List, [], ◌∷◌, length, refl, ap, ◌∙◌, sym, subst, arith}
use Rattle.std.specs.Prelude.{slice_index, sum}
use Rattle.std.specs.List.{All, Contains}
use Rattle.std.proofs.lemmas.List.Elements.{All-nil, All-cons}
use Rattle.log_node.specs.declared.limits.TheConstants.{MAX_COLOURS}
use Rattle.stamp_board.specs.declared.view.Size.{Size}
use Rattle.log_client.specs.declared.store.Store.{Store}
use Rattle.log_client.specs.declared.client.Client.{Client}
use Rattle.log_client.specs.Clients.{IsClient, tracks_of}
use Rattle.log_client.specs.Objects.{HasColoursOf}
use Rattle.object_fold.specs.Nodes.{shard_of}
use Rattle.tx_parts.specs.declared.player.PartPlayer.{PartPlayer}
use Rattle.tests_clients.specs.Stores.{IsPartOf, IsSmall}

-- it has played of two colours
pub two_tracks : (s : Store) (c : Client) → IsSmall s → IsClient s c → length (tracks_of c) ≡ 2
two_tracks s c small is = is.colours ∙ ap (λ (z : Size). z.colours) small.size

below_two : (P : ℕ → Type 0) → P 0 → P 1 → All P (0 ∷ 1 ∷ [])
below_two P first second = All-cons P 0 (1 ∷ []) first (All-cons P 1 [] second (All-nil P))

pub both_colours : (s : Store) (c : Client) (colours : List ℕ) → IsSmall s → IsClient s c → colours ≡ 0 ∷ 1 ∷ []
    → HasColoursOf c colours
both_colours s c colours small is e =
    let two = two_tracks s c small is in
    subst (HasColoursOf c) (sym e) (record {
      some = omega arith;
      within = below_two (λ k. k < length (tracks_of c)) (omega (arith, two)) (omega (arith, two));
      few = below_two (λ k. k < MAX_COLOURS) (omega arith) (omega arith);
    })

-- the colour of a key of one letter
pub shard_is : (p : PartPlayer) (key : ℕ) (text : List ℕ) → IsPartOf (key % 2) p → text ≡ key ∷ [] → shard_of p.colours text ≡ p.colour
shard_is p key text of is =
    ap (λ (l : List ℕ). shard_of l text) of.colours
    ∙ ap (shard_of (0 ∷ 1 ∷ [])) is
    ∙ ap (λ (n : ℕ). slice_index (0 ∷ 1 ∷ []) (n % 2)) (let e : sum (key ∷ []) ≡ key = omega arith in e)
    ∙ place (key % 2) (omega arith)
    ∙ sym of.own where
      place : (n : ℕ) → n < 2 → slice_index (0 ∷ 1 ∷ []) n ≡ n
      place zero lt = refl
      place (suc zero) lt = refl
      place (suc (suc n)) lt = absurd (let f : ⊥ = omega (arith, lt) in f)

-- one of the two colours
pub one_of_both : (colour : ℕ) → colour ≡ colour % 2 → Contains (0 ∷ 1 ∷ []) colour
one_of_both zero e = (0, omega arith, refl)
one_of_both (suc zero) e = (1, omega arith, refl)
one_of_both (suc (suc n)) e = absurd (let f : ⊥ = omega (arith, e) in f)
