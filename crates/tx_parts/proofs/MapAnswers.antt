-- What players of a map's colours keep while their client goes on, and what explains the answers of their calls.
use Rattle.std.proofs.Common.{◌≡◌, ◌⊎◌, inl, inr, IfOk, IfErr, ℕ, zero, suc, ◌≤◌, List, [], ◌∷◌, ◌++◌, length, set, get_or, Some, Result, Ok, Err, refl, ap, sym, subst, ◌∙◌}
use Rattle.std.specs.Prelude.{slice_get}
use Rattle.std.proofs.lemmas.Option.{get_or_from_slice_get}
use Rattle.log_node.specs.declared.limits.TheConstants.{MAX_COLOURS}
use Rattle.object_fold.specs.Nodes.{shard_of}
use Rattle.log_client.specs.declared.store.Store.{Store}
use Rattle.log_client.specs.declared.client.Client.{Client}
use Rattle.log_client.specs.declared.object_fault.ObjectFault.{ObjectFault}
use Rattle.log_client.specs.Clients.{IsClient}
use Rattle.log_client.specs.Objects.{HasColoursOf, GetRefused}
use Rattle.log_client.specs.Reading.{RestsOn}
use Rattle.log_client.specs.StampedReads.{ReadsGoOn}
use Rattle.region_fold.proofs.CallerLemmas.{colours_later}
use Rattle.tx_parts.specs.declared.player.PartPlayer.{PartPlayer}
use Rattle.tx_parts.specs.declared.players.PartPlayers.{PartPlayers}
use Rattle.tx_parts.specs.Players.{IsPlayerOf, IsSamePlayer}
use Rattle.tx_parts.specs.Deciding.{DecideRefused}
use Rattle.tx_parts.specs.MapPlayers.{ArePlayersOf, AreSamePlayers, DecidesNot, IsAtPlace, IsOfKey, IsOfMap, OfKey, PeeksNot}
use Rattle.tx_parts.proofs.PlayerAnswers.{player_later}

-- WHAT IS KEPT

-- what is kept stays right
pub players_later : ReadsGoOn → (s : Store) (c d : Client) → RestsOn s c d → (ps : PartPlayers) → IsClient s c
    → ArePlayersOf c ps → ArePlayersOf d ps
players_later law s c d on ps is of = record {
  colours = colours_later s c d on ps.colours is of.colours;
  few = of.few;
  each = λ n p at. let one = of.each n p at in (player_later law s c d on p is one.0, one.1);
}

-- of the same players the same is so
pub players_as : (c : Client) (ps qs : PartPlayers) → AreSamePlayers ps qs → ArePlayersOf c ps
    → ((n : ℕ) (p : PartPlayer) → slice_get qs.players.items n ≡ Some p → IsPlayerOf c p × IsOfMap ps.home ps.colours p)
    → ArePlayersOf c qs
players_as c ps qs same of each = record {
  colours = subst (HasColoursOf c) (sym same.1) of.colours;
  few = subst (λ (l : List ℕ). length l ≤ MAX_COLOURS) (sym same.1) of.few;
  each = λ n p at. let one = each n p at in (one.0, (one.1.0 ∙ sym same.0, one.1.1 ∙ sym same.1));
}

-- what a list with one more has at its places
one_more : (xs : List PartPlayer) (x y : PartPlayer) (n : ℕ) → slice_get (xs ++ x ∷ []) n ≡ Some y
    → (slice_get xs n ≡ Some y) ⊎ (x ≡ y)
one_more [] x y zero e = inr (cc (e))
one_more [] x y (suc n) e = absurd (let f : ⊥ = cc (e) in f)
one_more (z ∷ xs) x y zero e = inl e
one_more (z ∷ xs) x y (suc n) e = one_more xs x y n e

pub last_there : (xs : List PartPlayer) (x : PartPlayer) → slice_get (xs ++ x ∷ []) (length xs) ≡ Some x
last_there [] x = refl
last_there (z ∷ xs) x = last_there xs x

-- one more is opened
pub players_more : (c : Client) (ps qs : PartPlayers) (p : PartPlayer) → AreSamePlayers ps qs → ArePlayersOf c ps
    → qs.players.items ≡ ps.players.items ++ p ∷ [] → IsPlayerOf c p → IsOfMap ps.home ps.colours p → ArePlayersOf c qs
players_more c ps qs p same of items is map =
    players_as c ps qs same of (λ n q at. elim (one_more ps.players.items p q n (sym (ap (λ (l : List PartPlayer). slice_get l n) items) ∙ at)) [
      | inl old ↦ of.each n q old
      | inr new ↦ (subst (IsPlayerOf c) new is, subst (IsOfMap ps.home ps.colours) new map)
    ])

-- THE PLAYER OF A KEY

-- the player that was found is the key's
pub at_place : (c : Client) (ps : PartPlayers) (key : List ℕ) (place : ℕ) (p : PartPlayer) → ArePlayersOf c ps
    → slice_get ps.players.items place ≡ Some p → p.colour ≡ shard_of ps.colours key → IsAtPlace ps key place
at_place c ps key place p of at colour =
    let one = of.each place p at in (p, at, record { of = one.1; colour = colour; own = one.0.own })

-- and so is what is read at its place
pub found_there : (ps : PartPlayers) (key : List ℕ) (place : ℕ) (found : PartPlayer) → IsAtPlace ps key place
    → found ≡ get_or ps.players.items place found
    → (slice_get ps.players.items place ≡ Some found) × IsOfKey ps.home ps.colours key found
found_there ps key place found there is =
    let same = is ∙ get_or_from_slice_get ps.players.items place there.0 found there.1 in (
      there.1 ∙ ap (λ (p : PartPlayer). Some p) (sym same),
      subst (IsOfKey ps.home ps.colours key) (sym same) there.2,
    )

-- also of the players before it was opened
pub of_key_back : (ps qs : PartPlayers) (key : List ℕ) (p : PartPlayer) → AreSamePlayers ps qs
    → IsOfKey qs.home qs.colours key p → IsOfKey ps.home ps.colours key p
of_key_back ps qs key p same of = record {
  of = (of.of.0 ∙ same.0, of.of.1 ∙ same.1);
  colour = of.colour ∙ ap (λ (colours : List ℕ). shard_of colours key) same.1;
  own = of.own;
}

-- both at once
pub its_key : (ps qs : PartPlayers) (key : List ℕ) (place : ℕ) (found : PartPlayer) → AreSamePlayers ps qs → IsAtPlace qs key place
    → found ≡ get_or qs.players.items place found → IsOfKey ps.home ps.colours key found
its_key ps qs key place found same there is = of_key_back ps qs key found same (found_there qs key place found there is).1

-- WHAT ITS CALLS SAY

module _ (s : Store) (c d : Client) (ps : PartPlayers) (key : List ℕ) (p : PartPlayer)
    (of : IsOfKey ps.home ps.colours key p) where
  pub of_key : {A : Type 0} (call : Result A ObjectFault) (Says : A → PartPlayer → Type 0) → IfOk call (λ r. Says r p)
      → IfOk call (λ r. OfKey ps key (Says r))
  of_key (Ok r) Says ok = (p, of, ok)
  of_key (Err fault) Says ok = tt

  pub peeks_not : {A : Type 0} (call : Result A ObjectFault) → IfErr call (GetRefused (Some p.home) s c d p.colour)
      → IfErr call (PeeksNot s c d ps key)
  peeks_not (Ok r) err = tt
  peeks_not (Err fault) err =
      inr (subst (λ (colour : ℕ). GetRefused (Some ps.home) s c d colour fault) of.colour
      (subst (λ (home : ℕ). GetRefused (Some home) s c d p.colour fault) of.of.0 err))

  pub decides_not : {A : Type 0} (call : Result A ObjectFault) → IfErr call (DecideRefused s c d p)
      → IfErr call (DecidesNot s c d ps key)
  decides_not (Ok r) err = tt
  decides_not (Err fault) err = inr (p, of, err)

-- what a list has at its places where one is another
set_cases : (xs : List PartPlayer) (n j : ℕ) (x y : PartPlayer) → slice_get (set xs n x) j ≡ Some y
    → (x ≡ y) ⊎ (slice_get xs j ≡ Some y)
set_cases [] n j x y e = absurd (let f : ⊥ = cc (e) in f)
set_cases (z ∷ xs) zero zero x y e = inl (let f : x ≡ y = cc (e) in f)
set_cases (z ∷ xs) zero (suc j) x y e = inr e
set_cases (z ∷ xs) (suc n) zero x y e = inr e
set_cases (z ∷ xs) (suc n) (suc j) x y e = set_cases xs n j x y e

-- after a call of the one at the place
pub players_with : ReadsGoOn → (s : Store) (c d : Client) → RestsOn s c d → (ps qs : PartPlayers) (place : ℕ) (p q : PartPlayer)
    → IsClient s c → ArePlayersOf c ps → slice_get ps.players.items place ≡ Some p → IsSamePlayer p q → IsPlayerOf d q
    → AreSamePlayers ps qs → qs.players.items ≡ set ps.players.items place q → ArePlayersOf d qs
players_with law s c d on ps qs place p q is of at same new are items =
    players_as d ps qs are later (λ n x there. elim (set_cases ps.players.items place n q x (sym (ap (λ (l : List PartPlayer). slice_get l n) items) ∙ there)) [
      | inl e ↦ (subst (IsPlayerOf d) e new, subst (IsOfMap ps.home ps.colours) e (same.0 ∙ map.0, same.1 ∙ map.1))
      | inr old ↦ later.each n x old
    ]) where
      later : ArePlayersOf d ps
      later = players_later law s c d on ps is of

      map : IsOfMap ps.home ps.colours p
      map = (of.each place p at).1
