-- What a client's next node wants, gathered colour by colour.
use Rattle.std.proofs.Common.{◌≡◌, ℕ, ◌<◌, ◌++◌, List, [], ◌∷◌, length, map, true, ap, sym, subst, ◌∙◌, append_assoc, append-nil}
use Rattle.std.specs.List.{All}
use Rattle.std.proofs.lemmas.List.Elements.{All-head, All-tail}
use Rattle.log_node.specs.declared.ids.Colours.{Colours}
use Rattle.log_node.specs.declared.ids.Counts.{Counts}
use Rattle.log_node.specs.Sets.{has, members}
use Rattle.chain_store.proofs.CallerLemmas.{all_by, member_has}
use Rattle.log_client.specs.declared.client.Client.{Client}
use Rattle.log_client.specs.Clients.{starts_of, tracks_of}

-- what was played of the first colours, and the colours that are left
pub record AreWanted (c : Client) (colours : Colours) (wants : List Counts) (left : List ℕ) : Type 0 where
  pub all : wants ++ map (starts_of c) left ≡ map (starts_of c) (members colours)
  pub within : All (λ k. k < length (tracks_of c)) left

module _ (c : Client) (colours : Colours) where
  pub wants_begin : ((k : ℕ) → has colours k ≡ true → k < length (tracks_of c)) → (wants : List Counts) (left : List ℕ)
      → wants ≡ [] → left ≡ members colours → AreWanted c colours wants left
  wants_begin within wants left none are =
      subst (λ (l : List ℕ). AreWanted c colours wants l) (sym are)
      (record {
        all = ap (λ (l : List Counts). l ++ map (starts_of c) (members colours)) none;
        within = all_by (λ k. k < length (tracks_of c)) (members colours)
            (λ i k at. within k (member_has colours i k at));
      })

  pub wants_within : (wants : List Counts) (left rest : List ℕ) (k : ℕ) → AreWanted c colours wants left → left ≡ k ∷ rest
      → k < length (tracks_of c)
  wants_within wants left rest k are first =
      All-head (λ j. j < length (tracks_of c)) k rest (subst (All (λ j. j < length (tracks_of c))) first are.within)

  pub wants_next : (wants new : List Counts) (left rest : List ℕ) (k : ℕ) (counts : Counts)
      → AreWanted c colours wants left → left ≡ k ∷ rest → new ≡ wants ++ counts ∷ [] → counts ≡ starts_of c k
      → AreWanted c colours new rest
  wants_next wants new left rest k counts are first is of = record {
    all =
        ap (λ (l : List Counts). l ++ map (starts_of c) rest) is
        ∙ (append_assoc wants (counts ∷ []) (map (starts_of c) rest)
        ∙ (ap (λ (v : Counts). wants ++ v ∷ map (starts_of c) rest) of
        ∙ (ap (λ (l : List ℕ). wants ++ map (starts_of c) l) (sym first) ∙ are.all)));
    within =
        All-tail (λ j. j < length (tracks_of c)) k rest (subst (All (λ j. j < length (tracks_of c))) first are.within);
  }

  pub wants_all : (wants : List Counts) (left : List ℕ) → AreWanted c colours wants left → left ≡ []
      → wants ≡ map (starts_of c) (members colours)
  wants_all wants left are none =
      sym (append-nil wants) ∙ (ap (λ (l : List ℕ). wants ++ map (starts_of c) l) (sym none) ∙ are.all)
