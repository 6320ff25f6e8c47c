-- What the answers of several syncs, one after another, name of what was played.
use Rattle.std.proofs.Common.{◌≡◌, ℕ, List, [], ◌∷◌, ◌++◌, length, refl, ap, sym, subst, ◌∙◌, inl, inr}
use Rattle.std.specs.Prelude.{slice_get}
use Rattle.std.proofs.lemmas.List.{map-append}
use Rattle.std.proofs.lemmas.List.Elements.{All-contains, All-nil, All-weaker}
use Rattle.log_node.specs.declared.ids.Colours.{Colours}
use Rattle.log_node.specs.Seen.{PlacedNode}
use Rattle.log_node.specs.Sets.{members}
use Rattle.col_core.proofs.CallerLemmas.{In, contains_in, in_append, in_left, in_right}
use Rattle.log_client.specs.declared.store.Store.{Store}
use Rattle.log_client.specs.declared.client.Client.{Client}
use Rattle.log_client.specs.declared.track.Track.{Track}
use Rattle.log_client.specs.declared.answers.Synced.{Synced}
use Rattle.log_client.specs.Clients.{nodes_of_track, played_of, tracks_of}
use Rattle.log_client.specs.Calls.{AnswersEach, AnswersSync}
use Rattle.log_client.specs.Reading.{PlaysColour, synced_colours}
use Rattle.log_client.proofs.Read.HiddenReads.{all_from}
use Rattle.log_client.proofs.Sync.SyncingAll.{apart_from, synced_in}

-- the same answer, between clients that have played as much of its colour
answer_between : (c d b e : Client) (k : ℕ) (y : Synced) → b.region ≡ c.region → played_of b k ≡ played_of c k
    → played_of e k ≡ played_of d k → AnswersSync c d k y → AnswersSync b e k y
answer_between c d b e k y region from to a = record {
  first = a.first ∙ ap length (sym from);
  older = (
    a.older.0,
    to ∙ (a.older.1 ∙ ap (λ (l : List PlacedNode). l ++ a.older.0) (sym from)),
    a.older.2,
  );
  snapshot = a.snapshot ∙ (λ i. record { region = sym region i; colour = k; counts = y.snapshot.counts });
}

-- between clients with the same tracks
pub answers_between : (c d b e : Client) (syncs : List Synced) → b.region ≡ c.region → tracks_of b ≡ tracks_of c
    → tracks_of e ≡ tracks_of d → AnswersEach c d syncs → AnswersEach b e syncs
answers_between c d b e syncs region from to each =
    All-weaker (λ (y : Synced). AnswersSync c d y.snapshot.colour y) (λ (y : Synced). AnswersSync b e y.snapshot.colour y)
    (λ y a. answer_between c d b e y.snapshot.colour y region
    (ap (λ (l : List Track). nodes_of_track (slice_get l y.snapshot.colour)) from)
    (ap (λ (l : List Track). nodes_of_track (slice_get l y.snapshot.colour)) to) a) syncs each

-- where nothing was played before
pub answer_from : (c m d : Client) (k : ℕ) (y : Synced) → m.region ≡ c.region → tracks_of m ≡ tracks_of c
    → AnswersSync m d k y → AnswersSync c d k y
answer_from c m d k y region tracks =
    answer_between m d c d k y (sym region) (ap (λ (l : List Track). nodes_of_track (slice_get l k)) (sym tracks)) refl

pub answers_from : (c m d : Client) (syncs : List Synced) → m.region ≡ c.region → tracks_of m ≡ tracks_of c
    → AnswersEach m d syncs → AnswersEach c d syncs
answers_from c m d syncs region tracks = answers_between m d c d syncs (sym region) (sym tracks) refl

-- ONE AFTER ANOTHER

-- The answers name what was played of their colours, and of the other colours nothing was played.
pub record AnsweredFirst (c d : Client) (syncs : List Synced) : Type 0 where
  pub each : AnswersEach c d syncs
  pub others : (m : ℕ) → (In m (synced_colours syncs) → ⊥) → slice_get (tracks_of d) m ≡ slice_get (tracks_of c) m

pub none_answered : (c : Client) → AnsweredFirst c c []
none_answered c = record {
  each = All-nil (λ (y : Synced). AnswersSync c c y.snapshot.colour y);
  others = λ m out. refl;
}

module _ (s : Store) (c d e : Client) (k : ℕ) (y : Synced) (region : d.region ≡ c.region) (p : PlaysColour s d e k y)
    (a : AnswersSync d e k y) (left : List ℕ) (set : Colours) (syncs : List Synced)
    (apart : synced_colours syncs ++ k ∷ left ≡ members set) (before : AnsweredFirst c d syncs) where
  -- the colour is none of those that were synced before
  not_before : In k (synced_colours syncs) → ⊥
  not_before i = apart_from (synced_colours syncs) k left set apart k i refl

  here : AnswersSync c e y.snapshot.colour y
  here = subst (λ (m : ℕ). AnswersSync c e m y) (sym p.of_colour)
      (answer_between d e c e k y (sym region) (ap nodes_of_track (sym (before.others k not_before))) refl a)

  earlier : (z : Synced) → In z syncs → AnswersSync c e z.snapshot.colour z
  earlier z i =
      let m = z.snapshot.colour in
      answer_between c d c e m z refl refl
      (ap nodes_of_track (p.others m (apart_from (synced_colours syncs) k left set apart m (synced_in z syncs i))))
      (All-contains (λ (w : Synced). AnswersSync c d w.snapshot.colour w) syncs z before.each (contains_in syncs z i))

  longer : synced_colours (syncs ++ y ∷ []) ≡ synced_colours syncs ++ k ∷ []
  longer = map-append (λ (z : Synced). z.snapshot.colour) syncs (y ∷ [])
      ∙ ap (λ (m : ℕ). synced_colours syncs ++ m ∷ []) p.of_colour

  pub answered_next : AnsweredFirst c e (syncs ++ y ∷ [])
  answered_next = record {
    each = all_from (λ (z : Synced). AnswersSync c e z.snapshot.colour z) (syncs ++ y ∷ [])
        (λ z i. elim (in_append z syncs (y ∷ []) i) [
          | inl early ↦ earlier z early
          | inr late ↦ elim late [
            | inl same ↦ subst (λ (w : Synced). AnswersSync c e w.snapshot.colour w) same here
            | inr none ↦ absurd none
          ]
        ]);
    others = λ m out.
        p.others m
        (λ same. out (subst (In m) (sym longer) (in_right m (synced_colours syncs) (k ∷ []) (inl (sym same)))))
        ∙ before.others m (λ i. out (subst (In m) (sym longer) (in_left m (synced_colours syncs) (k ∷ []) i)));
  }
