-- The first entry that is not in the line is the first open one.
use Rattle.std.proofs.Common.{◌≡◌, ◌⊎◌, ℕ, take, drop, Bool, true, false, List, [], ◌∷◌, Option, Some, None, refl, ap, sym, subst, ◌∙◌, inl, inr}
use Rattle.std.specs.Prelude.{not, slice_get, reverse, ◌||◌, ◌&&◌}
use Rattle.std.specs.List.{find, filter, list_all}
use Rattle.std.specs.Option.{option_map}
use Rattle.std.proofs.lemmas.Bool.{cases_Bool, and_from, or_left, or_right}
use Rattle.log_node.specs.declared.ids.Key.{Key}
use Rattle.log_node.specs.Order.{key_below}
use Rattle.log_node.specs.Standings.{Standing, is_delivered, queue_of}
use Rattle.col_core.specs.declared.Entry.{Entry}
use Rattle.col_core.specs.History.{entries}
use Rattle.col_core.specs.Computed.{dated}
use Rattle.col_core.specs.Legal.{IsColumnHistory}
use Rattle.col_core.proofs.CallerLemmas.{In, Rises, rises, entries-of, if_true, if_false, past_is_lawful, lawful_beginning}
use Rattle.column_track.specs.Tracks.{Tracked, least_open}
use Rattle.column.specs.Columns.{ColumnState}
use Rattle.column_track.specs.Doing.{tracked}
use Rattle.std.proofs.lemmas.List.{take-append-drop}

-- each of some entries passes a test
each_passes : (test : Standing → Bool) (es : List Standing) → ((f : Standing) → In f es → test f ≡ true) → list_all test es ≡ true
each_passes test [] all = refl
each_passes test (e ∷ es) all = and_from (test e) (list_all test es) (all e (inl refl)) (each_passes test es (λ f i. all f (inr i)))

module _ (es : List Standing) where
  -- behind entries that are all settled the first that waits is the first that is open
  first_of : (xs : List Standing) → Rises xs → ((f : Standing) → In f es → (f.settled ≡ true) ⊎ In f xs)
      → slice_get (filter (λ e. not (is_delivered es e)) xs) 0 ≡ find (λ e. not e.settled) xs
  unfolding Rises
  first_of [] rising others = refl
  first_of (x ∷ xs) rising others = by (cases_Bool x.settled) (first_of xs rising.1) where
    test : Standing → Bool
    test e = not (is_delivered es e)

    below : x.settled ≡ true → (f : Standing) → In f es → (f.settled || key_below x.key f.key) ≡ true
    below settled f i = turn (others f i) where
      turn : (f.settled ≡ true) ⊎ ((x ≡ f) ⊎ In f xs) → (f.settled || key_below x.key f.key) ≡ true
      turn (inl t) = or_left f.settled (key_below x.key f.key) t
      turn (inr (inl same)) = or_left f.settled (key_below x.key f.key) (sym (ap (λ (e : Standing). e.settled) same) ∙ settled)
      turn (inr (inr later)) = or_right f.settled (key_below x.key f.key) (rising.0 f later)

    left : x.settled ≡ true → (f : Standing) → In f es → (f.settled ≡ true) ⊎ In f xs
    left settled f i = turn (others f i) where
      turn : (f.settled ≡ true) ⊎ ((x ≡ f) ⊎ In f xs) → (f.settled ≡ true) ⊎ In f xs
      turn (inl t) = inl t
      turn (inr (inl same)) = inl (sym (ap (λ (e : Standing). e.settled) same) ∙ settled)
      turn (inr (inr later)) = inr later

    by : (x.settled ≡ true) ⊎ (x.settled ≡ false)
        → (((f : Standing) → In f es → (f.settled ≡ true) ⊎ In f xs)
        → slice_get (filter (λ e. not (is_delivered es e)) xs) 0 ≡ find (λ e. not e.settled) xs)
        → slice_get (filter (λ e. not (is_delivered es e)) (x ∷ xs)) 0 ≡ find (λ e. not e.settled) (x ∷ xs)
    by (inl settled) rest =
        ap (λ (l : List Standing). slice_get l 0)
        (if_false (test x) (x ∷ filter test xs) (filter test xs)
        (ap not (and_from x.settled _ settled (each_passes (λ f. f.settled || key_below x.key f.key) es (below settled)))))
        ∙ (rest (left settled)
        ∙ sym (if_false (not x.settled) (Some x) (find (λ e. not e.settled) xs) (ap not settled)))
    by (inr waits) rest =
        ap (λ (l : List Standing). slice_get l 0)
        (if_true (test x) (x ∷ filter test xs) (filter test xs) (ap (λ b. not (b && list_all (λ f. f.settled || key_below x.key f.key) es)) waits))
        ∙ sym (if_true (not x.settled) (Some x) (find (λ e. not e.settled) xs) (ap not waits))

module _ (own regions : ℕ) (journal : List Entry) (lawful : IsColumnHistory own regions (dated own journal)) where
  rising : Rises (entries journal)
  rising = subst Rises (sym (entries-of journal)) (rises (reverse journal) (past_is_lawful own regions journal lawful))

  pub first_waits : slice_get (queue_of (entries journal)) 0 ≡ find (λ e. not e.settled) (entries journal)
  first_waits = first_of (entries journal) (entries journal) rising (λ f i. inr i)

  -- what a column says of its first entry that waits
  pub least_waits : (o : Option (Key × Bool)) → o ≡ option_map (λ (e : Standing). (e.key, e.settled)) (slice_get (queue_of (entries journal)) 0)
      → option_map (λ (p : Key × Bool). p.0.stamp) o ≡ least_open (entries journal)
  least_waits o is =
      ap (option_map (λ (p : Key × Bool). p.0.stamp)) (is ∙ ap (option_map (λ (e : Standing). (e.key, e.settled))) first_waits)
      ∙ twice (find (λ e. not e.settled) (entries journal)) where
        twice : (s : Option Standing)
            → option_map (λ (p : Key × Bool). p.0.stamp) (option_map (λ (e : Standing). (e.key, e.settled)) s)
            ≡ option_map (λ (e : Standing). e.key.stamp) s
        twice None = refl
        twice (Some e) = refl

-- the entries after the first events of a track rise
pub rises_then : (column : ColumnState) (t : Tracked) → tracked column ≡ t
    → IsColumnHistory column.region column.regions (dated column.region column.journal) → (n : ℕ) → Rises (entries (take n t.journal))
rises_then column t seen lawful n =
    rising t.region t.regions (take n t.journal)
    (lawful_beginning t.region t.regions (take n t.journal) (drop n t.journal)
    (subst (λ (h : List Entry). IsColumnHistory t.region t.regions (dated t.region h)) (sym (take-append-drop n t.journal))
    (subst (λ (u : Tracked). IsColumnHistory u.region u.regions (dated u.region u.journal)) seen lawful)))
