-- The nodes that clients appended are listed in the order of their ids, and rows and singles are theirs.
use Rattle.std.proofs.Common.{◌≡◌, ℕ, zero, suc, ◌+◌, ◌<◌, List, [], ◌∷◌, ◌++◌, length, Some, false, refl, subst, ap, sym, ◌∙◌, inl, inr, ◌⊎◌, arith, length-append}
use Rattle.std.specs.Prelude.{◌==◌, slice_get}
use Rattle.std.proofs.lemmas.Bool.{ltb-true, eq-eqb, true≢false}
use mathlib.Core.List.{IsPrefix}
use Rattle.log_node.specs.declared.ids.Id.{Id}
use Rattle.log_node.specs.declared.ids.Colours.{Colours}
use Rattle.log_node.specs.declared.node.Node.{Node}
use Rattle.log_node.specs.declared.node.Shape.{Shape}
use Rattle.log_node.specs.declared.marks.Mark.TheVariants as marks
use Rattle.log_node.specs.declared.marks.Outcome.TheVariants.{Open}
use Rattle.col_core.specs.declared.Event.TheVariants as events
use Rattle.col_core.specs.declared.Event.{Event}
use Rattle.col_core.specs.declared.Entry.{Entry}
use Rattle.col_core.specs.Keeping.{updated}
use Rattle.col_core.proofs.CallerLemmas.{choice, slice_longer, In}
use Rattle.world_laws.specs.declared.steps.Step.{Step}
use Rattle.world_laws.specs.declared.steps.Step.TheVariants as steps
use Rattle.world_laws.specs.Worlds.{World, RowState, ClientState, home_of, next_id, may_begin, may_propose, may_fence, may_decide, may_settle, may_single, may_raise, may_give, may_carry, is_column, may_play, may_see, with_client, with_last, with_mark, with_node, begun_node, after_begin, after_propose, proposed_entry, after_decide, settled_entry, carried_entry, single_node, after_single, single_entry, after, run_steps, opened}
use Rattle.world_laws.specs.Laws.{HasSingleNode, HasNodes}
use Rattle.world_laws.proofs.Basics.{slice_last, at_updated, at_updated_at, updated-here, in_contains, in_last}
use Rattle.world_laws.proofs.Keeps.{at_last}
use Rattle.world_laws.proofs.Clients.{begun_client, used_before, single_client, same_used, raise_entry}
use Rattle.world_laws.proofs.OfColumns.{give_entry, trim_entry}
use Rattle.world_laws.proofs.OfRows.{may_fence_marks}
use Rattle.world_laws.proofs.Growing.{Grows, played_client, grows_begin, grows_mark, grows_propose, grows_decide, grows_last, grows_client, grows_single}
use Rattle.log_node.proofs.CallerLemmas.{get_push as last_cases}

-- what the lists say of an event
abbrev pub FitsSingle : World → ℕ → ℕ → ℕ → Event → Type 0
FitsSingle w r c by (events.Single id floor wants) = HasSingleNode w r c by id floor wants
FitsSingle w r c by (events.Propose _ _ _) = Unit {0}
FitsSingle w r c by (events.Settle _ _) = Unit {0}
FitsSingle w r c by (events.Raise _) = Unit {0}
FitsSingle w r c by (events.Give _ _) = Unit {0}
FitsSingle w r c by (events.Carry _ _ _) = Unit {0}
FitsSingle w r c by (events.Trim _) = Unit {0}

pub record Listed (w : World) : Type 0 where
  pub ids : (a n : ℕ) (node : Node) → slice_get (w.nodes a) n ≡ Some node → node.id ≡ record { client = a; count = n }
  pub counts : (a : ℕ) → length (w.nodes a) ≡ (w.clients a).count
  pub rows : (a n : ℕ) → n < (w.clients a).used
      → slice_get (w.nodes a) (w.rows a n).node.id.count ≡ Some (w.rows a n).node
  pub singles : (r c : ℕ) (e : Entry) → In e (w.histories r c) → FitsSingle w r c e.by e.event

stays_at : {A : Type 0} (xs ys : List A) → IsPrefix xs ys → (n : ℕ) (x : A) → slice_get xs n ≡ Some x
    → slice_get ys n ≡ Some x
stays_at xs ys p n x h = subst (λ l. slice_get l n ≡ Some x) p.1 (slice_longer xs p.0 n x h)

single_grows : (w w' : World) → Grows w w' → (r c by : ℕ) (ev : Event) → FitsSingle w r c by ev
    → FitsSingle w' r c by ev
single_grows w w' g r c by (events.Single id floor wants) f = record {
  node = f.node;
  listed = stays_at (w.nodes id.client) (w'.nodes id.client) (g.nodes id.client) id.count f.node f.listed;
  maker = f.maker;
  in_region = f.in_region;
  of_colour = f.of_colour;
  floor_is = f.floor_is;
  wants_is = f.wants_is;
  no_row = f.no_row;
}
single_grows w w' g r c by (events.Propose _ _ _) f = tt
single_grows w w' g r c by (events.Settle _ _) f = tt
single_grows w w' g r c by (events.Raise _) f = tt
single_grows w w' g r c by (events.Give _ _) f = tt
single_grows w w' g r c by (events.Carry _ _ _) f = tt
single_grows w w' g r c by (events.Trim _) f = tt

listed_next : (w w' : World) → Listed w → Grows w w'
    → ((a n : ℕ) (node : Node) → slice_get (w'.nodes a) n ≡ Some node
    → (slice_get (w.nodes a) n ≡ Some node) ⊎ (node.id ≡ record { client = a; count = n }))
    → ((a : ℕ) → length (w'.nodes a) ≡ (w'.clients a).count)
    → ((a n : ℕ) → n < (w'.clients a).used
    → (n < (w.clients a).used) ⊎ (slice_get (w'.nodes a) (w'.rows a n).node.id.count ≡ Some (w'.rows a n).node))
    → ((r c : ℕ) (e : Entry) → In e (w'.histories r c) → In e (w.histories r c) ⊎ FitsSingle w' r c e.by e.event)
    → Listed w'
listed_next w w' l g ids counts rows singles = record {
  ids = λ a n node e. id a n node (ids a n node e);
  counts = counts;
  rows = λ a n lt. row a n (rows a n lt);
  singles = λ r c e i. single r c e (singles r c e i);
} where
  id : (a n : ℕ) (node : Node) → (slice_get (w.nodes a) n ≡ Some node) ⊎ (node.id ≡ record { client = a; count = n })
      → node.id ≡ record { client = a; count = n }
  id a n node (inl e) = l.ids a n node e
  id a n node (inr e) = e

  row : (a n : ℕ)
      → (n < (w.clients a).used) ⊎ (slice_get (w'.nodes a) (w'.rows a n).node.id.count ≡ Some (w'.rows a n).node)
      → slice_get (w'.nodes a) (w'.rows a n).node.id.count ≡ Some (w'.rows a n).node
  row a n (inl lt) =
      subst (λ (x : Node). slice_get (w'.nodes a) x.id.count ≡ Some x) (sym (g.rows a n lt).node)
      (stays_at (w.nodes a) (w'.nodes a) (g.nodes a) (w.rows a n).node.id.count (w.rows a n).node (l.rows a n lt))
  row a n (inr e) = e

  single : (r c : ℕ) (e : Entry) → In e (w.histories r c) ⊎ FitsSingle w' r c e.by e.event
      → FitsSingle w' r c e.by e.event
  single r c e (inl i) = single_grows w w' g r c e.by e.event (l.singles r c e i)
  single r c e (inr f) = f

-- A node more

more_ids : (w : World) → Listed w → (client : ℕ) (new : Node) → new.id ≡ next_id w client → (a n : ℕ) (node : Node)
    → slice_get ((with_node w client new).nodes a) n ≡ Some node
    → (slice_get (w.nodes a) n ≡ Some node) ⊎ (node.id ≡ record { client = a; count = n })
more_ids w l client new is a n node =
    at_updated (λ (x : List Node). slice_get x n ≡ Some node → (slice_get (w.nodes a) n ≡ Some node)
    ⊎ (node.id ≡ record { client = a; count = n })) w.nodes client (w.nodes client ++ new ∷ []) a
    (λ ea at. turn ea (last_cases (w.nodes client) new n node at))
    (λ _ at. inl at) where
      id_of : ℕ → ℕ → Id
      id_of client count = record { client = client; count = count }

      turn : a ≡ client → (slice_get (w.nodes client) n ≡ Some node) ⊎ ((n ≡ length (w.nodes client)) × (new ≡ node))
          → (slice_get (w.nodes a) n ≡ Some node) ⊎ (node.id ≡ record { client = a; count = n })
      turn ea (inl e) = inl (subst (λ (x : ℕ). slice_get (w.nodes x) n ≡ Some node) (sym ea) e)
      turn ea (inr p) =
          inr (ap (λ (x : Node). x.id) (sym p.1)
          ∙ (is ∙ (ap (λ (x : ℕ). id_of x (w.clients client).count) (sym ea) ∙ ap (λ (x : ℕ). id_of a x)
          (sym (p.0 ∙ l.counts client)))))

more_counts : (w : World) → Listed w → (client : ℕ) (new : Node) (cs : ClientState)
    → cs.count ≡ (w.clients client).count + 1 → (a : ℕ)
    → length ((with_node w client new).nodes a) ≡ (updated w.clients client cs a).count
more_counts w l client new cs e a =
    at_updated (λ (s : ClientState). length ((with_node w client new).nodes a) ≡ s.count) w.clients client cs a
    (λ ea. ap (λ (x : ℕ). length ((with_node w client new).nodes x)) ea
    ∙ (ap length (updated-here w.nodes client (w.nodes client ++ new ∷ []))
    ∙ (length-append (w.nodes client) (new ∷ []) ∙ (ap (λ (n : ℕ). n + 1) (l.counts client) ∙ sym e))))
    (λ other. at_updated (λ (x : List Node). length x ≡ (w.clients a).count) w.nodes client
    (w.nodes client ++ new ∷ []) a (λ ea. absurd (apart_from a client ea other)) (λ _. l.counts a)) where
      apart_from : (a b : ℕ) → a ≡ b → (a == b) ≡ false → ⊥
      apart_from a b e f = true≢false (sym (eq-eqb a b e) ∙ f)

new_stands : (w : World) → Listed w → (client : ℕ) (new : Node)
    → slice_get ((with_node w client new).nodes client) (w.clients client).count ≡ Some new
new_stands w l client new =
    ap (λ (x : List Node). slice_get x (w.clients client).count)
    (updated-here w.nodes client (w.nodes client ++ new ∷ []))
    ∙ (ap (λ (n : ℕ). slice_get (w.nodes client ++ new ∷ []) n) (sym (l.counts client)) ∙ slice_last_node
    (w.nodes client)) where
      slice_last_node : (xs : List Node) → slice_get (xs ++ new ∷ []) (length xs) ≡ Some new
      slice_last_node xs = slice_last xs new

same_counts : (w : World) → Listed w → (client : ℕ) (cs : ClientState) → cs.count ≡ (w.clients client).count → (a : ℕ)
    → length (w.nodes a) ≡ (updated w.clients client cs a).count
same_counts w l client cs e a =
    at_updated (λ (s : ClientState). length (w.nodes a) ≡ s.count) w.clients client cs a
    (λ ea. ap (λ (x : ℕ). length (w.nodes x)) ea ∙ (l.counts client ∙ sym e)) (λ _. l.counts a)

-- one entry more
one_more_single : (w w' : World) (region colour : ℕ) (e : Entry) → FitsSingle w' region colour e.by e.event
    → (r c : ℕ) (d : Entry) → In d ((with_last w region colour e).histories r c)
    → In d (w.histories r c) ⊎ FitsSingle w' r c d.by d.event
one_more_single w w' region colour e new r c d =
    at_last (λ (x : List Entry). In d x → In d (w.histories r c) ⊎ FitsSingle w' r c d.by d.event) w region colour e r c
    (λ er ec i. turn er ec (in_last d (w.histories region colour) e i))
    (λ _ i. inl i) where
      turn : r ≡ region → c ≡ colour → In d (w.histories region colour) ⊎ (e ≡ d)
          → In d (w.histories r c) ⊎ FitsSingle w' r c d.by d.event
      turn er ec (inl i) =
          inl (subst (λ (x : ℕ). In d (w.histories x c)) (sym er)
          (subst (λ (x : ℕ). In d (w.histories region x)) (sym ec) i))
      turn er ec (inr is) =
          inr (subst (λ (x : ℕ). FitsSingle w' x c d.by d.event) (sym er)
          (subst (λ (x : ℕ). FitsSingle w' region x d.by d.event) (sym ec)
          (subst (λ (x : Entry). FitsSingle w' region colour x.by x.event) is new)))

-- The steps

lists_begin : (w : World) → Listed w → (client : ℕ) (colours : Colours) (text : List ℕ)
    → Listed (after_begin w client colours text)
lists_begin w l client colours text =
    let new = begun_node w client colours text in
    listed_next w (after_begin w client colours text) l (grows_begin w client colours text)
    (more_ids w l client new refl) (more_counts w l client new (begun_client w client) refl)
    (λ a n lt. at_updated_at
    (λ (x : RowState). (n < (w.clients a).used)
    ⊎ (slice_get ((with_node w client new).nodes a) x.node.id.count ≡ Some x.node)) w.rows client
    (w.clients client).used (record { node = new; marks = λ _. marks.None; last = Open }) a n
    (λ ea en. inr
    (subst (λ (x : ℕ). slice_get ((with_node w client new).nodes x) new.id.count ≡ Some new) (sym ea)
    (new_stands w l client new)))
    (λ other. inl (used_before w client a n lt other)))
    (λ r c e i. inl i)

lists_single : (w : World) → Listed w → (client colour : ℕ) (text : List ℕ) → Listed (after_single w client colour text)
lists_single w l client colour text =
    let new = single_node w client colour text in
    listed_next w (after_single w client colour text) l (grows_single w client colour text)
    (more_ids w l client new refl) (more_counts w l client new (single_client w client colour) refl)
    (λ a n lt. inl (same_used w client (single_client w client colour) refl a n lt))
    (one_more_single w (after_single w client colour text) (home_of w client) colour (single_entry w client colour)
    (record {
      node = new;
      listed = new_stands w l client new;
      maker = refl;
      in_region = refl;
      of_colour = refl;
      floor_is = refl;
      wants_is = refl;
      no_row = refl;
    }))

lists_last : (w : World) → Listed w → (region colour : ℕ) (e : Entry)
    → FitsSingle (with_last w region colour e) region colour e.by e.event → Listed (with_last w region colour e)
lists_last w l region colour e f =
    listed_next w (with_last w region colour e) l (grows_last w region colour e) (λ a n node at. inl at) l.counts
    (λ a n lt. inl lt) (one_more_single w (with_last w region colour e) region colour e f)

lists_client : (w : World) → Listed w → (client : ℕ) (cs : ClientState) → cs.count ≡ (w.clients client).count
    → cs.used ≡ (w.clients client).used → Listed (with_client w client cs)
lists_client w l client cs ec eu =
    listed_next w (with_client w client cs) l (grows_client w client cs (omega (arith, eu))) (λ a n node at. inl at)
    (same_counts w l client cs ec) (λ a n lt. inl (same_used w client cs eu a n lt)) (λ r c e i. inl i)

pub after_listed : (w : World) → Listed w → (s : Step) → Listed (after w s)
after_listed w l (steps.Begin client colours text) =
    choice Listed (may_begin w client colours) _ w (λ _. lists_begin w l client colours text) (λ _. l)
after_listed w l (steps.Propose by row colour) = choice Listed (may_propose w row colour) _ w
    (λ ok. listed_next w (after_propose w by row colour) l (grows_propose w by row colour ok)
    (λ a n node at. inl at) l.counts (λ a n lt. inl lt)
    (one_more_single w (after_propose w by row colour) (home_of w row.client) colour
    (proposed_entry w by row colour) tt)) (λ _. l)
after_listed w l (steps.Fence row colour why) = choice Listed (may_fence w row colour why) _ w
    (λ ok. listed_next w (with_mark w row colour (marks.Fenced why)) l
    (grows_mark w row colour (marks.Fenced why) (may_fence_marks w row colour why ok))
    (λ a n node at. inl at) l.counts (λ a n lt. inl lt) (λ r c e i. inl i)) (λ _. l)
after_listed w l (steps.Decide row) = choice Listed (may_decide w row) _ w
    (λ ok. listed_next w (after_decide w row) l (grows_decide w row ok) (λ a n node at. inl at) l.counts
    (λ a n lt. inl lt) (λ r c e i. inl i)) (λ _. l)
after_listed w l (steps.Settle by row colour) =
    choice Listed (may_settle w row colour) _ w
    (λ _. lists_last w l (home_of w row.client) colour (settled_entry w by row) tt) (λ _. l)
after_listed w l (steps.Single client colour text) =
    choice Listed (may_single w client colour) _ w (λ _. lists_single w l client colour text) (λ _. l)
after_listed w l (steps.Raise by region colour to) =
    choice Listed (may_raise w region colour to) _ w (λ _. lists_last w l region colour (raise_entry by to) tt) (λ _. l)
after_listed w l (steps.Give by origin region colour from) =
    choice Listed (may_give w origin region colour from) _ w
    (λ _. lists_last w l origin colour (give_entry by region from) tt) (λ _. l)
after_listed w l (steps.Carry by origin region colour start count) =
    choice Listed (may_carry w origin region colour start count) _ w
    (λ _. lists_last w l region colour (carried_entry w by origin region colour (start + count)) tt) (λ _. l)
after_listed w l (steps.Trim by region colour counts) =
    choice Listed (is_column w region colour) _ w (λ _. lists_last w l region colour (trim_entry by counts) tt) (λ _. l)
after_listed w l (steps.Play client colour) =
    choice Listed (may_play w client colour) _ w
    (λ _. lists_client w l client (played_client w client colour) refl refl) (λ _. l)
after_listed w l (steps.Seen client to) =
    choice Listed (may_see w client to) _ w
    (λ _. lists_client w l client (record (w.clients client) { floor = to }) refl refl) (λ _. l)

opened_listed : (shape : Shape) → Listed (opened shape)
opened_listed shape = record {
  ids = λ a n node e. absurd (let x : ⊥ = cc in x);
  counts = λ a. refl;
  rows = λ a n lt. absurd (let x : ⊥ = omega (arith, lt) in x);
  singles = λ r c e i. absurd i;
}

run_listed : (w : World) → Listed w → (steps : List Step) → Listed (run_steps w steps)
run_listed w l [] = l
run_listed w l (s ∷ steps) = run_listed (after w s) (after_listed w l s) steps

pub listed : (shape : Shape) (steps : List Step) → Listed (run_steps (opened shape) steps)
listed shape steps = run_listed (opened shape) (opened_listed shape) steps

pub has_nodes : (w : World) → Listed w → HasNodes w
has_nodes w l = record {
  ids = l.ids;
  counts = l.counts;
  rows = λ row b. l.rows row.client row.number (ltb-true row.number (w.clients row.client).used b);
  singles = λ region colour e id floor wants i is. subst (λ (ev : Event). FitsSingle w region colour e.by ev) is
      (l.singles region colour e (in_contains (w.histories region colour) e i));
}
