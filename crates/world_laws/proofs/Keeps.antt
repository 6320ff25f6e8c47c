-- Each step keeps what holds: what the steps have in common.
use Rattle.std.proofs.Common.{◌≡◌, ℕ, ◌+◌, ◌<◌, ◌≤◌, List, [], ◌∷◌, ◌++◌, false, refl, subst, ap, sym, ◌∙◌, inl, inr, ◌⊎◌, arith, append-nil}
use Rattle.std.specs.Prelude.{◌==◌, ◌&&◌, ◌≢◌, slice_index}
use Rattle.std.proofs.lemmas.Bool.{eq-eqb}
use Rattle.std.proofs.lemmas.Grind.{flat_map-append}
use Rattle.log_node.specs.declared.ids.Id.{Id}
use Rattle.log_node.specs.declared.node.Head.{Head}
use Rattle.log_node.specs.declared.node.Shape.{Shape}
use Rattle.log_node.specs.Order.{same_id}
use Rattle.col_core.specs.declared.Entry.{Entry}
use Rattle.col_core.specs.History.{last_stamp, next_stamp, has_entered}
use Rattle.col_core.specs.Cuts.{entries_of, carried}
use Rattle.col_core.specs.Computed.{dated}
use Rattle.col_core.specs.Legal.{MayEnter, IsLawfulEvent, IsColumnHistory}
use Rattle.col_core.specs.Keeping.{updated, updated_at}
use Rattle.col_core.proofs.CallerLemmas.{by_test, if_true, if_false, apart, same_id-refl, same_id-true, In, Status}
use Rattle.col_core.proofs.CallerLemmas.{Absent, after_event}
use Rattle.world_laws.specs.Worlds.{World, RowState, ClientState, home_of, with_last, next_id}
use Rattle.world_laws.proofs.Basics.{at_updated, at_updated_at, updated_at-not, not_same, differ, in_append}
use Rattle.world_laws.proofs.Held.{status_in, Kind, Unborn, OfSingle, OfRow, Agrees, column_mark, FitsRow, Fits, IsSound, heads_of, Held, put_kind}
use Rattle.world_laws.proofs.Histories.{entries_dated, history_longer, not_entered, status-last}

-- A world with one entry more

pub at_last : (P : List Entry → Type 0) (w : World) (region colour : ℕ) (e : Entry) (r c : ℕ)
    → (r ≡ region → c ≡ colour → P (w.histories region colour ++ e ∷ []))
    → (((r == region) && (c == colour)) ≡ false → P (w.histories r c)) → P ((with_last w region colour e).histories r c)
at_last P w region colour e r c here there =
    at_updated_at P w.histories region colour (w.histories region colour ++ e ∷ []) r c here there

pub lawful_last : (w : World) → Held w → (region colour : ℕ) (e : Entry)
    → IsLawfulEvent region w.shape.regions (dated region (w.histories region colour)) e.event e.stamp
    → (r c : ℕ) → IsColumnHistory r w.shape.regions (dated r ((with_last w region colour e).histories r c))
lawful_last w h region colour e next r c =
    at_last (λ (x : List Entry). IsColumnHistory r w.shape.regions (dated r x)) w region colour e r c
    (λ er ec. subst (λ (x : ℕ). IsColumnHistory x w.shape.regions (dated x (w.histories region colour ++ e ∷ [])))
    (sym er) (history_longer region w.shape.regions (w.histories region colour) e (h.lawful region colour) next))
    (λ _. h.lawful r c)

-- the id may enter under the next stamp
pub may_enter : (w : World) → Held w → (region colour : ℕ) (id : Id) (floor : ℕ)
    → status_in (w.histories region colour) id ≡ Absent → next_stamp (w.histories region colour) floor ≤ last_stamp
    → MayEnter (entries_of (dated region (w.histories region colour))) id floor
    (next_stamp (w.histories region colour) floor)
may_enter w h region colour id floor absent le =
    subst (λ (x : List Entry). MayEnter x id floor (next_stamp (w.histories region colour) floor))
    (sym (entries_dated region (w.histories region colour)))
    (record { fresh = fresh_in (w.histories region colour) absent; stamped = refl; in_range = le }) where
      fresh_in : (history : List Entry) → status_in history id ≡ Absent → has_entered id history ≡ false
      fresh_in history a = not_entered history id a

-- an event brings heads with stamps
pub heads_brought : (w : World) → Held w → (region colour : ℕ) (e : Entry)
    → ((other : ℕ) (head : Head) → In head (carried other e.event) → head.key.stamp ≤ last_stamp)
    → (r c other : ℕ) (head : Head) → In head (heads_of other ((with_last w region colour e).histories r c))
    → head.key.stamp ≤ last_stamp
heads_brought w h region colour e within r c other head =
    at_last (λ (x : List Entry). In head (heads_of other x) → head.key.stamp ≤ last_stamp) w region colour e r c
    (λ er ec i. turn
    (in_append head (heads_of other (w.histories region colour)) (heads_of other (e ∷ []))
    (subst (λ (l : List Head). In head l)
    (flat_map-append (λ (d : Entry). carried other d.event) (w.histories region colour) (e ∷ [])) i)))
    (λ _ i. h.heads r c other head i) where
      turn : In head (heads_of other (w.histories region colour)) ⊎ In head (carried other e.event ++ [])
          → head.key.stamp ≤ last_stamp
      turn (inl i) = h.heads region colour other head i
      turn (inr i) = within other head (subst (λ (l : List Head). In head l) (append-nil (carried other e.event)) i)

pub heads_last : (w : World) → Held w → (region colour : ℕ) (e : Entry) → ((other : ℕ) → carried other e.event ≡ [])
    → (r c other : ℕ) (head : Head) → In head (heads_of other ((with_last w region colour e).histories r c))
    → head.key.stamp ≤ last_stamp
heads_last w h region colour e none =
    heads_brought w h region colour e
    (λ other head i. absurd (subst (λ (l : List Head). In head l) (none other) i))

-- an event that leaves an id's status leaves it in every column
pub status_stays : (w : World) (region colour : ℕ) (e : Entry) (id : Id) (r c : ℕ)
    → ((st : Status) → after_event id e.event e.stamp st ≡ st)
    → status_in ((with_last w region colour e).histories r c) id ≡ status_in (w.histories r c) id
status_stays w region colour e id r c stays =
    at_last (λ (x : List Entry). status_in x id ≡ status_in (w.histories r c) id) w region colour e r c
    (λ er ec. status-last (w.histories region colour) e id
    ∙ (stays (status_in (w.histories region colour) id) ∙ sym
    (ap (λ (x : ℕ). status_in (w.histories x c) id) er ∙ ap (λ (x : ℕ). status_in (w.histories region x) id) ec)))
    (λ _. refl)

-- Statuses and kinds

-- one id whose row and statuses stay
keep : (w w' : World) (id : Id) (k : Kind) (r c : ℕ) (st : Status) → w'.shape ≡ w.shape
    → ((n : ℕ) → n < (w.clients id.client).used → (w.rows id.client n).node.id ≡ id
    → (n < (w'.clients id.client).used) × (w'.rows id.client n ≡ w.rows id.client n))
    → Fits w id k r c st → Fits w' id k r c st
keep w w' id Unborn r c st shape same h = h
keep w w' id (OfSingle region colour stamp) r c st shape same h = h
keep w w' id (OfRow n) r c st shape same h =
    let s = same n h.begun h.is in
    record {
      begun = s.0;
      is = subst (λ (x : RowState). x.node.id ≡ id) (sym s.1) h.is;
      agrees = subst (λ (x : RowState). Agrees (column_mark (home_of w' id.client) x r c) x.last st) (sym s.1)
          (subst (λ (x : Shape). Agrees (column_mark (slice_index x.homes id.client) (w.rows id.client n) r c)
          (w.rows id.client n).last st) (sym shape) h.agrees);
    }

-- the rows of other ids stay
abbrev pub OtherRowsStay : World → World → Id → Type 0
OtherRowsStay w w' id0 =
    (id : Id) (n : ℕ) → id ≢ id0 → n < (w.clients id.client).used → (w.rows id.client n).node.id ≡ id
    → (n < (w'.clients id.client).used) × (w'.rows id.client n ≡ w.rows id.client n)

-- a step that concerns one id
pub fits_one : (w w' : World) (kind kind' : Id → Kind) (id0 : Id) → w'.shape ≡ w.shape
    → ((id : Id) → same_id id id0 ≡ false → kind' id ≡ kind id)
    → ((id : Id) (r c : ℕ) → same_id id id0 ≡ false → status_in (w'.histories r c) id ≡ status_in (w.histories r c) id)
    → OtherRowsStay w w' id0
    → ((id : Id) (r c : ℕ) → Fits w id (kind id) r c (status_in (w.histories r c) id))
    → ((r c : ℕ) → Fits w' id0 (kind' id0) r c (status_in (w'.histories r c) id0))
    → (id : Id) (r c : ℕ) → Fits w' id (kind' id) r c (status_in (w'.histories r c) id)
fits_one w w' kind kind' id0 shape kinds statuses rows old own id r c =
    by_test _ (same_id id id0)
    (λ t. subst (λ (i : Id). Fits w' i (kind' i) r c (status_in (w'.histories r c) i)) (sym (same_id-true id id0 t))
    (own r c))
    (λ f. subst (λ (k : Kind). Fits w' id k r c (status_in (w'.histories r c) id)) (sym (kinds id f))
    (subst (λ (st : Status). Fits w' id (kind id) r c st) (sym (statuses id r c f))
    (keep w w' id (kind id) r c (status_in (w.histories r c) id) shape (λ n b is. rows id n (differ id id0 f) b is)
    (old id r c))))

-- a step that concerns no id
pub fits_all : (w w' : World) (kind : Id → Kind) → w'.shape ≡ w.shape
    → ((id : Id) (r c : ℕ) → status_in (w'.histories r c) id ≡ status_in (w.histories r c) id)
    → ((a n : ℕ) → n < (w.clients a).used → (n < (w'.clients a).used) × (w'.rows a n ≡ w.rows a n))
    → ((id : Id) (r c : ℕ) → Fits w id (kind id) r c (status_in (w.histories r c) id))
    → (id : Id) (r c : ℕ) → Fits w' id (kind id) r c (status_in (w'.histories r c) id)
fits_all w w' kind shape statuses rows old id r c =
    subst (λ (st : Status). Fits w' id (kind id) r c st) (sym (statuses id r c))
    (keep w w' id (kind id) r c (status_in (w.histories r c) id) shape (λ n b is. rows id.client n b) (old id r c))

-- what a row's id has in each column
pub row_agrees : (w : World) (h : Held w) (a n : ℕ) → n < (w.clients a).used → (r c : ℕ)
    → Agrees (column_mark (home_of w a) (w.rows a n) r c) (w.rows a n).last
    (status_in (w.histories r c) (w.rows a n).node.id)
row_agrees w h a n b r c =
    let s = h.rows a n b in
    let id = (w.rows a n).node.id in
    let f : FitsRow w id n r c (status_in (w.histories r c) id) = subst
    (λ (k : Kind). Fits w id k r c (status_in (w.histories r c) id)) s.of_id (h.fits id r c) in
    subst (λ (x : ℕ). Agrees (column_mark (home_of w x) (w.rows x n) r c) (w.rows x n).last
    (status_in (w.histories r c) id)) s.of_client f.agrees

-- and the other way round
pub fits_row : (w : World) (kind : Id → Kind) (id : Id) (a n : ℕ) (r c : ℕ) (st : Status) (row : RowState)
    → id.client ≡ a → kind id ≡ OfRow n → n < (w.clients a).used → w.rows a n ≡ row → row.node.id ≡ id
    → Agrees (column_mark (home_of w a) row r c) row.last st → Fits w id (kind id) r c st
fits_row w kind id a n r c st row ec ek b er is ag =
    subst (λ (k : Kind). Fits w id k r c st) (sym ek) (record {
      begun = subst (λ (x : ℕ). n < (w.clients x).used) (sym ec) b;
      is = subst (λ (x : ℕ). (w.rows x n).node.id ≡ id) (sym ec) (subst (λ (x : RowState). x.node.id ≡ id) (sym er) is);
      agrees = subst (λ (x : ℕ). Agrees (column_mark (home_of w x) (w.rows x n) r c) (w.rows x n).last st) (sym ec)
          (subst (λ (x : RowState). Agrees (column_mark (home_of w a) x r c) x.last st) (sym er) ag);
    })

-- the rows of other ids, where one row is changed
pub others_stay : (w : World) (a n : ℕ) (x : RowState) (id : Id) (m : ℕ) → id ≢ (w.rows a n).node.id
    → (w.rows id.client m).node.id ≡ id → updated_at w.rows a n x id.client m ≡ w.rows id.client m
others_stay w a n x id m ne is =
    updated_at-not w.rows a n x id.client m
    (λ e f. ne (sym is ∙ (ap (λ (k : ℕ). (w.rows k m).node.id) e ∙ ap (λ (k : ℕ). (w.rows a k).node.id) f)))

-- kinds after an id is used
pub kind-other : (kind : Id → Kind) (id0 : Id) (k : Kind) (id : Id) → same_id id id0 ≡ false
    → put_kind kind id0 k id ≡ kind id
kind-other kind id0 k id f = if_false (same_id id id0) k (kind id) f

pub kind-own : (kind : Id → Kind) (id0 : Id) (k : Kind) → put_kind kind id0 k id0 ≡ k
kind-own kind id0 k = if_true (same_id id0 id0) k (kind id0) (same_id-refl id0)

pub next_unborn : (w : World) (h : Held w) (client : ℕ) → h.kind (next_id w client) ≡ Unborn
next_unborn w h client = h.fresh (next_id w client) (omega arith)

pub next_absent : (w : World) (h : Held w) (client : ℕ) (r c : ℕ)
    → status_in (w.histories r c) (next_id w client) ≡ Absent
next_absent w h client r c =
    subst (λ (k : Kind). Fits w (next_id w client) k r c (status_in (w.histories r c) (next_id w client)))
    (next_unborn w h client) (h.fits (next_id w client) r c)

-- a used id is not the next one
pub sound_kind : (kind : Id → Kind) (id0 : Id) (k : Kind) (a n : ℕ) (r : RowState) → kind id0 ≡ Unborn
    → IsSound kind a n r → IsSound (put_kind kind id0 k) a n r
sound_kind kind id0 k a n r unborn s =
    let other : r.node.id ≢ id0 = λ e. distinct n (sym s.of_id ∙ (ap kind e ∙ unborn)) in
    record {
      of_client = s.of_client;
      of_id = kind-other kind id0 k r.node.id (not_same r.node.id id0 other) ∙ s.of_id;
      kept = s.kept;
      in_set = s.in_set;
      numbers = s.numbers;
      floor = s.floor;
    } where
      distinct : (m : ℕ) → OfRow m ≡ Unborn → ⊥
      distinct m e = cc

pub fresh_after : (w : World) (h : Held w) (client : ℕ) (cs : ClientState) (k : Kind)
    → cs.count ≡ (w.clients client).count + 1 → (id : Id) → (updated w.clients client cs id.client).count ≤ id.count
    → put_kind h.kind (next_id w client) k id ≡ Unborn
fresh_after w h client cs k e id =
    at_updated (λ (s : ClientState). s.count ≤ id.count → put_kind h.kind
    (next_id w client) k id ≡ Unborn) w.clients client cs id.client
    (λ is le.
    let more : (w.clients client).count + 1 ≤ id.count = omega (arith, e, le) in
    let ne : id ≢ next_id w client = λ x. let y : id.count ≡ (w.clients client).count = ap
    (λ (i : Id). i.count) x in let z : ⊥ = omega (arith, more, y) in z in
    kind-other h.kind (next_id w client) k id (not_same id (next_id w client) ne) ∙ h.fresh id
    (subst (λ (x : ℕ). (w.clients x).count ≤ id.count) (sym is) (omega (arith, more))))
    (λ other le.
    let ne : id ≢ next_id w client = λ x. apart (id.client == client)
    (eq-eqb id.client client (ap (λ (i : Id). i.client) x)) other in
    kind-other h.kind (next_id w client) k id (not_same id (next_id w client) ne) ∙ h.fresh id le)
