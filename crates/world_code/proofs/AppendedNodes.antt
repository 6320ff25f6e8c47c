-- The nodes that columns have are those that clients appended: what steps leave of it.
use Rattle.std.proofs.Common.{◌≡◌, ℕ, zero, suc, ◌<◌, Bool, List, [], ◌∷◌, ◌++◌, length, get_or, set, Some, None, refl}
use Rattle.std.proofs.Common.{ap, sym, subst, ◌∙◌, inl, inr}
use Rattle.std.proofs.Common.{get_or-set_same, get_or-set_other, Option}
use Rattle.std.specs.Prelude.{not, slice_get, map, ◌-◌}
use Rattle.std.specs.List.{AllByRecursion, find}
use Rattle.std.proofs.lemmas.Bool.{cond_both, cases_eq}
use Rattle.std.proofs.lemmas.Option.{same_Some, none-some}
use Rattle.log_node.specs.declared.ids.Id.{Id}
use Rattle.log_node.specs.declared.ids.Row.{Row}
use Rattle.log_node.specs.declared.node.Node.{Node}
use Rattle.log_node.specs.Order.{same_id, key_below}
use Rattle.log_node.specs.declared.marks.Outcome.{Outcome}
use Rattle.log_node.specs.declared.marks.Outcome.TheVariants.{Open, Gone, Final}
use Rattle.skeen_core.specs.declared.waiting.Waiting.{Waiting}
use Rattle.log_node.specs.Standings.{is_open_id}
use Rattle.skeen_core.specs.Queues.{standing_of, entry_under, final_entry, with_stored, stored_without, with_found}
use Rattle.skeen_core.specs.Queues.{settled_stored}
use Rattle.skeen_core.proofs.CallerLemmas.{each-weaker, each-append, each-filter, each-drop}
use Rattle.col_core.proofs.CallerLemmas.{slice_longer}
use Rattle.column.specs.Entering.{EnteredNode}
use Rattle.column.specs.Columns.{ColumnState, copy_of}
use Rattle.log_node.specs.Seen.{PlacedNode}
use Rattle.log_node.specs.declared.ids.Counts.{Counts}
use Rattle.log_node.specs.Vectors.{at, all_regions}
use Rattle.column.specs.Columns as columns
use Rattle.world_laws.specs.Worlds.{row_of}
use Rattle.world_laws.proofs.CallerLemmas.{Listed, listed}
use Rattle.world_code.specs.Clients.{ClientView, fresh_client}
use Rattle.world_code.specs.WorldView.{WorldView, world_of, IsAppended, HasAppended, IsWhole}

pub is_listed : (code : WorldView) → IsWhole code → Listed (world_of code)
is_listed code w = subst Listed w.reached.is (listed w.reached.shape w.reached.steps)

-- an item whose node was appended
abbrev pub IsSent : List ClientView → PlacedNode → Type 0
IsSent clients i = IsAppended clients i.head.key.id i.node

abbrev IsStored : List ClientView → Waiting EnteredNode → Type 0
IsStored clients s = IsAppended clients s.key.id s.thing.node

-- Clients

-- what one client's list has more
pub still_appended : (cs : List ClientView) (client : ℕ) (c : ClientView) (more : List Node) → client < length cs
    → c.nodes ≡ (get_or cs client fresh_client).nodes ++ more → (id : Id) (node : Node) → IsAppended cs id node
    → IsAppended (set cs client c) id node
still_appended cs client c more lt is id node e = elim (cases_eq id.client client) [
  | inl same ↦
      ap (λ (k : ℕ). slice_get (get_or (set cs client c) k fresh_client).nodes id.count) same
      ∙ (ap (λ (x : ClientView). slice_get x.nodes id.count) (get_or-set_same cs client c fresh_client lt)
      ∙ (ap (λ (ns : List Node). slice_get ns id.count) is
      ∙ slice_longer (get_or cs client fresh_client).nodes more id.count node
      (ap (λ (k : ℕ). slice_get (get_or cs k fresh_client).nodes id.count) (sym same) ∙ e)))
  | inr other ↦
      ap (λ (x : ClientView). slice_get x.nodes id.count)
      (get_or-set_other cs client id.client c fresh_client other) ∙ e
]

pub appended_longer : (cs ds : List ClientView) (column : ColumnState)
    → ((id : Id) (node : Node) → IsAppended cs id node → IsAppended ds id node) → HasAppended cs column
    → HasAppended ds column
appended_longer cs ds column more h = record {
  stored = each-weaker (IsStored cs) (IsStored ds) (λ s a. more s.key.id s.thing.node a) column.queue.stored h.stored;
  copies = λ r. each-weaker (IsSent cs) (IsSent ds) (λ i a. more i.head.key.id i.node a) (copy_of column r)
      (h.copies r);
}

-- Columns

pub appended_entered : (cs : List ClientView) (column new : ColumnState) (stamp : ℕ) (id : Id) (settled : Bool)
    (thing : EnteredNode)
    → new.queue.stored ≡ column.queue.stored ++ entry_under stamp id settled thing ∷ [] → new.copies ≡ column.copies
    → HasAppended cs column → IsAppended cs id thing.node → HasAppended cs new
appended_entered cs column new stamp id settled thing is same h a = record {
  stored = subst (AllByRecursion (IsStored cs)) (sym is)
      (each-append (IsStored cs) column.queue.stored (entry_under stamp id settled thing ∷ []) h.stored (a, tt));
  copies = λ r. subst (λ (l : List (List PlacedNode)). AllByRecursion (IsSent cs) (get_or l r [])) (sym same)
      (h.copies r);
}

all_with : (cs : List ClientView) (s : Waiting EnteredNode) (ss : List (Waiting EnteredNode)) → IsStored cs s
    → AllByRecursion (IsStored cs) ss → AllByRecursion (IsStored cs) (with_stored s ss)
all_with cs s [] here h = (here, tt)
all_with cs s (v ∷ vs) here h =
    cond_both (key_below s.key v.key) (s ∷ v ∷ vs) (v ∷ with_stored s vs) (λ us. AllByRecursion (IsStored cs) us)
    (λ _. (here, h)) (λ _. (h.0, all_with cs s vs here h.1))

found_in : (cs : List ClientView) (test : Waiting EnteredNode → Bool) (ss : List (Waiting EnteredNode))
    (s : Waiting EnteredNode) → AllByRecursion (IsStored cs) ss → find test ss ≡ Some s → IsStored cs s
found_in cs test [] s h is = absurd (none-some s is)
found_in cs test (v ∷ vs) s h is =
    cond_both (test v) (Some v) (find test vs) (λ o. o ≡ Some s → IsStored cs s)
    (λ _ e. subst (IsStored cs) (same_Some v s e) h.0) (λ _ e. found_in cs test vs s h.1 e) is

all_found : (cs : List ClientView) (f : ℕ) (o : Option (Waiting EnteredNode)) (ss : List (Waiting EnteredNode))
    → ((s : Waiting EnteredNode) → o ≡ Some s → IsStored cs s) → AllByRecursion (IsStored cs) ss
    → AllByRecursion (IsStored cs) (with_found f o ss)
all_found cs f None ss found h = h
all_found cs f (Some s) ss found h = all_with cs (final_entry f s) ss (found s refl) h

all_settled : (cs : List ClientView) (id : Id) (outcome : Outcome) (ss : List (Waiting EnteredNode))
    → AllByRecursion (IsStored cs) ss → AllByRecursion (IsStored cs) (settled_stored id outcome ss)
all_settled cs id Open ss h = h
all_settled cs id (Gone why) ss h = each-filter (IsStored cs) (λ s. not (same_id s.key.id id)) ss h
all_settled cs id (Final f) ss h =
    all_found cs f (find (λ (s : Waiting EnteredNode). is_open_id id (standing_of s)) ss) (stored_without id ss)
    (λ s is. found_in cs (λ (v : Waiting EnteredNode). is_open_id id (standing_of v)) ss s h is)
    (each-filter (IsStored cs) (λ s. not (same_id s.key.id id)) ss h)

pub appended_settled : (cs : List ClientView) (column : ColumnState) (by : ℕ) (id : Id) (outcome : Outcome)
    → HasAppended cs column → HasAppended cs (columns.after_settle column by id outcome)
appended_settled cs column by id outcome h =
    record { stored = all_settled cs id outcome column.queue.stored h.stored; copies = h.copies }

-- a fact of one list and of all others, where that one is put among them
put_among : {A : Type 0} (P : List A → Type 0) (xs : List (List A)) (n : ℕ) (x : List A) → P x
    → ((k : ℕ) → P (get_or xs k [])) → (k : ℕ) → P (get_or (set xs n x) k [])
put_among P [] n x here h k = h k
put_among P (y ∷ ys) zero x here h zero = here
put_among P (y ∷ ys) zero x here h (suc k) = h (suc k)
put_among P (y ∷ ys) (suc n) x here h zero = h zero
put_among P (y ∷ ys) (suc n) x here h (suc k) = put_among P ys n x here (λ j. h (suc j)) k

-- new nodes were carried
pub appended_carried : (cs : List ClientView) (column : ColumnState) (by region : ℕ) (items : List PlacedNode)
    → HasAppended cs column → AllByRecursion (IsSent cs) items
    → HasAppended cs (columns.with_items column by region items)
appended_carried cs column by region [] h new = h
appended_carried cs column by region (item ∷ items) h new = record {
  stored = h.stored;
  copies = put_among (AllByRecursion (IsSent cs)) column.copies region (copy_of column region ++ item ∷ items)
      (each-append (IsSent cs) (copy_of column region) (item ∷ items) (h.copies region) new) h.copies;
}

-- a fact of each of four lists
of_four : {A : Type 0} (P : List A → Type 0) (f : ℕ → List A) → ((r : ℕ) → P (f r)) → P [] → (k : ℕ)
    → P (get_or (map f all_regions) k [])
of_four P f all none zero = all 0
of_four P f all none (suc zero) = all 1
of_four P f all none (suc (suc zero)) = all 2
of_four P f all none (suc (suc (suc zero))) = all 3
of_four P f all none (suc (suc (suc (suc k)))) = none

-- nodes were dropped
pub appended_trimmed : (cs : List ClientView) (column : ColumnState) (by : ℕ) (counts : Counts)
    → HasAppended cs column → HasAppended cs (columns.after_trim column by counts)
appended_trimmed cs column by counts h = record {
  stored = each-drop (IsStored cs) (at base column.region - column.queue.base) column.queue.stored h.stored;
  copies = of_four (AllByRecursion (IsSent cs)) (columns.kept_copy column base)
      (λ r. each-drop (IsSent cs) (at base r - at (columns.base_of column) r) (copy_of column r) (h.copies r)) tt;
} where
  base : Counts
  base = columns.base_after column by counts

-- nothing was carried yet
pub none_carried : (cs : List ClientView) (k : ℕ)
    → AllByRecursion (IsSent cs) (get_or ([] ∷ [] ∷ [] ∷ [] ∷ []) k [])
none_carried cs = of_four (AllByRecursion (IsSent cs)) (λ _. []) (λ r. tt) tt

-- a row's node is listed
pub row_appended : (code : WorldView) (w : IsWhole code) (row : Row)
    → row.number < ((world_of code).clients row.client).used
    → (row_of (world_of code) row).node.id.client ≡ row.client
    → IsAppended code.clients (row_of (world_of code) row).node.id (row_of (world_of code) row).node
row_appended code w row lt client =
    ap (λ (k : ℕ). slice_get ((world_of code).nodes k) (row_of (world_of code) row).node.id.count) client
    ∙ (is_listed code w).rows row.client row.number lt
