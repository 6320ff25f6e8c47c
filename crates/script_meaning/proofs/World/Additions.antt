-- What steps add to histories, and where a client's own events then stand.
use Rattle.std.proofs.Common.{◌≡◌, ℕ, suc, ◌+◌, List, [], ◌∷◌, ◌++◌, length, Some, Bool, true, false, cond, refl, subst, ap, sym, ◌∙◌, inl, inr, ◌⊎◌, arith, append-nil, append_assoc}
use Rattle.std.specs.Prelude.{◌==◌, ◌&&◌, slice_get, slice_index}
use Rattle.std.specs.List.{All}
use Rattle.std.proofs.lemmas.Bool.{ltb-true, ne_eqb, eqb-true}
use Rattle.std.proofs.lemmas.List.Elements.{All-cons, All-nil}
use Rattle.log_node.specs.declared.ids.Id.{Id}
use Rattle.log_node.specs.declared.ids.Row.{Row}
use Rattle.log_node.specs.declared.node.Node.{Node}
use Rattle.log_node.specs.declared.node.Shape.{Shape}
use Rattle.log_node.specs.declared.marks.Mark.TheVariants as marks
use Rattle.col_core.specs.declared.Event.{Event}
use Rattle.col_core.specs.declared.Event.TheVariants as events
use Rattle.col_core.specs.declared.Entry.{Entry}
use Rattle.col_core.specs.Log.{is_own, places_from, places_of}
use Rattle.col_core.proofs.CallerLemmas.{choice, both, apart, In}
use Rattle.world_laws.specs.declared.steps.Step.{Step}
use Rattle.world_laws.specs.declared.steps.Step.TheVariants as steps
use Rattle.world_laws.specs.Worlds.{World, home_of, after, run_steps, is_begun, may_propose, may_fence, may_decide, may_settle, with_last, with_mark, after_propose, proposed_entry, after_decide, after_settle, settled_entry}
use Rattle.world_laws.proofs.CallerLemmas.{in_append, at_last, after_grows}
use Rattle.col_core.specs.Ids.{IsStepOf}
use Rattle.lawful_run.specs.Lawful.{IsHelp}
use Rattle.script_meaning.proofs.World.StaysComplete.{OfDone}
use Rattle.script_meaning.proofs.World.Rows.{node_id, still_begun}
use Rattle.script_meaning.proofs.World.Completions.{IsOn}

-- what comes to a history
pub record Adds (P : Entry → Type 0) (old new : List Entry) : Type 0 where
  pub more : List Entry
  pub is : new ≡ old ++ more
  pub each : (e : Entry) → In e more → P e

pub adds_none : (P : Entry → Type 0) (h : List Entry) → Adds P h h
adds_none P h = record { more = []; is = sym (append-nil h); each = λ e i. absurd i }

pub adds_trans : (P : Entry → Type 0) (h g f : List Entry) → Adds P h g → Adds P g f → Adds P h f
adds_trans P h g f a b = record {
  more = a.more ++ b.more;
  is = b.is ∙ (ap (λ (l : List Entry). l ++ b.more) a.is ∙ append_assoc h a.more b.more);
  each = λ e i. turn e (in_append e a.more b.more i);
} where
  turn : (e : Entry) → In e a.more ⊎ In e b.more → P e
  turn e (inl i) = a.each e i
  turn e (inr i) = b.each e i

pub adds_map : (P Q : Entry → Type 0) (h g : List Entry) → ((e : Entry) → P e → Q e) → Adds P h g → Adds Q h g
adds_map P Q h g f a = record { more = a.more; is = a.is; each = λ e i. f e (a.each e i) }

-- one event in one column
pub adds_last : (P : ℕ → ℕ → Entry → Type 0) (w : World) (region colour : ℕ) (e : Entry) → P region colour e → (r c : ℕ)
    → Adds (P r c) (w.histories r c) ((with_last w region colour e).histories r c)
adds_last P w region colour e p r c =
    at_last (λ (h : List Entry). Adds (P r c) (w.histories r c) h) w region colour e r c here
    (λ _. adds_none (P r c) (w.histories r c)) where
      here : r ≡ region → c ≡ colour → Adds (P r c) (w.histories r c) (w.histories region colour ++ e ∷ [])
      here er ec = record {
        more = e ∷ [];
        is = ap (λ (k : ℕ). w.histories k colour ++ e ∷ []) (sym er) ∙ ap (λ (k : ℕ). w.histories r k ++ e ∷ [])
            (sym ec);
        each = λ f i. turn er ec f i;
      } where
        turn : r ≡ region → c ≡ colour → (f : Entry) → (e ≡ f) ⊎ ⊥ → P r c f
        turn er ec f (inl is) =
            subst (P r c) is (subst (λ (k : ℕ). P k c e) (sym er) (subst (λ (k : ℕ). P region k e) (sym ec) p))
        turn er ec f (inr none) = absurd none

-- The steps on a row

-- the event comes from one of the steps, that on this colour
abbrev pub From : ℕ → Row → List Step → ℕ → Event → Type 0
From by row list c (events.Single id floor wants) = ⊥
From by row list c (events.Propose id floor wants) = In (steps.Propose by row c) list
From by row list c (events.Settle id outcome) = In (steps.Settle by row c) list
From by row list c (events.Raise to) = ⊥
From by row list c (events.Give region from) = ⊥
From by row list c (events.Carry region start heads) = ⊥
From by row list c (events.Trim counts) = ⊥

-- the event is a step of the id, made by the client
pub record StepIn (home by : ℕ) (id : Id) (row : Row) (list : List Step) (r c : ℕ) (e : Entry) : Type 0 where
  pub at_home : r ≡ home
  pub made : e.by ≡ by
  pub of : IsStepOf id e.event
  pub from : From by row list c e.event

-- no client changes, and the columns of one region have steps of the row's id more
pub record OnRow (home by : ℕ) (id : Id) (row : Row) (list : List Step) (w w' : World) : Type 0 where
  pub shape : w'.shape ≡ w.shape
  pub clients : (n : ℕ) → w'.clients n ≡ w.clients n
  pub nodes : (n : ℕ) → w'.nodes n ≡ w.nodes n
  pub adds : (r c : ℕ) → Adds (StepIn home by id row list r c) (w.histories r c) (w'.histories r c)

on_row_still : (home by : ℕ) (id : Id) (row : Row) (list : List Step) (w : World) → OnRow home by id row list w w
on_row_still home by id row list w = record {
  shape = refl;
  clients = λ n. refl;
  nodes = λ n. refl;
  adds = λ r c. adds_none (StepIn home by id row list r c) (w.histories r c);
}

on_propose : (w : World) (home by : ℕ) (id : Id) (row : Row) (c : ℕ) → node_id w row ≡ id → home_of w row.client ≡ home
    → OnRow home by id row (steps.Propose by row c ∷ []) w (after w (steps.Propose by row c))
on_propose w home by id row c is at =
    let list = steps.Propose by row c ∷ [] in
    choice (λ (x : World). OnRow home by id row list w x) (may_propose w row c) (after_propose w by row c) w
    (λ _. record {
      shape = refl;
      clients = λ n. refl;
      nodes = λ n. refl;
      adds = adds_last (StepIn home by id row list) w (home_of w row.client) c (proposed_entry w by row c)
          (record { at_home = at; made = refl; of = is; from = inl refl });
    })
    (λ _. on_row_still home by id row list w)

on_settle : (w : World) (home by : ℕ) (id : Id) (row : Row) (c : ℕ) → node_id w row ≡ id → home_of w row.client ≡ home
    → OnRow home by id row (steps.Settle by row c ∷ []) w (after w (steps.Settle by row c))
on_settle w home by id row c is at =
    let list = steps.Settle by row c ∷ [] in
    choice (λ (x : World). OnRow home by id row list w x) (may_settle w row c) (after_settle w by row c) w
    (λ _. record {
      shape = refl;
      clients = λ n. refl;
      nodes = λ n. refl;
      adds = adds_last (StepIn home by id row list) w (home_of w row.client) c (settled_entry w by row)
          (record { at_home = at; made = refl; of = is; from = inl refl });
    })
    (λ _. on_row_still home by id row list w)

on_step : (w : World) (home by : ℕ) (id : Id) (row : Row) (s : Step) → node_id w row ≡ id → home_of w row.client ≡ home
    → IsOn by row s → OnRow home by id row (s ∷ []) w (after w s)
on_step w home by id row (steps.Begin client colours text) is at o = absurd o
on_step w home by id row (steps.Propose b x c) is at o =
    subst (λ (k : ℕ). OnRow home by id row (steps.Propose k x c ∷ []) w (after w (steps.Propose k x c))) (sym o.0)
    (subst (λ (k : Row). OnRow home by id row (steps.Propose by k c ∷ []) w (after w (steps.Propose by k c))) (sym o.1)
    (on_propose w home by id row c is at))
on_step w home by id row (steps.Fence x c why) is at o =
    let list = steps.Fence x c why ∷ [] in
    choice (λ (y : World). OnRow home by id row list w y) (may_fence w x c why) (with_mark w x c (marks.Fenced why)) w
    (λ _. record {
      shape = refl;
      clients = λ n. refl;
      nodes = λ n. refl;
      adds = λ r d. adds_none (StepIn home by id row list r d) (w.histories r d);
    }) (λ _. on_row_still home by id row list w)
on_step w home by id row (steps.Decide x) is at o =
    let list = steps.Decide x ∷ [] in
    choice (λ (y : World). OnRow home by id row list w y) (may_decide w x) (after_decide w x) w
    (λ _. record {
      shape = refl;
      clients = λ n. refl;
      nodes = λ n. refl;
      adds = λ r d. adds_none (StepIn home by id row list r d) (w.histories r d);
    }) (λ _. on_row_still home by id row list w)
on_step w home by id row (steps.Settle b x c) is at o =
    subst (λ (k : ℕ). OnRow home by id row (steps.Settle k x c ∷ []) w (after w (steps.Settle k x c))) (sym o.0)
    (subst (λ (k : Row). OnRow home by id row (steps.Settle by k c ∷ []) w (after w (steps.Settle by k c))) (sym o.1)
    (on_settle w home by id row c is at))
on_step w home by id row (steps.Single client c text) is at o = absurd o
on_step w home by id row (steps.Raise b region c to) is at o = absurd o
on_step w home by id row (steps.Give b origin region c from) is at o = absurd o
on_step w home by id row (steps.Carry b origin region c start count) is at o = absurd o
on_step w home by id row (steps.Trim b region c counts) is at o = absurd o
on_step w home by id row (steps.Play client c) is at o = absurd o
on_step w home by id row (steps.Seen client to) is at o = absurd o

-- of more steps there are as many events
from_more : (by : ℕ) (row : Row) (list longer : List Step) → ((s : Step) → In s list → In s longer) → (c : ℕ)
    (ev : Event)
    → From by row list c ev → From by row longer c ev
from_more by row list longer more c (events.Single id floor wants) f = f
from_more by row list longer more c (events.Propose id floor wants) f = more (steps.Propose by row c) f
from_more by row list longer more c (events.Settle id outcome) f = more (steps.Settle by row c) f
from_more by row list longer more c (events.Raise to) f = f
from_more by row list longer more c (events.Give region from) f = f
from_more by row list longer more c (events.Carry region start heads) f = f
from_more by row list longer more c (events.Trim counts) f = f

on_more : (home by : ℕ) (id : Id) (row : Row) (list longer : List Step) → ((s : Step) → In s list → In s longer)
    → (r c : ℕ) (e : Entry) → StepIn home by id row list r c e → StepIn home by id row longer r c e
on_more home by id row list longer more r c e i = record {
  at_home = i.at_home;
  made = i.made;
  of = i.of;
  from = from_more by row list longer more c e.event i.from;
}

on_trans : (home by : ℕ) (id : Id) (row : Row) (s : Step) (list : List Step) (w v u : World)
    → OnRow home by id row (s ∷ []) w v → OnRow home by id row list v u → OnRow home by id row (s ∷ list) w u
on_trans home by id row s list w v u a b = record {
  shape = b.shape ∙ a.shape;
  clients = λ n. b.clients n ∙ a.clients n;
  nodes = λ n. b.nodes n ∙ a.nodes n;
  adds = λ r c. adds_trans (StepIn home by id row (s ∷ list) r c) (w.histories r c) (v.histories r c) (u.histories r c)
      (adds_map (StepIn home by id row (s ∷ []) r c) (StepIn home by id row (s ∷ list) r c) (w.histories r c)
      (v.histories r c) (on_more home by id row (s ∷ []) (s ∷ list) (λ x i. first x i) r c) (a.adds r c))
      (adds_map (StepIn home by id row list r c) (StepIn home by id row (s ∷ list) r c) (v.histories r c)
      (u.histories r c) (on_more home by id row list (s ∷ list) (λ x i. inr i) r c) (b.adds r c));
} where
  first : (x : Step) → (s ≡ x) ⊎ ⊥ → (s ≡ x) ⊎ In x list
  first x (inl e) = inl e
  first x (inr none) = absurd none

pub on_steps : (w : World) (home by : ℕ) (id : Id) (row : Row) (list : List Step) → is_begun w row ≡ true
    → node_id w row ≡ id → home_of w row.client ≡ home → ((s : Step) → In s list → IsOn by row s)
    → OnRow home by id row list w (run_steps w list)
on_steps w home by id row [] b is at on = on_row_still home by id row [] w
on_steps w home by id row (s ∷ list) b is at on =
    let g = after_grows w s in
    on_trans home by id row s list w (after w s) (run_steps (after w s) list)
    (on_step w home by id row s is at (on s (inl refl)))
    (on_steps (after w s) home by id row list (still_begun w s row b)
    (ap (λ (n : Node). n.id) (g.rows row.client row.number (ltb-true _ _ b)).node ∙ is)
    (ap (λ (x : Shape). slice_index x.homes row.client) g.shape ∙ at) (λ t i. on t (inr i)))

-- Places

places_append : (k client : ℕ) (xs ys : List Entry)
    → places_from k client (xs ++ ys) ≡ places_from k client xs ++ places_from (k + length xs) client ys
places_append k client [] ys = let e : k ≡ k + 0 = omega arith in ap (λ (n : ℕ). places_from n client ys) e
places_append k client (x ∷ xs) ys =
    let e : k + 1 + length xs ≡ k + length (x ∷ xs) = omega arith in
    let r : places_from (k + 1) client (xs ++ ys)
    ≡ places_from (k + 1) client xs ++ places_from (k + length (x ∷ xs)) client ys =
    places_append (k + 1) client xs ys
    ∙ ap (λ (n : ℕ). places_from (k + 1) client xs ++ places_from n client ys) e in
    by_bool ((x.by == client) && is_own client x.event) (places_from (k + 1) client (xs ++ ys))
    (places_from (k + 1) client xs) (places_from (k + length (x ∷ xs)) client ys) r where
      by_bool : (b : Bool) (all left right : List ℕ) → all ≡ left ++ right
          → cond b (k ∷ all) all ≡ cond b (k ∷ left) left ++ right
      by_bool true all left right e = ap (λ (l : List ℕ). k ∷ l) e
      by_bool false all left right e = e

-- the places of what came to a history
pub places_more : (client : ℕ) (h more : List Entry)
    → places_of client (h ++ more) ≡ places_of client h ++ places_from (length h) client more
places_more client h more =
    let e : 0 + length h ≡ length h = omega arith in
    places_append 0 client h more ∙ ap (λ (n : ℕ). places_of client h ++ places_from n client more) e

-- what is not the client's own has no places
pub no_places : (k client : ℕ) (more : List Entry)
    → ((e : Entry) → In e more → e.by ≡ client → is_own client e.event ≡ false) → places_from k client more ≡ []
no_places k client [] h = refl
no_places k client (e ∷ more) h =
    let rest = no_places (k + 1) client more (λ f i. h f (inr i)) in
    choice (λ (l : List ℕ). l ≡ []) ((e.by == client) && is_own client e.event) (k ∷ places_from (k + 1) client more)
    (places_from (k + 1) client more)
    (λ t. let p = both (e.by == client) _ t in
    absurd (apart _ p.1 (h e (inl refl) (eqb-true e.by client p.0)))) (λ _. rest)

pub others_places : (client : ℕ) (h g : List Entry) → Adds (λ (e : Entry). e.by ≡ client → ⊥) h g
    → places_of client g ≡ places_of client h
others_places client h g a =
    ap (places_of client) a.is
    ∙ (places_more client h a.more
    ∙ (ap (λ (l : List ℕ). places_of client h ++ l)
    (no_places (length h) client a.more (λ e i same. absurd (a.each e i same))) ∙ append-nil (places_of client h)))

-- what each own event has, each of the places has
pub all_from : (Q : ℕ → Type 0) (k client : ℕ) (more : List Entry)
    → ((i : ℕ) (e : Entry) → slice_get more i ≡ Some e → e.by ≡ client → is_own client e.event ≡ true → Q (k + i))
    → All Q (places_from k client more)
all_from Q k client [] h = All-nil Q
all_from Q k client (e ∷ more) h =
    let rest = all_from Q (k + 1) client more (λ i f at same own.
    let s : k + suc i ≡ k + 1 + i = omega arith in subst Q s (h (suc i) f at same own)) in
    choice (All Q) ((e.by == client) && is_own client e.event) (k ∷ places_from (k + 1) client more)
    (places_from (k + 1) client more)
    (λ t. let p = both (e.by == client) _ t in
    let s : k + 0 ≡ k = omega arith in
    All-cons Q k (places_from (k + 1) client more)
    (subst Q s (h 0 e refl (eqb-true e.by client p.0) p.1)) rest) (λ _. rest)

-- Helps

-- the event of another client's append, made by the client in its region, which is complete in the world afterwards
pub record HelpIn (w : World) (own by r : ℕ) (e : Entry) : Type 0 where
  pub at_home : r ≡ own
  pub made : e.by ≡ by
  pub help : IsHelp by e.event
  pub complete : OfDone w e.event

pub help_of : (by : ℕ) (id : Id) (ev : Event) → (id.client ≡ by → ⊥) → IsStepOf id ev → IsHelp by ev
help_of by id (events.Single other floor wants) ne s = s
help_of by id (events.Propose other floor wants) ne s = λ e. ne (ap (λ (i : Id). i.client) (sym s) ∙ e)
help_of by id (events.Settle other outcome) ne s = λ e. ne (ap (λ (i : Id). i.client) (sym s) ∙ e)
help_of by id (events.Raise to) ne s = s
help_of by id (events.Give region from) ne s = s
help_of by id (events.Carry region start heads) ne s = s
help_of by id (events.Trim counts) ne s = s

-- a help is no step of the client's own
pub help_not_own : (by : ℕ) (ev : Event) → IsHelp by ev → is_own by ev ≡ false
help_not_own by (events.Single other floor wants) h = absurd h
help_not_own by (events.Propose other floor wants) h = ne_eqb other.client by h
help_not_own by (events.Settle other outcome) h = ne_eqb other.client by h
help_not_own by (events.Raise to) h = absurd h
help_not_own by (events.Give region from) h = absurd h
help_not_own by (events.Carry region start heads) h = absurd h
help_not_own by (events.Trim counts) h = absurd h
