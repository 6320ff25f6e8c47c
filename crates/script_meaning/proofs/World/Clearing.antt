-- Helping: what it adds and leaves, and that a cleared column has no open entry below the key.
use Rattle.std.proofs.Common.{◌≡◌, ℕ, zero, suc, ◌<◌, ◌≤◌, List, [], ◌∷◌, ◌++◌, length, Some, Bool, true, false, refl, subst, ap, sym, ◌∙◌, inl, inr, ◌⊎◌, arith, eq-eqb}
use Rattle.std.specs.Prelude.{◌==◌, ◌&&◌, ◌≢◌, not, nat_lt, slice_get, slice_index}
use Rattle.std.specs.List.{fold}
use Rattle.std.proofs.lemmas.Bool.{ltb-true, eqb-true, and_from}
use Rattle.log_node.specs.declared.ids.Id.{Id}
use Rattle.log_node.specs.declared.ids.Key.{Key}
use Rattle.log_node.specs.declared.ids.Row.{Row}
use Rattle.log_node.specs.declared.node.Node.{Node}
use Rattle.log_node.specs.declared.node.Shape.{Shape}
use Rattle.log_node.specs.Order.{key_below}
use Rattle.log_node.specs.Standings.{Standing}
use Rattle.col_core.specs.declared.Entry.{Entry}
use Rattle.col_core.specs.History.{entries}
use Rattle.col_core.proofs.CallerLemmas.{by_test, both, apart, not_true, In, in_filter, in_filter-back, Waits}
use Rattle.world_laws.specs.declared.steps.Step.{Step}
use Rattle.world_laws.specs.Worlds.{World, ClientState, RowState, home_of, home_history, run_steps, is_begun, row_of}
use Rattle.world_laws.specs.Completing.{complete_steps}
use Rattle.world_laws.specs.Laws.{IsReached}
use Rattle.world_laws.proofs.CallerLemmas.{status_in, Held, is_waiting, same_number, run_grows, run_held}
use Rattle.world_laws.proofs.CallerLemmas.{run_steps-append, run_reached}
use Rattle.col_core.specs.Ids.{IsStepOf}
use Rattle.script_meaning.specs.States.{Grants}
use Rattle.script_meaning.specs.Helping.{Helping, open_below, node_by_id, helped_row, helped_node, helped_first, helped_times, cleared, all_cleared}
use Rattle.script_meaning.proofs.World.Reached.{held_of, told_of, listed_of}
use Rattle.script_meaning.proofs.World.Rows.{node_id, IsDone, IsStill, done_still, still_trans}
use Rattle.script_meaning.proofs.World.Completions.{completed_done, completed_still, complete_steps_on, open_row, open_before}
use Rattle.script_meaning.proofs.World.Counting.{fewer_less, below_rises}
use Rattle.script_meaning.proofs.World.StaysComplete.{of_done_still}
use Rattle.script_meaning.proofs.World.Additions.{Adds, adds_none, adds_trans, adds_map, StepIn, OnRow, on_steps, HelpIn, help_of}

-- the rows that are not done are of clients for which the fact holds
abbrev pub Finished : (ℕ → Type 0) → World → Type 0
Finished S w = (row : Row) → is_begun w row ≡ true → S row.client ⊎ IsDone w row

-- helping of others' rows, by a client in its region
pub record Helped (by own : ℕ) (w w' : World) : Type 0 where
  pub steps : List Step
  pub run : run_steps w steps ≡ w'
  pub shape : w'.shape ≡ w.shape
  pub clients : (n : ℕ) → w'.clients n ≡ w.clients n
  pub nodes : (n : ℕ) → w'.nodes n ≡ w.nodes n
  pub adds : (r c : ℕ) → Adds (HelpIn w' own by r) (w.histories r c) (w'.histories r c)
  pub still : (row : Row) → is_begun w row ≡ true → IsDone w row → IsStill w w' row
  pub opens : (r c : ℕ) (x : Standing) → In x (entries (w'.histories r c)) → x.settled ≡ false
      → In x (entries (w.histories r c))

pub helped_none : (by own : ℕ) (w : World) → Helped by own w w
helped_none by own w = record {
  steps = [];
  run = refl;
  shape = refl;
  clients = λ n. refl;
  nodes = λ n. refl;
  adds = λ r c. adds_none (HelpIn w own by r) (w.histories r c);
  still = λ row b d. record { same = refl; status = λ r c. refl };
  opens = λ r c x i o. i;
}

begun_same : (w w' : World) → ((n : ℕ) → w'.clients n ≡ w.clients n) → (row : Row) → is_begun w' row ≡ is_begun w row
begun_same w w' same row = ap (λ (s : ClientState). nat_lt row.number s.used) (same row.client)

pub helped_trans : (by own : ℕ) (w v u : World) → Helped by own w v → Helped by own v u → Helped by own w u
helped_trans by own w v u a b = record {
  steps = a.steps ++ b.steps;
  run = run_steps-append w a.steps b.steps ∙ (ap (λ (x : World). run_steps x b.steps) a.run ∙ b.run);
  shape = b.shape ∙ a.shape;
  clients = λ n. b.clients n ∙ a.clients n;
  nodes = λ n. b.nodes n ∙ a.nodes n;
  adds = λ r c. adds_trans (HelpIn u own by r) (w.histories r c) (v.histories r c) (u.histories r c)
      (adds_map (HelpIn v own by r) (HelpIn u own by r) (w.histories r c) (v.histories r c) (λ e i. record {
        at_home = i.at_home;
        made = i.made;
        help = i.help;
        complete =
            let k = i.complete in
            of_done_still v u e.event k (begun_same v u b.clients k.row ∙ k.begun) (b.still k.row k.begun k.done);
      }) (a.adds r c)) (b.adds r c);
  still = λ row begun d.
      let s = a.still row begun d in
      still_trans w v u row s
      (b.still row (begun_same w v a.clients row ∙ begun) (done_still w v row s d));
  opens = λ r c x i o. a.opens r c x (b.opens r c x i o) o;
}

pub helped_reached : (by own : ℕ) (w w' : World) → Helped by own w w' → IsReached w → IsReached w'
helped_reached by own w w' h r = subst IsReached h.run (run_reached w h.steps r)

pub helped_finished : (S : ℕ → Type 0) (by own : ℕ) (w w' : World) → Helped by own w w' → Finished S w → Finished S w'
helped_finished S by own w w' h f row b = turn (f row begun) where
  begun : is_begun w row ≡ true
  begun = sym (begun_same w w' h.clients row) ∙ b

  turn : S row.client ⊎ IsDone w row → S row.client ⊎ IsDone w' row
  turn (inl s) = inl s
  turn (inr d) = inr (done_still w w' row (h.still row begun d) d)

-- The help of one row

same_row : (a b : Row) → ((a.client == b.client) && (a.number == b.number)) ≡ true → a ≡ b
same_row a b e =
    let p = both (a.client == b.client) (a.number == b.number) e in
    ap (λ (x : ℕ). record { client = x; number = a.number }) (eqb-true _ _ p.0)
    ∙ ap (λ (x : ℕ). record { client = b.client; number = x }) (eqb-true _ _ p.1)

row_apart : (a b : Row) → ((a.client == b.client) && (a.number == b.number)) ≡ false → a ≡ b → ⊥
row_apart a b f e =
    apart ((a.client == b.client) && (a.number == b.number))
    (and_from (a.client == b.client) _ (eq-eqb _ _ (ap (λ (x : Row). x.client) e))
    (eq-eqb _ _ (ap (λ (x : Row). x.number) e))) f

pub waits_not_done : (w : World) (row : Row) (r c s : ℕ) → status_in (w.histories r c) (node_id w row) ≡ Waits s
    → IsDone w row → ⊥
waits_not_done w row r c s e d = apart _ (ap is_waiting e) (d.waits r c)

-- what the help of a row gives: the row is done, and nothing else is
pub record HelpedRow (by own : ℕ) (w w' : World) (row : Row) : Type 0 where
  pub helped : Helped by own w w'
  pub done : IsDone w' row
  pub others : (r c : ℕ) (x : Standing) → In x (entries (w'.histories r c)) → x.settled ≡ false
      → x.key.id ≢ node_id w row

pub help_row : (w : World) → Held w → (by own : ℕ) (row : Row) (grants : ℕ → Bool) → is_begun w row ≡ true
    → row.client ≢ by → home_of w row.client ≡ own → (IsDone w row → ⊥)
    → HelpedRow by own w (run_steps w (complete_steps w by row grants)) row
help_row w h by own row grants b ne at undone = record {
  helped = record {
    steps = complete_steps w by row grants;
    run = refl;
    shape = on.shape;
    clients = on.clients;
    nodes = on.nodes;
    adds = λ r c. adds_map (StepIn own by (node_id w row) row (complete_steps w by row grants) r c) (HelpIn w' own by r)
        (w.histories r c) (w'.histories r c) (λ e i. record {
          at_home = i.at_home;
          made = i.made;
          help = help_of by (node_id w row) e.event other i.of;
          complete = record {
            row = row;
            begun = begun_same w w' on.clients row ∙ b;
            of = subst (λ (x : Id). IsStepOf x e.event) (sym (same_node row (ltb-true _ _ b))) i.of;
            done = done;
          };
        }) (on.adds r c);
    still = λ row' b' d. completed_still w h by row row' grants b' (λ e. undone (subst (IsDone w) e d));
    opens = λ r c x i o. (kept r c x i o).0;
  };
  done = done;
  others = λ r c x i o. (kept r c x i o).1;
} where
  w' : World
  w' = run_steps w (complete_steps w by row grants)

  on : OnRow own by (node_id w row) row (complete_steps w by row grants) w
      (run_steps w (complete_steps w by row grants))
  on = on_steps w own by (node_id w row) row (complete_steps w by row grants) b refl at
      (complete_steps_on w by row grants)

  same_node : (x : Row) → x.number < (w.clients x.client).used → node_id w' x ≡ node_id w x
  same_node x lt =
      ap (λ (n : Node). n.id) ((run_grows w (complete_steps w by row grants)).rows x.client x.number lt).node

  other : (node_id w row).client ≡ by → ⊥
  other e = ne (sym (h.rows row.client row.number (ltb-true _ _ b)).of_client ∙ e)

  done : IsDone (run_steps w (complete_steps w by row grants)) row
  done = completed_done w h by row grants b (begun_same w (run_steps w (complete_steps w by row grants)) on.clients row
      ∙ b)

  kept : (r c : ℕ) (x : Standing) → In x (entries ((run_steps w (complete_steps w by row grants)).histories r c))
      → x.settled ≡ false → In x (entries (w.histories r c)) × (x.key.id ≢ node_id w row)
  kept r c x i o =
      let w2 = run_steps w (complete_steps w by row grants) in
      let h2 = run_held w h (complete_steps w by row grants) in
      let k = open_row w2 h2 r c x i o in
      let b2 : is_begun w k.row ≡ true = sym (begun_same w w2 on.clients k.row) ∙ k.begun in
      by_test _ ((k.row.client == row.client) && (k.row.number == row.number))
      (λ t. absurd (waits_not_done w2 row r c x.key.stamp
      (subst (λ (y : Row). status_in (w2.histories r c) (node_id w2 y) ≡ Waits x.key.stamp)
      (same_row k.row row t) k.waits) done))
      (λ f. let s = completed_still w h by row k.row grants b2 (row_apart k.row row f) in
      let is : node_id w k.row ≡ x.key.id = sym (ap (λ (y : RowState). y.node.id) s.same) ∙ k.is in (
        open_before w w2 h h2 r c x i k.row is s,
        λ e. let p = same_number w h k.row.client k.row.number row.client row.number (ltb-true _ _ b2) (ltb-true _ _ b)
            (is ∙ e) in row_apart k.row row f (row_of_parts k.row row p.0 p.1),
      )) where
        row_of_parts : (a b : Row) → a.client ≡ b.client → a.number ≡ b.number → a ≡ b
        row_of_parts a b e f = ap (λ (x : ℕ). record { client = x; number = a.number }) e
            ∙ ap (λ (x : ℕ). record { client = b.client; number = x }) f

-- The least open entry is helped

-- what a help of one of the open entries below a key leaves: one entry less
pub record HelpedOne (by own colour : ℕ) (key : Key) (e : Standing) (w w' : World) : Type 0 where
  pub helped : Helped by own w w'
  pub less : (x : Standing) → In x (open_below key (w'.histories own colour))
      → In x (open_below key (w.histories own colour)) × (x ≢ e)

pub open_of : (key : Key) (h : List Entry) (x : Standing) → In x (open_below key h)
    → In x (entries h) × (x.settled ≡ false) × (key_below x.key key ≡ true)
open_of key h x i =
    let p = in_filter (λ (e : Standing). not e.settled && key_below e.key key) x (entries h) i in
    let q = both (not x.settled) _ p.1 in
    (p.0, not_true x.settled q.0, q.1)

pub of_open : (key : Key) (h : List Entry) (x : Standing) → In x (entries h) → x.settled ≡ false → key_below x.key key
    ≡ true
    → In x (open_below key h)
of_open key h x i o b =
    in_filter-back (λ (e : Standing). not e.settled && key_below e.key key) x (entries h) i
    (and_from (not x.settled) _ (ap not o) b)

pub help_one : (S : ℕ → Type 0) (grants : Grants) (by own colour : ℕ) (key : Key) (h : Helping) → IsReached h.world
    → Finished S h.world → (S by → ⊥) → home_of h.world by ≡ own → (e : Standing)
    → In e (open_below key (h.world.histories own colour))
    → HelpedOne by own colour key e h.world (helped_node grants by h (node_by_id h.world e.key.id)).world
help_one S grants by own colour key h reached fin free at e i =
    let w = h.world in
    let held = held_of w reached in
    let o = open_of key (w.histories own colour) e i in
    let k = open_row w held own colour e o.0 o.1 in
    let undone = waits_not_done w k.row own colour e.key.stamp k.waits in
    let lt = ltb-true k.row.number (w.clients k.row.client).used k.begun in
    let listed : node_by_id w e.key.id ≡ Some (row_of w k.row).node =
    ap (λ (n : ℕ). slice_get (w.nodes n) e.key.id.count) (sym k.client)
    ∙ (ap (λ (x : Id). slice_get (w.nodes k.row.client) x.count) (sym k.is)
    ∙ (listed_of w reached).rows k.row.client k.row.number lt) in
    let is : helped_node grants by h (node_by_id w e.key.id) ≡ helped_row grants by h (Some k.row) =
    ap (helped_node grants by h) listed
    ∙ ap (helped_row grants by h) ((told_of w reached).rows k.row.client k.row.number lt).row in
    let ne : k.row.client ≢ by = λ same. stopped (fin k.row k.begun) (λ s. free (subst S same s)) undone in
    let r = help_row w held by own k.row (grants.helps h.helps) k.begun ne (sym k.home) undone in
    subst (λ (x : Helping). HelpedOne by own colour key e w x.world) (sym is) (record {
      helped = r.helped;
      less = λ x j.
          let p = open_of key ((helped_row grants by h (Some k.row)).world.histories own colour) x j in (
            of_open key (w.histories own colour) x (r.helped.opens own colour x p.0 p.1) p.1 p.2,
            λ same. r.others own colour x p.0 p.1 (ap (λ (y : Standing). y.key.id) same ∙ sym k.is),
          );
    }) where
      stopped : {P Q : Type 0} → P ⊎ Q → (P → ⊥) → (Q → ⊥) → ⊥
      stopped (inl p) f g = f p
      stopped (inr q) f g = g q

-- Clearing

-- the column has no open entry below the key
abbrev pub IsClear : Key → World → ℕ → ℕ → Type 0
IsClear key w own colour = open_below key (w.histories own colour) ≡ []

pub record Clears (by own colour : ℕ) (key : Key) (w w' : World) : Type 0 where
  pub helped : Helped by own w w'
  pub clear : IsClear key w' own colour

empty_is : (xs : List Standing) → length xs ≤ 0 → xs ≡ []
empty_is [] le = refl
empty_is (x ∷ xs) le = absurd (let f : ⊥ = omega (arith, le) in f)

home_kept : (w w' : World) (by : ℕ) → w'.shape ≡ w.shape → home_of w' by ≡ home_of w by
home_kept w w' by e = ap (λ (s : Shape). slice_index s.homes by) e

clear_times : (S : ℕ → Type 0) (n : ℕ) (grants : Grants) (by own colour : ℕ) (key : Key) (h : Helping)
    → IsReached h.world
    → Finished S h.world → (S by → ⊥) → home_of h.world by ≡ own
    → length (open_below key (h.world.histories own colour)) ≤ n
    → Clears by own colour key h.world (helped_times n grants by colour key h).world
clear_times S zero grants by own colour key h reached fin free at le =
    record { helped = helped_none by own h.world; clear = empty_is _ le }
clear_times S (suc n) grants by own colour key h reached fin free at le =
    of_list (open_below key (h.world.histories own colour)) refl (λ h' reached' fin' at' le'.
    clear_times S n grants by own colour key h' reached' fin' free at' le') le where
      rest : (h' : Helping) → (IsReached h'.world → Finished S h'.world → home_of h'.world by ≡ own
          → length (open_below key (h'.world.histories own colour)) ≤ n
          → Clears by own colour key h'.world (helped_times n grants by colour key h').world)
          → Helped by own h.world h'.world
          → length (open_below key (h'.world.histories own colour)) ≤ n
          → Clears by own colour key h.world (helped_times n grants by colour key h').world
      rest h' again g le' =
          let c = again (helped_reached by own h.world h'.world g reached)
          (helped_finished S by own h.world h'.world g fin) (home_kept h.world h'.world by g.shape ∙ at) le' in
          record {
            helped = helped_trans by own h.world h'.world (helped_times n grants by colour key h').world g c.helped;
            clear = c.clear;
          }

      of_list : (es : List Standing) → open_below key (h.world.histories own colour) ≡ es
          → ((h' : Helping) → IsReached h'.world → Finished S h'.world → home_of h'.world by ≡ own
          → length (open_below key (h'.world.histories own colour)) ≤ n
          → Clears by own colour key h'.world (helped_times n grants by colour key h').world)
          → length (open_below key (h.world.histories own colour)) ≤ suc n
          → Clears by own colour key h.world (helped_times (suc n) grants by colour key h).world
      of_list [] e again le' =
          subst (λ (x : Helping). Clears by own colour key h.world (helped_times n grants by colour key x).world)
          (sym (ap (λ (k : ℕ). helped_first grants by h (open_below key (h.world.histories k colour))) at
          ∙ ap (helped_first grants by h) e))
          (rest h (again h) (helped_none by own h.world)
          (let z : length (open_below key (h.world.histories own colour)) ≡ 0 = ap length e in omega (arith, z)))
      of_list (x ∷ es) e again le' =
          let i : In x (open_below key (h.world.histories own colour)) =
          subst (λ (l : List Standing). In x l) (sym e) (inl refl) in
          let o = help_one S grants by own colour key h reached fin free at x i in
          let h' = helped_node grants by h (node_by_id h.world x.key.id) in
          let reached' = helped_reached by own h.world h'.world o.helped reached in
          let lt = fewer_less (open_below key (h'.world.histories own colour))
          (open_below key (h.world.histories own colour)) x
          (below_rises h'.world (held_of h'.world reached') own colour key) i o.less in
          subst (λ (y : Helping). Clears by own colour key h.world (helped_times n grants by colour key y).world)
          (sym (ap (λ (k : ℕ). helped_first grants by h (open_below key (h.world.histories k colour))) at
          ∙ ap (helped_first grants by h) e))
          (rest h' (again h') o.helped (omega (arith, lt, le')))

pub clear_one : (S : ℕ → Type 0) (grants : Grants) (by own colour : ℕ) (key : Key) (h : Helping) → IsReached h.world
    → Finished S h.world → (S by → ⊥) → home_of h.world by ≡ own
    → Clears by own colour key h.world (cleared grants by key h colour).world
clear_one S grants by own colour key h reached fin free at =
    clear_times S (length
    (open_below key (home_history h.world by colour))) grants by own colour key h reached fin free at
    (subst (λ (k : ℕ). length (open_below key (h.world.histories own colour))
    ≤ length (open_below key (h.world.histories k colour))) (sym at) (omega arith))

-- a clear column stays clear
stays_clear : (by own colour : ℕ) (key : Key) (w w' : World) → Helped by own w w' → IsClear key w own colour
    → IsClear key w' own colour
stays_clear by own colour key w w' g e = of_list (open_below key (w'.histories own colour)) refl where
  of_list : (es : List Standing) → open_below key (w'.histories own colour) ≡ es → es ≡ []
  of_list [] f = refl
  of_list (x ∷ es) f =
      let p = open_of key (w'.histories own colour) x (subst (λ (l : List Standing). In x l) (sym f) (inl refl)) in
      absurd (subst (λ (l : List Standing). In x l) e
      (of_open key (w.histories own colour) x (g.opens own colour x p.0 p.1) p.1 p.2))

pub record ClearsAll (by own : ℕ) (colours : List ℕ) (key : Key) (w w' : World) : Type 0 where
  pub helped : Helped by own w w'
  pub clear : (c : ℕ) → In c colours → IsClear key w' own c

clear_list : (S : ℕ → Type 0) (grants : Grants) (by own : ℕ) (key : Key) (colours : List ℕ) (h : Helping)
    → IsReached h.world → Finished S h.world → (S by → ⊥) → home_of h.world by ≡ own
    → ClearsAll by own colours key h.world (fold (cleared grants by key) h colours).world
clear_list S grants by own key [] h reached fin free at =
    record { helped = helped_none by own h.world; clear = λ c i. absurd i }
clear_list S grants by own key (c ∷ colours) h reached fin free at =
    let one = clear_one S grants by own c key h reached fin free at in
    let h' = cleared grants by key h c in
    let rest = clear_list S grants by own key colours h' (helped_reached by own h.world h'.world one.helped reached)
    (helped_finished S by own h.world h'.world one.helped fin) free
    (home_kept h.world h'.world by one.helped.shape ∙ at) in
    record {
      helped = helped_trans by own h.world h'.world
          (fold (cleared grants by key) h' colours).world one.helped rest.helped;
      clear = λ d i. turn d i (stays_clear by own c key h'.world (fold (cleared grants by key) h' colours).world
          rest.helped one.clear) (rest.clear d);
    } where
      turn : (d : ℕ) → (c ≡ d) ⊎ In d colours
          → IsClear key (fold (cleared grants by key) (cleared grants by key h c) colours).world own c
          → (In d colours → IsClear key (fold (cleared grants by key) (cleared grants by key h c) colours).world own d)
          → IsClear key (fold (cleared grants by key) (cleared grants by key h c) colours).world own d
      turn d (inl e) first rest =
          subst (λ (k : ℕ). IsClear key (fold (cleared grants by key)
          (cleared grants by key h c) colours).world own k) e first
      turn d (inr i) first rest = rest i

pub clear_all : (S : ℕ → Type 0) (grants : Grants) (by own : ℕ) (key : Key) (colours : List ℕ) (w : World) → IsReached w
    → Finished S w → (S by → ⊥) → home_of w by ≡ own
    → ClearsAll by own colours key w (all_cleared grants by key colours w)
clear_all S grants by own key colours w reached fin free at =
    clear_list S grants by own key colours (record { world = w; helps = 0 }) reached fin free at
