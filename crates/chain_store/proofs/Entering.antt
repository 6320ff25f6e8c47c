-- A column with one entry more.
use Rattle.std.proofs.Common.{◌≡◌, ℕ, zero, suc, get_or, ◌+◌, ◌-◌, ◌^◌, ◌<◌, ◌≤◌, Bool, true, false, List, [], ◌∷◌, ◌++◌, length, map, take, drop, Some, refl, ap, sym, subst, ◌∙◌, arith, inl, inr, ◌⊎◌, length-append}
use Rattle.std.specs.Prelude.{slice_get, slice_set, slice_index, slice_index_or, ◌||◌}
use Rattle.std.specs.List.{Contains}
use Rattle.std.specs.Option.{option_map}
use Rattle.std.proofs.lemmas.Bool.{cases_eq, cases_lt}
use Rattle.std.proofs.lemmas.Option.{slice_get-map}
use Rattle.log_node.specs.declared.limits.TheConstants.{MAX_CLIENTS}
use Rattle.log_node.specs.declared.ids.Id.{Id}
use Rattle.log_node.specs.declared.ids.Key.{Key}
use Rattle.log_node.specs.declared.node.Node.{Node}
use Rattle.log_node.specs.Seen.{PlacedNode}
use Rattle.log_node.specs.Order.{same_id}
use Rattle.skeen_core.specs.declared.waiting.Waiting.{Waiting}
use Rattle.col_core.specs.declared.Entry.{Entry}
use Rattle.col_core.specs.declared.Event.{Event}
use Rattle.col_core.specs.declared.Event.TheVariants.{Single, Propose, Settle, Raise, Give, Carry, Trim}
use Rattle.col_core.specs.Cuts.{Dated}
use Rattle.col_core.specs.Computed.{cut, dated}
use Rattle.col_core.specs.Legal.{IsLawfulEvent, IsColumnHistory}
use Rattle.col_core.proofs.CallerLemmas.{dated-append}
use Rattle.log_node.specs.declared.ids.Counts.{Counts}
use Rattle.log_node.specs.Marks.{IsStamp}
use Rattle.col_core.specs.History.{enters, has_entered, last_stamp}
use Rattle.col_core.proofs.CallerLemmas.{by_test, same_id-true}
use Rattle.column.specs.Entering.{EnteredNode}
use Rattle.column.specs.Columns.{ColumnState, stamp_for, with_room, after_single, after_propose, entered_node}
use Rattle.skeen_core.specs.Queues.{entry_under}
use Rattle.std.proofs.lemmas.List.{get_or_past, get_or-set_same, get_or-set_other}
use Rattle.chain_store.specs.declared.told.Told.{Told}
use Rattle.chain_store.specs.Entered.{AreBelow}
use Rattle.chain_store.specs.Histories.{Names, EntersAs, Brings, FitsColumn, HasIds, IsOfMaker}
use Rattle.chain_store.specs.Columns.{IsOfHistory, newest_in, newest_nodes, told_by, last_of, single_told, told_propose}
pub use Rattle.log_node.proofs.CallerLemmas.{get_longer as get_old}
pub use Rattle.log_node.proofs.CallerLemmas.{get_last}

-- places of a list with one element more at its end

pub get_cases : {A : Type 0} (xs : List A) (x : A) (n : ℕ) (y : A) → slice_get (xs ++ x ∷ []) n ≡ Some y
    → (slice_get xs n ≡ Some y) ⊎ (x ≡ y)
get_cases [] x zero y e = inr (let f : x ≡ y = cc in f)
get_cases [] x (suc n) y e = absurd (let f : ⊥ = cc in f)
get_cases (z ∷ xs) x zero y e = inl e
get_cases (z ∷ xs) x (suc n) y e = get_cases xs x n y e

pub drop_all : {A : Type 0} (xs : List A) (x : A) → drop (length xs) (xs ++ x ∷ []) ≡ x ∷ []
drop_all [] x = refl
drop_all (y ∷ xs) x = drop_all xs x

pub last_is : {A : Type 0} (xs : List A) (x : A) → last_of 1 (xs ++ x ∷ []) ≡ x ∷ []
last_is {A} xs x =
    let long : length (xs ++ x ∷ []) ≡ length xs + 1 = length-append xs (x ∷ []) in
    let less : length (xs ++ x ∷ []) - 1 ≡ length xs = omega (arith, long) in
    ap (λ (n : ℕ). drop n (xs ++ x ∷ [])) less ∙ drop_all xs x

pub map_with : {A B : Type 0} (f : A → B) (xs : List A) (x : A) → map f (xs ++ x ∷ []) ≡ map f xs ++ f x ∷ []
map_with f [] x = refl
map_with f (y ∷ xs) x = ap (λ l. f y ∷ l) (map_with f xs x)

-- an id with a count that is not below its client's number has not entered
pub fresh : (journal : List Entry) (numbers : List ℕ) (id : Id) → AreBelow journal numbers
    → slice_index numbers id.client ≤ id.count → has_entered id journal ≡ false
fresh [] numbers id below le = refl
fresh (e ∷ es) numbers id below le =
    by_test (has_entered id (e ∷ es) ≡ false) (enters id e.event)
    (λ t. absurd (let lt = below 0 e id refl t in let f : ⊥ = omega (arith, lt, le) in f))
    (λ no. ap (λ (b : Bool). b || has_entered id es) no
    ∙ fresh es numbers id (λ n d i at t. below (suc n) d i at t) le)

-- one more has entered, whose count is below the client's new number
pub below_more : (journal : List Entry) (numbers : List ℕ) (e : Entry) (id : Id) (client count : ℕ)
    → AreBelow journal numbers → client < length numbers → slice_index numbers client ≤ count
    → ((other : Id) → enters other e.event ≡ true → other ≡ id) → id.client ≡ client → id.count ≡ count
    → AreBelow (journal ++ e ∷ []) (slice_set numbers client (count + 1))
below_more journal numbers e id client count below within le only of_client of_count n d i at t =
    elim (get_cases journal e n d at) [
      | inl old ↦
          elim (cases_eq client i.client) [
            | inl same ↦
                let lt = below n d i old t in
                let new : get_or (slice_set numbers client (count + 1)) i.client 0 ≡ count + 1 =
                subst (λ (k : ℕ). get_or (slice_set numbers client (count + 1)) k 0 ≡ count + 1) same
                (get_or-set_same numbers client (count + 1) 0 within) in
                let was : get_or numbers i.client 0 ≤ count = subst (λ (k : ℕ). get_or numbers k 0 ≤ count) same le in
                omega (arith, lt, new, was)
            | inr other ↦
                let lt = below n d i old t in
                let new = get_or-set_other numbers client i.client (count + 1) 0 (λ e. other (sym e)) in
                omega (arith, lt, new)
          ]
      | inr is ↦
          let it : i ≡ id = only i (subst (λ (x : Entry). enters i x.event ≡ true) (sym is) t) in
          let c : i.client ≡ client = ap (λ (x : Id). x.client) it ∙ of_client in
          let k : i.count ≡ count = ap (λ (x : Id). x.count) it ∙ of_count in
          let new : get_or (slice_set numbers client (count + 1)) i.client 0 ≡ count + 1 =
          subst (λ (j : ℕ). get_or (slice_set numbers client (count + 1)) j 0 ≡ count + 1) (sym c)
          (get_or-set_same numbers client (count + 1) 0 within) in
          omega (arith, k, new)
    ]

-- a longer history names what it did
pub names_more : (log more : List Told) (id : Id) (node : Node) → Names log id node → Names (log ++ more) id node
names_more log more id node h = record {
  place = h.place;
  told = h.told;
  there = get_old log more h.place h.told h.there;
  brought = h.brought;
  of_id = h.of_id;
}

pub enters_more : (log more : List Told) (id : Id) (node : Node) → EntersAs log id node → EntersAs (log ++ more) id node
enters_more log more id node h = record {
  place = h.place;
  told = h.told;
  there = get_old log more h.place h.told h.there;
  brought = h.brought;
  entered = h.entered;
  of_id = h.of_id;
}

-- and what entered by the entry at its end
pub enters_last : (log : List Told) (t : Told) (node : Node) → t.nodes ≡ node ∷ [] → enters node.id t.entry.event ≡ true
    → EntersAs (log ++ t ∷ []) node.id node
enters_last log t node is entered = record {
  place = length log;
  told = t;
  there = get_last log t;
  brought = is;
  entered = entered;
  of_id = refl;
}

-- a node that entered is one that the history has
pub entered_named : (log : List Told) (id : Id) (node : Node) → EntersAs log id node → Names log id node
entered_named log id node h = record {
  place = h.place;
  told = h.told;
  there = h.there;
  brought = subst (λ (l : List Node). Contains l node) (sym h.brought) (0, omega arith, refl);
  of_id = h.of_id;
}

-- and is of the region whose column has the history
brought_region : (region colour : ℕ) (e : Event) (nodes : List Node) (id : Id) (x : Node) → Brings region colour e nodes
    → nodes ≡ x ∷ [] → enters id e ≡ true → x.region ≡ region
brought_region region colour (Single i floor wants) nodes id x b is entered =
    let e : b.0 ∷ [] ≡ x ∷ [] = sym b.1 ∙ is in
    let same : b.0 ≡ x = cc (e) in
    ap (λ (n : Node). n.region) (sym same) ∙ b.4.in_region
brought_region region colour (Propose i floor wants) nodes id x b is entered =
    let e : b.0 ∷ [] ≡ x ∷ [] = sym b.1 ∙ is in
    let same : b.0 ≡ x = cc (e) in
    ap (λ (n : Node). n.region) (sym same) ∙ b.4.in_region
brought_region region colour (Settle i outcome) nodes id x b is entered = absurd (let f : ⊥ = cc (entered) in f)
brought_region region colour (Raise to) nodes id x b is entered = absurd (let f : ⊥ = cc (entered) in f)
brought_region region colour (Give other from) nodes id x b is entered = absurd (let f : ⊥ = cc (entered) in f)
brought_region region colour (Carry other start heads) nodes id x b is entered = absurd (let f : ⊥ = cc (entered) in f)
brought_region region colour (Trim counts) nodes id x b is entered = absurd (let f : ⊥ = cc (entered) in f)

pub entered_region : (region colour : ℕ) (log : List Told)
    → ((n : ℕ) (t : Told) → slice_get log n ≡ Some t → Brings region colour t.entry.event t.nodes)
    → (id : Id) (x : Node) → EntersAs log id x → x.region ≡ region
entered_region region colour log brings id x h =
    brought_region region colour h.told.entry.event h.told.nodes id x (brings h.place h.told h.there) h.brought h.entered

-- the count of an id that enters is that of the node which the event brings in
fits_count : (region colour : ℕ) (x : Node) (i id : Id) → i ≡ x.id → FitsColumn region colour x → same_id id i ≡ true
    → id.count < 2 ^ 63
fits_count region colour x i id is fits entered =
    let same = ap (λ (j : Id). j.count) (same_id-true id i entered ∙ is) in
    let counted = fits.counted in
    omega (arith, same, counted)

brought_count : (region colour : ℕ) (e : Event) (nodes : List Node) (id : Id) → Brings region colour e nodes
    → enters id e ≡ true → id.count < 2 ^ 63
brought_count region colour (Single i floor wants) nodes id b entered =
    fits_count region colour b.0 i id (let e = b.3 in cc (e)) b.4 entered
brought_count region colour (Propose i floor wants) nodes id b entered =
    fits_count region colour b.0 i id (let e = b.3 in cc (e)) b.4 entered
brought_count region colour (Settle i outcome) nodes id b entered = absurd (let f : ⊥ = cc (entered) in f)
brought_count region colour (Raise to) nodes id b entered = absurd (let f : ⊥ = cc (entered) in f)
brought_count region colour (Give other from) nodes id b entered = absurd (let f : ⊥ = cc (entered) in f)
brought_count region colour (Carry other start heads) nodes id b entered = absurd (let f : ⊥ = cc (entered) in f)
brought_count region colour (Trim counts) nodes id b entered = absurd (let f : ⊥ = cc (entered) in f)

-- The ids that entered a column are such as there may be: it has a number for each client that there may be, and no other.
pub column_ids : (column : ColumnState) (clients : ℕ) (log : List Told) (numbers : List ℕ)
    → IsOfHistory column clients log → AreBelow column.journal numbers → length numbers ≡ MAX_CLIENTS → HasIds log
column_ids column clients log numbers is below long n t id at entered = (
  elim (cases_lt id.client (length numbers)) [
    | inl lt ↦ omega (arith, lt, long)
    | inr past ↦
        let there : slice_get column.journal n ≡ Some t.entry =
        ap (λ l. slice_get l n) is.same ∙ slice_get-map (λ (u : Told). u.entry) log n
        ∙ ap (option_map (λ (u : Told). u.entry)) at in
        let less = below n t.entry id there entered in
        let none = get_or_past numbers id.client 0 past in
        absurd (omega (arith, less, none))
  ],
  brought_count column.region column.colour t.entry.event t.nodes id (is.brings n t at) entered,
)

-- the column has entered the node by this entry
pub record HasEntered (column new : ColumnState) (e : Entry) (node : Node) : Type 0 where
  pub journal : new.journal ≡ column.journal ++ e ∷ []
  pub region : new.region ≡ column.region
  pub colour : new.colour ≡ column.colour
  pub copies : new.copies ≡ column.copies
  pub w : Waiting EnteredNode
  pub id : w.key.id ≡ node.id
  pub thing : w.thing.node ≡ node
  pub stored : new.queue.stored ≡ column.queue.stored ++ w ∷ []
  pub newest : newest_nodes new e.event ≡ map (λ (v : Waiting EnteredNode). v.thing.node) (last_of 1 new.queue.stored)

pub single_entered : (column new : ColumnState) (by : ℕ) (node : Node) → new ≡ after_single (with_room column) by node
    → HasEntered column new (single_told column by node).entry node
single_entered column new by node is = record {
  journal = ap (λ (c : ColumnState). c.journal) is;
  region = ap (λ (c : ColumnState). c.region) is;
  colour = ap (λ (c : ColumnState). c.colour) is;
  copies = ap (λ (c : ColumnState). c.copies) is;
  w = entry_under (stamp_for column node) node.id true (entered_node column node);
  id = refl;
  thing = refl;
  stored = ap (λ (c : ColumnState). c.queue.stored) is;
  newest = refl;
}

pub propose_entered : (column new : ColumnState) (by : ℕ) (node : Node) → new ≡ after_propose (with_room column) by node
    → HasEntered column new (told_propose column.colour by node (stamp_for column node)).entry node
propose_entered column new by node is = record {
  journal = ap (λ (c : ColumnState). c.journal) is;
  region = ap (λ (c : ColumnState). c.region) is;
  colour = ap (λ (c : ColumnState). c.colour) is;
  copies = ap (λ (c : ColumnState). c.copies) is;
  w = entry_under (stamp_for column node) node.id false (entered_node column node);
  id = refl;
  thing = refl;
  stored = ap (λ (c : ColumnState). c.queue.stored) is;
  newest = refl;
}

module _ (column new : ColumnState) (t : Told) (node : Node) (brought : t.nodes ≡ node ∷ [])
    (h : HasEntered column new t.entry node) where
  pub entered_newest : newest_in new ≡ Some t
  entered_newest =
      let long : length new.journal ≡ length column.journal + 1 =
      ap length h.journal ∙ length-append column.journal (t.entry ∷ []) in
      let less : length new.journal - 1 ≡ length column.journal = omega (arith, long) in
      let last : slice_get new.journal (length new.journal - 1) ≡ Some t.entry =
      ap (slice_get new.journal) less
      ∙ (ap (λ l. slice_get l (length column.journal)) h.journal ∙ get_last column.journal t.entry) in
      let nodes : newest_nodes new t.entry.event ≡ t.nodes =
      h.newest
      ∙ (ap (λ l. map (λ (v : Waiting EnteredNode). v.thing.node) (last_of 1 l)) h.stored
      ∙ (ap (map (λ (v : Waiting EnteredNode). v.thing.node)) (last_is column.queue.stored h.w)
      ∙ (ap (λ (x : Node). x ∷ []) h.thing ∙ sym brought))) in
      ap (option_map (told_by new)) last
      ∙ ap (λ (ns : List Node). Some (told_of t.entry ns)) nodes where
        told_of : Entry → List Node → Told
        told_of e ns = record { entry = e; nodes = ns }

  pub entered_gains : (clients : ℕ) (log : List Told) → t.entry.by < clients → IsOfMaker t.entry.by t.entry.event
      → Brings column.region column.colour t.entry.event t.nodes → enters node.id t.entry.event ≡ true
      → IsOfHistory column clients log → IsOfHistory new clients (log ++ t ∷ [])
  entered_gains clients log few mine brings enters_it g = record {
    same = h.journal ∙ (ap (λ l. l ++ t.entry ∷ []) g.same ∙ sym (map_with (λ (u : Told). u.entry) log t));
    brings = λ n u at. elim (get_cases log t n u at) [
      | inl old ↦ brought_there u.entry.event u.nodes (g.brings n u old)
      | inr same ↦
          subst (λ (v : Told). Brings new.region new.colour v.entry.event v.nodes) same
          (brought_there t.entry.event t.nodes brings)
    ];
    makers = λ n u at. elim (get_cases log t n u at) [
      | inl old ↦ g.makers n u old
      | inr same ↦ subst (λ (v : Told). (v.entry.by < clients) × IsOfMaker v.entry.by v.entry.event) same (few, mine)
    ];
    stored = λ key x has.
        elim (get_cases column.queue.stored h.w has.0 has.1
        (ap (λ l. slice_get l has.0) (sym h.stored) ∙ has.2)) [
          | inl old ↦ enters_more log (t ∷ []) key.id x (g.stored key x (has.0, has.1, old, has.3, has.4))
          | inr same ↦
              let k : node.id ≡ key.id =
              sym h.id ∙ ap (λ (v : Waiting EnteredNode). v.key.id) same ∙ ap (λ (q : Key). q.id) has.3 in
              let y : node ≡ x = sym h.thing ∙ ap (λ (v : Waiting EnteredNode). v.thing.node) same ∙ has.4 in
              subst (λ (z : Node). EntersAs (log ++ t ∷ []) key.id z) y
              (subst (λ (i : Id). EntersAs (log ++ t ∷ []) i node) k (enters_last log t node brought enters_it))
        ];
    carried = λ region item has.
        names_more log (t ∷ []) item.head.key.id item.node
        (g.carried region item (
          has.0,
          ap (λ (cs : List (List PlacedNode)). slice_get (slice_index_or cs region []) has.0) (sym h.copies) ∙ has.1,
        ));
    stamped = λ region item has.
        g.stamped region item (
          has.0,
          ap (λ (cs : List (List PlacedNode)). slice_get (slice_index_or cs region []) has.0) (sym h.copies) ∙ has.1,
        );
    regions = λ region item has.
        g.regions region item (
          has.0,
          ap (λ (cs : List (List PlacedNode)). slice_get (slice_index_or cs region []) has.0) (sym h.copies) ∙ has.1,
        );
  } where
    brought_there : (e : Event) (nodes : List Node) → Brings column.region column.colour e nodes
        → Brings new.region new.colour e nodes
    brought_there e nodes b =
        subst (λ (c : ℕ). Brings new.region c e nodes) (sym h.colour)
        (subst (λ (r : ℕ). Brings r column.colour e nodes) (sym h.region) b)

  pub entered_below : (numbers : List ℕ) (client count : ℕ) → AreBelow column.journal numbers → client < length numbers
      → slice_index numbers client ≤ count → ((other : Id) → enters other t.entry.event ≡ true → other ≡ node.id)
      → node.id.client ≡ client → node.id.count ≡ count → AreBelow new.journal (slice_set numbers client (count + 1))
  entered_below numbers client count below within le only mine counted =
      subst (λ (l : List Entry). AreBelow l (slice_set numbers client (count + 1))) (sym h.journal)
      (below_more column.journal numbers t.entry node.id client count below within le only mine counted)

-- the stamp of an entry that proposes is in range
pub stamp_in_range : (own regions : ℕ) (history : List Entry) (e : Entry)
    → IsColumnHistory own regions (dated own (history ++ e ∷ [])) → (id : Id) (floor : ℕ) (wants : Counts)
    → e.event ≡ Propose id floor wants → IsStamp e.stamp
stamp_in_range own regions history e lawful id floor wants is =
    let ds = dated own history in
    let d : Dated = record { entry = e; cut_before = cut own ds } in
    let l = lawful (length ds) d (ap (λ l. slice_get l (length ds)) (dated-append own history e) ∙ get_last ds d) in
    let m = subst (λ (x : Event). IsLawfulEvent own regions
    (take (length ds) (dated own (history ++ e ∷ []))) x e.stamp) is l in
    let s = m.stamped in
    let r = m.in_range in
    (omega (arith, s), omega (arith, r))

-- the stamp of an entry that enters a node is at most the last one
pub stamp_small : (own regions : ℕ) (history : List Entry) (e : Entry)
    → IsColumnHistory own regions (dated own (history ++ e ∷ [])) → (id : Id) (floor : ℕ) (wants : Counts)
    → (e.event ≡ Single id floor wants) ⊎ (e.event ≡ Propose id floor wants) → e.stamp ≤ last_stamp
stamp_small own regions history e lawful id floor wants is =
    let ds = dated own history in
    let d : Dated = record { entry = e; cut_before = cut own ds } in
    let l = lawful (length ds) d (ap (λ l. slice_get l (length ds)) (dated-append own history e) ∙ get_last ds d) in
    elim is [
      | inl single ↦
          (subst (λ (x : Event). IsLawfulEvent own regions (take (length ds) (dated own (history ++ e ∷ []))) x e.stamp)
          single l).in_range
      | inr propose ↦
          (subst (λ (x : Event). IsLawfulEvent own regions (take (length ds) (dated own (history ++ e ∷ []))) x e.stamp)
          propose l).in_range
    ]
