-- A column in which an append's id was settled.
use Rattle.std.proofs.Common.{◌≡◌, ◌≢◌, ℕ, zero, suc, get_or, ◌+◌, ◌-◌, ◌<◌, ◌≤◌, Bool, true, false, List, [], ◌∷◌, ◌++◌, length, Option, Some, None, refl, ap, sym, subst, ◌∙◌, arith, inl, inr, ◌⊎◌, append-nil, length-append}
use Rattle.std.specs.Prelude.{◌||◌, ◌&&◌, slice_get, slice_index_or, if◌then◌else◌, not}
use Rattle.std.specs.List.{Contains, find, list_any}
use Rattle.std.specs.Option.{option_map}
use Rattle.std.proofs.lemmas.Bool.{or_left, or_right, and_from}
use Rattle.log_node.specs.declared.ids.Id.{Id}
use Rattle.log_node.specs.declared.ids.Key.{Key}
use Rattle.log_node.specs.declared.ids.Row.{Row}
use Rattle.log_node.specs.declared.ids.Counts.{Counts}
use Rattle.log_node.specs.declared.ids.Colours.{Colours}
use Rattle.log_node.specs.declared.node.Node.{Node}
use Rattle.log_node.specs.declared.limits.TheConstants.{MAX_COLOURS, MAX_STAMP}
use Rattle.log_node.specs.Seen.{BegunAppend}
use Rattle.log_node.specs.Order.{same_id, key_below}
use Rattle.log_node.specs.Sets.{has}
use Rattle.log_node.specs.Standings.{Standing, open_entry, is_open_id}
use Rattle.log_node.specs.declared.marks.Mark.{Mark}
use Rattle.log_node.specs.declared.marks.Mark.TheVariants as marks
use Rattle.log_node.specs.declared.marks.Outcome.{Outcome}
use Rattle.log_node.specs.declared.marks.Outcome.TheVariants.{Open, Gone, Final}
use Rattle.skeen_core.specs.declared.waiting.Waiting.{Waiting}
use Rattle.skeen_core.specs.Queues.{MaySettle, has_open, is_decided, final_entry, with_found, with_stored, settled_stored, stored_without, standing_of}
use Rattle.col_core.specs.declared.Event.{Event}
use Rattle.col_core.specs.declared.Event.TheVariants as events
use Rattle.col_core.specs.declared.Entry.{Entry}
use Rattle.col_core.specs.History.{enters, has_entered, entries, event_number, last_stamp}
use Rattle.col_core.specs.Computed.{dated}
use Rattle.col_core.specs.Legal.{IsColumnHistory}
use Rattle.col_core.proofs.CallerLemmas.{by_test, if_true, if_false, apart, In, in_filter, same_id-refl}
use Rattle.column.specs.Entering.{EnteredNode}
use Rattle.column.specs.Columns.{ColumnState, after_settle}
use Rattle.stamp_board.specs.declared.view.Size.{Size}
use Rattle.stamp_board.specs.declared.view.View.{View}
use Rattle.stamp_board.specs.declared.seats.ColumnSeat.{ColumnSeat}
use Rattle.stamp_board.specs.Rows.{mark_in}
use Rattle.stamp_board.specs.Views.{KnowsOutcome, MayBe, Possibly}
use Rattle.stamp_board.specs.Seats.{column_seen, set_mark, IsLaterColumn, SetsNone}
use Rattle.stamp_board.proofs.CallerLemmas.{Learns-from, outcome_learnt}
use Rattle.chain_store.specs.declared.seated.Seated.{Seated}
use Rattle.chain_store.specs.Rows.{KnowsRow}
use Rattle.chain_store.specs.declared.told.Told.{Told}
use Rattle.chain_store.specs.Entered.{AreBelow}
use Rattle.chain_store.specs.Histories.{entries_in, EntersAs, Brings, IsOfMaker}
use Rattle.col_core.specs.Ids.{Proposes, Singles, Settles, IsFinal, HasCome, IsOver, alone, settled}
use Rattle.chain_store.specs.Marks.{is_first_of, is_row, proposes, stamps_of, numbers, Backs, IsBacked, IsRowOf}
use Rattle.chain_store.specs.Columns.{IsOfHistory, Stands, newest_in, told_by, told_settle}
use Rattle.chain_store.proofs.Entering.{get_last, get_cases, map_with, names_more, enters_more}
use Rattle.chain_store.proofs.Backing.{same_row-is}
use Rattle.chain_store.proofs.Begun.{begun_later, begun_row}
use Rattle.chain_store.proofs.Proposals.{stays_later}
use Rattle.chain_store.proofs.Outcomes.{under_final}
use Rattle.col_core.specs.IdLaws.{IsSettled}
use Rattle.col_core.proofs.CallerLemmas.{entered_is_over, settled_stays, singles_stay, open_is_proposed, proposed_is_open, proposed_once}

-- places and members

pub in_get : {A : Type 0} (xs : List A) (x : A) → In x xs → (n : ℕ) × (slice_get xs n ≡ Some x)
in_get [] x i = absurd i
in_get {A} (y ∷ ys) x (inl e) = (0, ap (λ (z : A). Some z) e)
in_get (y ∷ ys) x (inr i) = let r = in_get ys x i in (suc r.0, r.1)

pub get_in : {A : Type 0} (xs : List A) (n : ℕ) (x : A) → slice_get xs n ≡ Some x → In x xs
get_in [] n x h = absurd (let y : ⊥ = cc in y)
get_in (y ∷ ys) zero x h = inl (let z : y ≡ x = cc in z)
get_in (y ∷ ys) (suc n) x h = inr (get_in ys n x h)

pub found_in : {A : Type 0} (test : A → Bool) (xs : List A) (x : A) → find test xs ≡ Some x → In x xs
found_in test [] x e = absurd (let f : ⊥ = cc in f)
found_in {A} test (y ∷ ys) x e = by_test (In x (y ∷ ys)) (test y)
    (λ t. inl (let f : Some y ≡ Some x = sym (if_true (test y) (Some y) (find test ys) t) ∙ e in let g : y ≡ x = cc in g))
    (λ f. inr (found_in test ys x (sym (if_false (test y) (Some y) (find test ys) f) ∙ e)))

-- what is found where some pass a test, and where none does
pub any_found : {A : Type 0} (test : A → Bool) (xs : List A) → list_any test xs ≡ true → (x : A) × (find test xs ≡ Some x)
any_found test [] e = absurd (let f : ⊥ = cc in f)
any_found {A} test (y ∷ ys) e = by_test ((x : A) × (find test (y ∷ ys) ≡ Some x)) (test y)
    (λ t. (y, if_true (test y) (Some y) (find test ys) t))
    (λ f.
    let r = any_found test ys (sym (ap (λ (b : Bool). b || list_any test ys) f) ∙ e) in
    (r.0, if_false (test y) (Some y) (find test ys) f ∙ r.1))

pub none_found : {A : Type 0} (test : A → Bool) (xs : List A) → list_any test xs ≡ false → find test xs ≡ None
none_found test [] e = refl
none_found {A} test (y ∷ ys) e = by_test (find test (y ∷ ys) ≡ None) (test y)
    (λ t. absurd (let f : true ≡ false = sym (ap (λ (b : Bool). b || list_any test ys) t) ∙ e in let g : ⊥ = cc in g))
    (λ f. if_false (test y) (Some y) (find test ys) f
    ∙ none_found test ys (sym (ap (λ (b : Bool). b || list_any test ys) f) ∙ e))

in_stored : (w v : Waiting EnteredNode) (ws : List (Waiting EnteredNode)) → In v (with_stored w ws) → (w ≡ v) ⊎ In v ws
in_stored w v [] (inl e) = inl e
in_stored w v [] (inr i) = inr i
in_stored w v (u ∷ us) i = by_test ((w ≡ v) ⊎ In v (u ∷ us)) (key_below w.key u.key)
    (λ t. subst (λ (l : List (Waiting EnteredNode)). In v l)
    (if_true (key_below w.key u.key) (w ∷ u ∷ us) (u ∷ with_stored w us) t) i)
    (λ f. later (in_stored w v us) (subst (λ (l : List (Waiting EnteredNode)). In v l)
    (if_false (key_below w.key u.key) (w ∷ u ∷ us) (u ∷ with_stored w us) f) i)) where
      later : (In v (with_stored w us) → (w ≡ v) ⊎ In v us) → In v (u ∷ with_stored w us) → (w ≡ v) ⊎ In v (u ∷ us)
      later rest (inl e) = inr (inl e)
      later rest (inr j) = elim (rest j) [ inl e ↦ inl e | inr k ↦ inr (inr k) ]

-- a stored entry after a settling was stored under the same id, with the same node
abbrev WasStored : List (Waiting EnteredNode) → Waiting EnteredNode → Type 0
WasStored ws v = (u : Waiting EnteredNode) × In u ws × (u.key.id ≡ v.key.id) × (u.thing ≡ v.thing)

settled_was : (id : Id) (outcome : Outcome) (ws : List (Waiting EnteredNode)) (v : Waiting EnteredNode)
    → In v (settled_stored id outcome ws) → WasStored ws v
settled_was id Open ws v i = (v, i, refl, refl)
settled_was id (Gone why) ws v i = (v, (in_filter (λ (w : Waiting EnteredNode). not (same_id w.key.id id)) v ws i).0, refl, refl)
settled_was id (Final f) ws v i = from (find (λ (w : Waiting EnteredNode). is_open_id id (standing_of w)) ws) refl i where
  from : (o : Option (Waiting EnteredNode)) → find (λ (w : Waiting EnteredNode). is_open_id id (standing_of w)) ws ≡ o
      → In v (with_found f o (stored_without id ws)) → WasStored ws v
  from None e j = (v, (in_filter (λ (w : Waiting EnteredNode). not (same_id w.key.id id)) v ws j).0, refl, refl)
  from (Some w) e j = elim (in_stored (final_entry f w) v (stored_without id ws) j) [
    | inl same ↦ (
      w,
      found_in (λ (w : Waiting EnteredNode). is_open_id id (standing_of w)) ws w e,
      ap (λ (z : Waiting EnteredNode). z.key.id) same,
      ap (λ (z : Waiting EnteredNode). z.thing) same,
    )
    | inr k ↦ (v, (in_filter (λ (w : Waiting EnteredNode). not (same_id w.key.id id)) v ws k).0, refl, refl)
  ]

-- an entry that enters no id leaves the numbers as they are
pub below_same : (journal : List Entry) (numbers : List ℕ) (e : Entry) → ((id : Id) → enters id e.event ≡ false)
    → AreBelow journal numbers → AreBelow (journal ++ e ∷ []) numbers
below_same journal numbers e none below n d id at t = elim (get_cases journal e n d at) [
  | inl old ↦ below n d id old t
  | inr is ↦
      absurd (apart (enters id d.event) t (subst (λ (x : Entry). enters id x.event ≡ false) is (none id)))
]

module _ (column new : ColumnState) (by : ℕ) (id : Id) (outcome : Outcome) (is : new ≡ after_settle column by id outcome) where
  -- its entry
  abbrev t : Told
  t = told_settle by id outcome

  journal_is : new.journal ≡ column.journal ++ t.entry ∷ []
  journal_is = ap (λ (c : ColumnState). c.journal) is

  pub settled_newest : newest_in new ≡ Some (told_settle by id outcome)
  settled_newest =
      let long : length new.journal ≡ length column.journal + 1 =
      ap length journal_is ∙ length-append column.journal (t.entry ∷ []) in
      let less : length new.journal - 1 ≡ length column.journal = omega (arith, long) in
      let last : slice_get new.journal (length new.journal - 1) ≡ Some t.entry =
      ap (slice_get new.journal) less
      ∙ (ap (λ l. slice_get l (length column.journal)) journal_is ∙ get_last column.journal t.entry) in
      ap (option_map (told_by new)) last

  pub settled_below : (numbers : List ℕ) → AreBelow column.journal numbers → AreBelow new.journal numbers
  settled_below numbers below =
      subst (λ (l : List Entry). AreBelow l numbers) (sym journal_is)
      (below_same column.journal numbers t.entry (λ other. refl) below)

  pub settled_gains : (clients : ℕ) (log : List Told) → by < clients → IsOfHistory column clients log
      → IsOfHistory new clients (log ++ told_settle by id outcome ∷ [])
  settled_gains clients log few g = record {
    same = journal_is ∙ (ap (λ l. l ++ t.entry ∷ []) g.same ∙ sym (map_with (λ (u : Told). u.entry) log t));
    brings = λ n u at. there u (elim (get_cases log t n u at) [
      | inl old ↦ g.brings n u old
      | inr same ↦ subst (λ (v : Told). Brings column.region column.colour v.entry.event v.nodes) same refl
    ]);
    makers = λ n u at. elim (get_cases log t n u at) [
      | inl old ↦ g.makers n u old
      | inr same ↦ subst (λ (v : Told). (v.entry.by < clients) × IsOfMaker v.entry.by v.entry.event) same (few, tt)
    ];
    stored = λ key x has.
        let old = settled_was id outcome column.queue.stored has.1
        (get_in (settled_stored id outcome column.queue.stored) has.0 has.1
        (ap (λ (c : ColumnState). slice_get c.queue.stored has.0) (sym is) ∙ has.2)) in
        let u = old.0 in
        let place = in_get column.queue.stored u old.1 in
        let node = ap (λ (e : EnteredNode). e.node) old.3 ∙ has.4 in
        let same : u.key.id ≡ key.id = old.2 ∙ ap (λ (k : Key). k.id) has.3 in
        enters_more log (t ∷ []) key.id x
        (subst (λ (i : Id). EntersAs log i x) same (g.stored u.key x (place.0, u, place.1, refl, node)));
    carried = λ region item has.
        names_more log (t ∷ []) item.head.key.id item.node
        (g.carried region item (
          has.0,
          ap (λ (c : ColumnState). slice_get (slice_index_or c.copies region []) has.0) (sym is) ∙ has.1,
        ));
    stamped = λ region item has.
        g.stamped region item (
          has.0,
          ap (λ (c : ColumnState). slice_get (slice_index_or c.copies region []) has.0) (sym is) ∙ has.1,
        );
    regions = λ region item has.
        g.regions region item (
          has.0,
          ap (λ (c : ColumnState). slice_get (slice_index_or c.copies region []) has.0) (sym is) ∙ has.1,
        );
  } where
    there : (u : Told) → Brings column.region column.colour u.entry.event u.nodes
        → Brings new.region new.colour u.entry.event u.nodes
    there u b = subst (λ (c : ColumnState). Brings c.region c.colour u.entry.event u.nodes) (sym is) b

-- 2. a row whose mark is a number was proposed under it

first_stamp : (row : Row) (log : List Told) (n : ℕ) → stamps_of row log ≡ n ∷ []
    → (i : ℕ) × (t : Told) × (slice_get log i ≡ Some t) × (proposes row t.entry.event t.nodes ≡ true) × (t.entry.stamp ≡ n)
first_stamp row [] n e = absurd (let f : ⊥ = cc in f)
first_stamp row (t ∷ ts) n e = by_test _ (proposes row t.entry.event t.nodes)
    (λ yes. (
      0,
      t,
      refl,
      yes,
      (let f : t.entry.stamp ∷ stamps_of row ts ≡ n ∷ [] =
          sym (ap (λ l. l ++ stamps_of row ts)
          (if_true (proposes row t.entry.event t.nodes) (t.entry.stamp ∷ []) [] yes)) ∙ e in
          let g : t.entry.stamp ≡ n = cc in g),
    ))
    (λ off.
    let r = first_stamp row ts n
    (sym (ap (λ l. l ++ stamps_of row ts)
    (if_false (proposes row t.entry.event t.nodes) (t.entry.stamp ∷ []) [] off)) ∙ e) in
    (suc r.0, r.1, r.2, r.3, r.4))

-- the event proposes the node, whose row it is
abbrev IsProposalOf : View → Row → Event → Type 0
IsProposalOf v row e = (x : Node) × (floor : ℕ) × (wants : Counts) × IsRowOf v row x × (e ≡ events.Propose x.id floor wants)

row_is : (row other : Row) (x : Node) (nodes : List Node) → nodes ≡ x ∷ [] → x.row ≡ Some other → is_first_of row nodes ≡ true
    → other ≡ row
row_is row other x nodes brought of shown =
    same_row-is other row
    (sym (ap (is_first_of row) brought ∙ ap (is_row row) of) ∙ shown)

proposal_of : (v : View) (region colour : ℕ) (row : Row) (e : Event) (nodes : List Node) → proposes row e nodes ≡ true
    → Brings region colour e nodes → Backs v e nodes → IsProposalOf v row e
proposal_of v region colour row (events.Single id floor wants) nodes shown brings backs = absurd (let f : ⊥ = cc in f)
proposal_of v region colour row (events.Propose id floor wants) nodes shown brings backs =
    let y = brings.0 in
    let x = backs.0 in
    let same : y ≡ x = (let f : y ∷ [] ≡ x ∷ [] = sym brings.1 ∙ backs.2 in let g : y ≡ x = cc in g) in
    let of : id ≡ y.id = (let f = brings.3 in let g : id ≡ y.id = cc (f) in g) in
    let here : backs.1 ≡ row = row_is row backs.1 x nodes backs.2 backs.3.of_row shown in
    let named : id ≡ x.id = of ∙ ap (λ (z : Node). z.id) same in (
      x,
      floor,
      wants,
      subst (λ (r : Row). IsRowOf v r x) here backs.3,
      ap (λ (i : Id). events.Propose i floor wants) named,
    )
proposal_of v region colour row (events.Settle id outcome) nodes shown brings backs = absurd (let f : ⊥ = cc in f)
proposal_of v region colour row (events.Raise to) nodes shown brings backs = absurd (let f : ⊥ = cc in f)
proposal_of v region colour row (events.Give other from) nodes shown brings backs = absurd (let f : ⊥ = cc in f)
proposal_of v region colour row (events.Carry other start heads) nodes shown brings backs = absurd (let f : ⊥ = cc in f)
proposal_of v region colour row (events.Trim counts) nodes shown brings backs = absurd (let f : ⊥ = cc in f)

entry_at : (log : List Told) (i : ℕ) (t : Told) → slice_get log i ≡ Some t → slice_get (entries_in log) i ≡ Some t.entry
entry_at [] i t e = absurd (let f : ⊥ = cc in f)
entry_at (u ∷ us) zero t e = ap (λ (x : Told). Some x.entry) (let g : u ≡ t = cc in g)
entry_at (u ∷ us) (suc i) t e = entry_at us i t e

-- the told entry behind an entry of the history
told_at : (log : List Told) (i : ℕ) (e : Entry) → slice_get (entries_in log) i ≡ Some e
    → (t : Told) × (slice_get log i ≡ Some t) × (t.entry ≡ e)
told_at [] i e h = absurd (let f : ⊥ = cc in f)
told_at (u ∷ us) zero e h = (u, refl, (let g : u.entry ≡ e = cc in g))
told_at (u ∷ us) (suc i) e h = told_at us i e h

in_contains : {A : Type 0} (xs : List A) (x : A) → Contains xs x → In x xs
in_contains {A} xs x h = at xs h.0 h.1 h.2 where
  at : (ys : List A) (k : ℕ) → k < length ys → get_or ys k x ≡ x → In x ys
  at [] k lt e = absurd (let f : ⊥ = omega (arith, lt) in f)
  at (y ∷ ys) zero lt e = inl e
  at (y ∷ ys) (suc k) lt e = inr (at ys k (omega (arith, lt)) e)

any_at : {A : Type 0} (test : A → Bool) (xs : List A) (n : ℕ) (x : A) → slice_get xs n ≡ Some x → test x ≡ true
    → list_any test xs ≡ true
any_at test [] n x e t = absurd (let f : ⊥ = cc in f)
any_at {A} test (y ∷ ys) zero x e t =
    or_left (test y) (list_any test ys) (subst (λ (z : A). test z ≡ true) (let g : x ≡ y = cc in g) t)
any_at test (y ∷ ys) (suc n) x e t = or_right (test y) (list_any test ys) (any_at test ys n x e t)

has_entered_by : (history : List Entry) (id : Id) (stamp : ℕ) → Proposes history id stamp → has_entered id history ≡ true
has_entered_by history id stamp p =
    any_at (λ (e : Entry). enters id e.event) history p.0 p.1 p.4
    (subst (λ (e : Event). enters id e ≡ true) (sym p.5) (same_id-refl id))

-- what is said of a longer history, of the history itself
alone_now : (own regions : ℕ) (history : List Entry) (id : Id) (stamp : ℕ) → IsColumnHistory own regions (dated own history)
    → Singles history id stamp → (o : Outcome) → Settles history id o → ⊥
alone_now own regions history id stamp lawful s o t =
    let e = append-nil history in
    (singles_stay own regions history [] id stamp
    (subst (λ (l : List Entry). IsColumnHistory own regions (dated own l)) (sym e) lawful) s).unsettled o
    (subst (λ (l : List Entry). Settles l id o) (sym e) t)

pub settled_now : (own regions : ℕ) (history : List Entry) (id : Id) (o : Outcome)
    → IsColumnHistory own regions (dated own history) → Settles history id o → IsSettled history id o
settled_now own regions history id o lawful s =
    let e = append-nil history in
    subst (λ (l : List Entry). IsSettled l id o) e
    (settled_stays own regions history [] id o
    (subst (λ (l : List Entry). IsColumnHistory own regions (dated own l)) (sym e) lawful) s)

module _ (column : ColumnState) (seat : ColumnSeat) (clients : ℕ) (log : List Told) (of : IsOfHistory column clients log)
    (backed : IsBacked seat log) (ws : List ℕ) (may : MayBe (column_seen seat).size ws (column_seen seat)) (row : Row)
    (x : Node) (begun : IsRowOf (column_seen seat) row x)
    (lawful : IsColumnHistory column.region column.regions (dated column.region column.journal)) where
  pub proposed_row : (n : ℕ) → set_mark seat row ≡ marks.Number n → Proposes column.journal x.id n
  proposed_row n is =
      let v = column_seen seat in
      let r = first_stamp row log n (backed.numbered row begun.inside ∙ ap numbers is) in
      let t = r.1 in
      let p = proposal_of v column.region column.colour row t.entry.event t.nodes r.3 (of.brings r.0 t r.2)
      (backed.backs r.0 t r.2) in
      let same : p.0 ≡ x = may.one_node row p.0 x p.3.knows begun.knows in (
        r.0,
        t.entry,
        p.1,
        p.2,
        ap (λ (l : List Entry). slice_get l r.0) of.same ∙ entry_at log r.0 t r.2,
        p.4 ∙ ap (λ (i : Node). events.Propose i.id p.1 p.2) same,
        r.4,
      )

  module _ (colour : ℕ) (coloured : has x.colours colour ≡ true) (low : colour < MAX_COLOURS)
      (mark : mark_in (column_seen seat).size ws row colour ≡ set_mark seat row) where
    -- a row with a final outcome was proposed here, under a stamp that is not above it
    numbered_under : (f : ℕ) → KnowsOutcome (column_seen seat) row (Final f)
        → (n : ℕ) × Proposes column.journal x.id n × (n ≤ f) × (f ≤ last_stamp)
    numbered_under f known =
        let u = under_final (column_seen seat).size ws (column_seen seat) may row x begun.knows f known colour coloured low in
        (u.number, proposed_row u.number (sym mark ∙ u.is), u.under, u.last)

    pub may_settle : (outcome : Outcome) → KnowsOutcome (column_seen seat) row outcome
        → MaySettle x.id outcome (entries column.journal) MAX_STAMP
    may_settle Open known = tt
    may_settle (Gone why) known = tt
    may_settle (Final f) known = λ e found.
        let u = numbered_under f known in
        let p = open_is_proposed column.region column.regions column.journal x.id e lawful found in
        let once : e.key.stamp ≡ u.0 =
        proposed_once column.region column.regions column.journal x.id e.key.stamp u.0 lawful p.proposed u.1 in
        let under = u.2 in
        (omega (arith, once, under), u.3)

    open_none : (n : ℕ) → Proposes column.journal x.id n → open_entry x.id (entries column.journal) ≡ None
        → ((o : Outcome) → Settles column.journal x.id o → ⊥) → ⊥
    open_none n p closed none =
        let e = proposed_is_open column.region column.regions column.journal x.id n lawful p none in
        let f = sym e ∙ closed in
        (let g : ⊥ = cc (f) in g)

    settled_as : (f : ℕ) → KnowsOutcome (column_seen seat) row (Final f) → (o : Outcome)
        → Settles column.journal x.id o → o ≡ Final f
    settled_as f known o s =
        let v = column_seen seat in
        let place = in_get (entries_in log) s.0
        (in_contains (entries_in log) s.0 (subst (λ (l : List Entry). Contains l s.0) of.same s.1)) in
        let t = told_at log place.0 s.0 place.1 in
        let b : Backs v (events.Settle x.id o) t.0.nodes =
        subst (λ (e : Event). Backs v e t.0.nodes) (ap (λ (e : Entry). e.event) t.2 ∙ s.2) (backed.backs place.0 t.0 t.1) in
        let same = may.ids b.1 row b.0 x b.3.inside begun.inside b.3.knows begun.knows b.2 in
        let there : KnowsOutcome v row o = subst (λ (r : Row). KnowsOutcome v r o) same b.4 in
        sym (may.outcomes row o there) ∙ may.outcomes row (Final f) known

    -- where it is not open, it was settled with this outcome
    pub was_settled : (f : ℕ) → KnowsOutcome (column_seen seat) row (Final f)
        → open_entry x.id (entries column.journal) ≡ None → IsFinal column.journal x.id f
    was_settled f known closed =
        let u = numbered_under f known in
        over (entered_is_over column.region column.regions column.journal x.id lawful
        (has_entered_by column.journal x.id u.0 u.1) closed) where
          over : IsOver column.journal x.id → IsFinal column.journal x.id f
          over (alone stamp s) =
              let u = numbered_under f known in
              absurd (open_none u.0 u.1 closed (alone_now column.region column.regions column.journal x.id stamp lawful s))
          over (settled o s) =
              subst (HasCome column.journal x.id) (settled_as f known o s)
              (settled_now column.region column.regions column.journal x.id o lawful s).come

decided : (o : Outcome) → o ≢ Open → is_decided o ≡ true
decided Open ne = absurd (ne refl)
decided (Gone why) ne = refl
decided (Final f) ne = refl

-- what a column makes of a settling with an outcome that settles
pub settles_open : {A : Type 0} (o : Outcome) → o ≢ Open → (b : Bool) → b ≡ true → (new a c : A)
    → new ≡ (if b && is_decided o then a else c) → new ≡ a
settles_open o ne b shown new a c is =
    is ∙ if_true (b && is_decided o) a c (and_from b (is_decided o) shown (decided o ne))

pub settles_none : {A : Type 0} (o : Outcome) (b : Bool) → b ≡ false → (new a c : A)
    → new ≡ (if b && is_decided o then a else c) → new ≡ c
settles_none o b off new a c is = is ∙ if_false (b && is_decided o) a c (and_off b (is_decided o) off) where
  and_off : (p q : Bool) → p ≡ false → (p && q) ≡ false
  and_off false q e = refl
  and_off true q e = absurd (let f : ⊥ = cc in f)

-- the number of an outcome that may settle an open id
pub outcome_small : (id : Id) (o : Outcome) (es : List Standing) → has_open id es ≡ true → MaySettle id o es MAX_STAMP
    → event_number (events.Settle id o) 0 ≤ last_stamp
outcome_small id Open es found may = omega arith
outcome_small id (Gone why) es found may = omega arith
outcome_small id (Final f) es found may = let e = any_found (is_open_id id) es found in (may e.0 e.1).1

-- Where a column's seat knows of an append's row and of its outcome, the outcome may settle the append's id; and where the
-- id is not open, it was settled with it.
pub may_settle_begun : (s : Seated) (t : ColumnSeat) (size : Size) (begun : BegunAppend) (outcome : Outcome) (row : Row)
    (m : Mark) → row ≡ begun.row → (column_seen s.seat).size ≡ size → IsLaterColumn s.seat t → SetsNone s.seat t
    → m ≡ set_mark s.seat row
    → Possibly size (column_seen t) (λ (ws : List ℕ). mark_in size ws row s.seat.colour ≡ m)
    → KnowsRow size s.column.region (column_seen s.seat) begun → has begun.colours s.column.colour ≡ true
    → KnowsOutcome (column_seen s.seat) begun.row outcome → s.column.colour < MAX_COLOURS
    → IsColumnHistory s.column.region s.column.regions (dated s.column.region s.column.journal)
    → (log : List Told) → Stands s log
    → MaySettle begun.id outcome (entries s.column.journal) MAX_STAMP
    × ((f : ℕ) → outcome ≡ Final f → open_entry begun.id (entries s.column.journal) ≡ None
    → IsFinal s.column.journal begun.id f)
may_settle_begun s t size begun outcome row m is sized later none stood possibly knows coloured known low lawful log stands =
    let v = column_seen s.seat in
    let w = column_seen t in
    let learns = Learns-from v w later.grows in
    let of_size : size ≡ w.size = sym (later.grows.size ∙ sized) in
    let x = knows.0 in
    let here = begun_later size s.column.region begun v w later.grows.size learns x knows.1 in
    let of = begun_row size s.column.region begun w (sym of_size) x here in
    let st = stays_later s t log later none stands in
    let has_it = subst (λ (c : Colours). has c s.column.colour ≡ true) here.of.colours coloured in
    let may = subst (λ (k : Size). MayBe k possibly.0 w) of_size possibly.1 in
    let mark : mark_in w.size possibly.0 begun.row s.column.colour ≡ set_mark t begun.row =
    subst (λ (k : Size). mark_in k possibly.0 begun.row s.column.colour ≡ set_mark t begun.row) of_size
    (subst (λ (r : Row). mark_in size possibly.0 r s.column.colour ≡ set_mark t r) is
    (subst (λ (c : ℕ). mark_in size possibly.0 row c ≡ set_mark t row) s.same
    (possibly.2 ∙ stood ∙ sym (none row)))) in
    let there = outcome_learnt v w begun.row later.grows.size learns outcome known in (
      subst (λ (i : Id). MaySettle i outcome (entries s.column.journal) MAX_STAMP) (sym here.of.id)
          (may_settle s.column t w.size.clients log st.0 st.1.0 possibly.0 may begun.row x of lawful s.column.colour has_it
          low mark outcome there),
      λ f final closed. subst (λ (i : Id). IsFinal s.column.journal i f) (sym here.of.id)
          (was_settled s.column t w.size.clients log st.0 st.1.0 possibly.0 may begun.row x of lawful s.column.colour has_it
          low mark f (subst (λ (o : Outcome). KnowsOutcome w begun.row o) final there)
          (subst (λ (i : Id). open_entry i (entries s.column.journal) ≡ None) here.of.id closed)),
    )

-- what backs the settling
pub settle_backed : (s : Seated) (t : ColumnSeat) (size : Size) (begun : BegunAppend) (outcome : Outcome) (nodes : List Node)
    → (column_seen s.seat).size ≡ size → IsLaterColumn s.seat t → KnowsRow size s.column.region (column_seen s.seat) begun
    → KnowsOutcome (column_seen s.seat) begun.row outcome
    → Backs (column_seen t) (events.Settle begun.id outcome) nodes
settle_backed s t size begun outcome nodes sized later knows known =
    let v = column_seen s.seat in
    let w = column_seen t in
    let learns = Learns-from v w later.grows in
    let here = begun_later size s.column.region begun v w later.grows.size learns knows.0 knows.1 in (
      knows.0,
      begun.row,
      sym here.of.id,
      begun_row size s.column.region begun w (later.grows.size ∙ sized) knows.0 here,
      outcome_learnt v w begun.row later.grows.size learns outcome known,
    )

-- what has come of an id whose settling is the newest entry
pub settled_last : (own regions : ℕ) (history old : List Entry) (by : ℕ) (id : Id) (o : Outcome)
    → history ≡ old ++ record { by = by; event = events.Settle id o; stamp = 0 } ∷ []
    → IsColumnHistory own regions (dated own history) → IsSettled history id o
settled_last own regions history old by id o is lawful =
    let e : Entry = record { by = by; event = events.Settle id o; stamp = 0 } in
    settled_now own regions history id o lawful
    (e, subst (λ (l : List Entry). Contains l e) (sym is) (contains_last old e), refl) where
      contains_last : (xs : List Entry) (y : Entry) → Contains (xs ++ y ∷ []) y
      contains_last [] y = (0, omega arith, refl)
      contains_last (x ∷ xs) y = let r = contains_last xs y in let lt = r.1 in (suc r.0, omega (arith, lt), r.2)

-- a settling leaves a column's region, colour and regions, and enters no id
module _ (column new : ColumnState) (by : ℕ) (id : Id) (o : Outcome) (b : Bool)
    (is : new ≡ (if b then after_settle column by id o else column)) where
  pub settles_keep : (new.region ≡ column.region) × (new.colour ≡ column.colour) × (new.regions ≡ column.regions)
  settles_keep = by_test ((new.region ≡ column.region) × (new.colour ≡ column.colour) × (new.regions ≡ column.regions)) b
      (λ t.
      let e = is ∙ if_true b (after_settle column by id o) column t in (
        ap (λ (c : ColumnState). c.region) e,
        ap (λ (c : ColumnState). c.colour) e,
        ap (λ (c : ColumnState). c.regions) e,
      ))
      (λ f.
      let e = is ∙ if_false b (after_settle column by id o) column f in (
        ap (λ (c : ColumnState). c.region) e,
        ap (λ (c : ColumnState). c.colour) e,
        ap (λ (c : ColumnState). c.regions) e,
      ))

  pub settles_below : (numbers : List ℕ) → AreBelow column.journal numbers → AreBelow new.journal numbers
  settles_below numbers below = by_test (AreBelow new.journal numbers) b
      (λ t.
      settled_below column new by id o (is ∙ if_true b (after_settle column by id o) column t) numbers below)
      (λ f. subst (λ (c : ColumnState). AreBelow c.journal numbers)
      (sym (is ∙ if_false b (after_settle column by id o) column f)) below)
