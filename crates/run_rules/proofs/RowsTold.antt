-- The rows that a report tells, with nodes by their proposals, are lawful where they are so with some nodes.
use Rattle.std.proofs.Common.{◌≡◌, ◌∙◌, refl, ap, sym, subst, Bool, true, false, cond, ℕ, suc, ◌<◌, List, [], ◌∷◌, length, map, Option, Some, None, ◌⊎◌, inl, inr, arith}
use Rattle.std.specs.Prelude.{◌≢◌, ◌==◌, max, slice_get}
use Rattle.std.specs.List.{All, AllPairs, filter, range_with_len}
use Rattle.std.proofs.lemmas.Bool.{eqb-true, eq-eqb, false_from_ne_true}
use Rattle.std.proofs.lemmas.List.{length-map}
use Rattle.std.proofs.lemmas.List.Elements.{All-contains}
use Rattle.std.proofs.lemmas.List.Kept.{AllPairs-cons}
use Rattle.log_node.specs.declared.ids.Id.{Id}
use Rattle.log_node.specs.declared.ids.Colours.{Colours}
use Rattle.log_node.specs.declared.ids.Counts.{Counts}
use Rattle.log_node.specs.declared.limits.TheConstants.{MAX_COLOURS}
use Rattle.log_node.specs.declared.node.Node.{Node}
use Rattle.log_node.specs.declared.marks.Mark.{Mark}
use Rattle.log_node.specs.declared.marks.Mark.TheVariants as marks
use Rattle.log_node.specs.declared.marks.Why.TheVariants.{Memory, StampEnd}
use Rattle.log_node.specs.declared.marks.ColourMark.{ColourMark}
use Rattle.log_node.specs.Order.{same_id}
use Rattle.log_node.specs.Sets.{has, members, set_of}
use Rattle.log_node.proofs.CallerLemmas.{members-set_of}
use Rattle.col_core.specs.declared.Event.{Event}
use Rattle.col_core.specs.declared.Event.TheVariants.{Single, Propose, Settle, Raise, Give, Carry, Trim}
use Rattle.col_core.specs.declared.Entry.{Entry}
use Rattle.col_core.specs.Computed.{dated}
use Rattle.col_core.specs.Copies.{IsTrueCopy}
use Rattle.col_core.specs.History.{clock, last_stamp, IsAtEnd}
use Rattle.col_core.specs.Rows.{Proposes, BegunRow, AreLawfulRows, FitsRow, FitsMarks, FitsRows, IsMarkOf, is_of, node_wants, wants_of}
use Rattle.col_core.proofs.CallerLemmas.{In, all_in, any_in, by_test, contains_in, if_true, if_false, in_filter, in_filter-back, in_map, same_id-refl, same_id-true, slice_in}
use Rattle.script_text.specs.declared.script.Script.{Script}
use Rattle.report_text.specs.declared.report.Report.{Report}
use Rattle.lawful_run.specs.Asks.{colours_where}
use Rattle.lawful_run.specs.Columns.{IsClientIn, row_report}
use Rattle.run_rules.specs.Told.{Account, IsTold}
use Rattle.run_rules.specs.Telling.{IsWellFormed, account_of, floor_or, floor_told, is_among, journal_among, marked_colours, no_nodes, proposal_in, proposal_or, row_of, wants_or}
use Rattle.run_rules.specs.Rules.{Rule1, Rule3}
use Rattle.run_rules.specs.Agreeing.{HasColumn}
use Rattle.run_rules.proofs.Lists.{map_map, same_by, slice_mapped}
use Rattle.run_rules.proofs.OneAccount.{histories_alike, rows_alike}
use Rattle.run_rules.proofs.ComputedSteps.{among_in}
use Rattle.run_rules.proofs.ReportsTell.{its_id, reports_tell, rows_again}

-- LISTS

-- what holds of each two of a list, the one behind the other, holds of what a function makes of them
pairs_mapped : {A B : Type 0} (f : A → B) (R : A → A → Type 0) (S : B → B → Type 0) → ((x y : A) → R x y → S (f x) (f y))
    → (xs : List A) → AllPairs R xs → AllPairs S (map f xs)
pairs_mapped f R S g [] p = λ i j d lt within. absurd (let h : ⊥ = omega (arith, within) in h)
pairs_mapped f R S g (x ∷ xs) p =
    AllPairs-cons S (f x) (map f xs)
    (all_in (S (f x)) (map f xs) (λ y i. let m = in_map f xs y i in
    let c = contains_in xs m.0 m.1 in
    let l = c.1 in
    subst (S (f x)) m.2 (g x m.0 (subst (R x) c.2 (p 0 (suc c.0) m.0 (omega arith) (omega (arith, l)))))))
    (pairs_mapped f R S g xs (λ i j d lt within. p (suc i) (suc j) d (omega (arith, lt)) (omega (arith, within))))

pub filter_mapped : {A B : Type 0} (f : A → B) (test : B → Bool) (xs : List A)
    → filter test (map f xs) ≡ map f (filter (λ (x : A). test (f x)) xs)
filter_mapped f test [] = refl
filter_mapped {A} {B} f test (x ∷ xs) = step (test (f x)) (filter_mapped f test xs) where
  step : (b : Bool) → filter test (map f xs) ≡ map f (filter (λ (y : A). test (f y)) xs)
      → cond b (f x ∷ filter test (map f xs)) (filter test (map f xs))
      ≡ map f (cond b (x ∷ filter (λ (y : A). test (f y)) xs) (filter (λ (y : A). test (f y)) xs))
  step true more = ap (λ (l : List B). f x ∷ l) more
  step false more = more

filter_like : (p q : ℕ → Bool) (xs : List ℕ) → ((x : ℕ) → In x xs → p x ≡ q x) → filter p xs ≡ filter q xs
filter_like p q [] same = refl
filter_like p q (x ∷ xs) same =
    ap (λ (b : Bool). cond b (x ∷ filter p xs) (filter p xs)) (same x (inl refl))
    ∙ ap (λ (l : List ℕ). cond (q x) (x ∷ l) l) (filter_like p q xs (λ y i. same y (inr i)))

-- the set of the colours for which a test holds has just these
pub where_again : (test : ℕ → Bool) → members (set_of (colours_where test)) ≡ colours_where test
where_again test =
    members-set_of (colours_where test)
    ∙ filter_like (λ c. is_among c (colours_where test)) test (range_with_len 0 MAX_COLOURS) (λ c i.
    by_test _ (test c)
    (λ t. any_in (λ m. m == c) (colours_where test) c (in_filter-back test c (range_with_len 0 MAX_COLOURS) i t) (eq-eqb c c refl)
    ∙ sym t)
    (λ f. false_from_ne_true (is_among c (colours_where test)) (λ t. none c f
    (in_filter test c (range_with_len 0 MAX_COLOURS) (among_in c (colours_where test) t)).1) ∙ sym f)) where
      none : (c : ℕ) → test c ≡ false → test c ≡ true → ⊥
      none c f t = let h : ⊥ = cc (f, t) in h

-- and so that of a set's members
members_again : (set : Colours) → members (set_of (members set)) ≡ members set
members_again set = where_again (has set)

-- PROPOSALS

-- one that is told is there
from_event : (id : Id) (p : ℕ × Counts) (later : Option (ℕ × Counts)) (event : Event) → proposal_or id event later ≡ Some p
    → (event ≡ Propose id p.0 p.1) ⊎ (later ≡ Some p)
from_event id p later (Propose other floor wants) e =
    by_test _ (same_id id other)
    (λ t. let s = sym (if_true (same_id id other) (Some (floor, wants)) later t) ∙ e in
    let is : (floor, wants) ≡ p = cc (s) in
    inl (ap (λ (i : Id). Propose i floor wants) (sym (same_id-true id other t)) ∙ ap (λ (q : ℕ × Counts). Propose id q.0 q.1) is))
    (λ f. inr (sym (if_false (same_id id other) (Some (floor, wants)) later f) ∙ e))
from_event id p later _ e = inr e

proposal_from : (id : Id) (h : List Entry) (p : ℕ × Counts) → proposal_in id h ≡ Some p
    → (e : Entry) × In e h × (e.event ≡ Propose id p.0 p.1)
proposal_from id [] p e = absurd (let f : ⊥ = cc (e) in f)
proposal_from id (d ∷ ds) p e = turn (from_event id p (proposal_in id ds) d.event e) (proposal_from id ds p) where
  turn : (d.event ≡ Propose id p.0 p.1) ⊎ (proposal_in id ds ≡ Some p)
      → (proposal_in id ds ≡ Some p → (x : Entry) × In x ds × (x.event ≡ Propose id p.0 p.1))
      → (x : Entry) × In x (d ∷ ds) × (x.event ≡ Propose id p.0 p.1)
  turn (inl is) more = (d, inl refl, is)
  turn (inr f) more = let m = more f in (m.0, inr m.1, m.2)

-- and where one is there one is told
abbrev IsFound : Option (ℕ × Counts) → Type 0
IsFound found = (p : ℕ × Counts) × (found ≡ Some p)

found_here : (id : Id) (floor : ℕ) (wants : Counts) (later : Option (ℕ × Counts))
    → IsFound (proposal_or id (Propose id floor wants) later)
found_here id floor wants later = ((floor, wants), if_true (same_id id id) (Some (floor, wants)) later (same_id-refl id))

found_later : (id : Id) (event : Event) (later : Option (ℕ × Counts)) → IsFound later → IsFound (proposal_or id event later)
found_later id (Propose other floor wants) later f =
    by_test (IsFound (cond (same_id id other) (Some (floor, wants)) later)) (same_id id other)
    (λ t. ((floor, wants), if_true (same_id id other) (Some (floor, wants)) later t))
    (λ n. (f.0, if_false (same_id id other) (Some (floor, wants)) later n ∙ f.1))
found_later id _ later f = f

proposal_there : (id : Id) (h : List Entry) (e : Entry) (floor : ℕ) (wants : Counts) → In e h → e.event ≡ Propose id floor wants
    → IsFound (proposal_in id h)
proposal_there id [] e floor wants i is = absurd i
proposal_there id (d ∷ ds) e floor wants (inl same) is =
    subst (λ (x : Event). IsFound (proposal_or id x (proposal_in id ds))) (sym (ap (λ (x : Entry). x.event) same ∙ is))
    (found_here id floor wants (proposal_in id ds))
proposal_there id (d ∷ ds) e floor wants (inr i) is =
    found_later id d.event (proposal_in id ds) (proposal_there id ds e floor wants i is)

module _ (id : Id) (h : ℕ → List Entry) (floor : ℕ) where
  -- proposals of the id in these columns have this floor
  abbrev HaveFloor : List ℕ → Type 0
  HaveFloor cs = (c : ℕ) (p : ℕ × Counts) → In c cs → proposal_in id (h c) ≡ Some p → p.0 ≡ floor

  -- so it is told where there is one
  floor_is : (cs : List ℕ) → HaveFloor cs → (c : ℕ) → In c cs → IsFound (proposal_in id (h c)) → floor_told id h cs ≡ floor
  floor_is [] all c i f = absurd i
  floor_is (d ∷ ds) all c i f = turn (proposal_in id (h d)) refl i (λ j. floor_is ds (λ x p k. all x p (inr k)) c j f) where
    turn : (found : Option (ℕ × Counts)) → proposal_in id (h d) ≡ found → (d ≡ c) ⊎ In c ds
        → (In c ds → floor_told id h ds ≡ floor) → floor_or found (floor_told id h ds) ≡ floor
    turn (Some p) e j more = all d p (inl refl) e
    turn None e (inl same) more =
        let none = sym (ap (λ (x : ℕ). proposal_in id (h x)) same) ∙ e in
        let some = f.1 in
        absurd (let g : ⊥ = cc (none, some) in g)
    turn None e (inr j) more = more j

  -- and else the last stamp
  floor_or_last : (cs : List ℕ) → HaveFloor cs → (floor_told id h cs ≡ floor) ⊎ (floor_told id h cs ≡ last_stamp)
  floor_or_last [] all = inr refl
  floor_or_last (d ∷ ds) all = turn (proposal_in id (h d)) refl (floor_or_last ds (λ x p k. all x p (inr k))) where
    turn : (found : Option (ℕ × Counts)) → proposal_in id (h d) ≡ found
        → (floor_told id h ds ≡ floor) ⊎ (floor_told id h ds ≡ last_stamp)
        → (floor_or found (floor_told id h ds) ≡ floor) ⊎ (floor_or found (floor_told id h ds) ≡ last_stamp)
    turn (Some p) e more = inl (all d p (inl refl) e)
    turn None e more = more

-- wants beside their colours
wants_beside : (w : ℕ → Counts) (cs : List ℕ) (c : ℕ) → In c cs → wants_of cs (map w cs) c ≡ w c
wants_beside w [] c i = absurd i
wants_beside w (d ∷ ds) c i =
    by_test _ (d == c)
    (λ t. if_true (d == c) (w d) (wants_of ds (map w ds) c) t ∙ ap w (eqb-true d c t))
    (λ f. if_false (d == c) (w d) (wants_of ds (map w ds) c) f ∙ turn f i (wants_beside w ds c)) where
      turn : (d == c) ≡ false → (d ≡ c) ⊎ In c ds → (In c ds → wants_of ds (map w ds) c ≡ w c)
          → wants_of ds (map w ds) c ≡ w c
      turn f (inl e) more = let t = eq-eqb d c e in absurd (let g : ⊥ = cc (f, t) in g)
      turn f (inr j) more = more j

-- ROWS

-- a mark of a node is one of another with its id, where its column leaves no stamp for that one's floor either
mark_of : (h : List Entry) (x y : Node) → x.id ≡ y.id → (IsAtEnd h x.floor → IsAtEnd h y.floor) → (mark : Mark)
    → IsMarkOf h x mark → IsMarkOf h y mark
mark_of h x y e f marks.None m = subst (λ (i : Id). (stamp : ℕ) → Proposes h i stamp → ⊥) e m
mark_of h x y e f (marks.Number s) m = subst (λ (i : Id). Proposes h i s) e m
mark_of h x y e f (marks.Fenced Memory) m = subst (λ (i : Id). (stamp : ℕ) → Proposes h i stamp → ⊥) e m
mark_of h x y e f (marks.Fenced StampEnd) m = (subst (λ (i : Id). (stamp : ℕ) → Proposes h i stamp → ⊥) e m.0, f m.1)

-- A row beside one of the same report: it fits, has the same colours, its floor leaves no stamp where the other's does not, and
-- proposals tell its floor and wants where they tell the other's.
pub record IsRowBeside (region : ℕ) (histories : ℕ → List Entry) (x y : BegunRow) : Type 0 where
  pub fit : FitsRow region y
  pub colours : members y.node.colours ≡ members x.node.colours
  pub at_end : (h : List Entry) → IsAtEnd h x.node.floor → IsAtEnd h y.node.floor
  pub proposed : (c : ℕ) (e : Entry) (floor : ℕ) (wants : Counts) → In c (members x.node.colours) → In e (histories c)
      → e.event ≡ Propose x.node.id floor wants → x.node.floor ≡ floor → node_wants x.node c ≡ wants
      → (y.node.floor ≡ floor) × (node_wants y.node c ≡ wants)

module _ (script : Script) (report : Report) (nodes : ℕ → List Node) (a : Account) (well : IsWellFormed script report)
    (ta : IsTold script report a) (first : Rule1 script report a) (rule : Rule3 script a) where
  abbrev b : Account
  b = account_of script report nodes

  abbrev pub told_of : ℕ → ℕ → List Entry
  told_of = journal_among report.columns

  pub alike : (r c : ℕ) → HasColumn script r c → a.log.histories r c ≡ told_of r c
  alike = histories_alike script report a b ta (reports_tell script report nodes well) first

  -- a row of a region, with its node as it is computed
  abbrev pub row_with : ℕ → BegunRow → BegunRow
  row_with region x = row_of told_of nodes (row_report region x)

  pub rows_are : (region : ℕ) → region < script.shape.regions → b.log.rows region ≡ map (row_with region) (a.log.rows region)
  rows_are region lt =
      ap (map (row_of told_of nodes))
      (sym (rows_alike script report a b ta (reports_tell script report nodes well) region lt
      ∙ rows_again told_of nodes region report.rows))
      ∙ map_map (row_of told_of nodes) (row_report region) (a.log.rows region)

  pub same_id_with : (region : ℕ) (x : BegunRow) → (row_with region x).node.id ≡ x.node.id
  same_id_with region x = its_id told_of nodes (row_report region x) (slice_get (nodes x.node.id.client) x.node.id.count)

  module _ (region : ℕ) (lt : region < script.shape.regions)
      (beside : (x : BegunRow) → In x (a.log.rows region) → IsRowBeside region (told_of region) x (row_with region x)) where
    abbrev rows : List BegunRow
    rows = a.log.rows region

    lawful : AreLawfulRows region script.shape.colours (a.log.histories region) rows
    lawful = rule.lawful region lt

    its_marks : (x : BegunRow) → In x rows
        → All (λ (m : ColourMark). IsMarkOf (a.log.histories region m.colour) x.node m.mark) x.marks
        → All (λ (m : ColourMark). IsMarkOf (told_of region m.colour) (row_with region x).node m.mark) x.marks
    its_marks x i all = all_in (λ (m : ColourMark). IsMarkOf (told_of region m.colour) (row_with region x).node m.mark) x.marks
        (λ m j.
        let less = All-contains (λ (k : ColourMark). k.colour < script.shape.colours) x.marks m
        (All-contains (λ (r : BegunRow). All (λ (k : ColourMark). k.colour < script.shape.colours) r.marks) rows x
        (rule.marked region lt) (contains_in rows x i)) (contains_in x.marks m j) in
        subst (λ (h : List Entry). IsMarkOf h (row_with region x).node m.mark) (alike region m.colour (lt, less))
        (mark_of (a.log.histories region m.colour) x.node (row_with region x).node (sym (same_id_with region x))
        ((beside x i).at_end (a.log.histories region m.colour)) m.mark
        (All-contains (λ (k : ColourMark). IsMarkOf (a.log.histories region k.colour) x.node k.mark) x.marks m all
        (contains_in x.marks m j))))

    -- of each row
    of_rows : (P Q : BegunRow → Type 0) → ((x : BegunRow) → In x rows → P x → Q (row_with region x)) → All P rows
        → All Q (map (row_with region) rows)
    of_rows P Q f all = all_in Q (map (row_with region) rows) (λ y i.
        let m = in_map (row_with region) rows y i in
        subst Q m.2 (f m.0 m.1 (All-contains P rows m.0 all (contains_in rows m.0 m.1))))

    its_event : (c : ℕ) (e : Entry) → In e (told_of region c) → (event : Event) → e.event ≡ event
        → FitsRows rows c event → FitsRows (map (row_with region) rows) c event
    its_event c e among (Single id floor wants) is f =
        of_rows (λ (r : BegunRow). r.node.id ≢ id) (λ (r : BegunRow). r.node.id ≢ id)
        (λ x i p s. p (sym (same_id_with region x) ∙ s)) f
    its_event c e among (Propose id floor wants) is (n, r, at, of_id, its_wants, its_floor, k, there) =
        let i = slice_in rows n r at in
        let told = (beside r i).proposed c e floor wants (slice_in (members r.node.colours) k c there) among
        (is ∙ ap (λ (d : Id). Propose d floor wants) (sym of_id)) its_floor its_wants in (
          n,
          row_with region r,
          slice_mapped (row_with region) rows n r at,
          same_id_with region r ∙ of_id,
          told.1,
          told.0,
          k,
          subst (λ (l : List ℕ). slice_get l k ≡ Some c) (sym (beside r i).colours) there,
        )
    its_event c e among (Settle id outcome) is (n, r, at, of_id, last) =
        (n, row_with region r, slice_mapped (row_with region) rows n r at, same_id_with region r ∙ of_id, last)
    its_event c e among (Raise to) is f = tt
    its_event c e among (Give other from) is f = tt
    its_event c e among (Carry other start heads) is f = tt
    its_event c e among (Trim counts) is f = tt

    its_lawful : AreLawfulRows region script.shape.colours (told_of region) (map (row_with region) rows)
    its_lawful = record {
      in_order = λ client. numbers client (filter_mapped (row_with region) (is_of client) rows) (lawful.in_order client);
      fit = of_rows (FitsRow region) (FitsRow region) (λ x i f. (beside x i).fit) lawful.fit;
      ids_differ = pairs_mapped (row_with region) (λ r s. r.node.id ≢ s.node.id) (λ r s. r.node.id ≢ s.node.id)
          (λ x y ne e. ne (sym (same_id_with region x) ∙ (e ∙ same_id_with region y))) rows lawful.ids_differ;
      marks = of_rows (λ (r : BegunRow). All (λ (m : ColourMark). IsMarkOf (a.log.histories region m.colour) r.node m.mark) r.marks)
          (λ (r : BegunRow). All (λ (m : ColourMark). IsMarkOf (told_of region m.colour) r.node m.mark) r.marks)
          its_marks lawful.marks;
      outcomes = of_rows (λ (r : BegunRow). FitsMarks (map (λ (m : ColourMark). m.mark) r.marks) r.last)
          (λ (r : BegunRow). FitsMarks (map (λ (m : ColourMark). m.mark) r.marks) r.last) (λ x i f. f) lawful.outcomes;
      events = λ c less. all_in (λ (e : Entry). FitsRows (map (row_with region) rows) c e.event) (told_of region c) (λ e among.
          its_event c e among e.event refl
          (All-contains (λ (d : Entry). FitsRows rows c d.event) (a.log.histories region c) e (lawful.events c less)
          (contains_in (a.log.histories region c) e (subst (In e) (sym (alike region c (lt, less))) among))));
    } where
      numbers : (client : ℕ)
          → filter (is_of client) (map (row_with region) rows) ≡ map (row_with region) (filter (is_of client) rows)
          → map (λ (r : BegunRow). r.row.number) (filter (is_of client) rows)
          ≡ range_with_len 0 (length (filter (is_of client) rows))
          → map (λ (r : BegunRow). r.row.number) (filter (is_of client) (map (row_with region) rows))
          ≡ range_with_len 0 (length (filter (is_of client) (map (row_with region) rows)))
      numbers client e order =
          ap (map (λ (r : BegunRow). r.row.number)) e
          ∙ (map_map (λ (r : BegunRow). r.row.number) (row_with region) (filter (is_of client) rows)
          ∙ (order
          ∙ ap (range_with_len 0)
          (sym (length-map (filter (is_of client) rows) (row_with region)) ∙ ap length (sym e))))

  -- so the third rule holds where each row is beside one
  pub third_beside : ((region : ℕ) → region < script.shape.regions → (x : BegunRow) → In x (a.log.rows region)
      → IsRowBeside region (told_of region) x (row_with region x)) → Rule3 script b
  third_beside beside = record {
    of_clients = λ region lt. subst (All (λ (r : BegunRow). IsClientIn script region r.row.client)) (sym (rows_are region lt))
        (of_rows region lt (beside region lt) (λ (r : BegunRow). IsClientIn script region r.row.client)
        (λ (r : BegunRow). IsClientIn script region r.row.client) (λ x i f. f) (rule.of_clients region lt));
    lawful = λ region lt. subst (AreLawfulRows region script.shape.colours (told_of region)) (sym (rows_are region lt))
        (its_lawful region lt (beside region lt));
    marked = λ region lt. subst (All (λ (r : BegunRow). All (λ (m : ColourMark). m.colour < script.shape.colours) r.marks))
        (sym (rows_are region lt))
        (of_rows region lt (beside region lt)
        (λ (r : BegunRow). All (λ (m : ColourMark). m.colour < script.shape.colours) r.marks)
        (λ (r : BegunRow). All (λ (m : ColourMark). m.colour < script.shape.colours) r.marks) (λ x i f. f)
        (rule.marked region lt));
    copies = λ c less origin copier lo lc apart.
        subst (λ (h : List Entry). IsTrueCopy origin copier (dated origin (told_of origin c)) (dated copier h))
        (alike copier c (lc, less))
        (subst (λ (h : List Entry). IsTrueCopy origin copier (dated origin h) (dated copier (a.log.histories copier c)))
        (alike origin c (lo, less)) (rule.copies c less origin copier lo lc apart));
  }

-- BARE NODES

module _ (script : Script) (report : Report) (a : Account) (well : IsWellFormed script report)
    (ta : IsTold script report a) (first : Rule1 script report a) (rule : Rule3 script a) where
  abbrev told : ℕ → ℕ → List Entry
  told = told_of script report no_nodes a well ta first rule

  abbrev bare : ℕ → BegunRow → BegunRow
  bare = row_with script report no_nodes a well ta first rule

  module _ (region : ℕ) (lt : region < script.shape.regions) (x : BegunRow) (i : In x (a.log.rows region)) where
    abbrev cs : List ℕ
    cs = marked_colours x.marks

    fit : FitsRow region x
    fit = All-contains (FitsRow region) (a.log.rows region) x (rule.lawful region lt).fit
        (contains_in (a.log.rows region) x i)

    below : (c : ℕ) → In c cs → c < script.shape.colours
    below c j =
        let m = in_map (λ (k : ColourMark). k.colour) x.marks c j in
        let all = All-contains (λ (r : BegunRow). All (λ (k : ColourMark). k.colour < script.shape.colours) r.marks)
        (a.log.rows region) x (rule.marked region lt) (contains_in (a.log.rows region) x i) in
        subst (λ (k : ℕ). k < script.shape.colours) m.2
        (All-contains (λ (k : ColourMark). k.colour < script.shape.colours) x.marks m.0 all (contains_in x.marks m.0 m.1))

    colours_are : members (set_of cs) ≡ cs
    colours_are = subst (λ (l : List ℕ). members (set_of l) ≡ l) (sym fit.a_mark_each) (members_again x.node.colours)

    -- what a proposal of the row's id tells is its node's
    tells : (c : ℕ) → c < script.shape.colours → (p : ℕ × Counts) → proposal_in x.node.id (told region c) ≡ Some p
        → (x.node.floor ≡ p.0) × (node_wants x.node c ≡ p.1)
    tells c less p e =
        let f = proposal_from x.node.id (told region c) p e in
        let among = subst (In f.0) (sym (alike script report no_nodes a well ta first rule region c (lt, less))) f.1 in
        let fits = subst (FitsRows (a.log.rows region) c) f.2
        (All-contains (λ (d : Entry). FitsRows (a.log.rows region) c d.event) (a.log.histories region c) f.0
        ((rule.lawful region lt).events c less) (contains_in (a.log.histories region c) f.0 among)) in
        let same : fits.1 ≡ x =
        same_by (λ (r : BegunRow). r.node.id) (a.log.rows region) (rule.lawful region lt).ids_differ fits.1 x
        (slice_in (a.log.rows region) fits.0 fits.1 fits.2) i fits.3 in (
          ap (λ (r : BegunRow). r.node.floor) (sym same) ∙ fits.5,
          ap (λ (r : BegunRow). node_wants r.node c) (sym same) ∙ fits.4,
        )

    floors : HaveFloor x.node.id (told region) x.node.floor cs
    floors c p j e = sym (tells c (below c j) p e).0

    bare_at_end : (h : List Entry) → IsAtEnd h x.node.floor → IsAtEnd h (bare region x).node.floor
    bare_at_end h e = turn (floor_or_last x.node.id (told region) x.node.floor cs floors) where
      turn : ((bare region x).node.floor ≡ x.node.floor) ⊎ ((bare region x).node.floor ≡ last_stamp)
          → IsAtEnd h (bare region x).node.floor
      turn (inl s) = subst (IsAtEnd h) (sym s) e
      turn (inr s) = subst (IsAtEnd h) (sym s)
          (let f : max (clock h) x.node.floor ≡ last_stamp = e in let g : max (clock h) last_stamp ≡ last_stamp = omega (arith, f) in g)

    bare_proposed : (c : ℕ) (e : Entry) (floor : ℕ) (wants : Counts) → In c (members x.node.colours) → In e (told region c)
        → e.event ≡ Propose x.node.id floor wants → x.node.floor ≡ floor → node_wants x.node c ≡ wants
        → ((bare region x).node.floor ≡ floor) × (node_wants (bare region x).node c ≡ wants)
    bare_proposed c e floor wants k among is its_floor its_wants =
        let found = proposal_there x.node.id (told region c) e floor wants among is in
        let j : In c cs = subst (In c) (sym fit.a_mark_each) k in
        let p = tells c (below c j) found.0 found.1 in (
          floor_is x.node.id (told region) x.node.floor cs floors c j found ∙ its_floor,
          ap (λ (l : List ℕ). wants_of l (map (λ d. wants_or (proposal_in x.node.id (told region d))) cs) c) colours_are
              ∙ (wants_beside (λ d. wants_or (proposal_in x.node.id (told region d))) cs c j
              ∙ (ap wants_or found.1 ∙ (sym p.1 ∙ its_wants))),
        )

    bare_beside : IsRowBeside region (told region) x (bare region x)
    bare_beside = record {
      fit = record {
        client = fit.client;
        row = refl;
        in_region = refl;
        several = let n = fit.several in let l = ap length fit.a_mark_each in let m = ap length colours_are in
            omega (arith, n, l, m);
        a_mark_each = sym colours_are;
      };
      colours = colours_are ∙ fit.a_mark_each;
      at_end = bare_at_end;
      proposed = bare_proposed;
    }

  pub third : Rule3 script (account_of script report no_nodes)
  third = third_beside script report no_nodes a well ta first rule bare_beside
