-- A node that enters where no entry is open and the line is as long as it wants it: where it then stands.
use Rattle.std.proofs.Common.{◌≡◌, ◌≢◌, ℕ, ◌+◌, ◌<◌, ◌≤◌, Bool, true, false, cond, List, [], ◌∷◌, ◌++◌, length, map, reverse, Some, slice_get, refl, ap, sym, subst, ◌∙◌, arith, inl, inr, ◌⊎◌, append-nil}
use Rattle.std.specs.Prelude.{nat_lt, not, ◌==◌, ◌||◌}
use Rattle.std.specs.List.{Contains, filter, list_all}
use Rattle.std.proofs.lemmas.Bool.{ltb-true, ltb-false, eqb-true, eqb-false, not-true, not-false, or_cases, or_parts, or_left, and_from}
use Rattle.std.proofs.lemmas.List.{length-map, map-append}
use Rattle.log_node.specs.declared.ids.Id.{Id}
use Rattle.log_node.specs.declared.ids.Key.{Key}
use Rattle.log_node.specs.declared.ids.Counts.{Counts}
use Rattle.log_node.specs.declared.node.At.{At}
use Rattle.log_node.specs.declared.node.Node.{Node}
use Rattle.log_node.specs.Order.{key_below}
use Rattle.log_node.specs.Standings.{Standing, with_entry, is_delivered, line_of}
use Rattle.log_node.proofs.CallerLemmas.{key-asym, stamp-key, get_map, get_last}
use Rattle.col_core.specs.declared.Entry.{Entry}
use Rattle.col_core.specs.declared.Event.TheVariants.{Single}
use Rattle.col_core.specs.History.{clock, entries, entry_key, line, open_count}
use Rattle.col_core.specs.Computed.{dated}
use Rattle.col_core.specs.Legal.{IsColumnHistory}
use Rattle.col_core.specs.Rows.{node_wants}
use Rattle.col_core.proofs.CallerLemmas.{In, IsLawfulPast, clock-of, clocks_rise, entries-append, if_false, if_true, contains_in, lawful_beginning, past_is_lawful, reverse-push}
use Rattle.column.specs.Columns.{ColumnState, moved_from}
use Rattle.chain_store.specs.declared.hold.Hold.{Hold}
use Rattle.chain_store.specs.declared.region.Region.{Region}
use Rattle.chain_store.specs.declared.told.Told.{Told}
use Rattle.chain_store.specs.Histories.{entries_in}
use Rattle.chain_store.specs.Columns.{told_single}
use Rattle.chain_store.specs.Holds.{IsHold, seen_in, entries_seen}
use Rattle.chain_store.specs.Guarded.{wanted, IsNext, MakesNext}
use Rattle.chain_store.proofs.Resting.{lawful_seen}

-- whether a column has moved on
pub is_next : (column : ColumnState) (node : Node) → moved_from column node ≡ false
    → IsNext column.journal (wanted column.region column.colour node)
is_next column node stays =
    let p = or_parts (nat_lt 0 (open_count (entries column.journal)))
    (not (length (line column.journal) == wanted column.region column.colour node)) stays in
    let none = ltb-false 0 (open_count (entries column.journal)) p.0 in
    (omega (arith, none), eqb-true _ _ (not-false _ p.1))

pub not_next : (column : ColumnState) (node : Node) → moved_from column node ≡ true
    → (open_count (entries column.journal) ≢ 0)
    ⊎ (length (line column.journal) ≢ wanted column.region column.colour node)
not_next column node moved =
    elim (or_cases (nat_lt 0 (open_count (entries column.journal)))
    (not (length (line column.journal) == wanted column.region column.colour node)) moved) [
      | inl t ↦ inl (λ none. let some = ltb-true 0 (open_count (entries column.journal)) t in
          let f : ⊥ = omega (arith, none, some) in f)
      | inr t ↦ inr (eqb-false _ _ (not-true _ t))
    ]

-- entries of which none is open
settled_first : (b : Bool) (n : ℕ) → cond b 0 1 + n ≡ 0 → (b ≡ true) × (n ≡ 0)
settled_first true n none = (refl, omega (arith, none))
settled_first false n none = absurd (let f : ⊥ = omega (arith, none) in f)

all_over : (k : Key) (es : List Standing) → open_count es ≡ 0
    → list_all (λ (f : Standing). f.settled || key_below k f.key) es ≡ true
all_over k [] none = refl
all_over k (f ∷ es) none =
    let p = settled_first f.settled (open_count es) none in
    and_from (f.settled || key_below k f.key) _ (or_left f.settled (key_below k f.key) p.0) (all_over k es p.1)

-- all are delivered
all_kept : (all es : List Standing) → open_count all ≡ 0 → open_count es ≡ 0 → filter (is_delivered all) es ≡ es
all_kept all [] none rest = refl
all_kept all (e ∷ es) none rest =
    let p = settled_first e.settled (open_count es) rest in
    if_true (is_delivered all e) (e ∷ filter (is_delivered all) es) (filter (is_delivered all) es)
    (and_from e.settled _ p.0 (all_over e.key all none))
    ∙ ap (λ (l : List Standing). e ∷ l) (all_kept all es none p.1)

line_whole : (es : List Standing) → open_count es ≡ 0 → line_of es ≡ map (λ (e : Standing). e.key) es
line_whole es none = ap (map (λ (e : Standing). e.key)) (all_kept es es none none)

-- one more that is above all of them
with_last : (e : Standing) (es : List Standing) → ((f : Standing) → In f es → key_below f.key e.key ≡ true)
    → with_entry e es ≡ es ++ e ∷ []
with_last e [] above = refl
with_last e (f ∷ es) above =
    if_false (key_below e.key f.key) (e ∷ f ∷ es) (f ∷ with_entry e es) (key-asym f.key e.key (above f (inl refl)))
    ∙ ap (λ (l : List Standing). f ∷ l) (with_last e es (λ g i. above g (inr i)))

count-last : (k : Key) (es : List Standing)
    → open_count (es ++ record { key = k; settled = true } ∷ []) ≡ open_count es
count-last k [] = refl
count-last k (f ∷ es) = ap (λ (n : ℕ). cond f.settled 0 1 + n) (count-last k es)

-- a single in a lawful history
module _ (own regions : ℕ) (before : List Entry) (by : ℕ) (id : Id) (floor : ℕ) (wants : Counts) (stamp : ℕ)
    (lawful : IsColumnHistory own regions
    (dated own (before ++ record { by = by; event = Single id floor wants; stamp = stamp } ∷ []))) where
  abbrev e : Entry
  e = record { by = by; event = Single id floor wants; stamp = stamp }

  above_clock : clock before < stamp
  above_clock =
      let l : IsLawfulPast (e ∷ reverse before) =
      subst IsLawfulPast (reverse-push e before) (past_is_lawful own regions (before ++ e ∷ []) lawful) in
      let s = l.0.stamped in
      let c = clock-of before in
      omega (arith, s, c)

  above_all : (f : Standing) → In f (entries before) → key_below f.key (entry_key stamp id) ≡ true
  above_all f i =
      let all = append-nil before in
      let rises = clocks_rise own regions before []
      (subst (λ (l : List Entry). IsColumnHistory own regions (dated own l)) (sym all)
      (lawful_beginning own regions before (e ∷ []) lawful)) in
      let under = subst (λ (l : List Entry). f.key.stamp ≤ clock l) all (rises.stamps f
      (subst (λ (l : List Entry). Contains (entries l) f) (sym all) (contains_in (entries before) f i))) in
      let over = above_clock in
      stamp-key f.key (entry_key stamp id) (omega (arith, under, over))

  abbrev x : Standing
  x = record { key = entry_key stamp id; settled = true }

  entries_are : entries (before ++ e ∷ []) ≡ entries before ++ x ∷ []
  entries_are = entries-append before e ∙ with_last x (entries before) above_all

  -- stands next in the line where no entry was open
  pub stands_next : (count : ℕ) → IsNext before count
      → slice_get (line (before ++ e ∷ [])) count ≡ Some (entry_key stamp id)
  stands_next count next =
      let es = entries before in
      let none : open_count (es ++ x ∷ []) ≡ 0 = count-last (entry_key stamp id) es ∙ next.0 in
      let lined : line (before ++ e ∷ []) ≡ map (λ (f : Standing). f.key) (es ++ x ∷ []) =
      ap line_of entries_are ∙ line_whole (es ++ x ∷ []) none in
      let long : length es ≡ count =
      sym (length-map es (λ (f : Standing). f.key)) ∙ ap length (sym (line_whole es next.0)) ∙ next.1 in
      ap (λ (l : List Key). slice_get l count) lined
      ∙ subst (λ (n : ℕ). slice_get (map (λ (f : Standing). f.key) (es ++ x ∷ [])) n ≡ Some (entry_key stamp id)) long
      (get_map (λ (f : Standing). f.key) (es ++ x ∷ []) (length es) x (get_last es x))

-- as the hold has seen it
pub next_seen : (r : Region) (h : Hold) (k n : ℕ) (x : Node) (stamp count : ℕ) (old : List Told) (at : At) → IsHold r h
    → k < r.board.size.colours → MakesNext n (told_single k n x stamp) count old (seen_in h k) at
    → slice_get (line (entries_seen h k)) count ≡ Some (entry_key stamp x.id)
next_seen r h k n x stamp count old at is lt m =
    let before = entries_in m.made.before in
    let t = told_single k n x stamp in
    let whole : entries_seen h k ≡ before ++ t.entry ∷ [] =
    ap entries_in m.made.adds ∙ map-append (λ (u : Told). u.entry) m.made.before (t ∷ []) in
    ap (λ (l : List Entry). slice_get (line l) count) whole
    ∙ stands_next r.number r.regions before n x.id x.floor (node_wants x k) stamp
    (subst (λ (l : List Entry). IsColumnHistory r.number r.regions (dated r.number l)) whole (lawful_seen r h k is lt))
    count m.next
