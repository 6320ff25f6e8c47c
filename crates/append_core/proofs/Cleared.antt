-- Open entries below a key under the clock: some only leave.
use Rattle.std.proofs.Common.{◌≡◌, ℕ, ◌+◌, ◌<◌, ◌≤◌, List, [], ◌∷◌, ◌++◌, length, Option, Some, None, Bool, true, false, cond}
use Rattle.std.proofs.Common.{refl, ap, sym, subst, ◌∙◌, arith, inl, inr}
use Rattle.std.specs.Prelude.{◌||◌, ◌&&◌, ◌==◌, ◌≢◌, not, nat_lt, reverse}
use Rattle.std.specs.List.{find, filter}
use Rattle.std.specs.Option.{option_map}
use Rattle.std.proofs.lemmas.Bool.{true≢false, and_parts, and_from, cases_order, ltb-true}
use mathlib.Core.List.{IsPrefix}
use Rattle.log_node.specs.declared.ids.Id.{Id}
use Rattle.log_node.specs.declared.ids.Key.{Key}
use Rattle.log_node.specs.declared.ids.Colours.{Colours}
use Rattle.log_node.specs.declared.marks.Mark.TheVariants.{Fenced}
use Rattle.log_node.specs.Sets.{has}
use Rattle.log_node.specs.Seen.{BegunAppend}
use Rattle.log_node.specs.Order.{same_id, id_below, key_below}
use Rattle.log_node.specs.Standings.{Standing, open_entry, is_open_id}
use Rattle.col_core.specs.declared.Entry.{Entry}
use Rattle.col_core.specs.History.{clock, entries, entry_key}
use Rattle.col_core.specs.Computed.{dated}
use Rattle.col_core.specs.Legal.{IsColumnHistory}
use Rattle.col_core.specs.Ids.{is_open_below, open_below}
use Rattle.col_core.proofs.CallerLemmas.{In, Rises, in_contains, contains_in, in_filter, in_filter-back, rises, rises-filter}
use Rattle.col_core.proofs.CallerLemmas.{by_test, entries-of, fewer, fewer_less, key-stamps, opens_above, past_is_lawful}
use Rattle.col_core.proofs.CallerLemmas.{clocks_rise, same_id-refl}
use Rattle.stamp_board.specs.declared.view.Size.{Size}
use Rattle.stamp_board.specs.Rows.{IsRow}
use Rattle.chain_store.specs.declared.hold.Hold.{Hold}
use Rattle.chain_store.specs.declared.region.Region.{Region}
use Rattle.chain_store.specs.Histories.{entries_in}
use Rattle.chain_store.specs.Holds.{IsHold, SameBut, SeesMoreIn, seen_in, entries_seen, view_of}
use Rattle.chain_store.specs.Proposals.{IsMarkedOpen}
use Rattle.chain_store.specs.Going.{GoesOn}
use Rattle.append_core.specs.Helping.{HelpsOpen, IsStepIn, IsUnderClock, MayBeOpenIn, WasOpen}
use Rattle.append_core.specs.Settled.{HoldKnowsComplete}
use Rattle.chain_store.proofs.CallerLemmas.{goes_then, goes_weaken, looks_on}
use Rattle.append_core.proofs.Lasting.{found, finds, longer, lawful_longer}

-- which keys are under the clock

not_below : (n m : ℕ) → m ≤ n → nat_lt n m ≡ false
not_below n m le = by_test (nat_lt n m ≡ false) (nat_lt n m)
    (λ yes. absurd (let lt = ltb-true n m yes in let f : ⊥ = omega (arith, lt, le) in f)) (λ no. no)

neither : (a b c : Bool) → a ≡ false → c ≡ false → (a || (b && c)) ≡ false
neither false true false p q = refl
neither false false false p q = refl
neither true b c p q = absurd (true≢false p)
neither false b true p q = absurd (true≢false q)

-- those with a stamp at most the clock
pub under_clock : (key : Key) (history : List Entry) → key.stamp ≤ clock history → IsUnderClock key history
under_clock key history le = λ k above.
    by_test (key_below k key ≡ false) (key_below k key)
    (λ yes. absurd (let low = key-stamps k key yes in let f : ⊥ = omega (arith, low, le, above) in f)) (λ no. no)

-- and the least key with the next stamp
pub under_least : (w : ℕ) (history : List Entry) → w ≤ clock history
    → IsUnderClock (entry_key (w + 1) (record { client = 0; count = 0 })) history
under_least w history le = λ k above.
    neither (nat_lt k.stamp (w + 1)) (k.stamp == w + 1) (id_below k.id (record { client = 0; count = 0 }))
    (not_below k.stamp (w + 1) (omega (arith, le, above)))
    (neither (nat_lt k.id.client 0) (k.id.client == 0) (nat_lt k.id.count 0) (not_below k.id.client 0 (omega arith))
    (not_below k.id.count 0 (omega arith)))

-- the open entries of a longer history

module _ (own regions : ℕ) (history more : List Entry) (key : Key)
    (h : IsColumnHistory own regions (dated own (history ++ more))) (under : IsUnderClock key history) where
  low : (k : Key) → key_below k key ≡ true → k.stamp ≤ clock history
  low k below = elim (cases_order k.stamp (clock history)) [
    | inl e ↦ omega (arith, e)
    | inr (inl lt) ↦ omega (arith, lt)
    | inr (inr gt) ↦ absurd (true≢false (sym below ∙ under k gt))
  ]

  unsettled : (b : Bool) → not b ≡ true → b ≡ false
  unsettled true e = absurd (true≢false (sym e))
  unsettled false e = refl

  was_below : (z : Standing) → In z (open_below key (history ++ more)) → In z (open_below key history)
  was_below z i =
      let p = in_filter (is_open_below key) z (entries (history ++ more)) i in
      let q = and_parts (not z.settled) (key_below z.key key) p.1 in
      in_filter-back (is_open_below key) z (entries history)
      (in_contains (entries history) z
      (opens_above own regions history more z h (contains_in (entries (history ++ more)) z p.0)
      (unsettled z.settled q.0) (low z.key q.1))) p.1

  rising : Rises (open_below key (history ++ more))
  rising = rises-filter (is_open_below key) (entries (history ++ more))
      (subst Rises (sym (entries-of (history ++ more)))
      (rises (reverse (history ++ more)) (past_is_lawful own regions (history ++ more) h)))

  missing : (f : Standing) → open_entry f.key.id (entries (history ++ more)) ≡ None
      → In f (open_below key (history ++ more)) → ⊥
  missing f none i =
      let p = in_filter (is_open_below key) f (entries (history ++ more)) i in
      let q = and_parts (not f.settled) (key_below f.key key) p.1 in
      finds (is_open_id f.key.id) (entries (history ++ more)) f p.0
      (and_from (not f.settled) (same_id f.key.id f.key.id) q.0 (same_id-refl f.key.id)) none

  pub no_more : length (open_below key (history ++ more)) ≤ length (open_below key history)
  no_more = fewer (open_below key (history ++ more)) (open_below key history) rising was_below

  pub one_less : (f : Standing) → In f (open_below key history)
      → open_entry f.key.id (entries (history ++ more)) ≡ None
      → length (open_below key (history ++ more)) < length (open_below key history)
  one_less f i none = fewer_less (open_below key (history ++ more)) (open_below key history) f rising i
      (λ z j. (was_below z j, λ e. missing f none (subst (λ (x : Standing). In x (open_below key (history ++ more))) e j)))

-- those that a hold has seen, where it has seen more
module _ (r : Region) (g h : Hold) (k : ℕ) (key : Key) (is : IsHold r h) (lt : k < r.board.size.colours)
    (more : IsPrefix (seen_in g k) (seen_in h k)) (under : IsUnderClock key (entries_seen g k)) where
  pub under_later : IsUnderClock key (entries_seen h k)
  under_later = λ c above.
      let rise = (clocks_rise r.number r.regions (entries_seen g k) (entries_in more.0)
      (lawful_longer r g h k is lt more)).rises in
      let same : clock (entries_seen g k ++ entries_in more.0) ≡ clock (entries_seen h k) =
      ap clock (longer r g h k is lt more) in
      under c (omega (arith, rise, same, above))

  pub fewer_later : length (open_below key (entries_seen h k)) ≤ length (open_below key (entries_seen g k))
  fewer_later = subst (λ (l : List Entry). length (open_below key l) ≤ length (open_below key (entries_seen g k)))
      (longer r g h k is lt more)
      (no_more r.number r.regions (entries_seen g k) (entries_in more.0) key (lawful_longer r g h k is lt more) under)

  pub less_later : (f : Standing) → In f (open_below key (entries_seen g k))
      → open_entry f.key.id (entries (entries_seen h k)) ≡ None
      → length (open_below key (entries_seen h k)) < length (open_below key (entries_seen g k))
  less_later f i none =
      let same = longer r g h k is lt more in
      subst (λ (l : List Entry). length (open_below key l) < length (open_below key (entries_seen g k))) same
      (one_less r.number r.regions (entries_seen g k) (entries_in more.0) key (lawful_longer r g h k is lt more) under
      f i (subst (λ (l : List Entry). open_entry f.key.id (entries l) ≡ None) (sym same) none))

-- the least open entry below a key, of which a look has told the id

pub first_open : (key : Key) (es : List Standing) (id : Id) (o : Option Standing) → find (is_open_below key) es ≡ o
    → Some id ≡ option_map (λ (e : Standing). e.key.id) o
    → (f : Standing) × In f (filter (is_open_below key) es) × (f.key.id ≡ id) × (open_entry id es ≢ None)
first_open key es id None e is = absurd cc
first_open key es id (Some f) e is =
    let same : f.key.id ≡ id = (let g : id ≡ f.key.id = cc in sym g) in
    let p = found (is_open_below key) es f e in
    let q = and_parts (not f.settled) (key_below f.key key) p.1 in (
      f,
      in_filter-back (is_open_below key) f es p.0 p.1,
      same,
      finds (is_open_id id) es f p.0
          (and_from (not f.settled) (same_id f.key.id id) q.0
          (subst (λ (i : Id). same_id f.key.id i ≡ true) same (same_id-refl f.key.id))),
    )

none_kept : {A : Type 0} (test : A → Bool) (xs : List A) → find test xs ≡ None → filter test xs ≡ []
none_kept test [] e = refl
none_kept {A} test (y ∷ ys) e = by_case (test y) e (λ f. none_kept test ys f) where
  by_case : (b : Bool) → cond b (Some y) (find test ys) ≡ None → (find test ys ≡ None → filter test ys ≡ [])
      → cond b (y ∷ filter test ys) (filter test ys) ≡ []
  by_case true f rest = absurd (let g : ⊥ = cc f in g)
  by_case false f rest = rest f

-- where a look has found none there is none
pub none_open : (key : Key) (es : List Standing) (o : Option Standing) → find (is_open_below key) es ≡ o
    → None ≡ option_map (λ (e : Standing). e.key.id) o → filter (is_open_below key) es ≡ []
none_open key es None e is = none_kept (is_open_below key) es e
none_open key es (Some f) e is = absurd cc

pub empty : {A : Type 0} (xs : List A) → length xs ≤ 0 → xs ≡ []
empty [] le = refl
empty (x ∷ xs) le = absurd (let f : ⊥ = omega (arith, le) in f)

-- where the hold knew of a row of the append, it has the colour, and the hold knew no fence of it there
may_be_open : (r : Region) (g m : Hold) (b : BegunAppend) (k : ℕ) → IsHold r g → has b.colours k ≡ true
    → IsMarkedOpen r.board.size k (view_of g) (view_of m) (seen_in m k) b → MayBeOpenIn g b.id k
may_be_open r g m b k is coloured marked row x in_row begun of =
    let s = marked.same row x (subst (λ (z : Size). IsRow z row) is.seat.1 in_row) begun of in (
      subst (λ (c : Colours). has c k ≡ true) (sym s.1) coloured,
      λ why fenced. let e = s.2 (Fenced why) fenced in let f : ⊥ = cc (e) in f,
    )

-- a look that finds the least open entry, and help of its append
pub helped_open : (r : Region) (g m h : Hold) (b : BegunAppend) (k : ℕ) (key : Key) → IsHold r g → SameBut k g m
    → SeesMoreIn k g m
    → Some b.id ≡ option_map (λ (e : Standing). e.key.id) (find (is_open_below key) (entries (entries_seen m k)))
    → has b.colours k ≡ true → IsMarkedOpen r.board.size k (view_of g) (view_of m) (seen_in m k) b
    → GoesOn (IsStepIn b) m h → HoldKnowsComplete h b.id → GoesOn (λ c e. HelpsOpen g h e) g h
helped_open r g m h b k key is but sees first coloured marked goes complete =
    let f = first_open key (entries (entries_seen m k)) b.id
    (find (is_open_below key) (entries (entries_seen m k))) refl first in
    let was : WasOpen g h b.id = record {
      colour = k;
      log = seen_in m k;
      after = sees.more;
      before = goes.more k;
      opened = f.3;
      unfenced = may_be_open r g m b k is coloured marked;
    } in
    goes_then (λ c e. HelpsOpen g h e) g m h (looks_on (λ c e. HelpsOpen g h e) k g m but sees)
    (goes_weaken (IsStepIn b) m h (λ c e. HelpsOpen g h e) (λ c e step. (b.id, step.1, was, complete)) goes)
