-- How many entries of a lawful history are open after each number of its events.
use Rattle.std.proofs.Common.{◌≡◌, ◌⊎◌, ◌∙◌, refl, ap, sym, subst, Bool, true, false, cond, ℕ, ◌+◌, ◌<◌, ◌≤◌, List, [], ◌∷◌, ◌++◌, length, map, take, drop, get_or, Option, Some, inl, inr, arith}
use Rattle.std.specs.Prelude.{not, reverse, slice_get, slice_index}
use Rattle.std.specs.List.{range_with_len}
use Rattle.std.proofs.lemmas.Bool.{true≢false}
use Rattle.std.proofs.lemmas.List.{map-append, take-append-drop, take_more}
use Rattle.std.proofs.lemmas.List.FromFn.{length-range_with_len}
use Rattle.std.proofs.lemmas.Option.{get_or_from_slice_get}
use Rattle.log_node.specs.declared.ids.Id.{Id}
use Rattle.log_node.specs.declared.marks.Outcome.TheVariants.{Open, Gone, Final}
use Rattle.log_node.specs.Order.{key_below, same_id}
use Rattle.log_node.specs.Standings.{Standing, with_entry, without_id}
use Rattle.log_node.proofs.CallerLemmas.{get_map, get_range, get_within, key-irrefl, same_id-is, same_id-refl, same_some}
use Rattle.col_core.specs.declared.Event.{Event}
use Rattle.col_core.specs.declared.Event.TheVariants.{Single, Propose, Settle, Raise, Give, Carry, Trim}
use Rattle.col_core.specs.declared.Entry.{Entry}
use Rattle.col_core.specs.Computed.{dated}
use Rattle.col_core.specs.History as History
use Rattle.col_core.specs.History.{entry_key, open_count}
use Rattle.col_core.specs.Legal.{IsColumnHistory}
use Rattle.col_core.proofs.CallerLemmas.{In, IsLawfulPast, Rises, Waits, by_test, choice, entries, entries-of, if_false, if_true, lawful_beginning, past_is_lawful, reverse-push, rises, shown, standing_of, stands, status}
use Rattle.report_text.specs.declared.report.ColumnReport.{ColumnReport}
use Rattle.lawful_run.proofs.CallerLemmas.{range_more}
use Rattle.walk_law.specs.PlaceTables.{places_at}
use Rattle.walk_law.specs.Twelfth.{open_behind, opens_in, opens_of, opens_to}

-- ONE EVENT

count_with : (e : Standing) (es : List Standing) → open_count (with_entry e es) ≡ cond e.settled 0 1 + open_count es
count_with e [] = refl
count_with e (f ∷ fs) =
    choice (λ (l : List Standing). open_count l ≡ cond e.settled 0 1 + open_count (f ∷ fs)) (key_below e.key f.key) (e ∷ f ∷ fs)
    (f ∷ with_entry e fs) (λ _. refl) (λ _. let h = count_with e fs in omega (arith, h))

-- nothing is taken out where no entry has the id
none_out : (id : Id) (es : List Standing) → ((f : Standing) → In f es → same_id f.key.id id ≡ false) → without_id id es ≡ es
none_out id [] none = refl
none_out id (e ∷ es) none =
    if_true (not (same_id e.key.id id)) (e ∷ without_id id es) (without_id id es) (ap not (none e (inl refl)))
    ∙ ap (λ (l : List Standing). e ∷ l) (none_out id es (λ f i. none f (inr i)))

-- the only entry with an id is open, and one less is open without it
one_out : (id : Id) (x : Standing) → x.settled ≡ false → same_id x.key.id id ≡ true → (es : List Standing) → Rises es → In x es
    → ((f : Standing) → In f es → same_id f.key.id id ≡ true → f ≡ x) → open_count es ≡ open_count (without_id id es) + 1
unfolding Rises
one_out id x opened own [] rise i only = absurd i
one_out id x opened own (e ∷ es) rise i only =
    by_test (open_count (e ∷ es) ≡ open_count (without_id id (e ∷ es)) + 1) (same_id e.key.id id) here
    (there (λ j. one_out id x opened own es rise.1 j (λ g k. only g (inr k)))) where
      here : same_id e.key.id id ≡ true → open_count (e ∷ es) ≡ open_count (without_id id (e ∷ es)) + 1
      here t =
          let same = only e (inl refl) t in
          let out : without_id id (e ∷ es) ≡ es =
          if_false (not (same_id e.key.id id)) (e ∷ without_id id es) (without_id id es) (ap not t)
          ∙ none_out id es (λ f j. by_test (same_id f.key.id id ≡ false) (same_id f.key.id id)
          (λ u. absurd (key-irrefl e.key (subst (λ (y : Standing). key_below e.key y.key ≡ true)
          (only f (inr j) u ∙ sym same) (rise.0 f j)))) (λ f. f)) in
          let count = ap open_count out in
          let one : ◌≡◌ {A = ℕ} (cond e.settled 0 1) 1 = ap (λ (b : Bool). cond b 0 1) (ap (λ (y : Standing). y.settled) same ∙ opened) in
          omega (arith, count, one)

      rest : (e ≡ x) ⊎ In x es → same_id e.key.id id ≡ false → In x es
      rest (inl same) f = absurd (true≢false (sym (ap (λ (y : Standing). same_id y.key.id id) same ∙ own) ∙ f))
      rest (inr j) f = j

      there : (In x es → open_count es ≡ open_count (without_id id es) + 1) → same_id e.key.id id ≡ false
          → open_count (e ∷ es) ≡ open_count (without_id id (e ∷ es)) + 1
      there later f =
          let more = later (rest i f) in
          let kept = ap open_count
          (if_true (not (same_id e.key.id id)) (e ∷ without_id id es) (without_id id es) (ap not f)) in
          omega (arith, more, kept)

-- a settled id has been open
settled_out : (past : List Entry) → IsLawfulPast past → (id : Id) (stamp : ℕ) → status id past ≡ Waits stamp
    → open_count (entries past) ≡ open_count (without_id id (entries past)) + 1
settled_out past lawful id stamp waits =
    one_out id x refl (same_id-refl id) (entries past) (rises past lawful)
    (stands past lawful id x (ap (standing_of id) waits))
    (λ f i t. same_some (sym (shown past lawful f i)
    ∙ (ap (λ (d : Id). standing_of d (status d past)) (same_id-is f.key.id id t) ∙ ap (standing_of id) waits))) where
      x : Standing
      x = record { key = entry_key stamp id; settled = false }

open_next : (past : List Entry) (by stamp : ℕ) (event : Event)
    → IsLawfulPast (record { by = by; event = event; stamp = stamp } ∷ past)
    → open_count (entries (record { by = by; event = event; stamp = stamp } ∷ past)) ≡ open_behind (open_count (entries past)) event
open_next past by stamp (Single id floor wants) lawful =
    let c = count_with (record { key = entry_key stamp id; settled = true }) (entries past) in omega (arith, c)
open_next past by stamp (Propose id floor wants) lawful =
    let c = count_with (record { key = entry_key stamp id; settled = false }) (entries past) in omega (arith, c)
open_next past by stamp (Settle id Open) lawful = absurd lawful.0.settling
open_next past by stamp (Settle id (Gone why)) lawful =
    let c = settled_out past lawful.1 id lawful.0.stamp lawful.0.waits in omega (arith, c)
open_next past by stamp (Settle id (Final f)) lawful =
    let c = settled_out past lawful.1 id lawful.0.stamp lawful.0.waits in
    let d = count_with (record { key = entry_key f id; settled = true }) (without_id id (entries past)) in omega (arith, c, d)
open_next past by stamp (Raise to) lawful = refl
open_next past by stamp (Give region from) lawful = refl
open_next past by stamp (Carry region start heads) lawful = refl
open_next past by stamp (Trim counts) lawful = refl

pub open_few : (before : ℕ) (event : Event) → open_behind before event ≤ before + 1
open_few before (Single id floor wants) = omega arith
open_few before (Propose id floor wants) = omega arith
open_few before (Settle id outcome) = omega arith
open_few before (Raise to) = omega arith
open_few before (Give region from) = omega arith
open_few before (Carry region start heads) = omega arith
open_few before (Trim counts) = omega arith

-- ALL EVENTS

abbrev pub open_after : List Entry → ℕ → ℕ
open_after history events = open_count (History.entries (take events history))

module _ (own regions : ℕ) (history : List Entry) (lawful : IsColumnHistory own regions (dated own history)) where
  pub opens_next : (n : ℕ) (e : Entry) → n < length history → e ≡ get_or history n e
      → open_after history (n + 1) ≡ open_behind (open_after history n) e.event
  opens_next n e lt is =
      let before = take n history in
      let longer : take (n + 1) history ≡ before ++ e ∷ [] =
      take_more history n e lt ∙ ap (λ (x : Entry). before ++ x ∷ []) (sym is) in
      let past = reverse before in
      let so_far : IsLawfulPast (e ∷ past) =
      subst IsLawfulPast (ap reverse longer ∙ reverse-push e before)
      (past_is_lawful own regions (take (n + 1) history)
      (lawful_beginning own regions (take (n + 1) history) (drop (n + 1) history)
      (subst (λ (h : List Entry). IsColumnHistory own regions (dated own h)) (sym (take-append-drop (n + 1) history)) lawful))) in
      ap (λ (h : List Entry). open_count (History.entries h)) longer
      ∙ (ap open_count (entries-of (before ++ e ∷ []) ∙ ap entries (reverse-push e before))
      ∙ (open_next past e.by e.stamp e.event so_far
      ∙ ap (λ (es : List Standing). open_behind (open_count es) e.event) (sym (entries-of before))))

pub opens_more : (history : List Entry) (n : ℕ) → opens_to history (n + 1) ≡ opens_to history n ++ open_after history n ∷ []
opens_more history n =
    let zero_plus : 0 + n ≡ n = omega arith in
    ap (map (open_after history)) (range_more 0 n)
    ∙ (map-append (open_after history) (range_with_len 0 n) ((0 + n) ∷ [])
    ∙ ap (λ (k : ℕ). opens_to history n ++ open_after history k ∷ []) zero_plus)

-- what a table has
pub opens_at : (columns : List ColumnReport) (n : ℕ) (c : ColumnReport) → slice_get columns n ≡ Some c → (k : ℕ)
    → k ≤ length c.journal → slice_index (places_at (opens_in columns) n) k ≡ open_after c.journal k
opens_at columns n c at k le =
    let list : places_at (opens_in columns) n ≡ opens_of c.journal =
    get_or_from_slice_get (opens_in columns) n (opens_of c.journal) []
    (get_map (λ (d : ColumnReport). opens_of d.journal) columns n c at) in
    let many = length-range_with_len 0 (length c.journal + 1) in
    let there = get_within (range_with_len 0 (length c.journal + 1)) k (omega (arith, le, many)) in
    let is = get_range 0 (length c.journal + 1) k there.0 there.1 in
    let e : there.0 ≡ k = omega (arith, is) in
    ap (λ (l : List ℕ). slice_index l k) list
    ∙ get_or_from_slice_get (opens_of c.journal) k (open_after c.journal k) 0
    (get_map (open_after c.journal) (range_with_len 0 (length c.journal + 1)) k k
    (there.1 ∙ ap (λ (m : ℕ). let o : Option ℕ = Some m in o) e))

-- one column more
pub columns_more : (columns : List ColumnReport) (n : ℕ) (c : ColumnReport) → n < length columns → c ≡ get_or columns n c
    → opens_in (take (n + 1) columns) ≡ opens_in (take n columns) ++ opens_of c.journal ∷ []
columns_more columns n c lt is =
    ap opens_in (take_more columns n c lt ∙ ap (λ (x : ColumnReport). take n columns ++ x ∷ []) (sym is))
    ∙ map-append (λ (x : ColumnReport). opens_of x.journal) (take n columns) (c ∷ [])
