-- One outcome of each id, lines that rise alike, and nothing of a fenced row.
use Rattle.std.proofs.Common.{◌≡◌, ℕ, ◌<◌, ◌≤◌, List, [], ◌∷◌, Some, Bool, true, false, cond, refl, subst, ap, sym, ◌∙◌, inl, inr, ◌⊎◌, arith}
use Rattle.std.specs.Prelude.{◌==◌, ◌&&◌, ◌≢◌, slice_get, reverse}
use Rattle.std.proofs.lemmas.Bool.{true≢false, ltb-true, cases_lt}
use Rattle.log_node.specs.declared.ids.Id.{Id}
use Rattle.log_node.specs.declared.ids.Row.{Row}
use Rattle.log_node.specs.declared.ids.Key.{Key}
use Rattle.log_node.specs.Order.{same_id, key_below}
use Rattle.log_node.specs.Sets.{members}
use Rattle.log_node.specs.declared.marks.Why.{Why}
use Rattle.log_node.specs.declared.marks.Why.TheVariants.{Memory, StampEnd}
use Rattle.log_node.specs.declared.marks.Mark.{Mark}
use Rattle.log_node.specs.declared.marks.Mark.TheVariants as marks
use Rattle.log_node.specs.declared.marks.Outcome.{Outcome}
use Rattle.log_node.specs.declared.marks.Outcome.TheVariants.{Open, Gone, Final}
use Rattle.log_node.specs.Outcomes.{outcome_of, is_stamp_end_fence, is_memory_fence, final_number}
use Rattle.log_node.specs.Standings.{Standing}
use Rattle.col_core.specs.declared.Event.TheVariants as events
use Rattle.col_core.specs.declared.Event.{Event}
use Rattle.col_core.specs.declared.Entry.{Entry}
use Rattle.col_core.specs.Cuts.{entries_of}
use Rattle.col_core.specs.Computed.{dated}
use Rattle.col_core.specs.History.{entries, line, entry_key}
use Rattle.col_core.proofs.CallerLemmas.{choice, by_test, if_true, apart, same_id-refl, same_id-true, line_rises}
use Rattle.col_core.proofs.CallerLemmas.{key-trans, key-irrefl, entries-of, In, shown, in_line, Status, Absent, Alone}
use Rattle.col_core.proofs.CallerLemmas.{Waits, Settled, status, settled_status, standing_of}
use Rattle.world_laws.specs.Worlds.{World, RowState, home_of, is_begun, row_of, marks_of, is_member}
use Rattle.world_laws.specs.Laws.{IsFinal, SettlesOnce, OneFinalStamp, EachLineRises, OrderedAlike, FencedIsNowhere}
use Rattle.world_laws.proofs.Basics.{in_contains, contains_in, in_reverse, slice_in}
use Rattle.world_laws.proofs.Held.{status_in, Kind, Unborn, OfSingle, OfRow, Agrees, column_mark, Fits, Held}
use Rattle.world_laws.proofs.Marks.{final_is, any_mark}
use Rattle.world_laws.proofs.Histories.{entries_dated, lawful_past_in}
use Rattle.world_laws.proofs.Keeps.{row_agrees}

-- what a row's id is settled as
settled_last : (m : Mark) (last : Outcome) (st : Status) (o : Outcome) → Agrees m last st → st ≡ Settled o → last ≡ o
settled_last marks.None last st o h e = absurd (let x : ⊥ = cc in x)
settled_last (marks.Fenced why) last st o h e = absurd (let x : ⊥ = cc in x)
settled_last (marks.Number s) last st o (inl h) e = absurd (let x : ⊥ = cc in x)
settled_last (marks.Number s) last st o (inr p) e = let q = p.1 in cc

not_settled : (b : Bool) (s : ℕ) (o : Outcome) → cond b (Alone s) Absent ≡ Settled o → ⊥
not_settled true s o e = cc
not_settled false s o e = cc

outcome_of_kind : World → Id → Kind → Outcome
outcome_of_kind w id Unborn = Open
outcome_of_kind w id (OfSingle region colour stamp) = Open
outcome_of_kind w id (OfRow n) = (w.rows id.client n).last

kind_settled : (w : World) (id : Id) (k : Kind) (r c : ℕ) (st : Status) (o : Outcome) → Fits w id k r c st
    → st ≡ Settled o → outcome_of_kind w id k ≡ o
unfolding outcome_of_kind
kind_settled w id Unborn r c st o h e = absurd (let x : ⊥ = cc in x)
kind_settled w id (OfSingle region colour stamp) r c st o h e =
    absurd (not_settled ((r == region) && (c == colour)) stamp o (sym h ∙ e))
kind_settled w id (OfRow n) r c st o h e =
    settled_last (column_mark (home_of w id.client) (w.rows id.client n) r c) (w.rows id.client n).last st o h.agrees e

pub settles_once : (w : World) → Held w → SettlesOnce w
settles_once w h id r c r' c' o o' a b =
    sym (kind_settled w id (h.kind id) r c _ o (h.fits id r c)
    (settled_status (reverse (w.histories r c)) (lawful_past_in w h r c) id o a.0
    (in_reverse a.0 (w.histories r c) (in_contains _ _ a.1)) a.2))
    ∙ kind_settled w id (h.kind id) r' c' _ o' (h.fits id r' c')
    (settled_status (reverse (w.histories r' c')) (lawful_past_in w h r' c') id o' b.0
    (in_reverse b.0 (w.histories r' c') (in_contains _ _ b.1)) b.2)

-- the final stamp of an id
final_of_kind : World → Id → Kind → ℕ
final_of_kind w id Unborn = 0
final_of_kind w id (OfSingle region colour stamp) = stamp
final_of_kind w id (OfRow n) = final_number (w.rows id.client n).last

single_final : (b : Bool) (s : ℕ) (id : Id) (st : Status) (e : Standing) → st ≡ cond b (Alone s) Absent
    → standing_of id st ≡ Some e → s ≡ e.key.stamp
single_final true s id st e h x =
    let y : standing_of id (Alone s) ≡ Some e = ap (standing_of id) (sym h)
    ∙ x in let z : record { key = entry_key s id; settled = true } ≡ e = cc in ap (λ (f : Standing). f.key.stamp) z
single_final false s id st e h x =
    let y : standing_of id Absent ≡ Some e = ap (standing_of id) (sym h) ∙ x in absurd (let z : ⊥ = cc in z)

settled_is_final : (last : Outcome) (id : Id) (e : Standing) → standing_of id (Settled last) ≡ Some e
    → last ≡ Final e.key.stamp
settled_is_final Open id e x = absurd (let z : ⊥ = cc in z)
settled_is_final (Gone why) id e x = absurd (let z : ⊥ = cc in z)
settled_is_final (Final f) id e x =
    let z : record { key = entry_key f id; settled = true } ≡ e = cc in ap (λ (g : Standing). Final g.key.stamp) z

row_last : (m : Mark) (last : Outcome) (st : Status) (id : Id) (e : Standing) → Agrees m last st
    → standing_of id st ≡ Some e → e.settled ≡ true → last ≡ Final e.key.stamp
row_last marks.None last st id e h x s =
    let y : standing_of id Absent ≡ Some e = ap (standing_of id) (sym h) ∙ x in absurd (let z : ⊥ = cc in z)
row_last (marks.Fenced why) last st id e h x s =
    let y : standing_of id Absent ≡ Some e = ap (standing_of id) (sym h) ∙ x in absurd (let z : ⊥ = cc in z)
row_last (marks.Number t) last st id e (inl h) x s =
    let y : standing_of id (Waits t) ≡ Some e = ap (standing_of id) (sym h) ∙ x in
    let z : record { key = entry_key t id; settled = false } ≡ e = cc in
    absurd (true≢false (sym s ∙ sym (ap (λ (g : Standing). g.settled) z)))
row_last (marks.Number t) last st id e (inr p) x s = settled_is_final last id e (ap (standing_of id) (sym p.1) ∙ x)

kind_final : (w : World) (id : Id) (k : Kind) (r c : ℕ) (st : Status) (e : Standing) → Fits w id k r c st
    → standing_of id st ≡ Some e → e.settled ≡ true → final_of_kind w id k ≡ e.key.stamp
unfolding final_of_kind
kind_final w id Unborn r c st e h x s =
    let y : standing_of id Absent ≡ Some e = ap (standing_of id) (sym h) ∙ x in absurd (let z : ⊥ = cc in z)
kind_final w id (OfSingle region colour stamp) r c st e h x s =
    single_final ((r == region) && (c == colour)) stamp id st e h x
kind_final w id (OfRow n) r c st e h x s =
    ap final_number
    (row_last (column_mark (home_of w id.client) (w.rows id.client n) r c)
    (w.rows id.client n).last st id e h.agrees x s)

-- an entry of a history is what the status of its id shows
pub entry_shown : (w : World) → Held w → (r c : ℕ) (e : Standing) → In e (entries (w.histories r c))
    → standing_of e.key.id (status_in (w.histories r c) e.key.id) ≡ Some e
entry_shown w h r c e i =
    shown (reverse (w.histories r c)) (lawful_past_in w h r c) e
    (subst (λ (l : List Standing). In e l) (entries-of (w.histories r c)) i)

final_is_of_kind : (w : World) (h : Held w) (r c : ℕ) (e : Standing) → In e (entries (w.histories r c))
    → e.settled ≡ true → final_of_kind w e.key.id (h.kind e.key.id) ≡ e.key.stamp
final_is_of_kind w h r c e i s =
    kind_final w e.key.id (h.kind e.key.id) r c _ e (h.fits e.key.id r c) (entry_shown w h r c e i) s

pub one_final_stamp : (w : World) → Held w → OneFinalStamp w
one_final_stamp w h id r c r' c' s s' a b =
    sym (final_is_of_kind w h r c _ (in_contains _ _ a) refl) ∙ final_is_of_kind w h r' c' _ (in_contains _ _ b) refl

-- Lines

pub each_line_rises : (w : World) → Held w → EachLineRises w
each_line_rises w h r c i j k l lt a b =
    line_rises r w.shape.regions (dated r (w.histories r c)) (h.lawful r c) i j k l lt (at i k a) (at j l b) where
      at : (n : ℕ) (x : Key) → slice_get (line (w.histories r c)) n ≡ Some x
          → slice_get (line (entries_of (dated r (w.histories r c)))) n ≡ Some x
      at n x e = subst (λ (es : List Entry). slice_get (line es) n ≡ Some x) (sym (entries_dated r (w.histories r c))) e

-- a key of a line is that of a final entry
line_final : (history : List Entry) (i : ℕ) (k : Key) → slice_get (line history) i ≡ Some k
    → IsFinal history k.id k.stamp
line_final history i k a =
    let x = in_line (entries history) k (slice_in _ i k a) in
    contains_in _ _ (subst (λ (e : Standing). In e (entries history)) (same x.0 x.2 x.3) x.1) where
      same : (e : Standing) → e.key ≡ k → e.settled ≡ true → e ≡ record { key = entry_key k.stamp k.id; settled = true }
      same e ek es = ap (λ (x : Key). record_of x e.settled) ek ∙ ap (λ (b : Bool). record_of k b) es where
        record_of : Key → Bool → Standing
        record_of key settled = record { key = key; settled = settled }

-- a node has one key in all lines
same_key : (w : World) → Held w → (r c r' c' i i' : ℕ) (k k' : Key) → slice_get (line (w.histories r c)) i ≡ Some k
    → slice_get (line (w.histories r' c')) i' ≡ Some k' → k.id ≡ k'.id → k ≡ k'
same_key w h r c r' c' i i' k k' a a' e =
    let x = line_final (w.histories r c) i k a in
    let y : IsFinal (w.histories r' c') k.id k'.stamp = subst (λ (id : Id). IsFinal (w.histories r' c') id k'.stamp)
    (sym e) (line_final (w.histories r' c') i' k' a') in
    let st = one_final_stamp w h k.id r c r' c' k.stamp k'.stamp x y in
    ap (λ (s : ℕ). entry_key s k.id) st ∙ ap (λ (id : Id). entry_key k'.stamp id) e

pub ordered_alike : (w : World) → Held w → OrderedAlike w
ordered_alike w h r c r' c' i j i' j' one other a b a' b' lt =
    let k = same_key w h r c r' c' i i' a.0 a'.0 a.1 a'.1 (a.2 ∙ sym a'.2) in
    let l = same_key w h r c r' c' j j' b.0 b'.0 b.1 b'.1 (b.2 ∙ sym b'.2) in
    let below = each_line_rises w h r c i j a.0 b.0 lt a.1 b.1 in
    turn (cases_lt i' j') k l below where
      turn : (i' < j') ⊎ (j' ≤ i') → a.0 ≡ a'.0 → b.0 ≡ b'.0 → key_below a.0 b.0 ≡ true → i' < j'
      turn (inl less) k l below = less
      turn (inr more) k l below =
          absurd (back (cases_lt j' i')
          (subst (λ (x : Key). key_below x b'.0 ≡ true) k (subst (λ (x : Key). key_below a.0 x ≡ true) l below))) where
            equal : (m n : ℕ) → m ≤ n → n ≤ m → m ≡ n
            equal m n x y = omega (arith, x, y)

            back : (j' < i') ⊎ (i' ≤ j') → key_below a'.0 b'.0 ≡ true → ⊥
            back (inl less) forth =
                key-irrefl a'.0
                (key-trans a'.0 b'.0 a'.0 forth (each_line_rises w h r' c' j' i' b'.0 a'.0 less b'.1 a'.1))
            back (inr le) forth =
                let at : slice_get (line (w.histories r' c')) i' ≡ Some b'.0 = subst
                (λ (n : ℕ). slice_get (line (w.histories r' c')) n ≡ Some b'.0) (equal j' i' more le) b'.1 in
                let some : Some a'.0 ≡ Some b'.0 = sym a'.1 ∙ at in
                let same : a'.0 ≡ b'.0 = cc in
                key-irrefl a'.0 (subst (λ (x : Key). key_below a'.0 x ≡ true) (sym same) forth)

-- Fences

fenced_last : (r : RowState) (f : ℕ) → outcome_of (marks_of r) ≡ Final f → (colour : ℕ) (why : Why)
    → is_member r.node.colours colour ≡ true → r.marks colour ≡ marks.Fenced why → ⊥
fenced_last r f e colour Memory has is =
    let x = final_is (marks_of r) f e in apart _
    (any_mark is_memory_fence r.marks (members r.node.colours) colour has (ap is_memory_fence is)) x.2
fenced_last r f e colour StampEnd has is =
    let x = final_is (marks_of r) f e in apart _
    (any_mark is_stamp_end_fence r.marks (members r.node.colours) colour has (ap is_stamp_end_fence is)) x.1

pub colour_of_mark : (w : World) → Held w → (row : Row) (colour : ℕ) → is_begun w row ≡ true
    → (row_of w row).marks colour ≢ marks.None → is_member (row_of w row).node.colours colour ≡ true
colour_of_mark w h row colour b ne =
    by_test _ (is_member (row_of w row).node.colours colour) (λ t. t)
    (λ f. absurd (ne ((h.rows row.client row.number (ltb-true _ _ b)).in_set colour f)))

fenced_not_final : (w : World) → Held w → (row : Row) (colour : ℕ) (why : Why) → is_begun w row ≡ true
    → (row_of w row).marks colour ≡ marks.Fenced why → (r c s : ℕ) → IsFinal (w.histories r c) (row_of w row).node.id s
    → ⊥
fenced_not_final w h row colour why b is r c s final =
    let lt = ltb-true row.number (w.clients row.client).used b in
    let id0 = (row_of w row).node.id in
    let x = entry_shown w h r c (record { key = entry_key s id0; settled = true }) (in_contains _ _ final) in
    let last = row_last _ (row_of w row).last _ id0 _ (row_agrees w h row.client row.number lt r c) x refl in
    let has = colour_of_mark w h row colour b (λ none. let y : ⊥ = cc in y) in
    kept (h.rows row.client row.number lt).kept last has where
      kept : (((row_of w row).last ≡ Open) ⊎ ((row_of w row).last ≡ outcome_of (marks_of (row_of w row))))
          → (row_of w row).last ≡ Final s → is_member (row_of w row).node.colours colour ≡ true → ⊥
      kept (inl k) last has = cc
      kept (inr k) last has = fenced_last (row_of w row) s (sym k ∙ last) colour why has is

pub fenced_is_nowhere : (w : World) → Held w → FencedIsNowhere w
fenced_is_nowhere w h row colour why b is = record {
  final = fenced_not_final w h row colour why b is;
  in_line = λ r c n x. fenced_not_final w h row colour why b is r c x.0.stamp
      (subst (λ (id : Id). IsFinal (w.histories r c) id x.0.stamp) x.2 (line_final (w.histories r c) n x.0 x.1));
}
