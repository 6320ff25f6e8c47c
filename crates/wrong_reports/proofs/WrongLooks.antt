-- Syncs, reads, pulls and trims that look elsewhere or at another time than they may.
use Rattle.std.proofs.Common.{◌≡◌, inl, inr, ℕ, ◌<◌, ◌≤◌, List, [], ◌∷◌, ◌++◌, length, length-append, map, take, Option, Some, None, refl, ap, sym, subst}
use Rattle.std.proofs.Common.{◌∙◌, arith, lit<, slice_get, codes}
use Rattle.std.proofs.Math.Nat.{le-max_right}
use Rattle.std.proofs.lemmas.Bool.{eqb-true}
use Rattle.std.specs.Prelude.{◌+◌, ◌==◌, max, slice_index, slice_index_or}
use Rattle.std.specs.List.{All, AllZip}
use Rattle.log_node.specs.declared.ids.Id.{Id}
use Rattle.log_node.specs.declared.ids.Key.{Key}
use Rattle.log_node.specs.declared.ids.Counts.{Counts}
use Rattle.log_node.specs.declared.ids.Colours.{Colours}
use Rattle.object_fold.specs.Maps.{shard_value}
use Rattle.log_node.specs.declared.node.Node.{Node}
use Rattle.log_node.specs.declared.node.At.{At}
use Rattle.log_node.specs.declared.node.At.TheVariants.{Event, Look}
use Rattle.log_node.specs.Vectors.{IsWithin, zeros}
use Rattle.col_core.specs.declared.Event.TheVariants.{Single, Give, Trim, Raise}
use Rattle.col_core.specs.declared.Entry.{Entry}
use Rattle.col_core.specs.History.{line}
use Rattle.col_core.specs.RegionOrder.{IsRegionOrder}
use Rattle.col_core.specs.Log.{Log, places_of}
use Rattle.col_core.specs.Cuts.{base}
use Rattle.col_core.specs.Computed.{dated}
use Rattle.col_core.specs.Keeping.{Kept, nothing_kept, updated, updated_at, with_read}
use Rattle.col_core.proofs.CallerLemmas.{choice}
use Rattle.report_text.specs.declared.report.RaisePiece.{RaisePiece}
use Rattle.report_text.specs.declared.report.SyncPiece.{SyncPiece}
use Rattle.script_text.specs.declared.script.Kind.{Kind}
use Rattle.script_text.specs.declared.script.Kind.TheVariants as kinds
use Rattle.script_text.specs.declared.commands.What.TheVariants as whats
use Rattle.lawful_run.specs.Callers.{Caller, caller_of, node_of}
use Rattle.col_core.specs.Ids.{IsStepOf}
use Rattle.lawful_run.specs.Asks.{kind_of_object}
use Rattle.lawful_run.specs.Deeds.{AsksForKey, Deed, ShardsOf}
use Rattle.lawful_run.specs.Reads.{HidesRead, ShowsKey, Syncs, RaisesClock, kept_after_place, Raises, ClearSyncs}
use Rattle.lawful_run.specs.Parts.{HasValue}
use Rattle.lawful_run.specs.Refusals.{FindsNoMemory, nothing, gone, gave, hidden}
use Rattle.wrong_reports.specs.Cases.{IsUnlawful, a, b, e, x, id, by, counts, enters, look}
use Rattle.wrong_reports.specs.Rows.{proposed}
use Rattle.wrong_reports.specs.Naming.{one_node, trim, trimmed}
use Rattle.wrong_reports.specs.Shown.{shown}
use Rattle.wrong_reports.specs.Looks.{a_sync_behind_an_own_later_step}
use Rattle.wrong_reports.specs.Looks.{a_refused_read_that_tells_a_later_colour, a_refused_read_that_raises_the_floor}
use Rattle.wrong_reports.specs.Looks.{a_sync_of_another_colour, a_scan_of_another_text, a_scan_under_another_stamp}
use Rattle.wrong_reports.specs.Looks.{a_trim_told_as_a_raise, a_raise_behind_what_was_seen, a_raise_that_was_seen}
use Rattle.wrong_reports.specs.Looks.{a_read_that_leaves_the_floor, a_trim_told_as_a_look, a_give_told_as_a_look, a_sync_answered_as_a_trim}
use Rattle.wrong_reports.specs.Looks.{a_trim_told_as_a_give, a_carry_beyond_the_events, a_pull_behind_what_was_seen}
use Rattle.wrong_reports.specs.Looks.{a_carry_that_was_seen, a_get_of_another_colour, a_causal_get_of_another_colour}
use Rattle.wrong_reports.specs.Looks.{a_dequeue_of_another_colour, a_refused_read_that_keeps_an_earlier_one}
use Rattle.wrong_reports.specs.Looks.{a_raise_before_its_clients_node_is_settled, a_value_of_another_text}
use Rattle.wrong_reports.specs.Objects.{map as map_on_x, one_pair}
use Rattle.wrong_reports.proofs.Tools.{only, ends_with, column_at, some_same, versions_named, asked_kind}
use Rattle.wrong_reports.proofs.Told.{two, trim_says, stood_says, several_says}
use Rattle.wrong_reports.proofs.WrongReads.{scan_says}
use Rattle.wrong_reports.proofs.WrongMoves.{pull_says}
use Rattle.wrong_reports.proofs.WrongVerdict.{the_key, one_read, one_object, node_is}
use Rattle.wrong_reports.proofs.WrongRefusals.{syncs_leave}
use Rattle.wrong_reports.proofs.WrongHelping.{stopped_says}

-- SYNCS AND SCANS
pub sync_elsewhere : IsUnlawful a_sync_of_another_colour
sync_elsewhere run =
    let w = (only run.log _ _ _ _ (run.clients 0 _ refl).explained).explained.0 in
    cc (w)

-- its proposal is the first event of the column, and its sync had looked at one
pub own_step_seen : IsUnlawful a_sync_behind_an_own_later_step
own_step_seen run =
    let client = run.clients 0 _ refl in
    let t = two run.log _ _ _ _ _ _ client.explained in
    let kept_is = t.first.after_is ∙ t.first.explained.4 in
    let said = t.second.explained in
    let stopped = stopped_says run.log _ _ _ 2 _ (lit< tt) said.4 in
    let h = (column_at a_sync_behind_an_own_later_step run 0 (proposed x) refl).history in
    let p : 0 ∷ [] ≡ stopped.places 0 =
    ap (places_of 0) h ∙ client.made 0 0 (lit< tt) (lit< tt)
    ∙ ap (λ (kept : Kept). kept.made 0 0) (t.second.after_is ∙ stopped.after_is)
    ∙ ap (λ (places : List ℕ). places ++ stopped.places 0) (ap (λ (kept : Kept). kept.made 0 0) kept_is) in
    let Steps : ℕ → Type 0 = λ place. (t.kept.seen 0 0 ≤ place) × (en : Entry)
    × (slice_get (run.log.histories 0 0) place ≡ Some en) × (en.by ≡ 0)
    × IsStepOf (node_of (caller_of a_sync_behind_an_own_later_step.script 0) t.kept said.1 said.2).id en.event in
    let step = subst (All Steps) (sym p) (stopped.says.begins.steps 0) 0 0 (lit< tt) in
    let early = step.0 in
    let seen = ap (λ (kept : Kept). kept.seen 0 0) kept_is in
    omega (arith, early, seen)

s_is_no_t : codes "s" ≡ codes "t" → ⊥
s_is_no_t e = let f : 115 ≡ 116 = ap (λ t. slice_index t 0) e in omega (arith, f)

pub other_text : IsUnlawful a_scan_of_another_text
other_text run =
    let t = two run.log _ _ _ _ _ _ (run.clients 0 _ refl).explained in
    let next = (stood_says run.log _ _ _ _ _ _ _ _ _ _ _ t.first).0.next in
    let said = scan_says run.log _ _ _ _ _ _ _ _ _ _ _ t.second in
    let h = (column_at a_scan_of_another_text run 0 one_node refl).history in
    let order = subst (λ (es : List Entry). IsRegionOrder (line (take 1 es) ∷ []) 1 said.keys)
    (sym h) said.are_read in
    let lines = subst (λ (ks : List Key). AllZip (ShowsKey run.log) ks (shown 1 (codes "t") ∷ [])) (one_read said.keys order)
    said.lines in
    let has = lines.0.1 in
    let node = some_same _ has.0 (sym next ∙ has.1) in
    s_is_no_t (ap (λ (n : Node). n.text) node ∙ has.3)

pub other_stamp : IsUnlawful a_scan_under_another_stamp
other_stamp run =
    let t = two run.log _ _ _ _ _ _ (run.clients 0 _ refl).explained in
    let said = scan_says run.log _ _ _ _ _ _ _ _ _ _ _ t.second in
    by _ said.keys said.are_read said.lines where
      by : (lines : List (List Key)) (keys : List Key) → IsRegionOrder lines 1 keys
          → AllZip (ShowsKey run.log) keys (shown 2 (codes "s") ∷ []) → ⊥
      by lines [] order z = z
      by lines (k ∷ keys) order z =
          let l = (order.no_other k (0, (let l : 0 < length (k ∷ keys) = omega arith in l), refl)).0 in
          let s : 2 ≡ k.stamp = ap (λ (k : Key). k.stamp) z.0.0 in
          omega (arith, l, s)

no_raise : (v : Counts) (to : ℕ) → Trim v ≡ Raise to → ⊥
no_raise v to e = cc (e)

pub trim_as_raise : IsUnlawful a_trim_told_as_a_raise
trim_as_raise run =
    let s = only run.log _ _ _ _ (run.clients 0 _ refl).explained in
    let r = (scan_says run.log _ _ _ _ _ _ _ _ _ _ _ s).reads.raising.0.2 in
    let h = (column_at a_trim_told_as_a_raise run 0 (trimmed (trim ∷ [])) refl).history in
    let same = some_same trim _ (ap (λ (es : List Entry). slice_get es 0) h ∙ r) in
    no_raise _ _ (ap (λ (en : Entry). en.event) same)

pub raise_behind : IsUnlawful a_raise_behind_what_was_seen
raise_behind run =
    let t = two run.log _ _ _ _ _ _ (run.clients 0 _ refl).explained in
    let k = ap (λ (k : Kept). k.seen 0 0) (trim_says run.log _ _ _ _ _ _ _ _ t.first).1 in
    let u = (scan_says run.log _ _ _ _ _ _ _ _ _ _ _ t.second).reads.raising.0.0 in
    omega (arith, k, u)

pub raise_seen : IsUnlawful a_raise_that_was_seen
raise_seen run =
    let t = two run.log _ _ _ _ _ _ (run.clients 0 _ refl).explained in
    let k = ap (λ (k : Kept). k.seen 0 0) (pull_says run.log _ _ _ _ _ _ _ _ _ t.first).after_is in
    let u = (scan_says run.log _ _ _ _ _ _ _ _ _ _ _ t.second).reads.raising.0.0 in
    omega (arith, k, u)

pub raise_unsettled : IsUnlawful a_raise_before_its_clients_node_is_settled
raise_unsettled run =
    let t = two run.log _ _ _ _ _ _ (run.clients 0 _ refl).explained in
    let k = ap (λ (k : Kept). k.known 0) (several_says run.log _ _ _ _ _ _ _ _ _ _ t.first).3 in
    let r = (scan_says run.log _ _ _ _ _ _ _ _ _ _ _ t.second).reads.raising.0.1 in
    let h = (column_at a_raise_before_its_clients_node_is_settled run 0 _ refl).history in
    let l : 0 ≡ length (line (take 1 (run.log.histories 0 0))) =
    ap (λ (es : List Entry). length (line (take 1 es))) h in
    omega (arith, k, r, l)

single_floor : (i j : Id) (floor other : ℕ) (wants more : Counts)
    → Single i floor wants ≡ Single j other more → floor ≡ other
single_floor i j floor other wants more e = cc (e)

pub leaves_floor : IsUnlawful a_read_that_leaves_the_floor
leaves_floor run =
    let t = two run.log _ _ _ _ _ _ (run.clients 0 _ refl).explained in
    let r = (scan_says run.log _ _ _ _ _ _ _ _ _ _ _ t.first).reads in
    let floor : t.kept.floor ≡ max r.synced.floor 1 = ap (λ (k : Kept). k.floor) (t.first.after_is ∙ r.after_is) in
    let s = (stood_says run.log _ _ _ _ _ _ _ _ _ _ _ t.second).0.entered in
    let h = (column_at a_read_that_leaves_the_floor run 0 _ refl).history in
    let same = some_same (enters a (id a 0) 0 2) _ (ap (λ (es : List Entry). slice_get es 2) h ∙ s) in
    let f : 0 ≡ t.kept.floor = single_floor _ _ _ _ _ _ (ap (λ (en : Entry). en.event) same) in
    let le = le-max_right r.synced.floor 1 in
    omega (arith, floor, f, le)

-- raises leave the floor and the starts, and no less is seen after them
record RaisesLeave (own : ℕ) (kept after : Kept) : Type 0 where
  pub floor : after.floor ≡ kept.floor
  pub starts : after.starts ≡ kept.starts
  pub seen : (c : ℕ) → kept.seen own c ≤ after.seen own c

more_seen : (kept : Kept) (own colour n c : ℕ) → kept.seen own colour ≤ n
    → kept.seen own c ≤ updated_at kept.seen own colour n own c
more_seen kept own colour n c le =
    choice (λ (f : ℕ → ℕ). kept.seen own c ≤ f c) (own == own) (updated (kept.seen own) colour n) (kept.seen own)
    (λ _. choice (λ (m : ℕ). kept.seen own c ≤ m) (c == colour) n (kept.seen own c)
    (λ t. subst (λ d. kept.seen own d ≤ n) (sym (eqb-true c colour t)) le) (λ _. omega arith)) (λ _. omega arith)

raise_leaves : (log : Log) (caller : Caller) (stamp : ℕ) (kept : Kept) (colour : ℕ) (at : At)
    → RaisesClock log caller kept stamp colour at
    → RaisesLeave caller.own kept (kept_after_place kept caller.own colour at)
raise_leaves log caller stamp kept colour (Event place) r = record {
  floor = refl;
  starts = refl;
  seen = λ c. let low = r.0 in more_seen kept caller.own colour (place + 1) c (omega (arith, low));
}
raise_leaves log caller stamp kept colour (Look events) r =
    record { floor = refl; starts = refl; seen = λ c. more_seen kept caller.own colour events c r.0 }

raises_leave : (log : Log) (caller : Caller) (stamp : ℕ) (kept : Kept) (raises : List RaisePiece) (after : Kept)
    → Raises log caller stamp kept raises after → RaisesLeave caller.own kept after
raises_leave log caller stamp kept [] after r = record {
  floor = ap (λ (k : Kept). k.floor) r;
  starts = ap (λ (k : Kept). k.starts) r;
  seen = λ c. let e = ap (λ (k : Kept). k.seen caller.own c) r in omega (arith, e);
}
raises_leave log caller stamp kept (one ∷ raises) after r =
    let first = raise_leaves log caller stamp kept one.colour one.at r.0 in
    let more = raises_leave log caller stamp (kept_after_place kept caller.own one.colour one.at) raises after r.1 in
    record {
      floor = more.floor ∙ first.floor;
      starts = more.starts ∙ first.starts;
      seen = λ c. let x = first.seen c in let y = more.seen c in omega (arith, x, y);
    }

-- what is synced before y is x
synced_first : (syncs : List SyncPiece) (behind : List ℕ)
    → map (λ (s : SyncPiece). s.colour) syncs ++ 1 ∷ behind ≡ 0 ∷ 1 ∷ []
    → (s : SyncPiece) × (rest : List SyncPiece) × (syncs ≡ s ∷ rest) × (s.colour ≡ 0)
synced_first [] behind e = absurd (let f : 1 ≡ 0 = ap (λ l. slice_index_or l 0 0) e in omega (arith, f))
synced_first (s ∷ rest) behind e = (s, rest, refl, ap (λ l. slice_index_or l 0 0) e)

-- what was trimmed of x when a had seen three events could not be synced
pub later_colour : IsUnlawful a_refused_read_that_tells_a_later_colour
later_colour run =
    let t = two run.log _ _ _ _ _ _ (run.clients 0 _ refl).explained in
    let k = (stood_says run.log _ _ _ _ _ _ _ _ _ _ _ t.first).1 in
    let r = t.second.explained.2 in
    let caller = caller_of a_refused_read_that_tells_a_later_colour.script 0 in
    let of_x = synced_first r.syncs r.behind r.synced_before in
    let left = raises_leave run.log caller r.stamp t.kept r.raises r.raised r.raising in
    let synced = (subst (λ ss. ClearSyncs run.log caller r.stamp r.raised ss t.second.answered) of_x.2 r.syncing).0 in
    let s = subst (λ c. Syncs run.log caller r.raised c of_x.0.events of_x.0.counts) of_x.3 synced in
    let h = (column_at a_refused_read_that_tells_a_later_colour run 0 _ refl).history in
    let l : 3 ≡ length (run.log.histories 0 0) = ap (λ (es : List Entry). length es) h in
    let seen = ap (λ (kept : Kept). kept.seen 0 0) k in
    let more = left.seen 0 in
    let unseen = s.unseen in
    let there = s.there in
    let n : of_x.0.events ≡ 3 = omega (arith, l, seen, more, unseen, there) in
    let starts : r.raised.starts 0 ≡ zeros = ap (λ (f : ℕ → Counts). f 0) (left.starts ∙ ap (λ (kept : Kept). kept.starts) k) in
    let f = subst (λ v. IsWithin (base 0 1 (dated 0 (take 3 (run.log.histories 0 0)))) v) starts
    (subst (λ m. IsWithin (base 0 1 (dated 0 (take m (run.log.histories 0 0)))) (r.raised.starts 0)) n s.not_trimmed) in
    let g = subst (λ (es : List Entry). IsWithin (base 0 1 (dated 0 (take 3 es))) zeros) (sym h) f in
    cc (g)

-- nothing is synced before the one colour
none_synced : (syncs : List SyncPiece) (behind : List ℕ)
    → map (λ (s : SyncPiece). s.colour) syncs ++ 0 ∷ behind ≡ 0 ∷ [] → syncs ≡ []
none_synced [] behind e = refl
none_synced (s ∷ rest) behind e =
    let many = length-append (map (λ (s : SyncPiece). s.colour) rest) (0 ∷ behind) in
    let one = ap (λ (l : List ℕ). length l) e in
    absurd (let f : ⊥ = omega (arith, many, one) in f)

pub floor_stays : IsUnlawful a_refused_read_that_raises_the_floor
floor_stays run =
    let t = two run.log _ _ _ _ _ _ (run.clients 0 _ refl).explained in
    let r = t.first.explained.2 in
    let caller = caller_of a_refused_read_that_raises_the_floor.script 0 in
    let left = raises_leave run.log caller r.stamp nothing_kept r.raises r.raised r.raising in
    let is : t.first.answered ≡ r.raised =
    subst (λ ss. ClearSyncs run.log caller r.stamp r.raised ss t.first.answered)
    (none_synced r.syncs r.behind r.synced_before) r.syncing in
    let floor : t.kept.floor ≡ 0 = ap (λ (k : Kept). k.floor) (t.first.after_is ∙ is) ∙ left.floor in
    let s = (stood_says run.log _ _ _ _ _ _ _ _ _ _ _ t.second).0.entered in
    let h = (column_at a_refused_read_that_raises_the_floor run 0 _ refl).history in
    let same = some_same (enters a (id a 0) 1 2) _ (ap (λ (es : List Entry). slice_get es 2) h ∙ s) in
    let f : 1 ≡ t.kept.floor = single_floor _ _ _ _ _ _ (ap (λ (en : Entry). en.event) same) in
    omega (arith, floor, f)

-- PULLS AND TRIMS
pub trim_as_look : IsUnlawful a_trim_told_as_a_look
trim_as_look run =
    let p = (only run.log _ _ _ _ (run.clients 0 _ refl).explained).explained.4 in
    cc (p)

pub sync_as_trim : IsUnlawful a_sync_answered_as_a_trim
sync_as_trim run =
    let p = (only run.log _ _ _ _ (run.clients 0 _ refl).explained).explained.2 in
    cc (p)

pub give_as_look : IsUnlawful a_give_told_as_a_look
give_as_look run =
    let p = (only run.log _ _ _ _ (run.clients 1 _ refl).explained).explained.5 in
    cc (p)

no_give : (v : Counts) (region from : ℕ) → Trim v ≡ Give region from → ⊥
no_give v region from e = cc (e)

pub trim_as_give : IsUnlawful a_trim_told_as_a_give
trim_as_give run =
    let p = (pull_says run.log _ _ _ _ _ _ _ _ _ (only run.log _ _ _ _ (run.clients 1 _ refl).explained)).says.gives in
    let h = (column_at a_trim_told_as_a_give run 0 _ refl).history in
    let same = some_same (by b (Trim (counts 0 0)) 0) _ (ap (λ (es : List Entry). slice_get es 0) h ∙ p) in
    no_give _ _ _ (ap (λ (en : Entry). en.event) same)

pub carry_beyond : IsUnlawful a_carry_beyond_the_events
carry_beyond run =
    let c = (pull_says run.log _ _ _ _ _ _ _ _ _ (only run.log _ _ _ _
    (run.clients 1 _ refl).explained)).says.carries.1 in
    let h = (column_at a_carry_beyond_the_events run 1 _ refl).history in
    let l : 0 ≡ length (run.log.histories 1 0) = ap (λ (es : List Entry). length es) h in
    omega (arith, c, l)

pub pull_behind : IsUnlawful a_pull_behind_what_was_seen
pull_behind run =
    let t = two run.log _ _ _ _ _ _ (run.clients 1 _ refl).explained in
    let k = ap (λ (k : Kept). k.seen 1 0) (trim_says run.log _ _ _ _ _ _ _ _ t.first).1 in
    let u = (pull_says run.log _ _ _ _ _ _ _ _ _ t.second).says.carries.0 in
    omega (arith, k, u)

pub carry_seen : IsUnlawful a_carry_that_was_seen
carry_seen run =
    let t = two run.log _ _ _ _ _ _ (run.clients 1 _ refl).explained in
    let k = ap (λ (k : Kept). k.seen 1 0) (t.first.after_is ∙ t.first.explained.4) in
    let u = (pull_says run.log _ _ _ _ _ _ _ _ _ t.second).says.carries.0 in
    omega (arith, k, u)

-- OBJECTS
pub get_elsewhere : IsUnlawful a_get_of_another_colour
get_elsewhere run = elim (only run.log _ _ _ _ (run.clients 0 _ refl).explained).explained.1.2 [
  | inl g ↦ let c = g.2.3 in cc (c)
  | inr g ↦ let w = g.1.2 in cc (w)
]

same_object : (object other : ℕ) (key more : List ℕ) → AsksForKey (whats.Get object key) other more → object ≡ other
same_object object other key more asks = let e = asks.uses in cc (e)

pub causal_elsewhere : IsUnlawful a_causal_get_of_another_colour
causal_elsewhere run =
    let said = (only run.log _ _ _ _ (run.clients 0 _ refl).explained).explained in
    let o = same_object _ _ _ _ said.3 in
    let f : Some (kinds.Causal 0) ≡ Some (kinds.Causal 1) =
    ap (λ o. kind_of_object (caller_of a_causal_get_of_another_colour.script 0) o) o ∙ said.4 in
    cc (f)

pub dequeue_elsewhere : IsUnlawful a_dequeue_of_another_colour
dequeue_elsewhere run =
    let c = (only run.log _ _ _ _ (run.clients 0 _ refl).explained).explained.2 in
    omega (arith, c)

asked_key : (object other : ℕ) (key more : List ℕ) → AsksForKey (whats.Get object key) other more → key ≡ more
asked_key object other key more asks =
    let e : ShardsOf (key ∷ []) ≡ ShardsOf (more ∷ []) = ap (λ (d : Deed). d.syncs) asks.gets in cc (e)

puts : (key : Key) (c : Colours)
    → shard_value (0 ∷ []) 0 (record { key = key; colours = c; text = codes "p:k=v" } ∷ []) (codes "k") ≡ Some (codes "v")
puts key c = refl

w_is_no_v : Some (codes "w") ≡ Some (codes "v") → ⊥
w_is_no_v e = let f : 119 ≡ 118 = ap (λ t. slice_index t 0) (some_same _ _ e) in omega (arith, f)

pub another_text : IsUnlawful a_value_of_another_text
another_text run =
    let t = two run.log _ _ _ _ _ _ (run.clients 0 _ refl).explained in
    let next = (stood_says run.log _ _ _ _ _ _ _ _ _ _ _ t.first).0.next in
    let p = t.second.explained.1 in
    let h = (column_at a_value_of_another_text run 0 one_node refl).history in
    let caller = caller_of a_value_of_another_text.script 0 in
    let keys : take 1 (line (take 1 (run.log.histories 0 0))) ≡ the_key ∷ [] =
    ap (λ (es : List Entry). take 1 (line (take 1 es))) (sym h) in
    let one = one_object run.log _ p.0 keys p.1 in
    let node = some_same _ _ (sym next ∙ one.1.there) in
    let text : one.0.text ≡ codes "p:k=v" = one.1.text ∙ ap (λ (n : Node). n.text) (sym node) in
    let is = node_is one.0 the_key (codes "p:k=v") one.1.key_is text in
    elim p.2 [
      | inl g ↦
          let kind : Some map_on_x ≡ g.0 = asked_kind caller (whats.Get 0 (codes "k")) (look x 1 (counts 1 0)) g.0 g.1 g.2 in
          let value = subst (λ (k : Option Kind). HasValue k x g.1 (Some (codes "w")) p.0) (sym kind) g.3 in
          let asked : codes "k" ≡ g.1 = asked_key _ _ _ _ g.2.1 in
          w_is_no_v (value ∙ ap (λ ns. shard_value (0 ∷ []) 0 ns g.1) (one.2 ∙ ap (λ n. n ∷ []) is)
          ∙ ap (λ k. shard_value (0 ∷ []) 0 (record { key = the_key; colours = one.0.colours; text = codes "p:k=v" } ∷ []) k)
          (sym asked)
          ∙ puts the_key one.0.colours)
      | inr g ↦ let w = g.1.2 in cc (w)
    ]

-- a read that found no memory finds nothing
reads_none : (log : Log) (caller : Caller) (kept after : Kept) (keys : List (List ℕ)) → kept.reads 0 ≡ None
    → FindsNoMemory log caller kept (whats.Read 0 keys) after → after.reads 0 ≡ None
reads_none log caller kept after keys none nothing = none
reads_none log caller kept after keys none (gone colours text places asks is) = absurd asks
reads_none log caller kept after keys none (gave region colour looked too_low gives pull g) =
    absurd (let f : ⊥ = cc (pull) in f)
reads_none log caller kept after keys none (hidden other hides) = by other _ hides where
  by : (other : Kept) (colours : List ℕ) → HidesRead log caller kept colours other → other.reads 0 ≡ None
  by other colours h =
      let is : other.reads 0 ≡ h.synced.reads 0 = elim h.after_is [
        | inl f ↦ ap (λ (k : Kept). k.reads 0) f
        | inr f ↦ ap (λ (k : Kept). k.reads 0) f
      ] in
      let l = (syncs_leave log caller kept h.synced colours h.syncing).reads in
      is ∙ subst (λ (f : ℕ → _). f 0 ≡ kept.reads 0) (sym l) refl ∙ none

pub keeps_earlier : IsUnlawful a_refused_read_that_keeps_an_earlier_one
keeps_earlier run =
    let last = ends_with run.log _ (_ ∷ _ ∷ []) (_ ∷ _ ∷ []) _ _ _ (run.clients 0 _ refl).explained in
    let t = two run.log _ _ _ _ _ _ last.before in
    let said = last.last.explained.2 in
    let reads = (versions_named (caller_of a_refused_read_that_keeps_an_earlier_one.script 0) last.kept 0 one_pair said.0
    said.1 said.2).1 in
    let none = ap (λ (k : Kept). k.reads 0) t.second.after_is
    ∙ reads_none run.log _ (with_read t.kept 0 None) _ _ refl t.second.explained.1 in
    let g : None ≡ Some _ = sym none ∙ reads in
    cc (g)
