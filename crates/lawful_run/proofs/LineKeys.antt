-- Keys of the line of a lawful column are such as a version may name.
use Rattle.std.proofs.Common.{◌≡◌, ℕ, ◌-◌, ◌^◌, ◌≤◌, List, [], ◌∷◌, Some, true, false, ap, subst, arith, reverse}
use Rattle.std.specs.Prelude.{◌&&◌, nat_le}
use Rattle.std.proofs.lemmas.Bool.{and_from, le-leb}
use Rattle.log_node.specs.declared.ids.Id.{Id}
use Rattle.log_node.specs.declared.ids.Key.{Key}
use Rattle.log_node.specs.declared.marks.Outcome.TheVariants.{Open, Gone, Final}
use Rattle.log_node.specs.Order.{same_id}
use Rattle.log_node.specs.Standings.{Standing}
use Rattle.object_form.specs.Forms.{is_writer}
use Rattle.col_core.specs.declared.Event.{Event}
use Rattle.col_core.specs.declared.Event.TheVariants as events
use Rattle.col_core.specs.declared.Entry.{Entry}
use Rattle.col_core.specs.History.{line, entry_key}
use Rattle.col_core.specs.History as history
use Rattle.col_core.proofs.CallerLemmas.{choice, In, in_line, shown, entries-of, entry_within, past_clock_within, IsLawfulPast, IsLawfulNext, Status, Alone, Waits, Settled, status, standing_of, after_event}

-- an event leaves the stamps of entries above zero
above_next : (past : List Entry) (ev : Event) (stamp : ℕ) → IsLawfulNext past ev stamp
    → ((id : Id) (e : Standing) → standing_of id (status id past) ≡ Some e → 1 ≤ e.key.stamp) → (id : Id) (e : Standing)
    → standing_of id (after_event id ev stamp (status id past)) ≡ Some e → 1 ≤ e.key.stamp
above_next past (events.Single other floor wants) stamp l old id e =
    choice (λ (s : Status). standing_of id s ≡ Some e → 1 ≤ e.key.stamp) (same_id id other) (Alone stamp)
    (status id past)
    (λ t h. let x : record { key = entry_key stamp id; settled = true } ≡ e = cc in
    let y : stamp ≡ e.key.stamp = ap (λ (f : Standing). f.key.stamp) x in let n = l.stamped in omega (arith, y, n))
    (λ f h. old id e h)
above_next past (events.Propose other floor wants) stamp l old id e =
    choice (λ (s : Status). standing_of id s ≡ Some e → 1 ≤ e.key.stamp) (same_id id other) (Waits stamp)
    (status id past)
    (λ t h. let x : record { key = entry_key stamp id; settled = false } ≡ e = cc in
    let y : stamp ≡ e.key.stamp = ap (λ (f : Standing). f.key.stamp) x in let n = l.stamped in omega (arith, y, n))
    (λ f h. old id e h)
above_next past (events.Settle other Open) stamp l old id e =
    choice (λ (s : Status). standing_of id s ≡ Some e → 1 ≤ e.key.stamp) (same_id id other) (Settled Open)
    (status id past) (λ t h. absurd (let x : ⊥ = cc in x)) (λ f h. old id e h)
above_next past (events.Settle other (Gone why)) stamp l old id e =
    choice (λ (s : Status). standing_of id s ≡ Some e → 1 ≤ e.key.stamp) (same_id id other) (Settled (Gone why))
    (status id past) (λ t h. absurd (let x : ⊥ = cc in x)) (λ f h. old id e h)
above_next past (events.Settle other (Final n)) stamp l old id e =
    choice (λ (s : Status). standing_of id s ≡ Some e → 1 ≤ e.key.stamp) (same_id id other) (Settled (Final n))
    (status id past)
    (λ t h. let x : record { key = entry_key n id; settled = true } ≡ e = cc in
    let y : n ≡ e.key.stamp = ap (λ (f : Standing). f.key.stamp) x in
    let waited = old other (record { key = entry_key l.stamp other; settled = false }) (ap (standing_of other) l.waits) in
    let more = l.settling.0 in omega (arith, y, waited, more))
    (λ f h. old id e h)
above_next past (events.Raise to) stamp l old id e = old id e
above_next past (events.Give _ _) stamp l old id e = old id e
above_next past (events.Carry _ _ _) stamp l old id e = old id e
above_next past (events.Trim _) stamp l old id e = old id e

-- so they are above it in a lawful past
above_none : (past : List Entry) → IsLawfulPast past → (id : Id) (e : Standing)
    → standing_of id (status id past) ≡ Some e → 1 ≤ e.key.stamp
above_none [] l id e h = absurd (let x : ⊥ = cc in x)
above_none (d ∷ past) l id e h = above_next past d.event d.stamp l.0 (above_none past l.1) id e h

-- a key's stamp is within bounds, so it may be named where its client and its count are
pub writer_fits : (h : List Entry) → IsLawfulPast (reverse h) → (key : Key) → In key (line h) → key.id.client ≤ 255
    → key.id.count ≤ 2 ^ 63 - 1 → is_writer (Some key) ≡ true
writer_fits h lawful key i client count =
    let s = in_line (history.entries h) key i in
    let there = subst (λ (es : List Standing). In s.0 es) (entries-of h) s.1 in
    let low = above_none (reverse h) lawful s.0.key.id s.0 (shown (reverse h) lawful s.0 there) in
    let high = entry_within (reverse h) lawful s.0 there in
    let most = past_clock_within (reverse h) lawful in
    let same : s.0.key.stamp ≡ key.stamp = ap (λ (k : Key). k.stamp) s.2 in
    let from : (nat_le 1 key.stamp && nat_le key.stamp (2 ^ 62 - 1)) ≡ true =
    and_from (nat_le 1 key.stamp) _ (le-leb _ _ (omega (arith, low, same))) (le-leb _ _ (omega (arith, high, most, same))) in
    and_from (nat_le 1 key.stamp && nat_le key.stamp (2 ^ 62 - 1) && nat_le key.id.client 255) _
    (and_from (nat_le 1 key.stamp && nat_le key.stamp (2 ^ 62 - 1)) _ from (le-leb _ _ client))
    (le-leb key.id.count (2 ^ 63 - 1) count)
