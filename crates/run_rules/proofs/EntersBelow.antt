-- A key in the line of a lawful history stands above the floor with which its id entered.
use Rattle.std.proofs.Common.{◌≡◌, refl, ap, sym, subst, ℕ, ◌<◌, ◌≤◌, List, [], ◌∷◌, Some, true, false, reverse, ◌⊎◌, inl, inr, arith}
use Rattle.log_node.specs.declared.ids.Id.{Id}
use Rattle.log_node.specs.declared.ids.Key.{Key}
use Rattle.log_node.specs.declared.ids.Counts.{Counts}
use Rattle.log_node.specs.declared.marks.Outcome.TheVariants.{Open, Gone, Final}
use Rattle.log_node.specs.Order.{same_id}
use Rattle.log_node.specs.Standings.{Standing}
use Rattle.col_core.specs.declared.Event.{Event}
use Rattle.col_core.specs.declared.Event.TheVariants as events
use Rattle.col_core.specs.declared.Entry.{Entry}
use Rattle.col_core.specs.Computed.{dated}
use Rattle.col_core.specs.History.{line, entry_key}
use Rattle.col_core.specs.History as history
use Rattle.col_core.specs.Legal.{IsColumnHistory}
use Rattle.col_core.proofs.CallerLemmas.{choice, same_id-true, In, in_line, in_reversed, shown, entries-of, lawful_past, dated-is_dated, IsLawfulPast, IsLawfulNext, Status, Alone, Waits, Settled, status, standing_of, after_event}

-- the id entered with a floor below this stamp
pub record EntersBelow (h : List Entry) (id : Id) (stamp : ℕ) : Type 0 where
  pub entry : Entry
  pub among : In entry h
  pub floor : ℕ
  pub wants : Counts
  pub is : (entry.event ≡ events.Single id floor wants) ⊎ (entry.event ≡ events.Propose id floor wants)
  pub below : floor < stamp

-- so it did in a longer past
later : (d : Entry) (past : List Entry) (id : Id) (stamp more : ℕ) → stamp ≤ more → EntersBelow past id stamp
    → EntersBelow (d ∷ past) id more
later d past id stamp more le b = record {
  entry = b.entry;
  among = inr b.among;
  floor = b.floor;
  wants = b.wants;
  is = b.is;
  below = let l = b.below in omega (arith, l, le);
}

-- an event that enters an id does so above its floor
entered : (d : Entry) (past : List Entry) (id other : Id) (floor : ℕ) (wants : Counts) (stamp : ℕ) → same_id id other ≡ true
    → (d.event ≡ events.Single other floor wants) ⊎ (d.event ≡ events.Propose other floor wants) → floor < stamp
    → EntersBelow (d ∷ past) id stamp
entered d past id other floor wants stamp t is lt = record {
  entry = d;
  among = inl refl;
  floor = floor;
  wants = wants;
  is = subst (λ (i : Id). (d.event ≡ events.Single i floor wants) ⊎ (d.event ≡ events.Propose i floor wants))
      (sym (same_id-true id other t)) is;
  below = lt;
}

enters_next : (past : List Entry) (d : Entry) (ev : Event) → d.event ≡ ev → IsLawfulNext past ev d.stamp
    → ((id : Id) (e : Standing) → standing_of id (status id past) ≡ Some e → EntersBelow past id e.key.stamp) → (id : Id)
    (e : Standing) → standing_of id (after_event id ev d.stamp (status id past)) ≡ Some e
    → EntersBelow (d ∷ past) id e.key.stamp
enters_next past d (events.Single other floor wants) is l old id e =
    choice (λ (s : Status). standing_of id s ≡ Some e → EntersBelow (d ∷ past) id e.key.stamp) (same_id id other)
    (Alone d.stamp) (status id past)
    (λ t h. let x : record { key = entry_key d.stamp id; settled = true } ≡ e = cc (h) in
    let y : d.stamp ≡ e.key.stamp = ap (λ (f : Standing). f.key.stamp) x in let n = l.stamped in
    entered d past id other floor wants e.key.stamp t (inl is) (omega (arith, y, n)))
    (λ f h. later d past id e.key.stamp e.key.stamp (omega arith) (old id e h))
enters_next past d (events.Propose other floor wants) is l old id e =
    choice (λ (s : Status). standing_of id s ≡ Some e → EntersBelow (d ∷ past) id e.key.stamp) (same_id id other)
    (Waits d.stamp) (status id past)
    (λ t h. let x : record { key = entry_key d.stamp id; settled = false } ≡ e = cc (h) in
    let y : d.stamp ≡ e.key.stamp = ap (λ (f : Standing). f.key.stamp) x in let n = l.stamped in
    entered d past id other floor wants e.key.stamp t (inr is) (omega (arith, y, n)))
    (λ f h. later d past id e.key.stamp e.key.stamp (omega arith) (old id e h))
enters_next past d (events.Settle other Open) is l old id e =
    choice (λ (s : Status). standing_of id s ≡ Some e → EntersBelow (d ∷ past) id e.key.stamp) (same_id id other)
    (Settled Open) (status id past) (λ t h. absurd (let x : ⊥ = cc (h) in x))
    (λ f h. later d past id e.key.stamp e.key.stamp (omega arith) (old id e h))
enters_next past d (events.Settle other (Gone why)) is l old id e =
    choice (λ (s : Status). standing_of id s ≡ Some e → EntersBelow (d ∷ past) id e.key.stamp) (same_id id other)
    (Settled (Gone why)) (status id past) (λ t h. absurd (let x : ⊥ = cc (h) in x))
    (λ f h. later d past id e.key.stamp e.key.stamp (omega arith) (old id e h))
enters_next past d (events.Settle other (Final n)) is l old id e =
    choice (λ (s : Status). standing_of id s ≡ Some e → EntersBelow (d ∷ past) id e.key.stamp) (same_id id other)
    (Settled (Final n)) (status id past)
    (λ t h. let x : record { key = entry_key n id; settled = true } ≡ e = cc (h) in
    let y : n ≡ e.key.stamp = ap (λ (f : Standing). f.key.stamp) x in
    let waited = old other (record { key = entry_key l.stamp other; settled = false }) (ap (standing_of other) l.waits) in
    let more = l.settling.0 in
    subst (λ (i : Id). EntersBelow (d ∷ past) i e.key.stamp) (sym (same_id-true id other t))
    (later d past other l.stamp e.key.stamp (omega (arith, y, more)) waited))
    (λ f h. later d past id e.key.stamp e.key.stamp (omega arith) (old id e h))
enters_next past d (events.Raise to) is l old id e = λ h.
    later d past id e.key.stamp e.key.stamp (omega arith) (old id e h)
enters_next past d (events.Give region from) is l old id e = λ h.
    later d past id e.key.stamp e.key.stamp (omega arith) (old id e h)
enters_next past d (events.Carry region start heads) is l old id e = λ h.
    later d past id e.key.stamp e.key.stamp (omega arith) (old id e h)
enters_next past d (events.Trim counts) is l old id e = λ h.
    later d past id e.key.stamp e.key.stamp (omega arith) (old id e h)

enters_past : (past : List Entry) → IsLawfulPast past → (id : Id) (e : Standing)
    → standing_of id (status id past) ≡ Some e → EntersBelow past id e.key.stamp
enters_past [] l id e h = absurd (let x : ⊥ = cc (h) in x)
enters_past (d ∷ past) l id e h = enters_next past d d.event refl l.0 (enters_past past l.1) id e h

pub key_enters : (own regions : ℕ) (h : List Entry) → IsColumnHistory own regions (dated own h) → (key : Key)
    → In key (line h) → EntersBelow h key.id key.stamp
key_enters own regions h legal key i =
    let lawful : IsLawfulPast (reverse h) =
    subst (λ (es : List Entry). IsLawfulPast (reverse es)) (dated-is_dated own h).same
    (lawful_past own regions (dated own h) legal) in
    let s = in_line (history.entries h) key i in
    let there = subst (λ (es : List Standing). In s.0 es) (entries-of h) s.1 in
    let b = subst (λ (k : Key). EntersBelow (reverse h) k.id k.stamp) s.2
    (enters_past (reverse h) lawful s.0.key.id s.0 (shown (reverse h) lawful s.0 there)) in record {
      entry = b.entry;
      among = in_reversed b.entry h b.among;
      floor = b.floor;
      wants = b.wants;
      is = b.is;
      below = b.below;
    }
