-- By which events a key came into a line.
use Rattle.std.proofs.Common.{◌≡◌, ℕ, List, [], ◌∷◌, reverse, true, false, Some, refl, ap, sym, subst, ◌∙◌, inl, inr}
use Rattle.log_node.specs.declared.ids.Id.{Id}
use Rattle.log_node.specs.declared.ids.Key.{Key}
use Rattle.log_node.specs.declared.ids.Counts.{Counts}
use Rattle.log_node.specs.Order.{same_id}
use Rattle.log_node.specs.declared.marks.Outcome.{Outcome}
use Rattle.log_node.specs.declared.marks.Outcome.TheVariants.{Open, Gone, Final}
use Rattle.log_node.specs.Standings.{Standing}
use Rattle.col_core.specs.declared.Event.{Event}
use Rattle.col_core.specs.declared.Event.TheVariants as events
use Rattle.col_core.specs.declared.Entry.{Entry}
use Rattle.col_core.specs.History as history
use Rattle.col_core.specs.History.{entry_key}
use Rattle.col_core.specs.Computed.{dated}
use Rattle.col_core.specs.Legal.{IsColumnHistory}
use Rattle.col_core.proofs.CallerLemmas.{choice, same_id-true, Status, Absent, Alone, Waits, Settled, status}
use Rattle.col_core.proofs.CallerLemmas.{after_event, standing_of, IsLawfulPast, IsLawfulNext, In, in_line, shown}
use Rattle.col_core.proofs.CallerLemmas.{entries-of, lawful_past, dated-is_dated}
use Rattle.lawful_run.proofs.Listed.{in_reverse}

-- the past has an event that enters the id alone
pub record HasSingle (past : List Entry) (id : Id) : Type 0 where
  pub entry : Entry
  pub floor : ℕ
  pub wants : Counts
  pub among : In entry past
  pub is : entry.event ≡ events.Single id floor wants

pub record HasProposal (past : List Entry) (id : Id) : Type 0 where
  pub entry : Entry
  pub floor : ℕ
  pub wants : Counts
  pub among : In entry past
  pub is : entry.event ≡ events.Propose id floor wants

pub record HasSettling (past : List Entry) (id : Id) (outcome : Outcome) : Type 0 where
  pub entry : Entry
  pub among : In entry past
  pub is : entry.event ≡ events.Settle id outcome

later_single : (d : Entry) (past : List Entry) (id : Id) → HasSingle past id → HasSingle (d ∷ past) id
later_single d past id h = record { entry = h.entry; floor = h.floor; wants = h.wants; among = inr h.among; is = h.is }

later_proposal : (d : Entry) (past : List Entry) (id : Id) → HasProposal past id → HasProposal (d ∷ past) id
later_proposal d past id h = record {
  entry = h.entry;
  floor = h.floor;
  wants = h.wants;
  among = inr h.among;
  is =
      h.is;
}

later_settling : (d : Entry) (past : List Entry) (id : Id) (o : Outcome) → HasSettling past id o → HasSettling
    (d ∷ past) id o
later_settling d past id o h = record { entry = h.entry; among = inr h.among; is = h.is }

single_next : (past : List Entry) (d : Entry) (ev : Event) → d.event ≡ ev → (id : Id) (s : ℕ) →
    (status id past ≡ Alone s → HasSingle past id)
    → after_event id ev d.stamp (status id past) ≡ Alone s → HasSingle (d ∷ past) id
single_next past d (events.Single other floor wants) is id s before =
    choice (λ (st : Status). st ≡ Alone s → HasSingle (d ∷ past) id) (same_id id other) (Alone d.stamp) (status id past)
    (λ t e. record {
      entry = d;
      floor = floor;
      wants = wants;
      among = inl refl;
      is = is ∙ ap
          (λ i. events.Single i floor wants) (sym (same_id-true id other t));
    })
    (λ _ e. later_single d past id (before e))
single_next past d (events.Propose other floor wants) is id s before =
    choice (λ (st : Status). st ≡ Alone s → HasSingle (d ∷ past) id) (same_id id other) (Waits d.stamp) (status id past)
    (λ t e. absurd (let f : ⊥ = cc in f)) (λ _ e. later_single d past id (before e))
single_next past d (events.Settle other o) is id s before =
    choice (λ (st : Status). st ≡ Alone s → HasSingle (d ∷ past) id) (same_id id other) (Settled o) (status id past)
    (λ t e. absurd (let f : ⊥ = cc in f)) (λ _ e. later_single d past id (before e))
single_next past d (events.Raise to) is id s before = λ e. later_single d past id (before e)
single_next past d (events.Give region from) is id s before = λ e. later_single d past id (before e)
single_next past d (events.Carry region start heads) is id s before = λ e. later_single d past id (before e)
single_next past d (events.Trim counts) is id s before = λ e. later_single d past id (before e)

has_single : (past : List Entry) (id : Id) (s : ℕ) → status id past ≡ Alone s → HasSingle past id
has_single [] id s e = absurd (let f : ⊥ = cc in f)
has_single (d ∷ past) id s e = single_next past d d.event refl id s (has_single past id s) e

proposal_next : (past : List Entry) (d : Entry) (ev : Event) → d.event ≡ ev → (id : Id) (s : ℕ) →
    (status id past ≡ Waits s → HasProposal past id)
    → after_event id ev d.stamp (status id past) ≡ Waits s → HasProposal (d ∷ past) id
proposal_next past d (events.Single other floor wants) is id s before =
    choice (λ (st : Status). st ≡ Waits s → HasProposal (d ∷ past) id) (same_id id other) (Alone d.stamp)
    (status id past)
    (λ t e. absurd (let f : ⊥ = cc in f)) (λ _ e. later_proposal d past id (before e))
proposal_next past d (events.Propose other floor wants) is id s before =
    choice (λ (st : Status). st ≡ Waits s → HasProposal (d ∷ past) id) (same_id id other) (Waits d.stamp)
    (status id past)
    (λ t e. record {
      entry = d;
      floor = floor;
      wants = wants;
      among = inl refl;
      is = is ∙ ap
          (λ i. events.Propose i floor wants) (sym (same_id-true id other t));
    })
    (λ _ e. later_proposal d past id (before e))
proposal_next past d (events.Settle other o) is id s before =
    choice (λ (st : Status). st ≡ Waits s → HasProposal (d ∷ past) id) (same_id id other) (Settled o) (status id past)
    (λ t e. absurd (let f : ⊥ = cc in f)) (λ _ e. later_proposal d past id (before e))
proposal_next past d (events.Raise to) is id s before = λ e. later_proposal d past id (before e)
proposal_next past d (events.Give region from) is id s before = λ e. later_proposal d past id (before e)
proposal_next past d (events.Carry region start heads) is id s before = λ e. later_proposal d past id (before e)
proposal_next past d (events.Trim counts) is id s before = λ e. later_proposal d past id (before e)

has_proposal : (past : List Entry) (id : Id) (s : ℕ) → status id past ≡ Waits s → HasProposal past id
has_proposal [] id s e = absurd (let f : ⊥ = cc in f)
has_proposal (d ∷ past) id s e = proposal_next past d d.event refl id s (has_proposal past id s) e

settling_next : (past : List Entry) (d : Entry) (ev : Event) → d.event ≡ ev → IsLawfulNext past ev d.stamp → (id : Id)
    (o : Outcome)
    → (status id past ≡ Settled o → HasSettling past id o × HasProposal past id)
    → after_event id ev d.stamp (status id past) ≡ Settled o → HasSettling (d ∷ past) id o × HasProposal (d ∷ past) id
settling_next past d (events.Single other floor wants) is l id o before =
    choice (λ (st : Status). st ≡ Settled o → HasSettling (d ∷ past) id o × HasProposal (d ∷ past) id)
    (same_id id other) (Alone d.stamp) (status id past)
    (λ t e. absurd (let f : ⊥ = cc in f)) (λ _ e. let b = before e in
    (later_settling d past id o b.0, later_proposal d past id b.1))
settling_next past d (events.Propose other floor wants) is l id o before =
    choice (λ (st : Status). st ≡ Settled o → HasSettling (d ∷ past) id o × HasProposal (d ∷ past) id)
    (same_id id other) (Waits d.stamp) (status id past)
    (λ t e. absurd (let f : ⊥ = cc in f)) (λ _ e. let b = before e in
    (later_settling d past id o b.0, later_proposal d past id b.1))
settling_next past d (events.Settle other p) is l id o before =
    choice (λ (st : Status). st ≡ Settled o → HasSettling (d ∷ past) id o × HasProposal (d ∷ past) id)
    (same_id id other) (Settled p) (status id past)
    (λ t e.
    let same = sym (same_id-true id other t) in
    let w : status id past ≡ Waits l.stamp = subst (λ (i : Id). status i past ≡ Waits l.stamp) same l.waits in
    let q : p ≡ o = cc (e) in (
      record {
        entry = d;
        among = inl refl;
        is = is ∙
            (ap (λ i. events.Settle i p) same ∙ ap (λ x. events.Settle id x) q);
      },
      later_proposal d past id (has_proposal past id l.stamp w),
    ))
    (λ _ e. let b = before e in (later_settling d past id o b.0, later_proposal d past id b.1))
settling_next past d (events.Raise to) is l id o before = λ e. let b = before e in
    (later_settling d past id o b.0, later_proposal d past id b.1)
settling_next past d (events.Give region from) is l id o before = λ e. let b = before e in
    (later_settling d past id o b.0, later_proposal d past id b.1)
settling_next past d (events.Carry region start heads) is l id o before = λ e. let b = before e in
    (later_settling d past id o b.0, later_proposal d past id b.1)
settling_next past d (events.Trim counts) is l id o before = λ e. let b = before e in
    (later_settling d past id o b.0, later_proposal d past id b.1)

has_settling : (past : List Entry) → IsLawfulPast past → (id : Id) (o : Outcome) → status id past ≡ Settled o
    → HasSettling past id o × HasProposal past id
has_settling [] l id o e = absurd (let f : ⊥ = cc in f)
has_settling (d ∷ past) l id o e = settling_next past d d.event refl l.0 id o (has_settling past l.1 id o) e

-- a key came into a history's line by a single, or by a proposal that was settled under its stamp
pub data CameIn (h : List Entry) (key : Key) : Type 0 where
  by_single : HasSingle h key.id → CameIn h key
  by_settling : HasProposal h key.id → HasSettling h key.id (Final key.stamp) → CameIn h key

-- the past of a legal history
pub past_of : (own regions : ℕ) (h : List Entry) → IsColumnHistory own regions (dated own h) → IsLawfulPast (reverse h)
past_of own regions h l =
    subst (λ (es : List Entry). IsLawfulPast (reverse es)) (dated-is_dated own h).same
    (lawful_past own regions (dated own h) l)

came : (h : List Entry) → IsLawfulPast (reverse h) → (id : Id) (e : Standing) (st : Status) → status id (reverse h) ≡ st
    → standing_of id st ≡ Some e
    → e.settled ≡ true → CameIn h (record { stamp = e.key.stamp; id = id })
came h l id e Absent is shows settled = absurd (let f : ⊥ = cc in f)
came h l id e (Alone s) is shows settled =
    let f = has_single (reverse h) id s is in
    by_single (record {
      entry = f.entry;
      floor = f.floor;
      wants = f.wants;
      among = in_reverse f.entry h f.among;
      is =
          f.is;
    })
came h l id e (Waits s) is shows settled =
    let x : record { key = entry_key s id; settled = false } ≡ e = cc (shows) in
    let y : false ≡ true = ap (λ (z : Standing). z.settled) x ∙ settled in absurd (let f : ⊥ = cc in f)
came h l id e (Settled Open) is shows settled = absurd (let f : ⊥ = cc in f)
came h l id e (Settled (Gone why)) is shows settled = absurd (let f : ⊥ = cc in f)
came h l id e (Settled (Final n)) is shows settled =
    let f = has_settling (reverse h) l id (Final n) is in
    let x : record { key = entry_key n id; settled = true } ≡ e = cc (shows) in
    let stamp : n ≡ e.key.stamp = ap (λ (z : Standing). z.key.stamp) x in
    by_settling
    (record {
      entry = f.1.entry;
      floor = f.1.floor;
      wants = f.1.wants;
      among = in_reverse f.1.entry h f.1.among;
      is =
          f.1.is;
    })
    (record {
      entry = f.0.entry;
      among = in_reverse f.0.entry h f.0.among;
      is = f.0.is ∙ ap
          (λ m. events.Settle id (Final m)) stamp;
    })

-- the standing of a key of a line
stands_as : (own regions : ℕ) (h : List Entry) → IsColumnHistory own regions (dated own h) → (key : Key) → In key
    (history.line h)
    → (e : Standing) × (standing_of key.id (status key.id (reverse h)) ≡ Some e) × (e.key ≡ key) × (e.settled ≡ true)
stands_as own regions h l key i =
    let e = in_line (history.entries h) key i in
    let s = shown (reverse h) (past_of own regions h l) e.0
    (subst (λ (es : List Standing). In e.0 es) (entries-of h) e.1) in
    (e.0, subst (λ (k : Key). standing_of k.id (status k.id (reverse h)) ≡ Some e.0) e.2 s, e.2, e.3)

pub came_in : (own regions : ℕ) (h : List Entry) → IsColumnHistory own regions (dated own h) → (key : Key) → In key
    (history.line h) → CameIn h key
came_in own regions h l key i =
    let e = stands_as own regions h l key i in
    subst (λ (n : ℕ). CameIn h (record { stamp = n; id = key.id })) (ap (λ (k : Key). k.stamp) e.2)
    (came h (past_of own regions h l) key.id e.0 (status key.id (reverse h)) refl e.1 e.3)

-- an id has one key in a line
pub one_in_line : (own regions : ℕ) (h : List Entry) → IsColumnHistory own regions (dated own h) → (k l : Key) → In k
    (history.line h) → In l (history.line h)
    → k.id ≡ l.id → k ≡ l
one_in_line own regions h lawful k l i j same =
    let a = stands_as own regions h lawful k i in
    let b = stands_as own regions h lawful l j in
    let c : standing_of k.id (status k.id (reverse h)) ≡ Some b.0 =
    subst (λ (x : Id). standing_of x (status x (reverse h)) ≡ Some b.0) (sym same) b.1 in
    let d : Some a.0 ≡ Some b.0 = sym a.1 ∙ c in
    let e : a.0 ≡ b.0 = cc (d) in
    sym a.2 ∙ (ap (λ (x : Standing). x.key) e ∙ b.2)
