-- What an append to several colours leaves in the end, and how it begins.
use Rattle.std.proofs.Common.{◌≡◌, ◌≢◌, ℕ, ◌+◌, ◌<◌, ◌≤◌, List, length, Option, Some, None, Result, Ok, Err, slice_get, refl, ap, sym, subst, ◌∙◌, arith, inl, inr, ◌⊎◌}
use Rattle.std.specs.Prelude.{IfSome, IfOk, IfErr, OnOk}
use Rattle.std.proofs.lemmas.List.{length-map}
use Rattle.log_node.specs.declared.limits.TheConstants.{MAX_COLOURS}
use Rattle.log_node.specs.declared.ids.Row.{Row}
use Rattle.log_node.specs.declared.node.At.{At}
use Rattle.log_node.specs.declared.node.Node.{Node}
use Rattle.log_node.specs.declared.marks.Why.{Why}
use Rattle.log_node.specs.declared.marks.Why.TheVariants.{Memory, StampEnd}
use Rattle.log_node.specs.declared.marks.Outcome.TheVariants.{Gone, Final}
use Rattle.log_node.specs.Seen.{BegunAppend}
use Rattle.log_node.specs.Sets.{members}
use Rattle.log_node.proofs.CallerLemmas.{members_few}
use Rattle.col_core.specs.History.{entry_key}
use Rattle.col_core.specs.Ids.{IsFinal}
use Rattle.stamp_board.specs.Seats.{IsLater, IsNext}
use Rattle.stamp_board.specs.Views.{Grows, KnowsBegun}
use Rattle.stamp_board.proofs.CallerLemmas.{Grows-refl, Learns-from, outcome_learnt}
use Rattle.chain_store.specs.declared.hold.Hold.{Hold}
use Rattle.chain_store.specs.declared.region.Region.{Region}
use Rattle.chain_store.specs.Beginning.{BeginsRow, HasNextRow, begun_for}
use Rattle.chain_store.specs.Going.{GoesOn}
use Rattle.chain_store.specs.Owning.{row_of}
use Rattle.chain_store.specs.Holds.{IsHold, KnowsAppend, entries_seen, view_of}
use Rattle.chain_store.proofs.CallerLemmas.{goes_same, goes_then, goes_weaken}
use Rattle.append_core.specs.declared.stood.Point.{Point}
use Rattle.append_core.specs.declared.stood.Stood.{Stood}
use Rattle.append_core.specs.declared.several.MultiFault.{MultiFault}
use Rattle.append_core.specs.declared.several.MultiFault.TheVariants as faults
use Rattle.append_core.specs.Helping.{HelpsOpen, IsStepIn}
use Rattle.append_core.specs.Several.{HoldEnters, IsStepBefore, IsStopOf, HoldLeaves, HoldAppendsSeveral, HoldStopsAfter, own_append, own_row}
use Rattle.append_core.specs.Inside.{ArePointsOf, IsAhead, HasTakenAll, HasPosition, IsStopAt, point_colours}
use Rattle.append_core.proofs.Helped.{helped_longer}
use Rattle.append_core.proofs.Keeping.{begun_on, enters_later}
use Rattle.append_core.proofs.Pointing.{point_has}

-- a final append is final in the colour of each point
pub stamped_there : (r : Region) (g h : Hold) (x : Node) (points : List Point) (places : List (Option ℕ)) (ended : Option ℕ)
    (f n : ℕ) (p : Point) → HasTakenAll r g h x points places ended (Final f) → ArePointsOf points x.colours
    → slice_get points n ≡ Some p → IsFinal (entries_seen h p.colour) x.id f
stamped_there r g h x points places ended f n p d of at =
    (d.all.settled p.colour (point_has points x.colours of n p at)).final f refl

pub stands_all : (r : Region) (g h k : Hold) (x : Node) (points : List Point) (places : List (Option ℕ))
    (ended : Option ℕ) (stamp : ℕ) (s : Stood) → HasTakenAll r g h x points places ended (Final stamp)
    → ArePointsOf points x.colours → IsLater h.seat k.seat → k.next ≡ h.next
    → GoesOn (λ c e. HelpsOpen h k e) h k → s.key ≡ entry_key stamp x.id → point_colours s.points ≡ point_colours points
    → ((n : ℕ) (p : Point) → slice_get s.points n ≡ Some p → HasPosition k (entry_key stamp x.id) points n p)
    → HoldAppendsSeveral r g k x s
stands_all r g h k x points places ended stamp s d of later next goes key colours placed =
    let b = own_append g x in
    let both : ℕ → _ → Type 0 = λ c e. IsStepIn b c e ⊎ HelpsOpen g k e in record {
      begun = begun_on r g h k x later next d.all.begun;
      stamp = stamp;
      key = key;
      outcome = outcome_learnt (view_of h) (view_of k) (own_row g) later.grows.size
          (Learns-from (view_of h) (view_of k) later.grows) (Final stamp) d.all.outcome;
      colours = colours ∙ of.same;
      each = λ n p at. let w = placed n p at in record {
        entered = subst (λ (c : ℕ). HoldEnters g k x c p.at) (sym w.2)
            (subst (λ (a : At). HoldEnters g k x w.0.colour a) (sym w.3)
            (enters_later g h k x goes.more later.grows w.0.colour w.0.at (d.decided.entered stamp n w.0 refl w.1)));
        stands = w.4;
      };
      goes = goes_then both g h k
          (goes_weaken (IsStepIn b) g h both (λ c e it. inl it) d.all.goes)
          (goes_weaken (λ c e. HelpsOpen g k e) h k both (λ c e it. inr it)
          (helped_longer (IsStepIn b) (λ c e. HelpsOpen h k e) g h k k d.all.goes d.all.begun.grows
          (goes_same (λ c e. HelpsOpen h k e) k k refl) (Grows-refl (view_of k)) goes));
    }

-- what is left of one that is gone
pub leaves_gone : (r : Region) (g h : Hold) (x : Node) (points : List Point) (places : List (Option ℕ))
    (ended : Option ℕ) (why : Why) (fault : MultiFault) → HasTakenAll r g h x points places ended (Gone why)
    → (why ≡ Memory → fault ≡ faults.NoMemory)
    → ((c : ℕ) → why ≡ StampEnd → ended ≡ Some c → fault ≡ faults.StampEnd c)
    → HoldLeaves r g h x None fault
leaves_gone r g h x points places ended Memory fault d memory end =
    subst (λ (f : MultiFault). HoldLeaves r g h x None f) (sym (memory refl)) (inr (refl, d.all))
leaves_gone r g h x points places ended StampEnd fault d memory end =
    let e = d.decided.ends refl in
    subst (λ (f : MultiFault). HoldLeaves r g h x None f) (sym (end e.0 refl e.1))
    (refl, record { all = d.all; first = e.2 })

pub ended_some : (r : Region) (g h : Hold) (x : Node) (points : List Point) (places : List (Option ℕ))
    (ended : Option ℕ) (why : Why) → HasTakenAll r g h x points places ended (Gone why) → why ≡ StampEnd
    → (c : ℕ) × (ended ≡ Some c)
ended_some r g h x points places ended why d is = let e = d.decided.ends (ap Gone is) in (e.0, e.1)

-- a stop at one of the steps comes before they are all taken
pub no_stop : (stop : Option ℕ) (n k : ℕ) → IfSome stop (λ s. (0 < s) × (s ≤ n + n + 2)) → n ≡ k
    → IsAhead stop (k + k + 2) → stop ≡ None
no_stop None n k within is ahead = refl
no_stop (Some s) n k within is ahead = absurd (let w = within.1 in let f : ⊥ = omega (arith, w, is, ahead) in f)

-- a stop that is not at once is after the first step or later
pub first_ahead : (stop : Option ℕ) (n : ℕ) → IfSome stop (λ s. (0 < s) × (s ≤ n + n + 2)) → stop ≢ Some 1
    → IsAhead stop 1
first_ahead None n within ne = tt
first_ahead (Some s) n within ne =
    let low = within.0 in let other : s ≢ 1 = λ e. ne (ap Some e) in omega (arith, low, other)

pub stop_within : (x : Node) (stop : Option ℕ) (n : ℕ) → n ≡ length (members x.colours) → stop ≢ Some 0
    → IfSome stop (IsStopOf x) → IfSome stop (λ s. (0 < s) × (s ≤ n + n + 2))
stop_within x None n is ne within = tt
stop_within x (Some s) n is ne within =
    let le = within.within in let other : s ≢ 0 = λ e. ne (ap Some e) in (omega (arith, other), omega (arith, le, is))

-- the beginning

pub next_is : (r : Region) (g : Hold) (row : Row) → IsHold r g → IsNext r.board g.seat row → row ≡ own_row g
next_is r g row is next = next.1 ∙ ap (λ (n : ℕ). row_of n g.seat.used) is.number

pub begins_one : (r : Region) (g h : Hold) (x : Node) (row : Row) → IsHold r g → IsNext r.board g.seat row
    → BeginsRow r g h row x → h.passes ≡ g.passes → HasNextRow r.board g.seat x → HoldStopsAfter r g h x 1
begins_one r g h x row is next b passes named =
    let same = next_is r g row is next in record {
      begun = record {
        row = named row next ∙ ap Some same;
        room = next.0;
        knows = subst (λ (w : Row). KnowsBegun (view_of h) w x) same b.seat.knows;
        used = b.seat.used;
        next = b.next;
        grows = b.seat.grows;
      };
      marked = λ n c e lt. absurd (let f : ⊥ = omega (arith, lt) in f);
      decided = λ le. absurd (let f : ⊥ = omega (arith, le) in f);
      settled = λ n c e lt. absurd (let f : ⊥ = omega (arith, lt) in f);
      goes = goes_same (IsStepBefore x 1) g h passes;
    }

pub begun_knows : (r : Region) (g h : Hold) (x : Node) (row : Row) (b : BegunAppend) → b ≡ begun_for x row
    → IsHold r g → IsNext r.board g.seat row → BeginsRow r g h row x → KnowsAppend r h b
begun_knows r g h x row b of is next begins =
    subst (λ (a : BegunAppend). KnowsAppend r h a) (sym of)
    (record {
      knows = begins.knows;
      own = λ mine.
          let same = ap (λ (w : Row). w.number) next.1 in
          let used = begins.seat.used in
          omega (arith, same, used);
    })

pub points_few : (x : Node) (points : List Point) → ArePointsOf points x.colours → length points ≤ MAX_COLOURS
points_few x points of =
    let low = members_few x.colours in
    let same : length points ≡ length (members x.colours) =
    sym (length-map points (λ (p : Point). p.colour)) ∙ ap (λ (l : List ℕ). length l) of.same in
    omega (arith, low, same)

-- what holds of an answer
module _ {T E : Type 0} where
  pub ok_as : (r : Result T E) (P Q : T → Type 0) → ((x : T) → P x → Q x) → IfOk r P → IfOk r Q
  ok_as (Ok x) P Q f h = f x h
  ok_as (Err e) P Q f h = tt

  pub err_as : (r : Result T E) (P Q : E → Type 0) → ((e : E) → P e → Q e) → IfErr r P → IfErr r Q
  err_as (Ok x) P Q f h = tt
  err_as (Err e) P Q f h = f e h

  pub on_ok : (r : Result T E) (A : Type 0) → A → OnOk r A
  on_ok (Ok x) A a = a
  on_ok (Err e) A a = tt

-- the hold knows all that it knew, whatever comes
leaves_grow : (r : Region) (g k : Hold) (x : Node) (stop : Option ℕ) (fault : MultiFault) → HoldLeaves r g k x stop fault
    → Grows (view_of g) (view_of k)
leaves_grow r g k x stop (faults.Full used) l = absurd l
leaves_grow r g k x stop (faults.StampEnd colour) l = l.1.all.begun.grows
leaves_grow r g k x stop (faults.Stopped steps) l = elim l.1 [
  | inl none ↦ subst (λ (h : Hold). Grows (view_of g) (view_of h)) (sym none.1) (Grows-refl (view_of g))
  | inr some ↦ some.1.begun.grows
]
leaves_grow r g k x stop faults.NoMemory l = elim l [
  | inl same ↦ subst (λ (h : Hold). Grows (view_of g) (view_of h)) (sym same) (Grows-refl (view_of g))
  | inr gone ↦ gone.1.begun.grows
]

pub knows_on : (r : Region) (g k : Hold) (x : Node) (stop : Option ℕ) (answer : Result Stood MultiFault)
    → IfOk answer (HoldAppendsSeveral r g k x) → IfErr answer (HoldLeaves r g k x stop) → Grows (view_of g) (view_of k)
knows_on r g k x stop (Ok s) ok err = ok.begun.grows
knows_on r g k x stop (Err fault) ok err = leaves_grow r g k x stop fault err
