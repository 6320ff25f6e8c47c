use Rattle.std.proofs.Common.{◌≡◌, ◌≢◌, ℕ, ◌+◌, ◌<◌, ◌≤◌, List, length, take, sym, refl, ◌∙◌, subst, arith, length-take}
use Rattle.std.specs.Prelude.{if◌then◌else◌, ◌==◌}
use Rattle.log_node.specs.declared.limits.TheConstants.{MAX_COLOURS}
use Rattle.log_node.specs.declared.marks.Mark.{Mark}
use Rattle.log_node.specs.declared.marks.Outcome.{Outcome}
use Rattle.log_node.specs.declared.marks.Outcome.TheVariants.{Open}
use Rattle.stamp_board.specs.declared.view.Size.{Size}
use Rattle.log_node.specs.Outcomes.{outcome_of}
use Rattle.stamp_board.specs.Words.{word_at, row_at}
use Rattle.stamp_board.specs.Law.{AreSet, Fits, IsDecided, Lawful}
use Rattle.stamp_board.proofs.Fitting.{outcome_decided}
use Rattle.stamp_board.proofs.Deciding.{known_outcome, never_open, ended_knows, later_grows}
use Rattle.stamp_board.proofs.Deciding.{later_mine, begun_stay}
use Rattle.stamp_board.proofs.CallerLemmas.{Learns-from, outcome_learnt}
use Rattle.stamp_board.proofs.Possible.{may_be, decided_is_outcome}
use Rattle.stamp_board.proofs.board.Board.decide.Goals as goal

is_decided : (n : ℕ) (marks : List Mark) (decided : Outcome) → length marks ≡ MAX_COLOURS → n ≤ MAX_COLOURS → n ≢ 0 → AreSet (take n marks)
    → decided ≡ outcome_of (take n marks) → IsDecided decided
is_decided n marks decided wide most ne set is =
    let len = length-take n marks in
    let more : 0 < length (take n marks) = omega (arith, len, ne) in
    subst IsDecided (sym is) (outcome_decided (take n marks) set more)

pub returns-then-count-eq0-clause-open : goal.returns-then-count-eq0-clause-open
returns-then-count-eq0-clause-open c _ = let k = c.args.self.now.size in let t = c.take_marks-count in
    let o = t.ensures.none c.if-count-eq0.true in
    (o.0, may_be k o.0 t.new.seat.me.0 (t.ensures.view.0.size ∙ c.requires.seat.1) o.1 o.2, o.3)

pub returns-then-count-eq0-clause-before : goal.returns-then-count-eq0-clause-before
returns-then-count-eq0-clause-before c o knows =
    let k = c.args.self.now.size in let v = c.args.seat.now.inner.me.0 in let t = c.take_marks-count in
    let u = t.new.seat.me.0 in let grows = t.ensures.view.0 in let w = t.ensures.none c.if-count-eq0.true in
    let still = outcome_learnt v u c.args.row grows.size (Learns-from v u grows) o knows in
    sym w.3 ∙ known_outcome k u c.args.row o (grows.size ∙ c.requires.seat.1) still w.0 w.1 w.2

pub returns-clause-before : goal.returns-clause-before
returns-clause-before c o knows =
    let k = c.args.self.now.size in let v = c.args.seat.now.inner.me.0 in let t = c.take_marks-count in
    let u = t.new.seat.me.0 in let grows = t.ensures.view.0 in let told = c.set_final.ensures.told in
    let is = grows.size ∙ c.requires.seat.1 in
    let law : Lawful k told.0 = subst (λ (z : Size). Lawful z told.0) is told.1 in
    let f : Fits k told.0 u = subst (λ (z : Size). Fits z told.0 u) is told.2 in
    let still = outcome_learnt v u c.args.row grows.size (Learns-from v u grows) o knows in
    c.outcome-decided.ensures ∙ sym (t.ensures.some c.if-count-eq0.false told.0 law f)
    ∙ known_outcome k u c.args.row o is still told.0 law f

pub returns-then-count-eq0-clause-closed : goal.returns-then-count-eq0-clause-closed
returns-then-count-eq0-clause-closed c all _ = let b = c.args.self.now in let t = c.take_marks-count in
    let o = t.ensures.none c.if-count-eq0.true in
    never_open b.size c.args.seat.now.inner.me.0 t.new.seat.me.0 c.args.row c.requires.seat.1
    b.is_size.few_colours t.ensures.view.0 all o.0 o.1 o.2 o.3

pub word_of_outcome-new-requires : goal.word_of_outcome-new-requires
word_of_outcome-new-requires c = let t = c.take_marks-count in
    is_decided t.result t.new.marks c.outcome-decided.result t.auto.marks t.ensures.count c.if-count-eq0.false
    t.ensures.set c.outcome-decided.ensures

pub invariant_of-seat-2-clause-begun : goal.invariant_of-seat-2-clause-begun
invariant_of-seat-2-clause-begun c = let k = c.args.self.now.size in let s = c.args.seat.now in let v = s.inner.me.0 in
    let t = c.take_marks-count in let e = c.set_final in
    let i : ℕ = word_at k (row_at k c.args.row) (k.colours + 1) in
    let n : ℕ = if e.result == 0 then c.word_of_outcome-new.result else e.result in
    begun_stay (λ j m. m ≢ 0
    → j < s.used) v e.new.seat.me.0 s.client (later_mine v t.new.seat.me.0 e.new.seat.me.0 i n t.ensures.view.0
    t.ensures.view.1 e.ensures.view)
    (later_grows v t.new.seat.me.0 e.new.seat.me.0 i n t.ensures.view.0 t.ensures.view.1 e.ensures.view).size s.begun

pub invariant_of-seat-2-clause-all : goal.invariant_of-seat-2-clause-all
invariant_of-seat-2-clause-all c = let k = c.args.self.now.size in let s = c.args.seat.now in let v = s.inner.me.0 in
    let t = c.take_marks-count in let e = c.set_final in
    let i : ℕ = word_at k (row_at k c.args.row) (k.colours + 1) in
    let n : ℕ = if e.result == 0 then c.word_of_outcome-new.result else e.result in
    begun_stay (λ j m. j < s.used
    → m ≢ 0) v e.new.seat.me.0 s.client (later_mine v t.new.seat.me.0 e.new.seat.me.0 i n t.ensures.view.0
    t.ensures.view.1 e.ensures.view)
    (later_grows v t.new.seat.me.0 e.new.seat.me.0 i n t.ensures.view.0 t.ensures.view.1 e.ensures.view).size s.all

pub returns-clause-open : goal.returns-clause-open
returns-clause-open c e = let t = c.take_marks-count in
    let decided = is_decided t.result t.new.marks c.outcome-decided.result t.auto.marks t.ensures.count c.if-count-eq0.false
    t.ensures.set c.outcome-decided.ensures in
    absurd (let none : IsDecided Open = subst IsDecided e decided in none)

pub returns-clause-known : goal.returns-clause-known
returns-clause-known c _ = let k = c.args.self.now.size in let t = c.take_marks-count in let e = c.set_final in
    let w = c.word_of_outcome-new in
    ended_knows k t.new.seat.me.0 e.new.seat.me.0 c.args.row w.result e.result c.outcome-decided.result
    (t.ensures.view.0.size ∙ c.requires.seat.1) e.ensures.view e.ensures.told
    (λ ws law f. t.ensures.some c.if-count-eq0.false ws law f
    ∙ sym c.outcome-decided.ensures) w.ensures.word w.ensures.small.0

pub returns-clause-of_marks : goal.returns-clause-of_marks
returns-clause-of_marks c ne ws may = let k = c.args.self.now.size in let t = c.take_marks-count in
    let e = c.set_final in let w = c.word_of_outcome-new in
    let knows = ended_knows k t.new.seat.me.0 e.new.seat.me.0 c.args.row w.result e.result c.outcome-decided.result
    (t.ensures.view.0.size ∙ c.requires.seat.1) e.ensures.view e.ensures.told
    (λ ws law f. t.ensures.some c.if-count-eq0.false ws law f
    ∙ sym c.outcome-decided.ensures) w.ensures.word w.ensures.small.0 in
    let decided = may.outcomes c.args.row c.outcome-decided.result knows in
    sym (may.decided c.args.row (λ z. ne (sym decided ∙ z))) ∙ decided

pub returns-clause-stamp : goal.returns-clause-stamp
returns-clause-stamp c = decided_is_outcome c.outcome-decided.result
    (is_decided c.take_marks-count.result c.take_marks-count.new.marks c.outcome-decided.result
    c.take_marks-count.auto.marks c.take_marks-count.ensures.count c.if-count-eq0.false
    c.take_marks-count.ensures.set c.outcome-decided.ensures)

pub returns-clause-seat : goal.returns-clause-seat
returns-clause-seat c = let k = c.args.self.now.size in let t = c.take_marks-count in let e = c.set_final in
    let n : ℕ = if e.result == 0 then c.word_of_outcome-new.result else e.result in
    record {
      board = e.ensures.seat.0 ∙ t.ensures.seat.0;
      client = refl;
      used = refl;
      grows = later_grows c.args.seat.now.inner.me.0 t.new.seat.me.0 e.new.seat.me.0
          (word_at k (row_at k c.args.row) (k.colours + 1)) n t.ensures.view.0 t.ensures.view.1 e.ensures.view;
    }
