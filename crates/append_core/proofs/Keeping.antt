-- What stays of an append to several colours on its way, as the hold goes on.
use Rattle.std.proofs.Common.{◌≡◌, ℕ, ◌≤◌, List, length, Option, ◌∙◌, arith}
use Rattle.log_node.specs.declared.ids.Row.{Row}
use Rattle.log_node.specs.declared.node.At.{At}
use Rattle.log_node.specs.declared.node.At.TheVariants.{Event, Look}
use Rattle.log_node.specs.declared.node.Node.{Node}
use Rattle.log_node.specs.declared.marks.Mark.{Mark}
use Rattle.log_node.specs.declared.marks.Outcome.{Outcome}
use Rattle.log_node.specs.Sets.{members}
use Rattle.col_core.specs.declared.Event as events
use Rattle.col_core.specs.Appending.{IsStepWithin}
use Rattle.stamp_board.specs.Seats.{IsLater}
use Rattle.stamp_board.specs.Views.{Grows, KnowsMark}
use Rattle.stamp_board.proofs.CallerLemmas.{Grows-trans, Learns-from, begun_learnt, mark_learnt, outcome_learnt}
use Rattle.chain_store.specs.declared.hold.Hold.{Hold}
use Rattle.chain_store.specs.declared.region.Region.{Region}
use Rattle.chain_store.specs.Columns.{told_propose}
use Rattle.chain_store.specs.Holds.{seen_in, view_of}
use Rattle.append_core.specs.declared.stood.Point.{Point}
use Rattle.append_core.specs.Several.{HoldBegins, HoldEnters, IsFirstEnd, IsMarkedElse, IsStepBefore, own_row}
use Rattle.append_core.specs.Inside.{IsDecidedSo, IsProposedThere}
use Rattle.append_core.proofs.Places.{prefix_length, prefix_get}
use mathlib.Core.List.{IsPrefix}

-- among more steps are those that were among fewer

within_more : (n k few more : ℕ) (e : events.Event) → few ≤ more → IsStepWithin n k few e → IsStepWithin n k more e
within_more n k few more (events.TheVariants.Single id floor wants) le s = s
within_more n k few more (events.TheVariants.Propose id floor wants) le s = omega (arith, le, s)
within_more n k few more (events.TheVariants.Settle id outcome) le s = omega (arith, le, s)
within_more n k few more (events.TheVariants.Raise to) le s = s
within_more n k few more (events.TheVariants.Give region from) le s = s
within_more n k few more (events.TheVariants.Carry region start heads) le s = s
within_more n k few more (events.TheVariants.Trim counts) le s = s

pub step_more : (x : Node) (few more c : ℕ) (e : events.Event) → few ≤ more → IsStepBefore x few c e → IsStepBefore x more c e
step_more x few more c e le s = (s.0, s.1, s.2, within_more s.0 (length (members x.colours)) few more e le s.3)

-- the hold has gone on
module _ (g h k : Hold) (x : Node) (more : (c : ℕ) → IsPrefix (seen_in h c) (seen_in k c))
    (grows : Grows (view_of h) (view_of k)) where
  pub enters_later : (c : ℕ) (at : At) → HoldEnters g h x c at → HoldEnters g k x c at
  enters_later c (Event place) e = (
    e.0,
    e.1,
    prefix_get (seen_in h c) (seen_in k c) place (told_propose c g.passes.number x e.1) (more c) e.2,
  )
  enters_later c (Look seen) e =
      let long = prefix_length (seen_in h c) (seen_in k c) (more c) in
      let was = e.1 in (
        e.0,
        omega (arith, long, was),
        e.2,
        e.3,
        e.4,
        e.5,
        e.6,
        prefix_get (seen_in h c) (seen_in k c) e.2 (told_propose c e.4 x e.6) (more c) e.7,
      )

  pub mark_later : (row : Row) (c : ℕ) (m : Mark) → KnowsMark (view_of h) row c m → KnowsMark (view_of k) row c m
  mark_later row c m = mark_learnt (view_of h) (view_of k) row grows.size (Learns-from (view_of h) (view_of k) grows) c m

  pub else_later : (row : Row) (c : ℕ) → IsMarkedElse h row c → IsMarkedElse k row c
  else_later row c m = (m.0, m.1, m.2, mark_later row c m.0 m.3)

  pub end_later : (row : Row) (c : ℕ) → IsFirstEnd h x row c → IsFirstEnd k x row c
  end_later row c e = record {
    coloured = e.coloured;
    fence = mark_later row c _ e.fence;
    least = λ d it lt. else_later row d (e.least d it lt);
  }

  pub proposed_later : (c : ℕ) (at : At) → IsProposedThere g h x c at → IsProposedThere g k x c at
  proposed_later c at p = record {
    mark = p.mark;
    set = p.set;
    known = mark_later (own_row g) c p.mark p.known;
    entered = λ n is. enters_later c at (p.entered n is);
  }

  pub decided_later : (points : List Point) (ended : Option ℕ) (o : Outcome) → IsDecidedSo g h x points ended o
      → IsDecidedSo g k x points ended o
  decided_later points ended o d = record {
    shut = d.shut;
    outcome = outcome_learnt (view_of h) (view_of k) (own_row g) grows.size (Learns-from (view_of h) (view_of k) grows) o
        d.outcome;
    entered = λ f n p is at. enters_later p.colour p.at (d.entered f n p is at);
    ends = λ is. let e = d.ends is in (e.0, e.1, end_later (own_row g) e.0 e.2);
  }

-- its row stays begun
pub begun_on : (r : Region) (g h k : Hold) (x : Node) → IsLater h.seat k.seat → k.next ≡ h.next → HoldBegins r g h x
    → HoldBegins r g k x
begun_on r g h k x later next b = record {
  row = b.row;
  room = b.room;
  knows = begun_learnt (view_of h) (view_of k) (own_row g) later.grows.size
      (Learns-from (view_of h) (view_of k) later.grows) x b.knows;
  used = later.used ∙ b.used;
  next = next ∙ b.next;
  grows = Grows-trans (view_of g) (view_of h) (view_of k) b.grows later.grows;
}
