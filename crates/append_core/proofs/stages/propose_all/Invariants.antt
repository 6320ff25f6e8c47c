use Rattle.std.proofs.Common.{◌≡◌, ◌+◌, length, None}
use Rattle.log_node.specs.declared.node.Node.{Node}
use Rattle.chain_store.specs.declared.hold.Hold.{Hold}
use Rattle.chain_store.specs.Holds.{IsHold, KnowsAppend}
use Rattle.append_core.specs.Several.{own_append}
use Rattle.append_core.specs.Inside.{ArePointsOf, AreProposed, IsAhead, IsNextOf}
use Rattle.append_core.proofs.stages.propose_all.Given as goal

-- the first colours are proposed
abbrev pub invariant-loop-n : goal.invariant-loop-n
invariant-loop-n g l = record {
  hold : IsHold l.region l.hold;
  begun : KnowsAppend l.region l.hold l.begun;
  points : ArePointsOf l.points.items l.begun.colours;
  long : length l.points.items ≡ l.n-end;
  few : length l.points.items ≡ length l.fn.points.items;
  proposed : (old : Hold) (x : Node) → IsNextOf l.region old x → l.begun ≡ own_append old x
      → AreProposed l.region old l.fn.hold x l.fn.points.items 0 None
      → AreProposed l.region old l.hold x l.points.items l.n l.ended;
  ahead : IsAhead l.course.stop 1 → IsAhead l.course.stop (l.n + 1);
}
