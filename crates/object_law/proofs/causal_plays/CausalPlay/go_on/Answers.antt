use Rattle.std.proofs.Common.{◌≡◌, ◌<◌, None, Some, subst, sym, ℕ}
use Rattle.log_node.specs.declared.ids.Counts.{Counts}
use Rattle.log_node.specs.Reach.{Reachable}
use Rattle.object_fold.specs.CausalStates.{counts_of}
use Rattle.walk_law.specs.Playing.{free_head, lines_of}
use Rattle.object_law.specs.CausalPlays.{AreLineNodes}
use Rattle.object_law.proofs.CausalNodes.{all_fed, fed_more, lacks, less_left, more_within}
use Rattle.object_law.proofs.causal_plays.CausalPlay.go_on.Goals as goal

pub returns-in_default-node_with-clause-fed : goal.returns-in_default-node_with-clause-fed
returns-in_default-node_with-clause-fed c = λ reached nodes are.
    let walked = c.args.subject.now in
    let table = c.args.nodes.now in
    lacks walked table c.loop-next.self.colour c.counts.result c.args.to c.in-Some.next.region c.in-Some.next.head
    c.in-Some.ensures.some.0 c.in-Some.ensures.some.1 (c.in_default-node_with.ensures walked) nodes
    (subst (λ (colour : ℕ). AreLineNodes walked table colour c.args.to nodes) (sym c.loop-next.invariant.2) are)

pub loop-next-smaller : goal.loop-next-smaller
loop-next-smaller c =
    let walked = c.args.subject.now in
    let table = c.args.nodes.now in
    let colour = c.loop-next.self.colour in
    let next = c.in-Some.next in
    less_left walked table colour c.loop-next.self.map c.feed.new.self c.loop-next.invariant.0 c.args.to next.region
    c.in-Some.ensures.some.0 next.head
    (subst (λ (v : Counts). free_head (lines_of walked colour) v c.args.to next.region ≡ Some next.head) c.counts.ensures.value
    c.in-Some.ensures.some.1)
    c.in-Some-node_with.node.now.text (c.in-Some-node_with.ensures walked) c.in_ok-feed.ensures.ok

pub loop-next-preserved : goal.loop-next-preserved
loop-next-preserved c =
    let walked = c.args.subject.now in
    let table = c.args.nodes.now in
    let colour = c.loop-next.self.colour in
    let next = c.in-Some.next in
    let old = c.loop-next.self.map in
    let new = c.feed.new.self in
    let is = c.loop-next.invariant.0 in
    let free = subst (λ (v : Counts). free_head (lines_of walked colour) v c.args.to next.region ≡ Some next.head)
    c.counts.ensures.value c.in-Some.ensures.some.1 in
    let text = c.in-Some-node_with.node.now.text in
    let has = c.in-Some-node_with.ensures walked in (
      fed_more walked table colour old new is c.args.to next.region c.in-Some.ensures.some.0 next.head free text has c.in_ok-feed.ensures.ok,
      more_within walked table colour old new is c.args.to next.region c.in-Some.ensures.some.0 next.head free text has
          c.in_ok-feed.ensures.ok c.loop-next.invariant.1,
      c.loop-next.invariant.2,
    )

pub returns-clause-fed : goal.returns-clause-fed
returns-clause-fed c = λ reached region lt.
    let walked = c.args.subject.now in
    let colour = c.loop-next.self.colour in
    all_fed (lines_of walked colour) (counts_of c.loop-next.self.map) c.args.to c.loop-next.invariant.1
    (subst (λ (v : Counts). (r : ℕ) → r < 4 → free_head (lines_of walked colour) v c.args.to r ≡ None) c.counts.ensures.value
    (c.next_fed.ensures.none c.in_default.is))
    (subst (λ (k : ℕ). Reachable (lines_of walked k) c.args.to) (sym c.loop-next.invariant.2) reached) region lt
