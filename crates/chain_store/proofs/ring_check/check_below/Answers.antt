use Rattle.std.proofs.Common.{rules, refl, ◌<◌, length, slice_index_or, ◌∙◌, arith}
use Rattle.std.proofs.lemmas.Option.{slice_get-get_or, slice_get_within}
use Rattle.chain_store.specs.Joined.{ended_past}
use Rattle.chain_store.proofs.RingsChecked.{alike_put, below_more, ended_as, joined_now}
use Rattle.chain_store.proofs.ring_check.check_below.Goals as goal

pub loop-a-init : goal.loop-a-init
loop-a-init c = record { low = refl; last = refl; along = λ a x lt at. absurd (omega (arith, lt)) }

pub check_between-requires-clause-joined : goal.check_between-requires-clause-joined
check_between-requires-clause-joined c =
    let i = c.loop-a.invariant in
    let low = c.loop-a.low in
    let a = c.loop-a.a in
    let near : a < length low = search rules in
    joined_now low c.args.low.now c.loop-a.last c.args.last.now i.low i.last (length c.args.low.now) a
    (slice_index_or low a c.index-low-a.result) (slice_get-get_or low a c.index-low-a.result near) c.args.regions
    c.requires.joined

pub loop-a-preserved : goal.loop-a-preserved
loop-a-preserved c =
    let i = c.loop-a.invariant in
    let low = c.loop-a.low in
    let last = c.loop-a.last in
    let a = c.loop-a.a in
    let near : a < length low = search rules in
    let x = slice_index_or low a c.index-low-a.result in
    let at = slice_get-get_or low a c.index-low-a.result near in
    let e = c.check_between.ensures in
    record {
      low = alike_put ended_past low c.args.low.now a
          (record { columns = x.columns; rows = x.rows; ends = c.check_between.new.xs }) x i.low at
          (ended_as x c.check_between.new.xs e.first);
      last = ended_as last c.check_between.new.ys e.second ∙ i.last;
      along = below_more low c.args.low.now last c.args.last.now i.low i.last (length c.args.low.now) a x at i.along
          e.along;
    }

pub returns-clause-low : goal.returns-clause-low
returns-clause-low c = c.loop-a.invariant.low

pub returns-clause-last : goal.returns-clause-last
returns-clause-last c = c.loop-a.invariant.last

pub returns-clause-along : goal.returns-clause-along
returns-clause-along c a x at =
    let near = slice_get_within c.args.low.now a x at in
    let end = c.loop-a-test.false in
    c.loop-a.invariant.along a x (omega (arith, near, end)) at
