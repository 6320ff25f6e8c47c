use Rattle.std.proofs.Common.{rules, refl, ◌<◌, length}
use Rattle.std.proofs.lemmas.Option.{slice_get_read}
use Rattle.chain_store.specs.Joined.{past_of}
use Rattle.chain_store.proofs.RingsChecked.{alike_set, between_at, both_more}
use Rattle.chain_store.proofs.ring_check.check_between.Goals as goal

pub check_both-requires-clause-between : goal.check_both-requires-clause-between
check_both-requires-clause-between c =
    let i = c.loop-colour.invariant in
    let xs = c.loop-colour.xs.items in
    let ys = c.loop-colour.ys.items in
    let k = c.loop-colour.colour in
    let first : k < length xs = search rules in
    let second : k < length ys = search rules in
    between_at c.args.a c.args.b xs ys c.args.xs.now.items c.args.ys.now.items i.first i.second c.args.regions k
    c.index_mut.result.now c.index_mut-in-loop-colour.result.now c.requires.joined
    (slice_get_read xs (length xs) k c.index_mut.result.now refl first c.index_mut.ensures.value)
    (slice_get_read ys (length ys) k c.index_mut-in-loop-colour.result.now refl second
    c.index_mut-in-loop-colour.ensures.value)

pub loop-colour-preserved : goal.loop-colour-preserved
loop-colour-preserved c =
    let i = c.loop-colour.invariant in
    let xs = c.loop-colour.xs.items in
    let ys = c.loop-colour.ys.items in
    let k = c.loop-colour.colour in
    let first : k < length xs = search rules in
    let second : k < length ys = search rules in
    let x = c.index_mut.result.now in
    let y = c.index_mut-in-loop-colour.result.now in
    record {
      first = alike_set past_of xs c.args.xs.now.items k c.check_both.new.x x i.first c.index_mut.ensures.value
          c.check_both.ensures.first;
      second = alike_set past_of ys c.args.ys.now.items k c.check_both.new.y y i.second
          c.index_mut-in-loop-colour.ensures.value c.check_both.ensures.second;
      along = both_more c.args.a c.args.b xs ys c.args.xs.now.items c.args.ys.now.items i.first i.second k x y
          (slice_get_read xs (length xs) k x refl first c.index_mut.ensures.value)
          (slice_get_read ys (length ys) k y refl second c.index_mut-in-loop-colour.ensures.value) i.along
          c.check_both.ensures.along;
    }
