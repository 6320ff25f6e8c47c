use Rattle.std.proofs.Common.{◌≡◌, ℕ, List, Option, Some, None, get_or, slice_get, ap, sym, subst, ◌∙◌, arith, length-set}
use Rattle.std.proofs.Math.Seq.{map-set_same}
use Rattle.std.proofs.lemmas.Option.{get_or_from_slice_get, slice_get-get_or, slice_get_read, slice_get_within}
use Rattle.col_core.specs.History.{line}
use Rattle.chain_store.specs.Holds.{entries_seen}
use Rattle.chain_store.proofs.CallerLemmas.{later_then}
use Rattle.append_core.specs.declared.stood.Point.{Point}
use Rattle.append_core.proofs.Helped.{helps_then}
use Rattle.append_core.proofs.Lasting.{final_later}
use Rattle.append_core.proofs.Placed.{stands_later}
use Rattle.append_core.proofs.Pointed.{known_if, placed_next}
use Rattle.append_core.proofs.Pointing.{set_other}
use Rattle.append_core.proofs.placing.stood.Goals as goal

pub line_position-requires-clause-stamped : goal.line_position-requires-clause-stamped
line_position-requires-clause-stamped g c =
    let l = c.loop-n in
    let i = l.invariant in
    let p = c.index.result.now in
    let read = slice_get_read l.points.items c.len-n-end.result l.n p (sym i.long) c.loop-n-test.true c.index.ensures in
    let first = sym (i.rest l.n (omega arith)) ∙ read in
    final_later c.args.region.now c.args.hold.now l.hold p.colour i.hold (c.requires.colours l.n p first)
    (i.goes.more p.colour) c.args.key.id c.args.key.stamp (c.requires.stamped l.n p first)

pub line_position-requires-clause-known : goal.line_position-requires-clause-known
line_position-requires-clause-known g c =
    let l = c.loop-n in
    let i = l.invariant in
    let p = c.index.result.now in
    let places = c.args.places.now in
    let read = slice_get_read l.points.items c.len-n-end.result l.n p (sym i.long) c.loop-n-test.true c.index.ensures in
    let first = sym (i.rest l.n (omega arith)) ∙ read in
    let within = c.loop-n-test.true in
    let few = i.few in
    known_if (get_or places l.n None) (λ q. slice_get (line (entries_seen l.hold p.colour)) q ≡ Some c.args.key)
    (λ q e.
    stands_later c.args.region.now c.args.hold.now l.hold p.colour i.hold (c.requires.colours l.n p first)
    (i.goes.more p.colour) q c.args.key
    (c.requires.known l.n p q first
    (slice_get-get_or places l.n None (omega (arith, within, few)) ∙ ap (λ (o : Option ℕ). Some o) e)))

pub loop-n-preserved : goal.loop-n-preserved
loop-n-preserved g c =
    let l = c.loop-n in
    let i = l.invariant in
    let p = c.index.result.now in
    let q = c.index_mut.result.now in
    let e = c.line_position.ensures in
    let h = c.args.hold.now in
    let k = c.line_position.new.hold in
    let points = l.points.items in
    let new : Point = record { colour = q.colour; at = q.at; position = c.line_position.result } in
    let read = slice_get_read points c.len-n-end.result l.n p (sym i.long) c.loop-n-test.true c.index.ensures in
    let write = slice_get_read points c.len-n-end.result l.n q (sym i.long) c.loop-n-test.true c.index_mut.ensures.value in
    record {
      hold = e.hold;
      seat = later_then h.seat l.hold.seat k.seat i.seat e.seat;
      next = e.next ∙ i.next;
      goes = helps_then h l.hold k i.goes i.seat.grows e.goes e.seat.grows;
      colours = map-set_same (λ (z : Point). z.colour) points l.n new q
          (ap (λ (z : Point). z.colour) (sym (get_or_from_slice_get points l.n q q write))) ∙ i.colours;
      long = length-set points l.n new ∙ i.long;
      few = i.few;
      placed = placed_next c.args.region.now l.hold k c.args.key c.args.points.items points l.n p q c.line_position.result
          e.hold e.goes.more c.requires.colours read write (sym (i.rest l.n (omega arith)) ∙ write) e.stands i.placed;
      rest = λ j le. set_other points l.n new j (λ same. let f : ⊥ = omega (arith, le, same) in f)
          ∙ i.rest j (omega (arith, le));
    }

pub returns-clause-placed : goal.returns-clause-placed
returns-clause-placed g c = λ n p at.
    let l = c.loop-n in
    let i = l.invariant in
    let there = subst (λ (ps : List Point). slice_get ps n ≡ Some p) c.into.ensures at in
    let within = slice_get_within l.points.items n p there in
    let long = i.long in
    i.placed n p (omega (arith, within, long, c.loop-n-test.false, c.loop-n.auto.n-end)) there
