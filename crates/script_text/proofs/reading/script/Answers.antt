use Rattle.std.proofs.Common.{[], Some, length, refl, sym, ap, ◌∙◌, arith}
use Rattle.script_text.specs.declared.item.Item.TheVariants.{Asks}
use Rattle.script_text.specs.Pieces.{lines_of}
use Rattle.script_text.specs.Known.{known_of, known_with}
use Rattle.script_text.proofs.KnownLaws.{lawful_start}
use Rattle.script_text.proofs.LineLaws.{said_with, known_said}
use Rattle.script_text.proofs.ScriptLaws.{some_bytes, no_bytes, script_long, too_many, stops_at, next_lawful, next_same, ends_with}
use Rattle.script_text.proofs.reading.script.Goals as goal

pub returns-then-bytes-gt-MAX_BYTES : goal.returns-then-bytes-gt-MAX_BYTES
returns-then-bytes-gt-MAX_BYTES c = rw c.at_line.ensures (script_long c.args.bytes.now c.if-bytes-gt-MAX_BYTES.true)

pub loop-rest-init : goal.loop-rest-init
loop-rest-init c = record { before = []; known-is = c.in_ok-known.ensures; lawful = lawful_start; few = omega arith; count = omega arith; same = refl }

pub line_of-requires : goal.line_of-requires
line_of-requires c = rw c.loop-rest.invariant.known-is c.loop-rest.invariant.lawful.small

pub returns-then-number-ge-MAX_LINES : goal.returns-then-number-ge-MAX_LINES
returns-then-number-ge-MAX_LINES c =
    let i = c.loop-rest.invariant in
    rw c.at_line-then-number-ge-MAX_LINES.ensures
    (too_many (known_of i.before) c.loop-rest.number c.loop-rest.rest.now c.args.bytes.now (omega arith) (some_bytes c.loop-rest.rest.now c.loop-rest-test.ensures) c.if-number-ge-MAX_LINES.true i.same)

pub returns-in-Err : goal.returns-in-Err
returns-in-Err c =
    let i = c.loop-rest.invariant in
    let failed = rw i.known-is at c.in-Err.ensures in
    let so_far = rw c.first_line.ensures.line at i.same in
    rw c.at_line-in-Err.ensures
    (stops_at (known_of i.before) c.loop-rest.number c.first_line.result.0.now (lines_of c.first_line.result.1.now) c.args.bytes.now c.in-Err.fault (omega arith) c.if-number-ge-MAX_LINES.false failed so_far)

pub loop-rest-preserved-in-Some : goal.loop-rest-preserved-in-Some
loop-rest-preserved-in-Some c =
    let i = c.loop-rest.invariant in
    let command = c.in-Some.command in
    let said = Some (Asks command) in
    let read = rw i.known-is at (rw c.in-Some.is at c.in_ok-command.ensures.said) in
    let so_far = rw c.first_line.ensures.line at i.same in
    record {
      before = said_with i.before said;
      known-is = c.in_ok-ask.ensures ∙ ap (λ k. known_with k said) i.known-is ∙ sym (known_said i.before said);
      lawful = next_lawful i.before c.loop-rest.number c.first_line.result.0.now said i.lawful read;
      few = omega arith;
      count = omega (arith, i.count, ap length c.first_line.ensures.line);
      same = next_same i.before c.loop-rest.number c.first_line.result.0.now (lines_of c.first_line.result.1.now) said _ c.if-number-ge-MAX_LINES.false read so_far;
    }

pub follow-requires : goal.follow-requires
follow-requires c =
    let i = c.loop-rest.invariant in
    let read = rw i.known-is at c.in-Ok.ensures in
    let l = next_lawful i.before c.loop-rest.number c.first_line.result.0.now c.in-Ok.said i.lawful read in
    rw (i.known-is, ← known_said) l.small

pub loop-rest-preserved : goal.loop-rest-preserved
loop-rest-preserved c =
    let i = c.loop-rest.invariant in
    let said = c.in-Ok.said in
    let read = rw i.known-is at c.in-Ok.ensures in
    let so_far = rw c.first_line.ensures.line at i.same in
    record {
      before = said_with i.before said;
      known-is = c.in_ok-follow.ensures ∙ ap (λ k. known_with k said) i.known-is ∙ sym (known_said i.before said);
      lawful = next_lawful i.before c.loop-rest.number c.first_line.result.0.now said i.lawful read;
      few = omega arith;
      count = omega (arith, i.count, ap length c.first_line.ensures.line);
      same = next_same i.before c.loop-rest.number c.first_line.result.0.now (lines_of c.first_line.result.1.now) said _ c.if-number-ge-MAX_LINES.false read so_far;
    }

pub ended-requires : goal.ended-requires
ended-requires c = c.loop-rest.invariant.few

pub returns : goal.returns
returns c =
    let i = c.loop-rest.invariant in
    let all = ends_with (known_of i.before) c.loop-rest.number c.loop-rest.rest.now c.args.bytes.now (omega arith) (no_bytes c.loop-rest.rest.now c.loop-rest-test.ensures) i.count i.same in
    let last = rw i.known-is at c.ended.ensures in
    rw all last
