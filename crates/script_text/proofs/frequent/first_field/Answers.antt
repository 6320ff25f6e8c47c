use Rattle.std.proofs.Common.{◌<◌, ◌≡◌, length, get_or, arith}
use Rattle.script_text.proofs.PieceLemmas.{cut_at}
use Rattle.script_text.proofs.frequent.first_field.Goals as goal

pub returns-clause-fields : goal.returns-clause-fields
returns-clause-fields c =
    let bs = c.args.bytes.now in
    let i = c.visible_front-end.result in
    let lt : i < length bs = omega (arith, c.if-end-bytes.false) in
    let here : get_or bs i 0 ≡ 32 = omega (arith, c.if-bytes-end-ne32.false) in
    rw c.behind.ensures (cut_at bs i lt c.visible_front-end.ensures.front here).0

pub returns-clause-ascii : goal.returns-clause-ascii
returns-clause-ascii c =
    let bs = c.args.bytes.now in
    let i = c.visible_front-end.result in
    let lt : i < length bs = omega (arith, c.if-end-bytes.false) in
    let here : get_or bs i 0 ≡ 32 = omega (arith, c.if-bytes-end-ne32.false) in
    rw c.behind.ensures (cut_at bs i lt c.visible_front-end.ensures.front here).1
