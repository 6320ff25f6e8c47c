use Rattle.std.proofs.Common.{◌≡◌, ◌<◌, ◌+◌, ◌++◌, [], ◌∷◌, length, take, drop, get_or, refl, sym, ap, ◌∙◌, append_assoc, arith}
use Rattle.std.proofs.lemmas.List.{map_push, length-drop}
use Rattle.std.proofs.lemmas.Bool.{ne_eqb}
use Rattle.script_text.specs.Pieces.{fields_of}
use Rattle.script_text.specs.Readings.{fields_in}
use Rattle.script_text.proofs.PieceLemmas.{cut_at, cut_unlike, cut_whole, not_ascii}
use Rattle.script_text.proofs.pieces.cut_line.Goals as goal

pub loop-rest-init : goal.loop-rest-init
loop-rest-init c = record { cut = rw c.requires refl; ascii = refl }

pub returns-then-end-rest-clause-ascii : goal.returns-then-end-rest-clause-ascii
returns-then-end-rest-clause-ascii c =
    let whole : c.visible_front-end.result ≡ length c.loop-rest.rest.now = omega (arith, c.visible_front-end.ensures.within, c.if-end-rest.true) in
    let w = cut_whole c.loop-rest.rest.now (rw whole at c.visible_front-end.ensures.front) in
    sym w.1 ∙ c.loop-rest.invariant.ascii

pub returns-then-end-rest-clause-fields : goal.returns-then-end-rest-clause-fields
returns-then-end-rest-clause-fields c e =
    let whole : c.visible_front-end.result ≡ length c.loop-rest.rest.now = omega (arith, c.visible_front-end.ensures.within, c.if-end-rest.true) in
    let w = cut_whole c.loop-rest.rest.now (rw whole at c.visible_front-end.ensures.front) in
    rw (c.in_ok-push.ensures.ok, map_push) (ap (λ parts. fields_in c.loop-rest.fields.items ++ parts) (sym w.0) ∙ c.loop-rest.invariant.cut)

pub returns-then-rest-end-ne32-clause-ascii : goal.returns-then-rest-end-ne32-clause-ascii
returns-then-rest-end-ne32-clause-ascii c =
    let bs = c.loop-rest.rest.now in
    let lt : c.visible_front-end.result < length bs = omega (arith, c.visible_front-end.ensures.within, c.if-end-rest.false) in
    let unlike = not_ascii (get_or bs c.visible_front-end.result 0) (c.visible_front-end.ensures.stop lt) (ne_eqb _ 32 c.if-rest-end-ne32.true) in
    sym (cut_unlike bs c.visible_front-end.result lt unlike) ∙ c.loop-rest.invariant.ascii

pub loop-rest-smaller : goal.loop-rest-smaller
loop-rest-smaller c =
    let bs = c.loop-rest.rest.now in
    let lt : c.visible_front-end.result < length bs = omega (arith, c.visible_front-end.ensures.within, c.if-end-rest.false) in
    rw (c.behind-rest.ensures, length-drop) (omega (arith, lt))

pub loop-rest-preserved : goal.loop-rest-preserved
loop-rest-preserved c =
    let bs = c.loop-rest.rest.now in
    let i = c.visible_front-end.result in
    let inv = c.loop-rest.invariant in
    let lt : i < length bs = omega (arith, c.visible_front-end.ensures.within, c.if-end-rest.false) in
    let here : get_or bs i 0 ≡ 32 = omega (arith, c.if-rest-end-ne32.false) in
    let h = cut_at bs i lt c.visible_front-end.ensures.front here in
    rw (c.behind-rest.ensures, c.in_ok-push-2.ensures.ok, map_push) (record {
      cut = append_assoc (fields_in c.loop-rest.fields.items) (take i bs ∷ []) (fields_of (drop (i + 1) bs)) ∙ ap (λ parts. fields_in c.loop-rest.fields.items ++ parts) (sym h.0) ∙ inv.cut;
      ascii = sym h.1 ∙ inv.ascii;
    })
