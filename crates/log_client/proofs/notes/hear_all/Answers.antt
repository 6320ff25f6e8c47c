use Rattle.std.proofs.Common.{◌≡◌, ◌<◌, ◌+◌, ◌∷◌, ◌++◌, [], rules, refl, length, slice_get, ap, ◌∙◌, arith, length-append}
use Rattle.std.proofs.lemmas.Option.{slice_get_read}
use Rattle.log_client.proofs.Going.AtHome.{set_elsewhere}
use Rattle.lawful_run.proofs.CallerLemmas.{get-append}
use Rattle.log_client.proofs.Lists.{got_last}
use Rattle.log_client.proofs.Telling.TellingAll.{holds_set, heard_set}
use Rattle.log_client.proofs.notes.hear_all.Goals as goal

pub hear-requires-clause-note : goal.hear-requires-clause-note
hear-requires-clause-note c =
    let l = c.loop-note in
    let i = l.invariant in
    let e = c.in-Some.ensures.items in
    let rest = c.pop.new.self.items in
    let note = c.in-Some.note in
    let m = c.len-number.result in
    let is : m ≡ length rest = search rules in
    let wide = ap length e ∙ length-append rest (note ∷ []) in
    let short = i.short in
    let many = c.requires.notes.0 in
    let near : m < length c.args.regions.now = omega (arith, is, wide, short, many) in
    let at_r = slice_get_read c.args.regions.now (length c.args.regions.now) m c.index-regions-number.result refl near
    c.index-regions-number.is in
    c.requires.notes.1 m c.index-regions-number.result note at_r
    (i.left m note (ap (λ x. slice_get x m) e ∙ ap (slice_get (rest ++ note ∷ [])) is ∙ got_last rest note))

pub loop-note-preserved : goal.loop-note-preserved
loop-note-preserved c =
    let l = c.loop-note in
    let i = l.invariant in
    let rs = c.args.regions.now in
    let gs = c.args.holds.now.items in
    let hs = l.holds.items in
    let e = c.in-Some.ensures.items in
    let rest = c.pop.new.self.items in
    let note = c.in-Some.note in
    let m = c.len-number.result in
    let is : m ≡ length rest = search rules in
    let wide : length l.notes.items ≡ length rest + 1 = ap length e ∙ length-append rest (note ∷ []) in
    let short = i.short in
    let many = c.requires.notes.0 in
    let near : m < length rs = omega (arith, is, wide, short, many) in
    let held = i.holds.0 in
    let r = c.index-regions-number.result in
    let h = c.index_mut.result.now in
    let k = c.hear.new.hold in
    let at_r = slice_get_read rs (length rs) m r refl near c.index-regions-number.is in
    let at_h = slice_get_read hs (length hs) m h refl (omega (arith, near, held)) c.index_mut.ensures.value in
    let at_m = i.left m note (ap (λ x. slice_get x m) e ∙ ap (slice_get (rest ++ note ∷ [])) is ∙ got_last rest note) in
    record {
      left = λ n q here. i.left n q (ap (λ x. slice_get x n) e ∙ get-append rest (note ∷ []) n q here);
      short = omega (arith, short, wide);
      holds = holds_set rs hs m r h k at_r at_h c.hear.ensures.hold i.holds;
      early = λ n lt. set_elsewhere hs m k n (λ z. omega (arith, z, lt, is)) ∙ i.early n (omega (arith, lt, wide));
      heard = λ n g l q le. heard_set gs hs c.args.notes.items m h k note at_h at_m
          (λ z lt. i.early z (omega (arith, lt, wide, is))) c.hear.ensures.hears
          (λ z a b d le2. i.heard z a b d (omega (arith, le2, wide, is))) n g l q (omega (arith, le, is));
    }

pub returns-clause-heard : goal.returns-clause-heard
returns-clause-heard c =
    let i = c.loop-note.invariant in
    λ n g h note a b d.
    let none : length c.loop-note.notes.items ≡ 0 = search rules in
    i.heard n g h note (omega (arith, none)) a b d
