use Rattle.std.proofs.Common.{◌≡◌, ◌<◌, rules, refl, length, slice_get, Some, ap, subst, ◌∙◌, arith}
use Rattle.std.proofs.lemmas.Option.{slice_get_read}
use Rattle.log_client.proofs.Telling.TellingAll.{holds_set, same_set, later_set, notes_more, tells_more, count_more}
use Rattle.log_client.proofs.notes.tell_all.Goals as goal

pub returns-in_err-note-clause-holds : goal.returns-in_err-note-clause-holds
returns-in_err-note-clause-holds c =
    let l = c.loop-number in
    let i = l.invariant in
    let rs = c.args.regions.now in
    let hs = l.holds.items in
    let h = c.index_mut.result.now in
    let near : l.number < length rs = search rules in
    let many = i.holds.0 in
    let at_r = slice_get_read rs (length rs) l.number c.index-regions-number.result refl near c.index-regions-number.is in
    let at_h = slice_get_read hs (length hs) l.number h refl (omega (arith, near, many)) c.index_mut.ensures.value in (
      holds_set rs hs l.number c.index-regions-number.result h c.tell.new.hold at_r at_h c.tell.ensures.hold i.holds,
      same_set rs c.args.holds.now.items hs l.notes.items l.number c.index-regions-number.result h c.tell.new.hold at_r at_h
          i.later c.tell.ensures.same i.same,
    )

pub returns-in_err-push-clause-holds : goal.returns-in_err-push-clause-holds
returns-in_err-push-clause-holds c =
    let l = c.loop-number in
    let i = l.invariant in
    let rs = c.args.regions.now in
    let hs = l.holds.items in
    let h = c.index_mut.result.now in
    let near : l.number < length rs = search rules in
    let many = i.holds.0 in
    let at_r = slice_get_read rs (length rs) l.number c.index-regions-number.result refl near c.index-regions-number.is in
    let at_h = slice_get_read hs (length hs) l.number h refl (omega (arith, near, many)) c.index_mut.ensures.value in (
      holds_set rs hs l.number c.index-regions-number.result h c.tell.new.hold at_r at_h c.tell.ensures.hold i.holds,
      same_set rs c.args.holds.now.items hs l.notes.items l.number c.index-regions-number.result h c.tell.new.hold at_r at_h
          i.later c.tell.ensures.same i.same,
    )

pub loop-number-preserved : goal.loop-number-preserved
loop-number-preserved c =
    let l = c.loop-number in
    let i = l.invariant in
    let rs = c.args.regions.now in
    let gs = c.args.holds.now.items in
    let hs = l.holds.items in
    let r = c.index-regions-number.result in
    let h = c.index_mut.result.now in
    let k = c.tell.new.hold in
    let note = c.in_ok-note.note in
    let near : l.number < length rs = search rules in
    let many = i.holds.0 in
    let at_r = slice_get_read rs (length rs) l.number r refl near c.index-regions-number.is in
    let at_h = slice_get_read hs (length hs) l.number h refl (omega (arith, near, many)) c.index_mut.ensures.value in
    let e = c.tell.ensures in
    let told = c.in_ok-note.ensures.note in
    let more = c.in_ok-push.ensures.items in
    record {
      holds = holds_set rs hs l.number r h k at_r at_h e.hold i.holds;
      same = same_set rs gs hs l.notes.items l.number r h k at_r at_h i.later e.same i.same;
      later = later_set rs gs hs l.notes.items l.number r h k at_r at_h i.later;
      count = ap length more ∙ count_more rs gs hs l.notes.items l.number r h k at_r at_h i.later note i.count;
      notes = λ n q m a b. notes_more rs gs hs l.notes.items l.number r h k at_r at_h i.later note i.count told.0 i.notes n q m
          a (subst (λ z. slice_get z n ≡ Some m) more b);
      tells = λ n g m a b. tells_more rs gs hs l.notes.items l.number r h k at_r at_h i.later note i.count told.1 i.tells n g m
          a (subst (λ z. slice_get z n ≡ Some m) more b);
    }
