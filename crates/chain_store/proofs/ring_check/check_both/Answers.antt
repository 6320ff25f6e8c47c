use Rattle.std.proofs.Common.{rules, refl, ◌<◌, length, ap, slice_get, ◌∙◌, sym}
use Rattle.std.specs.Vec.{with_item}
use Rattle.std.proofs.lemmas.Option.{slice_get_read}
use Rattle.chain_store.proofs.RingsChecked.{past_sends, past_receives, along_of}
use Rattle.chain_store.proofs.ring_check.check_both.Goals as goal

pub returns-clause-first : goal.returns-clause-first
returns-clause-first c =
    let x = c.args.x.now in
    past_receives (record { sends = with_item x.sends c.place_of-to.result c.check.new.sends; receives = x.receives })
    c.place_of-to.result c.check-2.new.receives c.index_mut-4.result.now c.index_mut-4.ensures.value
    c.check-2.ensures.receives c.check-2.ensures.waiting
    ∙ past_sends x c.place_of-to.result c.check.new.sends c.index_mut.result.now c.index_mut.ensures.value
    c.check.ensures.sends

pub returns-clause-second : goal.returns-clause-second
returns-clause-second c =
    let y = c.args.y.now in
    past_receives (record { sends = with_item y.sends c.place_of-back.result c.check-2.new.sends; receives = y.receives })
    c.place_of-back.result c.check.new.receives c.index_mut-2.result.now c.index_mut-2.ensures.value
    c.check.ensures.receives c.check.ensures.waiting
    ∙ past_sends y c.place_of-back.result c.check-2.new.sends c.index_mut-3.result.now c.index_mut-3.ensures.value
    c.check-2.ensures.sends

pub returns-clause-along : goal.returns-clause-along
returns-clause-along c =
    let x = c.args.x.now in
    let y = c.args.y.now in
    let to = c.place_of-to.result in
    let back = c.place_of-back.result in
    let sends : to < length x.sends.items = search rules in
    let receives : back < length y.receives.items = search rules in
    let other_sends : back < length y.sends.items = search rules in
    let other_receives : to < length x.receives.items = search rules in (
      along_of c.args.a c.args.b x y c.index_mut.result.now c.index_mut-2.result.now
          (ap (slice_get x.sends.items) (sym c.place_of-to.ensures)
          ∙ slice_get_read x.sends.items (length x.sends.items) to c.index_mut.result.now refl sends c.index_mut.ensures.value)
          (ap (slice_get y.receives.items) (sym c.place_of-back.ensures)
          ∙ slice_get_read y.receives.items (length y.receives.items) back c.index_mut-2.result.now refl receives
          c.index_mut-2.ensures.value)
          c.check.ensures.begins,
      along_of c.args.b c.args.a y x c.index_mut-3.result.now c.index_mut-4.result.now
          (ap (slice_get y.sends.items) (sym c.place_of-back.ensures)
          ∙ slice_get_read y.sends.items (length y.sends.items) back c.index_mut-3.result.now refl other_sends
          c.index_mut-3.ensures.value)
          (ap (slice_get x.receives.items) (sym c.place_of-to.ensures)
          ∙ slice_get_read x.receives.items (length x.receives.items) to c.index_mut-4.result.now refl other_receives
          c.index_mut-4.ensures.value)
          c.check-2.ensures.begins,
    )
