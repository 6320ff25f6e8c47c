use Rattle.std.proofs.Common.{◌∙◌, ℕ, Some, length, take, refl, sym, ap, subst}
use Rattle.std.proofs.lemmas.List.{length_push}
use Rattle.std.proofs.lemmas.Option.{slice_get_read}
use Rattle.std.proofs.lemmas.Iterator.Adapters.{YieldsList-from_vec}
use Rattle.std.proofs.lemmas.Iterator.Consumers.{YieldsList-turn, YieldsList-end}
use Rattle.script_beside.specs.Parts.{bytes_of}
use Rattle.script_beside.proofs.PartLemmas.{Gathers, none_yet, cut_at, both_few, lists_fit, next_part, all_gathered}
use Rattle.script_beside.proofs.reading.put_together.Goals as goal

pub loop-part-init : goal.loop-part-init
loop-part-init c =
    none_yet c.args.parted c.len-clients.result c.in_ok-begins.begins.items c.in_ok-shares.shares.items c.requires.parted c.len-clients.ensures
    c.in_ok-begins.ensures c.in_ok-shares.ensures

pub put_behind-requires : goal.put_behind-requires
put_behind-requires c =
    let p = c.args.parted in
    let parts = c.args.parts.items in
    let n = length c.loop-part.yielded in
    let gives = c.into_iter-part-iterator.ensures.into_iter_gives in
    let all = YieldsList-from_vec {s = c.into_iter-part-iterator.result} parts gives.0 (gives.1 ∙ c.args.parts.ok.0) in
    let t = YieldsList-turn all c.loop-part.yielded _ c.loop-part.yielded_by _ c.next.new.self c.in-Some.part c.in-Some.is c.next.ensures.steps in
    let at = slice_get_read parts (length parts) n c.in-Some.part refl t.0 t.1 ∙ ap (λ x. Some x) c.in-Some-part.is in
    let found = cut_at p parts n c.in-Some-part.part c.requires.read at in
    lists_fit p.header.now (bytes_of (take n p.cuts.items)) p.script found.0 c.in-Some-part.part c.loop-part.stops c.loop-part.begins.items
    c.loop-part.shares.items c.requires.parted.header c.loop-part.invariant found.2

pub add_each-requires : goal.add_each-requires
add_each-requires c =
    let p = c.args.parted in
    let parts = c.args.parts.items in
    let n = length c.loop-part.yielded in
    let gives = c.into_iter-part-iterator.ensures.into_iter_gives in
    let all = YieldsList-from_vec {s = c.into_iter-part-iterator.result} parts gives.0 (gives.1 ∙ c.args.parts.ok.0) in
    let t = YieldsList-turn all c.loop-part.yielded _ c.loop-part.yielded_by _ c.next.new.self c.in-Some.part c.in-Some.is c.next.ensures.steps in
    let at = slice_get_read parts (length parts) n c.in-Some.part refl t.0 t.1 ∙ ap (λ x. Some x) c.in-Some-part.is in
    let found = cut_at p parts n c.in-Some-part.part c.requires.read at in
    let few = both_few p.header.now (bytes_of (take n p.cuts.items)) p.script found.0 c.in-Some-part.part c.loop-part.stops c.loop-part.begins.items
    c.loop-part.shares.items c.requires.parted.header c.loop-part.invariant found.2 in
    rw c.as_slice.ensures.value (record { many = few.0; small = few.1 })

pub loop-part-preserved : goal.loop-part-preserved
loop-part-preserved c =
    let p = c.args.parted in
    let parts = c.args.parts.items in
    let n = length c.loop-part.yielded in
    let gives = c.into_iter-part-iterator.ensures.into_iter_gives in
    let all = YieldsList-from_vec {s = c.into_iter-part-iterator.result} parts gives.0 (gives.1 ∙ c.args.parts.ok.0) in
    let t = YieldsList-turn all c.loop-part.yielded _ c.loop-part.yielded_by _ c.next.new.self c.in-Some.part c.in-Some.is c.next.ensures.steps in
    let at = slice_get_read parts (length parts) n c.in-Some.part refl t.0 t.1 ∙ ap (λ x. Some x) c.in-Some-part.is in
    subst (λ (k : ℕ). Gathers p.header.now p.script (bytes_of (take k p.cuts.items)) c.in-Some-part.part.stops c.add_each.new.counts.items
    c.put_behind.new.shares.items)
    (sym (length_push c.loop-part.yielded c.in-Some.part))
    (next_part p parts n c.in-Some-part.part c.loop-part.stops c.loop-part.begins.items c.add_each.new.counts.items c.loop-part.shares.items
    c.put_behind.new.shares.items c.requires.parted c.requires.read at c.loop-part.invariant c.if-stops.false
    (rw c.as_slice.ensures.value at c.add_each.ensures) c.in_ok-put_behind.ensures)

pub returns : goal.returns
returns c =
    let parts = c.args.parts.items in
    let gives = c.into_iter-part-iterator.ensures.into_iter_gives in
    let all = YieldsList-from_vec {s = c.into_iter-part-iterator.result} parts gives.0 (gives.1 ∙ c.args.parts.ok.0) in
    let t = YieldsList-end all c.loop-part.yielded _ c.loop-part.yielded_by _ c.next.new.self c.in-None.is c.next.ensures.steps in
    all_gathered c.args.parted parts (length c.loop-part.yielded) c.loop-part.stops c.loop-part.begins.items c.greatest.result c.loop-part.shares
    c.requires.parted c.requires.read t.1 c.loop-part.invariant (rw c.as_slice-2.ensures.value at c.greatest.ensures)
