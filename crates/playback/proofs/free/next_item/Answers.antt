use Rattle.std.proofs.Common.{◌-◌, ◌∙◌, Some, ap, sym, arith}
use Rattle.std.proofs.lemmas.Option.{slice_get_within, get_or_from_slice_get}
use Rattle.log_node.specs.Vectors.{at}
use Rattle.playback.proofs.Shown.{item_read}
use Rattle.playback.proofs.free.next_item.Goals as goal

pub overflow_sub-result : goal.overflow_sub-result
overflow_sub-result c = c.requires.past

pub offset_bounds-as_slice-played : goal.offset_bounds-as_slice-played
offset_bounds-as_slice-played c =
    let n = at c.args.played c.args.region - at c.args.view.now.from c.args.region in
    let found = item_read c.args.view.now.items c.as_slice.result.now c.args.region n c.requires.item
    c.index-as_slice-number.result c.as_slice-2.result.now c.as_slice.ensures c.index-as_slice-number.is
    c.as_slice-2.ensures c.requires.shown in
    let lt = slice_get_within c.as_slice-2.result.now n c.requires.item found in
    let fits = c.as_slice-2.type_inv.1 in
    omega (arith, lt, fits)

pub bounds-as_slice-played : goal.bounds-as_slice-played
bounds-as_slice-played c =
    let n = at c.args.played c.args.region - at c.args.view.now.from c.args.region in
    let found = item_read c.args.view.now.items c.as_slice.result.now c.args.region n c.requires.item
    c.index-as_slice-number.result c.as_slice-2.result.now c.as_slice.ensures c.index-as_slice-number.is
    c.as_slice-2.ensures c.requires.shown in
    slice_get_within c.as_slice-2.result.now n c.requires.item found

pub returns : goal.returns
returns c =
    let n = at c.args.played c.args.region - at c.args.view.now.from c.args.region in
    let found = item_read c.args.view.now.items c.as_slice.result.now c.args.region n c.requires.item
    c.index-as_slice-number.result c.as_slice-2.result.now c.as_slice.ensures c.index-as_slice-number.is
    c.as_slice-2.ensures c.requires.shown in
    let same = get_or_from_slice_get c.as_slice-2.result.now n c.requires.item c.index-as_slice-played.result found in
    c.requires.shown ∙ ap Some (sym (c.index-as_slice-played.is ∙ same))
