use Rattle.std.proofs.Common.{◌<◌, sym, subst}
use Rattle.std.specs.List.{All}
use Rattle.log_node.specs.Sets.{members}
use Rattle.stamp_board.specs.declared.view.Size.{Size}
use Rattle.log_client.proofs.Read.Colours.{all_within}
use Rattle.log_client.proofs.Read.ClearedReads.{clear_rests, clear_keeps, clear_clears, clear_reached, clear_there}
use Rattle.log_client.proofs.client.Client.clear_up_to.Goals as goal

pub returns-clause-rests : goal.returns-clause-rests
returns-clause-rests g c =
    let e = c.clear_all.ensures in
    clear_rests c.args.store.now c.args.self.now c.region-region.result.now c.index_mut-hold.result.now c.clear_all.new.hold
    c.requires.client c.region-region.ensures.there c.index_mut-hold.ensures.value e.hold e.seat e.next e.goes e.one

pub returns-clause-keeps : goal.returns-clause-keeps
returns-clause-keeps g c =
    let e = c.clear_all.ensures in
    clear_keeps c.args.store.now c.args.self.now c.region-region.result.now c.index_mut-hold.result.now c.clear_all.new.hold
    c.requires.client c.region-region.ensures.there c.index_mut-hold.ensures.value e.hold e.seat e.next e.goes e.one

pub returns-clause-clear : goal.returns-clause-clear
returns-clause-clear g c =
    let e = c.clear_all.ensures in
    clear_clears c.args.store.now c.args.self.now c.region-region.result.now c.index_mut-hold.result.now c.clear_all.new.hold
    c.requires.client c.region-region.ensures.there c.index_mut-hold.ensures.value e.hold e.seat e.next e.goes e.one
    c.args.stamp (members c.args.colours) e.clear

pub clear_all-requires-clause-colours : goal.clear_all-requires-clause-colours
clear_all-requires-clause-colours g c =
    subst (λ (k : Size). All (λ m. m < k.colours) (members c.args.colours)) (sym c.region-region.ensures.size)
    (all_within c.args.store.now c.args.colours c.requires.colours)

pub clear_all-requires-clause-reached : goal.clear_all-requires-clause-reached
clear_all-requires-clause-reached g c =
    clear_reached c.args.self.now c.index_mut-hold.result.now c.args.stamp (members c.args.colours)
    (clear_there c.args.store.now c.args.self.now c.index_mut-hold.result.now c.requires.client
    c.index_mut-hold.ensures.value) c.requires.reached
