use Rattle.std.proofs.Common.{◌∙◌, subst, sym}
use Rattle.col_core.specs.History.{line}
use Rattle.stamp_board.specs.declared.seats.Seat.{Seat}
use Rattle.stamp_board.specs.Seats.{seen as seat_seen}
use Rattle.stamp_board.specs.Views.{Grows}
use Rattle.stamp_board.proofs.CallerLemmas.{Grows-refl}
use Rattle.chain_store.specs.Holds.{entries_seen, view_of}
use Rattle.append_core.specs.Helping.{HelpsOpen}
use Rattle.chain_store.proofs.CallerLemmas.{looks_on}
use Rattle.append_core.proofs.Helped.{helps_then}
use Rattle.append_core.proofs.Lasting.{final_later}
use Rattle.append_core.proofs.Placed.{final_under, has_place, key_placed}
use Rattle.append_core.proofs.stands.cleared_position.Goals as goal

pub clear-requires-clause-under : goal.clear-requires-clause-under
clear-requires-clause-under g c =
    final_under c.args.region.now c.args.hold.now c.args.colour c.args.key c.requires.hold c.requires.colour
    c.requires.stamped

pub unreachable-requires : goal.unreachable-requires
unreachable-requires g c =
    let r = c.args.region.now in
    let m = c.clear.new.hold in
    let h = c.place-position.new.hold in
    has_place r m h c.args.colour c.args.key c.clear.ensures.hold c.place-position.ensures.hold c.requires.colour
    c.place-position.ensures.look.0.more
    (final_later r c.args.hold.now m c.args.colour c.clear.ensures.hold c.requires.colour
    (c.clear.ensures.goes.more c.args.colour) c.args.key.id c.args.key.stamp c.requires.stamped)
    c.clear.ensures.none
    (sym c.place-position.ensures.place ∙ c.in-None.is)

pub returns-clause-goes : goal.returns-clause-goes
returns-clause-goes g c =
    let m = c.clear.new.hold in
    let h = c.place-position.new.hold in
    helps_then c.args.hold.now m h c.clear.ensures.goes c.clear.ensures.seat.grows
    (looks_on (λ k e. HelpsOpen m h e) c.args.colour m h c.place-position.ensures.others c.place-position.ensures.look.0)
    (subst (λ (s : Seat). Grows (view_of m) (seat_seen s)) (sym c.place-position.ensures.same.0) (Grows-refl (view_of m)))

pub returns-clause-stands : goal.returns-clause-stands
returns-clause-stands g c = key_placed (line (entries_seen c.place-position.new.hold c.args.colour)) c.args.key c.in-Some.position
    (sym c.place-position.ensures.place ∙ c.in-Some.is)
