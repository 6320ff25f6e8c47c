use Rattle.std.proofs.Common.{map, subst, sym}
use Rattle.col_core.specs.declared.Event.{Event}
use Rattle.col_core.specs.Rows.{FitsRows}
use Rattle.column_track.specs.Tracks.{Tells}
use Rattle.walk_law.specs.RowsBeside.{ProposesFirst, bare_row, histories_in}
use Rattle.walk_law.proofs.TableLemmas.{none_is}
use Rattle.walk_law.proofs.RowLemmas.{propose_told, settle_told, single_told}
use Rattle.walk_law.proofs.rows.event_fits.Goals as goal

pub returns-in-Single : goal.returns-in-Single
returns-in-Single c =
    let b = c.is_none.result in
    subst (λ (e : Event). Tells b (FitsRows (map (bare_row c.args.columns.now) c.args.rows.now) c.args.colour e)) (sym c.in-Single.is)
    (single_told c.args.columns.now c.args.rows.now c.place.result c.in-Single.id c.place.ensures b
    (none_is c.place.result b c.is_none.ensures))

pub returns-in-Propose : goal.returns-in-Propose
returns-in-Propose c =
    let b = c.is_row_proposed.result in
    let p = c.in-Propose in
    subst (λ (e : Event). Tells b (FitsRows (map (bare_row c.args.columns.now) c.args.rows.now) c.args.colour e)) (sym p.is)
    (propose_told c.args.columns.now c.args.rows.now c.place-in-Propose.result p.id p.floor p.wants c.args.colour c.args.floors.now
    c.requires.table.apart c.place-in-Propose.ensures c.requires.floors c.requires.rising
    (subst (ProposesFirst (histories_in c.args.columns.now c.args.colour)) p.is c.requires.first) b c.is_row_proposed.ensures)

pub returns-in-Settle : goal.returns-in-Settle
returns-in-Settle c =
    let b = c.is_row_settled.result in
    let p = c.in-Settle in
    subst (λ (e : Event). Tells b (FitsRows (map (bare_row c.args.columns.now) c.args.rows.now) c.args.colour e)) (sym p.is)
    (settle_told c.args.columns.now c.args.rows.now c.place-in-Settle.result p.id c.requires.table.apart c.place-in-Settle.ensures p.outcome b
    c.is_row_settled.ensures)
