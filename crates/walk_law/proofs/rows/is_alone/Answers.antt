use Rattle.std.proofs.Common.{ℕ, ◌≤◌, subst, List}
use Rattle.log_node.specs.declared.marks.ColourMark.{ColourMark}
use Rattle.column_track.specs.Tracks.{Tells}
use Rattle.walk_law.specs.RowsBeside.{RiseFrom}
use Rattle.walk_law.proofs.Lists.{told_so}
use Rattle.walk_law.proofs.RowLemmas.{alone_told}
use Rattle.walk_law.proofs.rows.is_alone.Goals as goal

pub returns : goal.returns
returns c =
    alone_told c.args.script.now c.args.region c.args.row.now c.are_rising.result c.requires c.if-row-region.false c.if-row.false
    (subst (λ (n : ℕ). 2 ≤ n) c.len.ensures c.if-len-lt2.false)
    (told_so c.is_client_in.result c.is_client_in.ensures c.if-not-is_client_in.false)
    (subst (λ (ms : List ColourMark). Tells c.are_rising.result (RiseFrom 0 c.args.script.now.shape.colours ms)) c.as_slice.ensures
    c.are_rising.ensures)
