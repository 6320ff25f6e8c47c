-- For those who keep a world: it is reached by steps, so the laws hold of it.
use Rattle.std.proofs.Common.{List, [], ◌∷◌, ◌++◌, refl, subst, ap, ◌∙◌}
use Rattle.log_node.specs.declared.node.Shape.{Shape}
use Rattle.world_laws.specs.declared.steps.Step.{Step}
use Rattle.world_laws.specs.Worlds.{World, after, run_steps, opened}
use Rattle.world_laws.specs.Laws.{Always, IsReached}
pub use Rattle.world_laws.proofs.Agreement.{colour_of_mark, entry_shown}
pub use Rattle.world_laws.proofs.Bases.{trimmed_is_held}
pub use Rattle.world_laws.proofs.Basics.{at_updated, at_updated_at, contains_in, in_append, in_contains, in_left}
pub use Rattle.world_laws.proofs.Basics.{in_right, in_slice, not_place, not_same, slice_in, slice_last, updated-here}
pub use Rattle.world_laws.proofs.Basics.{updated_at-here, updated_at-not}
pub use Rattle.world_laws.proofs.Changes.{chain_longer, line_stays}
pub use Rattle.world_laws.proofs.Clients.{begun_client, head_with, in_flat_map, in_heads, same_used, single_client}
pub use Rattle.world_laws.proofs.Clients.{used_before}
pub use Rattle.world_laws.proofs.Completing.{Decides, decide_decides, kept_marks, mark_step_marks, none_missing}
pub use Rattle.world_laws.proofs.Completing.{settle_all}
pub use Rattle.world_laws.proofs.Completion.{can_complete}
pub use Rattle.world_laws.proofs.Copies.{copy_within, own_chain_length}
pub use Rattle.world_laws.proofs.Growing.{Grows, after_grows, played_client, run_grows}
pub use Rattle.world_laws.proofs.Held.{Agrees, Fits, Held, Kind, OfRow, OfSingle, Unborn, column_mark, status_in}
pub use Rattle.world_laws.proofs.Histories.{entries_dated, lawful_past_in, may_settle_open, not_entered}
pub use Rattle.world_laws.proofs.Histories.{open_is_waiting, stamp_within, status-last}
pub use Rattle.world_laws.proofs.Keeps.{at_last, next_absent, next_unborn, row_agrees, status_stays}
pub use Rattle.world_laws.proofs.Later.{reverse-split}
pub use Rattle.world_laws.proofs.LaterLogs.{log_grows}
pub use Rattle.world_laws.proofs.LawfulRows.{have_lawful_rows}
pub use Rattle.world_laws.proofs.Listed.{FitsSingle, Listed, listed}
pub use Rattle.world_laws.proofs.Marks.{agrees-settled, any_mark, colour_in, final_is, greatest_within, has_colour}
pub use Rattle.world_laws.proofs.Marks.{in_colours, is_waiting, number_within, open_is, open_where_missing}
pub use Rattle.world_laws.proofs.Marks.{waiting_is}
pub use Rattle.world_laws.proofs.OfColumns.{AreTwo, MayCarry, MayGive, are_two, held_within, lacking_length}
pub use Rattle.world_laws.proofs.OfColumns.{may_carry_is, may_give_is}
pub use Rattle.world_laws.proofs.OfRows.{MayMark, mark-at_home, marked_absent, may_fence_marks, may_mark_is}
pub use Rattle.world_laws.proofs.OfRows.{may_settle_is}
pub use Rattle.world_laws.proofs.RegionRows.{OfRegion, all_in, filter_step, home_rows, in_map, none_later, of_home}
pub use Rattle.world_laws.proofs.RegionRows.{of_region, row_in, row_stands, same_number}
pub use Rattle.world_laws.proofs.Runs.{after_held, held, run_held, run_steps-append}
pub use Rattle.world_laws.proofs.Telling.{told}
pub use Rattle.world_laws.proofs.Told.{FitsEvent, Told}
pub use Rattle.world_laws.proofs.Wanted.{stays_within_cuts, wanted}

-- a law of every world that steps have made, at one that they reached
pub of_reached : (Law : World → Type 0) → Always Law → (w : World) → IsReached w → Law w
of_reached Law law w r = subst Law r.is (law r.shape r.steps)

pub opened_reached : (shape : Shape) → IsReached (opened shape)
opened_reached shape = record { shape = shape; steps = []; is = refl }

pub run_reached : (w : World) (more : List Step) → IsReached w → IsReached (run_steps w more)
run_reached w more r = record {
  shape = r.shape;
  steps = r.steps ++ more;
  is = run_steps-append (opened r.shape) r.steps more ∙ ap (λ (x : World). run_steps x more) r.is;
}

pub after_reached : (w : World) (s : Step) → IsReached w → IsReached (after w s)
after_reached w s r = run_reached w (s ∷ []) r
