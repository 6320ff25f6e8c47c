-- What callers may cite of this crate's proofs; all else there is private.
pub use Rattle.col_core.proofs.Appending.{clock-append, clock_more, dated-append, entries-append, fold-append}
pub use Rattle.col_core.proofs.Basics.{apart, both, by_test, choice, if_false, if_true, not_true, same_id-is}
pub use Rattle.col_core.proofs.Basics.{same_id-refl, same_id-true}
pub use Rattle.col_core.proofs.ChainGrowth.{chains_grow, cut_grows, line_grows, line_rises, reachable_grows}
pub use Rattle.col_core.proofs.ChainGrowth.{slice_longer}
pub use Rattle.col_core.proofs.CutLaws.{cut-is_greatest, reached_within, within, within-at}
pub use Rattle.col_core.proofs.DatedLaws.{dated-is_dated, fold-later, later, with_date}
pub use Rattle.col_core.proofs.Elements.{contains_in, in_append, in_contains, in_left, in_reverse, in_reversed, in_right}
pub use Rattle.col_core.proofs.Elements.{fewer, fewer_less, in_slice, slice_in}
pub use Rattle.col_core.proofs.Facts.{dates_longer, entries_dated, later_by_growth, mark_stays, outcome_stays}
pub use Rattle.col_core.proofs.Growth.{entry_within, line_later}
pub use Rattle.col_core.proofs.IdLemmas.{clear_stands, clocks_rise, entered_is_over, entered_longer, lawful_beginning, only_leave}
pub use Rattle.col_core.proofs.IdLemmas.{open_is_proposed, opens_above, past_is_lawful, proposed_is_open, proposed_once}
pub use Rattle.col_core.proofs.IdLemmas.{proposes_longer, settled_stays, settles_longer, singles_longer, singles_stay}
pub use Rattle.col_core.proofs.KeyOrder.{key-irrefl, key-stamps, key-total, key-trans}
pub use Rattle.col_core.proofs.LawfulPasts.{clock-of, entries-of, lawful_front, lawful_past, open_waits, reverse-cons}
pub use Rattle.col_core.proofs.LawfulPasts.{reverse-push, shown_entered}
pub use Rattle.col_core.proofs.Members.{In, in_filter, in_filter-back, in_line, in_with, in_with-own}
unfoldable pub use Rattle.col_core.proofs.Members.{Rises}
pub use Rattle.col_core.proofs.Members.{no_standing, rises, rises-filter, shown, stands}
pub use Rattle.col_core.proofs.Orders.{Between, between_is, in_order-between, is_in_between, once, one_goes_first}
pub use Rattle.col_core.proofs.Orders.{same_place-is, same_place-itself}
pub use Rattle.col_core.proofs.OwnLines.{cut_before_within, head_with, in_heads, own_line_within}
pub use Rattle.col_core.proofs.Pasts.{Absent, Alone, IsLawfulNext, IsLawfulPast, IsSettling, Settled, Status, Waits}
pub use Rattle.col_core.proofs.Pasts.{after_event, clock, entries, standing_of, status}
pub use Rattle.col_core.proofs.Statuses.{past_clock_within, settled_status, waits_next}
pub use Rattle.col_core.proofs.Uniqueness.{cut_unique}
pub use Rattle.col_core.proofs.PlainFacts.{range_has, in_flat_map-back, in_take, in_map-back, in_map, in_range, any_in, in_flat_map, all_in}
