use Rattle.std.proofs.Common.{◌∙◌, ◌||◌, max, ap, ℕ, List, false, refl, sym, subst}
use Rattle.std.specs.Prelude.{slice_get}
use Rattle.log_node.specs.Sets.{members}
use Rattle.log_node.specs.Outcomes.{is_missing, is_stamp_end_fence, is_memory_fence, number_of}
use Rattle.skeen_core.specs.declared.outcomes.Tally.{Tally}
use Rattle.skeen_core.specs.Boards.{mark_in}
use Rattle.skeen_core.proofs.RowMarks.{IsTallied, starts, goes_on}
use Rattle.skeen_core.proofs.client_rows.ClientRows.tally.Goals as goal

pub loop-colour-init : goal.loop-colour-init
loop-colour-init c =
    let none : Tally = record { missing = false; stamp_end = false; memory = false; greatest = 0 } in
    let mark_of = mark_in (slice_get c.args.self.now.begun c.args.number) in
    let all = members c.args.colours in record {
      tallied = subst (λ (left : List ℕ). IsTallied mark_of all left none)
          (sym (c.into_iter-colour-iterator.ensures.into_iter_gives ∙ c.members-colour-items.ensures))
          (starts mark_of all none refl refl refl refl);
    }

pub loop-colour-preserved : goal.loop-colour-preserved
loop-colour-preserved c =
    let l = c.loop-colour in
    let e = c.with_mark-tally.ensures in
    let read = c.read.ensures in
    let mark_of = mark_in (slice_get c.args.self.now.begun c.args.number) in
    let all = members c.args.colours in record {
      tallied = goes_on mark_of all c.in-Some.colour c.next.new.self l.tally c.with_mark-tally.result
          (e.missing ∙ ap (λ m. is_missing m || l.tally.missing) read)
          (e.stamp_end ∙ ap (λ m. is_stamp_end_fence m || l.tally.stamp_end) read)
          (e.memory ∙ ap (λ m. is_memory_fence m || l.tally.memory) read)
          (e.greatest ∙ ap (λ m. max (number_of m) l.tally.greatest) read)
          (subst (λ (left : List ℕ). IsTallied mark_of all left l.tally) c.in-Some.ensures.steps l.invariant.tallied);
    }
