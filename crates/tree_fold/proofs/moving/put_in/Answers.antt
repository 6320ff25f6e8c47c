use Rattle.std.proofs.Common.{ap, ◌∙◌}
use Rattle.std.specs.Ordering.{is_eq}
use Rattle.std.specs.Map.{lookup}
use Rattle.tree_fold.specs.Places.{place_cmp}
use Rattle.tree_fold.proofs.MoveLemmas.{put_one, all_parts, done_apart}
use Rattle.tree_fold.proofs.moving.put_in.Goals as goal

pub put_entry-requires-clause-path : goal.put_entry-requires-clause-path
put_entry-requires-clause-path c = (all_parts c.pop.new.self.items c.in-Some.entry (rw c.in-Some.ensures.items at c.loop-entry.invariant.paths)).1

pub loop-entry-preserved : goal.loop-entry-preserved
loop-entry-preserved c =
    let paths = all_parts c.pop.new.self.items c.in-Some.entry (rw c.in-Some.ensures.items at c.loop-entry.invariant.paths) in
    record {
      placed = c.put_entry.ensures.placed;
      ordered = c.put_entry.ensures.ordered;
      paths = paths.0;
      put = put_one c.pop.new.self.items c.loop-entry.moved.items c.args.moved.items c.in-Some.entry c.args.entries.now c.loop-entry.entries c.put_entry.new.entries
          c.in-Some.ensures.items c.loop-entry.invariant.placed c.put_entry.ensures.placed paths.1 c.in_ok-put_entry.ensures.ok c.loop-entry.invariant.put;
    }

pub returns-in_err-put_entry-clause-others : goal.returns-in_err-put_entry-clause-others
returns-in_err-put_entry-clause-others c = λ place h.
    let put = c.loop-entry.invariant.put in
    ap (lookup (λ k. is_eq (place_cmp place k))) c.in_err-put_entry.ensures.err
    ∙ put.others place (done_apart place c.loop-entry.moved.items put.done c.args.moved.items put.parts h)
