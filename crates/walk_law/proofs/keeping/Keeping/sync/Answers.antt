use Rattle.std.proofs.Common.{◌≡◌, ◌∙◌, ℕ, ap, arith, subst}
use Rattle.log_node.specs.declared.ids.Counts.{Counts}
use Rattle.log_node.specs.Vectors.{at}
use Rattle.col_core.specs.Cuts.{chain}
use Rattle.col_core.specs.Keeping.{Kept, kept_after_look, updated, with_floor}
use Rattle.col_core.specs.Log.{first}
use Rattle.col_core.specs.PlayOrder.{greatest_between}
use Rattle.lawful_run.specs.Callers.{caller_of}
use Rattle.lawful_run.specs.Reads.{greatest_played}
use Rattle.walk_law.specs.Keepings.{IsCounted}
use Rattle.walk_law.specs.Walking.{log_walked}
use Rattle.walk_law.proofs.keeping.Keeping.sync.Goals as goal

pub returns-clause-kept : goal.returns-clause-kept
returns-clause-kept c replies kept s =
    let log = log_walked c.args.subject.now in
    let caller = caller_of c.args.subject.now.script c.args.client in
    let colour = c.args.sync.colour in
    let events = c.args.sync.events in
    let counts = c.args.sync.counts in
    let stamp : c.greatest_played-stamp.result ≡ greatest_played log caller kept colour events counts =
    c.greatest_played-stamp.ensures
    ∙ (ap (λ (o : ℕ). greatest_between (chain o (first log o colour events)) c.start.result counts) c.own-own.ensures.own
    ∙ ap (λ (v : Counts). greatest_between (chain caller.own (first log caller.own colour events)) v counts)
    (c.start.ensures ∙ s.starts colour (omega arith))) in
    let seen : Kept = kept_after_look kept caller.own colour events in
    let high : Kept = with_floor seen (greatest_played log caller kept colour events counts) in
    let started : Kept = record high { starts = updated high.starts colour counts } in
    let look = subst (λ (o : ℕ). IsCounted replies (kept_after_look kept o colour events) c.see.new.self) c.own-own.ensures.own
    (c.see.ensures.kept replies kept s) in
    let raised = subst (λ (n : ℕ). IsCounted replies (with_floor seen n) c.raise_floor.new.self) stamp
    (c.raise_floor.ensures.kept replies seen look) in
    subst (λ (n : ℕ). IsCounted replies (record started { known = updated started.known colour n }) c.know.new.self)
    (c.of_region.ensures ∙ ap (at counts) c.own-own.ensures.own)
    (c.know.ensures.kept replies started (c.start_from.ensures.kept replies high raised))
