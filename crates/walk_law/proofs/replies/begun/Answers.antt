use Rattle.std.proofs.Common.{sym, subst, rules}
use Rattle.std.specs.List.{All}
use Rattle.std.proofs.lemmas.List.Elements.{All-push}
use Rattle.walk_law.specs.Replies.{IsBegun}
use Rattle.walk_law.proofs.replies.begun.Goals as goal

pub loop-preserved : goal.loop-preserved
loop-preserved c = record {
  each =
      subst (All IsBegun) (sym c.in_ok-push.ensures.items)
      (All-push IsBegun c.loop.progress.items c.in_ok-new.field-0 c.loop.invariant.each c.in_ok-new.ensures);
  len = search rules;
}
