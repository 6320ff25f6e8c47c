use Rattle.std.proofs.Common.{List, Option, None, sym, subst}
use Rattle.std.specs.List.{All}
use Rattle.std.proofs.lemmas.List.Elements.{All-push}
use Rattle.object_law.specs.Decided.{IsDecidedPlay}
use Rattle.object_law.specs.PartAnswers.{IfThere}
use Rattle.object_law.specs.declared.decided_plays.DecidedPlay.{DecidedPlay}
use Rattle.object_law.proofs.decided_plays.DecidedPlays.new.Goals as goal

pub loop-preserved : goal.loop-preserved
loop-preserved c =
    subst (λ (xs : List (Option DecidedPlay)). All (IfThere (IsDecidedPlay c.args.subject.now)) xs) (sym c.in_ok-push.ensures.items)
    (All-push (IfThere (IsDecidedPlay c.args.subject.now)) c.loop.parts.items None c.loop.invariant tt)
