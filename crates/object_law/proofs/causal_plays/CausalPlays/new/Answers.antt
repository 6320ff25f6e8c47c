use Rattle.std.specs.Prelude.{None}
use Rattle.std.specs.List.{All}
use Rattle.std.proofs.Common.{subst, sym, List, Option}
use Rattle.std.proofs.lemmas.List.Elements.{All-push}
use Rattle.object_law.specs.declared.causal_plays.CausalPlay.{CausalPlay}
use Rattle.object_law.specs.CausalPlays.{IsCausalPlay}
use Rattle.object_law.specs.PartAnswers.{IfThere}
use Rattle.object_law.proofs.causal_plays.CausalPlays.new.Goals as goal

pub loop-preserved : goal.loop-preserved
loop-preserved c = λ walked table.
    subst (λ (xs : List (Option CausalPlay)). All (IfThere (IsCausalPlay walked table)) xs) (sym c.in_ok-push.ensures.items)
    (All-push (IfThere (IsCausalPlay walked table)) c.loop.plays.items None (c.loop.invariant walked table) tt)
