use Rattle.std.specs.Prelude.{None}
use Rattle.std.specs.List.{All}
use Rattle.std.proofs.Common.{subst, sym, List, Option}
use Rattle.std.proofs.lemmas.List.Elements.{All-push}
use Rattle.object_law.specs.declared.part_plays.PartPlay.{PartPlay}
use Rattle.object_law.specs.declared.ruled_plays.RuledPlay.{RuledPlay}
use Rattle.object_law.specs.PartAnswers.{IfThere, IsPartPlay, IsRuledPlay}
use Rattle.object_law.proofs.fourteenth.PartPlays.new.Goals as goal

pub loop-preserved : goal.loop-preserved
loop-preserved c = λ walked table.
    let held = c.loop.invariant walked table in (
      subst (λ (xs : List (Option PartPlay)). All (IfThere (IsPartPlay walked table)) xs) (sym c.in_ok-push.ensures.items)
          (All-push (IfThere (IsPartPlay walked table)) c.loop.parts.items None held.0 tt),
      subst (λ (xs : List (Option RuledPlay)). All (IfThere (IsRuledPlay walked table)) xs) (sym c.in_ok-push-2.ensures.items)
          (All-push (IfThere (IsRuledPlay walked table)) c.loop.ruled.items None held.1 tt),
    )

pub returns : goal.returns
returns c = λ walked table. let held = c.loop.invariant walked table in record { parts = held.0; ruled = held.1 }
