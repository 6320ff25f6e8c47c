use Rattle.std.proofs.Common.{Some}
use Rattle.std.proofs.lemmas.List.Elements.{All-set}
use Rattle.object_law.specs.Decided.{IsDecidedPlay}
use Rattle.object_law.specs.PartAnswers.{IfThere}
use Rattle.object_law.proofs.decided_plays.DecidedPlays.put.Goals as goal

pub returns-then-at-len : goal.returns-then-at-len
returns-then-at-len c =
    All-set (IfThere (IsDecidedPlay c.args.subject.now)) c.args.self.now.parts.items c.args.at (Some c.args.play) c.requires.play
    c.requires.plays
