use Rattle.std.proofs.Common.{◌≡◌, length, take}
use Rattle.script_beside.specs.Dealt.{share_commands}
use Rattle.run_script.proofs.serving.served.count.Given as goal

-- the commands in the pieces so far
abbrev pub invariant-loop-piece : goal.invariant-loop-piece
invariant-loop-piece l = l.count ≡ length (share_commands (take l.piece-index l.pieces))
