use Rattle.std.proofs.Common.{ℕ, ◌+◌, [], ◌∷◌}
use Rattle.load_script.proofs.Made.{one_made}
use Rattle.load_script.proofs.script.numbered.Goals as goal

pub loop-n-preserved : goal.loop-n-preserved
loop-n-preserved c = record {
  pushed = one_made (λ (n : ℕ). c.args.letter ∷ (48 + n) ∷ []) [] c.loop-n.names c.push.new.self c.in_ok-copied.field-0
      c.loop-n.n c.loop-n.invariant.pushed c.in_ok-copied.ensures (c.in_ok-push.ensures).ok;
}
