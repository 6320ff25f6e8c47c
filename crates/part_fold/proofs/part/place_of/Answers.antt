use Rattle.std.proofs.Common.{◌%◌, ℕ, take, get_or, sum, sym, ap, ◌∙◌}
use Rattle.std.proofs.Math.Nat.{add-mod}
use Rattle.std.proofs.lemmas.List.Sums.{sum_by_more}
use Rattle.part_fold.proofs.part.place_of.Goals as goal

pub loop-byte-preserved : goal.loop-byte-preserved
loop-byte-preserved c =
    let bytes = c.args.key.now in
    let n = c.args.colours in
    let i = c.loop-byte.byte-index in
    let more = sum_by_more (λ x. x) bytes i 0 c.loop-byte-test.true in
    rw (c.from.ensures, c.loop-byte.invariant) (sym (ap (λ (s : ℕ). s % n) more ∙ add-mod (sum (take i bytes)) (get_or bytes i 0) n))
