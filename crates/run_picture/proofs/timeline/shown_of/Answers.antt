use Rattle.std.proofs.Common.{◌≡◌, ap, ◌∙◌, min, take, length, arith}
use Rattle.std.proofs.lemmas.List.{take_min}
use Rattle.run_picture.proofs.timeline.shown_of.Goals as goal

pub returns : goal.returns
returns c =
    let all = c.as_slice-commands.result.now in
    let count : c.min.result ≡ min 40 (length all) = omega (arith, c.min.ensures) in
    ap (λ n. take n all) count ∙ take_min 40 all ∙ ap (take 40) c.as_slice-commands.ensures
