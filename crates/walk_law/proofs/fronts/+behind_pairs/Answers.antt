use Rattle.std.proofs.Common.{[], ◌∷◌, ◌++◌, ◌-◌, List, ℕ, arith, drop, length, subst, sym, take}
use Rattle.std.specs.Option.{option_copied}
use Rattle.object_form.specs.Forms.{comma, pair_text, pairs_text}
use Rattle.walk_law.specs.TextsSaid.{IsBehind}
use Rattle.walk_law.proofs.FrontLemmas.{behind_both, gives_none, pairs_are}
use Rattle.walk_law.proofs.fronts.+behind_pairs.Goals as goal

pub returns-in_err-behind_pair_signed-in-len1-up : goal.returns-in_err-behind_pair_signed-in-len1-up
returns-in_err-behind_pair_signed-in-len1-up t c =
    let pairs = c.args.pairs.now in
    let pair = c.pair-item-2.result in
    let many = c.in-len1-up.len_at_least in
    subst (λ (l : List ℕ). IsBehind l c.args.bytes.now (option_copied c.from_residual.result))
    (sym (pairs_are pairs pair (omega (arith, many)) c.pair-item-2.is))
    (gives_none (pair_text pair ++ comma ∷ []) (pairs_text (take (length pairs - 1) (drop 1 pairs))) c.args.bytes.now
    c.from_residual.result c.from_residual.ensures c.in_err-behind_pair_signed-in-len1-up.ensures)

pub returns-in_ok-behind_pair_signed-in-len1-up : goal.returns-in_ok-behind_pair_signed-in-len1-up
returns-in_ok-behind_pair_signed-in-len1-up t c =
    let pairs = c.args.pairs.now in
    let pair = c.pair-item-2.result in
    let many = c.in-len1-up.len_at_least in
    subst (λ (l : List ℕ). IsBehind l c.args.bytes.now (option_copied c.behind_pairs.result))
    (sym (pairs_are pairs pair (omega (arith, many)) c.pair-item-2.is))
    (behind_both (pair_text pair ++ comma ∷ []) (pairs_text (take (length pairs - 1) (drop 1 pairs))) c.args.bytes.now
    c.in_ok-behind_pair_signed-in-len1-up.field-0.now (option_copied c.behind_pairs.result)
    c.in_ok-behind_pair_signed-in-len1-up.ensures c.behind_pairs.ensures)
