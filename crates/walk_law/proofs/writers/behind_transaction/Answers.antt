use Rattle.std.proofs.Common.{Some}
use Rattle.std.specs.Prelude.{codes}
use Rattle.std.specs.Option.{option_copied}
use Rattle.object_form.specs.Forms.{pairs_text}
use Rattle.walk_law.specs.Asking.{keys_shown}
use Rattle.walk_law.specs.TextsSaid.{AreVersionsThen}
use Rattle.walk_law.proofs.FrontLemmas.{Both, Just, behind_just, gives_no_one, one_both}
use Rattle.walk_law.proofs.WriterLemmas.{transaction_as}
use Rattle.walk_law.proofs.writers.behind_transaction.Goals as goal

pub returns-in_err-behind_versions : goal.returns-in_err-behind_versions
returns-in_err-behind_versions c =
    let keys = keys_shown c.args.shown.now in
    let pairs = c.args.pairs.now in
    let bytes = c.args.bytes.now in
    let first = c.in_ok-behind.field-0.now in
    let r = c.from_residual-in_err-behind_versions.result in
    let Later = Both (AreVersionsThen keys) (Just (pairs_text pairs)) in
    transaction_as keys pairs bytes (option_copied r)
    (one_both (Just (codes "t:")) Later bytes first (option_copied r)
    (behind_just (codes "t:") bytes (Some first) c.in_ok-behind.ensures)
    (gives_no_one (AreVersionsThen keys) (Just (pairs_text pairs)) first r c.from_residual-in_err-behind_versions.ensures
    c.in_err-behind_versions.ensures))

pub returns : goal.returns
returns c =
    let keys = keys_shown c.args.shown.now in
    let pairs = c.args.pairs.now in
    let bytes = c.args.bytes.now in
    let first = c.in_ok-behind.field-0.now in
    let second = c.in_ok-behind_versions.field-0.now in
    let o = option_copied c.behind_pairs.result in
    let Later = Both (AreVersionsThen keys) (Just (pairs_text pairs)) in
    transaction_as keys pairs bytes o
    (one_both (Just (codes "t:")) Later bytes first o (behind_just (codes "t:") bytes (Some first) c.in_ok-behind.ensures)
    (one_both (AreVersionsThen keys) (Just (pairs_text pairs)) first second o c.in_ok-behind_versions.ensures
    (behind_just (pairs_text pairs) second o c.behind_pairs.ensures)))
