use Rattle.std.proofs.Common.{[], ◌∷◌, ◌-◌, ◌∙◌, List, ℕ, ap, arith, drop, length, subst, sym, take}
use Rattle.std.specs.Option.{option_copied}
use Rattle.object_form.specs.Forms.{bar, comma}
use Rattle.walk_law.specs.Asking.{keys_shown}
use Rattle.walk_law.specs.TextsSaid.{AreVersionsThen, IsBehindOne, IsVersionThen}
use Rattle.walk_law.proofs.FrontLemmas.{behind_just, gives_no_one, keys_more, keys_none, keys_one, keys_rest, one_both}
use Rattle.walk_law.proofs.WriterLemmas.{versions_more, versions_none, versions_one}
use Rattle.walk_law.proofs.writers.+behind_versions.Goals as goal

pub returns-in_err-behind_version-in-len1-up : goal.returns-in_err-behind_version-in-len1-up
returns-in_err-behind_version-in-len1-up t c =
    let shown = c.args.shown.now in
    let bytes = c.args.bytes.now in
    let many = c.in-len1-up.len_at_least in
    let key = c.as_bytes-in-len1-up.result.now in
    let rest = keys_shown (take (length shown - 1) (drop 1 shown)) in
    subst (λ (l : List (List ℕ)). IsBehindOne (AreVersionsThen l) bytes (option_copied c.from_residual.result))
    (ap (λ (k : List ℕ). k ∷ rest) c.as_bytes-in-len1-up.ensures
    ∙ sym (keys_more shown c.first-item.result (omega (arith, many)) c.first-item.is))
    (versions_more key rest bytes (option_copied c.from_residual.result) (keys_rest shown (omega (arith, many)))
    (gives_no_one (IsVersionThen key comma) (AreVersionsThen rest) bytes c.from_residual.result c.from_residual.ensures
    c.in_err-behind_version-in-len1-up.ensures))

pub returns-in-empty : goal.returns-in-empty
returns-in-empty t c =
    let bytes = c.args.bytes.now in
    let few = c.in-empty.len_below in
    subst (λ (l : List (List ℕ)). IsBehindOne (AreVersionsThen l) bytes (option_copied c.behind.result))
    (sym (keys_none c.args.shown.now few))
    (versions_none bytes (option_copied c.behind.result) (behind_just (bar ∷ []) bytes (option_copied c.behind.result) c.behind.ensures))

pub returns-in-len1 : goal.returns-in-len1
returns-in-len1 t c =
    let bytes = c.args.bytes.now in
    let some = c.in-len1.len_at_least in
    let few = c.in-len1.len_below in
    let key = c.as_bytes.result.now in
    subst (λ (l : List (List ℕ)). IsBehindOne (AreVersionsThen l) bytes (option_copied c.behind_version.result))
    (ap (λ (k : List ℕ). k ∷ []) c.as_bytes.ensures
    ∙ sym (keys_one c.args.shown.now c.last-item.result (omega (arith, some, few)) c.last-item.is))
    (versions_one key bytes (option_copied c.behind_version.result) c.behind_version.ensures)

pub returns-in_ok-behind_version-in-len1-up : goal.returns-in_ok-behind_version-in-len1-up
returns-in_ok-behind_version-in-len1-up t c =
    let shown = c.args.shown.now in
    let bytes = c.args.bytes.now in
    let many = c.in-len1-up.len_at_least in
    let key = c.as_bytes-in-len1-up.result.now in
    let rest = keys_shown (take (length shown - 1) (drop 1 shown)) in
    subst (λ (l : List (List ℕ)). IsBehindOne (AreVersionsThen l) bytes (option_copied c.behind_versions.result))
    (ap (λ (k : List ℕ). k ∷ rest) c.as_bytes-in-len1-up.ensures
    ∙ sym (keys_more shown c.first-item.result (omega (arith, many)) c.first-item.is))
    (versions_more key rest bytes (option_copied c.behind_versions.result) (keys_rest shown (omega (arith, many)))
    (one_both (IsVersionThen key comma) (AreVersionsThen rest) bytes c.in_ok-behind_version-in-len1-up.field-0.now
    (option_copied c.behind_versions.result) c.in_ok-behind_version-in-len1-up.ensures c.behind_versions.ensures))
