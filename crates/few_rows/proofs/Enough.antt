-- When rows are enough for a script, by how many the client may begin that may begin most.
use Rattle.std.proofs.Common.{◌≡◌, ◌⊎◌, inl, inr, ℕ, ◌<◌, ◌≤◌, Bool, false, cond, List, [], ◌∷◌, length, refl, ap, ◌∙◌, arith}
use Rattle.std.specs.Prelude.{◌==◌}
use Rattle.std.specs.List.{All}
use Rattle.std.proofs.lemmas.Bool.{cases_lt, eqb-true, false_from_ne_true}
use Rattle.std.proofs.lemmas.List.Elements.{All-head, All-tail}
use Rattle.script_text.specs.declared.script.Command.{Command}
use Rattle.script_text.specs.declared.script.Script.{Script}
use Rattle.script_text.specs.Fitting.{IsFitting}
use Rattle.script_beside.specs.Begins.{begins_in, own, IsMost}
use Rattle.few_rows.specs.Needs.{AreEnough}

-- who is no client has no commands
no_client : (clients n : ℕ) (commands : List Command) → All (λ (c : Command). c.client < clients) commands → clients ≤ n → own n commands ≡ []
no_client clients n [] all le = refl
no_client clients n (c ∷ commands) all le =
    let first = All-head (λ (d : Command). d.client < clients) c commands all in
    let other : (c.client == n) ≡ false = false_from_ne_true (c.client == n) (λ t. let e = eqb-true c.client n t in omega (arith, e, first, le)) in
    ap (λ (b : Bool). cond b (c ∷ own n commands) (own n commands)) other
    ∙ no_client clients n commands (All-tail (λ (d : Command). d.client < clients) c commands all) le

-- all that the script allows, or as many as the client may begin that may begin most, are enough
pub enough_rows : (script : Script) (most rows : ℕ) → IsFitting script → IsMost (length script.clients) script.commands most → rows ≤ script.shape.rows
    → (rows ≡ script.shape.rows) ⊎ (most ≤ rows) → AreEnough script rows
enough_rows script most rows fits is few enough = record {
  few = few;
  enough = elim enough [
    | inl same ↦ inl same
    | inr le ↦ inr (λ client. by_client client le (cases_lt client (length script.clients)))
  ];
} where
  by_client : (client : ℕ) → most ≤ rows → (client < length script.clients) ⊎ (length script.clients ≤ client)
      → begins_in (own client script.commands) ≤ rows
  by_client client le (inl known) = let mine = is.none_more client known in omega (arith, le, mine)
  by_client client le (inr other) =
      let clients = fits.clients in
      let none = ap begins_in (no_client (length script.shape.homes) client script.commands fits.callers (omega (arith, other, clients))) in
      omega (arith, none)
