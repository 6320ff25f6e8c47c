-- A row is decided: what that makes of the world.
use Rattle.std.proofs.Common.{◌≡◌, ℕ, Bool, true, false, length, refl, ap, sym, ◌∙◌, arith}
use Rattle.std.specs.Prelude.{◌&&◌, not}
use mathlib.Core.Path.{fun_ext}
use Rattle.std.proofs.lemmas.Bool.{cond-true, cond-false, lt-ltb}
use Rattle.log_node.specs.declared.ids.Row.{Row}
use Rattle.log_node.specs.declared.marks.Outcome.{Outcome}
use Rattle.log_node.specs.declared.marks.Outcome.TheVariants.{Open, Gone, Final}
use Rattle.log_node.specs.Outcomes.{outcome_of}
use Rattle.skeen_core.specs.Queues.{is_decided}
use Rattle.skeen_core.specs.Boards.{begun_at, outcome_in, with_changed, decided, IsRow}
use Rattle.col_core.specs.Keeping.{updated_at}
use Rattle.col_core.proofs.CallerLemmas.{choice}
use Rattle.world_laws.specs.declared.steps.Step.TheVariants as steps
use Rattle.world_laws.specs.declared.steps.Reply.{Reply}
use Rattle.world_laws.specs.declared.steps.Reply.TheVariants as replies
use Rattle.world_laws.specs.Worlds.{World, RowState, row_of, marks_of, is_begun, may_decide, after_decide, after, reply}
use Rattle.world_laws.specs.Worlds.{with_row}
use Rattle.world_laws.specs.Laws.{IsBounded}
use Rattle.world_laws.proofs.CallerLemmas.{at_updated_at}
use Rattle.world_code.specs.WorldView.{WorldView, client_at, world_of, IsWhole}
use Rattle.world_code.specs.Replies.{decided_reply, decided_outcome}
use Rattle.world_code.proofs.ChangedParts.{placed_of, whole_after, reached_step}
use Rattle.world_code.proofs.ChangedRows.{Begun, decided_row, decided_clients, outcome_here, board_world}

-- a begun row is one of the board's
pub row_is : (code : WorldView) → IsWhole code → (row : Row) → Begun code row → IsBounded (world_of code)
    → IsRow code.board row
row_is code w row b bounds =
    let few = bounds.used row.client in
    let used = b.used in
    let rows = w.board_rows in
    (b.in_board, omega (arith, few, used, rows))

-- the same value at one place
same_there : (f : ℕ → ℕ → RowState) (a n : ℕ) → updated_at f a n (f a n) ≡ f
same_there f a n = fun_ext (λ b. fun_ext (λ m. at_updated_at (λ (v : RowState). v ≡ f b m) f a n (f a n) b m
    (λ eb em. sym (ap (λ (k : ℕ). f k m) eb ∙ ap (f a) em)) (λ _. refl)))

module _ (code : WorldView) (w : IsWhole code) (row : Row) (b : Begun code row)
    (opens : (row_of (world_of code) row).last ≡ Open) where
  abbrev its : RowState
  its = row_of (world_of code) row

  abbrev outcome : Outcome
  outcome = outcome_of (marks_of its)

  abbrev pub decided_code : WorldView
  decided_code = record code { board = with_changed code.board row decided }

  -- the board's answer
  pub outcome_is : outcome_in (begun_at code.board row) ≡ outcome
  outcome_is = ap outcome_in b.board_is ∙ outcome_here code w row b

  guard_is : may_decide (world_of code) row ≡ is_decided outcome
  guard_is = all_true (is_begun (world_of code) row) (is_decided its.last) (is_decided outcome)
      (lt-ltb row.number (length (client_at code row.client).begun) b.used) (ap is_decided opens) where
        all_true : (x y z : Bool) → x ≡ true → y ≡ false → (x && (not y && z)) ≡ z
        all_true x y z s t = rw (s, t) refl

  -- where the marks have no outcome, nothing is decided
  none_decided : outcome ≡ Open → after_decide (world_of code) row ≡ world_of code
  none_decided e =
      ap (λ (r : RowState). with_row (world_of code) row r)
      (ap (λ (o : Outcome). let r : RowState = record its { last = o } in r) (e ∙ sym opens))
      ∙ ap (λ (rs : ℕ → ℕ → RowState). let v : World = record (world_of code) { rows = rs } in v)
      (same_there (world_of code).rows row.client row.number)

  undecided : (o : Outcome) → is_decided o ≡ false → o ≡ Open
  undecided Open e = refl
  undecided (Gone why) e = absurd (let z : ⊥ = cc in z)
  undecided (Final f) e = absurd (let z : ⊥ = cc in z)

  same_after : (u : World) → u ≡ after_decide (world_of code) row → u ≡ after (world_of code) (steps.Decide row)
  same_after u is = choice (λ (v : World). u ≡ v) (may_decide (world_of code) row) (after_decide (world_of code) row)
      (world_of code) (λ _. is)
      (λ f. is ∙ none_decided (undecided outcome (sym guard_is ∙ f)))

  pub decided_world : world_of decided_code ≡ after (world_of code) (steps.Decide row)
  decided_world = same_after (world_of decided_code) (board_world code w row b decided
      (record its { last = outcome }) (decided_row code w row b))

  pub decided_whole : IsWhole decided_code
  decided_whole =
      whole_after code code.clients decided_code.board code.columns w (decided_clients code w row b) (placed_of code w)
      w.appended
      (reached_step code (world_of decided_code) (steps.Decide row) w decided_world)

  -- the replies, by the board's answer
  pub reply_open : (o : Outcome) → o ≡ outcome_in (begun_at code.board row) → o ≡ Open
      → ◌≡◌ {A = Reply} replies.Nothing (reply (world_of code) (steps.Decide row))
  reply_open o is e =
      sym (cond-false (may_decide (world_of code) row) _ _
      (guard_is ∙ ap is_decided (sym outcome_is ∙ (sym is ∙ e))))

  pub reply_decided : (o : Outcome) → o ≡ outcome_in (begun_at code.board row) → is_decided o ≡ true
      → ◌≡◌ {A = Reply} (replies.Decided o) (reply (world_of code) (steps.Decide row))
  reply_decided o is t =
      ap (λ (x : Outcome). replies.Decided x) (is ∙ outcome_is)
      ∙ sym (cond-true (may_decide (world_of code) row) _ _
      (guard_is ∙ (ap is_decided (sym outcome_is ∙ sym is) ∙ t)))

  pub reply_is : (o : Outcome) → o ≡ outcome_in (begun_at code.board row)
      → decided_reply (decided_outcome o) ≡ reply (world_of code) (steps.Decide row)
  reply_is Open is = reply_open Open is refl
  reply_is (Gone why) is = reply_decided (Gone why) is refl
  reply_is (Final f) is = reply_decided (Final f) is refl
