-- Replies that break the first rule.

use Rattle.std.proofs.Common.{◌≡◌, ◌∙◌, inl, inr, ℕ, List, [], length, Some, refl, ap, sym, arith}
use Rattle.std.specs.Prelude.{slice_get, slice_index, slice_index_or}
use Rattle.lawful_run.specs.Callers.{caller_of, commands_of}
use Rattle.run_rules.specs.Told.{Account, IsTold, OfEachStep}
use Rattle.run_rules.specs.Rules.{IsReplyTo}
use Rattle.wrong_reports.specs.Cases.{Case}
use Rattle.least_rules.specs.Breaking.{Breaks}
use Rattle.wrong_reports.specs.Replies.{a_missing_reply, a_wrong_line, a_wrong_word, a_wrong_name, another_commands_answer}
use Rattle.wrong_reports.specs.Cases.{on_x}
use Rattle.wrong_reports.specs.Reads.{a_scan_without_a_raise, a_scan_without_a_sync}
use Rattle.wrong_reports.specs.Looks.{a_sync_of_another_colour, a_sync_answered_as_a_trim}
use Rattle.wrong_reports.specs.Points.{an_append_in_another_colour, an_append_that_shows_a_node, a_row_that_is_not_told}
use Rattle.wrong_reports.specs.Several.{a_colour_without_a_point}
use Rattle.wrong_reports.specs.Naming.{a_full_that_needs_no_row}
use Rattle.wrong_reports.specs.Objects.{a_dequeue_answered_as_an_append, a_value_of_another_key}
use Rattle.log_node.specs.Sets.{members}
use Rattle.col_core.specs.Keeping.{nothing_kept}
use Rattle.script_text.specs.declared.commands.What.TheVariants as whats
use Rattle.report_text.specs.declared.report.ClientReport.{ClientReport}
use Rattle.least_rules.proofs.Tools.{Tells, client_tells, breaks_first}

pub missing_reply : Breaks a_missing_reply 1
missing_reply = breaks_first a_missing_reply (λ account told rule.
    client_tells a_missing_reply.script a_missing_reply.report account told IsReplyTo rule.replies 0 _ refl)

pub wrong_line : Breaks a_wrong_line 1
wrong_line = breaks_first a_wrong_line (λ account told rule.
    let l = (client_tells a_wrong_line.script a_wrong_line.report account told IsReplyTo rule.replies 0 _ refl).1.line in
    cc (l))

pub wrong_word : Breaks a_wrong_word 1
wrong_word = breaks_first a_wrong_word (λ account told rule.
    let w = (client_tells a_wrong_word.script a_wrong_word.report account told IsReplyTo rule.replies 0 _ refl).1.word in
    cc (w))

pub wrong_name : Breaks a_wrong_name 1
wrong_name = breaks_first a_wrong_name (λ account told rule.
    let n = rule.names in
    let f : 98 ≡ 97 = ap (λ (names : List (List ℕ)). slice_index (slice_index_or names 0 []) 0) n in omega (arith, f))

pub another_answer : Breaks another_commands_answer 1
another_answer = breaks_first another_commands_answer (λ account told rule.
    elim (client_tells another_commands_answer.script another_commands_answer.report account told IsReplyTo rule.replies 0 _
    refl).1.answer.1 [
      | inl m ↦ cc (m)
      | inr g ↦ cc (g)
    ])

-- a reply to one command of the client with the number 0
of_first : (case : Case) (account : Account) → IsTold case.script case.report account
    → OfEachStep case.script case.report account IsReplyTo → (c : ClientReport)
    → slice_get case.report.clients 0 ≡ Some c
    → Tells (IsReplyTo (caller_of case.script 0)) account.log (caller_of case.script 0) nothing_kept
    (commands_of case.script 0) c.replies (account.last 0)
of_first case account told replies c there = client_tells case.script case.report account told IsReplyTo replies 0 c there

-- READS
pub without_raise : Breaks a_scan_without_a_raise 1
without_raise = breaks_first a_scan_without_a_raise (λ account told rule.
    let e = (of_first a_scan_without_a_raise account told rule.replies _ refl).1.answer in
    let c : on_x ≡ e.0 = (let h = e.1 in cc (h)) in
    let f : [] ≡ members on_x = e.2.0 ∙ ap members (sym c) in cc (f))

pub without_sync : Breaks a_scan_without_a_sync 1
without_sync = breaks_first a_scan_without_a_sync (λ account told rule.
    let e = (of_first a_scan_without_a_sync account told rule.replies _ refl).1.answer in
    let c : on_x ≡ e.0 = (let h = e.1 in cc (h)) in
    let f : [] ≡ members on_x = e.2.1 ∙ ap members (sym c) in cc (f))

pub sync_of_another : Breaks a_sync_of_another_colour 1
sync_of_another = breaks_first a_sync_of_another_colour (λ account told rule.
    let e = (of_first a_sync_of_another_colour account told rule.replies _ refl).1.answer in
    let f : ◌≡◌ {A = ℕ} 0 1 = cc (e) in omega (arith, f))

pub sync_as_trim : Breaks a_sync_answered_as_a_trim 1
sync_as_trim = breaks_first a_sync_answered_as_a_trim (λ account told rule.
    let e = (of_first a_sync_answered_as_a_trim account told rule.replies _ refl).1.answer in
    let h = e.2 in cc (h))

-- APPENDS
pub in_another_colour : Breaks an_append_in_another_colour 1
in_another_colour = breaks_first an_append_in_another_colour (λ account told rule.
    let e = (of_first an_append_in_another_colour account told rule.replies _ refl).1.answer.2.0 in
    let f : 1 ≡ 0 = ap (λ (l : List ℕ). slice_index l 0) e in omega (arith, f))

pub shows_a_node : Breaks an_append_that_shows_a_node 1
shows_a_node = breaks_first an_append_that_shows_a_node (λ account told rule.
    let e = (of_first an_append_that_shows_a_node account told rule.replies _ refl).1.answer.0 in cc (e))

pub without_row : Breaks a_row_that_is_not_told 1
without_row = breaks_first a_row_that_is_not_told (λ account told rule.
    let e = (of_first a_row_that_is_not_told account told rule.replies _ refl).1.answer.2.1 in
    let f : 2 ≡ 1 = e in omega (arith, f))

pub without_point : Breaks a_colour_without_a_point 1
without_point = breaks_first a_colour_without_a_point (λ account told rule.
    let e = (of_first a_colour_without_a_point account told rule.replies _ refl).1.answer.2.0 in
    let f : 1 ≡ 2 = ap length e in omega (arith, f))

pub needs_no_row : Breaks a_full_that_needs_no_row 1
needs_no_row = breaks_first a_full_that_needs_no_row (λ account told rule.
    let e = (of_first a_full_that_needs_no_row account told rule.replies _ refl).1.answer.1 in cc (e))

-- OBJECTS
pub dequeue_as_append : Breaks a_dequeue_answered_as_an_append 1
dequeue_as_append = breaks_first a_dequeue_answered_as_an_append (λ account told rule.
    elim (of_first a_dequeue_answered_as_an_append account told rule.replies _ refl).1.answer.1 [
      | inl m ↦ cc (m)
      | inr g ↦ cc (g)
    ])

same_keys : (object other : ℕ) (keys more : List (List ℕ)) → whats.GetAll object keys ≡ whats.GetAll other more → keys ≡ more
same_keys object other keys more e = cc (e)

pub another_key : Breaks a_value_of_another_key 1
another_key = breaks_first a_value_of_another_key (λ account told rule.
    elim (of_first a_value_of_another_key account told rule.replies _ refl).1.answer.1 [
      | inl m ↦
          let f : 107 ≡ 106 = ap (λ (ks : List (List ℕ)). slice_index (slice_index_or ks 0 []) 0) (same_keys _ _ _ _ m.1) in
          omega (arith, f)
      | inr g ↦ let h = g.1 in cc (h)
    ])
