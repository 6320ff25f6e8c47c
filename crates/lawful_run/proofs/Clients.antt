-- The clients of a report, and what they keep between their commands.
use Rattle.std.proofs.Common.{◌≡◌, ℕ, zero, suc, ◌+◌, ◌-◌, ◌<◌, ◌≤◌, List, length, Option, Some, None, slice_get, refl, ap, sym, subst, ◌∙◌, inl, inr, arith}
use Rattle.std.specs.Prelude.{◌≢◌}
use Rattle.std.proofs.lemmas.Bool.{cases_lt}
use Rattle.log_node.specs.declared.ids.Id.{Id}
use Rattle.col_core.specs.Log.{Log}
use Rattle.col_core.specs.Keeping.{Kept}
use Rattle.script_text.specs.declared.script.Command.{Command}
use Rattle.script_text.specs.declared.script.Script.{Script}
use Rattle.report_text.specs.declared.report.ReplyLine.{ReplyLine}
use Rattle.report_text.specs.declared.report.ClientReport.{ClientReport}
use Rattle.report_text.specs.declared.report.Report.{Report}
use Rattle.lawful_run.specs.Callers.{Caller, caller_of, commands_of}
use Rattle.lawful_run.specs.Explains.{Explained}
use Rattle.lawful_run.specs.Lawful.{LawfulRun}
use Rattle.lawful_run.specs.Readings.{kept_at, kept_in, kept_of, Nowhere, told, OneCommand}
use Rattle.lawful_run.proofs.Prefixes.{get_within}
use Rattle.lawful_run.proofs.Replies.{step_of}
use Rattle.lawful_run.proofs.Used.{answer_use, answer_used}
pub use Rattle.log_node.proofs.CallerLemmas.{get_within as get_there}

-- a client that is shown, and the explanation by which its nodes are numbered
pub record IsShown {script : Script} {report : Report} (run : LawfulRun script report) (client : ℕ) : Type 0 where
  pub shown : ClientReport
  pub of_client : slice_get report.clients client ≡ Some shown
  pub numbered : (k : ℕ) → kept_of run client k ≡ kept_at (run.clients client shown of_client).explained k

pub shown_there : {script : Script} {report : Report} (run : LawfulRun script report) (client : ℕ)
    (shown : ClientReport)
    → slice_get report.clients client ≡ Some shown → (c : IsShown run client) × (c.shown ≡ shown)
shown_there {script} {report} run client shown there = at (slice_get report.clients client) refl (λ k. refl) there where
  at : (o : Option ClientReport) (e : slice_get report.clients client ≡ o) →
      ((k : ℕ) → kept_of run client k ≡ kept_in run client o e k)
      → o ≡ Some shown → (c : IsShown run client) × (c.shown ≡ shown)
  at None e number is = absurd (let f : ⊥ = cc (is) in f)
  at (Some c) e number is = (record { shown = c; of_client = e; numbered = number }, cc (is))

-- ids are used one after another
ids_rise : {log : Log} {caller : Caller} {commands : List Command} {replies : List ReplyLine} {last : Kept}
    (e : Explained log caller commands replies last) (i more : ℕ) → i + more ≤ length replies → (kept_at e i).ids ≤
    (kept_at e (i + more)).ids
ids_rise e i zero le = let s : (kept_at e (i + 0)).ids ≡ (kept_at e i).ids = ap (λ n. (kept_at e n).ids)
    (let g : i + 0 ≡ i = omega arith in g) in omega (arith, s)
ids_rise {log} {caller} {commands} {replies} e i (suc more) le =
    let reply = get_there replies (i + more) (omega (arith, le)) in
    let step = (step_of e (i + more) reply.0 reply.1).0 in
    let before = ids_rise e i more (omega (arith, le)) in
    let next : (kept_at e (i + suc more)).ids ≡ step.after.ids =
    ap (λ n. (kept_at e n).ids) (let g : i + suc more ≡ i + more + 1 = omega arith in g) ∙ ap
    (λ (k : Kept). k.ids) step.next_is in
    elim (answer_use log caller (kept_at e (i + more)) step.command step.reply step.after step.answers) [
      | inl q ↦ let s = q.0.ids in omega (arith, before, next, s)
      | inr u ↦ let s = u.ids in omega (arith, before, next, s)
    ]

-- the next command has another id than one that tells of a node
other_id : {log : Log} {caller : Caller} {commands : List Command} {replies : List ReplyLine} {last : Kept}
    (e : Explained log caller commands replies last) (k m : ℕ) (reply : ReplyLine) → slice_get replies k ≡ Some reply
    → told reply.answer ≢ Nowhere
    → k < m → m ≤ length replies → (kept_at e k).ids ≡ (kept_at e m).ids → ⊥
other_id {log} {caller} e k m reply there tells lt le same =
    let s = step_of e k reply there in
    let step = s.0 in
    let used = answer_used log caller (kept_at e k) step.command step.reply step.after step.answers
    (subst (λ (x : ReplyLine). told x.answer ≢ Nowhere) (sym s.1) tells) in
    let next : (kept_at e (k + 1)).ids ≡ step.after.ids = ap (λ (x : Kept). x.ids) step.next_is in
    let rise = ids_rise e (k + 1) (m - (k + 1)) (omega (arith, lt, le)) in
    let at : (kept_at e (k + 1 + (m - (k + 1)))).ids ≡ (kept_at e m).ids = ap (λ n. (kept_at e n).ids)
    (let g : k + 1 + (m - (k + 1)) ≡ m = omega (arith, lt) in g) in
    omega (arith, used, next, rise, at, same)

pub one_command : OneCommand
one_command script report run client k m reply other id colours set text words a tells b tells' =
    elim (cases_lt k m) [
      | inl lt ↦ absurd (other_id e k m reply there tells lt
          (let w = get_within c.0.shown.replies m other there' in omega (arith, w)) same)
      | inr ge ↦ elim (cases_lt m k) [
        | inl lt ↦ absurd (other_id e m k other there' tells' lt
            (let w = get_within c.0.shown.replies k reply there in omega (arith, w)) (sym same))
        | inr le ↦ omega (arith, ge, le)
      ]
    ] where
      c : (x : IsShown run client) × (x.shown ≡ a.replied.0)
      c = shown_there run client a.replied.0 a.replied.1

      e : Explained run.log (caller_of script client) (commands_of script client) c.0.shown.replies
          (run.clients client c.0.shown c.0.of_client).kept
      e = (run.clients client c.0.shown c.0.of_client).explained

      there : slice_get c.0.shown.replies k ≡ Some reply
      there = ap (λ (x : ClientReport). slice_get x.replies k) c.1 ∙ a.replied.2

      there' : slice_get c.0.shown.replies m ≡ Some other
      there' =
          let p : Some a.replied.0 ≡ Some b.replied.0 = sym a.replied.1 ∙ b.replied.1 in
          let q : a.replied.0 ≡ b.replied.0 = cc (p) in
          ap (λ (x : ClientReport). slice_get x.replies m) (c.1 ∙ q) ∙ b.replied.2

      same : (kept_at e k).ids ≡ (kept_at e m).ids
      same =
          let i = ap (λ (x : Id). x.count) (sym a.id_is ∙ b.id_is) in
          ap (λ (x : Kept). x.ids) (sym (c.0.numbered k)) ∙ (i ∙ ap (λ (x : Kept). x.ids) (c.0.numbered m))
