-- Appends that are made only where nothing has come between, and are told otherwise.
use Rattle.std.proofs.Common.{◌≡◌, inl, inr, zero, suc, ◌≤◌, List, [], ◌∷◌, length, take, refl, ap, sym, subst, ◌∙◌, arith, lit<}
use Rattle.std.specs.List.{Contains}
use Rattle.log_node.specs.Vectors.{at}
use Rattle.col_core.specs.declared.Entry.{Entry}
use Rattle.col_core.specs.History.{entries, open_count, line}
use Rattle.col_core.specs.Keeping.{Kept}
use Rattle.script_text.specs.declared.script.Command.{Command}
use Rattle.lawful_run.specs.Asks.{may_help}
use Rattle.lawful_run.specs.Deeds.{manner_of}
use Rattle.lawful_run.specs.Lawful.{HasHelping}
use Rattle.wrong_reports.specs.Cases.{IsUnlawful, a, b, x, id, point}
use Rattle.wrong_reports.specs.Columns.{one_node}
use Rattle.wrong_reports.specs.Rows.{settles}
use Rattle.wrong_reports.specs.Helping.{helped_by_b}
use Rattle.wrong_reports.specs.Guarded.{beside_open, an_only_that_was_not_next, an_only_beside_an_open_entry}
use Rattle.wrong_reports.specs.Guarded.{a_moved_that_was_not, moved_to_another_length, moved_by_another_number}
use Rattle.wrong_reports.specs.Guarded.{moved_behind_what_was_seen, moved_beyond_the_events, an_append_told_moved}
use Rattle.wrong_reports.specs.Guarded.{one_who_appends_only_helps}
use Rattle.wrong_reports.proofs.Tools.{only, ends_with, column_at}
use Rattle.wrong_reports.proofs.Told.{two, stood_says}

pub not_next : IsUnlawful an_only_that_was_not_next
not_next run =
    let t = two run.log _ _ _ _ _ _ (run.clients 0 _ refl).explained in
    let k = ap (λ (k : Kept). at (k.starts 0) 0) (stood_says run.log _ _ _ _ _ _ _ _ _ _ _ t.first).1 in
    elim t.second.explained.1 [
      | inl m ↦ cc (m)
      | inr g ↦
          let n = g.1 0 (point x 1 1) (lit< tt) in
          let f : 1 ≡ 0 = n.3 ∙ k in
          omega (arith, f)
    ]

pub beside_one : IsUnlawful an_only_beside_an_open_entry
beside_one run = elim (only run.log _ _ _ _ (run.clients 0 _ refl).explained).explained.1 [
  | inl m ↦ cc (m)
  | inr g ↦
      let n = g.1 0 (point x 1 0) (lit< tt) in
      let place : n.0 ≡ 1 = (let at = n.1 in cc (at)) in
      let h = (column_at an_only_beside_an_open_entry run 0 beside_open refl).history in
      let f : 0 ≡ 1 = n.2.waiting_is ∙ ap (λ c. open_count (entries (take c (run.log.histories 0 0)))) place
      ∙ ap (λ (es : List Entry). open_count (entries (take 1 es))) (sym h) in
      omega (arith, f)
]

pub not_moved : IsUnlawful a_moved_that_was_not
not_moved run = elim (only run.log _ _ _ _ (run.clients 0 _ refl).explained).explained.4 [
  | inl waits ↦ waits refl
  | inr longer ↦ longer refl
]

pub another_length : IsUnlawful moved_to_another_length
another_length run =
    let t = two run.log _ _ _ _ _ _ (run.clients 0 _ refl).explained in
    let h = (column_at moved_to_another_length run 0 one_node refl).history in
    let f : 2 ≡ 1 = t.second.explained.3.lined_is ∙ ap (λ (es : List Entry). length (line (take 1 es))) (sym h) in
    omega (arith, f)

pub another_number : IsUnlawful moved_by_another_number
another_number run =
    let t = two run.log _ _ _ _ _ _ (run.clients 0 _ refl).explained in
    let h = (column_at moved_by_another_number run 0 one_node refl).history in
    let f : 1 ≡ 0 = t.second.explained.3.waiting_is ∙ ap (λ (es : List Entry). open_count (entries (take 1 es))) (sym h) in
    omega (arith, f)

pub behind_seen : IsUnlawful moved_behind_what_was_seen
behind_seen run =
    let last = ends_with run.log _ (_ ∷ _ ∷ []) (_ ∷ _ ∷ []) _ _ _ (run.clients 0 _ refl).explained in
    let t = two run.log _ _ _ _ _ _ last.before in
    let k = ap (λ (k : Kept). k.seen 0 0) (stood_says run.log _ _ _ _ _ _ _ _ _ _ _ t.second).1 in
    let u = last.last.explained.3.unseen in
    omega (arith, k, u)

pub beyond_events : IsUnlawful moved_beyond_the_events
beyond_events run =
    let t = two run.log _ _ _ _ _ _ (run.clients 0 _ refl).explained in
    let h = (column_at moved_beyond_the_events run 0 one_node refl).history in
    let there : 2 ≤ 1 = subst (λ (es : List Entry). 2 ≤ length es) (sym h) t.second.explained.3.there in
    omega (arith, there)

pub append_moved : IsUnlawful an_append_told_moved
append_moved run = let w = (only run.log _ _ _ _ (run.clients 0 _ refl).explained).explained.2 in cc (w)

only_appends : HasHelping one_who_appends_only_helps.script 1 → ⊥
only_appends (command, (zero, lt, same), helps) = let m =
    ap (λ (c : Command). may_help (manner_of c.what)) same in cc (m, helps)
only_appends (command, (suc k, lt, same), helps) = let f : ⊥ = omega (arith, lt) in f

abbrev help : Entry
help = settles b (id a 0) 1

pub helps_nobody : IsUnlawful one_who_appends_only_helps
helps_nobody run =
    let h = (column_at one_who_appends_only_helps run 0 (helped_by_b x) refl).history in
    let among = subst (λ (es : List Entry). Contains es help) h (1, lit< tt, refl) in
    only_appends (run.helpers 0 0 help (lit< tt) (lit< tt) among (λ i. let f : 0 ≡ 1 = i in cc (f))).0
