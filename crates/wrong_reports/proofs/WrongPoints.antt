-- Appends that tell a wrong place.
use Rattle.std.proofs.Common.{◌≡◌, ℕ, List, [], ◌∷◌, length, refl, ap, sym}
use Rattle.std.proofs.Common.{◌∙◌, arith, lit<, slice_get}
use Rattle.log_node.specs.declared.ids.Id.{Id}
use Rattle.log_node.specs.declared.ids.Counts.{Counts}
use Rattle.log_node.specs.declared.ids.Colours.{Colours}
use Rattle.log_node.specs.Sets.{members}
use Rattle.log_node.specs.declared.marks.Outcome.{Outcome}
use Rattle.col_core.specs.declared.Event.TheVariants.{Propose, Settle}
use Rattle.col_core.specs.declared.Entry.{Entry}
use Rattle.col_core.specs.Keeping.{Kept}
use Rattle.wrong_reports.specs.Cases.{IsUnlawful, a, b, e, x, id, proposes, point}
use Rattle.wrong_reports.specs.Rows.{settles, complete}
use Rattle.wrong_reports.specs.Points.{an_append_in_another_colour, a_single_told_as_a_look, point_seen}
use Rattle.wrong_reports.specs.Points.{an_append_that_shows_a_node, an_append_of_what_was_seen}
use Rattle.wrong_reports.specs.Points.{a_row_that_is_not_told, a_settling_told_as_the_proposal, proposed_by_b}
use Rattle.wrong_reports.specs.Points.{anothers_proposal_told_as_its_own, a_look_before_the_proposal}
use Rattle.wrong_reports.specs.Points.{a_point_beyond_the_events, a_proposal_that_was_seen}
use Rattle.wrong_reports.specs.Points.{a_point_behind_what_was_seen}
use Rattle.wrong_reports.proofs.Tools.{only, column_at, some_same}
use Rattle.wrong_reports.proofs.Told.{two, stood_says, several_says}
use Rattle.wrong_reports.proofs.WrongMoves.{pull_says}

pub another_colour : IsUnlawful an_append_in_another_colour
another_colour run =
    let said = (only run.log _ _ _ _ (run.clients 0 _ refl).explained).explained.2 in
    let is : members said.0 ≡ 1 ∷ [] = said.3.0 in
    let f : 0 ∷ [] ≡ 1 ∷ [] = ap (λ (cs : Colours). members cs) (sym said.2.0) ∙ is in
    cc (f)

pub told_as_look : IsUnlawful a_single_told_as_a_look
told_as_look run =
    let at = (only run.log _ _ _ _ (run.clients 0 _ refl).explained).explained.2.3.2 in
    cc (at)

pub shows_node : IsUnlawful an_append_that_shows_a_node
shows_node run =
    let none = (only run.log _ _ _ _ (run.clients 0 _ refl).explained).explained.0 in
    cc (none)

pub single_seen : IsUnlawful an_append_of_what_was_seen
single_seen run =
    let t = two run.log _ _ _ _ _ _ (run.clients 0 _ refl).explained in
    let k = ap (λ (k : Kept). k.seen 0 0) (pull_says run.log _ _ _ _ _ _ _ _ _ t.first).after_is in
    let u = (stood_says run.log _ _ _ _ _ _ _ _ _ _ _ t.second).0.unseen in
    omega (arith, k, u)

pub no_row_told : IsUnlawful a_row_that_is_not_told
no_row_told run = (only run.log _ _ _ _ (run.clients 0 _ refl).explained).explained.2.3

settle_is : (i j : Id) (last : Outcome) (floor : ℕ) (wants : Counts) → Settle i last ≡ Propose j floor wants → ⊥
settle_is i j last floor wants e = cc (e)

pub settling_told : IsUnlawful a_settling_told_as_the_proposal
settling_told run =
    let s = only run.log _ _ _ _ (run.clients 0 _ refl).explained in
    let p = ((several_says run.log _ _ _ _ _ _ _ _ _ _ s).2.each 0 (point x 1 0) (lit< tt)).entered in
    let h = (column_at a_settling_told_as_the_proposal run 0 (complete x) refl).history in
    let same = some_same (settles a (id a 0) 1) p.1 (ap (λ (es : List Entry). slice_get es 1) h ∙ p.2) in
    settle_is _ _ _ _ _ (ap (λ (en : Entry). en.event) same ∙ p.4)

pub anothers_proposal : IsUnlawful anothers_proposal_told_as_its_own
anothers_proposal run =
    let s = only run.log _ _ _ _ (run.clients 0 _ refl).explained in
    let p = ((several_says run.log _ _ _ _ _ _ _ _ _ _ s).2.each 0 (point x 0 0) (lit< tt)).entered in
    let h = (column_at anothers_proposal_told_as_its_own run 0 proposed_by_b refl).history in
    let same = some_same (proposes b (id a 0) 0 1) p.1 (ap (λ (es : List Entry). slice_get es 0) h ∙ p.2) in
    let f : 1 ≡ 0 = ap (λ (en : Entry). en.by) same ∙ p.3 in
    omega (arith, f)

pub before_proposal : IsUnlawful a_look_before_the_proposal
before_proposal run =
    let s = only run.log _ _ _ _ (run.clients 0 _ refl).explained in
    let l = ((several_says run.log _ _ _ _ _ _ _ _ _ _ s).2.each 0 (point_seen x 0 0) (lit< tt)).entered.3 in
    omega (arith, l)

pub beyond_events : IsUnlawful a_point_beyond_the_events
beyond_events run =
    let s = only run.log _ _ _ _ (run.clients 0 _ refl).explained in
    let l = ((several_says run.log _ _ _ _ _ _ _ _ _ _ s).2.each 0 (point_seen x 3 0) (lit< tt)).entered.1 in
    let h = (column_at a_point_beyond_the_events run 0 proposed_by_b refl).history in
    let n : 2 ≡ length (run.log.histories 0 0) = ap (λ (es : List Entry). length es) h in
    omega (arith, l, n)

pub proposal_seen : IsUnlawful a_proposal_that_was_seen
proposal_seen run =
    let t = two run.log _ _ _ _ _ _ (run.clients 0 _ refl).explained in
    let k = ap (λ (k : Kept). k.seen 0 0) (pull_says run.log _ _ _ _ _ _ _ _ _ t.first).after_is in
    let u = ((several_says run.log _ _ _ _ _ _ _ _ _ _ t.second).2.each 0 (point x 0 0) (lit< tt)).entered.0 in
    omega (arith, k, u)

pub point_behind : IsUnlawful a_point_behind_what_was_seen
point_behind run =
    let t = two run.log _ _ _ _ _ _ (run.clients 0 _ refl).explained in
    let k = ap (λ (k : Kept). k.seen 0 0) (pull_says run.log _ _ _ _ _ _ _ _ _ t.first).after_is in
    let u = ((several_says run.log _ _ _ _ _ _ _ _ _ _ t.second).2.each 0 (point_seen x 1 0) (lit< tt)).entered.0 in
    omega (arith, k, u)
