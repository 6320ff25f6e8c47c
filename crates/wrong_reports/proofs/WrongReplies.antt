-- One sync of an empty column.
use Rattle.std.proofs.Common.{◌≡◌, inl, inr, ℕ, ◌≤◌, List, [], length, refl, ap, sym, subst, arith}
use Rattle.std.specs.Prelude.{slice_index, slice_index_or}
use Rattle.log_node.specs.declared.ids.Counts.{Counts}
use Rattle.log_node.specs.Vectors.{at}
use Rattle.col_core.specs.declared.Entry.{Entry}
use Rattle.col_core.specs.Computed.{dated}
use Rattle.col_core.proofs.CallerLemmas.{cut-is_greatest, cut_unique}
use Rattle.script_text.specs.declared.commands.What.TheVariants.{Sync}
use Rattle.wrong_reports.specs.Cases.{IsUnlawful, asks, a, e, x, empty}
use Rattle.wrong_reports.specs.Replies.{a_missing_reply, a_wrong_line, a_wrong_word, a_wrong_name}
use Rattle.wrong_reports.specs.Replies.{another_commands_answer, more_plays_than_nodes, a_look_at_what_is_not_there}
use Rattle.wrong_reports.specs.Replies.{a_snapshot_of_what_is_not_there}
use Rattle.wrong_reports.proofs.Tools.{only, no_fewer, column_at}

pub missing_reply : IsUnlawful a_missing_reply
missing_reply run = no_fewer run.log _ [] (asks 6 a (Sync x)) _ (run.clients 0 _ refl).explained

pub wrong_line : IsUnlawful a_wrong_line
wrong_line run = let l = (only run.log _ _ _ _ (run.clients 0 _ refl).explained).line in cc (l)

pub wrong_word : IsUnlawful a_wrong_word
wrong_word run = let w = (only run.log _ _ _ _ (run.clients 0 _ refl).explained).word in cc (w)

pub wrong_name : IsUnlawful a_wrong_name
wrong_name run = let n = run.names in
    let f : 98 ≡ 97 = ap (λ (names : List (List ℕ)). slice_index (slice_index_or names 0 []) 0) n in omega (arith, f)

pub another_answer : IsUnlawful another_commands_answer
another_answer run = elim (only run.log _ _ _ _ (run.clients 0 _ refl).explained).explained.1 [
  | inl m ↦ cc (m)
  | inr g ↦ let m = g.0 in cc (m)
]

pub more_plays : IsUnlawful more_plays_than_nodes
more_plays run = let p = (only run.log _ _ _ _ (run.clients 0 _ refl).explained).explained.1 in cc (p)

pub look_beyond : IsUnlawful a_look_at_what_is_not_there
look_beyond run =
    let t = (only run.log _ _ _ _ (run.clients 0 _ refl).explained).explained.2.there in
    let h = (column_at a_look_at_what_is_not_there run 0 (empty e x) refl).history in
    let t0 : 1 ≤ 0 = subst (λ (es : List Entry). 1 ≤ length es) (sym h) t in
    omega (arith, t0)

pub snapshot_beyond : IsUnlawful a_snapshot_of_what_is_not_there
snapshot_beyond run =
    let g = (only run.log _ _ _ _ (run.clients 0 _ refl).explained).explained.2.cut in
    let h = cut_unique _ _ _ g (cut-is_greatest 0 (dated 0 [])) in
    let f : 1 ≡ 0 = ap (λ (v : Counts). at v 0) h in omega (arith, f)
