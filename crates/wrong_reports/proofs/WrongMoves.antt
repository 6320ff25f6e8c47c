-- Pulls, trims and syncs that are wrong.
use Rattle.std.proofs.Common.{◌≡◌, ℕ, zero, suc, List, [], ◌∷◌, ◌++◌, length, take, refl, ap, sym}
use Rattle.std.proofs.Common.{subst, ◌∙◌, arith, lit<, slice_get}
use Rattle.std.specs.List.{All, Contains}
use Rattle.log_node.specs.declared.ids.Counts.{Counts}
use Rattle.log_node.specs.declared.node.At.{At}
use Rattle.log_node.specs.declared.node.Head.{Head}
use Rattle.log_node.specs.Vectors.{at, IsWithin, zeros}
use Rattle.col_core.specs.declared.Event.TheVariants as made
use Rattle.col_core.specs.declared.Entry.{Entry}
use Rattle.col_core.specs.History.{line}
use Rattle.col_core.specs.Cuts.{chain, base}
use Rattle.col_core.specs.Computed.{dated}
use Rattle.col_core.specs.Log.{Log, first, places_of}
use Rattle.col_core.specs.Keeping.{Kept}
use Rattle.script_text.specs.declared.commands.What.TheVariants as whats
use Rattle.lawful_run.specs.Callers.{Caller, caller_of}
use Rattle.lawful_run.specs.Moves.{Pulls, GivesTooLow, kept_after_pull}
use Rattle.lawful_run.specs.Explains.{Answers}
use Rattle.wrong_reports.specs.Cases.{IsUnlawful, a, e, counts, asks}
use Rattle.wrong_reports.specs.Naming.{trim, trimmed}
use Rattle.wrong_reports.specs.Moves.{a_base_that_is_not_there, a_trim_beyond_the_snapshot, trimmed_where_nothing_is}
use Rattle.wrong_reports.specs.Moves.{pulled, given_from, carried_one, another_region_taken_for_its_own}
use Rattle.wrong_reports.specs.Moves.{a_pull_that_leaves_a_node, a_pull_of_more_nodes, a_pull_that_asks_again}
use Rattle.wrong_reports.specs.Moves.{a_sync_of_what_was_trimmed, a_pull_that_gives_twice, trimmed_in_another_colour}
use Rattle.wrong_reports.specs.Moves.{a_give_of_more_than_was_held}
use Rattle.wrong_reports.proofs.Tools.{only, same_end, column_at, some_same}
use Rattle.wrong_reports.proofs.Told.{two, trim_says}

pub base_not_there : IsUnlawful a_base_that_is_not_there
base_not_there run =
    let t = (trim_says run.log _ _ _ _ _ _ _ _ (only run.log _ _ _ _ (run.clients 0 _ refl).explained)).0.is_base in
    let h = (column_at a_base_that_is_not_there run 0 (trimmed (trim ∷ [])) refl).history in
    let f : 1 ≡ 0 = ap (λ (v : Counts). at v 0) (t
    ∙ ap (λ (es : List Entry). base 0 1 (dated 0 (take 1 es))) (sym h)) in
    omega (arith, f)

pub trim_counts : (one other : Counts) → made.Trim one ≡ made.Trim other → one ≡ other
trim_counts one other e = cc (e)

pub beyond_snapshot : IsUnlawful a_trim_beyond_the_snapshot
beyond_snapshot run =
    let t = (trim_says run.log _ _ _ _ _ _ _ _ (only run.log _ _ _ _ (run.clients 0 _ refl).explained)).0.trimmed in
    let h = (column_at a_trim_beyond_the_snapshot run 0 _ refl).history in
    let same = some_same (record {
      by = 0;
      event = made.Trim (counts 1 0);
      stamp =
          0;
    }) _ (ap (λ (es : List Entry). slice_get es 0) h ∙ t) in
    let c = trim_counts _ _ (ap (λ (en : Entry). en.event) same) in
    let f : 1 ≡ 0 = ap (λ (v : Counts). at v 0) c in
    omega (arith, f)

pub nothing_trimmed : IsUnlawful trimmed_where_nothing_is
nothing_trimmed run =
    let t = (only run.log _ _ _ _ (run.clients 0 _ refl).explained).explained.2.1.below in
    cc (t)

-- PULLS
-- a pull of another region in x
pub record Pulled (log : Log) (caller : Caller) (kept after : Kept) (region nodes place : ℕ) (carry : At) : Type 0 where
  pub too_low : List ℕ
  pub says : Pulls log caller kept region 0 nodes place carry too_low
  pub after_is : after ≡ kept_after_pull kept caller.own region 0 place carry too_low

pub pull_says : (log : Log) (caller : Caller) (kept after : Kept) (line client region nodes place : ℕ) (carry : At)
    → Answers log caller kept (asks line client (whats.Pull region 0)) (pulled line nodes place carry) after
    → Pulled log caller kept after region nodes place carry
pull_says log caller kept after line client region nodes place carry a =
    let said = a.explained in
    let r : said.1 ≡ region = (let w = said.3 in cc (w)) in
    let c : said.2 ≡ 0 = (let w = said.3 in cc (w)) in
    let p : said.4 ≡ place = (let g = said.5 in cc (g)) in
    record {
      too_low = said.6;
      says = subst (λ p. Pulls log caller kept region 0 nodes p carry said.6) p
          (subst (λ c. Pulls log caller kept region c nodes said.4 carry said.6) c
          (subst (λ r. Pulls log caller kept r said.2 nodes said.4 carry said.6) r said.7));
      after_is = a.after_is ∙ said.8 ∙ ap (λ r. kept_after_pull kept caller.own r said.2 said.4 carry said.6) r
          ∙ ap (λ c. kept_after_pull kept caller.own region c said.4 carry said.6) c
          ∙ ap (λ p. kept_after_pull kept caller.own region 0 p carry said.6) p;
    }

pub its_own : IsUnlawful another_region_taken_for_its_own
its_own run =
    let s = (only run.log _ _ _ _ (run.clients 1 _ refl).explained).explained.3 in
    cc (s)

pub leaves_a_node : IsUnlawful a_pull_that_leaves_a_node
leaves_a_node run =
    let p = (pull_says run.log _ _ _ _ _ _ _ _ _ (only run.log _ _ _ _ (run.clients 1 _ refl).explained)).says.holds in
    let h = (column_at a_pull_that_leaves_a_node run 0 _ refl).history in
    let n : 1 ≡ length (line (take 1 (run.log.histories 0 0))) =
    ap (λ (es : List Entry). length (line (take 1 es))) h in
    omega (arith, p, n)

pub more_carried : IsUnlawful a_pull_of_more_nodes
more_carried run =
    let c = (pull_says run.log _ _ _ _ _ _ _ _ _ (only run.log _ _ _ _
    (run.clients 1 _ refl).explained)).says.carries in
    let h = (column_at a_pull_of_more_nodes run 1 _ refl).history in
    let same = some_same carried_one _ (ap (λ (es : List Entry). slice_get es 0) h ∙ c.3) in
    let heads = carried_heads _ _ _ _ _ _ (ap (λ (en : Entry). en.event) same) in
    let f : 1 ≡ length c.2 = ap (λ (hs : List Head). length hs) heads in
    let g = c.4 in
    omega (arith, f, g) where
      carried_heads : (r s i j : ℕ) (hs gs : List Head) → made.Carry r i hs ≡ made.Carry s j gs → hs ≡ gs
      carried_heads r s i j hs gs e = cc (e)

pub given_number : (r s from other : ℕ) → made.Give r from ≡ made.Give s other → from ≡ other
given_number r s from other e = cc (e)

pub asks_again : IsUnlawful a_pull_that_asks_again
asks_again run =
    let t = two run.log _ _ _ _ _ _ (run.clients 1 _ refl).explained in
    let k = ap (λ (k : Kept). k.seen 1 0) (pull_says run.log _ _ _ _ _ _ _ _ _ t.first).after_is in
    let p = (pull_says run.log _ _ _ _ _ _ _ _ _ t.second).says in
    let of_e = (column_at a_pull_that_asks_again run 0 _ refl).history in
    let of_w = (column_at a_pull_that_asks_again run 1 _ refl).history in
    let same = some_same (given_from 0) _ (ap (λ (es : List Entry). slice_get es 2) of_e ∙ p.gives) in
    let from : 0 ≡ p.from = given_number _ _ _ _ (ap (λ (en : Entry). en.event) same) in
    let l : 1 ≡ length (line (take 2 (run.log.histories 0 0))) =
    ap (λ (es : List Entry). length (line (take 2 es))) of_e in
    let asks = p.asks in
    let seen = asks.1 in
    let until = asks.2 in
    let looked : asks.0 ≡ 1 = omega (arith, k, seen, until) in
    let m : length (chain 1 (first run.log 1 0 asks.0) 0) ≡ 1 =
    ap (λ n. length (chain 1 (first run.log 1 0 n) 0)) looked
    ∙ ap (λ (es : List Entry). length (chain 1 (dated 1 (take 1 es)) 0)) (sym of_w) in
    let is = asks.3 in
    omega (arith, from, l, m, is)

-- the client b of w asks for one node when it has none
pub more_than_held : IsUnlawful a_give_of_more_than_was_held
more_than_held run =
    let p = (pull_says run.log _ _ _ _ _ _ _ _ _ (only run.log _ _ _ _ (run.clients 1 _ refl).explained)).says in
    let of_e = (column_at a_give_of_more_than_was_held run 0 _ refl).history in
    let same = some_same (given_from 1) _ (ap (λ (es : List Entry). slice_get es 1) of_e ∙ p.gives) in
    let from : 1 ≡ p.from = given_number _ _ _ _ (ap (λ (en : Entry). en.event) same) in
    let asks = p.asks in
    let until = asks.2 in
    let looked : asks.0 ≡ 0 = omega (arith, until) in
    let none : length (chain 1 (first run.log 1 0 asks.0) 0) ≡ 0 =
    ap (λ n. length (chain 1 (first run.log 1 0 n) 0)) looked in
    let is = asks.3 in
    omega (arith, from, none, is)

pub trimmed_away : IsUnlawful a_sync_of_what_was_trimmed
trimmed_away run =
    let s = (only run.log _ _ _ _ (run.clients 1 _ refl).explained).explained.2.not_trimmed in
    let h = (column_at a_sync_of_what_was_trimmed run 0 _ refl).history in
    let f = subst (λ (es : List Entry). IsWithin (base 0 1 (dated 0 (take 2 es))) zeros) (sym h) s in
    cc (f)

pub gives_twice : IsUnlawful a_pull_that_gives_twice
gives_twice run =
    let client = run.clients 1 _ refl in
    let p = pull_says run.log _ _ _ _ _ _ _ _ _ (only run.log _ _ _ _ client.explained) in
    let h = (column_at a_pull_that_gives_twice run 0 _ refl).history in
    let made = client.made 0 0 (lit< tt) (lit< tt) in
    let places : 1 ∷ 2 ∷ [] ≡ p.too_low ++ 2 ∷ [] = ap (places_of 1) h ∙ made
    ∙ ap (λ (k : Kept). k.made 0 0) p.after_is in
    let low : 1 ∷ [] ≡ p.too_low = (same_end (1 ∷ []) p.too_low 2 2 places).0 in
    let caller = caller_of a_pull_that_gives_twice.script 1 in
    let again = (subst (All (GivesTooLow run.log caller 0 0 0 0)) (sym low) p.says.made_again 0 1 (lit< tt)).3 in
    let none : at (base 0 2 (first run.log 0 0 1)) 0 ≡ 0 =
    ap (λ (es : List Entry). at (base 0 2 (dated 0 (take 1 es))) 0) (sym h) in
    omega (arith, again, none)

pub other_colour : IsUnlawful trimmed_in_another_colour
other_colour run = by (only run.log _ _ _ _ (run.clients 0 _ refl).explained).explained.2.0 where
  by : Contains {X = ℕ} (0 ∷ []) 1 → ⊥
  by (zero, lt, same) = omega (arith, same)
  by (suc k, lt, same) = let f : ⊥ = omega (arith, lt) in f
