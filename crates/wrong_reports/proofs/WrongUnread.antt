-- Reads of several keys that are wrong, and dequeues and commits that are told unread.
use Rattle.std.proofs.Common.{◌≡◌, inl, inr, ℕ, zero, suc, List, [], ◌∷◌, length, Some, None, refl, ap, sym, subst, ◌∙◌}
use Rattle.std.proofs.Common.{arith, codes, lit<, ◌++◌, slice_get}
use Rattle.std.specs.Prelude.{IsFalse, map}
use Rattle.std.specs.List.{All, Contains}
use Rattle.log_node.specs.Vectors.{is_within, zeros}
use Rattle.log_node.specs.declared.node.Node.{Node}
use Rattle.log_node.specs.declared.forms.Version.{Version}
use Rattle.log_node.specs.Sets.{members}
use Rattle.object_fold.specs.Maps.{values_among}
use Rattle.object_fold.specs.Transactions.{values_after, versions_after}
use Rattle.col_core.specs.declared.Entry.{Entry}
use Rattle.col_core.specs.Log.{Log}
use Rattle.col_core.specs.History.{line}
use Rattle.col_core.specs.Appending.{StandsUnder}
use Rattle.col_core.specs.Keeping.{Kept, nothing_kept, with_read}
use Rattle.script_text.specs.declared.commands.What.TheVariants as whats
use Rattle.lawful_run.specs.Callers.{Caller, caller_of}
use Rattle.lawful_run.specs.Asks.{colours_of_object, shards}
use Rattle.lawful_run.specs.Objects.{AreObjectNodes}
use Rattle.lawful_run.specs.Appends.{AppendsUnshown, one_unshown, several_unshown}
use Rattle.wrong_reports.specs.Cases.{IsUnlawful, a, id, counts, enters}
use Rattle.wrong_reports.specs.Naming.{one_node}
use Rattle.wrong_reports.specs.Objects.{one_pair, many_values_of_nothing, a_read_of_nothing, unread_where_nothing_is_trimmed}
use Rattle.wrong_reports.specs.Objects.{unread_for_another_colour, unread_under_another_stamp}
use Rattle.wrong_reports.specs.Objects.{unread_before_it_is_settled}
use Rattle.wrong_reports.specs.Rows.{proposed}
use Rattle.wrong_reports.proofs.Tools.{only, ends_with, column_at, some_same, none_there, versions_named}
use Rattle.wrong_reports.proofs.Told.{two}
use Rattle.wrong_reports.proofs.WrongObjects.{no_nodes, same_asked}
use Rattle.wrong_reports.proofs.WrongVerdict.{none_read}

-- SEVERAL KEYS
same_read : (object other : ℕ) (keys more : List (List ℕ))
    → whats.Read object keys ≡ whats.Read other more → keys ≡ more
same_read object other keys more e = cc (e)

pub many_values : IsUnlawful many_values_of_nothing
many_values run =
    let said = (only run.log _ _ _ _ (run.clients 0 _ refl).explained).explained in
    let keys = none_read 0 said.2.1 said.2.2 in
    let nodes = no_nodes run.log said.2.3 (subst (λ ks. AreObjectNodes run.log ks said.2.3)
    keys said.2.4) in
    elim said.2.5 [
      | inl f ↦
          let asked = same_asked _ _ _ _ f.2 in
          let v : Some (codes "v") ∷ [] ≡ None ∷ [] = f.3.values_are
          ∙ ap (λ ns. values_among (colours_of_object (caller_of many_values_of_nothing.script 0) f.0) ns f.1) nodes
          ∙ ap (λ ks. values_among (colours_of_object (caller_of many_values_of_nothing.script 0) f.0) [] ks) (sym asked) in
          cc (v)
      | inr f ↦ let w = f.2 in cc (w)
    ]

pub read_value : IsUnlawful a_read_of_nothing
read_value run =
    let said = (only run.log _ _ _ _ (run.clients 0 _ refl).explained).explained in
    let keys = none_read 0 said.2.1 said.2.2 in
    let nodes = no_nodes run.log said.2.3 (subst (λ ks. AreObjectNodes run.log ks said.2.3)
    keys said.2.4) in
    elim said.2.5 [
      | inl f ↦ let w = f.2 in cc (w)
      | inr f ↦
          let asked = same_read _ _ _ _ f.2 in
          let v : Some (codes "v") ∷ [] ≡ None ∷ [] = f.3.values_are ∙ ap (λ ns. values_after ns f.1) nodes
          ∙ ap (λ ks. values_after [] ks) (sym asked) in
          cc (v)
    ]

-- DEQUEUES
-- an append leaves the start
start_stays : (log : Log) (caller : Caller) (node : Node) (stamp : ℕ) (after : Kept)
    → AppendsUnshown log caller nothing_kept node stamp after → zeros ≡ after.starts 0
start_stays log caller node stamp after (one_unshown colour place position is appends) = refl
start_stays log caller node stamp after (several_unshown places begins outcome stand above) = refl

pub nothing_trimmed : IsUnlawful unread_where_nothing_is_trimmed
nothing_trimmed run =
    let said = (only run.log _ _ _ _ (run.clients 0 _ refl).explained).explained.2.3 in
    let t = subst (λ v. IsFalse (is_within (counts 0 0) v)) (sym (start_stays run.log _ _ _ _ said.1)) said.2.1.below in
    cc (t)

pub other_colour : IsUnlawful unread_for_another_colour
other_colour run = by (only run.log _ _ _ _ (run.clients 0 _ refl).explained).explained.2.3.2.0 where
  by : Contains {X = ℕ} (0 ∷ []) 1 → ⊥
  by (zero, lt, same) = omega (arith, same)
  by (suc k, lt, same) = let f : ⊥ = omega (arith, lt) in f

-- a node of one colour that entered the column of one node
stands_under : (log : Log) (caller : Caller) (node : Node) (stamp : ℕ) (after : Kept) → caller.own ≡ 0
    → one_node.journal ≡ log.histories 0 0 → members node.colours ≡ 0 ∷ []
    → AppendsUnshown log caller nothing_kept node stamp after → stamp ≡ 1
stands_under log caller node stamp after own h of_x (one_unshown colour place position is appends) =
    let c : colour ≡ 0 = (let l : colour ∷ [] ≡ 0 ∷ [] = sym is ∙ of_x in cc (l)) in
    let there = ap (λ (es : List Entry). slice_get es place) h ∙ ap (λ r. slice_get (log.histories r 0) place) (sym own)
    ∙ ap (λ c. slice_get (log.histories caller.own c) place) (sym c) ∙ appends.entered in
    by place _ there where
      by : (place : ℕ) (en : Entry) → slice_get one_node.journal place ≡ Some en → en.stamp ≡ 1
      by zero en there = ap (λ (en : Entry). en.stamp) (sym (some_same (enters a (id a 0) 0 1) en there))
      by (suc place) en there = absurd (none_there en there)
stands_under log caller node stamp after own h of_x (several_unshown places begins outcome stand above) =
    let s = begins.several in
    let l = ap (λ (cs : List ℕ). length cs) of_x in
    absurd (omega (arith, s, l))

pub other_stamp : IsUnlawful unread_under_another_stamp
other_stamp run =
    let said = (only run.log _ _ _ _ (run.clients 0 _ refl).explained).explained.2 in
    let h = (column_at unread_under_another_stamp run 0 one_node refl).history in
    let f : 2 ≡ 1 = stands_under run.log _ _ _ _ refl h said.2.0 said.3.1 in
    omega (arith, f)

-- COMMITS
same_object : (object other : ℕ) (keys more : List (List ℕ))
    → whats.Read object keys ≡ whats.Read other more → object ≡ other
same_object object other keys more e = cc (e)

-- a node that was proposed and not settled stands nowhere
stands_nowhere : (log : Log) (caller : Caller) (kept : Kept) (node : Node) (stamp : ℕ) (after : Kept)
    → (proposed 0).journal ≡ log.histories caller.own 0 → members node.colours ≡ 0 ∷ 1 ∷ []
    → AppendsUnshown log caller kept node stamp after → ⊥
stands_nowhere log caller kept node stamp after h of_both (one_unshown colour place position is appends) =
    let l : colour ∷ [] ≡ 0 ∷ 1 ∷ [] = sym is ∙ of_both in
    cc (l)
stands_nowhere log caller kept node stamp after h of_both (several_unshown places begins outcome stand above) =
    let P : ℕ → Type 0 = λ colour. (position : ℕ) × StandsUnder (log.histories caller.own colour) node stamp position in
    let s = subst (All P) of_both stand 0 0 (lit< tt) in
    none_there _ (ap (λ (es : List Entry). slice_get (line es) s.0) h ∙ s.1)

pub not_settled : IsUnlawful unread_before_it_is_settled
not_settled run =
    let last = ends_with run.log _ (_ ∷ _ ∷ []) (_ ∷ _ ∷ []) _ _ _ (run.clients 0 _ refl).explained in
    let t = two run.log _ _ _ _ _ _ last.before in
    let said = t.second.explained.2 in
    let h = (column_at unread_before_it_is_settled run 0 (proposed 0) refl).history in
    elim t.first.explained.2.5 [
      | inl f ↦ let w = f.2 in cc (w)
      | inr f ↦
          let objects = t.first.explained.2.3 in
          let reads = ap (λ (k : Kept). k.reads 0) (t.first.after_is ∙ f.4
          ∙ ap (λ o. with_read t.first.explained.1 o (Some (versions_after objects f.1)))
          (sym (same_object _ _ _ _ f.2))) in
          let named = versions_named (caller_of unread_before_it_is_settled.script 0) t.kept 0 one_pair said.0 said.1 said.2 in
          let versions : versions_after objects f.1 ≡ named.0 = some_same _ _ (sym reads ∙ named.1) in
          let asked : codes "j" ∷ [] ≡ f.1 = same_read _ _ _ _ f.2 in
          let are = ap (λ ks. versions_after objects ks) asked ∙ versions in
          let both : members said.0 ≡ 0 ∷ 1 ∷ [] = named.2
          ∙ ap (λ vs. shards (0 ∷ 1 ∷ []) (map (λ (v : Version). v.key) vs ++ codes "k" ∷ [])) (sym are) in
          stands_nowhere run.log _ _ _ _ _ h both said.3.1
    ]
