-- A commit that is told another verdict.
use Rattle.std.proofs.Common.{◌≡◌, inl, inr, ℕ, zero, suc, ◌<◌, List, [], ◌∷◌, length, take, Some, None, refl, ap}
use Rattle.std.proofs.Common.{sym, subst, ◌∙◌, arith, lit<, lit≤, slice_get, codes}
use Rattle.std.specs.Prelude.{IsTrue}
use Rattle.std.specs.List.{Contains}
use Rattle.log_node.specs.declared.ids.Key.{Key}
use Rattle.log_node.specs.declared.ids.Colours.{Colours}
use Rattle.log_node.specs.declared.node.Node.{Node}
use Rattle.log_node.specs.declared.forms.Version.{Version}
use Rattle.log_node.specs.declared.forms.Form.TheVariants as forms
use Rattle.log_node.specs.Order.{key_below}
use Rattle.object_form.specs.Forms.{form_text}
use Rattle.object_fold.specs.declared.verdict.Verdict.TheVariants.{Committed, Conflict}
use Rattle.object_fold.specs.Nodes.{ObjectNode}
use Rattle.object_fold.specs.Transactions.{versions_after, verdict_of}
use Rattle.col_core.specs.declared.Entry.{Entry}
use Rattle.col_core.specs.History.{line, entry_key}
use Rattle.col_core.specs.RegionOrder.{IsRegionOrder}
use Rattle.col_core.specs.Log.{Log}
use Rattle.col_core.specs.Keeping.{Kept, with_read}
use Rattle.script_text.specs.declared.commands.What.TheVariants as whats
use Rattle.lawful_run.specs.Callers.{caller_of}
use Rattle.lawful_run.specs.Objects.{AreObjectNodes, IsObjectNode}
use Rattle.lawful_run.specs.Lawful.{LawfulRun}
use Rattle.wrong_reports.specs.Cases.{IsUnlawful, a, id, key, asks, enters}
use Rattle.wrong_reports.specs.Naming.{one_node}
use Rattle.wrong_reports.specs.Objects.{one_pair, read_at, conflicts, a_conflict_with_nothing}
use Rattle.wrong_reports.proofs.Tools.{column_at, some_same, versions_named}
use Rattle.wrong_reports.proofs.Told.{Two, two}

abbrev pub the_key : Key
the_key = key 1 (id a 0)

-- nothing is read of empty lines
pub read_nothing : (lines : List (List Key)) → ((l : List Key) (k : Key) → Contains lines l → Contains l k → ⊥)
    → (stamp : ℕ) (keys : List Key) → IsRegionOrder lines stamp keys → keys ≡ []
read_nothing lines empty stamp [] order = refl
read_nothing lines empty stamp (k ∷ keys) order =
    let other = order.no_other k (0, (let l : 0 < length (k ∷ keys) = omega arith in l), refl) in
    absurd (empty other.1 k other.2 other.3)

-- an empty line has no key
pub in_none : (k : Key) → Contains [] k → ⊥
in_none k among = let f = among.1 in omega (arith, f)

pub none_read : (stamp : ℕ) (keys : List Key) → IsRegionOrder ([] ∷ []) stamp keys → keys ≡ []
none_read = read_nothing ([] ∷ []) empty where
  empty : (l : List Key) (k : Key) → Contains ([] ∷ []) l → Contains l k → ⊥
  empty l k (zero, lt, same) among = in_none k (subst (λ (l : List Key). Contains l k) (sym same) among)
  empty l k (suc n, lt, same) among = let f : ⊥ = omega (arith, lt) in f

-- what is read of lines that have one key alone
pub read_alone : (lines : List (List Key)) → Contains lines (the_key ∷ [])
    → ((k : Key) (l : List Key) → Contains lines l → Contains l k → k ≡ the_key)
    → (keys : List Key) → IsRegionOrder lines 1 keys → keys ≡ the_key ∷ []
read_alone lines has alone [] order =
    absurd (let c = order.all (the_key ∷ []) the_key has (0, lit< tt, refl) (lit≤ tt) in let l = c.1 in omega (arith, l))
read_alone lines has alone (k ∷ []) order =
    let o = order.no_other k (0, lit< tt, refl) in
    ap (λ (k : Key). k ∷ []) (alone k o.1 o.2 o.3)
read_alone lines has alone (k ∷ l ∷ keys) order =
    let o = order.no_other k (0, (let f : 0 < length (k ∷ l ∷ keys) = omega arith in f), refl) in
    let p = order.no_other l (1, (let f : 1 < length (k ∷ l ∷ keys) = omega arith in f), refl) in
    let below = order.rising 0 1 k (lit< tt) (let f : 1 < length (k ∷ l ∷ keys) = omega arith in f) in
    let first = subst (λ (k : Key). IsTrue (key_below k l)) (alone k o.1 o.2 o.3) below in
    let second = subst (λ (l : Key). IsTrue (key_below the_key l)) (alone l p.1 p.2 p.3) first in
    absurd (let f : ⊥ = cc (second) in f)

-- of a line with it
pub in_alone : (k : Key) → Contains (the_key ∷ []) k → k ≡ the_key
in_alone k (zero, lt, same) = sym same
in_alone k (suc n, lt, same) = absurd (let f : ⊥ = omega (arith, lt) in f)

pub one_read : (keys : List Key) → IsRegionOrder ((the_key ∷ []) ∷ []) 1 keys → keys ≡ the_key ∷ []
one_read = read_alone ((the_key ∷ []) ∷ []) (0, lit< tt, refl) alone where
  alone : (k : Key) (l : List Key) → Contains ((the_key ∷ []) ∷ []) l → Contains l k → k ≡ the_key
  alone k l (zero, lt, same) among = in_alone k (subst (λ (l : List Key). Contains l k) (sym same) among)
  alone k l (suc n, lt, same) among = absurd (let f : ⊥ = omega (arith, lt) in f)

abbrev the_text : List ℕ
the_text = codes "t:k@-|k=v"

abbrev the_version : Version
the_version = record { key = codes "k"; writer = None }

pub node_is : (n : ObjectNode) (k : Key) (text : List ℕ) → n.key ≡ k → n.text ≡ text
    → n ≡ record { key = k; colours = n.colours; text = text }
node_is n k text e f =
    ap (λ k. record { key = k; colours = n.colours; text = n.text }) e
    ∙ ap (λ t. record { key = k; colours = n.colours; text = t }) f

-- with nothing before it the transaction commits
commits : (c : Colours)
    → verdict_of (record { key = the_key; colours = c; text = the_text } ∷ []) the_key ≡ Some (Committed 1)
commits c = refl

pub same_read : (object other : ℕ) (keys more : List (List ℕ)) → whats.Read object keys ≡ whats.Read other more
    → (object ≡ other) × (keys ≡ more)
same_read object other keys more e = (cc (e), cc (e))

no_nodes : (log : Log) (keys : List Key) (nodes : List ObjectNode) → keys ≡ []
    → AreObjectNodes log keys nodes → nodes ≡ []
no_nodes log [] [] is z = refl
no_nodes log [] (n ∷ ns) is z = absurd z
no_nodes log (k ∷ ks) nodes is z = absurd (let f : ⊥ = cc (is) in f)

pub one_object : (log : Log) (keys : List Key) (nodes : List ObjectNode) → keys ≡ the_key ∷ []
    → AreObjectNodes log keys nodes
    → (n : ObjectNode) × IsObjectNode log the_key n × (nodes ≡ n ∷ [])
one_object log keys nodes is z = by nodes (subst (λ (ks : List Key). AreObjectNodes log ks nodes) is z) where
  by : (nodes : List ObjectNode) → AreObjectNodes log (the_key ∷ []) nodes
      → (n : ObjectNode) × IsObjectNode log the_key n × (nodes ≡ n ∷ [])
  by [] z = absurd z
  by (n ∷ []) z = (n, z.0, refl)
  by (n ∷ m ∷ ns) z = absurd z.1

pub first_there : {A : Type 0} (xs : List A) (n : ℕ) (x : A) → n ≡ 0 → slice_get xs n ≡ Some x → slice_get xs 0 ≡ Some x
first_there xs n x is there = subst (λ n. slice_get xs n ≡ Some x) is there

-- what the client keeps of its read
kept_of_read : (run : LawfulRun a_conflict_with_nothing.script a_conflict_with_nothing.report)
    → (t : Two run.log (caller_of a_conflict_with_nothing.script 0) (asks 7 a (whats.Read 0 (codes "k"
    ∷ []))) (read_at 7)
    (asks 8 a (whats.Commit 0 one_pair)) conflicts (run.clients 0 _ refl).kept)
    → (t.kept.ids ≡ 0) × (t.kept.reads 0 ≡ Some (the_version ∷ []))
kept_of_read run t =
    let said = t.first.explained in
    let r = said.2.0 in
    let h : one_node.journal ≡ run.log.histories 0 0 =
    (column_at a_conflict_with_nothing run 0 one_node refl).history in
    let nodes = no_nodes run.log said.2.1 said.2.3 (none_read 0 said.2.1 said.2.2) said.2.4 in
    let ids : said.1.ids ≡ 0 = ap (λ (k : Kept). k.ids) r.after_is ∙ ap (λ (k : Kept). k.ids) r.syncing.2
    ∙ ap (λ (k : Kept). k.ids) r.raising.1 in
    elim said.2.5 [
      | inl f ↦ absurd (let w = f.2 in let g : ⊥ = cc (w) in g)
      | inr f ↦
          let asked = same_read _ _ _ _ f.2 in
          let after = t.first.after_is ∙ f.4
          ∙ ap (λ o. with_read said.1 o (Some (versions_after said.2.3 f.1))) (sym asked.0) in
          let versions : versions_after said.2.3 f.1 ≡ the_version ∷ [] =
          ap (λ ns. versions_after ns f.1) nodes ∙ ap (λ ks. versions_after [] ks) (sym asked.1) in
          (ap (λ (k : Kept). k.ids) after ∙ ids, ap (λ (k : Kept). k.reads 0) after ∙ ap (λ vs. Some vs) versions)
    ]

pub conflict : IsUnlawful a_conflict_with_nothing
conflict run =
    let t = two run.log _ _ _ _ _ _ (run.clients 0 _ refl).explained in
    let said = t.second.explained.1.1 in
    let judged = said.3 in
    let h : one_node.journal ≡ run.log.histories 0 0 =
    (column_at a_conflict_with_nothing run 0 one_node refl).history in
    let kept = kept_of_read run t in
    let asked = versions_named (caller_of a_conflict_with_nothing.script 0) t.kept 0 one_pair said.0 said.1 said.2 in
    let versions : the_version ∷ [] ≡ asked.0 = some_same _ _ (sym kept.1 ∙ asked.1) in
    let text : said.1 ≡ the_text = asked.3 ∙ ap (λ vs. form_text (forms.Transaction vs one_pair)) (sym versions) in
    let appends = judged.2 in
    let place : appends.1 ≡ 0 = (let at = appends.2 in cc (at)) in
    let entered = first_there _ _ _ place appends.3.entered in
    let same = some_same (enters a (id a 0) 0 1) _ (ap (λ (es : List Entry). slice_get es 0) h ∙ entered) in
    let own : 1 ≡ judged.0 = ap (λ (en : Entry). en.stamp) same in
    let keys = one_read judged.3.1 (subst (λ (es : List Entry). IsRegionOrder (line (take 1 es)
    ∷ []) 1 judged.3.1) (sym h) judged.3.2) in
    let one = one_object run.log judged.3.1 judged.3.3 keys judged.3.4 in
    let next = first_there _ _ _ kept.0 appends.3.next in
    let node = some_same _ _ (sym next ∙ one.1.there) in
    let text_is : one.0.text ≡ the_text = one.1.text ∙ ap (λ (n : Node). n.text) (sym node) ∙ text in
    let is = node_is one.0 the_key the_text one.1.key_is text_is in
    let its_key : entry_key judged.0 (record { client = 0; count = t.kept.ids }) ≡ the_key =
    ap (λ s. entry_key s (record { client = 0; count = t.kept.ids })) (sym own)
    ∙ ap (λ n. entry_key 1 (record { client = 0; count = n })) kept.0 in
    let f : Some (Committed 1) ≡ Some (Conflict (codes "k") 0) =
    sym (commits one.0.colours) ∙ ap (λ n. verdict_of (n ∷ []) the_key) (sym is)
    ∙ ap (λ ns. verdict_of ns the_key) (sym one.2) ∙ ap (λ k. verdict_of judged.3.3 k) (sym its_key) ∙ judged.3.5 in
    cc (f)
