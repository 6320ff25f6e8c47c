-- Peeks and decides that are told otherwise.
use Rattle.std.proofs.Common.{◌≡◌, inl, inr, ℕ, zero, suc, true, false, List, [], ◌∷◌, take, Option, Some, None, refl, ap, sym, subst, ◌∙◌, arith, lit<, slice_get, codes}
use Rattle.std.specs.List.{Contains}
use Rattle.log_node.specs.declared.ids.Key.{Key}
use Rattle.log_node.specs.declared.ids.Colours.{Colours}
use Rattle.log_node.specs.declared.node.Node.{Node}
use Rattle.log_node.specs.declared.forms.Version.{Version}
use Rattle.log_node.specs.declared.forms.Form.TheVariants as forms
use Rattle.object_form.specs.Forms.{form_text}
use Rattle.object_fold.specs.Nodes.{ObjectNode}
use Rattle.object_fold.specs.Transactions.{versions_after, verdict_of}
use Rattle.part_fold.specs.Agreement.{outcome, part_at}
use Rattle.part_fold.specs.Parts.{undecided_after}
use Rattle.col_core.specs.declared.Entry.{Entry}
use Rattle.col_core.specs.History.{line}
use Rattle.col_core.specs.RegionOrder.{IsRegionOrder}
use Rattle.col_core.specs.Log.{Log}
use Rattle.col_core.specs.Keeping.{Kept, nothing_kept, with_read}
use Rattle.script_text.specs.declared.script.Kind.{Kind}
use Rattle.script_text.specs.declared.commands.What.{What}
use Rattle.script_text.specs.declared.commands.What.TheVariants as whats
use Rattle.script_text.specs.declared.commands.Word.{Word}
use Rattle.script_text.specs.declared.commands.Word.TheVariants as words
use Rattle.report_text.specs.declared.report.Answer.{Answer}
use Rattle.lawful_run.specs.Callers.{Caller, caller_of, node_of}
use Rattle.lawful_run.specs.Asks.{object_colours}
use Rattle.lawful_run.specs.Deeds.{AsksForKey, Deed}
use Rattle.lawful_run.specs.Explains.{Explained, Answers}
use Rattle.lawful_run.specs.Lawful.{LawfulRun}
use Rattle.lawful_run.specs.Objects.{AreObjectNodes}
use Rattle.lawful_run.specs.Parts.{HasValue, OfPart, WaitsFor}
use Rattle.wrong_reports.specs.Cases.{IsUnlawful, a, x, y, asks, counts, look, replies}
use Rattle.wrong_reports.specs.Parts.{parts, reads, commits, finds_none, committed, a_pair, waiting}
use Rattle.wrong_reports.specs.Parts.{undecided_where_nothing_waits, a_value_where_a_transaction_waits}
use Rattle.wrong_reports.specs.Parts.{nothing_to_decide_where_a_transaction_waits, a_decision_that_says_the_opposite}
use Rattle.wrong_reports.specs.Rows.{complete}
use Rattle.wrong_reports.proofs.Tools.{EndsWith, only, ends_with, column_at, some_same, versions_named, asked_kind, decide_kind}
use Rattle.wrong_reports.proofs.Told.{two}
use Rattle.wrong_reports.proofs.WrongObjects.{no_nodes}
use Rattle.wrong_reports.proofs.WrongVerdict.{the_key, read_nothing, read_alone, in_none, in_alone, one_object, node_is, first_there, same_read}

-- NOTHING WAITS
pub nothing_waits : IsUnlawful undecided_where_nothing_waits
nothing_waits run =
    let p = (only run.log _ _ _ _ (run.clients 0 _ refl).explained).explained.1 in
    let u = p.2 in
    let part = part_at u.1 u.6.0 in
    let f : None ≡ Some u.4 = ap (undecided_after part) (sym (no_nodes run.log p.0 p.1)) ∙ u.6.2 in
    cc (f)

-- A TRANSACTION WAITS
abbrev the_caller : Caller
the_caller = caller_of a_value_where_a_transaction_waits.script 0

abbrev both : List ℕ
both = x ∷ y ∷ []

abbrev the_text : List ℕ
the_text = codes "t:a@-|b=7"

abbrev the_version : Version
the_version = record { key = codes "a"; writer = None }

-- the client's first node
abbrev IsFirst : Log → Node → Type 0
IsFirst log node = (slice_get (log.nodes 0) 0 ≡ Some node) × (node.text ≡ the_text)

-- nothing is read of two empty lines, and of two with one key just that
none_of_both : (keys : List Key) → IsRegionOrder ([] ∷ [] ∷ []) 0 keys → keys ≡ []
none_of_both = read_nothing ([] ∷ [] ∷ []) empty 0 where
  empty : (l : List Key) (k : Key) → Contains ([] ∷ [] ∷ []) l → Contains l k → ⊥
  empty l k (zero, lt, same) among = in_none k (subst (λ (l : List Key). Contains l k) (sym same) among)
  empty l k (suc zero, lt, same) among = in_none k (subst (λ (l : List Key). Contains l k) (sym same) among)
  empty l k (suc (suc n), lt, same) among = let f : ⊥ = omega (arith, lt) in f

one_of_both : (keys : List Key) → IsRegionOrder ((the_key ∷ []) ∷ (the_key ∷ []) ∷ []) 1 keys → keys ≡ the_key ∷ []
one_of_both = read_alone ((the_key ∷ []) ∷ (the_key ∷ []) ∷ []) (0, lit< tt, refl) alone where
  alone : (k : Key) (l : List Key) → Contains ((the_key ∷ []) ∷ (the_key ∷ []) ∷ []) l → Contains l k → k ≡ the_key
  alone k l (zero, lt, same) among = in_alone k (subst (λ (l : List Key). Contains l k) (sym same) among)
  alone k l (suc zero, lt, same) among = in_alone k (subst (λ (l : List Key). Contains l k) (sym same) among)
  alone k l (suc (suc n), lt, same) among = absurd (let f : ⊥ = omega (arith, lt) in f)

-- what the client keeps of its read
kept_of_read : (log : Log) (kept : Kept) → Answers log the_caller nothing_kept reads finds_none kept
    → (kept.ids ≡ 0) × (kept.reads 0 ≡ Some (the_version ∷ []))
kept_of_read log kept first =
    let said = first.explained in
    let r = said.2.0 in
    let keys = none_of_both said.2.1 said.2.2 in
    let nodes = no_nodes log said.2.3 (subst (λ (ks : List Key). AreObjectNodes log ks said.2.3) keys said.2.4) in
    let ids : said.1.ids ≡ 0 = ap (λ (k : Kept). k.ids) r.after_is ∙ ap (λ (k : Kept). k.ids) r.syncing.2.2
    ∙ ap (λ (k : Kept). k.ids) r.raising.1.1 in
    elim said.2.5 [
      | inl f ↦ absurd (let w = f.2 in let g : ⊥ = cc (w) in g)
      | inr f ↦
          let asked = same_read _ _ _ _ f.2 in
          let after = first.after_is ∙ f.4
          ∙ ap (λ o. with_read said.1 o (Some (versions_after said.2.3 f.1))) (sym asked.0) in
          let versions : versions_after said.2.3 f.1 ≡ the_version ∷ [] =
          ap (λ ns. versions_after ns f.1) nodes ∙ ap (λ ks. versions_after [] ks) (sym asked.1) in
          (ap (λ (k : Kept). k.ids) after ∙ ids, ap (λ (k : Kept). k.reads 0) after ∙ ap (λ vs. Some vs) versions)
    ]

-- its transaction is its first node
first_node : (log : Log) (after : Kept) → Explained log the_caller (reads ∷ commits ∷ []) (finds_none ∷ committed ∷ []) after
    → (node : Node) × IsFirst log node
first_node log after explained =
    let t = two log the_caller _ _ _ _ after explained in
    let said = t.second.explained.1.1 in
    let kept = kept_of_read log t.kept t.first in
    let asked = versions_named the_caller t.kept 0 a_pair said.0 said.1 said.2 in
    let versions : the_version ∷ [] ≡ asked.0 = some_same _ _ (sym kept.1 ∙ asked.1) in
    let text : said.1 ≡ the_text = asked.3 ∙ ap (λ vs. form_text (forms.Transaction vs a_pair)) (sym versions) in (
      node_of the_caller t.kept said.0 said.1,
      (first_there _ _ _ kept.0 said.3.2.2.begins.next, text),
    )

-- it is alone in the line of x
abbrev alone : Colours → List ObjectNode
alone colours = record { key = the_key; colours = colours; text = the_text } ∷ []

alone_there : (log : Log) (nodes : List ObjectNode) (node : Node) → IsFirst log node → AreObjectNodes log (the_key ∷ []) nodes
    → (colours : Colours) × (nodes ≡ alone colours)
alone_there log nodes node first are =
    let one = one_object log (the_key ∷ []) nodes refl are in
    let same = some_same _ _ (sym first.0 ∙ one.1.there) in
    let text : one.0.text ≡ the_text = one.1.text ∙ ap (λ (n : Node). n.text) (sym same) ∙ first.1 in
    (one.0.colours, one.2 ∙ ap (λ (n : ObjectNode). n ∷ []) (node_is one.0 the_key the_text one.1.key_is text))

-- the part on x waits for it, and it commits
waits : (colours : Colours) → undecided_after (part_at both 0) (alone colours) ≡ Some the_key
waits colours = refl

it_commits : (colours : Colours) → outcome (verdict_of (alone colours) the_key) ≡ Some true
it_commits colours = refl

place_of_x : (place : ℕ) → slice_get both place ≡ Some x → place ≡ 0
place_of_x zero there = refl
place_of_x (suc zero) there = absurd (let f : 1 ≡ 0 = some_same 1 0 there in let g : ⊥ = omega (arith, f) in g)
place_of_x (suc (suc n)) there = absurd (let f : ⊥ = cc (there) in f)

-- whatever is said of the part's transaction
part_waits : (nodes : List ObjectNode) (colours : Colours) (key : Option Key) → nodes ≡ alone colours
    → OfPart both x (WaitsFor key) nodes → Some the_key ≡ key
part_waits nodes colours key is part =
    sym (waits colours) ∙ ap (undecided_after (part_at both 0)) (sym is)
    ∙ ap (λ p. undecided_after (part_at both p) nodes) (sym (place_of_x part.0 part.1)) ∙ part.2

-- what is read off a report of a command behind it
module _ (what : What) (word : Word) (answer : Answer)
    (run : LawfulRun (waiting what word answer).script (waiting what word answer).report) where
  last : EndsWith run.log the_caller (reads ∷ commits ∷ []) (finds_none ∷ committed ∷ []) (asks 10 a what)
      (replies 10 word answer) (run.clients 0 _ refl).kept
  last = ends_with run.log the_caller (reads ∷ commits ∷ []) (finds_none ∷ committed ∷ []) (asks 10 a what)
      (replies 10 word answer) _ (run.clients 0 _ refl).explained

  node : (node : Node) × IsFirst run.log node
  node = first_node run.log last.kept last.before

  history_x : (complete x).journal ≡ run.log.histories 0 0
  history_x = (column_at (waiting what word answer) run 0 (complete x) refl).history

  history_y : (complete y).journal ≡ run.log.histories 0 1
  history_y = (column_at (waiting what word answer) run 1 (complete y) refl).history

  -- the nodes that were played of x
  played : (nodes : List ObjectNode) → AreObjectNodes run.log (take 1 (line (take 2 (run.log.histories 0 0)))) nodes
      → (colours : Colours) × (nodes ≡ alone colours)
  played nodes are = alone_there run.log nodes node.0 node.1
      (subst (λ (es : List Entry). AreObjectNodes run.log (take 1 (line (take 2 es))) nodes) (sym history_x) are)

  -- and those that were read of both
  read : (keys : List Key) (nodes : List ObjectNode)
      → IsRegionOrder (line (take 2 (run.log.histories 0 0)) ∷ line (take 2 (run.log.histories 0 1)) ∷ []) 1 keys
      → AreObjectNodes run.log keys nodes → (colours : Colours) × (nodes ≡ alone colours)
  read keys nodes order are =
      let one = one_of_both keys
      (subst (λ (es : List Entry). IsRegionOrder (line (take 2 es) ∷ (the_key ∷ []) ∷ []) 1 keys) (sym history_x)
      (subst (λ (es : List Entry). IsRegionOrder (line (take 2 (run.log.histories 0 0)) ∷ line (take 2 es) ∷ []) 1 keys)
      (sym history_y) order)) in
      alone_there run.log nodes node.0 node.1 (subst (λ (ks : List Key). AreObjectNodes run.log ks nodes) one are)

pub value_waits : IsUnlawful a_value_where_a_transaction_waits
value_waits run =
    let what = whats.Peek 0 (codes "b") in
    let sync = look x 2 (counts 1 0) in
    let p = (last what words.Peek _ run).last.explained.1 in
    let n = played what words.Peek _ run p.0 p.1 in
    elim p.2 [
      | inl g ↦
          let kind : Some (parts both) ≡ g.0 = asked_kind the_caller what sync g.0 g.1 g.2 in
          let part = subst (λ (k : Option Kind). HasValue k x g.1 (Some (codes "7")) p.0) (sym kind) g.3 in
          let f : Some the_key ≡ None = part_waits p.0 n.0 None n.1 (part.0, part.1, part.2.0) in
          cc (f)
      | inr g ↦ let w = g.1.2 in cc (w)
    ]

-- a decide gets nothing
no_get : (object other : ℕ) (key more : List ℕ) → AsksForKey (whats.Decide object key) other more → ⊥
no_get object other key more asks = let w = ap (λ (d : Deed). d.manner) asks.gets in cc (w)

pub nothing_decided : IsUnlawful nothing_to_decide_where_a_transaction_waits
nothing_decided run =
    let what = whats.Decide 0 (codes "b") in
    let sync = look x 2 (counts 1 0) in
    let p = (last what words.Decide _ run).last.explained.1 in
    let n = played what words.Decide _ run p.0 p.1 in
    elim p.2 [
      | inl g ↦ no_get 0 g.2.0 (codes "b") g.1 g.2.1
      | inr g ↦
          let own : both ≡ g.0 = ap object_colours (decide_kind the_caller what sync g.0 g.1) in
          let f : Some the_key ≡ None =
          part_waits p.0 n.0 None n.1 (subst (λ (cs : List ℕ). OfPart cs x (WaitsFor None) p.0) (sym own) g.3) in
          cc (f)
    ]

pub says_the_opposite : IsUnlawful a_decision_that_says_the_opposite
says_the_opposite run =
    let what = whats.Decide 0 (codes "b") in
    let sync = look x 2 (counts 1 0) in
    let s = (last what words.Decide _ run).last.explained in
    let d = s.3 in
    let own : both ≡ s.1 = ap object_colours (decide_kind the_caller what sync s.1 s.2) in
    let n = played what words.Decide _ run d.waiting.0 d.waiting.1 in
    let waits : the_key ≡ d.waits = some_same the_key d.waits
    (part_waits d.waiting.0 n.0 (Some d.waits) n.1
    (subst (λ (cs : List ℕ). OfPart cs x (WaitsFor (Some d.waits)) d.waiting.0) (sym own) d.waiting.2)) in
    let t = d.tells in
    let m = read what words.Decide _ run t.1 t.3 t.2 t.4 in
    let f : Some true ≡ Some false =
    sym (it_commits m.0) ∙ ap (λ ns. outcome (verdict_of ns the_key)) (sym m.1)
    ∙ ap (λ k. outcome (verdict_of t.3 k)) waits ∙ t.5 in
    cc (f)
