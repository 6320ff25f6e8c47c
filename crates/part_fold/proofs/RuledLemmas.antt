-- A map that keeps what became of its transactions, after one more node.
use Rattle.std.proofs.Common.{◌≡◌, ◌⊎◌, ℕ, Bool, true, false, not, cond, List, [], ◌∷◌, ◌++◌, Option, Some, None, inl, inr, refl, ap, sym, subst, ◌∙◌, append_assoc}
use Rattle.std.specs.List.{find, take_while}
use Rattle.std.specs.Option.{option_map}
use Rattle.std.proofs.lemmas.Bool.{cases_Bool, both_ways, false_from_ne_true}
use Rattle.std.proofs.lemmas.List.Sums.{take_while-cons}
use Rattle.log_node.specs.declared.ids.Key.{Key}
use Rattle.log_node.specs.Order.{same_key}
use Rattle.log_node.proofs.CallerLemmas.{same_key-is}
use Rattle.object_form.specs.Readings.{form_of}
use Rattle.object_fold.specs.declared.verdict.Verdict.{Verdict}
use Rattle.object_fold.specs.Nodes.{ObjectNode, nodes_before}
use Rattle.object_fold.specs.Folds.{IsAbsent}
use Rattle.object_fold.specs.States.{IsTxState}
use Rattle.object_fold.specs.Transactions.{form_verdict, ruling, verdict_among, verdict_of, writes_after}
use Rattle.object_fold.proofs.CallerLemmas.{found_there}
use Rattle.part_fold.specs.declared.decision.Decision.{Decision}
use Rattle.part_fold.specs.declared.ruled_fold.RuledFold.{RuledFold}
use Rattle.part_fold.specs.Agreement.{outcome}
use Rattle.part_fold.specs.PartStates.{decided_at, decided_with}
use Rattle.part_fold.specs.Ruled.{AreApart, IsRuled, decided_then, decision_on, outcome_in}
use Rattle.part_fold.proofs.DecidedLemmas.{swapped}

-- THE NODE WITH A KEY

-- the first of the nodes with the key
pub record IsFirst (key : Key) (nodes : List ObjectNode) : Type 0 where
  pub before : List ObjectNode
  pub node : ObjectNode
  pub behind : List ObjectNode
  pub apart : nodes ≡ before ++ node ∷ behind
  pub others : IsAbsent key before
  pub same : same_key node.key key ≡ true

pub first_or_none : (key : Key) (nodes : List ObjectNode) → IsFirst key nodes ⊎ IsAbsent key nodes
first_or_none key [] = inr tt
first_or_none key (n ∷ nodes) = elim (cases_Bool (same_key n.key key)) [
  | inl here ↦ inl (record { before = []; node = n; behind = nodes; apart = refl; others = tt; same = here })
  | inr other ↦ elim (first_or_none key nodes) [
    | inl f ↦ inl (record {
      before = n ∷ f.before;
      node = f.node;
      behind = f.behind;
      apart = ap (λ (l : List ObjectNode). n ∷ l) f.apart;
      others = (other, f.others);
      same = f.same;
    })
    | inr none ↦ inr (other, none)
  ]
]

before_first : (key : Key) (before : List ObjectNode) (node : ObjectNode) (behind : List ObjectNode) → IsAbsent key before
    → same_key node.key key ≡ true → nodes_before key (before ++ node ∷ behind) ≡ before
before_first key [] node behind others same =
    let other = λ (n : ObjectNode). not (same_key n.key key) in
    take_while-cons other node behind ∙ ap (λ (b : Bool). cond (not b) (node ∷ take_while other behind) []) same
before_first key (n ∷ before) node behind others same =
    let other = λ (x : ObjectNode). not (same_key x.key key) in
    take_while-cons other n (before ++ node ∷ behind)
    ∙ ap (λ (b : Bool). cond (not b) (n ∷ take_while other (before ++ node ∷ behind)) []) others.0
    ∙ ap (λ (l : List ObjectNode). n ∷ l) (before_first key before node behind others.1 same)

-- its verdict is by the nodes before it
pub verdict_of_first : (key : Key) (before : List ObjectNode) (node : ObjectNode) (behind : List ObjectNode)
    → IsAbsent key before → same_key node.key key ≡ true → verdict_of (before ++ node ∷ behind) key ≡ ruling before node
verdict_of_first key before node behind others same =
    ap (verdict_among (before ++ node ∷ behind)) (found_there key before node behind others same)
    ∙ ap (λ (ns : List ObjectNode). form_verdict node.key (writes_after ns) (form_of node.text))
    (ap (λ (k : Key). nodes_before k (before ++ node ∷ behind)) (same_key-is node.key key same)
    ∙ before_first key before node behind others same)

-- and with no node there is none
pub no_verdict : (key : Key) (nodes : List ObjectNode) → IsAbsent key nodes → verdict_of nodes key ≡ None
no_verdict key nodes none = ap (verdict_among nodes) (not_found nodes none) where
  not_found : (ns : List ObjectNode) → IsAbsent key ns → find (λ (n : ObjectNode). same_key n.key key) ns ≡ None
  not_found [] a = refl
  not_found (n ∷ ns) a =
      ap (λ (b : Bool). cond b (Some n) (find (λ (x : ObjectNode). same_key x.key key) ns)) a.0 ∙ not_found ns a.1

-- ONE NODE MORE

absent_front : (key : Key) (nodes : List ObjectNode) (node : ObjectNode) → IsAbsent key (nodes ++ node ∷ [])
    → IsAbsent key nodes × (same_key node.key key ≡ false)
absent_front key [] node a = (tt, a.0)
absent_front key (n ∷ nodes) node a = let rest = absent_front key nodes node a.1 in ((a.0, rest.0), rest.1)

absent_more : (key : Key) (nodes : List ObjectNode) (node : ObjectNode) → IsAbsent key nodes → same_key node.key key ≡ false
    → IsAbsent key (nodes ++ node ∷ [])
absent_more key [] node a other = (other, tt)
absent_more key (n ∷ nodes) node a other = (a.0, absent_more key nodes node a.1 other)

-- the last of nodes whose keys differ
apart_front : (nodes : List ObjectNode) (node : ObjectNode) → AreApart (nodes ++ node ∷ [])
    → AreApart nodes × IsAbsent node.key nodes
apart_front [] node a = (tt, tt)
apart_front (n ∷ nodes) node a =
    let rest = apart_front nodes node a.1 in
    let first = absent_front n.key nodes node a.0 in
    ((first.0, rest.0), (swapped n.key node.key ∙ first.1, rest.1))

-- a key among nodes is not that of one whose key is none of theirs
other_key : (key : Key) (nodes : List ObjectNode) (f : IsFirst key nodes) (node : ObjectNode) → IsAbsent node.key nodes
    → same_key node.key key ≡ false
other_key key nodes f node absent =
    false_from_ne_true (same_key node.key key) (λ same.
    both_ways (same_key f.node.key node.key) (at f.before (subst (IsAbsent node.key) f.apart absent))
    (ap (same_key f.node.key) (same_key-is node.key key same) ∙ f.same)) where
      at : (before : List ObjectNode) → IsAbsent node.key (before ++ f.node ∷ f.behind) → same_key f.node.key node.key ≡ false
      at [] a = a.0
      at (n ∷ before) a = at before a.1

-- what is decided after a decision on another transaction, and on this one
decided_else : (before : Option Bool) (on key : Key) (verdict : Option Verdict) → same_key on key ≡ false
    → decided_then before (decision_on on verdict) key ≡ before
decided_else before on key verdict other = by (outcome verdict) where
  with_other : (o : Option Bool) (commits : Bool) → decided_with o (record { key = on; commits = commits }) key ≡ o
  with_other (Some was) commits = refl
  with_other None commits = ap (λ (b : Bool). cond b (Some commits) None) other

  by : (o : Option Bool)
      → decided_then before (option_map (λ commits. record { key = on; commits = commits }) o) key ≡ before
  by None = refl
  by (Some commits) = with_other before commits

decided_here : (on key : Key) (verdict : Option Verdict) → same_key on key ≡ true
    → decided_then None (decision_on on verdict) key ≡ outcome verdict
decided_here on key verdict same = by (outcome verdict) where
  by : (o : Option Bool)
      → decided_then None (option_map (λ commits. record { key = on; commits = commits }) o) key ≡ o
  by None = refl
  by (Some commits) = ap (λ (b : Bool). cond b (Some commits) None) same

pub ruled_more : (old new : RuledFold) (nodes : List ObjectNode) (node : ObjectNode) → IsRuled old nodes
    → IsTxState new.map (nodes ++ node ∷ []) → ((key : Key) → decided_at new.outcomes key ≡ outcome_in old key)
    → new.latest ≡ decision_on node.key (ruling nodes node) → IsRuled new (nodes ++ node ∷ [])
ruled_more old new nodes node is map settled latest = record {
  map = map;
  outcomes = λ apart key.
      let front = apart_front nodes node apart in
      let last = ruling nodes node in
      ap (λ (o : Option Decision). decided_then (decided_at new.outcomes key) o key) latest
      ∙ ap (λ (b : Option Bool). decided_then b (decision_on node.key last) key) (settled key ∙ is.outcomes front.0 key)
      ∙ elim (first_or_none key nodes) [
        | inl f ↦
            (decided_else (outcome (verdict_of nodes key)) node.key key last (other_key key nodes f node front.1)
            ∙ ap outcome (of_first key f))
        | inr none ↦ elim (cases_Bool (same_key node.key key)) [
          | inl here ↦
              (ap (λ (v : Option Verdict). decided_then (outcome v) (decision_on node.key last) key) (no_verdict key nodes none)
              ∙ decided_here node.key key last here
              ∙ ap outcome (sym (verdict_of_first key nodes node [] none here)))
          | inr other ↦
              (decided_else (outcome (verdict_of nodes key)) node.key key last other
              ∙ ap outcome (no_verdict key nodes none
              ∙ sym (no_verdict key (nodes ++ node ∷ []) (absent_more key nodes node none other))))
        ]
      ];
} where
  of_first : (key : Key) (f : IsFirst key nodes) → verdict_of nodes key ≡ verdict_of (nodes ++ node ∷ []) key
  of_first key f =
      ap (λ (l : List ObjectNode). verdict_of l key) f.apart
      ∙ verdict_of_first key f.before f.node f.behind f.others f.same
      ∙ sym (ap (λ (l : List ObjectNode). verdict_of (l ++ node ∷ []) key) f.apart
      ∙ ap (λ (l : List ObjectNode). verdict_of l key) (append_assoc f.before (f.node ∷ f.behind) (node ∷ []))
      ∙ verdict_of_first key f.before f.node (f.behind ++ node ∷ []) f.others f.same)

-- where nothing came of it
pub still_ruled : (old new : RuledFold) (nodes : List ObjectNode) → IsRuled old nodes → IsTxState new.map nodes
    → ((key : Key) → outcome_in new key ≡ outcome_in old key) → IsRuled new nodes
still_ruled old new nodes is map same = record {
  map = map;
  outcomes = λ apart key. same key ∙ is.outcomes apart key;
}

-- the verdict on a node with this key and text
pub ruled_as : (key : Key) (text : List ℕ) (nodes : List ObjectNode) (node : ObjectNode) → node.key ≡ key → node.text ≡ text
    → form_verdict key (writes_after nodes) (form_of text) ≡ ruling nodes node
ruled_as key text nodes node of_key of_text =
    ap (λ (k : Key). form_verdict k (writes_after nodes) (form_of text)) (sym of_key)
    ∙ ap (λ (t : List ℕ). form_verdict node.key (writes_after nodes) (form_of t)) (sym of_text)
