-- What the state of a part answers, and what it stands for after one more node.
use Rattle.std.proofs.Common.{◌≡◌, ℕ, Bool, cond, List, [], ◌∷◌, ◌++◌, Option, Some, None, Result, Ok, Err, inl, inr, refl, ap, sym, subst, ◌∙◌, append_assoc}
use Rattle.std.specs.Prelude.{OnOk}
use Rattle.std.specs.List.{fold, cons_option}
use Rattle.std.specs.Option.{option_map}
use Rattle.std.specs.Str.{bytes_eq}
use Rattle.std.proofs.lemmas.Bool.{cases_Bool}
use Rattle.std.proofs.lemmas.List.{append-nil}
use Rattle.std.proofs.lemmas.List.Sums.{fold-append}
use Rattle.std.proofs.lemmas.List.Elements.{filter_map-append}
use Rattle.log_node.specs.declared.ids.Key.{Key}
use Rattle.log_node.specs.declared.forms.Form.{Form}
use Rattle.object_form.specs.Readings.{form_of}
use Rattle.object_fold.specs.declared.tx_state.Written.{Written}
use Rattle.object_fold.specs.Nodes.{ObjectNode}
use Rattle.object_fold.specs.Tables.{value_at}
use Rattle.object_fold.specs.Transactions.{Write, value_of}
use Rattle.object_fold.specs.States.{written_at, value_in}
use Rattle.part_fold.specs.declared.decision.Decision.{Decision}
use Rattle.part_fold.specs.declared.transaction.Transaction.{Transaction}
use Rattle.part_fold.specs.declared.decided.Decided.{Decided}
use Rattle.part_fold.specs.declared.part_fold.PartFold.{PartFold}
use Rattle.part_fold.specs.Decisions.{decision_of}
use Rattle.part_fold.specs.Parts.{Part, is_in_shard, known_verdict, Known, known_with, known_of, nothing_known, decision_in, undecided_after, part_value, transaction_by, transactions, decisions}
use Rattle.part_fold.specs.Waits.{front_key}
use Rattle.part_fold.specs.PartStates.{decided_at, decided_with, front_verdict, HoldsOwn, Holds, StopsAtFront, IsPart}
use Rattle.part_fold.proofs.DecisionLaws.{plain_after}
use Rattle.part_fold.proofs.StayLemmas.{stays}
use Rattle.part_fold.proofs.KnownLemmas.{first_after, stops_at, with_verdict, verdict_told}

-- what is known where all is known but the first of those that wait
record AtRest (known rest : Known) (waiting : List Transaction) : Type 0 where
  writes : rest.writes ≡ known.writes
  undecided : rest.undecided ≡ front_key waiting

at_rest : (fold_of : PartFold) (said : List Decision) (known : Known) (waiting : List Transaction) → known.undecided ≡ None
    → HoldsOwn fold_of.part fold_of.written.entries known.writes → ((key : Key) → decided_at fold_of.decided key ≡ decision_in said key)
    → front_verdict fold_of waiting ≡ None → AtRest known (fold (known_with fold_of.part said) known waiting) waiting
at_rest f said known [] none holds decided stops = record { writes = refl; undecided = none }
at_rest f said known (tx ∷ waiting) none holds decided stops =
    let unknown : known_verdict f.part said known.writes tx ≡ None = sym (verdict_told f said known.writes tx holds decided) ∙ stops in
    let stopped : Known = record known { undecided = Some tx.key } in
    let next : known_with f.part said known tx ≡ stopped = with_verdict f.part said known tx None none unknown in
    let all = ap (λ (k : Known). fold (known_with f.part said) k waiting) next ∙ stops_at f.part said stopped tx.key waiting refl in
    record { writes = ap (λ (k : Known). k.writes) all; undecided = ap (λ (k : Known). k.undecided) all }

known_at_rest : (f : PartFold) (said : List Decision) (txs : List Transaction) (s : StopsAtFront f said txs) → AtRest (known_of f.part said s.holds.settled) (known_of f.part said txs) f.waiting
known_at_rest f said txs s =
    let h = s.holds in
    let known = known_of f.part said h.settled in
    let all : known_of f.part said txs ≡ fold (known_with f.part said) known f.waiting =
    ap (known_of f.part said) (sym h.all) ∙ fold-append (known_with f.part said) nothing_known h.settled f.waiting in
    let rest = at_rest f said known f.waiting h.known h.entries h.decided s.stops in
    record { writes = ap (λ (k : Known). k.writes) all ∙ rest.writes; undecided = ap (λ (k : Known). k.undecided) all ∙ rest.undecided }

value_of_written : (writes : List Write) (key : List ℕ) → option_map (λ (w : Written). w.value) (written_at writes key) ≡ value_of writes key
value_of_written [] key = refl
value_of_written (w ∷ writes) key = elim (cases_Bool (bytes_eq w.key key)) [ inl h ↦ rw h refl | inr h ↦ rw h (value_of_written writes key) ]

pub value_told : (f : PartFold) (nodes : List ObjectNode) (key : List ℕ) → IsPart f nodes → value_in f.written.entries key ≡ part_value f.part nodes key
value_told f nodes key s =
    let writes = (known_of f.part (decisions nodes) s.holds.settled).writes in
    let told = (known_at_rest f (decisions nodes) (transactions nodes) s).writes in
    elim (cases_Bool (is_in_shard f.part key)) [
      | inl own ↦ rw (own, s.holds.entries key, own) (value_of_written writes key ∙ ap (λ (ws : List Write). value_of ws key) (sym told))
      | inr other ↦ rw (other, s.holds.entries key, other) refl
    ]

pub undecided_told : (f : PartFold) (nodes : List ObjectNode) → IsPart f nodes → front_key f.waiting ≡ undecided_after f.part nodes
undecided_told f nodes s = sym (known_at_rest f (decisions nodes) (transactions nodes) s).undecided

-- ---- one more decision

own_same : (old new : PartFold) (known also : Known) → new.part ≡ old.part → also ≡ known → new.written.entries ≡ old.written.entries
    → HoldsOwn old.part old.written.entries known.writes → HoldsOwn new.part new.written.entries also.writes
own_same old new known also part same entries holds = λ key.
    ap (λ es. value_at es key) entries ∙ holds key
    ∙ ap (λ (p : Part). cond (is_in_shard p key) (written_at known.writes key) None) (sym part)
    ∙ ap (λ (k : Known). cond (is_in_shard new.part key) (written_at k.writes key) None) (sym same)

-- what the state stands for after one more decision, before it goes on
pub decided_more : (old new : PartFold) (said : List Decision) (txs : List Transaction) (d : Decision) → Holds old said txs → new.part ≡ old.part → new.waiting ≡ old.waiting
    → new.written.entries ≡ old.written.entries → ((key : Key) → decided_at new.decided key ≡ decided_with (decided_at old.decided key) d key) → Holds new (said ++ d ∷ []) txs
decided_more old new said txs d h part waiting entries decided =
    let same : known_of new.part (said ++ d ∷ []) h.settled ≡ known_of old.part said h.settled =
    ap (λ (p : Part). known_of p (said ++ d ∷ []) h.settled) part ∙ (stays old.part said (d ∷ []) nothing_known h.settled refl).all h.known in
    record {
      settled = h.settled;
      all = ap (λ (ws : List Transaction). h.settled ++ ws) waiting ∙ h.all;
      known = ap (λ (k : Known). k.undecided) same ∙ h.known;
      entries = own_same old new (known_of old.part said h.settled) (known_of new.part (said ++ d ∷ []) h.settled) part same entries h.entries;
      decided = λ key. decided key ∙ ap (λ (o : Option Bool). decided_with o d key) (h.decided key) ∙ sym (first_after key said d);
    }

-- and after one more transaction
pub waits_more : (old new : PartFold) (said : List Decision) (txs : List Transaction) (tx : Transaction) → Holds old said txs → new.part ≡ old.part → new.waiting ≡ old.waiting ++ tx ∷ []
    → new.written.entries ≡ old.written.entries → new.decided ≡ old.decided → Holds new said (txs ++ tx ∷ [])
waits_more old new said txs tx h part waiting entries decided =
    let same : known_of new.part said h.settled ≡ known_of old.part said h.settled = ap (λ (p : Part). known_of p said h.settled) part in
    record {
      settled = h.settled;
      all = ap (λ (ws : List Transaction). h.settled ++ ws) waiting ∙ sym (append_assoc h.settled old.waiting (tx ∷ [])) ∙ ap (λ (ts : List Transaction). ts ++ tx ∷ []) h.all;
      known = ap (λ (k : Known). k.undecided) same ∙ h.known;
      entries = own_same old new (known_of old.part said h.settled) (known_of new.part said h.settled) part same entries h.entries;
      decided = λ key. ap (λ (d : Decided). decided_at d key) decided ∙ h.decided key;
    }

-- ---- one more node

one_more_transaction : (nodes : List ObjectNode) (node : ObjectNode)
    → transactions (nodes ++ node ∷ []) ≡ transactions nodes ++ cons_option (transaction_by node.key (form_of node.text)) []
one_more_transaction nodes node = filter_map-append (λ (n : ObjectNode). transaction_by n.key (form_of n.text)) nodes (node ∷ [])

one_more_decision : (nodes : List ObjectNode) (node : ObjectNode) → decisions (nodes ++ node ∷ []) ≡ decisions nodes ++ cons_option (decision_of node.text) []
one_more_decision nodes node = filter_map-append (λ (n : ObjectNode). decision_of n.text) nodes (node ∷ [])

module _ (fold : PartFold) (nodes : List ObjectNode) (node : ObjectNode) where
  -- the state after a node that is a decision
  pub fed_decision : (text : List ℕ) (d : Decision) → node.text ≡ text → decision_of text ≡ Some d
      → StopsAtFront fold (decisions nodes ++ d ∷ []) (transactions nodes) → IsPart fold (nodes ++ node ∷ [])
  fed_decision text d same e s =
      let read : decision_of node.text ≡ Some d = ap decision_of same ∙ e in
      let more : decisions (nodes ++ node ∷ []) ≡ decisions nodes ++ d ∷ [] =
      one_more_decision nodes node ∙ ap (λ (o : Option Decision). decisions nodes ++ cons_option o []) read in
      let none : transactions (nodes ++ node ∷ []) ≡ transactions nodes =
      one_more_transaction nodes node ∙ ap (λ (form : Form). transactions nodes ++ cons_option (transaction_by node.key form) []) (plain_after node.text d read) ∙ append-nil (transactions nodes) in
      subst (λ (ds : List Decision). StopsAtFront fold ds (transactions (nodes ++ node ∷ []))) (sym more)
      (subst (λ (txs : List Transaction). StopsAtFront fold (decisions nodes ++ d ∷ []) txs) (sym none) s)

  -- the state after any other node
  pub fed_form : (key : Key) (text : List ℕ) (form : Form) → node.key ≡ key → node.text ≡ text → decision_of text ≡ None → form ≡ form_of text
      → StopsAtFront fold (decisions nodes) (transactions nodes ++ cons_option (transaction_by key form) []) → IsPart fold (nodes ++ node ∷ [])
  fed_form key text form own same e read s =
      let none : decisions (nodes ++ node ∷ []) ≡ decisions nodes =
      one_more_decision nodes node ∙ ap (λ (o : Option Decision). decisions nodes ++ cons_option o []) (ap decision_of same ∙ e) ∙ append-nil (decisions nodes) in
      let more : transactions (nodes ++ node ∷ []) ≡ transactions nodes ++ cons_option (transaction_by key form) [] =
      one_more_transaction nodes node
      ∙ ap (λ (k : Key). transactions nodes ++ cons_option (transaction_by k (form_of node.text)) []) own
      ∙ ap (λ (f : Form). transactions nodes ++ cons_option (transaction_by key f) []) (ap form_of same ∙ sym read) in
      subst (λ (txs : List Transaction). StopsAtFront fold (decisions (nodes ++ node ∷ [])) txs) (sym more)
      (subst (λ (ds : List Decision). StopsAtFront fold ds (transactions nodes ++ cons_option (transaction_by key form) [])) (sym none) s)

-- what is had at Ok gives what follows from it
pub on_ok : {A E : Type 0} (r : Result A E) (P Q : Type 0) → OnOk r P → (P → Q) → OnOk r Q
on_ok (Ok a) P Q h f = f h
on_ok (Err e) P Q h f = tt
