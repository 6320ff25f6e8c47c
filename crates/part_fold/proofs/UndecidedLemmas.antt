-- The transaction that is not known stands in the part's line, and each transaction has become of something.
use Rattle.std.proofs.Common.{◌≡◌, ◌⊎◌, ℕ, zero, suc, Bool, List, [], ◌∷◌, Option, Some, None, inl, inr, refl, ap, sym, ◌∙◌}
use Rattle.std.specs.Prelude.{slice_get}
use Rattle.std.specs.List.{cons_option, fold}
use Rattle.log_node.specs.declared.ids.Key.{Key}
use Rattle.log_node.specs.declared.forms.Form.{Form}
use Rattle.object_form.specs.Readings.{form_of}
use Rattle.object_fold.specs.Folds.{node_with}
use Rattle.object_fold.specs.Nodes.{ObjectNode, nodes_before}
use Rattle.object_fold.specs.Transactions.{form_verdict, verdict_among, verdict_of, writes_after}
use Rattle.part_fold.specs.declared.decision.Decision.{Decision}
use Rattle.part_fold.specs.declared.transaction.Transaction.{Transaction}
use Rattle.part_fold.specs.Agreement.{outcome}
use Rattle.part_fold.specs.Parts.{Known, Part, commits_on, decisions, known_verdict, known_with, nothing_known, transaction_by, transactions, undecided_after}
use Rattle.part_fold.proofs.KnownLemmas.{none_undecided, stops_at, with_verdict}
use Rattle.part_fold.proofs.VerdictLemmas.{IsNone, IsTransaction, by_form, outcome_on}

-- WHERE IT STANDS

-- a transaction with this key stands among nodes
pub record StandsAmong (key : Key) (nodes : List ObjectNode) : Type 0 where
  pub place : ℕ
  pub node : ObjectNode
  pub there : slice_get nodes place ≡ Some node
  pub key_is : node.key ≡ key
  pub form : IsTransaction (form_of node.text)

record IsAmong (key : Key) (txs : List Transaction) : Type 0 where
  place : ℕ
  tx : Transaction
  there : slice_get txs place ≡ Some tx
  key_is : tx.key ≡ key

some_key : (a b : Key) → Some a ≡ Some b → a ≡ b
some_key a b e = let f : a ≡ b = cc (e) in f

module _ (part : Part) (said : List Decision) (key : Key) where
  among : (known : Known) (txs : List Transaction) → known.undecided ≡ None
      → (fold (known_with part said) known txs).undecided ≡ Some key → IsAmong key txs
  among known [] none e = absurd (let f : None ≡ Some key = sym none ∙ e in let g : ⊥ = cc (f) in g)
  among known (tx ∷ txs) none e =
      by (λ next. among (known_with part said known tx) txs next e) (known_verdict part said known.writes tx) refl where
        later : IsAmong key txs → IsAmong key (tx ∷ txs)
        later a = record { place = suc a.place; tx = a.tx; there = a.there; key_is = a.key_is }

        by : ((known_with part said known tx).undecided ≡ None → IsAmong key txs) → (v : Option Bool)
            → known_verdict part said known.writes tx ≡ v → IsAmong key (tx ∷ txs)
        by others (Some commits) is =
            let next = with_verdict part said known tx (Some commits) none is in
            later (others (ap (λ (k : Known). k.undecided) next ∙ none_undecided known tx commits ∙ none))
        by others None is =
            let next = with_verdict part said known tx None none is in
            let here = ap (λ (k : Known). k.undecided) next in
            let stays = stops_at part said (known_with part said known tx) tx.key txs here in
            record {
              place = zero;
              tx = tx;
              there = refl;
              key_is = some_key tx.key key (sym (ap (λ (k : Known). k.undecided) stays ∙ here) ∙ e);
            }

-- the node of a transaction
node_of : (key : Key) (nodes : List ObjectNode) (place : ℕ) (tx : Transaction) → slice_get (transactions nodes) place ≡ Some tx
    → tx.key ≡ key → StandsAmong key nodes
node_of key [] place tx there is = absurd (let f : ⊥ = cc (there) in f)
node_of key (n ∷ nodes) place tx there is =
    by (λ i at. node_of key nodes i tx at is) (by_form (form_of n.text)) where
      later : StandsAmong key nodes → StandsAmong key (n ∷ nodes)
      later s = record { place = suc s.place; node = s.node; there = s.there; key_is = s.key_is; form = s.form }

      by : ((i : ℕ) → slice_get (transactions nodes) i ≡ Some tx → StandsAmong key nodes)
          → IsTransaction (form_of n.text) ⊎ IsNone (form_of n.text) → StandsAmong key (n ∷ nodes)
      by others (inl t) = at place there where
        one : Transaction
        one = record { key = n.key; reads = t.reads; pairs = t.pairs }

        first : transactions (n ∷ nodes) ≡ one ∷ transactions nodes
        first = ap (λ (form : Form). cons_option (transaction_by n.key form) (transactions nodes)) t.is

        at : (i : ℕ) → slice_get (transactions (n ∷ nodes)) i ≡ Some tx → StandsAmong key (n ∷ nodes)
        at zero e =
            let f : Some one ≡ Some tx = sym (ap (λ (l : List Transaction). slice_get l zero) first) ∙ e in
            let same : one ≡ tx = cc (f) in
            record {
              place = zero;
              node = n;
              there = refl;
              key_is = ap (λ (x : Transaction). x.key) same ∙ is;
              form = t;
            }
        at (suc i) e =
            later (others i (sym (ap (λ (l : List Transaction). slice_get l (suc i)) first) ∙ e))
      by others (inr none) =
          later (others place
          (sym (ap (λ (o : Option Transaction). slice_get (cons_option o (transactions nodes)) place) (none.none n.key)) ∙ there))

pub undecided_stands : (part : Part) (nodes : List ObjectNode) (key : Key) → undecided_after part nodes ≡ Some key
    → StandsAmong key nodes
undecided_stands part nodes key e =
    let a = among part (decisions nodes) key nothing_known (transactions nodes) refl e in
    node_of key nodes a.place a.tx a.there a.key_is

-- WHAT BECAME OF IT

pub has_outcome : (nodes : List ObjectNode) (key : Key) (node : ObjectNode) → node_with key nodes ≡ Some node
    → IsTransaction (form_of node.text) → (commits : Bool) × (outcome (verdict_of nodes key) ≡ Some commits)
has_outcome nodes key node found t =
    let writes = writes_after (nodes_before node.key nodes) in (
      commits_on writes t.reads,
      ap (λ v. outcome v) (ap (verdict_among nodes) found ∙ ap (form_verdict node.key writes) t.is)
          ∙ outcome_on writes node.key.stamp t.reads,
    )
