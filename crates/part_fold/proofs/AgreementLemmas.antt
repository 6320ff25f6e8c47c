-- A part and all nodes of the object, node by node.
use Rattle.std.proofs.Common.{◌≡◌, ◌≢◌, ◌⊎◌, ℕ, ◌<◌, ◌%◌, Bool, true, false, not, ◌||◌, eqb, List, [], ◌∷◌, ◌++◌, length, Option, Some, None, inl, inr, refl, ap, sym, subst, ◌∙◌, append_assoc, arith, mod-lt}
use Rattle.std.specs.Prelude.{slice_index, filter, sum}
use Rattle.std.specs.List.{fold, cons_option, list_any, Contains, AllPairs}
use Rattle.std.specs.Option.{option_map}
use Rattle.std.proofs.lemmas.Bool.{cases_Bool, both_ways, or_left, eqb-true, eq-eqb, ne_eqb, cases_order}
use Rattle.std.proofs.lemmas.List.{append-nil}
use Rattle.std.proofs.lemmas.List.Elements.{Contains-get_or, Contains-append_left, Contains-append_right, Contains-append_cases, Contains-push_cases, Contains-push, filter-append, filter_map-append}
use Rattle.std.proofs.lemmas.List.Sums.{fold_push, fold-append}
use Rattle.log_node.proofs.CallerLemmas.{same_key-is}
use Rattle.log_node.specs.declared.ids.Key.{Key}
use Rattle.log_node.specs.declared.forms.Pair.{Pair}
use Rattle.log_node.specs.declared.forms.Version.{Version}
use Rattle.log_node.specs.declared.forms.Form.{Form}
use Rattle.log_node.specs.declared.forms.Form.TheVariants as forms
use Rattle.log_node.specs.Sets.{has}
use Rattle.object_form.specs.Readings.{form_of}
use Rattle.object_fold.specs.declared.verdict.Verdict.{Verdict}
use Rattle.object_fold.specs.Nodes.{ObjectNode, shard_of}
use Rattle.object_fold.specs.Transactions.{Write, last_write, verdict_on, written, ruled, writes_with, writes_after, form_verdict, verdict_of}
use Rattle.part_fold.specs.declared.decision.Decision.{Decision}
use Rattle.part_fold.specs.declared.transaction.Transaction.{Transaction}
use Rattle.part_fold.specs.Decisions.{decision_of}
use Rattle.part_fold.specs.Parts.{Part, is_in_shard, own_reads, commits_on, known_verdict, Known, known_by, known_with, nothing_known, transactions, transaction_by, decisions}
use Rattle.part_fold.specs.Agreement.{outcome, HasItsShards, AreAllNodes, part_at, shard_line, Agrees}
use Rattle.part_fold.proofs.KnownLemmas.{stops_at, with_verdict}
use Rattle.part_fold.proofs.VerdictLemmas.{SameOwn, same_written, others_written, same_conflicts, outcome_on, ruled_by, first_is_said, IsTransaction, IsNone, by_form, IsRising, verdict_at_seam}
use Rattle.log_node.proofs.CallerLemmas.{contains_none as none_contained}

-- ---- what a line leaves out

-- where no item passes the wider test, none passes the narrower
none_narrower : {X : Type 0} (p q : X → Bool) (xs : List X) → ((x : X) → p x ≡ true → q x ≡ true) → list_any q xs ≡ false → list_any p xs ≡ false
none_narrower p q [] f none = refl
none_narrower p q (x ∷ xs) f none = elim (cases_Bool (p x)) [
  | inl h ↦ absurd (both_ways (list_any q (x ∷ xs)) none (or_left (q x) (list_any q xs) (f x h)))
  | inr h ↦ elim (cases_Bool (q x)) [
    | inl k ↦ absurd (both_ways (list_any q (x ∷ xs)) none (or_left (q x) (list_any q xs) k))
    | inr k ↦ rw h (none_narrower p q xs f (rw k at none))
  ]
]

none_second : (a b : Bool) → (a || b) ≡ false → b ≡ false
none_second true b e = absurd (both_ways (true || b) e refl)
none_second false b e = e

-- a key of the part has its shard in the part's colour
own_shard : (colours : List ℕ) (place : ℕ) (key : List ℕ) → is_in_shard (part_at colours place) key ≡ true → shard_of colours key ≡ slice_index colours place
own_shard colours place key own = ap (slice_index colours) (eqb-true _ place own)

-- a transaction without the part's colour writes no key of it
foreign_pairs : (colours : List ℕ) (place : ℕ) (node : ObjectNode) (reads : List Version) (pairs : List Pair) → place < length colours → HasItsShards colours node
    → form_of node.text ≡ forms.Transaction reads pairs → has node.colours (slice_index colours place) ≡ false → list_any (λ (p : Pair). is_in_shard (part_at colours place) p.key) pairs ≡ false
foreign_pairs colours place node reads pairs lt shards is lacks =
    let colour = slice_index colours place in
    let touched = sym (shards reads pairs is colour (Contains-get_or colours place 0 lt)) ∙ lacks in
    let none = none_second (list_any (λ (r : Version). eqb (shard_of colours r.key) colour) reads) (list_any (λ (p : Pair). eqb (shard_of colours p.key) colour) pairs) touched in
    none_narrower (λ (p : Pair). is_in_shard (part_at colours place) p.key) (λ (p : Pair). eqb (shard_of colours p.key) colour) pairs
    (λ p own. eq-eqb (shard_of colours p.key) colour (own_shard colours place p.key own)) none

-- ---- node by node

-- what is known after a line that begins so agrees with all nodes
record AgreesSoFar (part : Part) (nodes done : List ObjectNode) (known : Known) : Type 0 where
  verdicts : (d : Decision) → Contains known.verdicts d → outcome (verdict_of nodes d.key) ≡ Some d.commits
  writes : known.undecided ≡ None → SameOwn part known.writes (writes_after done)

-- the decisions that were said are true
abbrev AreTrue : List ObjectNode → List Decision → Type 0
AreTrue nodes said = (d : Decision) → Contains said d → (commits : Bool) → outcome (verdict_of nodes d.key) ≡ Some commits → d.commits ≡ commits

-- a verdict that is known is the true one
verdict_true : (part : Part) (nodes done : List ObjectNode) (said : List Decision) (writes : List Write) (tx : Transaction) (commits : Bool) → AreTrue nodes said
    → verdict_of nodes tx.key ≡ Some (verdict_on (writes_after done) tx.key.stamp tx.reads) → SameOwn part writes (writes_after done)
    → known_verdict part said writes tx ≡ Some commits → outcome (Some (verdict_on (writes_after done) tx.key.stamp tx.reads)) ≡ Some commits
verdict_true part nodes done said writes tx commits true_said verdict same e = elim (cases_Bool (own_reads part tx.reads)) [
  | inl own ↦
      let told : Some (commits_on writes tx.reads) ≡ Some commits = rw own at e in
      outcome_on (writes_after done) tx.key.stamp tx.reads
      ∙ ap (λ (b : Bool). Some (not b)) (sym (same_conflicts part writes (writes_after done) tx.reads same own)) ∙ told
  | inr other ↦
      let d = first_is_said tx.key said commits (rw other at e) in
      let all = ap outcome verdict ∙ outcome_on (writes_after done) tx.key.stamp tx.reads in
      let here : outcome (verdict_of nodes d.decision.key) ≡ Some (commits_on (writes_after done) tx.reads) =
      ap (λ (k : Key). outcome (verdict_of nodes k)) (same_key-is d.decision.key tx.key d.on) ∙ all in
      outcome_on (writes_after done) tx.key.stamp tx.reads ∙ ap (λ (b : Bool). Some b) (sym (true_said d.decision d.among (commits_on (writes_after done) tx.reads) here) ∙ d.says)
]

one_said : (key : Key) (verdicts : List Decision) (nodes : List ObjectNode) (commits : Bool) → ((d : Decision) → Contains verdicts d → outcome (verdict_of nodes d.key) ≡ Some d.commits)
    → outcome (verdict_of nodes key) ≡ Some commits → (d : Decision) → Contains (verdicts ++ record { key = key; commits = commits } ∷ []) d → outcome (verdict_of nodes d.key) ≡ Some d.commits
one_said key verdicts nodes commits old new d c =
    let last : Decision = record { key = key; commits = commits } in
    elim (Contains-push_cases verdicts last d c) [
      | inl before ↦ old d before
      | inr same ↦ let P : Decision → Type 0 = λ x. outcome (verdict_of nodes x.key) ≡ Some x.commits in subst P same new
    ]

-- one more transaction of the line
transaction_agrees : (part : Part) (nodes done : List ObjectNode) (said : List Decision) (known : Known) (tx : Transaction) (more : List Write) → AreTrue nodes said
    → verdict_of nodes tx.key ≡ Some (verdict_on (writes_after done) tx.key.stamp tx.reads)
    → more ≡ ruled tx.key (writes_after done) (verdict_on (writes_after done) tx.key.stamp tx.reads) tx.pairs → AgreesSoFar part nodes done known
    → (after : List ObjectNode) → writes_after after ≡ more → AgreesSoFar part nodes after (known_with part said known tx)
transaction_agrees part nodes done said known tx more true_said verdict ruled_is so_far after is =
    by_state known.undecided refl where
      W : List Write
      W = writes_after done

      v : Verdict
      v = verdict_on W tx.key.stamp tx.reads

      some_none : (key : Key) → Some key ≡ None → ⊥
      some_none key h = cc

      by_verdict : (o : Option Bool) → known.undecided ≡ None → known_verdict part said known.writes tx ≡ o → AgreesSoFar part nodes after (known_by known tx o)
      by_verdict None none e = record { verdicts = so_far.verdicts; writes = λ h. absurd (some_none tx.key h) }
      by_verdict (Some true) none e =
          let told = verdict_true part nodes done said known.writes tx true true_said verdict (so_far.writes none) e in
          let all : writes_after after ≡ written tx.key W tx.pairs = is ∙ ruled_is ∙ ruled_by tx.key W v tx.pairs true told in
          record {
            verdicts = one_said tx.key known.verdicts nodes true so_far.verdicts (ap outcome verdict ∙ told);
            writes = λ h. subst (SameOwn part (written tx.key known.writes tx.pairs)) (sym all) (same_written part tx.key tx.pairs known.writes W (so_far.writes none));
          }
      by_verdict (Some false) none e =
          let told = verdict_true part nodes done said known.writes tx false true_said verdict (so_far.writes none) e in
          let all : writes_after after ≡ W = is ∙ ruled_is ∙ ruled_by tx.key W v tx.pairs false told in
          record {
            verdicts = one_said tx.key known.verdicts nodes false so_far.verdicts (ap outcome verdict ∙ told);
            writes = λ h. subst (SameOwn part known.writes) (sym all) (so_far.writes none);
          }

      by_state : (o : Option Key) → known.undecided ≡ o → AgreesSoFar part nodes after (known_with part said known tx)
      by_state None e =
          let next = with_verdict part said known tx (known_verdict part said known.writes tx) e refl in
          subst (AgreesSoFar part nodes after) (sym next) (by_verdict (known_verdict part said known.writes tx) e refl)
      by_state (Some key) e =
          let same : known_with part said known tx ≡ known = stops_at part said known key (tx ∷ []) e in
          subst (AgreesSoFar part nodes after) (sym same) (record { verdicts = so_far.verdicts; writes = λ h. absurd (some_none key (sym e ∙ h)) })

-- one more node: of the line, or not
node_agrees : (colours : List ℕ) (place : ℕ) (done later : List ObjectNode) (n : ObjectNode) (said : List Decision) (known : Known) → place < length colours → IsRising (done ++ n ∷ later)
    → HasItsShards colours n → AreTrue (done ++ n ∷ later) said → AgreesSoFar (part_at colours place) (done ++ n ∷ later) done known
    → AgreesSoFar (part_at colours place) (done ++ n ∷ later) (done ++ n ∷ []) (fold (known_with (part_at colours place) said) known (transactions (shard_line colours place (n ∷ []))))
node_agrees colours place done later n said known lt rises shards true_said so_far =
    by_colour (cases_Bool (has n.colours colour)) (by_form (form_of n.text)) where
      colour : ℕ
      colour = slice_index colours place

      part : Part
      part = part_at colours place

      nodes : List ObjectNode
      nodes = done ++ n ∷ later

      next : writes_after (done ++ n ∷ []) ≡ writes_with n.key (writes_after done) (form_of n.text)
      next = fold_push (λ (ws : List Write) (x : ObjectNode). writes_with x.key ws (form_of x.text)) [] done n

      Goal : List ObjectNode → Type 0
      Goal line = AgreesSoFar part nodes (done ++ n ∷ []) (fold (known_with part said) known (transactions line))

      unchanged : SameOwn part (writes_after done) (writes_after (done ++ n ∷ [])) → AgreesSoFar part nodes (done ++ n ∷ []) known
      unchanged same = record { verdicts = so_far.verdicts; writes = λ h key own. so_far.writes h key own ∙ same key own }

      writes_nothing : IsNone (form_of n.text) → SameOwn part (writes_after done) (writes_after (done ++ n ∷ []))
      writes_nothing none = λ key own. ap (λ (ws : List Write). last_write ws key) (sym (next ∙ none.writes n.key (writes_after done)))

      ruled_next : (t : IsTransaction (form_of n.text)) → writes_after (done ++ n ∷ []) ≡ ruled n.key (writes_after done) (verdict_on (writes_after done) n.key.stamp t.reads) t.pairs
      ruled_next t = next ∙ ap (writes_with n.key (writes_after done)) t.is

      writes_others : (t : IsTransaction (form_of n.text)) → list_any (λ (p : Pair). is_in_shard part p.key) t.pairs ≡ false → SameOwn part (writes_after done) (writes_after (done ++ n ∷ []))
      writes_others t foreign = by_outcome (commits_on (writes_after done) t.reads) (outcome_on (writes_after done) n.key.stamp t.reads) where
        by_outcome : (c : Bool) → outcome (Some (verdict_on (writes_after done) n.key.stamp t.reads)) ≡ Some c → SameOwn part (writes_after done) (writes_after (done ++ n ∷ []))
        by_outcome true e =
            let all = ruled_next t ∙ ruled_by n.key (writes_after done) (verdict_on (writes_after done) n.key.stamp t.reads) t.pairs true e in
            subst (SameOwn part (writes_after done)) (sym all) (others_written part n.key t.pairs (writes_after done) foreign)
        by_outcome false e =
            let all = ruled_next t ∙ ruled_by n.key (writes_after done) (verdict_on (writes_after done) n.key.stamp t.reads) t.pairs false e in
            λ key own. ap (λ (ws : List Write). last_write ws key) (sym all)

      own_line : has n.colours colour ≡ true → shard_line colours place (n ∷ []) ≡ n ∷ []
      own_line h = rw h refl

      no_line : has n.colours colour ≡ false → shard_line colours place (n ∷ []) ≡ []
      no_line h = rw h refl

      by_colour : (has n.colours colour ≡ true) ⊎ (has n.colours colour ≡ false) → IsTransaction (form_of n.text) ⊎ IsNone (form_of n.text) → Goal (shard_line colours place (n ∷ []))
      by_colour (inr lacks) (inl t) = subst Goal (sym (no_line lacks)) (unchanged (writes_others t (foreign_pairs colours place n t.reads t.pairs lt shards t.is lacks)))
      by_colour (inr lacks) (inr none) = subst Goal (sym (no_line lacks)) (unchanged (writes_nothing none))
      by_colour (inl mine) (inr none) =
          let empty : transactions (n ∷ []) ≡ [] = ap (λ (o : Option Transaction). cons_option o []) (none.none n.key) in
          subst Goal (sym (own_line mine))
          (subst (λ (txs : List Transaction). AgreesSoFar part nodes (done ++ n ∷ []) (fold (known_with part said) known txs)) (sym empty) (unchanged (writes_nothing none)))
      by_colour (inl mine) (inl t) =
          let tx : Transaction = record { key = n.key; reads = t.reads; pairs = t.pairs } in
          let one : transactions (n ∷ []) ≡ tx ∷ [] = ap (λ (form : Form). cons_option (transaction_by n.key form) []) t.is in
          let verdict : verdict_of nodes n.key ≡ Some (verdict_on (writes_after done) n.key.stamp t.reads) =
          verdict_at_seam done later n rises ∙ ap (form_verdict n.key (writes_after done)) t.is in
          let agrees = transaction_agrees part nodes done said known tx (writes_after (done ++ n ∷ [])) true_said verdict (ruled_next t) so_far (done ++ n ∷ []) refl in
          subst Goal (sym (own_line mine))
          (subst (λ (txs : List Transaction). AgreesSoFar part nodes (done ++ n ∷ []) (fold (known_with part said) known txs)) (sym one) agrees)

module _ (colours : List ℕ) (place : ℕ) (lt : place < length colours) (nodes : List ObjectNode) (all : AreAllNodes colours nodes) (said : List Decision) (true_said : AreTrue nodes said) where
  -- the nodes up to some point, the first of them first
  walk : (done todo later : List ObjectNode) (known : Known) → done ++ (todo ++ later) ≡ nodes → AgreesSoFar (part_at colours place) nodes done known
      → AgreesSoFar (part_at colours place) nodes (done ++ todo) (fold (known_with (part_at colours place) said) known (transactions (shard_line colours place todo)))
  walk done [] later known e so_far = subst (λ (ns : List ObjectNode). AgreesSoFar (part_at colours place) nodes ns known) (sym (append-nil done)) so_far
  walk done (n ∷ todo) later known e so_far =
      let part = part_at colours place in
      let step = known_with part said in
      let front = shard_line colours place (n ∷ []) in
      let rest = shard_line colours place todo in
      let P : List ObjectNode → Type 0 = λ ns. AgreesSoFar part ns (done ++ n ∷ []) (fold step known (transactions front)) in
      let rises : IsRising (done ++ n ∷ (todo ++ later)) = subst IsRising (sym e) all.rising in
      let here : Contains nodes n = subst (λ (ns : List ObjectNode). Contains ns n) e (Contains-append_right done (n ∷ (todo ++ later)) n (Contains-append_left (n ∷ []) (todo ++ later) n (Contains-push [] n))) in
      let so = node_agrees colours place done (todo ++ later) n said known lt rises (all.shards n here) (subst (λ (ns : List ObjectNode). AreTrue ns said) (sym e) true_said)
      (subst (λ (ns : List ObjectNode). AgreesSoFar part ns done known) (sym e) so_far) in
      let moved : (done ++ n ∷ []) ++ (todo ++ later) ≡ nodes = append_assoc done (n ∷ []) (todo ++ later) ∙ e in
      let later_on = walk (done ++ n ∷ []) todo later (fold step known (transactions front)) moved (subst P e so) in
      let lines : shard_line colours place (n ∷ todo) ≡ front ++ rest = filter-append (λ (x : ObjectNode). has x.colours (slice_index colours place)) (n ∷ []) todo in
      let txs : transactions (shard_line colours place (n ∷ todo)) ≡ transactions front ++ transactions rest =
      ap transactions lines ∙ filter_map-append (λ (x : ObjectNode). transaction_by x.key (form_of x.text)) front rest in
      let known_is : fold step known (transactions (shard_line colours place (n ∷ todo))) ≡ fold step (fold step known (transactions front)) (transactions rest) =
      ap (fold step known) txs ∙ fold-append step known (transactions front) (transactions rest) in
      subst (AgreesSoFar part nodes (done ++ n ∷ todo)) (sym known_is)
      (subst (λ (ns : List ObjectNode). AgreesSoFar part nodes ns (fold step (fold step known (transactions front)) (transactions rest))) (append_assoc done (n ∷ []) todo) later_on)

-- what is had of a list by a filter or a map is had of the list
kept_in : {X : Type 0} (p : X → Bool) (xs : List X) (x : X) → Contains (filter p xs) x → Contains xs x
kept_in p [] x c = c
kept_in p (y ∷ xs) x c = elim (cases_Bool (p y)) [
  | inl h ↦ elim (Contains-append_cases (y ∷ []) (filter p xs) x (rw h at c)) [
    | inl first ↦ Contains-append_left (y ∷ []) xs x first
    | inr other ↦ Contains-append_right (y ∷ []) xs x (kept_in p xs x other)
  ]
  | inr h ↦ Contains-append_right (y ∷ []) xs x (kept_in p xs x (rw h at c))
]

-- a decision that is among those of nodes is that of one of them
record IsDecisionOf (nodes : List ObjectNode) (d : Decision) : Type 0 where
  node : ObjectNode
  among : Contains nodes node
  is : decision_of node.text ≡ Some d

decision_is : (nodes : List ObjectNode) (d : Decision) → Contains (decisions nodes) d → IsDecisionOf nodes d
decision_is [] d c = absurd (none_contained d c)
decision_is (n ∷ nodes) d c = by_text (decision_of n.text) refl (decision_is nodes d) where
  later : IsDecisionOf nodes d → IsDecisionOf (n ∷ nodes) d
  later i = record { node = i.node; among = Contains-append_right (n ∷ []) nodes i.node i.among; is = i.is }

  own : (first : Decision) → decision_of n.text ≡ Some first → first ≡ d → IsDecisionOf (n ∷ nodes) d
  own first e same = record { node = n; among = Contains-append_left (n ∷ []) nodes n (Contains-push [] n); is = e ∙ ap (λ (x : Decision). Some x) same }

  only : (first : Decision) → Contains (first ∷ []) d → first ≡ d
  only first k = elim (Contains-push_cases [] first d k) [ inl none ↦ absurd (none_contained d none) | inr same ↦ same ]

  by_text : (o : Option Decision) → decision_of n.text ≡ o → (Contains (decisions nodes) d → IsDecisionOf nodes d) → IsDecisionOf (n ∷ nodes) d
  by_text None e rest = later (rest (subst (λ (x : Option Decision). Contains (cons_option x (decisions nodes)) d) e c))
  by_text (Some first) e rest =
      elim (Contains-append_cases (first ∷ []) (decisions nodes) d (subst (λ (x : Option Decision). Contains (cons_option x (decisions nodes)) d) e c)) [
        | inl one ↦ own first e (only first one)
        | inr other ↦ later (rest other)
      ]

pub parts_agree : (colours : List ℕ) (place : ℕ) (upto later : List ObjectNode) → place < length colours
    → AreAllNodes colours (upto ++ later) → Agrees colours place (upto ++ later) upto
parts_agree colours place upto later lt all =
    let part = part_at colours place in
    let line = shard_line colours place upto in
    let true_said : AreTrue (upto ++ later) (decisions line) = λ d c.
    let of = decision_is line d c in
    let here = Contains-append_left upto later of.node (kept_in (λ (x : ObjectNode). has x.colours (slice_index colours place)) upto of.node of.among) in
    all.decisions of.node here d of.is in
    let start : AgreesSoFar part (upto ++ later) [] nothing_known = record { verdicts = λ d c. absurd (none_contained d c); writes = λ h key own. refl } in
    let end = walk colours place lt (upto ++ later) all (decisions line) true_said [] upto later nothing_known refl start in
    record {
      verdicts = end.verdicts;
      values = λ none key own. rw own (ap (λ (w : Option Write). option_map (λ x. x.value) w) (end.writes none key own));
    }

-- ---- the keys of a part

pub parts_are_shards : (colours : List ℕ) (place : ℕ) (key : List ℕ) → place < length colours → AllPairs (λ a b. a ≢ b) colours
    → is_in_shard (part_at colours place) key ≡ eqb (shard_of colours key) (slice_index colours place)
parts_are_shards colours place key lt differ = elim (cases_Bool (is_in_shard (part_at colours place) key)) [
  | inl own ↦ own ∙ sym (eq-eqb (shard_of colours key) (slice_index colours place) (own_shard colours place key own))
  | inr other ↦ other ∙ sym (ne_eqb (shard_of colours key) (slice_index colours place) (apart (cases_order (sum key % length colours) place) other))
] where
  below : sum key % length colours < length colours
  below =
      let some : 0 < length colours = omega arith in
      mod-lt (sum key) some

  apart : (sum key % length colours ≡ place) ⊎ ((sum key % length colours < place) ⊎ (place < sum key % length colours)) → is_in_shard (part_at colours place) key ≡ false
      → shard_of colours key ≡ slice_index colours place → ⊥
  apart (inl same) other e = both_ways (eqb (sum key % length colours) place) other (eq-eqb (sum key % length colours) place same)
  apart (inr (inl less)) other e = differ (sum key % length colours) place 0 less lt e
  apart (inr (inr more)) other e = differ place (sum key % length colours) 0 more below (sym e)
