-- What decisions say, computed in rising order of the stamps of their reads: one node more, and one decision more.
use Rattle.std.proofs.Common.{◌≡◌, ◌⊎◌, ◌∙◌, refl, ap, sym, subst, ℕ, zero, suc, ◌+◌, ◌<◌, ◌≤◌, List, [], ◌∷◌, ◌++◌, length, map, take, get_or, append-nil, Option, Some, None, inl, inr, arith}
use Rattle.std.specs.Prelude.{◌≢◌, OnOk, Result, slice_get, slice_index_or, slice_set}
use Rattle.std.specs.List.{All}
use Rattle.std.specs.List.Sorted.{IsNonDecreasingBy}
use Rattle.std.specs.Option.{option_map}
use Rattle.std.proofs.lemmas.Bool.{cases_eq, cases_lt}
use Rattle.std.proofs.lemmas.List.{get_or-set_other, get_or-set_same, take_more}
use Rattle.std.proofs.lemmas.List.Concat.{flat_map-append}
use Rattle.std.proofs.lemmas.Option.{get_or_from_slice_get, slice_get_within}
use Rattle.log_node.specs.declared.ids.Id.{Id}
use Rattle.log_node.specs.declared.ids.Key.{Key}
use Rattle.log_node.specs.declared.node.Node.{Node}
use Rattle.object_fold.specs.Nodes.{ObjectNode}
use Rattle.part_fold.specs.declared.decision.Decision.{Decision}
use Rattle.part_fold.specs.declared.part_fold.PartFold.{PartFold}
use Rattle.part_fold.specs.PartStates.{IsPart}
use Rattle.col_core.proofs.CallerLemmas.{in_contains, in_slice}
use Rattle.report_text.specs.declared.report.Answer.{Answer}
use Rattle.report_text.specs.declared.report.Answer.TheVariants as answers
use Rattle.run_rules.specs.Computing.{answer_to, finds_of, node_read}
use Rattle.run_rules.specs.Deciding.{account_deciding, decisions_of, last_decided}
use Rattle.run_rules.specs.Keeping.{all_replies}
use Rattle.run_rules.specs.Nodes.{any_decision}
use Rattle.object_law.specs.declared.decided_nodes.DecidedNode.{DecidedNode}
use Rattle.object_law.specs.declared.decisions_by_stamp.StampedDecision.{StampedDecision}
use Rattle.object_law.specs.Decided.{AreDecided, AreDecidedBelow, AreDecidedTo, AreDecisionsOf, IsDecisionOf, IsReadFrom, StandsDecided, Waits, decided_at, decided_in, decided_nodes, node_deciding, said_by, stamp_of_read}
use Rattle.object_law.proofs.DecidedLaws.{IsNoDecision, never}
use Rattle.object_law.proofs.DecisionLists.{client_low}
use Rattle.object_law.proofs.GoingLemmas.{at_before, at_last}
use Rattle.walk_law.specs.Finds.{decision_at}
use Rattle.walk_law.specs.Walking.{IsStepOf, Walked}

-- LISTS

get_mapped : {A B : Type 0} (f : A → B) (xs : List A) (n : ℕ) → slice_get (map f xs) n ≡ option_map f (slice_get xs n)
get_mapped f [] n = refl
get_mapped f (x ∷ xs) zero = refl
get_mapped f (x ∷ xs) (suc n) = get_mapped f xs n

length_set : {A : Type 0} (xs : List A) (n : ℕ) (x : A) → length (slice_set xs n x) ≡ length xs
length_set [] n x = refl
length_set (y ∷ ys) zero x = refl
length_set (y ∷ ys) (suc n) x = ap (λ (m : ℕ). suc m) (length_set ys n x)

-- what is so of the first so many is so of each of them
pub stands_at : {A : Type 0} (P : A → Type 0) (xs : List A) (count n : ℕ) (x : A) → All P (take count xs) → n < count → n < length xs
    → x ≡ get_or xs n x → P x
stands_at P [] count n x all lt low is = absurd (let f : ⊥ = omega (arith, low) in f)
stands_at P (y ∷ ys) zero n x all lt low is = absurd (let f : ⊥ = omega (arith, lt) in f)
stands_at P (y ∷ ys) (suc count) zero x all lt low is = subst P (sym is) (all 0 y (omega arith))
stands_at P (y ∷ ys) (suc count) (suc n) x all lt low is =
    stands_at P ys count n x (λ k d less. all (suc k) d (omega (arith, less))) (omega (arith, lt)) (omega (arith, low)) is

-- NODES

-- the node with an id is that of the table, by what decisions say
pub node_said_by : (walked : Walked) (table : List (List DecidedNode))
    → AreDecided walked (finds_of walked.script walked.report) table → (decided : ℕ → ℕ → Decision) (id : Id)
    (it : Option DecidedNode) → decided_in table id ≡ it
    → node_deciding walked decided id ≡ option_map (said_by (decided id.client)) it
node_said_by walked table are decided id it e =
    let says = said_by (decided id.client) in
    ap (λ (nodes : List Node). slice_get nodes id.count) (sym (are id.client decided))
    ∙ (get_mapped says (decided_at table id.client) id.count ∙ ap (option_map says) e)

-- where there is no node, none is
pub fed_none : (part : PartFold) (nodes : List ObjectNode) (key : Key) (o : Option Node) → o ≡ None → IsPart part nodes
    → IsPart part (nodes ++ node_read key o)
fed_none part nodes key o is holds =
    subst (λ (p : Option Node). IsPart part (nodes ++ node_read key p)) (sym is)
    (subst (IsPart part) (sym (append-nil nodes)) holds)

-- a node is fed with the text that it has
pub fed_ok : {E : Type 0} (result : Result (Unit {0}) E) (part : PartFold) (nodes : List ObjectNode) (key : Key) (text : List ℕ)
    (o : Option Node) (node : Node) → o ≡ Some node → node.text ≡ text
    → ((n : ObjectNode) → n.key ≡ key → n.text ≡ text → OnOk result (IsPart part (nodes ++ n ∷ [])))
    → OnOk result (IsPart part (nodes ++ node_read key o))
fed_ok result part nodes key text o node is same ok =
    subst (λ (p : Option Node). OnOk result (IsPart part (nodes ++ node_read key p))) (sym is)
    (ok (record { key = key; colours = node.colours; text = node.text }) refl same)

-- one node more is fed, by what is decided so far
pub decided_more : (walked : Walked) (decided : ℕ → ℕ → Decision) (keys : List Key) (n : ℕ) (key : Key) → n < length keys
    → key ≡ get_or keys n key → StandsDecided walked decided key → (part : PartFold)
    → IsPart part (decided_nodes walked (take n keys) ++ node_read key (node_deciding walked decided key.id))
    → IsPart part (decided_nodes walked (take (n + 1) keys))
decided_more walked decided keys n key lt is stands part holds =
    let log = (account_deciding walked.script walked.report (decisions_of walked.script walked.report)).log in
    let before = decided_nodes walked (take n keys) in
    let its = node_deciding walked (decisions_of walked.script walked.report) key.id in
    subst (λ (ks : List Key). IsPart part (decided_nodes walked ks))
    (ap (λ (k : Key). take n keys ++ k ∷ []) is ∙ sym (take_more keys n key lt))
    (subst (IsPart part)
    (ap (λ (o : Option Node). before ++ node_read key o) stands
    ∙ (ap (λ (l : List ObjectNode). before ++ l) (sym (append-nil (node_read key its)))
    ∙ sym (flat_map-append (λ (k : Key). node_read k (slice_get (log.nodes k.id.client) k.id.count)) (take n keys) (key ∷ []))))
    holds)

-- what is noted behind each node, with what is noted behind one more
pub noted_more : (waits more : List (Option Key)) (last : Option Key) → more ≡ waits ++ last ∷ [] → (says : ℕ → Option Key)
    → (n : ℕ) → length waits ≡ n → ((k : ℕ) (d : Option Key) → k < n → slice_index_or waits k d ≡ says k) → last ≡ says n
    → (k : ℕ) (d : Option Key) → k < n + 1 → slice_index_or more k d ≡ says k
noted_more waits more last is says n many noted here k d lt = by (cases_lt k n) where
  by : (k < n) ⊎ (n ≤ k) → slice_index_or more k d ≡ says k
  by (inl less) =
      ap (λ (l : List (Option Key)). slice_index_or l k d) is
      ∙ (at_before waits (last ∷ []) k d (omega (arith, less, many)) ∙ noted k d less)
  by (inr le) =
      let e : k ≡ length waits = omega (arith, lt, le, many) in
      ap (λ (l : List (Option Key)). slice_index_or l k d) is
      ∙ (ap (λ (m : ℕ). slice_index_or (waits ++ last ∷ []) m d) e
      ∙ (at_last waits last d ∙ (here ∙ ap says (sym many ∙ sym e))))

-- DECISIONS

-- an answer without such a stamp is no decision
no_stamp : (answer : Answer) → stamp_of_read answer ≡ None → IsNoDecision answer
no_stamp (answers.Decided commits stamp sync read_stamp raises syncs ended) e = absurd (let f : ⊥ = cc (e) in f)
no_stamp _ e = tt

-- a decision with this stamp is read from it on
from_stamp : (answer : Answer) (stamp w : ℕ) → stamp_of_read answer ≡ Some stamp → w ≤ stamp → IsReadFrom w answer
from_stamp (answers.Decided commits s sync read_stamp raises syncs ended) stamp w e le =
    let same : read_stamp ≡ stamp = cc (e) in omega (arith, same, le)
from_stamp _ stamp w e le = absurd (let f : ⊥ = cc (e) in f)

-- what is no decision says nothing that is known
pub others_say : (walked : Walked) (n k : ℕ) → stamp_of_read (answer_to walked.report n k) ≡ None
    → decisions_of walked.script walked.report n k ≡ any_decision
others_say walked n k e =
    never walked.script walked.report n k (no_stamp (answer_to walked.report n k) e) (suc (last_decided (all_replies walked.report)))

-- each that is gone over is a step
pub step_at : (walked : Walked) (decisions : List StampedDecision) (at : ℕ) (it : StampedDecision)
    → AreDecisionsOf walked (length walked.report.clients) decisions → at < length decisions → it ≡ get_or decisions at it
    → IsStepOf walked it.client it.place
step_at walked decisions at it are lt is =
    let of = subst (IsDecisionOf walked) (sym is) (are.each at it lt) in of.step

module _ (walked : Walked) where
  -- before any decision
  pub decided_none : (decisions : List StampedDecision) → AreDecisionsOf walked (length walked.report.clients) decisions
      → (table : List (List Decision)) → ((n k : ℕ) → decision_at table n k ≡ any_decision)
      → ((n k : ℕ) → IsStepOf walked n k → (n < length table) × (k < length (slice_index_or table n [])))
      → AreDecidedTo walked decisions 0 table
  decided_none decisions are table none slots = record {
    slots = slots;
    decided = λ n k. by n k (stamp_of_read (answer_to walked.report n k)) refl;
  } where
    by : (n k : ℕ) (o : Option ℕ) → stamp_of_read (answer_to walked.report n k) ≡ o
        → (decision_at table n k ≡ decisions_of walked.script walked.report n k) ⊎ Waits decisions 0 n k
    by n k None e = inl (none n k ∙ sym (others_say walked n k e))
    by n k (Some stamp) e =
        let one : StampedDecision = record { stamp = stamp; client = n; place = k } in
        let at = in_slice decisions one (in_contains decisions one (are.all n k stamp (client_low walked.report n k stamp e) e)) in
        inr (record { place = at.0; after = omega arith; decision = one; there = at.1; its_client = refl; its_place = refl })

  module _ (decisions : List StampedDecision) (from : ℕ) (table : List (List Decision))
      (so_far : AreDecidedTo walked decisions from table) where
    -- what is decided so far is what decisions say whose reads are below that of the next
    pub decided_before : AreDecisionsOf walked (length walked.report.clients) decisions
        → IsNonDecreasingBy (λ (r : StampedDecision). r.stamp) decisions
        → (next : StampedDecision) → from < length decisions → next ≡ get_or decisions from next
        → AreDecidedBelow walked next.stamp (decision_at table)
    decided_before are rising next low is n k = by (so_far.decided n k) where
      by : (decision_at table n k ≡ decisions_of walked.script walked.report n k) ⊎ Waits decisions from n k
          → (decision_at table n k ≡ decisions_of walked.script walked.report n k)
          ⊎ IsReadFrom next.stamp (answer_to walked.report n k)
      by (inl e) = inl e
      by (inr w) =
          let at = slice_get_within decisions w.place w.decision w.there in
          let its : w.decision ≡ get_or decisions w.place next =
          sym (get_or_from_slice_get decisions w.place w.decision next w.there) in
          let of = subst (IsDecisionOf walked) (sym its) (are.each w.place next at) in
          let told : stamp_of_read (answer_to walked.report n k) ≡ Some w.decision.stamp =
          ap (λ (m : ℕ). stamp_of_read (answer_to walked.report m k)) (sym w.its_client)
          ∙ (ap (λ (j : ℕ). stamp_of_read (answer_to walked.report w.decision.client j)) (sym w.its_place) ∙ of.stamp) in
          let up = rising from w.place next w.after at in
          let here = ap (λ (r : StampedDecision). r.stamp) is in
          let there = ap (λ (r : StampedDecision). r.stamp) its in
          inr (from_stamp (answer_to walked.report n k) w.decision.stamp next.stamp told (omega (arith, up, here, there)))

    -- one decision more
    pub decided_next : (next : StampedDecision) → next ≡ get_or decisions from next → IsStepOf walked next.client next.place
        → (decision : Decision) → decision ≡ decisions_of walked.script walked.report next.client next.place
        → (more : List (List Decision))
        → more ≡ slice_set table next.client (slice_set (slice_index_or table next.client []) next.place decision)
        → AreDecidedTo walked decisions (from + 1) more
    decided_next next is step decision its more set = record {
      slots = λ n k there. slots_by n k there (cases_eq n next.client);
      decided = λ n k. decided_by n k (cases_eq n next.client) (cases_eq k next.place);
    } where
      row : List Decision
      row = slice_index_or table next.client []

      slot : (next.client < length table) × (next.place < length row)
      slot = so_far.slots next.client next.place step

      row_here : slice_index_or more next.client [] ≡ slice_set row next.place decision
      row_here =
          ap (λ (t : List (List Decision)). slice_index_or t next.client []) set
          ∙ get_or-set_same table next.client (slice_set row next.place decision) [] slot.0

      row_other : (n : ℕ) → n ≢ next.client → slice_index_or more n [] ≡ slice_index_or table n []
      row_other n ne =
          ap (λ (t : List (List Decision)). slice_index_or t n []) set
          ∙ get_or-set_other table next.client n (slice_set row next.place decision) [] ne

      here : decision_at more next.client next.place ≡ decision
      here =
          ap (λ (l : List Decision). slice_index_or l next.place any_decision) row_here
          ∙ get_or-set_same row next.place decision any_decision slot.1

      beside : (k : ℕ) → k ≢ next.place → decision_at more next.client k ≡ decision_at table next.client k
      beside k ne =
          ap (λ (l : List Decision). slice_index_or l k any_decision) row_here
          ∙ get_or-set_other row next.place k decision any_decision ne

      other : (n k : ℕ) → n ≢ next.client → decision_at more n k ≡ decision_at table n k
      other n k ne = ap (λ (l : List Decision). slice_index_or l k any_decision) (row_other n ne)

      here_is : (n k : ℕ) → n ≡ next.client → k ≡ next.place → decision_at more n k ≡ decisions_of walked.script walked.report n k
      here_is n k e f =
          ap (λ (m : ℕ). decision_at more m k) e
          ∙ (ap (λ (j : ℕ). decision_at more next.client j) f
          ∙ (here ∙ (its
          ∙ (ap (λ (j : ℕ). decisions_of walked.script walked.report next.client j) (sym f)
          ∙ ap (λ (m : ℕ). decisions_of walked.script walked.report m k) (sym e)))))

      beside_is : (n k : ℕ) → n ≡ next.client → k ≢ next.place → decision_at more n k ≡ decision_at table n k
      beside_is n k e ne =
          ap (λ (m : ℕ). decision_at more m k) e ∙ (beside k ne ∙ ap (λ (m : ℕ). decision_at table m k) (sym e))

      slots_by : (n k : ℕ) → IsStepOf walked n k → (n ≡ next.client) ⊎ (n ≢ next.client)
          → (n < length more) × (k < length (slice_index_or more n []))
      slots_by n k there (inl e) =
          let old = so_far.slots n k there in
          let many = ap length set ∙ length_set table next.client (slice_set row next.place decision) in
          let lt = old.0 in (
            omega (arith, many, lt),
            subst (λ (m : ℕ). k < length (slice_index_or more m [])) (sym e)
                (let long = ap length row_here ∙ length_set row next.place decision in
                let less = subst (λ (m : ℕ). k < length (slice_index_or table m [])) e old.1 in omega (arith, long, less)),
          )
      slots_by n k there (inr ne) =
          let old = so_far.slots n k there in
          let many = ap length set ∙ length_set table next.client (slice_set row next.place decision) in
          let lt = old.0 in
          (omega (arith, many, lt), subst (λ (l : List Decision). k < length l) (sym (row_other n ne)) old.1)

      waits : (n k : ℕ) → ((n ≡ next.client) → (k ≡ next.place) → ⊥)
          → (decision_at table n k ≡ decisions_of walked.script walked.report n k) ⊎ Waits decisions from n k
          → decision_at more n k ≡ decision_at table n k
          → (decision_at more n k ≡ decisions_of walked.script walked.report n k) ⊎ Waits decisions (from + 1) n k
      waits n k not_it (inl e) same = inl (same ∙ e)
      waits n k not_it (inr w) same = inr (record {
        place = w.place;
        after = later (cases_lt from w.place);
        decision = w.decision;
        there = w.there;
        its_client = w.its_client;
        its_place = w.its_place;
      }) where
        later : (from < w.place) ⊎ (w.place ≤ from) → from + 1 ≤ w.place
        later (inl lt) = omega (arith, lt)
        later (inr le) =
            let after = w.after in
            let at : w.place ≡ from = omega (arith, after, le) in
            let one : w.decision ≡ next =
            sym (get_or_from_slice_get decisions w.place w.decision next w.there)
            ∙ (ap (λ (p : ℕ). get_or decisions p next) at ∙ sym is) in
            absurd (not_it (sym w.its_client ∙ ap (λ (r : StampedDecision). r.client) one)
            (sym w.its_place ∙ ap (λ (r : StampedDecision). r.place) one))

      decided_by : (n k : ℕ) → (n ≡ next.client) ⊎ (n ≢ next.client) → (k ≡ next.place) ⊎ (k ≢ next.place)
          → (decision_at more n k ≡ decisions_of walked.script walked.report n k) ⊎ Waits decisions (from + 1) n k
      decided_by n k (inl e) (inl f) = inl (here_is n k e f)
      decided_by n k (inl e) (inr ne) = waits n k (λ x y. ne y) (so_far.decided n k) (beside_is n k e ne)
      decided_by n k (inr ne) f = waits n k (λ x y. ne x) (so_far.decided n k) (other n k ne)

    -- none waits behind the last
    pub decided_all : length decisions ≤ from → (n k : ℕ) → decision_at table n k ≡ decisions_of walked.script walked.report n k
    decided_all le n k = by (so_far.decided n k) where
      by : (decision_at table n k ≡ decisions_of walked.script walked.report n k) ⊎ Waits decisions from n k
          → decision_at table n k ≡ decisions_of walked.script walked.report n k
      by (inl e) = e
      by (inr w) =
          let lt = slice_get_within decisions w.place w.decision w.there in
          let after = w.after in absurd (let f : ⊥ = omega (arith, lt, after, le) in f)
