-- The state of the causal map after one more node, how many nodes it was fed, and what it answers.
use Rattle.std.proofs.Common.{◌≡◌, ℕ, suc, ◌+◌, ◌<◌, Bool, cond, inl, inr, List, [], ◌∷◌, ◌++◌, length, set, map, Result, Ok, Err, refl, ap, sym, ◌∙◌, arith, length-set, get_or-set_same, get_or-set_other, eq-eqb, ne_eqb}
use Rattle.std.specs.Prelude.{◌==◌, OnOk, count_by, filter, unwrap_or}
use Rattle.std.specs.List.{Contains}
use Rattle.std.specs.List.Sorted.{IsPermutation, IsSorted}
use Rattle.std.specs.Ordering.{nat_cmp}
use Rattle.std.specs.Cmp.Lexicographic.{slice_cmp}
use Rattle.std.proofs.lemmas.Bool.{cases_eq}
use Rattle.std.proofs.lemmas.List.Sorted.{IsPermutation-sym}
use Rattle.std.proofs.lemmas.Option.{slice_get_within}
use Rattle.log_node.specs.declared.ids.Counts.{Counts}
use Rattle.log_node.specs.Vectors.{at, one_more, zeros}
use Rattle.log_node.proofs.CallerLemmas.{at-vector, same_vectors, each_region, count_by-cons}
use Rattle.object_form.specs.Readings.{form_of}
use Rattle.object_fold.specs.declared.causal_map.LatestWrite.{LatestWrite}
use Rattle.object_fold.specs.declared.causal_map.CausalMap.{CausalMap}
use Rattle.object_fold.specs.Causal.{ChainNode, IsCausalAnswer, written_value}
use Rattle.object_fold.specs.Pasts.{past_chain, at_once, past_of, MayPlayNext}
use Rattle.object_fold.specs.CausalStates.{IsCausalMap, HoldsLatest, counts_of, latest_write, latest_at, change_by, latest_with}
use Rattle.object_fold.proofs.PastLemmas.{one_more_past, small_region, count_push}
use Rattle.object_fold.proofs.LatestLemmas.{form_step}

module _ (old new : CausalMap) (played : List ChainNode) (node : ChainNode) (stands : IsCausalMap old played) (next : MayPlayNext played node) where
  abbrev past : Counts
  past = past_of old.pasts (at_once node.region node.position node.needs)

  -- the map stands for one node more
  pub one_more_node : new.pasts ≡ set old.pasts node.region (past_chain old.pasts node.region ++ past ∷ [])
      → ((key : List ℕ) → latest_at new.latest.entries key ≡ latest_with old.latest.entries (change_by old.latest.entries node.region node.position past (form_of node.text)) key)
      → IsCausalMap new (played ++ node ∷ [])
  one_more_node pasts latest =
      let within : node.region < length old.pasts = omega (arith, stands.pasts.four, next.region) in
      record {
        pasts = one_more_past old.pasts played node stands.pasts next new.pasts (ap length pasts ∙ length-set old.pasts node.region (past_chain old.pasts node.region ++ past ∷ []) ∙ stands.pasts.four)
            (ap (λ (ps : List (List Counts)). past_chain ps node.region) pasts ∙ get_or-set_same old.pasts node.region (past_chain old.pasts node.region ++ past ∷ []) [] within)
            (λ t apart. ap (λ (ps : List (List Counts)). past_chain ps t) pasts ∙ get_or-set_other old.pasts node.region t (past_chain old.pasts node.region ++ past ∷ []) [] apart);
        latest = λ key. rw (latest key) (form_step old.pasts played node stands.pasts next key old.latest.entries (form_of node.text) refl (stands.latest key));
      }

-- HOW MANY IT WAS FED

abbrev of_region : ℕ → ChainNode → Bool
of_region region node = node.region == region

-- its counts are those of the nodes
pub counts_fed : (map : CausalMap) (played : List ChainNode) → IsCausalMap map played → (region : ℕ) → region < 4
    → at (counts_of map) region ≡ count_by (λ (node : ChainNode). node.region == region) played
counts_fed map played is region few =
    at-vector (λ r. length (past_chain map.pasts r)) region few ∙ is.pasts.lengths region

-- the nodes of all chains together
four_chains : (played : List ChainNode) → ((node : ChainNode) → Contains played node → node.region < 4)
    → count_by (of_region 0) played + count_by (of_region 1) played + count_by (of_region 2) played + count_by (of_region 3) played
    ≡ length played
four_chains [] few = refl
four_chains (n ∷ ns) few =
    let rest = four_chains ns (λ m c. few m (suc c.0, omega (arith, c.1), c.2)) in
    let one = each_region (λ r. cond (r == 0) 1 0 + cond (r == 1) 1 0 + cond (r == 2) 1 0 + cond (r == 3) 1 0 ≡ 1)
    refl refl refl refl n.region (few n (0, omega arith, refl)) in
    omega (
      arith,
      rest,
      one,
      count_by-cons (of_region 0) n ns,
      count_by-cons (of_region 1) n ns,
      count_by-cons (of_region 2) n ns,
      count_by-cons (of_region 3) n ns,
    )

-- all counts together are the number of the nodes
pub all_fed : (map : CausalMap) (played : List ChainNode) → IsCausalMap map played
    → at (counts_of map) 0 + at (counts_of map) 1 + at (counts_of map) 2 + at (counts_of map) 3 ≡ length played
all_fed map played is =
    let all = four_chains played (λ node c. let k = is.pasts.known node c in
    small_region map.pasts node.region node.position is.pasts.four (slice_get_within _ _ k.past k.here)) in
    omega (arith, all, is.pasts.lengths 0, is.pasts.lengths 1, is.pasts.lengths 2, is.pasts.lengths 3)

-- before any node
pub none_fed : (map : CausalMap) → IsCausalMap map [] → counts_of map ≡ zeros
none_fed map is =
    same_vectors (λ r. length (past_chain map.pasts r)) (λ _. 0) (λ r few. is.pasts.lengths r)

-- two maps of the same nodes count alike
pub same_fed : (a b : CausalMap) (played : List ChainNode) → IsCausalMap a played → IsCausalMap b played
    → counts_of a ≡ counts_of b
same_fed a b played is too =
    same_vectors (λ r. length (past_chain a.pasts r)) (λ r. length (past_chain b.pasts r))
    (λ r few. is.pasts.lengths r ∙ sym (too.pasts.lengths r))

-- one more node is counted in its chain
pub one_more_fed : (old new : CausalMap) (played : List ChainNode) (node : ChainNode) → IsCausalMap old played
    → IsCausalMap new (played ++ node ∷ []) → counts_of new ≡ one_more (counts_of old) node.region
one_more_fed old new played node was is =
    same_vectors (λ r. length (past_chain new.pasts r)) _
    (λ r few. is.pasts.lengths r ∙ (count_push (of_region r) played node
    ∙ (ap (λ (n : ℕ). n + cond (node.region == r) 1 0) (sym (counts_fed old played was r few)) ∙ choice r))) where
      choice : (r : ℕ) → at (counts_of old) r + cond (node.region == r) 1 0
          ≡ cond (r == node.region) (at (counts_of old) r + 1) (at (counts_of old) r)
      choice r = elim (cases_eq r node.region) [
        | inl same ↦ rw (eq-eqb r node.region same, eq-eqb node.region r (sym same)) refl
        | inr apart ↦ rw (ne_eqb r node.region apart, ne_eqb node.region r (λ e. apart (sym e))) (omega arith)
      ]

-- WHAT IT ANSWERS

value_of_latest : (key : List ℕ) (nodes : List ChainNode) → map (λ (w : LatestWrite). w.value) (map (latest_write key) nodes) ≡ map (λ node. unwrap_or (written_value key node) []) nodes
value_of_latest key [] = refl
value_of_latest key (n ∷ ns) = ap (λ vs. unwrap_or (written_value key n) [] ∷ vs) (value_of_latest key ns)

-- sorted values of the latest writes are the answer
pub answers : (played : List ChainNode) (key : List ℕ) (latest : List LatestWrite) (copied values : List (List ℕ)) → HoldsLatest played key latest
    → copied ≡ map (λ (w : LatestWrite). w.value) latest → IsPermutation copied values → IsSorted (slice_cmp nat_cmp) values → IsCausalAnswer played key values
answers played key latest copied values h all moved sorted =
    let e : copied ≡ map (λ node. unwrap_or (written_value key node) []) (filter h.is_latest played) =
    all ∙ ap (map (λ (w : LatestWrite). w.value)) h.writes ∙ value_of_latest key (filter h.is_latest played) in
    record { is_latest = h.is_latest; exactly = h.exactly; each_value = IsPermutation-sym _ _ (rw e at moved); sorted = sorted }

-- what two facts at Ok give
pub both_ok : {A E B : Type 0} (r : Result A E) (P : Type 0) (Q : B → Type 0) (R : Type 0) → OnOk r P → ((b : B) → OnOk r (Q b)) → (P → ((b : B) → Q b) → R) → OnOk r R
both_ok (Ok a) P Q R p q f = f p q
both_ok (Err e) P Q R p q f = tt
