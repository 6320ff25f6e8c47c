-- Nodes fed to a causal map's fold: which comes next, what the fold then has, and what it answers in the end.
use Rattle.std.proofs.Common.{◌≡◌, inl, inr, ℕ, zero, suc, ◌+◌, ◌-◌, ◌<◌, ◌≤◌, min, Bool, true, false, List, [], ◌∷◌, ◌++◌, length, map, drop, Option, Some, None, refl, ap, sym, subst, ◌∙◌, arith, eq-eqb, ne_eqb}
use Rattle.std.specs.Prelude.{◌≢◌, nat_lt, ◌==◌, ◌&&◌, slice_get, unwrap_or}
use Rattle.std.specs.List.Sorted.{IsPermutation}
use Rattle.std.proofs.lemmas.Bool.{and_parts, and_from, cases_lt, lt-ltb, ltb-true, eqb-true}
use Rattle.std.proofs.lemmas.List.Sorted.{IsPermutation-refl, IsPermutation-trans, IsPermutation-cons, IsPermutation-to_front, IsPermutation-map}
use Rattle.log_node.specs.declared.ids.Counts.{Counts}
use Rattle.log_node.specs.declared.ids.Key.{Key}
use Rattle.log_node.specs.declared.node.Head.{Head}
use Rattle.log_node.specs.declared.node.Node.{Node}
use Rattle.log_node.specs.Vectors.{at, vector, zeros, least, is_within, IsWithin, one_more}
use Rattle.log_node.specs.Reach.{Chains, Reachable, nothing, next}
use Rattle.log_node.specs.declared.limits.TheConstants.{MAX_COLOURS}
use Rattle.log_node.proofs.CallerLemmas.{each_region, same_vectors, at-vector, at-one_more, within, within-at, within-refl, within-trans, within-one_more, within-zeros}
use Rattle.col_core.specs.Computed.{dated}
use Rattle.col_core.specs.History.{line}
use Rattle.col_core.specs.PlayOrder.{Place}
use Rattle.col_core.specs.Rows.{wants_of, node_wants}
use Rattle.col_core.proofs.CallerLemmas.{if_true, if_false, by_test, cut-is_greatest, reached_within, apart}
use Rattle.object_fold.specs.Causal.{ChainNode, IsCausalAnswer}
use Rattle.object_fold.specs.declared.causal_map.CausalMap.{CausalMap}
use Rattle.object_fold.specs.CausalStates.{IsCausalMap, counts_of}
use Rattle.object_fold.specs.Pasts.{MayPlayNext}
use Rattle.object_fold.proofs.CallerLemmas.{counts_fed, none_fed, one_more_fed, same_fed}
use Rattle.world_laws.specs.Worlds.{World, chains_after, after, may_play}
use Rattle.world_laws.specs.Laws.{IsReached}
use Rattle.lawful_run.specs.Objects.{places_within}
use Rattle.lawful_run.proofs.CallerLemmas.{more_places, same_places}
use Rattle.script_meaning.specs.CausalGets.{causal_values, nodes_up_to_cut, got_values}
use Rattle.script_meaning.specs.Helping.{node_by_id}
use Rattle.script_meaning.specs.Moves.{no_head}
use Rattle.script_meaning.proofs.CallerLemmas.{AtPlace, at_place, causal_node_is, at_or, causal_answer, one_answer}
use Rattle.world_laws.specs.declared.steps.Step.TheVariants.{Play}
use Rattle.script_text.specs.declared.script.Command.{Command}
use Rattle.report_text.specs.declared.report.Answer.TheVariants as answers
use Rattle.report_text.specs.declared.report.SyncPiece.{SyncPiece}
use Rattle.script_meaning.specs.States.{all_granted, answered}
use Rattle.script_meaning.specs.Dequeues.{sync_now, base_now}
use Rattle.script_in_order.specs.Doing.{DoneBy, with_replies}
use Rattle.script_in_order.specs.CausalFolds.{place_at, held_node, held_nodes, cut_to_play, is_next, IsCausalFold}

-- Wants

-- beside another colour
pub wants_skip : (other colour : ℕ) (rest : List ℕ) (n : ℕ) (ws : List Counts) → other ≢ colour
    → wants_of rest (drop (n + 1) ws) colour ≡ wants_of (other ∷ rest) (drop n ws) colour
wants_skip other colour rest n ws ne =
    subst (λ (m : ℕ). wants_of rest (drop m ws) colour ≡ wants_of (other ∷ rest) (drop n ws) colour)
    (let e : suc n ≡ n + 1 = omega arith in e) (skip n ws) where
      none : (cs : List ℕ) → wants_of cs [] colour ≡ zeros
      none [] = refl
      none (c ∷ cs) = refl

      skip : (m : ℕ) (vs : List Counts) → wants_of rest (drop (suc m) vs) colour ≡ wants_of (other ∷ rest) (drop m vs) colour
      skip zero [] = none rest
      skip zero (v ∷ vs) = sym (if_false (other == colour) v (wants_of rest vs colour) (ne_eqb other colour ne))
      skip (suc m) [] = none rest
      skip (suc m) (v ∷ vs) = skip m vs

-- beside the colour itself
pub wants_here : (other colour : ℕ) (rest : List ℕ) (n : ℕ) (ws : List Counts) → other ≡ colour
    → wants_of (other ∷ rest) (drop n ws) colour ≡ unwrap_or (slice_get ws n) zeros
wants_here other colour rest zero [] e = refl
wants_here other colour rest zero (v ∷ ws) e = if_true (other == colour) v (wants_of rest ws colour) (eq-eqb other colour e)
wants_here other colour rest (suc n) [] e = refl
wants_here other colour rest (suc n) (v ∷ ws) e = wants_here other colour rest n ws e

pub none_some : {A : Type 0} {o : Option A} (x : A) → o ≡ None → o ≡ Some x → ⊥
none_some x none some = let e : Some x ≡ None = sym some ∙ none in let f : ⊥ = cc in f

pub some_same : {A : Type 0} {o : Option A} (x y : A) → o ≡ Some x → o ≡ Some y → x ≡ y
some_same x y e f = let g : Some x ≡ Some y = sym e ∙ f in cc

-- What is left

abbrev pub left_of : Counts → Counts → ℕ
left_of to v = (at to 0 - at v 0) + (at to 1 - at v 1) + (at to 2 - at v 2) + (at to 3 - at v 3)

pub fewer_left : (to v : Counts) (r : ℕ) → r < 4 → at v r < at to r → left_of to (one_more v r) < left_of to v
fewer_left to v r lt =
    each_region (λ k. at v k < at to k → left_of to (one_more v k) < left_of to v)
    (λ h. omega (arith, h)) (λ h. omega (arith, h)) (λ h. omega (arith, h)) (λ h. omega (arith, h)) r lt

-- Which node comes next

-- where no region's next node may be played on the way to a vector that can be reached, all up to it are counted
all_counted : (chains : Chains) (v to : Counts)
    → ((r : ℕ) → r < 4 → at v r < at to r → (head : Head) → slice_get (chains r) (at v r) ≡ Some head
    → IsWithin head.needs v → ⊥)
    → {u : Counts} → Reachable chains u → IsWithin u to → IsWithin u v
all_counted chains v to stuck nothing inside = within-zeros v
all_counted chains v to stuck (next {v = u} region head reached few there needs) inside =
    let low = within-trans u (one_more u region) to (within-one_more u region) inside in
    let before = all_counted chains v to stuck reached low in
    within (one_more u region) v (λ r lt. each r lt before) where
      each : (r : ℕ) → r < 4 → IsWithin u v → at (one_more u region) r ≤ at v r
      each r lt before =
          let a = at-one_more u region r lt in
          let b = within-at u v before r lt in
          by_test _ (r == region)
          (λ t. let e = eqb-true r region t in
          let m = a ∙ if_true (r == region) (at u r + 1) (at u r) t in
          elim (cases_lt (at u r) (at v r)) [
            | inl more ↦ omega (arith, m, more)
            | inr rest ↦
                let same : at v r ≡ at u r = omega (arith, rest, b) in
                let bound = within-at (one_more u region) to inside r lt in
                let here : slice_get (chains r) (at v r) ≡ Some head =
                subst (λ (k : ℕ). slice_get (chains k) (at v k) ≡ Some head) (sym e)
                (subst (λ (n : ℕ). slice_get (chains region) n ≡ Some head)
                (sym (subst (λ (k : ℕ). at v k ≡ at u k) e same)) there) in
                absurd (stuck r lt (omega (arith, bound, m, same)) head here (within-trans head.needs u v needs before))
          ])
          (λ f. let m = a ∙ if_false (r == region) (at u r + 1) (at u r) f in omega (arith, m, b))

-- A map of no node

pub none_is_fed : (map : CausalMap) → IsCausalMap map [] → (w : World) (own c : ℕ) → IsCausalFold w own c map
none_is_fed map is w own c =
    let none = sym (none_fed map is) in record {
      nodes = [];
      folded = is;
      are = subst (λ (v : Counts). IsPermutation [] (held_nodes w own c v)) none (IsPermutation-refl []);
      within = subst (λ (v : Counts). IsWithin v (cut_to_play w own c)) none (within-zeros (cut_to_play w own c));
    }

-- In a world

module _ (w : World) (reached : IsReached w) (own c : ℕ) (home : own < w.shape.regions) (low : c < MAX_COLOURS) where
  abbrev chains : Chains
  chains = chains_after own (w.histories own c)

  abbrev cut : Counts
  cut = cut_to_play w own c

  -- what may be played is held
  pub is_held : (r p : ℕ) → r < 4 → p < at cut r → p < length (chains r)
  is_held r p few lt =
      let long = reached_within chains (cut-is_greatest own (dated own (w.histories own c))).reached r few in
      omega (arith, lt, long)

  pub held_at : (r p : ℕ) → p < length (chains r) → AtPlace w reached c low own r p
  held_at r p lt = at_place w reached c low own r p home lt

  -- the node with the key at a place
  pub node_there : (r p : ℕ) → p < length (chains r) → (key : Key)
      → slice_get (line (w.histories r c)) p ≡ Some key → (node : Node) → node_by_id w key.id ≡ Some node
      → held_node w own c (place_at r p)
      ≡ record { region = r; position = p; needs = vector (λ y. at (node_wants node c) y); text = node.text }
  node_there r p lt key there node listed =
      let x = held_at r p lt in
      let same_key : x.key ≡ key = some_same x.key key x.there there in
      let same_node : x.node ≡ node =
      some_same x.node node (subst (λ (k : Key). node_by_id w k.id ≡ Some x.node) same_key x.listed) listed in
      causal_node_is w reached c low own r p x
      ∙ ap (λ (n : Node). of n) same_node where
        of : Node → ChainNode
        of n = record { region = r; position = p; needs = vector (λ y. at (node_wants n c) y); text = n.text }

  -- there is one
  pub node_missing : (r p : ℕ) → p < length (chains r) → (key : Key)
      → slice_get (line (w.histories r c)) p ≡ Some key → node_by_id w key.id ≡ None → ⊥
  node_missing r p lt key there missing =
      let x = held_at r p lt in
      none_some x.node missing
      (subst (λ (k : Key). node_by_id w k.id ≡ Some x.node) (some_same x.key key x.there there) x.listed)

  -- the head at a place has the needs of the node there
  needs_there : (r p : ℕ) (head : Head) → slice_get (chains r) p ≡ Some head
      → (held_node w own c (place_at r p)).needs ≡ head.needs
  needs_there r p head there = ap (λ (h : Head). h.needs) (at_or (chains r) p head no_head there)

  -- whether it is next, by its wants
  pub is_next_by : (v : Counts) (r : ℕ) (node : Node) → at v r < at cut r
      → held_node w own c (place_at r (at v r))
      ≡ record { region = r; position = at v r; needs = vector (λ y. at (node_wants node c) y); text = node.text }
      → is_within (node_wants node c) v ≡ is_next w own c v r
  is_next_by v r node less is =
      ap (λ (n : ChainNode). is_within n.needs v) (sym is)
      ∙ sym (ap (λ (b : Bool). b && is_within (held_node w own c (place_at r (at v r))).needs v) (lt-ltb (at v r) (at cut r) less))

  pub none_is_next : (v : Counts) → ((r : ℕ) → r < 4 → is_next w own c v r ≡ false) → IsWithin v cut
      → (r : ℕ) → r < 4 → at v r ≡ at cut r
  none_is_next v none inside r lt =
      let up = all_counted chains v cut stuck (cut-is_greatest own (dated own (w.histories own c))).reached (within-refl cut) in
      let a = within-at cut v up r lt in
      let b = within-at v cut inside r lt in omega (arith, a, b) where
        stuck : (k : ℕ) → k < 4 → at v k < at cut k → (head : Head) → slice_get (chains k) (at v k) ≡ Some head
            → IsWithin head.needs v → ⊥
        stuck k few less head there needs =
            apart (is_next w own c v k)
            (and_from (nat_lt (at v k) (at cut k)) _ (lt-ltb (at v k) (at cut k) less)
            (subst (λ (n : Counts). IsWithin n v) (sym (needs_there k (at v k) head there)) needs)) (none k few)

  -- The next node, fed

  module _ (old : CausalMap) (r : ℕ) (few : r < 4) (is : is_next w own c (counts_of old) r ≡ true)
      (fold : IsCausalFold w own c old) where
    abbrev v : Counts
    v = counts_of old

    abbrev node : ChainNode
    node = held_node w own c (place_at r (at v r))

    pub below : at v r < at cut r
    below = ltb-true (at v r) (at cut r) (and_parts (nat_lt (at v r) (at cut r)) (is_within node.needs v) is).0

    needs_low : IsWithin node.needs v
    needs_low = (and_parts (nat_lt (at v r) (at cut r)) (is_within node.needs v) is).1

    vector_needs : (s : ℕ) → 4 ≤ s → at node.needs s ≡ 0
    vector_needs s le =
        let x = held_at r (at v r) (is_held r (at v r) few below) in
        ap (λ (n : ChainNode). at n.needs s) (causal_node_is w reached c low own r (at v r) x) ∙ past_end (λ y. at (node_wants x.node c) y) s le where
          past_end : (f : ℕ → ℕ) (s : ℕ) → 4 ≤ s → at (vector f) s ≡ 0
          past_end f zero le = absurd (let g : ⊥ = omega (arith, le) in g)
          past_end f (suc zero) le = absurd (let g : ⊥ = omega (arith, le) in g)
          past_end f (suc (suc zero)) le = absurd (let g : ⊥ = omega (arith, le) in g)
          past_end f (suc (suc (suc zero))) le = absurd (let g : ⊥ = omega (arith, le) in g)
          past_end f (suc (suc (suc (suc s)))) le = refl

    -- what it wants is within the cut
    pub needs_up_to : (wants : Counts) → node.needs ≡ vector (λ y. at wants y) → node.needs ≡ least wants cut
    needs_up_to wants is = is ∙ same_vectors (λ y. at wants y) (λ y. min (at wants y) (at cut y)) each where
      each : (s : ℕ) → s < 4 → at wants s ≡ min (at wants s) (at cut s)
      each s low_s =
          let a = within-at node.needs v needs_low s low_s in
          let b = within-at v cut fold.within s low_s in
          let e : at node.needs s ≡ at wants s = ap (λ (n : Counts). at n s) is ∙ at-vector (λ y. at wants y) s low_s in
          omega (arith, a, b, e)

    pub comes_next : MayPlayNext fold.nodes node
    comes_next = record {
      region = few;
      position = counts_fed old fold.nodes fold.folded r few;
      needs = λ s. elim (cases_lt s 4) [
        | inl low_s ↦ let a = within-at node.needs v needs_low s low_s in let b = counts_fed old fold.nodes fold.folded s low_s in omega (arith, a, b)
        | inr high ↦ let a = vector_needs s high in omega (arith, a)
      ];
    }

    -- one node more is counted
    pub one_counted : (new : CausalMap) → IsCausalMap new (fold.nodes ++ node ∷ []) → counts_of new ≡ one_more v r
    one_counted new map_is = one_more_fed old new fold.nodes node fold.folded map_is

    pub one_fed : (new : CausalMap) → IsCausalMap new (fold.nodes ++ node ∷ []) → IsCausalFold w own c new
    one_fed new map_is =
        let counts_are = one_counted new map_is in record {
          nodes = fold.nodes ++ node ∷ [];
          folded = map_is;
          are = subst (λ (n : Counts). IsPermutation (fold.nodes ++ node ∷ []) (held_nodes w own c n)) (sym counts_are)
              (IsPermutation-trans (fold.nodes ++ node ∷ []) (node ∷ fold.nodes) (held_nodes w own c (one_more v r))
              (IsPermutation-to_front fold.nodes node)
              (IsPermutation-trans (node ∷ fold.nodes) (node ∷ held_nodes w own c v) (held_nodes w own c (one_more v r))
              (IsPermutation-cons node fold.nodes (held_nodes w own c v) fold.are)
              (IsPermutation-map (held_node w own c) (place_at r (at v r) ∷ places_within v) (places_within (one_more v r))
              (more_places v r few))));
          within = subst (λ (n : Counts). IsWithin n cut) (sym counts_are)
              (within (one_more v r) cut (λ s low_s. bound s low_s));
        } where
          bound : (s : ℕ) → s < 4 → at (one_more v r) s ≤ at cut s
          bound s low_s =
              let a = at-one_more v r s low_s in
              let b = within-at v cut fold.within s low_s in
              by_test _ (s == r)
              (λ t. let d = if_true (s == r) (at v s + 1) (at v s) t in
              let k = subst (λ (i : ℕ). at v i < at cut i) (sym (eqb-true s r t)) below in omega (arith, a, d, k))
              (λ f. let d = if_false (s == r) (at v s + 1) (at v s) f in omega (arith, a, d, b))

  -- a map of the same nodes, as a refused feed leaves it
  pub none_more : (old new : CausalMap) (fold : IsCausalFold w own c old) → IsCausalMap new fold.nodes → IsCausalFold w own c new
  none_more old new fold map_is =
      let same = same_fed old new fold.nodes fold.folded map_is in record {
        nodes = fold.nodes;
        folded = map_is;
        are = subst (λ (v : Counts). IsPermutation fold.nodes (held_nodes w own c v)) same fold.are;
        within = subst (λ (v : Counts). IsWithin v cut) same fold.within;
      }

  -- What the fold answers when all are fed

  pub fold_answers : (fold : CausalMap) (is : IsCausalFold w own c fold)
      → ((r : ℕ) → r < 4 → at (counts_of fold) r ≡ at cut r)
      → (key : List ℕ) (values : List (List ℕ)) → IsCausalAnswer is.nodes key values
      → values ≡ causal_values (held_nodes w own c cut) key
  fold_answers fold is all key values says =
      one_answer is.nodes (held_nodes w own c cut) key values (causal_values (held_nodes w own c cut) key)
      (subst (λ (places : List Place). IsPermutation is.nodes (map (held_node w own c) places))
      (same_places (counts_of fold) cut all) is.are)
      says (causal_answer (held_nodes w own c cut) key)

-- A get, by what its calls did

pub got_refused : (command : Command) (w : World) (colour : ℕ) (key : List ℕ) (base : Counts)
    → may_play w command.client colour ≡ false → base ≡ base_now w command.client colour
    → DoneBy (λ _ state. got_values state command colour key) command w w (answers.Trimmed colour base) []
got_refused command w colour key base may is = record {
  grants = all_granted;
  begun = refl;
  is = λ replies.
      let state = with_replies w replies in
      if_false (may_play w command.client colour) _
      (answered state command w (answers.Trimmed colour (base_now w command.client colour)) []) may
      ∙ ap (λ (v : Counts). answered state command w (answers.Trimmed colour v) []) (sym is);
}

pub got_all : (command : Command) (w new : World) (colour : ℕ) (key : List ℕ) (values : List (List ℕ))
    (piece : SyncPiece) → may_play w command.client colour ≡ true
    → values ≡ causal_values (nodes_up_to_cut w command.client colour) key → piece ≡ sync_now w command.client colour
    → new ≡ after w (Play command.client colour)
    → DoneBy (λ _ state. got_values state command colour key) command w new (answers.GotMany values piece) []
got_all command w new colour key values piece may are looked played = record {
  grants = all_granted;
  begun = refl;
  is = λ replies.
      let state = with_replies w replies in
      let client = command.client in
      let found = causal_values (nodes_up_to_cut w client colour) key in
      if_true (may_play w client colour)
      (answered state command (after w (Play client colour)) (answers.GotMany found (sync_now w client colour)) []) _ may
      ∙ (ap (λ (x : World). answered state command x (answers.GotMany found (sync_now w client colour)) []) (sym played)
      ∙ (ap (λ (l : List (List ℕ)). answered state command new (answers.GotMany l (sync_now w client colour)) []) (sym are)
      ∙ ap (λ (p : SyncPiece). answered state command new (answers.GotMany values p) []) (sym looked)));
}
