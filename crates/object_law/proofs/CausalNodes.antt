-- The nodes that a causal map is fed along the lines of a colour, and what it answers then.
use Rattle.std.proofs.Common.{◌≡◌, ◌∙◌, refl, ap, sym, subst, ℕ, zero, suc, ◌+◌, ◌-◌, ◌<◌, ◌≤◌, min, Bool, true, List, [], ◌∷◌, ◌++◌, map, take, Option, Some, None, inl, inr, arith}
use Rattle.std.specs.Prelude.{◌==◌, nat_lt, slice_get}
use Rattle.std.specs.List.{AllZip, range_with_len}
use Rattle.std.proofs.lemmas.Bool.{and_from, and_parts, cases_lt, eqb-true, lt-ltb, ltb-true}
use Rattle.std.proofs.lemmas.List.Sorted.{IsPermutation-cons, IsPermutation-refl, IsPermutation-to_front, IsPermutation-trans}
use mathlib.Core.List.{IsPrefix}
use Rattle.log_node.specs.declared.ids.Counts.{Counts}
use Rattle.log_node.specs.declared.ids.Id.{Id}
use Rattle.log_node.specs.declared.ids.Key.{Key}
use Rattle.log_node.specs.declared.node.Head.{Head}
use Rattle.log_node.specs.declared.node.Node.{Node}
use Rattle.log_node.specs.Reach.{Chains, Reachable, is_covered, next, nothing}
use Rattle.log_node.specs.Vectors.{IsWithin, all_regions, at, one_more, vector}
use Rattle.log_node.proofs.CallerLemmas.{all_zip_of, at-one_more, each_region, get_longer, get_map_back, get_within, reached_within, same_some, within, within-at, within-one_more, within-trans, within-zeros}
use Rattle.col_core.specs.declared.Entry.{Entry}
use Rattle.col_core.specs.declared.Event.{Event}
use Rattle.col_core.specs.declared.Event.TheVariants.{Single, Propose, Settle, Raise, Give, Carry, Trim}
use Rattle.col_core.specs.Computed.{dated}
use Rattle.col_core.specs.Cuts.{Dated, chain, needs_in, needs_of}
use Rattle.col_core.specs.History.{enters, line}
use Rattle.col_core.specs.Legal.{IsColumnHistory}
use Rattle.col_core.specs.Log.{HasText, Log}
use Rattle.col_core.specs.PlayOrder.{Place}
use Rattle.col_core.proofs.CallerLemmas.{In, by_test, choice, if_false, if_true, in_flat_map, in_flat_map-back, in_map, in_map-back, in_range, range_has, reachable_grows}
use Rattle.column_track.specs.Tracks.{Tells, Tracked}
use Rattle.object_fold.specs.Causal.{ChainNode, IsCausalAnswer}
use Rattle.object_fold.specs.declared.causal_map.CausalMap.{CausalMap}
use Rattle.object_fold.specs.CausalStates.{IsCausalMap, counts_of}
use Rattle.object_fold.specs.Pasts.{MayPlayNext}
use Rattle.object_fold.proofs.CallerLemmas.{counts_fed, none_fed, one_more_fed}
use Rattle.playback.specs.Orders.{is_free}
use Rattle.report_text.specs.declared.report.SyncPiece.{SyncPiece}
use Rattle.lawful_run.specs.Callers.{Caller, caller_of}
use Rattle.lawful_run.specs.Objects.{GetsValues, IsChainNode, places_within}
use Rattle.lawful_run.proofs.CallerLemmas.{in_regions, more_places, regions_in, same_places, zip_to}
use Rattle.run_rules.proofs.CallerLemmas.{one_text}
use Rattle.object_law.specs.CausalPlays.{AreLineNodes, GetsByLines, IsFed, ShowsCut}
use Rattle.object_law.specs.Tenth.{log_with}
use Rattle.object_law.proofs.OneAnswer.{answer_in, one_answer}
use Rattle.object_law.proofs.Shuffles.{beside_others}
use Rattle.walk_law.specs.Playing.{free_head, lines_of}
use Rattle.walk_law.specs.Walking.{MayWalk, Walked, journal_walked}
use Rattle.walk_law.proofs.CallerLemmas.{begins, told_as}

-- PLACES

abbrev place_at : ℕ → ℕ → Place
place_at region position = record { region = region; position = position }

abbrev places_of : Counts → ℕ → List Place
places_of v region = map (place_at region) (range_with_len 0 (at v region))

-- a vector counts these places
place_counted : (v : Counts) (p : Place) → In p (places_within v) → (p.region < 4) × (p.position < at v p.region)
place_counted v p i =
    let r = in_flat_map (places_of v) all_regions p i in
    let m = in_map (place_at r.0) (range_with_len 0 (at v r.0)) p r.2 in
    let lt = (in_range 0 (at v r.0) m.0 m.1).1 in
    let short : m.0 < at v r.0 = omega (arith, lt) in (
      subst (λ (q : Place). q.region < 4) m.2 (regions_in r.0 r.1),
      subst (λ (q : Place). q.position < at v q.region) m.2 short,
    )

counted_place : (v : Counts) (r n : ℕ) → r < 4 → n < at v r → In (place_at r n) (places_within v)
counted_place v r n few lt =
    in_flat_map-back (places_of v) all_regions r (place_at r n) (in_regions r few)
    (in_map-back (place_at r) (range_with_len 0 (at v r)) n (range_has 0 (at v r) n (omega arith) (omega (arith, lt))))

-- NODES

module _ (log : Log) (chains : Chains) where
  -- a place has one node
  one_node : (p : Place) (x z : ChainNode) → IsChainNode log chains p x → IsChainNode log chains p z → x ≡ z
  one_node p x z f g =
      let region : x.region ≡ z.region = f.region_is ∙ sym g.region_is in
      let position : x.position ≡ z.position = f.position_is ∙ sym g.position_is in
      let head : f.head ≡ g.head = same_some (sym f.stands ∙ g.stands) in
      let needs : x.needs ≡ z.needs = f.needs_are ∙ (ap (λ (h : Head). h.needs) head ∙ sym g.needs_are) in
      let text : x.text ≡ z.text =
      one_text log f.head.key.id g.head.key.id (ap (λ (h : Head). h.key.id) (sym head)) x.text z.text f.text g.text in
      ap (λ (n : ℕ). record { region = n; position = x.position; needs = x.needs; text = x.text }) region
      ∙ (ap (λ (n : ℕ). record { region = z.region; position = n; needs = x.needs; text = x.text }) position
      ∙ (ap (λ (c : Counts). record { region = z.region; position = z.position; needs = c; text = x.text }) needs
      ∙ ap (λ (l : List ℕ). record { region = z.region; position = z.position; needs = z.needs; text = l }) text))

  -- so places have the same nodes
  same_nodes : (ps : List Place) (xs ys : List ChainNode) → AllZip (IsChainNode log chains) ps xs
      → AllZip (IsChainNode log chains) ps ys → xs ≡ ys
  same_nodes [] [] [] a b = refl
  same_nodes [] [] (y ∷ ys) a b = absurd b
  same_nodes [] (x ∷ xs) ys a b = absurd a
  same_nodes (p ∷ ps) [] ys a b = absurd a
  same_nodes (p ∷ ps) (x ∷ xs) [] a b = absurd b
  same_nodes (p ∷ ps) (x ∷ xs) (y ∷ ys) a b =
      ap (λ (n : ChainNode). n ∷ xs) (one_node p x y a.0 b.0) ∙ ap (λ (l : List ChainNode). y ∷ l) (same_nodes ps xs ys a.1 b.1)

-- NEEDS

past_end : (f : ℕ → ℕ) (s : ℕ) → 4 ≤ s → at (vector f) s ≡ 0
past_end f zero le = absurd (let g : ⊥ = omega (arith, le) in g)
past_end f (suc zero) le = absurd (let g : ⊥ = omega (arith, le) in g)
past_end f (suc (suc zero)) le = absurd (let g : ⊥ = omega (arith, le) in g)
past_end f (suc (suc (suc zero))) le = absurd (let g : ⊥ = omega (arith, le) in g)
past_end f (suc (suc (suc (suc s)))) le = refl

-- there are four numbers in what a node needs
event_end : (event : Event) (cut : Counts) (s : ℕ) → 4 ≤ s → at (needs_in event cut) s ≡ 0
event_end (Single id floor wants) cut s le = past_end (λ r. min (at wants r) (at cut r)) s le
event_end (Propose id floor wants) cut s le = past_end (λ r. min (at wants r) (at cut r)) s le
event_end (Settle id outcome) cut s le = past_end (λ _. 0) s le
event_end (Raise to) cut s le = past_end (λ _. 0) s le
event_end (Give region from) cut s le = past_end (λ _. 0) s le
event_end (Carry region start heads) cut s le = past_end (λ _. 0) s le
event_end (Trim counts) cut s le = past_end (λ _. 0) s le

needs_end : (ds : List Dated) (id : Id) (s : ℕ) → 4 ≤ s → at (needs_of ds id) s ≡ 0
needs_end [] id s le = past_end (λ _. 0) s le
needs_end (d ∷ ds) id s le =
    choice (λ (v : Counts). at v s ≡ 0) (enters id d.entry.event) (needs_in d.entry.event d.cut_before) (needs_of ds id)
    (λ _. event_end d.entry.event d.cut_before s le) (λ _. needs_end ds id s le)

head_end : (walked : Walked) (colour region position : ℕ) (head : Head)
    → slice_get (lines_of walked colour region) position ≡ Some head → (s : ℕ) → 4 ≤ s → at head.needs s ≡ 0
head_end walked colour region position head there s le =
    let journal : List Entry = journal_walked walked region colour in
    let of : Key → Head = λ key. record { key = key; needs = needs_of (dated region journal) key.id } in
    let k = get_map_back of (line journal) position head there in
    subst (λ (h : Head). at h.needs s ≡ 0) k.2 (needs_end (dated region journal) k.0.id s le)

-- WHICH NODE COMES NEXT

module _ (chains : Chains) where
  -- a free head stands next, below the vector, and needs no more than is counted
  free_is : (v to : Counts) (r : ℕ) (head : Head) → free_head chains v to r ≡ Some head
      → (at v r < at to r) × (slice_get (chains r) (at v r) ≡ Some head) × IsWithin head.needs v
  free_is v to r head e =
      let there : Option Head = slice_get (chains r) (at v r) in
      by_test _ (is_free chains v to r)
      (λ t.
      let is : slice_get (chains r) (at v r) ≡ Some head = sym (if_true (is_free chains v to r) there None t) ∙ e in
      let parts = and_parts (nat_lt (at v r) (at to r)) (is_covered v (slice_get (chains r) (at v r))) t in (
        ltb-true (at v r) (at to r) parts.0,
        is,
        subst (λ (o : Option Head). is_covered v o ≡ true) is parts.1,
      ))
      (λ f. absurd (let n : None ≡ Some head = sym (if_false (is_free chains v to r) there None f) ∙ e in let z : ⊥ = cc (n) in z))

  none_free : (v to : Counts) (r : ℕ) → free_head chains v to r ≡ None → at v r < at to r → (head : Head)
      → slice_get (chains r) (at v r) ≡ Some head → IsWithin head.needs v → ⊥
  none_free v to r none less head there needs =
      let covered : is_covered v (slice_get (chains r) (at v r)) ≡ true =
      subst (λ (o : Option Head). is_covered v o ≡ true) (sym there) needs in
      let t : is_free chains v to r ≡ true =
      and_from (nat_lt (at v r) (at to r)) (is_covered v (slice_get (chains r) (at v r))) (lt-ltb (at v r) (at to r) less) covered in
      let n : None ≡ Some head = sym none ∙ (if_true (is_free chains v to r) (slice_get (chains r) (at v r)) None t ∙ there) in
      let z : ⊥ = cc (n) in z

  -- where no region's next node may be fed on the way to a vector that can be reached, all up to it are counted
  all_counted : (v to : Counts) → ((r : ℕ) → r < 4 → free_head chains v to r ≡ None) → {u : Counts} → Reachable chains u
      → IsWithin u to → IsWithin u v
  all_counted v to stuck nothing inside = within-zeros v
  all_counted v to stuck (next {v = u} region head reached few there needs) inside =
      let low = within-trans u (one_more u region) to (within-one_more u region) inside in
      let before = all_counted v to stuck reached low in
      within (one_more u region) v (λ r lt. each r lt before) where
        each : (r : ℕ) → r < 4 → IsWithin u v → at (one_more u region) r ≤ at v r
        each r lt before =
            let a = at-one_more u region r lt in
            let b = within-at u v before r lt in
            by_test _ (r == region)
            (λ t. let e = eqb-true r region t in
            let m = a ∙ if_true (r == region) (at u r + 1) (at u r) t in
            elim (cases_lt (at u r) (at v r)) [
              | inl more ↦ omega (arith, m, more)
              | inr rest ↦
                  let same : at v r ≡ at u r = omega (arith, rest, b) in
                  let bound = within-at (one_more u region) to inside r lt in
                  let here : slice_get (chains r) (at v r) ≡ Some head =
                  subst (λ (k : ℕ). slice_get (chains k) (at v k) ≡ Some head) (sym e)
                  (subst (λ (n : ℕ). slice_get (chains region) n ≡ Some head)
                  (sym (subst (λ (k : ℕ). at v k ≡ at u k) e same)) there) in
                  absurd (none_free v to r (stuck r lt) (omega (arith, bound, m, same)) head here
                  (within-trans head.needs u v needs before))
            ])
            (λ f. let m = a ∙ if_false (r == region) (at u r + 1) (at u r) f in omega (arith, m, b))

  pub all_fed : (v to : Counts) → IsWithin v to → ((r : ℕ) → r < 4 → free_head chains v to r ≡ None) → Reachable chains to
      → (r : ℕ) → r < 4 → at v r ≡ at to r
  all_fed v to inside stuck reached r lt =
      let up = all_counted v to stuck reached (within to to (λ k few. omega arith)) in
      let a = within-at to v up r lt in
      let b = within-at v to inside r lt in omega (arith, a, b)

-- how many nodes are left
abbrev pub left_of : Counts → Counts → ℕ
left_of to v = (at to 0 - at v 0) + (at to 1 - at v 1) + (at to 2 - at v 2) + (at to 3 - at v 3)

fewer_left : (to v : Counts) (r : ℕ) → r < 4 → at v r < at to r → left_of to (one_more v r) < left_of to v
fewer_left to v r lt =
    each_region (λ k. at v k < at to k → left_of to (one_more v k) < left_of to v)
    (λ h. omega (arith, h)) (λ h. omega (arith, h)) (λ h. omega (arith, h)) (λ h. omega (arith, h)) r lt

one_within : (to v : Counts) (r : ℕ) → at v r < at to r → IsWithin v to → IsWithin (one_more v r) to
one_within to v r less inside = within (one_more v r) to each where
  each : (s : ℕ) → s < 4 → at (one_more v r) s ≤ at to s
  each s lt =
      let a = at-one_more v r s lt in
      let b = within-at v to inside s lt in
      by_test _ (s == r)
      (λ t. let d = if_true (s == r) (at v s + 1) (at v s) t in
      let k = subst (λ (i : ℕ). at v i < at to i) (sym (eqb-true s r t)) less in omega (arith, a, d, k))
      (λ f. let d = if_false (s == r) (at v s + 1) (at v s) f in omega (arith, a, d, b))

-- MAPS

module _ (walked : Walked) (table : List (List Node)) (colour : ℕ) where
  abbrev chains : Chains
  chains = lines_of walked colour

  abbrev log : Log
  log = log_with walked table

  pub fed_first : (m : CausalMap) → IsCausalMap m [] → IsFed walked table colour m
  fed_first m is = record {
    fed = [];
    holds = is;
    nodes = [];
    are = subst (λ (v : Counts). AreLineNodes walked table colour v []) (sym (none_fed m is)) tt;
    each_once = IsPermutation-refl [];
  }

  -- the table lacks the next node
  pub lacks : (v to : Counts) (r : ℕ) (head : Head) → r < 4 → free_head chains v to r ≡ Some head
      → ((text : List ℕ) → HasText log head.key.id text → ⊥) → (nodes : List ChainNode) → AreLineNodes walked table colour to nodes → ⊥
  lacks v to r head few free none nodes are =
      let f = free_is chains v to r head free in
      let y = zip_to (IsChainNode log chains) (places_within to) nodes are (place_at r (at v r))
      (counted_place to r (at v r) few f.0) in
      let same : y.2.head ≡ head = same_some (sym y.2.stands ∙ f.1) in
      none y.0.text (subst (λ (h : Head). HasText log h.key.id y.0.text) same y.2.text)

  -- the next node is fed
  module _ (old new : CausalMap) (is : IsFed walked table colour old) (to : Counts) (r : ℕ) (few : r < 4) (head : Head)
      (free : free_head chains (counts_of old) to r ≡ Some head) (text : List ℕ) (has : HasText log head.key.id text)
      (feeds : (played : List ChainNode) (node : ChainNode) → node.region ≡ r → node.needs ≡ head.needs → node.text ≡ text
      → MayPlayNext played node → IsCausalMap old played → IsCausalMap new (played ++ node ∷ [])) where
    abbrev v : Counts
    v = counts_of old

    abbrev node : ChainNode
    node = record { region = r; position = at v r; needs = head.needs; text = text }

    its : (at v r < at to r) × (slice_get (chains r) (at v r) ≡ Some head) × IsWithin head.needs v
    its = free_is chains v to r head free

    is_node : IsChainNode log chains (place_at r (at v r)) node
    is_node = record {
      head = head;
      stands = its.1;
      region_is = refl;
      position_is = refl;
      needs_are = refl;
      text = has;
    }

    comes_next : MayPlayNext is.fed node
    comes_next = record {
      region = few;
      position = counts_fed old is.fed is.holds r few;
      needs = λ s. elim (cases_lt s 4) [
        | inl low ↦
            let a = within-at head.needs v its.2 s low in
            let b = counts_fed old is.fed is.holds s low in omega (arith, a, b)
        | inr high ↦ let a = head_end walked colour r (at v r) head its.1 s high in omega (arith, a)
      ];
    }

    now : IsCausalMap new (is.fed ++ node ∷ [])
    now = feeds is.fed node refl refl refl comes_next is.holds

    counted : counts_of new ≡ one_more v r
    counted = one_more_fed old new is.fed node is.holds now

    pub fed_more : IsFed walked table colour new
    fed_more =
        let m = beside_others (IsChainNode log chains) (place_at r (at v r) ∷ places_within v) (places_within (one_more v r))
        (more_places v r few) (node ∷ is.nodes) (is_node, is.are) in record {
          fed = is.fed ++ node ∷ [];
          holds = now;
          nodes = m.0;
          are = subst (λ (n : Counts). AreLineNodes walked table colour n m.0) (sym counted) m.1;
          each_once = IsPermutation-trans (is.fed ++ node ∷ []) (node ∷ is.fed) m.0 (IsPermutation-to_front is.fed node)
              (IsPermutation-trans (node ∷ is.fed) (node ∷ is.nodes) m.0 (IsPermutation-cons node is.fed is.nodes is.each_once) m.2);
        }

    pub more_within : IsWithin v to → IsWithin (counts_of new) to
    more_within inside =
        subst (λ (n : Counts). IsWithin n to) (sym counted) (one_within to v r its.0 inside)

    pub less_left : left_of to (counts_of new) < left_of to v
    less_left = subst (λ (n : Counts). left_of to n < left_of to v) (sym counted) (fewer_left to v r few its.0)

  -- what the map answers, where all nodes up to a vector are fed
  pub values_told : (m : CausalMap) (is : IsFed walked table colour m) (to : Counts)
      → ((r : ℕ) → r < 4 → at (counts_of m) r ≡ at to r) → (key : List ℕ) (found values : List (List ℕ)) (b : Bool)
      → ((played : List ChainNode) → IsCausalMap m played → IsCausalAnswer played key found) → Tells b (found ≡ values)
      → Tells b (GetsByLines walked table colour to key values)
  values_told m is to same key found values b says told =
      told_as b (found ≡ values) (GetsByLines walked table colour to key values)
      (λ e. record { nodes = is.nodes; played = all; answer = subst (λ (l : List (List ℕ)). IsCausalAnswer is.nodes key l) e right })
      (λ g. one_answer is.nodes key found values right
      (subst (λ (ns : List ChainNode). IsCausalAnswer ns key values)
      (same_nodes log chains (places_within to) g.nodes is.nodes g.played all) g.answer))
      told where
        all : AreLineNodes walked table colour to is.nodes
        all = subst (λ (ps : List Place). AllZip (IsChainNode log chains) ps is.nodes) (same_places (counts_of m) to same) is.are

        right : IsCausalAnswer is.nodes key found
        right = answer_in is.fed is.nodes key found is.each_once (says is.fed is.holds)

-- WHAT A COLUMN HOLDS

module _ (walked : Walked) (tracks : List Tracked) (may : MayWalk walked.script walked.report tracks) (client : ℕ) (sync : SyncPiece)
    (own : ℕ) (is : own ≡ (caller_of walked.script client).own) (lt : own < walked.script.shape.regions)
    (low : sync.colour < walked.script.shape.colours)
    (legal : IsColumnHistory own walked.script.shape.regions (dated own (journal_walked walked own sync.colour)))
    (cut : ShowsCut walked client sync) where
  abbrev caller : Caller
  caller = caller_of walked.script client

  abbrev held : Chains
  held = chain caller.own (dated caller.own (take sync.events (journal_walked walked caller.own sync.colour)))

  abbrev lines : Chains
  lines = lines_of walked sync.colour

  prefix : (region : ℕ) → IsPrefix (held region) (lines region)
  prefix =
      begins walked tracks may caller.own sync.colour (subst (λ (o : ℕ). o < walked.script.shape.regions) is lt) low
      (subst (λ (o : ℕ). IsColumnHistory o walked.script.shape.regions (dated o (journal_walked walked o sync.colour))) is legal)
      sync.events

  pub lines_reached : Reachable lines sync.counts
  lines_reached = reachable_grows held lines prefix sync.counts cut.reached

  module _ (log : Log) where
    to_lines : (p : Place) (n : ChainNode) → IsChainNode log held p n → IsChainNode log lines p n
    to_lines p n f = record {
      head = f.head;
      stands = sym (ap (λ (l : List Head). slice_get l p.position) (prefix p.region).1)
          ∙ get_longer (held p.region) (prefix p.region).0 p.position f.head f.stands;
      region_is = f.region_is;
      position_is = f.position_is;
      needs_are = f.needs_are;
      text = f.text;
    }

    from_lines : (p : Place) (n : ChainNode) → In p (places_within sync.counts) → IsChainNode log lines p n → IsChainNode log held p n
    from_lines p n i f =
        let counted = place_counted sync.counts p i in
        let long = reached_within held cut.reached p.region counted.0 in
        let short = counted.1 in
        let there = get_within (held p.region) p.position (omega (arith, long, short)) in
        let more = get_longer (held p.region) (prefix p.region).0 p.position there.0 there.1 in
        let same : there.0 ≡ f.head =
        same_some (sym more ∙ (ap (λ (l : List Head). slice_get l p.position) (prefix p.region).1 ∙ f.stands)) in
        record {
          head = f.head;
          stands = there.1 ∙ ap (λ (h : Head). Some h) same;
          region_is = f.region_is;
          position_is = f.position_is;
          needs_are = f.needs_are;
          text = f.text;
        }

    all_from : (ps : List Place) (ns : List ChainNode) → ((p : Place) → In p ps → In p (places_within sync.counts))
        → AllZip (IsChainNode log lines) ps ns → AllZip (IsChainNode log held) ps ns
    all_from [] [] inside z = tt
    all_from [] (n ∷ ns) inside z = absurd z
    all_from (p ∷ ps) [] inside z = absurd z
    all_from (p ∷ ps) (n ∷ ns) inside z =
        (from_lines p n (inside p (inl refl)) z.0, all_from ps ns (λ q i. inside q (inr i)) z.1)

  -- the values over the lines are those over what the column held
  pub lines_told : (table : List (List Node)) (key : List ℕ) (values : List (List ℕ)) (b : Bool)
      → Tells b (GetsByLines walked table sync.colour sync.counts key values)
      → Tells b (GetsValues (log_with walked table) caller sync key values)
  lines_told table key values b told =
      let places = places_within sync.counts in
      let g = log_with walked table in
      told_as b (GetsByLines walked table sync.colour sync.counts key values) (GetsValues g caller sync key values)
      (λ x. record { nodes = x.nodes; played = all_from g places x.nodes (λ p i. i) x.played; answer = x.answer })
      (λ x. record {
        nodes = x.nodes;
        played = all_zip_of (IsChainNode g held) (IsChainNode g lines) (to_lines g) places x.nodes x.played;
        answer = x.answer;
      })
      told
