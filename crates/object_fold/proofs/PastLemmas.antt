-- One more played node: what it follows, and that nothing follows it.
use Rattle.std.proofs.Common.{◌≡◌, ℕ, zero, suc, ◌+◌, ◌-◌, ◌<◌, ◌≤◌, ◌⊎◌, inl, inr, max, Bool, cond, eqb, List, [], ◌∷◌, ◌++◌, length, Some, refl, ap, sym, subst, ◌∙◌, arith, length-append}
use Rattle.std.specs.Prelude.{slice_get, count_by}
use Rattle.std.specs.List.{Contains}
use Rattle.std.proofs.lemmas.List.{get_or_past}
use Rattle.std.proofs.lemmas.List.Sums.{fold_push}
use Rattle.std.proofs.lemmas.Option.{slice_get_within}
use Rattle.std.proofs.lemmas.Bool.{cases_eq, cases_Bool, cases_lt, eqb-true, eq-eqb, ne_eqb}
use Rattle.std.proofs.lemmas.List.Elements.{Contains-append_left, Contains-push, Contains-push_cases}
use Rattle.log_node.specs.declared.ids.Counts.{Counts}
use Rattle.log_node.specs.Vectors.{at, vector, zeros}
use Rattle.object_fold.specs.Causal.{ChainNode, FollowsAtOnce, FollowsCausally}
use Rattle.object_fold.specs.Causal.FollowsCausally.{at_once as at_once_of, through}
use Rattle.object_fold.specs.Pasts.{past_chain, joined, at_once, last_past, past_of, IsPast, ArePasts, MayPlayNext}
use Rattle.log_node.proofs.CallerLemmas.{same_some as some_same}
use Rattle.log_node.proofs.CallerLemmas.{get_push}
use Rattle.log_node.proofs.CallerLemmas.{get_longer as get_left}
use Rattle.log_node.proofs.CallerLemmas.{get_last}

-- ---- vectors

at_vector : (f : ℕ → ℕ) (t : ℕ) → t < 4 → at (vector f) t ≡ f t
at_vector f zero lt = refl
at_vector f (suc zero) lt = refl
at_vector f (suc (suc zero)) lt = refl
at_vector f (suc (suc (suc zero))) lt = refl
at_vector f (suc (suc (suc (suc t)))) lt = absurd (omega arith)

at_past_end : (f : ℕ → ℕ) (t : ℕ) → 4 ≤ t → at (vector f) t ≡ 0
at_past_end f zero le = absurd (omega arith)
at_past_end f (suc zero) le = absurd (omega arith)
at_past_end f (suc (suc zero)) le = absurd (omega arith)
at_past_end f (suc (suc (suc zero))) le = absurd (omega arith)
at_past_end f (suc (suc (suc (suc t)))) le = refl

joined_at : (v w : Counts) (t : ℕ) → t < 4 → at (joined v w) t ≡ max (at v t) (at w t)
joined_at v w t lt = at_vector (λ r. max (at v r) (at w r)) t lt

-- a number below the greater one is below one of both
below_joined : (v w : Counts) (t n : ℕ) → t < 4 → n < at (joined v w) t → (n < at v t) ⊎ (n < at w t)
below_joined v w t n lt below =
    let e = joined_at v w t lt in
    elim (cases_lt n (at v t)) [
      | inl h ↦ inl h
      | inr h ↦ inr (omega (arith, e, below, h))
    ]

left_below : (v w : Counts) (t : ℕ) → t < 4 → at v t ≤ at (joined v w) t
left_below v w t lt = omega (arith, joined_at v w t lt)

right_below : (v w : Counts) (t : ℕ) → t < 4 → at w t ≤ at (joined v w) t
right_below v w t lt = omega (arith, joined_at v w t lt)

-- a number below a node's vector is below what it follows at once, or below the last vector of some chain
below_past : (pasts : List (List Counts)) (s : Counts) (t n : ℕ) → t < 4 → n < at (past_of pasts s) t
    → (n < at s t) ⊎ ((r : ℕ) × (r < 4) × (n < at (last_past pasts s r) t))
below_past pasts s t n lt below =
    let l = last_past pasts s in
    elim (below_joined (joined (joined (joined s (l 0)) (l 1)) (l 2)) (l 3) t n lt below) [
      | inr h ↦ inr (3, omega arith, h)
      | inl h3 ↦ elim (below_joined (joined (joined s (l 0)) (l 1)) (l 2) t n lt h3) [
        | inr h ↦ inr (2, omega arith, h)
        | inl h2 ↦ elim (below_joined (joined s (l 0)) (l 1) t n lt h2) [
          | inr h ↦ inr (1, omega arith, h)
          | inl h1 ↦ elim (below_joined s (l 0) t n lt h1) [
            | inr h ↦ inr (0, omega arith, h)
            | inl h ↦ inl h
          ]
        ]
      ]
    ]

start_below : (pasts : List (List Counts)) (s : Counts) (t : ℕ) → t < 4 → at s t ≤ at (past_of pasts s) t
start_below pasts s t lt =
    let l = last_past pasts s in
    omega (arith, left_below s (l 0) t lt, left_below (joined s (l 0)) (l 1) t lt, left_below (joined (joined s (l 0)) (l 1)) (l 2) t lt, left_below (joined (joined (joined s (l 0)) (l 1)) (l 2)) (l 3) t lt)

last_below : (pasts : List (List Counts)) (s : Counts) (r t : ℕ) → r < 4 → t < 4 → at (last_past pasts s r) t ≤ at (past_of pasts s) t
last_below pasts s zero t lt h =
    let l = last_past pasts s in
    omega (arith, right_below s (l 0) t h, left_below (joined s (l 0)) (l 1) t h, left_below (joined (joined s (l 0)) (l 1)) (l 2) t h, left_below (joined (joined (joined s (l 0)) (l 1)) (l 2)) (l 3) t h)
last_below pasts s (suc zero) t lt h =
    let l = last_past pasts s in
    omega (arith, right_below (joined s (l 0)) (l 1) t h, left_below (joined (joined s (l 0)) (l 1)) (l 2) t h, left_below (joined (joined (joined s (l 0)) (l 1)) (l 2)) (l 3) t h)
last_below pasts s (suc (suc zero)) t lt h =
    let l = last_past pasts s in
    omega (arith, right_below (joined (joined s (l 0)) (l 1)) (l 2) t h, left_below (joined (joined (joined s (l 0)) (l 1)) (l 2)) (l 3) t h)
last_below pasts s (suc (suc (suc zero))) t lt h =
    let l = last_past pasts s in right_below (joined (joined (joined s (l 0)) (l 1)) (l 2)) (l 3) t h
last_below pasts s (suc (suc (suc (suc r)))) t lt h = absurd (omega arith)

-- a vector ends with the fourth region
past_end : (pasts : List (List Counts)) (s : Counts) (t : ℕ) → 4 ≤ t → at (past_of pasts s) t ≡ 0
past_end pasts s t le =
    let l = last_past pasts s in
    at_past_end (λ r. max (at (joined (joined (joined s (l 0)) (l 1)) (l 2)) r) (at (l 3) r)) t le

-- ---- the nodes that a node follows at once

begins_at : (own position : ℕ) (needs : Counts) (t : ℕ) → t < 4 → at (at_once own position needs) t ≡ cond (eqb t own) (max position (at needs t)) (at needs t)
begins_at own position needs t lt = at_vector (λ r. cond (eqb r own) (max position (at needs r)) (at needs r)) t lt

-- a place that is followed at once is counted
counted_from : (node other : ChainNode) → other.region < 4 → FollowsAtOnce node other → other.position < at (at_once node.region node.position node.needs) other.region
counted_from node other lt (inl before) =
    let e = begins_at node.region node.position node.needs other.region lt in
    let same = eq-eqb other.region node.region before.0 in
    rw (e, same) (omega (arith, before.1))
counted_from node other lt (inr needed) =
    let e = begins_at node.region node.position node.needs other.region lt in
    elim (cases_Bool (eqb other.region node.region)) [
      | inl same ↦ rw (e, same) (omega (arith, needed))
      | inr apart ↦ rw (e, apart) needed
    ]

-- and what is counted is followed at once
from_counted : (node other : ChainNode) → other.region < 4 → other.position < at (at_once node.region node.position node.needs) other.region → FollowsAtOnce node other
from_counted node other lt h =
    let e = begins_at node.region node.position node.needs other.region lt in
    elim (cases_Bool (eqb other.region node.region)) [
      | inl same ↦
          let le : other.position < max node.position (at node.needs other.region) = rw (e, same) at h in
          elim (cases_lt other.position node.position) [
            | inl before ↦ inl (eqb-true other.region node.region same, before)
            | inr past ↦ inr (omega (arith, le, past))
          ]
      | inr apart ↦ inr (rw (e, apart) at h)
    ]

-- ---- one more node

-- what is played stays played, and what follows goes on to
pub grow : (played : List ChainNode) (node : ChainNode) {x m : ChainNode} → FollowsCausally played x m → FollowsCausally (played ++ node ∷ []) x m
grow played node (at_once_of h) = at_once_of h
grow played node (through {between = b} c h f) = through (Contains-append_left played (node ∷ []) b c) h (grow played node f)

-- the number of a chain that there is not
chain_end : (pasts : List (List Counts)) (t : ℕ) → length pasts ≡ 4 → 4 ≤ t → length (past_chain pasts t) ≡ 0
chain_end pasts t four le = ap length (get_or_past pasts t [] (omega (arith, four, le)))

pub small_region : (pasts : List (List Counts)) (t n : ℕ) → length pasts ≡ 4 → n < length (past_chain pasts t) → t < 4
small_region pasts t n four lt = elim (cases_lt t 4) [
  | inl h ↦ h
  | inr past ↦ absurd (omega (arith, chain_end pasts t four past, lt))
]

zero_at : (t n : ℕ) → n < at zeros t → ⊥
zero_at zero n h = omega arith
zero_at (suc zero) n h = omega arith
zero_at (suc (suc zero)) n h = omega arith
zero_at (suc (suc (suc zero))) n h = omega arith
zero_at (suc (suc (suc (suc t)))) n h = omega arith

-- a vector at a place that is known by its numbers
at_place : (pasts : List (List Counts)) (b : ChainNode) (r q : ℕ) (w : Counts) → b.region ≡ r → b.position ≡ q → slice_get (past_chain pasts b.region) b.position ≡ Some w → slice_get (past_chain pasts r) q ≡ Some w
at_place pasts b r q w e f h = rw (← e, ← f) h

module _ (pasts : List (List Counts)) (played : List ChainNode) (node : ChainNode) (known : ArePasts pasts played) (next : MayPlayNext played node) where
  -- no played node follows the new one
  none_at_once : (x : ChainNode) → Contains played x → FollowsAtOnce x node → ⊥
  none_at_once x c h =
      let k = known.known x c in
      let below = (k.exact node).0 (at_once_of h) in
      omega (arith, below, k.within node.region, known.lengths node.region, next.position)

  -- nor does the new one itself
  not_itself : FollowsAtOnce node node → ⊥
  not_itself (inl h) = omega (arith, h.1)
  not_itself (inr h) = omega (arith, h, next.needs node.region, next.position)

  not_itself_at : (b : ChainNode) → node ≡ b → FollowsAtOnce node b → ⊥
  not_itself_at b same h = let P : ChainNode → Type 0 = FollowsAtOnce node in not_itself (subst P (sym same) h)

  -- a played node follows what it followed before
  pub shrink : {x m : ChainNode} → FollowsCausally (played ++ node ∷ []) x m → Contains played x → FollowsCausally played x m
  shrink (at_once_of h) c = at_once_of h
  shrink {x} (through {between = b} cb h f) c = elim (Contains-push_cases played node b cb) [
    | inl inside ↦ through inside h (shrink f inside)
    | inr new ↦ absurd (none_at_once x c (rw new h))
  ]

  pub none_follows : {x : ChainNode} → Contains played x → FollowsCausally (played ++ node ∷ []) x node → ⊥
  none_follows {x} c f =
      let k = known.known x c in
      let below = (k.exact node).0 (shrink f c) in
      omega (arith, below, k.within node.region, known.lengths node.region, next.position)

  -- nothing follows the new node
  pub newest : (x : ChainNode) → Contains (played ++ node ∷ []) x → FollowsCausally (played ++ node ∷ []) x node → ⊥
  newest x c f = elim (Contains-push_cases played node x c) [
    | inl inside ↦ none_follows inside f
    | inr new ↦ itself (rw (← new) at f)
  ] where
    itself : FollowsCausally (played ++ node ∷ []) node node → ⊥
    itself (at_once_of h) = not_itself h
    itself (through {between = b} cb h g) = elim (Contains-push_cases played node b cb) [
      | inl inside ↦ none_follows inside g
      | inr same ↦ not_itself_at b same h
    ]

  abbrev counted : Counts
  counted = at_once node.region node.position node.needs

  abbrev past : Counts
  past = past_of pasts counted

  counted_within : (t : ℕ) → t < 4 → at counted t ≤ length (past_chain pasts t)
  counted_within t lt =
      let e = begins_at node.region node.position node.needs t lt in
      elim (cases_Bool (eqb t node.region)) [
        | inl same ↦
            let is : t ≡ node.region = eqb-true t node.region same in
            let l = known.lengths node.region in
            rw (e, same) (rw is (omega (arith, l, next.position, next.needs node.region)))
        | inr apart ↦ rw (e, apart) (omega (arith, known.lengths t, next.needs t))
      ]

  -- the last node of a chain that is counted
  record IsLast (r : ℕ) : Type 0 where
    last : ChainNode
    inside : Contains played last
    region : last.region ≡ r
    position : last.position ≡ at counted r - 1
    vector : last_past pasts counted r ≡ (known.known last inside).past

  last_is : (r : ℕ) → r < 4 → 0 < at counted r → IsLast r
  last_is r lt some =
      let q = at counted r - 1 in
      let w = counted_within r lt in
      let s = known.stands r q (omega arith) in
      let k = known.known s.0 s.1 in
      let here : slice_get (past_chain pasts r) q ≡ Some k.past = at_place pasts s.0 r q k.past s.2 s.3 k.here in
      let vector : last_past pasts counted r ≡ k.past = rw (ne_eqb (at counted r) 0 (λ e. absurd (omega arith)), here) refl in
      record { last = s.0; inside = s.1; region = s.2; position = s.3; vector = vector }

  at_once_small : (m : ChainNode) → FollowsAtOnce node m → m.region < 4
  at_once_small m (inl h) = omega (arith, h.0, next.region)
  at_once_small m (inr h) = small_region pasts m.region m.position known.four (omega (arith, h, next.needs m.region, known.lengths m.region))

  -- a vector of the chain of what is counted is within the new node's
  below_new : (b : ChainNode) (c : Contains played b) → b.region < 4 → b.position < at counted b.region → (t : ℕ) → t < 4 → at (known.known b c).past t ≤ at past t
  below_new b c small before t lt =
      let k = known.known b c in
      let l = last_is b.region small (omega arith) in
      let kl = known.known l.last l.inside in
      let here : slice_get (past_chain pasts b.region) l.last.position ≡ Some kl.past = rw l.region at kl.here in
      let rise = known.rises b.region b.position l.last.position k.past kl.past (omega (arith, l.position, before)) k.here here t in
      let last : at kl.past t ≤ at past t = rw l.vector at (last_below pasts counted b.region t small lt) in
      omega (arith, rise, last)

  pub to_new : {m : ChainNode} → FollowsCausally (played ++ node ∷ []) node m → m.position < at past m.region
  to_new {m} (at_once_of h) =
      let small = at_once_small m h in
      omega (arith, counted_from node m small h, start_below pasts counted m.region small)
  to_new {m} (through {between = b} cb h f) = elim (Contains-push_cases played node b cb) [
    | inl inside ↦
        let k = known.known b inside in
        let below = (k.exact m).0 (shrink f inside) in
        let small = small_region pasts m.region m.position known.four (omega (arith, below, k.within m.region)) in
        let first = at_once_small b h in
        let new = below_new b inside first (counted_from node b first h) m.region small in
        omega (arith, below, new)
    | inr same ↦ absurd (not_itself_at b same h)
  ]

  pub from_new : (m : ChainNode) → m.position < at past m.region → FollowsCausally (played ++ node ∷ []) node m
  from_new m h = elim (cases_lt m.region 4) [
    | inr beyond ↦ absurd (omega (arith, h, past_end pasts counted m.region beyond))
    | inl small ↦ elim (below_past pasts counted m.region m.position small h) [
      | inl first ↦ at_once_of (from_counted node m small first)
      | inr later ↦
          let r = later.0 in
          elim (cases_lt 0 (at counted r)) [
            | inr none ↦ absurd (nothing r m later.2 none)
            | inl some ↦
                let l = last_is r later.1 some in
                let k = known.known l.last l.inside in
                let lower : m.position < at k.past m.region = rw l.vector at later.2 in
                let first : l.last.position < at counted l.last.region = rw l.region (omega (arith, l.position, some)) in
                let lt : l.last.region < 4 = omega (arith, l.region, later.1) in
                through (Contains-append_left played (node ∷ []) l.last l.inside) (from_counted node l.last lt first) (grow played node ((k.exact m).1 lower))
          ]
    ]
  ] where
    nothing : (r : ℕ) (m : ChainNode) → m.position < at (last_past pasts counted r) m.region → at counted r ≤ 0 → ⊥
    nothing r m h none =
        let zero_is : at counted r ≡ 0 = omega arith in
        let e : last_past pasts counted r ≡ zeros = rw (eq-eqb (at counted r) 0 zero_is) refl in
        zero_at m.region m.position (rw e at h)

  within_new : (t : ℕ) → at past t ≤ length (past_chain pasts t)
  within_new t = elim (cases_lt (length (past_chain pasts t)) (at past t)) [
    | inr h ↦ h
    | inl over ↦ elim (cases_lt t 4) [
      | inr beyond ↦ omega (arith, past_end pasts counted t beyond)
      | inl small ↦ elim (below_past pasts counted t (length (past_chain pasts t)) small over) [
        | inl first ↦ omega (arith, first, counted_within t small)
        | inr later ↦
            let r = later.0 in
            elim (cases_lt 0 (at counted r)) [
              | inr none ↦
                  let zero_is : at counted r ≡ 0 = omega arith in
                  let e : last_past pasts counted r ≡ zeros = rw (eq-eqb (at counted r) 0 zero_is) refl in
                  absurd (zero_at t (length (past_chain pasts t)) (rw e at later.2))
              | inl some ↦
                  let l = last_is r later.1 some in
                  let k = known.known l.last l.inside in
                  let lower : length (past_chain pasts t) < at k.past t = rw l.vector at later.2 in
                  omega (arith, lower, k.within t)
            ]
      ]
    ]
  ]

  pub own_position : node.position ≡ length (past_chain pasts node.region)
  own_position = next.position ∙ sym (known.lengths node.region)

  -- the vectors of the node's own chain are within its own
  rises_new : (i : ℕ) (v : Counts) → slice_get (past_chain pasts node.region) i ≡ Some v → (t : ℕ) → at v t ≤ at past t
  rises_new i v here t =
      let lt = slice_get_within (past_chain pasts node.region) i v here in
      let s = known.stands node.region i lt in
      let k = known.known s.0 s.1 in
      let same : v ≡ k.past = some_same (sym here ∙ at_place pasts s.0 node.region i k.past s.2 s.3 k.here) in
      let before = counted_from node s.0 (omega (arith, s.2, next.region)) (inl (s.2, omega (arith, s.3, lt, own_position))) in
      elim (cases_lt t 4) [
        | inl small ↦ rw same (below_new s.0 s.1 (omega (arith, s.2, next.region)) before t small)
        | inr beyond ↦ let w = k.within t in rw same (omega (arith, w, chain_end pasts t known.four beyond))
      ]

pub count_push : {A : Type 0} (p : A → Bool) (xs : List A) (x : A) → count_by p (xs ++ x ∷ []) ≡ count_by p xs + cond (p x) 1 0
count_push p xs x = fold_push (λ n y. n + cond (p y) 1 0) 0 xs x

module _ (pasts : List (List Counts)) (played : List ChainNode) (node : ChainNode) (known : ArePasts pasts played) (next : MayPlayNext played node)
    (later : List (List Counts)) (four : length later ≡ 4)
    (own : past_chain later node.region ≡ past_chain pasts node.region ++ past_of pasts (at_once node.region node.position node.needs) ∷ [])
    (others : (t : ℕ) → (t ≡ node.region → ⊥) → past_chain later t ≡ past_chain pasts t) where
  abbrev new : Counts
  new = past_of pasts (at_once node.region node.position node.needs)

  stays : (t i : ℕ) (v : Counts) → slice_get (past_chain pasts t) i ≡ Some v → slice_get (past_chain later t) i ≡ Some v
  stays t i v h = elim (cases_eq t node.region) [
    | inl same ↦ rw (same, own) (get_left (past_chain pasts node.region) (new ∷ []) i v (rw same at h))
    | inr apart ↦ rw (others t apart) h
  ]

  longer : (t : ℕ) → length (past_chain pasts t) ≤ length (past_chain later t)
  longer t = elim (cases_eq t node.region) [
    | inl same ↦ rw (same, own) (omega (arith, length-append (past_chain pasts node.region) (new ∷ [])))
    | inr apart ↦ rw (others t apart) (omega arith)
  ]

  still_known : (x : ChainNode) → Contains played x → IsPast later (played ++ node ∷ []) x
  still_known x c =
      let k = known.known x c in
      record {
        past = k.past;
        here = stays x.region x.position k.past k.here;
        exact = λ m. (λ f. (k.exact m).0 (shrink pasts played node known next f c), λ h. grow played node ((k.exact m).1 h));
        within = λ t. omega (arith, k.within t, longer t);
      }

  new_known : IsPast later (played ++ node ∷ []) node
  new_known = record {
    past = new;
    here =
        let P : ℕ → Type 0 = λ q. slice_get (past_chain pasts node.region ++ new ∷ []) q ≡ Some new in
        rw own (subst P (sym (own_position pasts played node known next)) (get_last (past_chain pasts node.region) new));
    exact = λ m. (λ f. to_new pasts played node known next f, from_new pasts played node known next m);
    within = λ t. omega (arith, within_new pasts played node known next t, longer t);
  }

  all_known : (x : ChainNode) → Contains (played ++ node ∷ []) x → IsPast later (played ++ node ∷ []) x
  all_known x c = elim (Contains-push_cases played node x c) [
    | inl inside ↦ still_known x inside
    | inr same ↦ let P : ChainNode → Type 0 = IsPast later (played ++ node ∷ []) in subst P same new_known
  ]

  all_stand : (t q : ℕ) → q < length (past_chain later t) → (x : ChainNode) × Contains (played ++ node ∷ []) x × (x.region ≡ t) × (x.position ≡ q)
  all_stand t q lt = elim (cases_lt q (length (past_chain pasts t))) [
    | inl old ↦ let s = known.stands t q old in (s.0, Contains-append_left played (node ∷ []) s.0 s.1, s.2, s.3)
    | inr past ↦ elim (cases_eq t node.region) [
      | inl same ↦
          let size : q < length (past_chain pasts node.region ++ new ∷ []) = rw (same, own) at lt in
          let old : length (past_chain pasts node.region) ≤ q = rw same at past in
          let place : node.position ≡ q = omega (arith, size, old, length-append (past_chain pasts node.region) (new ∷ []), own_position pasts played node known next) in
          (node, Contains-push played node, sym same, place)
      | inr apart ↦ let size = rw (others t apart) at lt in absurd (omega arith)
    ]
  ]

  all_rise : (t i j : ℕ) (v w : Counts) → i ≤ j → slice_get (past_chain later t) i ≡ Some v → slice_get (past_chain later t) j ≡ Some w → (s : ℕ) → at v s ≤ at w s
  all_rise t i j v w le hi hj s = elim (cases_eq t node.region) [
    | inr apart ↦ known.rises t i j v w le (rw (others t apart) at hi) (rw (others t apart) at hj) s
    | inl same ↦
        let chain = past_chain pasts node.region in
        let gi : slice_get (chain ++ new ∷ []) i ≡ Some v = rw (same, own) at hi in
        let gj : slice_get (chain ++ new ∷ []) j ≡ Some w = rw (same, own) at hj in
        elim (get_push chain new j w gj) [
          | inl oj ↦ elim (get_push chain new i v gi) [
            | inl oi ↦ known.rises node.region i j v w le oi oj s
            | inr ni ↦ let lt = slice_get_within chain j w oj in absurd (omega (arith, ni.0, lt, le))
          ]
          | inr nj ↦ elim (get_push chain new i v gi) [
            | inl oi ↦ rw (← nj.1) (rises_new pasts played node known next i v oi s)
            | inr ni ↦ rw (← nj.1, ← ni.1) (omega arith)
          ]
        ]
  ]

  all_lengths : (t : ℕ) → length (past_chain later t) ≡ count_by (λ (x : ChainNode). eqb x.region t) (played ++ node ∷ [])
  all_lengths t =
      let more = count_push (λ (x : ChainNode). eqb x.region t) played node in
      let l = known.lengths t in
      elim (cases_eq t node.region) [
        | inl same ↦
            let yes_is = eq-eqb node.region t (sym same) in
            let size : length (past_chain later t) ≡ length (past_chain pasts t) + 1 = rw same (rw own (length-append (past_chain pasts node.region) (new ∷ []))) in
            let one : ◌≡◌ {A = ℕ} (cond (eqb node.region t) 1 0) 1 = rw yes_is refl in
            omega (arith, more, l, size, one)
        | inr apart ↦
            let no_is = ne_eqb node.region t (λ e. apart (sym e)) in
            let one : ◌≡◌ {A = ℕ} (cond (eqb node.region t) 1 0) 0 = rw no_is refl in
            let size = ap length (others t apart) in
            omega (arith, more, l, size, one)
      ]

  pub one_more_past : ArePasts later (played ++ node ∷ [])
  one_more_past = record { four = four; known = all_known; stands = all_stand; rises = all_rise; lengths = all_lengths }
