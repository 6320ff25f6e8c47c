-- Appends to one colour.
use Rattle.std.proofs.Common.{◌≡◌, ℕ, ◌+◌, ◌<◌, ◌≤◌, max, List, [], ◌∷◌, ◌++◌, length, map, Some, slice_get, refl, ap, sym, subst, inl, inr, ◌⊎◌, arith, take_all}
use Rattle.std.specs.Prelude.{◌==◌, false}
use Rattle.std.proofs.lemmas.Bool.{cases_lt, eqb-true, eq-eqb}
use Rattle.log_node.specs.declared.ids.Key.{Key}
use Rattle.log_node.specs.declared.ids.Counts.{Counts}
use Rattle.log_node.specs.declared.node.Node.{Node}
use Rattle.log_node.specs.Sets.{members}
use Rattle.col_core.specs.declared.Entry.{Entry}
use Rattle.col_core.specs.declared.Event.TheVariants.{Single}
use Rattle.col_core.specs.History.{IsAtEnd, line, entry_key}
use Rattle.col_core.specs.Log.{places_of}
use Rattle.col_core.specs.Rows.{wants_of}
use Rattle.col_core.specs.Keeping.{Kept, kept_after_single}
use Rattle.col_core.proofs.CallerLemmas.{choice, In, in_contains}
use Rattle.lawful_run.specs.Callers.{Caller}
use Rattle.lawful_run.proofs.CallerLemmas.{get_within, prefix_length}
use Rattle.client_law.specs.Knowing.{Seen, Rest, SeesOn}
use Rattle.client_law.specs.Making.{IsOwnStepAt}
use Rattle.client_law.specs.Kept.{AreUnder, IsKeptBy}
use Rattle.client_law.specs.Appends.{WantsAreStarts, SeesOne, AppendsStand, KeptAfterAppend, NoStampWasLeft}
use Rattle.client_law.proofs.Lists.{at_new, at_new_at, prefix_back}
use Rattle.client_law.proofs.Keeping.{lawful_at, line_later, under_node, keeps_on, known_on, under_on, made_on}
use Rattle.client_law.proofs.Events.{own_step, at_column, made_one, seen_here, place_seen}

-- WANTS

wants_are : (f : ℕ → Counts) (cs : List ℕ) (colour : ℕ) → In colour cs → wants_of cs (map f cs) colour ≡ f colour
wants_are f [] colour i = absurd i
wants_are f (c ∷ cs) colour i =
    choice (λ (v : Counts). v ≡ f colour) (c == colour) (f c) (wants_of cs (map f cs) colour)
    (λ t. ap f (eqb-true c colour t)) (λ n. turn i n (λ j. wants_are f cs colour j)) where
      turn : (c ≡ colour) ⊎ In colour cs → (c == colour) ≡ false
          → (In colour cs → wants_of cs (map f cs) colour ≡ f colour) → wants_of cs (map f cs) colour ≡ f colour
      turn (inl e) n rest = absurd (let t = eq-eqb c colour e in let g : ⊥ = cc in g)
      turn (inr j) n rest = rest j

pub wants_are_starts : WantsAreStarts
wants_are_starts caller kept colours text colour among =
    wants_are kept.starts (members colours) colour (in_contains (members colours) colour among)

-- BEHIND WHAT WAS KNOWN

-- A node under a stamp above the floor stands behind all that was known to stand.
pub stands_behind : (caller : Caller) (old new : Seen) (kept : Kept) → SeesOn caller old new → IsKeptBy old caller kept
    → (colour position : ℕ) (key : Key) → slice_get (line (new caller.own colour)) position ≡ Some key
    → kept.floor < key.stamp → kept.known colour ≤ position
stands_behind caller old new kept on k colour position key stands above =
    turn (cases_lt position (kept.known colour)) where
      turn : (position < kept.known colour) ⊎ (kept.known colour ≤ position) → kept.known colour ≤ position
      turn (inl lt) =
          let w = k.known_within colour in
          let there = prefix_back (line (old caller.own colour)) (line (new caller.own colour)) position key
          (line_later caller old new on caller.own colour) (omega (arith, lt, w)) stands in
          let low = k.known_under colour position key lt there in
          absurd (let f : ⊥ = omega (arith, low, above) in f)
      turn (inr le) = le

module _ (old new : Seen) (rest : Rest) (caller : Caller) (kept : Kept) (node : Node)
    (colour stamp place position : ℕ) (on : SeesOn caller old new) (k : IsKeptBy old caller kept)
    (s : SeesOne old new rest caller kept node colour stamp place position) where
  stamped_above : kept.floor < stamp
  stamped_above =
      let m = lawful_at caller.own caller.regions (new caller.own colour) place
      (record { by = caller.client; event = Single node.id kept.floor (kept.starts colour); stamp = stamp })
      (on.lawful caller.own colour) s.entered in
      let e = m.stamped in
      omega (arith, e)

  pub own_single : IsOwnStepAt caller.client (old caller.own colour) (new caller.own colour) place
  own_single = (
    s.unseen,
    record { by = caller.client; event = Single node.id kept.floor (kept.starts colour); stamp = stamp },
    s.entered,
    own_step caller.client (Single node.id kept.floor (kept.starts colour)) stamp refl,
  )

pub appends_stand : AppendsStand
appends_stand old new rest caller kept node colour stamp place position on k s =
    let above = stamped_above old new rest caller kept node colour stamp place position on k s in
    record {
      next = s.next;
      entered = s.entered;
      unseen = (let a = k.seen_within caller.own colour in let b = s.unseen in omega (arith, a, b));
      stands = s.stands;
      behind = stands_behind caller old new kept on k colour position (entry_key stamp node.id) s.stands above;
      above = above;
    }

pub kept_after_append : KeptAfterAppend
kept_after_append old new rest caller kept node colour stamp place position on k s m =
    let own = caller.own in
    let after = kept_after_single kept own colour place stamp position in
    let step = own_single old new rest caller kept node colour stamp place position on k s in
    keeps_on caller old new kept after on k refl (omega arith)
    (seen_here caller old new kept on k own colour (place + 1)
    (place_seen (new own colour) place step.1 step.2))
    (λ c. at_new (λ (n : ℕ). n ≤ length (line (new own c))) kept.known colour (position + 1) c
    (λ e. subst (λ (d : ℕ). position + 1 ≤ length (line (new own d))) (sym e)
    (let a = get_within (line (new own colour)) position (entry_key stamp node.id) s.stands in omega (arith, a)))
    (λ _. known_on caller old new kept on k c))
    (λ c. at_new (λ (n : ℕ). AreUnder (new own c) n (max kept.floor stamp)) kept.known colour (position + 1) c
    (λ e. subst (λ (d : ℕ). AreUnder (new own d) (position + 1) (max kept.floor stamp)) (sym e)
    (under_node own caller.regions (new own colour) (on.lawful own colour) position (entry_key stamp node.id)
    (max kept.floor stamp) s.stands (omega arith)))
    (λ _. under_on caller old new kept on k (max kept.floor stamp) c (omega arith)))
    (λ r c. at_new_at (λ (l : List ℕ). places_of caller.client (new r c) ≡ l) kept.made own colour
    (kept.made own colour ++ place ∷ []) r c
    (λ er ec. at_column (λ a b. places_of caller.client (new a b) ≡ kept.made own colour ++ place ∷ []) r c
    own colour er ec (made_one caller old new kept on k own colour place m.here step))
    (λ ne. made_on caller old new kept on k r c (m.others r c ne)))

pub no_stamp_was_left : NoStampWasLeft
no_stamp_was_left old new rest caller kept colour on k ended = record {
  events = length (new caller.own colour);
  unseen = let a = k.seen_within caller.own colour in
      let b = prefix_length (old caller.own colour) (new caller.own colour) (on.more caller.own colour) in
      omega (arith, a, b);
  there = omega arith;
  ended = subst (λ (h : List Entry). IsAtEnd h kept.floor)
      (sym (take_all (length (new caller.own colour)) (new caller.own colour) (omega arith))) ended;
}
