-- Small lines of the colour at place 0 of two, worked out by hand: what the definitions make of them. The shard of `b` is
-- that of this colour, and the shard of `a` is the other one's.
use Rattle.std.proofs.Common.{◌≡◌, ◌⊎◌, ℕ, zero, suc, inl, inr, arith, true, false, List, [], ◌∷◌, Some, None, refl, ap, sym, subst, ◌∙◌}
use Rattle.std.specs.Prelude.{codes, IsTrue}
use Rattle.std.specs.List.{Contains, AllPairs}
use Rattle.log_node.specs.Order.{key_below}
use Rattle.log_node.specs.Sets.{has}
use Rattle.log_node.specs.declared.forms.Pair.{Pair}
use Rattle.log_node.specs.declared.forms.Version.{Version}
use Rattle.log_node.specs.declared.forms.Form.TheVariants as forms
use Rattle.log_node.specs.declared.ids.Key.{Key}
use Rattle.log_node.specs.declared.ids.Colours.{Colours}
use Rattle.object_fold.specs.Nodes.{ObjectNode}
use Rattle.object_fold.specs.Transactions.{verdict_of}
use Rattle.part_fold.specs.declared.decision.Decision.{Decision}
use Rattle.part_fold.specs.Decisions.{decision_of}
use Rattle.part_fold.specs.Agreement.{outcome, touches, HasItsShards, SaysTheVerdict, AreAllNodes}
use Rattle.part_fold.specs.Parts.{Part, known_after, undecided_after, part_value}

abbrev part : Part
part = record { place = 0; colours = 2 }

-- the key of a node of client 0
abbrev key : ℕ → ℕ → Key
key stamp count = record { stamp = stamp; id = record { client = 0; count = count } }

module _ (c : Colours) where
  -- nodes of client 0, under the stamps 1, 2 and 3
  abbrev first : List ℕ → ObjectNode
  first text = record { key = key 1 0; colours = c; text = text }

  abbrev second : List ℕ → ObjectNode
  second text = record { key = key 2 1; colours = c; text = text }

  abbrev third : List ℕ → ObjectNode
  third text = record { key = key 3 2; colours = c; text = text }

  -- one that read the other shard waits for its decision
  waits : undecided_after part (first (codes "t:a@-|b=7") ∷ []) ≡ Some (key 1 0)
  waits = refl

  has_none : part_value part (first (codes "t:a@-|b=7") ∷ []) (codes "b") ≡ None
  has_none = refl

  commits : part_value part (first (codes "t:a@-|b=7") ∷ second (codes "z:1.0.0=1") ∷ []) (codes "b") ≡ Some (codes "7")
  commits = refl

  all_known : undecided_after part (first (codes "t:a@-|b=7") ∷ second (codes "z:1.0.0=1") ∷ []) ≡ None
  all_known = refl

  conflicts : part_value part (first (codes "t:a@-|b=7") ∷ second (codes "z:1.0.0=0") ∷ []) (codes "b") ≡ None
  conflicts = refl

  -- the first decision counts
  first_counts : part_value part (first (codes "t:a@-|b=7") ∷ second (codes "z:1.0.0=1") ∷ third (codes "z:1.0.0=0") ∷ []) (codes "b") ≡ Some (codes "7")
  first_counts = refl

  -- one that read the shard alone is known at once: it commits on the writer that it read
  known_at_once : (known_after part (first (codes "t:b@-|b=1") ∷ second (codes "t:b@-|b=2") ∷ third (codes "t:b@1.0.0|b=3") ∷ [])).verdicts
      ≡ record { key = key 1 0; commits = true } ∷ record { key = key 2 1; commits = false } ∷ record { key = key 3 2; commits = true } ∷ []
  known_at_once = refl

  last_value : part_value part (first (codes "t:b@-|b=1") ∷ second (codes "t:b@-|b=2") ∷ third (codes "t:b@1.0.0|b=3") ∷ []) (codes "b") ≡ Some (codes "3")
  last_value = refl

  -- what stands behind one that is not known is not known
  waits_behind : undecided_after part (first (codes "t:a@-|b=7") ∷ second (codes "t:b@-|b=8") ∷ []) ≡ Some (key 1 0)
  waits_behind = refl

  goes_on : part_value part (first (codes "t:a@-|b=7") ∷ second (codes "t:b@-|b=8") ∷ third (codes "z:1.0.0=0") ∷ []) (codes "b") ≡ Some (codes "8")
  goes_on = refl

  goes_on_behind : part_value part (first (codes "t:a@-|b=7") ∷ second (codes "t:b@-|b=8") ∷ third (codes "z:1.0.0=1") ∷ []) (codes "b") ≡ Some (codes "7")
  goes_on_behind = refl

-- texts that decide nothing
no_key : decision_of (codes "z:") ≡ None
no_key = refl

no_sign : decision_of (codes "z:1.0.0") ≡ None
no_sign = refl

leading_zero : decision_of (codes "z:01.0.0=1") ≡ None
leading_zero = refl

no_outcome : decision_of (codes "z:1.0.0=2") ≡ None
no_outcome = refl

no_count : decision_of (codes "z:1.0=1") ≡ None
no_count = refl

no_stamp : decision_of (codes "z:0.0.0=1") ≡ None
no_stamp = refl

no_client : decision_of (codes "z:1.256.0=1") ≡ None
no_client = refl

-- ---- lists of all nodes, of which the agreement speaks, are there

-- a transaction that reads `a` and writes `b`, in both colours, and the true decision on it in the line of `b`
abbrev both : List ObjectNode
both = first (record { 0 = 3 }) (codes "t:a@-|b=7") ∷ second (record { 0 = 1 }) (codes "z:1.0.0=1") ∷ []

one_of_two : {X : Type 0} (x y z : X) → Contains (x ∷ y ∷ []) z → (x ≡ z) ⊎ (y ≡ z)
one_of_two x y z (zero, lt, e) = inl e
one_of_two x y z (suc zero, lt, e) = inr e
one_of_two x y z (suc (suc k), lt, e) = absurd (omega arith)

both_rise : AllPairs (λ (a b : ObjectNode). IsTrue (key_below a.key b.key)) both
both_rise zero zero d less lt = absurd (omega arith)
both_rise zero (suc zero) d less lt = refl
both_rise zero (suc (suc j)) d less lt = absurd (omega arith)
both_rise (suc i) zero d less lt = absurd (omega arith)
both_rise (suc i) (suc j) d less lt = absurd (omega arith)

-- of two colours a transaction has its own
two_colours : (node : ObjectNode) (reads wanted_reads : List Version) (pairs wanted_pairs : List Pair) → forms.Transaction wanted_reads wanted_pairs ≡ forms.Transaction reads pairs
    → has node.colours 0 ≡ touches (0 ∷ 1 ∷ []) 0 wanted_reads wanted_pairs → has node.colours 1 ≡ touches (0 ∷ 1 ∷ []) 1 wanted_reads wanted_pairs
    → (colour : ℕ) → Contains (0 ∷ 1 ∷ []) colour → has node.colours colour ≡ touches (0 ∷ 1 ∷ []) colour reads pairs
two_colours node reads wanted_reads pairs wanted_pairs same at_0 at_1 colour c =
    let P : ℕ → Type 0 = λ x. has node.colours x ≡ touches (0 ∷ 1 ∷ []) x reads pairs in
    let rs : wanted_reads ≡ reads = cc in
    let ps : wanted_pairs ≡ pairs = cc in
    elim (one_of_two 0 1 colour c) [
      | inl e ↦ subst P e (at_0 ∙ ap (λ (r : List Version). touches (0 ∷ 1 ∷ []) 0 r wanted_pairs) rs ∙ ap (λ (p : List Pair). touches (0 ∷ 1 ∷ []) 0 reads p) ps)
      | inr e ↦ subst P e (at_1 ∙ ap (λ (r : List Version). touches (0 ∷ 1 ∷ []) 1 r wanted_pairs) rs ∙ ap (λ (p : List Pair). touches (0 ∷ 1 ∷ []) 1 reads p) ps)
    ]

both_have_their_shards : (node : ObjectNode) → Contains both node → HasItsShards (0 ∷ 1 ∷ []) node
both_have_their_shards node c = elim (one_of_two _ _ node c) [
  | inl e ↦ subst (HasItsShards (0 ∷ 1 ∷ [])) e (λ reads pairs same. two_colours (first (record { 0 = 3 }) (codes "t:a@-|b=7")) reads _ pairs _ same refl refl)
  | inr e ↦ subst (HasItsShards (0 ∷ 1 ∷ [])) e (λ reads pairs same. absurd (no_transaction reads pairs same))
] where
  no_transaction : (reads : List Version) (pairs : List Pair) → forms.Plain ≡ forms.Transaction reads pairs → ⊥
  no_transaction reads pairs e = cc

both_say_the_verdict : (node : ObjectNode) → Contains both node → SaysTheVerdict both node
both_say_the_verdict node c = elim (one_of_two _ _ node c) [
  | inl e ↦ subst (SaysTheVerdict both) e (λ d same commits told. absurd (no_decision d same))
  | inr e ↦ subst (SaysTheVerdict both) e says
] where
  no_decision : (d : Decision) → None ≡ Some d → ⊥
  no_decision d e = cc

  says : SaysTheVerdict both (second (record { 0 = 1 }) (codes "z:1.0.0=1"))
  says d same commits told =
      let said : Decision = record { key = key 1 0; commits = true } in
      let is : Some said ≡ Some d = same in
      let one : said ≡ d = cc in
      let verdict : outcome (verdict_of both said.key) ≡ Some commits = subst (λ (x : Decision). outcome (verdict_of both x.key) ≡ Some commits) (sym one) told in
      let true_is : Some true ≡ Some commits = verdict in
      let bit : true ≡ commits = cc in
      ap (λ (x : Decision). x.commits) (sym one) ∙ bit

are_all_nodes : AreAllNodes (0 ∷ 1 ∷ []) both
are_all_nodes = record { rising = both_rise; shards = both_have_their_shards; decisions = both_say_the_verdict }
