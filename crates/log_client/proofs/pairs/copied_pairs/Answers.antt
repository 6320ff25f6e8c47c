use Rattle.std.proofs.Common.{◌≡◌, ℕ, ◌+◌, ◌<◌, ◌≤◌, List, [], ◌∷◌, ◌++◌, length, take, get_or, ap, sym, ◌∙◌, arith}
use Rattle.std.proofs.lemmas.List.{take_all, take_more}
use Rattle.log_node.specs.declared.forms.Pair.{Pair}
use Rattle.log_client.proofs.pairs.copied_pairs.Goals as goal

more_pairs : (pairs copy new : List Pair) (i : ℕ) (p : Pair) (key value : List ℕ) → i < length pairs → p ≡ get_or pairs i p
    → key ≡ p.key → value ≡ p.value → copy ≡ take i pairs
    → new ≡ copy ++ (let x : Pair = record { key = key; value = value } in x) ∷ [] → new ≡ take (i + 1) pairs
more_pairs pairs copy new i p key value lt is of_key of_value e more =
    more
    ∙ (ap (λ (l : List Pair). l ++ (let x : Pair = record { key = key; value = value } in x) ∷ []) e
    ∙ (ap (λ (q : Pair). take i pairs ++ q ∷ [])
    (ap (λ (k : List ℕ). let x : Pair = record { key = k; value = value } in x) of_key
    ∙ (ap (λ (v : List ℕ). let x : Pair = record { key = p.key; value = v } in x) of_value ∙ is))
    ∙ sym (take_more pairs i p lt)))

pub loop-pair-preserved : goal.loop-pair-preserved
loop-pair-preserved c =
    more_pairs c.args.pairs.now c.loop-pair.copy c.push.new.self c.loop-pair.pair-index c.pair-item.result c.in_ok-key.key
    c.in_ok-value.value c.loop-pair-test.true c.pair-item.is (c.in_ok-key.ensures ∙ c.as_bytes.ensures)
    (c.in_ok-value.ensures ∙ c.as_bytes-in-loop-pair.ensures) c.loop-pair.invariant c.in_ok-push.ensures.ok

pub returns : goal.returns
returns c =
    c.loop-pair.invariant ∙ take_all c.loop-pair.pair-index c.args.pairs.now (omega (arith, c.loop-pair-test.false))
