-- The own line that a client holds of a colour.
use Rattle.std.proofs.Common.{◌≡◌, ℕ, List, [], ◌∷◌, ◌++◌, length, map, take, drop, refl, ap, sym, ◌∙◌, arith, eq-eqb}
use Rattle.std.specs.Prelude.{◌==◌}
use Rattle.std.proofs.lemmas.List.{length-map, map-append, take_all}
use mathlib.Core.List.{IsPrefix}
use Rattle.log_node.specs.declared.ids.Key.{Key}
use Rattle.log_node.specs.declared.node.Head.{Head}
use Rattle.log_node.specs.Seen.{PlacedNode}
use Rattle.col_core.specs.declared.Entry.{Entry}
use Rattle.col_core.specs.Cuts.{Dated, chain}
use Rattle.col_core.specs.Computed.{dated}
use Rattle.col_core.specs.History.{line}
use Rattle.col_core.proofs.CallerLemmas.{entries_dated, head_with, if_true}
use Rattle.log_client.specs.Reading.{keys_of}

-- what is behind the first part of a list up to its end is the rest
pub joined : {A : Type 0} (old more whole : List A) (n m : ℕ) → IsPrefix old whole → length old ≡ n → m ≡ length whole
    → more ≡ drop n (take m whole) → old ++ more ≡ whole
joined {A} old more whole n m p long all is =
    ap (λ (l : List A). old ++ l)
    (is ∙ (ap (λ (k : ℕ). drop k (take m whole)) (sym long)
    ∙ (ap (drop (length old)) (take_all m whole (omega (arith, all)) ∙ sym p.1) ∙ behind old p.0))) ∙ p.1 where
      behind : (xs ys : List A) → drop (length xs) (xs ++ ys) ≡ ys
      behind [] ys = refl
      behind (x ∷ xs) ys = behind xs ys

-- the keys of the own chain are the line
keys_with : (ds : List Dated) (keys : List Key) → map (λ (h : Head). h.key) (map (head_with ds) keys) ≡ keys
keys_with ds [] = refl
keys_with ds (k ∷ keys) = ap (λ (l : List Key). k ∷ l) (keys_with ds keys)

heads_of : (nodes : List PlacedNode)
    → keys_of nodes ≡ map (λ (h : Head). h.key) (map (λ (item : PlacedNode). item.head) nodes)
heads_of [] = refl
heads_of (x ∷ xs) = ap (λ (l : List Key). x.head.key ∷ l) (heads_of xs)

own_chain : (own : ℕ) (history : List Entry)
    → chain own (dated own history) own ≡ map (head_with (dated own history)) (line history)
own_chain own history =
    if_true (own == own) _ _ (eq-eqb own own refl)
    ∙ ap (λ (es : List Entry). map (head_with (dated own history)) (line es)) (entries_dated own history)

-- the keys of the own chain
pub chain_keys : (own : ℕ) (history : List Entry)
    → map (λ (h : Head). h.key) (chain own (dated own history) own) ≡ line history
chain_keys own history =
    ap (map (λ (h : Head). h.key)) (own_chain own history) ∙ keys_with (dated own history) (line history)

pub chain_long : (own : ℕ) (history : List Entry) → length (chain own (dated own history) own) ≡ length (line history)
chain_long own history = ap length (own_chain own history) ∙ length-map (line history) (head_with (dated own history))

-- nodes with heads at its beginning have keys at the beginning of the line
pub keys_prefix : (own : ℕ) (history : List Entry) (nodes : List PlacedNode)
    → IsPrefix (map (λ (item : PlacedNode). item.head) nodes) (chain own (dated own history) own)
    → IsPrefix (keys_of nodes) (line history)
keys_prefix own history nodes p = (
  map (λ (h : Head). h.key) p.0,
  ap (λ (l : List Key). l ++ map (λ (h : Head). h.key) p.0) (heads_of nodes)
      ∙ (sym (map-append (λ (h : Head). h.key) (map (λ (item : PlacedNode). item.head) nodes) p.0)
      ∙ (ap (map (λ (h : Head). h.key)) p.1 ∙ chain_keys own history)),
)

-- nodes with the heads of the own chain have the keys of the line
pub keys_are : (own : ℕ) (history : List Entry) (nodes : List PlacedNode)
    → map (λ (item : PlacedNode). item.head) nodes ≡ chain own (dated own history) own → keys_of nodes ≡ line history
keys_are own history nodes heads =
    heads_of nodes
    ∙ (ap (map (λ (h : Head). h.key)) heads ∙ chain_keys own history)
