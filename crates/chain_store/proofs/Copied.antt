-- What a history carried of another region, and where that came from.
use Rattle.std.proofs.Common.{◌≡◌, ◌≢◌, ℕ, suc, Bool, true, false, List, [], ◌∷◌, ◌++◌, length, map, Some, slice_get, refl, ap, sym, ◌∙◌, append_assoc, eqb-true}
use Rattle.std.specs.Prelude.{◌==◌, if◌then◌else◌}
use Rattle.std.specs.List.{flat_map}
use Rattle.std.proofs.lemmas.List.{length-map, map-append}
use mathlib.Core.List.{IsPrefix}
use Rattle.log_node.specs.declared.node.Head.{Head}
use Rattle.log_node.specs.declared.node.Node.{Node}
use Rattle.log_node.specs.Seen.{PlacedNode}
use Rattle.col_core.specs.declared.Event.{Event}
use Rattle.col_core.specs.declared.Event.TheVariants.{Single, Propose, Settle, Raise, Give, Carry, Trim}
use Rattle.col_core.specs.declared.Entry.{Entry}
use Rattle.col_core.specs.Cuts.{Dated, carried, chain, entries_of}
use Rattle.col_core.specs.Computed.{dated}
use Rattle.col_core.specs.Legal.{IsColumnHistory}
use Rattle.col_core.proofs.CallerLemmas.{by_test, entries_dated, if_false}
use Rattle.ring_ends.specs.declared.sends.Sends.{Sends}
use Rattle.ring_ends.specs.declared.receives.Receives.{Receives}
use Rattle.ring_ends.specs.Rings.{gone, got}
use Rattle.chain_store.specs.declared.told.Tag.{Tag}
use Rattle.chain_store.specs.declared.told.Told.{Told}
use Rattle.chain_store.specs.Histories.{entries_in, Brings}
use Rattle.chain_store.specs.Rings.{under, carried_from, AreSent, AreReceived, IsCopied}
use Rattle.chain_store.proofs.Going.{prefix_same, prefix_then}
use Rattle.chain_store.proofs.Entering.{get_old}

map_prefix : {A B : Type 0} (f : A → B) (xs ys : List A) → IsPrefix xs ys → IsPrefix (map f xs) (map f ys)
map_prefix f xs ys p = (map f p.0, sym (map-append f xs p.0) ∙ ap (map f) p.1)

-- what was carried out of a ring is a beginning of what went into it
carried_front : (region : ℕ) (log : List Told) (r : Receives) (sent : List PlacedNode) → AreReceived region log r
    → IsPrefix (got r) sent → IsPrefix (carried_from region log) sent
carried_front region log r sent received p = (
  r.waiting.items ++ p.0,
  sym (append_assoc (carried_from region log) r.waiting.items p.0)
      ∙ ap (λ (l : List PlacedNode). l ++ p.0) (sym received.carried) ∙ p.1,
)

-- so it is a beginning of the line from which it was sent
pub copied : (t : Tag) (origin_log log : List Told) (s : Sends) (r : Receives) → AreSent t origin_log (gone s)
    → AreReceived t.region log r → IsPrefix (got r) (gone s)
    → IsColumnHistory t.region t.regions (dated t.region (entries_in origin_log)) → IsCopied t origin_log log
copied t origin_log log s r sent received p lawful =
    let front = carried_front t.region log r (gone s) received p in record {
      begins = prefix_then (map (λ (i : PlacedNode). i.head) (carried_from t.region log))
          (map (λ (i : PlacedNode). i.head) (gone s)) (chain t.region (dated t.region (entries_in origin_log)) t.region)
          (map_prefix (λ (i : PlacedNode). i.head) (carried_from t.region log) (gone s) front)
          (sent.begins origin_log (prefix_same origin_log origin_log refl) lawful);
      entered = λ n i at. sent.entered n i
          (ap (λ (l : List PlacedNode). slice_get l n) (sym front.1)
          ∙ get_old (carried_from t.region log) front.0 n i at);
    }

-- nodes under as many heads
heads_under : (heads : List Head) (nodes : List Node) → length nodes ≡ length heads
    → map (λ (i : PlacedNode). i.head) (under heads nodes) ≡ heads
heads_under [] nodes same = refl
heads_under (head ∷ heads) [] same = absurd (let f : ⊥ = cc (same) in f)
heads_under (head ∷ heads) (node ∷ nodes) same =
    ap (λ (l : List Head). head ∷ l) (heads_under heads nodes (let e : length nodes ≡ length heads = cc (same) in e))

-- the heads of an event's nodes
brought_heads : (region own colour : ℕ) (e : Event) (nodes : List Node) → Brings own colour e nodes
    → map (λ (i : PlacedNode). i.head) (under (carried region e) nodes) ≡ carried region e
brought_heads region own colour (Single id floor wants) nodes brings = refl
brought_heads region own colour (Propose id floor wants) nodes brings = refl
brought_heads region own colour (Settle id outcome) nodes brings = refl
brought_heads region own colour (Raise to) nodes brings = refl
brought_heads region own colour (Give other from) nodes brings = refl
brought_heads region own colour (Trim counts) nodes brings = refl
brought_heads region own colour (Carry other start heads) nodes brings = by (other == region) where
  by : (b : Bool) → map (λ (i : PlacedNode). i.head) (under (if b then heads else []) nodes) ≡ (if b then heads else [])
  by true =
      heads_under heads nodes
      (sym (length-map nodes (λ (n : Node). n.id)) ∙ ap length brings ∙ length-map heads (λ (h : Head). h.key.id))
  by false = refl

log_heads : (region own colour : ℕ) (log : List Told)
    → ((n : ℕ) (t : Told) → slice_get log n ≡ Some t → Brings own colour t.entry.event t.nodes)
    → map (λ (i : PlacedNode). i.head) (carried_from region log)
    ≡ flat_map (λ (e : Entry). carried region e.event) (entries_in log)
log_heads region own colour [] brings = refl
log_heads region own colour (t ∷ log) brings =
    map-append (λ (i : PlacedNode). i.head) (under (carried region t.entry.event) t.nodes) (carried_from region log)
    ∙ ap (λ (l : List Head). l ++ map (λ (i : PlacedNode). i.head) (carried_from region log))
    (brought_heads region own colour t.entry.event t.nodes (brings 0 t refl))
    ∙ ap (λ (l : List Head). carried region t.entry.event ++ l)
    (log_heads region own colour log (λ n u at. brings (suc n) u at))

by_entries : (region : ℕ) (history : List Dated)
    → flat_map (λ (d : Dated). carried region d.entry.event) history
    ≡ flat_map (λ (e : Entry). carried region e.event) (entries_of history)
by_entries region [] = refl
by_entries region (d ∷ ds) = ap (λ (l : List Head). carried region d.entry.event ++ l) (by_entries region ds)

apart : (a b : ℕ) → a ≢ b → (a == b) ≡ false
apart a b ne = by_test ((a == b) ≡ false) (a == b) (λ t. absurd (ne (eqb-true a b t))) (λ z. z)

-- the heads of what a history carried of another region are that region's chain in it
pub carried_heads : (own colour region : ℕ) (log : List Told) → region ≢ own
    → ((n : ℕ) (t : Told) → slice_get log n ≡ Some t → Brings own colour t.entry.event t.nodes)
    → map (λ (i : PlacedNode). i.head) (carried_from region log) ≡ chain own (dated own (entries_in log)) region
carried_heads own colour region log other brings =
    log_heads region own colour log brings
    ∙ ap (flat_map (λ (e : Entry). carried region e.event)) (sym (entries_dated own (entries_in log)))
    ∙ sym (by_entries region (dated own (entries_in log)))
    ∙ sym (if_false (region == own) _ _ (apart region own other))
