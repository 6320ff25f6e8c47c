-- The shards of keys, and which of them commands sync that ask for one key.
use Rattle.std.proofs.Common.{◌≡◌, ◌⊎◌, inl, inr, Bool, true, false, cond, ℕ, zero, suc, ◌+◌, ◌<◌, ◌≤◌, List, [], ◌∷◌, length, Option, Some, refl, sym, ap, ◌∙◌, arith}
use Rattle.std.specs.Prelude.{◌==◌, ◌||◌}
use Rattle.std.specs.List.{filter, range_with_len}
use Rattle.std.proofs.lemmas.Bool.{eqb-true, cases_lt}
use Rattle.log_node.specs.declared.limits.TheConstants.{MAX_COLOURS}
use Rattle.log_node.proofs.CallerLemmas.{members-one, members-set_of}
use Rattle.object_fold.specs.Nodes.{shard_of}
use Rattle.script_text.specs.declared.script.Kind.{Kind}
use Rattle.script_text.specs.declared.script.Kind.TheVariants as kinds
use Rattle.script_text.specs.declared.commands.What.{What}
use Rattle.script_text.specs.declared.uses.Use.{Use}
use Rattle.report_text.specs.declared.report.SyncPiece.{SyncPiece}
use Rattle.lawful_run.specs.Callers.{Caller}
use Rattle.lawful_run.specs.Asks.{kind_of_object, object_colours, kind_asked, kind_used, shards, Getting}
use Rattle.lawful_run.specs.Deeds.{AsksForKey, Deed, colours_reached, colours_synced, manner_of}
use Rattle.lawful_run.specs.Parts.{AsksOf, AsksToDecide}

-- one key has one shard
pub one_shard : (colours key : List ℕ) → shard_of colours key < MAX_COLOURS
    → shards colours (key ∷ []) ≡ shard_of colours key ∷ []
one_shard colours key low =
    sym (members-set_of (shard_of colours key ∷ [])) ∙ members-one (shard_of colours key) low

-- a number beyond a range is none of it
beyond : (c a n : ℕ) → a + n ≤ c → filter (λ x. (c == x) || false) (range_with_len a n) ≡ []
beyond c a zero le = refl
beyond c a (suc n) le =
    step c a n le (filter (λ x. (c == x) || false) (range_with_len (a + 1) n)) (beyond c (a + 1) n (omega (arith, le))) (c == a) refl where
      step : (c a n : ℕ) → a + suc n ≤ c → (rest : List ℕ) → rest ≡ [] → (b : Bool) → (c == a) ≡ b
          → cond (b || false) (a ∷ rest) rest ≡ []
      step c a n le rest none true t = let e = eqb-true c a t in absurd (let f : ⊥ = omega (arith, le, e) in f)
      step c a n le rest none false f = none

-- one key has no two shards
pub not_several : (colours key several : List ℕ) → several ≡ shards colours (key ∷ []) → 2 ≤ length several → ⊥
not_several colours key several is two = at (cases_lt (shard_of colours key) MAX_COLOURS) where
  long : length several ≡ length (shards colours (key ∷ []))
  long = ap length is

  at : (shard_of colours key < MAX_COLOURS) ⊎ (MAX_COLOURS ≤ shard_of colours key) → ⊥
  at (inl low) = let e = ap length (one_shard colours key low) in let f : ⊥ = omega (arith, two, long, e) in f
  at (inr high) =
      let e = ap length (beyond (shard_of colours key) 0 MAX_COLOURS (omega (arith, high))) in
      let f : ⊥ = omega (arith, two, long, e) in f

-- what asks for a key gets, and syncs the key's shard
pub key_gets : (what : What) (object : ℕ) (key : List ℕ) → AsksForKey what object key → manner_of what ≡ Getting
key_gets what object key asks = ap (λ (d : Deed). d.manner) asks.gets

pub key_synced : (caller : Caller) (what : What) (object : ℕ) (key : List ℕ) (kind : Option Kind)
    → AsksForKey what object key → kind_of_object caller object ≡ kind
    → colours_synced caller what ≡ shards (object_colours kind) (key ∷ [])
key_synced caller what object key kind asks at =
    ap (λ (d : Deed). colours_reached (object_colours (kind_asked caller what)) d.syncs) asks.gets
    ∙ (ap (λ (u : Use). shards (object_colours (kind_used caller u)) (key ∷ [])) asks.uses
    ∙ ap (λ (k : Option Kind). shards (object_colours k) (key ∷ [])) at)

-- what asks for a key of an object with these colours syncs its shard alone
pub shard_synced : (caller : Caller) (what : What) (object : ℕ) (key colours : List ℕ) (kind : Option Kind) (sync : SyncPiece)
    → AsksForKey what object key → kind_of_object caller object ≡ kind → object_colours kind ≡ colours
    → shard_of colours key < MAX_COLOURS → sync.colour ≡ shard_of colours key
    → colours_synced caller what ≡ sync.colour ∷ []
shard_synced caller what object key colours kind sync asks at own low shard =
    key_synced caller what object key kind asks at
    ∙ (ap (λ (cs : List ℕ). shards cs (key ∷ [])) own
    ∙ (one_shard colours key low ∙ ap (λ (c : ℕ). c ∷ []) (sym shard)))

-- the kind of the object of a command that asks for a key
pub asked_kind : (caller : Caller) (what : What) (sync : SyncPiece) (kind : Option Kind) (key : List ℕ)
    → AsksOf caller what sync kind key → kind_asked caller what ≡ kind
asked_kind caller what sync kind key asks = ap (kind_used caller) asks.1.uses ∙ asks.2

-- and of a decide
pub decide_kind : (caller : Caller) (what : What) (sync : SyncPiece) (colours : List ℕ)
    → (asks : AsksToDecide caller what sync colours) → kind_asked caller what ≡ Some (kinds.Parts asks.3 colours)
decide_kind caller what sync colours asks = ap (kind_asked caller) asks.2 ∙ asks.4
