-- Logs whose nodes have the same texts, and the ids of which this is known.
use Rattle.std.proofs.Common.{◌≡◌, ℕ, ◌<◌, List, [], ◌∷◌, take, inl, inr, refl}
use Rattle.std.specs.List.{AllZip}
use Rattle.log_node.specs.declared.ids.Id.{Id}
use Rattle.log_node.specs.declared.ids.Key.{Key}
use Rattle.log_node.specs.declared.node.Head.{Head}
use Rattle.log_node.specs.Seen.{PlacedNode}
use Rattle.object_form.specs.Readings.{form_of}
use Rattle.object_fold.specs.Nodes.{ObjectNode}
use Rattle.col_core.specs.Computed.{dated}
use Rattle.col_core.specs.Cuts.{chain}
use Rattle.col_core.specs.History.{line}
use Rattle.col_core.specs.Log.{Log, HasText}
use Rattle.col_core.specs.PlayOrder.{Place, Stands}
use Rattle.col_core.proofs.CallerLemmas.{In}
use Rattle.script_text.specs.declared.script.Script.{Script}
use Rattle.lawful_run.specs.Callers.{caller_of}
use Rattle.lawful_run.specs.Objects.{IsObjectNode}
use Rattle.run_rules.proofs.BareObjects.{AreAlike}

-- The ids in own lines and chains and those of the client itself are known.
pub record AreKnown (script : Script) (n : ℕ) (log : Log) (Known : Id → Type 0) : Type 0 where
  pub of_line : (colour : ℕ) → colour < script.shape.colours → (events : ℕ) (key : Key)
      → In key (line (take events (log.histories (caller_of script n).own colour))) → Known key.id
  pub of_chain : (colour : ℕ) → colour < script.shape.colours → (events : ℕ) (place : Place) (head : Head)
      → Stands (chain (caller_of script n).own
      (dated (caller_of script n).own (take events (log.histories (caller_of script n).own colour)))) place head
      → Known head.key.id
  pub of_own : (count : ℕ) → Known (record { client = n; count = count })

-- Of the ids that are known nodes are read alike by both logs, and where decisions are known to be the same they have the same
-- texts.
pub record TextsAlike (script : Script) (n : ℕ) (Decided : Type 0) (one two : Log) (Known : Id → Type 0) : Type 0 where
  pub text : Decided → (id : Id) → Known id → (text : List ℕ) → HasText one id text → HasText two id text
  pub form : (id : Id) → Known id → (text : List ℕ) → HasText one id text
      → (other : List ℕ) × HasText two id other × (form_of text ≡ form_of other)
  pub object : (key : Key) → Known key.id → (x : ObjectNode) → IsObjectNode one key x
      → (y : ObjectNode) × IsObjectNode two key y × AreAlike Decided x y
  pub known : AreKnown script n one Known

-- What node lines show of texts of known ids by the one log they show by the other.
abbrev pub ShownAlike : Log → Log → (Id → Type 0) → List PlacedNode → Type 0
ShownAlike one two Known shown = (item : PlacedNode) → In item shown → Known item.head.key.id
    → HasText one item.head.key.id item.node.text → HasText two item.head.key.id item.node.text

-- items beside one another, of which more is known
pub zip_mapped : {A B : Type 0} (R S : A → B → Type 0) (xs : List A) (ys : List B)
    → ((x : A) (y : B) → In x xs → In y ys → R x y → S x y) → AllZip R xs ys → AllZip S xs ys
zip_mapped R S [] [] f r = tt
zip_mapped R S [] (y ∷ ys) f r = absurd r
zip_mapped R S (x ∷ xs) [] f r = absurd r
zip_mapped R S (x ∷ xs) (y ∷ ys) f r = (
  f x y (inl refl) (inl refl) r.0,
  zip_mapped R S xs ys (λ z w i j. f z w (inr i) (inr j)) r.1,
)
