-- Facts of a log that a later log has as well: what stands in histories, lines, nodes and rows.
use Rattle.std.proofs.Common.{◌≡◌, ℕ, ◌<◌, ◌≤◌, List, [], ◌∷◌, length, take, Some, slice_get, slice_index_or, refl, ap, arith}
use Rattle.std.specs.List.{All, AllZip}
use Rattle.log_node.specs.declared.ids.Id.{Id}
use Rattle.log_node.specs.declared.ids.Key.{Key}
use Rattle.log_node.specs.declared.node.Node.{Node}
use Rattle.log_node.specs.declared.marks.ColourMark.{ColourMark}
use Rattle.log_node.specs.declared.marks.Outcome.TheVariants.{Final}
use Rattle.col_core.specs.declared.Entry.{Entry}
use Rattle.col_core.specs.History.{line}
use Rattle.col_core.specs.Computed.{dated}
use Rattle.col_core.specs.Log.{Log, IsLater, IsLaterMark, first, HasText, HasOutcome}
use Rattle.object_fold.specs.Nodes.{ObjectNode}
use Rattle.col_core.proofs.CallerLemmas.{outcome_stays}
use Rattle.lawful_run.specs.Objects.{IsObjectNode, AreObjectNodes}
use Rattle.lawful_run.proofs.Prefixes.{prefix_get, prefix_take, prefix_length, get_within}
pub use Rattle.log_node.proofs.CallerLemmas.{all_zip_of}

pub all_of : {A : Type 0} (P Q : A → Type 0) → ((x : A) → P x → Q x) → (xs : List A) → All P xs → All Q xs
all_of P Q f xs a k d lt = f (slice_index_or xs k d) (a k d lt)

pub same_marks : (ms : List ColourMark) → AllZip IsLaterMark ms ms
same_marks [] = tt
same_marks (m ∷ ms) = ((refl, λ _. refl), same_marks ms)

-- WHAT IS READ OFF A LOG
module _ (old new : Log) (later : IsLater old new) where
  -- the first events are the same
  pub first_same : (region colour n : ℕ) → n ≤ length (old.histories region colour)
      → first new region colour n ≡ first old region colour n
  first_same region colour n there = ap (dated region)
      (prefix_take (old.histories region colour) (new.histories region colour) n (later.histories region colour) there)

  pub taken_same : (region colour n : ℕ) → n ≤ length (old.histories region colour)
      → take n (new.histories region colour) ≡ take n (old.histories region colour)
  taken_same region colour n there = prefix_take (old.histories region colour) (new.histories region colour) n
      (later.histories region colour) there

  pub still_there : (region colour n : ℕ) → n ≤ length (old.histories region colour)
      → n ≤ length (new.histories region colour)
  still_there region colour n there = let l = prefix_length _ _ (later.histories region colour) in
      omega (arith, l, there)

  pub entry_later : (region colour place : ℕ) (e : Entry) → slice_get (old.histories region colour) place ≡ Some e
      → slice_get (new.histories region colour) place ≡ Some e
  entry_later region colour place e h = prefix_get _ _ _ _ (later.histories region colour) h

  -- a place that has an entry
  pub place_there : (region colour place : ℕ) (e : Entry) → slice_get (old.histories region colour) place ≡ Some e
      → place < length (old.histories region colour)
  place_there region colour place e h = get_within (old.histories region colour) place e h

  pub line_later : (region colour position : ℕ) (key : Key)
      → slice_get (line (old.histories region colour)) position ≡ Some key
      → slice_get (line (new.histories region colour)) position ≡ Some key
  line_later region colour position key h = prefix_get _ _ _ _ (later.lines region colour) h

  pub text_later : (id : Id) (text : List ℕ) → HasText old id text → HasText new id text
  text_later id text t = (
    t.0,
    prefix_get (old.nodes id.client) (new.nodes id.client) id.count t.0
        (later.nodes id.client) t.1,
    t.2,
    t.3,
  )

  pub object_later : (key : Key) (node : ObjectNode) → IsObjectNode old key node → IsObjectNode new key node
  object_later key node o = record {
    appended = o.appended;
    there = prefix_get _ _ _ _ (later.nodes key.id.client) o.there;
    same = o.same;
    key_is = o.key_is;
    colours = o.colours;
    text = o.text;
  }

  pub objects_later : (keys : List Key) (nodes : List ObjectNode) → AreObjectNodes old keys nodes
      → AreObjectNodes new keys nodes
  objects_later keys nodes a = all_zip_of (IsObjectNode old) (IsObjectNode new) object_later keys nodes a

  pub final_later : (node : Node) (f : ℕ) → HasOutcome old node (Final f) → HasOutcome new node (Final f)
  final_later node f h = outcome_stays old new later node (Final f) (λ e. absurd cc) h
