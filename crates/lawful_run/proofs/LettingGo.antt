-- A read lets an earlier one go and a commit uses its read up: nothing else changes of what a client keeps.
use Rattle.std.proofs.Common.{◌≡◌, ℕ, List, ◌++◌, map, Option, Some, None, refl, sym, subst}
use Rattle.log_node.specs.declared.ids.Colours.{Colours}
use Rattle.log_node.specs.declared.forms.Pair.{Pair}
use Rattle.log_node.specs.declared.forms.Version.{Version}
use Rattle.log_node.specs.declared.forms.Form.TheVariants as forms
use Rattle.log_node.specs.Sets.{members}
use Rattle.object_form.specs.Forms.{form_text}
use Rattle.col_core.specs.Keeping.{Kept, with_read}
use Rattle.script_text.specs.declared.commands.What.{What}
use Rattle.script_text.specs.declared.commands.What.TheVariants as whats
use Rattle.script_text.specs.declared.uses.ReadUse.TheVariants.{Takes, UsesUp}
use Rattle.script_text.specs.declared.uses.Use.{Use}
use Rattle.script_text.specs.declared.uses.Use.TheVariants.{OfObject}
use Rattle.script_text.specs.Commands.{use_of}
use Rattle.lawful_run.specs.Callers.{Caller}
use Rattle.lawful_run.specs.Asks.{object_colours, colours_of_object, kind_asked, keys_of_pairs, shards}
use Rattle.lawful_run.specs.Deeds.{saying_of, found_by, SaysNode, AsksToAppend}
use Rattle.lawful_run.specs.Refusals.{before_by, behind_by, kept_before, kept_behind}

pub before_is : (P : Kept → Type 0) (what : What) (kept : Kept) → P kept →
    ((object : ℕ) → P (with_read kept object None))
    → P (kept_before what kept)
before_is P what kept p r = by (use_of what) where
  by : (u : Use) → P (before_by u kept)
  by (OfObject object Takes) = r object
  by _ = p

pub behind_is : (P : Kept → Type 0) (what : What) (kept : Kept) → P kept →
    ((object : ℕ) → P (with_read kept object None))
    → P (kept_behind what kept)
behind_is P what kept p r = by (use_of what) where
  by : (u : Use) → P (behind_by u kept)
  by (OfObject object UsesUp) = r object
  by _ = p

-- what a command asks does not rest on a read that it lets go
pub asks_before : (caller : Caller) (what : What) (kept : Kept) (colours : Colours) (text : List ℕ)
    → AsksToAppend caller (kept_before what kept) what colours text → AsksToAppend caller kept what colours text
asks_before caller what kept colours text =
    subst (λ (found : Option (List Version)). SaysNode (object_colours (kind_asked caller what))
    (saying_of (kind_asked caller what) found what) colours text) (by (use_of what)) where
      by : (u : Use) → found_by u (before_by u kept) ≡ found_by u kept
      by (OfObject object Takes) = refl
      by (OfObject object UsesUp) = refl
      by _ = refl

-- what a commit asks, over what the last read of its object found
pub commit_asks : (caller : Caller) (kept : Kept) (object : ℕ) (pairs : List Pair) (versions : List Version)
    (colours : Colours) (text : List ℕ) → kept.reads object ≡ Some versions
    → members colours ≡ shards (colours_of_object caller object) (map (λ (v : Version). v.key) versions ++ keys_of_pairs pairs)
    → text ≡ form_text (forms.Transaction versions pairs)
    → AsksToAppend caller kept (whats.Commit object pairs) colours text
commit_asks caller kept object pairs versions colours text found shown said =
    subst (λ (f : Option (List Version)). SaysNode (colours_of_object caller object)
    (saying_of (kind_asked caller (whats.Commit object pairs)) f (whats.Commit object pairs)) colours text)
    (sym found) (shown, said)
