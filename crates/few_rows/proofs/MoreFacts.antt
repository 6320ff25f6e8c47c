-- What a client asks is the same, however many rows it may begin.
use Rattle.std.proofs.Common.{◌≡◌, ℕ, List, Option, Some, None, refl, ap, subst, sym}
use Rattle.log_node.specs.declared.ids.Colours.{Colours}
use Rattle.col_core.specs.Keeping.{Kept}
use Rattle.script_text.specs.declared.commands.What.{What}
use Rattle.script_text.specs.declared.script.Kind.{Kind}
use Rattle.script_text.specs.declared.uses.Use.{Use}
use Rattle.script_text.specs.declared.uses.Use.TheVariants.{OfLog, OfObject}
use Rattle.script_text.specs.Commands.{use_of}
use Rattle.lawful_run.specs.Callers.{Caller}
use Rattle.lawful_run.specs.Asks.{object_colours, object_home, kind_used, home_asked}
use Rattle.lawful_run.specs.Deeds.{colours_reached, deed_of, colours_synced, saying_of, found_by, SaysNode, AsksToAppend}
use Rattle.lawful_run.specs.Refusals.{IsAway}

-- the client, where it may begin so many rows
abbrev pub limited : Caller → ℕ → Caller
limited caller rows = record caller { rows = rows }

module _ (caller : Caller) (rows : ℕ) where
  kind_same : (u : Use) → kind_used (limited caller rows) u ≡ kind_used caller u
  kind_same (OfLog stops) = refl
  kind_same (OfObject object read) = refl

  pub home_same : (what : What) → home_asked (limited caller rows) what ≡ home_asked caller what
  home_same what = ap object_home (kind_same (use_of what))

  pub synced_same : (what : What) → colours_synced (limited caller rows) what ≡ colours_synced caller what
  synced_same what =
      ap (λ (k : Option Kind). colours_reached (object_colours k) (deed_of what).syncs) (kind_same (use_of what))

  pub asks_more : (kept : Kept) (what : What) (colours : Colours) (text : List ℕ)
      → AsksToAppend (limited caller rows) kept what colours text → AsksToAppend caller kept what colours text
  asks_more kept what colours text =
      subst (λ (k : Option Kind). SaysNode (object_colours k) (saying_of k (found_by (use_of what) kept) what) colours
      text) (kind_same (use_of what))

  away_from : (home : Option ℕ) → IsAway caller home → IsAway (limited caller rows) home
  away_from None away = away
  away_from (Some home) away = away

  pub away_fewer : (what : What) → IsAway caller (home_asked caller what)
      → IsAway (limited caller rows) (home_asked (limited caller rows) what)
  away_fewer what away = subst (IsAway (limited caller rows)) (sym (home_same what))
      (away_from (home_asked caller what) away)
