-- Of what is granted to a command, an append to one colour asks for its helps alone.
use Rattle.std.proofs.Common.{◌≡◌, ℕ, zero, suc, ◌+◌, Bool, List, [], ◌∷◌, length, Option, Some, None, refl, ap, ◌∙◌}
use Rattle.std.specs.List.{fold}
use Rattle.log_node.specs.declared.ids.Key.{Key}
use Rattle.log_node.specs.declared.ids.Row.{Row}
use Rattle.log_node.specs.declared.node.Node.{Node}
use Rattle.log_node.specs.Standings.{Standing}
use Rattle.col_core.specs.History.{entry_key}
use Rattle.world_laws.specs.declared.steps.Step.TheVariants.{Single}
use Rattle.world_laws.specs.Worlds.{World, home_history, run_steps, next_id, single_stamp, after}
use Rattle.world_laws.specs.Completing.{complete_steps}
use Rattle.script_meaning.specs.States.{Grants}
use Rattle.script_meaning.specs.Helping.{Helping, node_by_id, open_below, helped_row, helped_node, helped_first, helped_times, cleared, all_cleared}
use Rattle.script_meaning.specs.Appends.{with_single}

module _ (g g' : Grants) (same : g.helps ≡ g'.helps) where
  row_same : (by : ℕ) (h : Helping) (row : Option Row) → helped_row g by h row ≡ helped_row g' by h row
  row_same by h None = refl
  row_same by h (Some row) = ap (λ (f : ℕ → ℕ → Bool). let x : Helping = record {
    world = run_steps h.world (complete_steps h.world by row (f h.helps));
    helps = h.helps + 1;
  } in x) same

  node_same : (by : ℕ) (h : Helping) (node : Option Node) → helped_node g by h node ≡ helped_node g' by h node
  node_same by h None = refl
  node_same by h (Some node) = row_same by h node.row

  first_same : (by : ℕ) (h : Helping) (es : List Standing) → helped_first g by h es ≡ helped_first g' by h es
  first_same by h [] = refl
  first_same by h (e ∷ es) = node_same by h (node_by_id h.world e.key.id)

  times_same : (n by colour : ℕ) (key : Key) (h : Helping)
      → helped_times n g by colour key h ≡ helped_times n g' by colour key h
  times_same zero by colour key h = refl
  times_same (suc n) by colour key h =
      ap (helped_times n g by colour key) (first_same by h (open_below key (home_history h.world by colour)))
      ∙ times_same n by colour key (helped_first g' by h (open_below key (home_history h.world by colour)))

  pub single_same : (w : World) (client : ℕ) (text : List ℕ) (c : ℕ)
      → with_single g w client text c ≡ with_single g' w client text c
  single_same w client text c =
      let key = entry_key (single_stamp w client c) (next_id w client) in
      let h : Helping = record { world = after w (Single client c text); helps = 0 } in
      ap (λ (x : Helping). x.world)
      (times_same (length (open_below key (home_history h.world client c))) client c key h)

  -- and so do the helps of any command
  pub all_cleared_same : (client : ℕ) (key : Key) (colours : List ℕ) (w : World)
      → all_cleared g client key colours w ≡ all_cleared g' client key colours w
  all_cleared_same client key colours w =
      ap (λ (x : Helping). x.world) (folded colours (record { world = w; helps = 0 })) where
        folded : (cs : List ℕ) (h : Helping) → fold (cleared g client key) h cs ≡ fold (cleared g' client key) h cs
        folded [] h = refl
        folded (c ∷ cs) h =
            ap (λ (x : Helping). fold (cleared g client key) x cs)
            (times_same (length (open_below key (home_history h.world client c))) client c key h)
            ∙ folded cs (cleared g' client key h c)
