use Rattle.std.proofs.Common.{◌∷◌, [], length, subst, sym}
use Rattle.std.specs.Map.{values_of}
use Rattle.std.specs.Prelude.{filter}
use Rattle.tree_fold.specs.declared.moving.Moved.{Moved}
use Rattle.tree_fold.specs.Paths.{goes_on_from}
use Rattle.tree_fold.specs.Places.{AreMoved}
use Rattle.tree_fold.proofs.MoveLemmas.{branch_found, branch_alone}
use Rattle.tree_fold.proofs.moving.moved_branch.Goals as goal
use Rattle.tree_fold.proofs.moving.moved_branch.Goals.{in-Some+in_ok-put_moved, in_default}

pub returns : goal.returns
returns c =
    let m = c.args.entries.now in
    let source = c.args.source.now in
    let count = length source in
    let target = c.args.target.now in
    let rest = values_of (filter (λ e. goes_on_from source e.1.path) m.entries) in
    let none : AreMoved count target [] (record { places = c.new.result; entries = c.new-2.result }) = record { places = c.new.ensures.items; entries = c.new-2.ensures.items } in
    elim c.match-entry_of.branch [
      | in-Some+in_ok-put_moved w ↦
          let e = w.in-Some.entry.now in
          let first : AreMoved count target (e ∷ []) c.match-entry_of.moved = subst (λ (it : Moved). AreMoved count target (e ∷ []) it) (sym w.moved-is) (w.in_ok-put_moved.ensures [] none) in
          (e ∷ rest, branch_found m source c.requires.placed e (sym w.in-Some.ensures), c.in_ok-put_below.ensures (e ∷ []) first)
      | in_default w ↦
          let first : AreMoved count target [] c.match-entry_of.moved = subst (λ (it : Moved). AreMoved count target [] it) (sym w.moved-is) none in
          (rest, branch_alone m source c.requires.placed (sym w.in_default.ensures), c.in_ok-put_below.ensures [] first)
    ]
