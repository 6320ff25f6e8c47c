use Rattle.std.proofs.Common.{◌≤◌, ◌++◌, ◌∷◌, [], List, length, sym, subst, ap, ◌∙◌, append_assoc, append-nil, arith}
use Rattle.std.specs.Map.{values_of}
use Rattle.tree_fold.specs.declared.entries.Entry.{Entry}
use Rattle.tree_fold.specs.declared.places.Place.{Place}
use Rattle.tree_fold.specs.Places.{AreMoved}
use Rattle.tree_fold.proofs.MoveLemmas.{values_more, none_below}
use Rattle.tree_fold.proofs.moving.put_below.Goals as goal

pub loop-entry-preserved : goal.loop-entry-preserved
loop-entry-preserved c =
    let x : Place × Entry = (c.in-Some.field-0-0.now, c.in-Some.entry.now) in
    let inv = c.loop-entry.invariant in
    record {
      done = inv.done ++ x ∷ [];
      parts = append_assoc inv.done (x ∷ []) c.next.new.self ∙ ap (λ (l : List (Place × Entry)). inv.done ++ l) (sym c.in-Some.ensures.steps) ∙ inv.parts;
      moved = λ branch h.
          subst (λ (l : List Entry). AreMoved (length c.args.source.now) c.args.target.now l c.put_moved.new.moved)
          (append_assoc branch (values_of inv.done) (x.1 ∷ []) ∙ ap (λ (l : List Entry). branch ++ l) (sym (values_more inv.done x)))
          (c.in_ok-put_moved.ensures (branch ++ values_of inv.done) (inv.moved branch h));
    }

pub returns-else-source-lt-MAX_NAMES : goal.returns-else-source-lt-MAX_NAMES
returns-else-source-lt-MAX_NAMES c = λ branch h.
    let long : 4 ≤ length c.args.source.now = omega (arith, c.if-source-lt-MAX_NAMES.false) in
    subst (λ (l : List (Place × Entry)). AreMoved (length c.args.source.now) c.args.target.now (branch ++ values_of l) c.args.moved.now)
    (sym (none_below c.args.entries.now.entries c.args.source.now c.requires.placed long))
    (subst (λ (l : List Entry). AreMoved (length c.args.source.now) c.args.target.now l c.args.moved.now) (sym (append-nil branch)) h)
