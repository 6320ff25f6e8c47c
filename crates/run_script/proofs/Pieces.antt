-- What a loop over commands in pieces yields.
use Rattle.std.proofs.Common.{◌≡◌, length, Option, None, false, Global, Vec, ap, ◌∙◌}
use Rattle.std.specs.declared.iter.Flatten.{Flatten}
use Rattle.std.specs.declared.vec.IntoIter.{IntoIter}
use Rattle.std.specs.Vec.Iter.{into_iter_steps}
use Rattle.std.specs.Iterator.Adapters.{flatten_steps}
use Rattle.std.proofs.lemmas.Iterator.{YieldsList}
use Rattle.std.proofs.lemmas.Iterator.Adapters.{YieldsList-from_flatten, YieldsList-from_vec}
use Rattle.script_text.specs.declared.script.Command.{Command}
use Rattle.script_beside.specs.Dealt.{share_commands}

abbrev Piece : Type 0
Piece = Vec Command Global

abbrev Pieces : Type 0
Pieces = IntoIter Piece Global

abbrev Commands : Type 0
Commands = IntoIter Command Global

-- The commands of all pieces, one after another, where the pieces were moved to the loop. A step of the loop comes first, since
-- it tells how a piece becomes an iterator.
pub all_pieces : {becomes : Piece → Commands → Type 0} (t u : Flatten Pieces Commands) (r : Option Command)
    → flatten_steps (into_iter_steps {X = Piece} {Z = Global}) becomes (into_iter_steps {X = Command} {Z = Global}) t r u
    → ((x : Piece) (j : Commands) → becomes x j → (j.rest.items ≡ x.items) × (j.rest.len ≡ length x.items))
    → {s flat : Flatten Pieces Commands} → s ≡ flat → {source : Pieces} → flat.iter ≡ source → flat.front ≡ None
    → flat.back ≡ None → flat.done ≡ false → {moved pieces : Vec Piece Global} → moved ≡ pieces
    → source.rest.items ≡ moved.items → source.rest.len ≡ moved.len
    → YieldsList (flatten_steps (into_iter_steps {X = Piece} {Z = Global}) becomes (into_iter_steps {X = Command} {Z = Global}))
    (λ x. x) s (share_commands pieces.items)
all_pieces {becomes} t u r step each {s} same {source} of front back done {moved} {pieces} is items len =
    YieldsList-from_flatten becomes (into_iter_steps {X = Command} {Z = Global}) (λ x. x) (λ (p : Piece). p.items)
    (λ x j b. YieldsList-from_vec {s = j} x.items (each x j b).0 (each x j b).1)
    (YieldsList-from_vec {s = s.iter} pieces.items
    (ap (λ (f : Flatten Pieces Commands). f.iter.rest.items) same
    ∙ (ap (λ (i : Pieces). i.rest.items) of ∙ (items ∙ ap (λ (v : Vec Piece Global). v.items) is)))
    (ap (λ (f : Flatten Pieces Commands). f.iter.rest.len) same
    ∙ (ap (λ (i : Pieces). i.rest.len) of
    ∙ (len ∙ (moved.ok.0 ∙ ap (λ (v : Vec Piece Global). length v.items) is)))))
    (ap (λ (f : Flatten Pieces Commands). f.front) same ∙ front) (ap (λ (f : Flatten Pieces Commands). f.back) same ∙ back)
    (ap (λ (f : Flatten Pieces Commands). f.done) same ∙ done)
