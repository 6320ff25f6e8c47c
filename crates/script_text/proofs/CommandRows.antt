-- What the fields behind a word give: for each word of an object a row.
use Rattle.std.proofs.Common.{◌≡◌, ℕ, true, List, Option, Some, None, refl, ap, sym, subst, ◌∙◌}
use Rattle.std.specs.Prelude.{IsTrue, slice_get}
use Rattle.script_text.specs.declared.script.Object.{Object}
use Rattle.script_text.specs.declared.commands.Word.{Word}
use Rattle.script_text.specs.declared.commands.Word.TheVariants as words
use Rattle.script_text.specs.declared.table.Kinds.{Kinds}
use Rattle.script_text.specs.declared.table.TheConstants.{MAP, ANY_MAP, TX, QUEUE, TREE, PARTS}
use Rattle.script_text.specs.declared.given.Given.{Given}
use Rattle.script_text.specs.declared.item.Item.{Item}
use Rattle.script_text.specs.Commands.{what_of}
use Rattle.script_text.specs.Table.{row_fields, is_of, nothing}
use Rattle.script_text.specs.Items.{objects}
use Rattle.script_text.specs.Grammar.{is_one_of, SpellAll}
use Rattle.script_text.specs.Fitting.{HasObject, UsesObject}
use Rattle.script_text.proofs.FittingLemmas.{no}

-- the object is there
has_object : (of : Kinds) (made : List Object) (object : ℕ) → IsTrue (is_one_of of (slice_get made object))
    → HasObject made object (is_of of)
has_object of made object ok = pick (slice_get made object) refl ok where
  pick : (o : Option Object) → slice_get made object ≡ o → is_one_of of o ≡ true → HasObject made object (is_of of)
  pick None e f = no f
  pick (Some o) e f = record { found = o; there = e; kind = f }

-- a row for each word of an object: the object is there, and the keys, values and paths behind it may be
pub uses_of : (before : List Item) (args : List (List ℕ)) (word : Word) (given : Given)
    → SpellAll before (row_fields word) args nothing given → UsesObject (objects before) (what_of word given)
uses_of before args words.Put given s =
    let whole = s.2.2.2.1 ∙ (s.2.2.1.3 ∙ ap (λ (g : Given). record g { value = s.2.2.1.0 })
    (s.2.1.3 ∙ ap (λ (g : Given). record g { key = s.2.1.0 }) s.1.3)) in
    subst (λ (g : Given). UsesObject (objects before) (what_of words.Put g)) (sym whole)
    (has_object ANY_MAP (objects before) s.1.0 s.1.2, (s.2.1.2, s.2.2.1.2))
uses_of before args words.Get given s =
    let whole = s.2.2.1 ∙ (s.2.1.3 ∙ ap (λ (g : Given). record g { key = s.2.1.0 }) s.1.3) in
    subst (λ (g : Given). UsesObject (objects before) (what_of words.Get g)) (sym whole)
    (has_object ANY_MAP (objects before) s.1.0 s.1.2, s.2.1.2)
uses_of before args words.Del given s =
    let whole = s.2.2.1 ∙ (s.2.1.3 ∙ ap (λ (g : Given). record g { key = s.2.1.0 }) s.1.3) in
    subst (λ (g : Given). UsesObject (objects before) (what_of words.Del g)) (sym whole)
    (has_object MAP (objects before) s.1.0 s.1.2, s.2.1.2)
uses_of before args words.PutAll given s =
    let whole = s.2.2.1 ∙ (s.2.1.2 ∙ ap (λ (g : Given). record g { pairs = _ }) s.1.3) in
    subst (λ (g : Given). UsesObject (objects before) (what_of words.PutAll g)) (sym whole)
    (has_object MAP (objects before) s.1.0 s.1.2, s.2.1.1)
uses_of before args words.GetAll given s =
    let whole = s.2.2.1 ∙ (s.2.1.1 ∙ ap (λ (g : Given). record g { keys = _ }) s.1.3) in
    subst (λ (g : Given). UsesObject (objects before) (what_of words.GetAll g)) (sym whole)
    (has_object MAP (objects before) s.1.0 s.1.2, s.2.1.0)
uses_of before args words.Read given s =
    let whole = s.2.2.1 ∙ (s.2.1.1 ∙ ap (λ (g : Given). record g { keys = _ }) s.1.3) in
    subst (λ (g : Given). UsesObject (objects before) (what_of words.Read g)) (sym whole)
    (has_object TX (objects before) s.1.0 s.1.2, s.2.1.0)
uses_of before args words.Commit given s =
    let whole = s.2.2.1 ∙ (s.2.1.2 ∙ ap (λ (g : Given). record g { pairs = _ }) s.1.3) in
    subst (λ (g : Given). UsesObject (objects before) (what_of words.Commit g)) (sym whole)
    (has_object TX (objects before) s.1.0 s.1.2, s.2.1.1)
uses_of before args words.Enq given s =
    let whole = s.2.2.1 ∙ (s.2.1.3 ∙ ap (λ (g : Given). record g { value = s.2.1.0 }) s.1.3) in
    subst (λ (g : Given). UsesObject (objects before) (what_of words.Enq g)) (sym whole)
    (has_object QUEUE (objects before) s.1.0 s.1.2, s.2.1.2)
uses_of before args words.Deq given s =
    subst (λ (g : Given). UsesObject (objects before) (what_of words.Deq g)) (sym (s.2.1 ∙ s.1.3))
    (has_object QUEUE (objects before) s.1.0 s.1.2, tt)
uses_of before args words.Mk given s =
    let whole = s.2.2.2.1 ∙ (s.2.2.1.3 ∙ ap (λ (g : Given). record g { value = s.2.2.1.0 })
    (s.2.1.3 ∙ ap (λ (g : Given). record g { path = s.2.1.0 }) s.1.3)) in
    subst (λ (g : Given). UsesObject (objects before) (what_of words.Mk g)) (sym whole)
    (has_object TREE (objects before) s.1.0 s.1.2, (s.2.1.2, s.2.2.1.2))
uses_of before args words.Rm given s =
    let whole = s.2.2.1 ∙ (s.2.1.3 ∙ ap (λ (g : Given). record g { path = s.2.1.0 }) s.1.3) in
    subst (λ (g : Given). UsesObject (objects before) (what_of words.Rm g)) (sym whole)
    (has_object TREE (objects before) s.1.0 s.1.2, s.2.1.2)
uses_of before args words.Mv given s =
    let whole = s.2.2.2.1 ∙ (s.2.2.1.3 ∙ ap (λ (g : Given). record g { target = s.2.2.1.0 })
    (s.2.1.3 ∙ ap (λ (g : Given). record g { path = s.2.1.0 }) s.1.3)) in
    subst (λ (g : Given). UsesObject (objects before) (what_of words.Mv g)) (sym whole)
    (has_object TREE (objects before) s.1.0 s.1.2, (s.2.1.2, s.2.2.1.2))
uses_of before args words.Ls given s =
    let whole = s.2.2.1 ∙ (s.2.1.3 ∙ ap (λ (g : Given). record g { path = s.2.1.0 }) s.1.3) in
    subst (λ (g : Given). UsesObject (objects before) (what_of words.Ls g)) (sym whole)
    (has_object TREE (objects before) s.1.0 s.1.2, s.2.1.2)
uses_of before args words.Peek given s =
    let whole = s.2.2.1 ∙ (s.2.1.3 ∙ ap (λ (g : Given). record g { key = s.2.1.0 }) s.1.3) in
    subst (λ (g : Given). UsesObject (objects before) (what_of words.Peek g)) (sym whole)
    (has_object PARTS (objects before) s.1.0 s.1.2, s.2.1.2)
uses_of before args words.Decide given s =
    let whole = s.2.2.1 ∙ (s.2.1.3 ∙ ap (λ (g : Given). record g { key = s.2.1.0 }) s.1.3) in
    subst (λ (g : Given). UsesObject (objects before) (what_of words.Decide g)) (sym whole)
    (has_object PARTS (objects before) s.1.0 s.1.2, s.2.1.2)
uses_of before args _ given s = tt
