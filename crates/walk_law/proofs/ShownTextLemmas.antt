-- The texts that node lines show: what a table has of them, and lines before those that were put in.
use Rattle.std.proofs.Common.{◌≡◌, ℕ, ◌+◌, ◌<◌, Bool, true, false, append_assoc, cond, List, [], ◌∷◌, ◌++◌, length, drop, Option, Some, None, refl, ap, sym, subst, ◌∙◌, arith, get_or}
use Rattle.std.specs.Ordering.{is_eq}
use Rattle.std.specs.List.{find, flat_map}
use Rattle.std.specs.Map.{lookup}
use Rattle.std.specs.Option.{option_copied, option_map}
use Rattle.std.proofs.lemmas.List.{drop_more, drop_all}
use Rattle.std.proofs.lemmas.List.Concat.{flat_map-append}
use Rattle.log_node.specs.declared.ids.Id.{Id}
use Rattle.log_node.specs.Order.{same_id}
use Rattle.log_node.specs.Seen.{PlacedNode}
use Rattle.log_node.specs.contracts.ids.IdOrd.TheImpl.{cmp-value as id-cmp}
use denote.Ref.{Bor}
use Rattle.walk_law.specs.declared.shown_texts.TextTable.{TextTable}
use Rattle.walk_law.specs.ShownTexts.{AreFirstTexts, first_text, text_in}
use Rattle.walk_law.proofs.TableLemmas.{equal_is_same, found}

-- the text of an entry that is found
text_found : (o : Option (Id × Bor (List ℕ)))
    → option_copied (option_map (λ (e : Id × Bor (List ℕ)). e.1) o) ≡ option_map (λ (e : Id × Bor (List ℕ)). e.1.now) o
text_found None = refl
text_found (Some e) = refl

-- what a map has at an id
pub looked_up : (table : TextTable) (id : Id)
    → option_copied (lookup (λ k. is_eq (id-cmp.it id k)) table.by_id.entries) ≡ text_in table id
looked_up table id =
    ap (λ (o : Option (Bor (List ℕ))). option_copied o) (found id table.by_id.entries)
    ∙ text_found (find (λ (e : Id × Bor (List ℕ)). same_id e.0 id) table.by_id.entries)

-- what it has with one more
pub one_text : (old new : TextTable) (k : Id) (text : Bor (List ℕ))
    → ((other : Id) → lookup (λ e. is_eq (id-cmp.it other e)) new.by_id.entries
    ≡ cond (is_eq (id-cmp.it k other)) (Some text) (lookup (λ e. is_eq (id-cmp.it other e)) old.by_id.entries))
    → (id : Id) → text_in new id ≡ cond (same_id id k) (Some text.now) (text_in old id)
one_text old new k text step id =
    sym (looked_up new id)
    ∙ (ap (λ (o : Option (Bor (List ℕ))). option_copied o) (step id)
    ∙ (ap (λ (b : Bool). option_copied (cond b (Some text) (lookup (λ e. is_eq (id-cmp.it id e)) old.by_id.entries))) (equal_is_same k id)
    ∙ (by (same_id id k)
    ∙ ap (λ (o : Option (List ℕ)). cond (same_id id k) (Some text.now) o) (looked_up old id)))) where
      by : (b : Bool) → option_copied (cond b (Some text) (lookup (λ e. is_eq (id-cmp.it id e)) old.by_id.entries))
          ≡ cond b (Some text.now) (option_copied (lookup (λ e. is_eq (id-cmp.it id e)) old.by_id.entries))
      by true = refl
      by false = refl

first_more : (id : Id) (item : PlacedNode) (lines : List PlacedNode)
    → first_text (item ∷ lines) id ≡ cond (same_id id item.head.key.id) (Some item.node.text) (first_text lines id)
first_more id item lines = by (same_id id item.head.key.id) where
  by : (b : Bool) → option_map (λ (it : PlacedNode). it.node.text) (cond b (Some item) (find (λ (it : PlacedNode). same_id id it.head.key.id) lines))
      ≡ cond b (Some item.node.text) (first_text lines id)
  by true = refl
  by false = refl

-- one line before those that were put in
pub line_before : (items lines : List PlacedNode) (at : ℕ) (item : PlacedNode) (old new : TextTable) → at < length items
    → item ≡ get_or items at item
    → ((id : Id) → text_in new id ≡ cond (same_id id item.head.key.id) (Some item.node.text) (text_in old id))
    → AreFirstTexts (drop (at + 1) items ++ lines) old → AreFirstTexts (drop at items ++ lines) new
line_before items lines at item old new lt is put are = λ id.
    put id
    ∙ (ap (λ (o : Option (List ℕ)). cond (same_id id item.head.key.id) (Some item.node.text) o) (are id)
    ∙ (sym (first_more id item (drop (at + 1) items ++ lines))
    ∙ ap (λ (l : List PlacedNode). first_text (l ++ lines) id)
    (ap (λ (x : PlacedNode). x ∷ drop (at + 1) items) is ∙ sym (drop_more items at item lt))))

-- the lines of an item, before those of the items behind it
pub lines_before : {A : Type 0} (f : A → List PlacedNode) (all : List A) (lines : List PlacedNode) (at : ℕ) (x : A) (new : TextTable)
    → at < length all → x ≡ get_or all at x → AreFirstTexts (f x ++ (flat_map f (drop (at + 1) all) ++ lines)) new
    → AreFirstTexts (flat_map f (drop at all) ++ lines) new
lines_before {A = A} f all lines at x new lt is are =
    subst (λ (l : List PlacedNode). AreFirstTexts l new)
    (sym (append_assoc (f x) (flat_map f (drop (at + 1) all)) lines)
    ∙ ap (λ (l : List A). flat_map f l ++ lines) (ap (λ (y : A). y ∷ drop (at + 1) all) is ∙ sym (drop_more all at x lt))) are

-- behind the last
pub none_before : {A : Type 0} (f : A → List PlacedNode) (all : List A) (lines : List PlacedNode) (n : ℕ) (table : TextTable)
    → n ≡ length all → AreFirstTexts lines table → AreFirstTexts (flat_map f (drop n all) ++ lines) table
none_before {A = A} f all lines n table long are =
    subst (λ (l : List A). AreFirstTexts (flat_map f l ++ lines) table) (sym (drop_all n all (omega (arith, long)))) are

-- the lines of all replies, client by client
pub lines_by_client : {A B C : Type 0} (f : B → List C) (g : A → List B) (xs : List A)
    → flat_map f (flat_map g xs) ≡ flat_map (λ x. flat_map f (g x)) xs
lines_by_client f g [] = refl
lines_by_client f g (x ∷ xs) =
    flat_map-append f (g x) (flat_map g xs) ∙ ap (λ l. flat_map f (g x) ++ l) (lines_by_client f g xs)
