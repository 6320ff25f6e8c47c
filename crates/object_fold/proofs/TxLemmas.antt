-- Committed writes: a list with the newest first, and entries by keys.
use Rattle.std.proofs.Common.{◌≡◌, ℕ, cond, List, [], ◌∷◌, Option, Some, inl, inr, refl, ap, ◌∙◌}
use Rattle.std.specs.Str.{bytes_eq}
use Rattle.std.proofs.lemmas.Bool.{cases_Bool}
use Rattle.log_node.specs.declared.ids.Key.{Key}
use Rattle.log_node.specs.declared.forms.Pair.{Pair}
use Rattle.object_fold.specs.declared.tx_state.Written.{Written}
use Rattle.object_fold.specs.Transactions.{Write, written}
use Rattle.object_fold.specs.States.{written_at, written_pairs}

write_on_top : (w : Write) (writes : List Write) (key : List ℕ) → written_at (w ∷ writes) key ≡ cond (bytes_eq w.key key) (Some (record { value = w.value; writer = w.writer })) (written_at writes key)
write_on_top w writes key = elim (cases_Bool (bytes_eq w.key key)) [ inl h ↦ rw h refl | inr h ↦ rw h refl ]

-- what stands at a key after a committed transaction's writes
pub written_is : (writer : Key) (writes : List Write) (pairs : List Pair) (key : List ℕ) → written_at (written writer writes pairs) key ≡ written_pairs writer key (written_at writes key) pairs
written_is writer writes [] key = refl
written_is writer writes (p ∷ ps) key =
    let w : Write = record { key = p.key; value = p.value; writer = writer } in
    written_is writer (w ∷ writes) ps key ∙ ap (λ (o : Option Written). written_pairs writer key o ps) (write_on_top w writes key)
