-- An id that has not entered has no entry.
use Rattle.std.proofs.Common.{◌≡◌, ℕ, true, false, List, [], ◌∷◌, refl, ap, sym, subst, ◌∙◌, inl, inr}
use Rattle.std.specs.Prelude.{reverse}
use Rattle.std.proofs.lemmas.Bool.{or_from}
use Rattle.std.proofs.lemmas.List.{reverse-reverse}
use Rattle.log_node.specs.declared.ids.Id.{Id}
use Rattle.log_node.specs.Order.{same_id}
use Rattle.log_node.specs.Standings.{Standing}
use Rattle.skeen_core.specs.Queues.{has_id}
use Rattle.col_core.specs.declared.Entry.{Entry}
use Rattle.col_core.specs.History.{entries, has_entered}
use Rattle.col_core.specs.Computed.{dated}
use Rattle.col_core.specs.Legal.{IsColumnHistory}
use Rattle.col_core.proofs.CallerLemmas.{by_test, apart, same_id-true, In, Rises, rises, IsLawfulPast, entries-of}
use Rattle.col_core.proofs.CallerLemmas.{shown_entered, lawful_past}
use Rattle.column.proofs.Histories.{same_entries}

-- the history, read from its newest entry on, is a lawful past
pub is_past : (own regions : ℕ) (journal : List Entry) → IsColumnHistory own regions (dated own journal)
    → IsLawfulPast (reverse journal)
is_past own regions journal lawful =
    subst (λ (h : List Entry). IsLawfulPast (reverse h)) (same_entries own journal)
    (lawful_past own regions (dated own journal) lawful)

-- the entries rise in key
pub entries_rise : (own regions : ℕ) (journal : List Entry) → IsColumnHistory own regions (dated own journal)
    → Rises (entries journal)
entries_rise own regions journal lawful =
    subst Rises (sym (entries-of journal)) (rises (reverse journal) (is_past own regions journal lawful))

none_has : (id : Id) (es : List Standing) → ((x : Standing) → In x es → same_id x.key.id id ≡ false) → has_id id es
    ≡ false
none_has id [] h = refl
none_has id (e ∷ es) h =
    or_from (same_id e.key.id id) (has_id id es) (h e (inl refl)) (none_has id es (λ x i. h x (inr i)))

pub fresh_id : (own regions : ℕ) (journal : List Entry) (id : Id) → IsColumnHistory own regions (dated own journal)
    → has_entered id journal ≡ false → has_id id (entries journal) ≡ false
fresh_id own regions journal id lawful fresh =
    none_has id (entries journal) (λ x i.
    by_test (same_id x.key.id id ≡ false) (same_id x.key.id id)
    (λ t. absurd (apart (has_entered id journal)
    (subst (λ (j : Id). has_entered j journal ≡ true) (same_id-true x.key.id id t) (known x i)) fresh))
    (λ f. f)) where
      known : (x : Standing) → In x (entries journal) → has_entered x.key.id journal ≡ true
      known x i =
          ap (has_entered x.key.id) (sym (reverse-reverse journal))
          ∙ shown_entered (reverse journal) (is_past own regions journal lawful) x
          (subst (λ (es : List Standing). In x es) (entries-of journal) i)
