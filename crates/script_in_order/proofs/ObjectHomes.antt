-- An object that no home refuses is at home in its client's region.
use Rattle.std.proofs.Common.{◌≡◌, ℕ, true, List, Option, Some, None, ap, sym, ◌∙◌}
use Rattle.std.specs.Prelude.{◌==◌}
use Rattle.std.specs.Option.{option_map}
use Rattle.std.proofs.lemmas.Bool.{eqb-true}
use Rattle.col_core.proofs.CallerLemmas.{by_test, if_false}
use Rattle.script_text.specs.declared.script.Kind.{Kind}
use Rattle.script_text.specs.declared.script.Kind.TheVariants as kinds
use Rattle.script_text.specs.declared.script.Object.{Object}
use Rattle.script_text.specs.Fitting.{HasObject, is_map, is_queue}
use Rattle.lawful_run.specs.Asks.{object_home}
use Rattle.script_meaning.specs.States.{kind_in}
use Rattle.script_meaning.specs.Objects.{other_home}

near_home : (own home : ℕ) → other_home own (Some home) ≡ None → home ≡ own
near_home own home near =
    by_test _ (home == own) (λ t. eqb-true home own t)
    (λ f. let e : Some home ≡ None = sym (if_false (home == own) None (Some home) f) ∙ near in
    absurd (let g : ⊥ = cc in g))

module _ (own : ℕ) (objects : List Object) (object : ℕ)
    (near : other_home own (object_home (kind_in objects object)) ≡ None) where
  pub map_home : (home : ℕ) (colours : List ℕ) → kind_in objects object ≡ Some (kinds.Map home colours)
      → kind_in objects object ≡ Some (kinds.Map own colours)
  map_home home colours is =
      is ∙ ap (λ (h : ℕ). Some (kinds.Map h colours))
      (near_home own home (ap (λ (k : Option Kind). other_home own (object_home k)) (sym is) ∙ near))

  pub parts_home : (home : ℕ) (colours : List ℕ) → kind_in objects object ≡ Some (kinds.Parts home colours)
      → kind_in objects object ≡ Some (kinds.Parts own colours)
  parts_home home colours is =
      is ∙ ap (λ (h : ℕ). Some (kinds.Parts h colours))
      (near_home own home (ap (λ (k : Option Kind). other_home own (object_home k)) (sym is) ∙ near))

  queue_home : (home colour : ℕ) → kind_in objects object ≡ Some (kinds.Queue home colour)
      → kind_in objects object ≡ Some (kinds.Queue own colour)
  queue_home home colour is =
      is ∙ ap (λ (h : ℕ). Some (kinds.Queue h colour))
      (near_home own home (ap (λ (k : Option Kind). other_home own (object_home k)) (sym is) ∙ near))

  pub map_at : HasObject objects object is_map
      → (colours : List ℕ) × (kind_in objects object ≡ Some (kinds.Map own colours))
  map_at has = of_kind has.found.kind has.kind (ap (λ (o : Option Object). option_map (λ (x : Object). x.kind) o) has.there)
    where
      of_kind : (kind : Kind) → is_map kind ≡ true → kind_in objects object ≡ Some kind
          → (colours : List ℕ) × (kind_in objects object ≡ Some (kinds.Map own colours))
      of_kind (kinds.Map home colours) q is = (colours, map_home home colours is)
      of_kind _ q is = absurd (let f : ⊥ = cc in f)

  pub queue_at : HasObject objects object is_queue
      → (colour : ℕ) × (kind_in objects object ≡ Some (kinds.Queue own colour))
  queue_at has = of_kind has.found.kind has.kind (ap (λ (o : Option Object). option_map (λ (x : Object). x.kind) o) has.there)
    where
      of_kind : (kind : Kind) → is_queue kind ≡ true → kind_in objects object ≡ Some kind
          → (colour : ℕ) × (kind_in objects object ≡ Some (kinds.Queue own colour))
      of_kind (kinds.Queue home colour) q is = (colour, queue_home home colour is)
      of_kind _ q is = absurd (let f : ⊥ = cc in f)
