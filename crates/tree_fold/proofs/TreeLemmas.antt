-- Trees by the values of their paths: what a change makes of them, and that each beginning of a path that is there is there.
use Rattle.std.proofs.Common.{◌≡◌, ℕ, ◌≤◌, Bool, true, false, ◌&&◌, cond, ltb, List, [], ◌∷◌, ◌++◌, length, drop, Option, None, inl, inr, refl, ap, sym, ◌∙◌, arith}
use Rattle.std.specs.Prelude.{IsTrue}
use Rattle.std.specs.Option.{is_some}
use Rattle.std.specs.List.{list_any, AllByRecursion}
use Rattle.std.proofs.lemmas.Bool.{cases_Bool, false_from_ne_true, both_ways}
use Rattle.std.proofs.lemmas.List.{drop_at}
use Rattle.tree_fold.specs.declared.entries.Entry.{Entry}
use Rattle.tree_fold.specs.declared.change.Change.{Change}
use Rattle.tree_fold.specs.declared.change.Change.TheVariants.{Make, Remove, Move}
use Rattle.tree_fold.specs.Paths.{Path, begins_with, goes_on_from, is_same, parent_of}
use Rattle.tree_fold.specs.Trees.{Tree, value_in, is_there, has_more, is_too_deep, moved_path, why, changed}
use Rattle.tree_fold.specs.TreeStates.{SameTree}
use Rattle.tree_fold.proofs.OrderLemmas.{begins_is, begins_front, same_is, same_self, same_turned}
use Rattle.tree_fold.proofs.EntryLemmas.{value_here, value_later}
pub use Rattle.log_node.proofs.CallerLemmas.{same_tests as alike}

-- ---- tests

-- each beginning of a path that is there is there
abbrev pub IsClosed : Tree → Type 0
IsClosed tree = (path rest : Path) → IsTrue (is_there tree (path ++ rest)) → IsTrue (is_there tree path)

pub there_if : (t : Tree) (q : Path) → is_some (value_in t q) ≡ true → is_there t q ≡ true
there_if t [] h = refl
there_if t (n ∷ q) h = h

pub value_if : (t : Tree) (q : Path) → is_there t q ≡ true → 1 ≤ length q → is_some (value_in t q) ≡ true
value_if t [] h some = absurd (omega arith)
value_if t (n ∷ q) h some = h

-- ---- what two trees with the same values have alike

pub there_same : (a b : Tree) → SameTree a b → (q : Path) → is_there a q ≡ is_there b q
there_same a b same [] = refl
there_same a b same (n ∷ q) = ap is_some (same (n ∷ q))

-- some path that is there passes
pub any_there : (t : Path → Bool) (a : Tree) → list_any (λ e. t e.path) a ≡ true → (q : Path) × (t q ≡ true) × (is_some (value_in a q) ≡ true)
any_there t [] h = absurd cc
any_there t (x ∷ a) h = elim (cases_Bool (t x.path)) [
  | inl here ↦ (x.path, here, ap is_some (value_here x.path x a (same_self x.path)))
  | inr other ↦
      let later = any_there t a (rw other at h) in (
        later.0,
        later.1,
        elim (cases_Bool (is_same later.0 x.path)) [
          | inl first ↦ ap is_some (value_here later.0 x a first)
          | inr apart ↦ ap is_some (value_later later.0 x a apart) ∙ later.2
        ],
      )
]

pub there_any : (t : Path → Bool) (a : Tree) (q : Path) → t q ≡ true → is_some (value_in a q) ≡ true → list_any (λ e. t e.path) a ≡ true
there_any t [] q pass h = absurd cc
there_any t (x ∷ a) q pass h = elim (cases_Bool (is_same q x.path)) [
  | inl first ↦ rw (ap t (sym (same_is q x.path first)) ∙ pass) refl
  | inr apart ↦
      let later = there_any t a q pass (ap is_some (sym (value_later q x a apart)) ∙ h) in
      elim (cases_Bool (t x.path)) [ inl here ↦ rw here refl | inr other ↦ rw other later ]
]

pub any_same : (t : Path → Bool) (a b : Tree) → SameTree a b → list_any (λ e. t e.path) a ≡ list_any (λ e. t e.path) b
any_same t a b same =
    alike (list_any (λ e. t e.path) a) (list_any (λ e. t e.path) b)
    (λ h. let q = any_there t a h in there_any t b q.0 q.1 (ap is_some (sym (same q.0)) ∙ q.2))
    (λ h. let q = any_there t b h in there_any t a q.0 q.1 (ap is_some (same q.0) ∙ q.2))

pub why_same : (a b : Tree) → SameTree a b → (change : Change) → why a change ≡ why b change
why_same a b same (Make path value) = rw (there_same a b same path, there_same a b same (parent_of path)) refl
why_same a b same (Remove path) = rw (there_same a b same path, any_same (goes_on_from path) a b same) refl
why_same a b same (Move source target) =
    rw (
      there_same a b same source,
      there_same a b same target,
      there_same a b same (parent_of target),
      any_same (λ p. begins_with source p && ltb 4 (length (moved_path source target p))) a b same,
    ) refl

-- ---- what a done change rests on

pub record MayMake (t : Tree) (path : Path) : Type 0 where
  pub absent : is_there t path ≡ false
  pub parent : is_there t (parent_of path) ≡ true

pub may_make : (t : Tree) (path : Path) (value : List ℕ) → why t (Make path value) ≡ None → MayMake t path
may_make t path value h = elim (cases_Bool (is_there t path)) [
  | inl here ↦ let no = rw here at h in absurd cc
  | inr absent ↦ elim (cases_Bool (is_there t (parent_of path))) [
    | inl parent ↦ record { absent = absent; parent = parent }
    | inr orphan ↦ let no = rw (absent, orphan) at h in absurd cc
  ]
]

pub record MayRemove (t : Tree) (path : Path) : Type 0 where
  pub there : is_there t path ≡ true
  pub last : has_more t path ≡ false

pub may_remove : (t : Tree) (path : Path) → why t (Remove path) ≡ None → MayRemove t path
may_remove t path h = elim (cases_Bool (is_there t path)) [
  | inl here ↦ elim (cases_Bool (has_more t path)) [
    | inl more ↦ let no = rw (here, more) at h in absurd cc
    | inr last ↦ record { there = here; last = last }
  ]
  | inr absent ↦ let no = rw absent at h in absurd cc
]

pub record MayMove (t : Tree) (source target : Path) : Type 0 where
  pub there : is_there t source ≡ true
  pub outside : begins_with source target ≡ false
  pub absent : is_there t target ≡ false
  pub parent : is_there t (parent_of target) ≡ true
  pub shallow : is_too_deep t source target ≡ false

pub may_move : (t : Tree) (source target : Path) → why t (Move source target) ≡ None → MayMove t source target
may_move t source target h = elim (cases_Bool (is_there t source)) [
  | inl there ↦ elim (cases_Bool (begins_with source target)) [
    | inl inside ↦ let no = rw (there, inside) at h in absurd cc
    | inr outside ↦ elim (cases_Bool (is_there t target)) [
      | inl here ↦ let no = rw (there, outside, here) at h in absurd cc
      | inr absent ↦ elim (cases_Bool (is_there t (parent_of target))) [
        | inl parent ↦ elim (cases_Bool (is_too_deep t source target)) [
          | inl deep ↦ let no = rw (there, outside, absent, parent, deep) at h in absurd cc
          | inr shallow ↦ record { there = there; outside = outside; absent = absent; parent = parent; shallow = shallow }
        ]
        | inr orphan ↦ let no = rw (there, outside, absent, orphan) at h in absurd cc
      ]
    ]
  ]
  | inr missing ↦ let no = rw missing at h in absurd cc
]

-- ---- values after a change

pub value_removed : (p : Path) (t : Tree) (q : Path) → value_in (changed t (Remove p)) q ≡ cond (is_same p q) None (value_in t q)
value_removed p [] q = elim (cases_Bool (is_same p q)) [ inl h ↦ rw h refl | inr h ↦ rw h refl ]
value_removed p (x ∷ t) q =
    let later = value_removed p t q in
    let rest = changed t (Remove p) in
    elim (cases_Bool (is_same p x.path)) [
      | inl gone ↦ rw gone (elim (cases_Bool (is_same p q)) [
        | inl h ↦ later ∙ rw h refl
        | inr h ↦
            let apart : is_same q x.path ≡ false = ap (is_same q) (sym (same_is p x.path gone)) ∙ same_turned p q h in
            later ∙ ap (cond (is_same p q) None) (sym (value_later q x t apart))
      ])
      | inr stays ↦ rw stays (elim (cases_Bool (is_same q x.path)) [
        | inl here ↦
            let other : is_same p q ≡ false = ap (is_same p) (same_is q x.path here) ∙ stays in
            value_here q x rest here ∙ sym (rw other (value_here q x t here))
        | inr apart ↦ value_later q x rest apart ∙ later ∙ ap (cond (is_same p q) None) (sym (value_later q x t apart))
      ])
    ]

-- no path of the tree begins with this one
abbrev pub NoneBegins : Path → Tree → Type 0
NoneBegins path t = AllByRecursion (λ e. begins_with path e.path ≡ false) t

-- the value of a path after a move, by the values before it
abbrev pub value_moved : Path → Path → Tree → Path → Option (List ℕ)
value_moved source target t q =
    cond (begins_with target q) (value_in t (source ++ drop (length target) q)) (cond (begins_with source q) None (value_in t q))

rest_again : (front rest : Path) → drop (length front) (front ++ rest) ≡ rest
rest_again front rest = drop_at front rest (length front) refl

-- a path that begins with another is not the same as one that does not
pub begins_apart : (front a b : Path) → begins_with front a ≡ true → begins_with front b ≡ false → is_same a b ≡ false
begins_apart front a b h k = false_from_ne_true (is_same a b) (λ same. both_ways (begins_with front a) (ap (begins_with front) (same_is a b same) ∙ k) h)

module _ (source target : Path) where
  pub value_of_moved : (t : Tree) (q : Path) → NoneBegins target t → value_in (changed t (Move source target)) q ≡ value_moved source target t q
  value_of_moved [] q none = elim (cases_Bool (begins_with target q)) [
    | inl h ↦ rw h refl
    | inr h ↦ rw h (elim (cases_Bool (begins_with source q)) [ inl k ↦ rw k refl | inr k ↦ rw k refl ])
  ]
  value_of_moved (x ∷ t) q none = elim (cases_Bool (begins_with source x.path)) [
    | inl moves ↦
        let r = drop (length source) x.path in
        let is : x.path ≡ source ++ r = begins_is source x.path moves in
        let y : Entry = record { path = target ++ r; value = x.value } in
        let rest = changed t (Move source target) in
        rw moves (elim (cases_Bool (is_same q (target ++ r))) [
          | inl here ↦
              let q_is = same_is q (target ++ r) here in
              let begins : begins_with target q ≡ true = ap (begins_with target) q_is ∙ begins_front target r in
              let back : source ++ drop (length target) q ≡ x.path = ap (λ p. source ++ drop (length target) p) q_is ∙ ap (λ s. source ++ s) (rest_again target r) ∙ sym is in
              value_here q y rest here ∙ sym (rw begins (value_here (source ++ drop (length target) q) x t (ap (λ p. is_same p x.path) back ∙ same_self x.path)))
          | inr apart ↦ value_later q y rest apart ∙ value_of_moved t q none.1 ∙ sym (elim (cases_Bool (begins_with target q)) [
            | inl begins ↦
                let s = drop (length target) q in
                let other : is_same (source ++ s) x.path ≡ false =
                false_from_ne_true (is_same (source ++ s) x.path) (λ same.
                let e : source ++ s ≡ source ++ r = same_is (source ++ s) x.path same ∙ is in
                let tail : s ≡ r = sym (rest_again source s) ∙ ap (drop (length source)) e ∙ rest_again source r in
                let whole : q ≡ target ++ r = begins_is target q begins ∙ ap (λ u. target ++ u) tail in
                both_ways (is_same q (target ++ r)) apart (ap (λ p. is_same p (target ++ r)) whole ∙ same_self (target ++ r))) in
                rw begins (value_later (source ++ s) x t other)
            | inr not_target ↦ rw not_target (elim (cases_Bool (begins_with source q)) [
              | inl from ↦ rw from refl
              | inr not_source ↦ rw not_source (value_later q x t (same_turned x.path q (begins_apart source x.path q moves not_source)))
            ])
          ])
        ])
    | inr stays ↦
        let rest = changed t (Move source target) in
        rw stays (elim (cases_Bool (is_same q x.path)) [
          | inl here ↦
              let q_is = same_is q x.path here in
              let not_target : begins_with target q ≡ false = ap (begins_with target) q_is ∙ none.0 in
              let not_source : begins_with source q ≡ false = ap (begins_with source) q_is ∙ stays in
              value_here q x rest here ∙ sym (rw (not_target, not_source) (value_here q x t here))
          | inr apart ↦ value_later q x rest apart ∙ value_of_moved t q none.1 ∙ sym (elim (cases_Bool (begins_with target q)) [
            | inl begins ↦
                let s = drop (length target) q in
                rw begins (value_later (source ++ s) x t (begins_apart source (source ++ s) x.path (begins_front source s) stays))
            | inr not_target ↦ rw not_target (elim (cases_Bool (begins_with source q)) [
              | inl from ↦ rw from refl
              | inr not_source ↦ rw not_source (value_later q x t apart)
            ])
          ])
        ])
  ]
