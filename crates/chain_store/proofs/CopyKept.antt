-- What the writer of a column's copies keeps as it takes in news and publishes them.
use Rattle.std.specs.Prelude.{MatchResult, IfOk, IfSome}
use Rattle.core.specs.Result.{is_err, result_ok}
use Rattle.std.proofs.Common.{Result, Ok, Err, Option, Some, true, false, ◌≡◌, List, [], ◌∷◌, ◌++◌, fold, refl, ap, sym, subst, ◌∙◌, append-nil}
use mathlib.Core.List.{IsPrefix}
use Rattle.log_node.specs.declared.ids.Counts.{Counts}
use Rattle.log_node.specs.Vectors.{zeros}
use Rattle.turn_cell.specs.Cells.{seen}
use Rattle.turn_cell.specs.Rests.{rest_seen}
use Rattle.chain_store.specs.declared.told.Tag.{Tag}
use Rattle.chain_store.specs.declared.told.Told.{Told}
use Rattle.chain_store.specs.declared.read_view.name.ColumnName.{ColumnName}
use Rattle.chain_store.specs.declared.read_view.name.Shape.{Shape}
use Rattle.chain_store.specs.declared.read_view.copied.Copied.{Copied}
use Rattle.chain_store.specs.declared.read_view.copied.News.{News}
use Rattle.chain_store.specs.Histories.{HasIds}
use Rattle.chain_store.specs.Passes.{ColumnPass, IsLawfulTold, ShowsHistory}
use Rattle.chain_store.specs.Shown.{merged}
use Rattle.chain_store.specs.Copies.{column_of, column_of_rest, shape_of, with_news, shape_with, IsGood, IsKept, IsNews}
use Rattle.chain_store.specs.CopyRule.{Finds}
use Rattle.chain_store.proofs.Going.{prefix_then}
use Rattle.chain_store.proofs.Shows.{merged_shows}

fold_snoc : (s : Shape) (ns : List News) (n : News) → fold with_news s (ns ++ n ∷ []) ≡ with_news (fold with_news s ns) n
fold_snoc s [] n = refl
fold_snoc s (m ∷ ns) n = fold_snoc (with_news s m) ns n

-- what is shown of a pass's column goes on to what the pass has seen
news_good : (s : Shape) (n : News) (p : ColumnPass) (cut : Counts) → IsGood s → s.column ≡ column_of p → IsPrefix s.seen (seen p)
    → s.view.cut ≡ cut → IsNews n p cut → IsGood (with_news s n)
news_good s n p cut good of older is news =
    let tags : good.tag ≡ news.tag =
    (let f : Some good.tag ≡ Some news.tag = sym good.tagged ∙ ap (λ (c : ColumnName). c.tag) of ∙ news.tagged in cc (f)) in
    let shows : ShowsHistory news.tag s.seen zeros s.view = subst (λ (t : Tag). ShowsHistory t s.seen zeros s.view) tags good.shows in
    let next : ShowsHistory news.tag (seen p) s.view.cut n.view =
    subst (λ (c : Counts). ShowsHistory news.tag (seen p) c n.view) (sym is) news.shows in record {
      tag = news.tag;
      tagged = ap (λ (c : ColumnName). c.tag) news.first_of ∙ news.tagged;
      lawful = subst (IsLawfulTold news.tag) (sym news.first_seen) news.lawful;
      ids = subst HasIds (sym news.first_seen) news.ids;
      shows = subst (λ (log : List Told). ShowsHistory news.tag log zeros (merged s.view n.view)) (sym news.first_seen)
          (merged_shows news.tag s.seen (seen p) s.view n.view older news.lawful shows next);
    }

-- news wait
pub takes_in : (shown : Copied) (pending : List News) (p : ColumnPass) (cut : Counts) (n : News)
    → IsKept shown pending p cut → IsNews n p cut → IsKept shown (pending ++ n ∷ []) p n.view.cut
takes_in shown pending p cut n kept news =
    let s = shape_with shown pending in
    let e : shape_with shown (pending ++ n ∷ []) ≡ with_news s n = fold_snoc (shape_of shown) pending n in record {
      good = subst IsGood (sym e) (news_good s n p cut kept.good kept.same kept.seen_by kept.cut_is news);
      same = ap (λ (z : Shape). z.column) e ∙ news.first_of;
      shown_of = kept.shown_of;
      seen_by = subst (λ (z : Shape). IsPrefix z.seen (seen p)) (sym e)
          (subst (λ (l : List Told). IsPrefix l (seen p)) (sym news.first_seen) ([], append-nil (seen p)));
      cut_is = ap (λ (z : Shape). z.view.cut) e;
    }

-- the pass has seen more
pub grows : (shown : Copied) (pending : List News) (p q : ColumnPass) (cut : Counts) → IsKept shown pending p cut
    → IsPrefix (seen p) (seen q) → column_of q ≡ column_of p → IsKept shown pending q cut
grows shown pending p q cut kept more same = record {
  good = kept.good;
  same = kept.same ∙ sym same;
  shown_of = kept.shown_of ∙ sym same;
  seen_by = prefix_then _ _ _ kept.seen_by more;
  cut_is = kept.cut_is;
}

-- once all is published
published : (shown y : Copied) (pending rest : List News) (p : ColumnPass) (cut : Counts)
    → IsKept shown pending p cut → shape_of y ≡ shape_with shown pending → rest ≡ [] → IsKept y rest p cut
published shown y pending rest p cut kept is none =
    subst (λ (z : List News). IsKept y z p cut) (sym none) (record {
      good = subst IsGood (sym is) kept.good;
      same = ap (λ (z : Shape). z.column) is ∙ kept.same;
      shown_of = ap (λ (z : Shape). z.column) is ∙ kept.same;
      seen_by = subst (λ (z : Shape). IsPrefix z.seen (seen p)) (sym is) kept.seen_by;
      cut_is = ap (λ (z : Shape). z.view.cut) is ∙ kept.cut_is;
    })

-- what is published then is good, of the same column
pub goes_on : (shown next : Copied) (pending : List News) (p : ColumnPass) (cut : Counts)
    → IsKept shown pending p cut → shape_of next ≡ shape_with shown pending
    → IsGood (shape_of next) × ((shape_of next).column ≡ (shape_of shown).column)
goes_on shown next pending p cut kept says =
    (subst IsGood (sym says) kept.good, ap (λ (z : Shape). z.column) says ∙ kept.same ∙ sym kept.shown_of)

-- a copy with nothing that waits
pub first_kept : (shown : Copied) (pending : List News) (p : ColumnPass) (cut : Counts) → pending ≡ []
    → IsGood (shape_of shown) → column_of_rest shown.rest ≡ column_of p → (shape_of shown).seen ≡ seen p
    → (shape_of shown).view.cut ≡ cut → IsKept shown pending p cut
first_kept shown pending p cut none good of same is =
    subst (λ (z : List News). IsKept shown z p cut) (sym none) (record {
      good = good;
      same = of;
      shown_of = of;
      seen_by = ([], append-nil (rest_seen shown.rest) ∙ same);
      cut_is = is;
    })

module _ {U E : Type 0} where
  -- the writer has published all that waited, or nothing
  pub kept_after : (r : Result U E) (shown y : Copied) (pending rest : List News) (p : ColumnPass) (cut : Counts)
      → IsKept shown pending p cut
      → MatchResult r (λ _. (shape_of y ≡ shape_with shown pending) × (rest ≡ [])) (λ _. (y ≡ shown) × (rest ≡ pending))
      → IsKept y rest p cut
  kept_after (Ok u) shown y pending rest p cut kept v = published shown y pending rest p cut kept v.0 v.1
  kept_after (Err e) shown y pending rest p cut kept v =
      subst (λ (z : Copied). IsKept z rest p cut) (sym v.0) (subst (λ (z : List News). IsKept shown z p cut) (sym v.1) kept)

  -- and knows the column
  pub knows_after : (r : Result U E) (shown y : Copied) (pending rest : List News) (p : ColumnPass) (cut : Counts)
      (v w : Option ColumnName) → IsKept shown pending p cut → v ≡ Some (column_of p)
      → MatchResult r (λ _. (shape_of y ≡ shape_with shown pending) × (rest ≡ [])) (λ _. (y ≡ shown) × (rest ≡ pending))
      → MatchResult r (λ _. Finds v shown y w) (λ _. w ≡ v)
      → w ≡ Some (column_of p)
  knows_after (Ok u) shown y pending rest p cut v w kept knows values rule =
      rule.2 ∙ ap (λ (c : ColumnName). Some c) (ap (λ (z : Shape). z.column) values.0 ∙ kept.same)
  knows_after (Err e) shown y pending rest p cut v w kept knows values rule = rule ∙ knows

-- news were taken in, or let go
pub logged : {U : Type 0} (r : Result U News) (shown y : Copied) (pending rest : List News) (p : ColumnPass) (cut : Counts)
    (n : News) → IsKept shown pending p cut → IsNews n p cut → y ≡ shown
    → MatchResult r (λ _. rest ≡ pending ++ n ∷ []) (λ x. (x ≡ n) × (rest ≡ pending))
    → MatchResult r (λ _. IsKept y rest p n.view.cut) (λ _. IsKept y rest p cut)
logged (Ok u) shown y pending rest p cut n kept news same v =
    subst (λ (z : Copied). IsKept z rest p n.view.cut) (sym same)
    (subst (λ (z : List News). IsKept shown z p n.view.cut) (sym v) (takes_in shown pending p cut n kept news))
logged (Err e) shown y pending rest p cut n kept news same v =
    subst (λ (z : Copied). IsKept z rest p cut) (sym same)
    (subst (λ (z : List News). IsKept shown z p cut) (sym v.1) kept)

module _ {A E : Type 0} where
  -- what holds of an answer, by the test whether it is an error
  pub at_err : (r : Result A E) (P Q : Type 0) → is_err r ≡ true → MatchResult r (λ _. P) (λ _. Q) → Q
  at_err (Ok a) P Q e h = absurd (let f : ⊥ = cc (e) in f)
  at_err (Err x) P Q e h = h

  pub at_ok : (r : Result A E) (P Q : Type 0) → is_err r ≡ false → MatchResult r (λ _. P) (λ _. Q) → P
  at_ok (Ok a) P Q e h = h
  at_ok (Err x) P Q e h = absurd (let f : ⊥ = cc (e) in f)

  -- and of the answer without its error
  pub ok_some : (r : Result A E) (P Q : A → Type 0) → ((a : A) → P a → Q a) → IfOk r P → IfSome (result_ok r) Q
  ok_some (Ok a) P Q f h = f a h
  ok_some (Err x) P Q f h = tt

  pub some_ok : (r : Result A E) (a : A) (P : A → Type 0) → Some a ≡ result_ok r → IfOk r P → P a
  some_ok (Ok x) a P e h = subst P (let f : x ≡ a = cc (e) in f) h
  some_ok (Err x) a P e h = absurd (let f : ⊥ = cc (e) in f)
