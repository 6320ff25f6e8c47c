-- Each step keeps the rule.
use Rattle.std.proofs.Common.{◌≡◌, ◌≢◌, ℕ, suc, zero, ◌+◌, ◌/◌, ◌^◌, ◌<◌, ◌≤◌, Bool, true, eqb, List, [], ◌∷◌}
use Rattle.std.proofs.Common.{◌++◌, length, replicate, get_or, set, sym, refl, ap, ◌∙◌, subst, arith, inl, inr}
use Rattle.std.proofs.Common.{◌⊎◌, ⊎_elim, length-set, get_or-set_same, get_or-set_other}
use Rattle.std.specs.Prelude.{if◌then◌else◌, ◌==◌}
use Rattle.std.proofs.lemmas.List.{set-get_or, length-replicate}
use Rattle.std.proofs.lemmas.Bool.{lt-leb}
use mathlib.Core.Logic.{dite}
use mathlib.Core.Option.{Option, none, some, some-injective, some-ne-none}
use native.Mathlib.Decide.{ℕ_discrete, dec_le}
use lib.ListN.{get_elem?}
use prog.Atomic.{either}
use Rattle.atomic_table.specs.Table.{State, Me, Step, step, keeps, Allows, Splits, Joins, Enters, opening}
use Rattle.atomic_table.proofs.Lists.{at_set, exchanged}
use Rattle.log_node.specs.declared.limits.TheConstants.{MAX_COLOURS}
use Rattle.log_node.specs.declared.node.Node.{Node}
use Rattle.log_node.specs.declared.ids.Id.{Id}
use Rattle.log_node.specs.declared.ids.Row.{Row}
use Rattle.log_node.specs.Sets.{has}
use Rattle.log_node.specs.declared.marks.Outcome.TheVariants.{Open}
use Rattle.stamp_board.specs.declared.view.Size.{Size}
use Rattle.stamp_board.specs.declared.view.View.{View}
use Rattle.stamp_board.specs.Words.{width, words_of, word_at, row_at, owner_of, outcome_from}
use Rattle.stamp_board.specs.Rows.{AreColours, outcome_at}
use Rattle.stamp_board.specs.Views.{Has, at, told}
use Rattle.stamp_board.specs.Law.{Plays, Fits, IsNewTo, Lawful, Sits, IsLawfulState, Told, heard, wrote, with_node, looked}
use Rattle.stamp_board.specs.Law.{marked, ended, began, Turns, lowest, others, both, merged, spent, newcomer}
use Rattle.stamp_board.specs.Law.{came}
use Rattle.stamp_board.proofs.Colours.{has_bit, not_empty}
use Rattle.stamp_board.proofs.Places.{owner_of_word, owner_of_mark, owner_of_row, same_row, same_part, row_of_word}
use Rattle.stamp_board.proofs.Places.{client_of_row}
use Rattle.stamp_board.proofs.Knowing.{if_yes, if_no, Has-append, at_here, at_else, at-append, heard_some, heard_cases}
use Rattle.stamp_board.proofs.Outcomes.{outcome_from-open, outcome_same, open_if_missing, open_if_unbegun}

abbrev St : Type 0
St = State Node View

abbrev with_views : St → List View → St
with_views s vs = record { words = s.words; homes = s.homes; views = vs }

abbrev Apart : List View → Type 0
Apart vs = (id id' : ℕ) (v v' : View) (a : ℕ) → get_elem? vs id ≡ some v → get_elem? vs id' ≡ some v' → Plays v a
    → Plays v' a → id ≡ id'

-- a seat that plays no part that it did not play
apart_set : (vs : List View) (id : ℕ) (v w : View) → get_elem? vs id ≡ some v → Apart vs
    → ((a : ℕ) → Plays w a → Plays v a) → Apart (set vs id w)
apart_set vs id v w here apart parts = λ i j u u' a e e' p p'.
    let f : (j : ℕ) (u : View) → get_elem? (set vs id w) j ≡ some u → Plays u a
    → (u' : View) × (get_elem? vs j ≡ some u') × Plays u' a
    = λ j u e p. ⊎_elim (λ (t : (j ≡ id) × (w ≡ u)). (
      v,
      subst (λ (z : ℕ). get_elem? vs z ≡ some v) (sym t.0) here,
      parts a (subst (λ (z : View). Plays z a) (sym t.1) p),
    ))
    (λ (t : (j ≢ id) × (get_elem? vs j ≡ some u)). (u, t.1, p)) (at_set vs id j w u e) in
    let x = f i u e p in let y = f j u' e' p' in apart i j x.0 y.0 a x.1 y.1 x.2 y.2

-- a seat takes in the parts of another
apart_merge : (vs : List View) (id other : ℕ) (v w : View) → get_elem? vs id ≡ some v → get_elem? vs other ≡ some w
    → Apart vs → ((a : ℕ) → Plays (merged v w) a → Plays v a ⊎ Plays w a)
    → Apart (set (set vs id (merged v w)) other spent)
apart_merge vs id other v w here there apart parts = λ i j u u' a e e' p p'.
    let Where : ℕ → View → Type 0 = λ j u. ((j ≡ id) × (Plays v a ⊎ Plays w a)) ⊎
    ((j ≢ id) × (j ≢ other) × (get_elem? vs j ≡ some u)) in
    let f : (j : ℕ) (u : View) → get_elem? (set (set vs id (merged v w)) other spent) j ≡ some u → Plays u a → Where j u
    = λ j u e p. ⊎_elim
    (λ (t : (j ≡ other) × (spent ≡ u)). absurd (let q : Plays spent a = subst (λ (z : View). Plays z a) (sym t.1) p in
    let x : a < 0 = q.2 in omega arith))
    (λ (t : (j ≢ other) × (get_elem? (set vs id (merged v w)) j ≡ some u)). ⊎_elim
    (λ (q : (j ≡ id) × (merged v w ≡ u)). inl (q.0, parts a (subst (λ (z : View). Plays z a) (sym q.1) p)))
    (λ (q : (j ≢ id) × (get_elem? vs j ≡ some u)). inr (q.0, t.0, q.1))
    (at_set vs id j (merged v w) u t.1))
    (at_set (set vs id (merged v w)) other j spent u e) in
    let g : (j : ℕ) (u : View) → Plays v a ⊎ Plays w a → (j ≢ id) × (j ≢ other) × (get_elem? vs j ≡ some u)
    → Plays u a → ⊥
    = λ j u one t p. ⊎_elim (λ (q : Plays v a). t.0 (apart j id u v a t.2 here p q))
    (λ (q : Plays w a). t.1 (apart j other u w a t.2 there p q)) one in
    ⊎_elim
    (λ (t : (i ≡ id) × (Plays v a ⊎ Plays w a)). ⊎_elim
    (λ (t' : (j ≡ id) × (Plays v a ⊎ Plays w a)). t.0 ∙ sym t'.0)
    (λ (t' : (j ≢ id) × (j ≢ other) × (get_elem? vs j ≡ some u')). absurd (g j u' t.1 t' p'))
    (f j u' e' p'))
    (λ (t : (i ≢ id) × (i ≢ other) × (get_elem? vs i ≡ some u)). ⊎_elim
    (λ (t' : (j ≡ id) × (Plays v a ⊎ Plays w a)). absurd (g i u t'.1 t p))
    (λ (t' : (j ≢ id) × (j ≢ other) × (get_elem? vs j ≡ some u')). apart i j u u' a t.2 t'.2 p p')
    (f j u' e' p'))
    (f i u e p)

at_end : (vs : List View) (a b : View) (j : ℕ) → get_elem? (vs ++ a ∷ []) j ≡ some b
    → (get_elem? vs j ≡ some b) ⊎ ((j ≡ length vs) × (a ≡ b))
at_end [] a b zero e = inr (refl, some-injective a b e)
at_end [] a b (suc j) e = absurd (some-ne-none b (sym e))
at_end (x ∷ xs) a b zero e = inl e
at_end (x ∷ xs) a b (suc j) e = ⊎_elim (λ t. inl t) (λ t. inr (ap suc t.0, t.1)) (at_end xs a b j e)

-- a seat's parts are shared with a new seat
apart_fork : (vs : List View) (id : ℕ) (v left right : View) → get_elem? vs id ≡ some v → Apart vs
    → ((a : ℕ) → Plays left a → Plays v a) → ((a : ℕ) → Plays right a → Plays v a)
    → ((a : ℕ) → Plays left a → Plays right a → ⊥)
    → Apart (set vs id left ++ right ∷ [])
apart_fork vs id v left right here apart to_left to_right never =
    let old : Apart (set vs id left) = apart_set vs id v left here apart to_left in
    let mixed : (j : ℕ) (u : View) (a : ℕ) → get_elem? (set vs id left) j ≡ some u → Plays u a → Plays right a → ⊥
    = λ j u a e p q. ⊎_elim (λ (t : (j ≡ id) × (left ≡ u)). never a (subst (λ (z : View). Plays z a) (sym t.1) p) q)
    (λ (t : (j ≢ id) × (get_elem? vs j ≡ some u)). t.0 (apart j id u v a t.1 here p (to_right a q)))
    (at_set vs id j left u e) in
    λ i j u u' a e e' p p'. ⊎_elim
    (λ (t : get_elem? (set vs id left) i ≡ some u). ⊎_elim
    (λ (t' : get_elem? (set vs id left) j ≡ some u'). old i j u u' a t t' p p')
    (λ (t' : (j ≡ length (set vs id left)) × (right ≡ u')). absurd
    (mixed i u a t p (subst (λ (z : View). Plays z a) (sym t'.1) p')))
    (at_end (set vs id left) right u' j e'))
    (λ (t : (i ≡ length (set vs id left)) × (right ≡ u)). ⊎_elim
    (λ (t' : get_elem? (set vs id left) j ≡ some u'). absurd
    (mixed j u' a t' p' (subst (λ (z : View). Plays z a) (sym t.1) p)))
    (λ (t' : (j ≡ length (set vs id left)) × (right ≡ u')). t.0 ∙ sym t'.0)
    (at_end (set vs id left) right u' j e'))
    (at_end (set vs id left) right u i e)

module _ (k : Size) where
  -- what the rule tells of one seat
  pub fits : (s : St) (holds : IsLawfulState k s) (id : ℕ) (v : View) → get_elem? s.views id ≡ some v → Fits k s.words v
  fits s holds id v at = let sits = holds.sits id v at in record {
    known = sits.known;
    begun = λ r x h. holds.named r x (sits.begun r x h);
    same = λ r x y h h'. some-injective x y (sym (sits.begun r x h) ∙ sits.begun r y h');
    owned = λ r x h. holds.owned r x (sits.begun r x h);
    ids = λ r q x y h h'. holds.ids r q x y (sits.begun r x h) (sits.begun q y h');
    mine = sits.mine;
    own = sits.own;
  }

  pub tells : (s : St) (holds : IsLawfulState k s) (id : ℕ) (v : View) (i : ℕ) → v.size ≡ k → get_elem? s.views id ≡ some v
      → Told v i (get_or s.words i 0)
  tells s holds id v i is at = (
    s.words,
    subst (λ (z : Size). Lawful z s.words) (sym is) holds.lawful,
    subst
        (λ (z : Size). Fits z s.words v) (sym is) (fits s holds id v at),
    refl,
  )

  -- a seat's view changes, and no word
  pub reseat : (s : St) (holds : IsLawfulState k s) (id : ℕ) (v w : View) → get_elem? s.views id ≡ some v
      → Sits k s.words holds.nodes w → ((a : ℕ) → Plays w a → Plays v a) → IsLawfulState k (with_views s (set s.views id w))
  reseat s holds id v w here sits parts = record {
    long = holds.long;
    lawful = holds.lawful;
    nodes = holds.nodes;
    named = holds.named;
    owned = holds.owned;
    ids = holds.ids;
    sits = λ j u e. ⊎_elim (λ (t : (j ≡ id) × (w ≡ u)). subst (λ (z : View). Sits k s.words holds.nodes z) t.1 sits)
        (λ (t : (j ≢ id) × (get_elem? s.views j ≡ some u)). holds.sits j u t.1) (at_set s.views id j w u e);
    apart = apart_set s.views id v w here holds.apart parts;
  }

  sits_heard : (ws : List ℕ) (nodes : ℕ → Option Node) (v : View) (i n : ℕ) → get_or ws i 0 ≡ n → Sits k ws nodes v
      → Sits k ws nodes (heard v i n)
  sits_heard ws nodes v i n is s = heard_cases (λ (z : View). Sits k ws nodes z) v i n (λ _. s) (λ ne. record {
    known = λ j m h. ⊎_elim (λ (t : (i ≡ j) × (n ≡ m)). let pos : 0 < m = subst (λ (z : ℕ). 0 < z) t.1 (omega arith) in
        (pos, subst (λ (z : ℕ). get_or ws z 0 ≡ m) t.0 (is ∙ t.1))) (λ (t : Has v.known j m). s.known j m t) h;
    begun = s.begun;
    mine = s.mine;
    own = s.own;
  })

  heard_parts : (v : View) (i n a : ℕ) → Plays (heard v i n) a → Plays v a
  heard_parts v i n a = heard_cases (λ (z : View). Plays z a → Plays v a) v i n (λ _ p. p) (λ _ p. p)

  load_holds : (s : St) (holds : IsLawfulState k s) (id : ℕ) (v : View) (i : ℕ) → get_elem? s.views id ≡ some v
      → IsLawfulState k record {
        words = set s.words i (get_or s.words i 0);
        homes = s.homes;
        views = set s.views id
            (heard v i (get_or s.words i 0));
      }
  load_holds s holds id v i here =
      let n : ℕ = get_or s.words i 0 in
      subst (λ (ws : List ℕ). IsLawfulState k record { words = ws; homes = s.homes; views = set s.views id (heard v i n) })
      (sym (set-get_or s.words i 0))
      (reseat s holds id v (heard v i n) here (sits_heard s.words holds.nodes v i n refl (holds.sits id v here))
      (heard_parts v i n))

  pub loads : (slots id : ℕ) (me : Me Node View) (i : ℕ) → me.0.size ≡ k
      → Allows (IsLawfulState k) slots id me i (λ n. n) (Turns looked (step slots i 0 0 none) me)
  loads slots id me i is s holds home here small = (
    heard me.0 i (get_or s.words i 0),
    keeps,
    tt,
    load_holds s holds id
        me.0 i here,
    (refl, tells s holds id me.0 i is here),
  )

  -- another seat's view, where a word changes that was 0 and is not that seat's
  sits_else : (ws : List ℕ) (nodes nodes' : ℕ → Option Node) (v : View) (i n : ℕ) → get_or ws i 0 ≡ 0
      → ((r : ℕ) (x : Node) → nodes r ≡ some x → nodes' r ≡ some x) → ¬ (Plays v (owner_of k i)) → Sits k ws nodes v
      → Sits k (set ws i n) nodes' v
  sits_else ws nodes nodes' v i n free more not s = record {
    known = λ j m h. let t = s.known j m h in let pos : 0 < m = t.0 in let is : get_or ws j 0 ≡ m = t.1 in
        let ne : j ≢ i = λ e. let z : get_or ws j 0 ≡ 0 = subst (λ (z : ℕ). get_or ws z 0 ≡ 0) (sym e) free in
        omega arith in
        (pos, get_or-set_other ws i j n 0 ne ∙ is);
    begun = λ r x h. more r x (s.begun r x h);
    mine = λ j p. let ne : j ≢ i = λ e. not (subst (λ (z : ℕ). Plays v (owner_of k z)) e p) in s.mine j p
        ∙ sym (get_or-set_other ws i j n 0 ne);
    own = s.own;
  }

  -- a word that was 0 is set, by the seat whose word it is, or by any seat where it is nobody's
  pub holds_set : (s : St) (holds : IsLawfulState k s) (id : ℕ) (v w : View) (i n : ℕ) (nodes' : ℕ → Option Node)
      → get_elem? s.views id ≡ some v → get_or s.words i 0 ≡ 0
      → Lawful k (set s.words i n)
      → ((r : ℕ) (x : Node) → holds.nodes r ≡ some x → nodes' r ≡ some x)
      → ((r : ℕ) (x : Node) → nodes' r ≡ some x
      → (0 < x.colours.0) × (get_or (set s.words i n) (word_at k r 0) 0 ≡ x.colours.0))
      → ((r : ℕ) (x : Node) → nodes' r ≡ some x → x.id.client ≡ r / k.rows)
      → ((r q : ℕ) (x y : Node) → nodes' r ≡ some x → nodes' q ≡ some y → x.id ≡ y.id → r ≡ q)
      → Sits k (set s.words i n) nodes' w
      → (owner_of k i ≡ 0) ⊎ Plays v (owner_of k i)
      → ((a : ℕ) → Plays w a → Plays v a)
      → IsLawfulState k record { words = set s.words i n; homes = s.homes; views = set s.views id w }
  holds_set s holds id v w i n nodes' here free law more named owned ids sits whose parts = record {
    long = length-set s.words i n ∙ holds.long;
    lawful = law;
    nodes = nodes';
    named = named;
    owned = owned;
    ids = ids;
    sits = λ j u e. ⊎_elim (λ (t : (j ≡ id) × (w ≡ u)). subst (λ (z : View). Sits k (set s.words i n) nodes' z) t.1
        sits)
        (λ (t : (j ≢ id) × (get_elem? s.views j ≡ some u)). let not : ¬ (Plays u (owner_of k i)) = λ p. ⊎_elim
        (λ (z : owner_of k i ≡ 0). let pos : 0 < owner_of k i = p.0 in
        omega arith) (λ (q : Plays v (owner_of k i)). t.0 (holds.apart j id u v (owner_of k i) t.1 here p q))
        whose in
        sits_else s.words holds.nodes nodes' u i n free more not (holds.sits j u t.1)) (at_set s.views id j w u e);
    apart = apart_set s.views id v w here holds.apart parts;
  }

  -- the words stay lawful where a word of the row r that was 0 is set
  module _ (ws : List ℕ) (r p n : ℕ) (inside : word_at k r p < length ws) (part : p < width k) (law : Lawful k ws) where
    abbrev after : List ℕ
    after = set ws (word_at k r p) n

    after_same : get_or after (word_at k r p) 0 ≡ n
    after_same = get_or-set_same ws (word_at k r p) n 0 inside

    after_else : (j : ℕ) → j ≢ word_at k r p → get_or after j 0 ≡ get_or ws j 0
    after_else j ne = get_or-set_other ws (word_at k r p) j n 0 ne

    law_finals : (p ≡ k.colours + 1 → outcome_from n ≡ outcome_at k ws r)
        → (p ≢ k.colours + 1 → outcome_at k ws r ≡ Open) → (q : ℕ) → get_or after (word_at k q (k.colours + 1)) 0 ≢ 0
        → outcome_from (get_or after (word_at k q (k.colours + 1)) 0) ≡ outcome_at k after q
    law_finals ends undone q set_now =
        let j : ℕ = word_at k q (k.colours + 1) in
        dite (ℕ_discrete q r)
        (λ same. dite (ℕ_discrete p (k.colours + 1))
        (λ last.
        let here : j ≡ word_at k r p = λ i. word_at k (same i) (sym last i) in
        let val : get_or after j 0 ≡ n = subst (λ (z : ℕ). get_or after z 0 ≡ n) (sym here) after_same in
        let agree : (o : ℕ) → o ≤ k.colours → get_or ws (word_at k r o) 0 ≡ get_or after (word_at k r o) 0
        = λ o le. let ne : word_at k r o ≢ word_at k r p = λ e. let d : o ≡ p = same_part k r o r p (omega arith)
        part e in omega arith in sym (after_else (word_at k r o) ne) in
        ap outcome_from val ∙ ends last ∙ outcome_same k ws after r (λ ne. (law.colours r ne).within) agree
        ∙ ap (λ (z : ℕ). outcome_at k after z) (sym same))
        (λ not_last.
        let ne : j ≢ word_at k r p = λ e. not_last (sym (same_part k q (k.colours + 1) r p (omega arith) part e)) in
        let val : get_or after j 0 ≡ get_or ws j 0 = after_else j ne in
        let was : get_or ws j 0 ≢ 0 = λ z. set_now (val ∙ z) in
        absurd (was (outcome_from-open (get_or ws j 0) (law.finals q was ∙ ap (λ (z : ℕ). outcome_at k ws z) same
        ∙ undone not_last)))))
        (λ other.
        let away : (o : ℕ) → o < width k → get_or after (word_at k q o) 0 ≡ get_or ws (word_at k q o) 0
        = λ o lt. after_else (word_at k q o) (λ e. other (same_row k q o r p lt part e)) in
        let val : get_or after j 0 ≡ get_or ws j 0 = away (k.colours + 1) (omega arith) in
        let was : get_or ws j 0 ≢ 0 = λ z. set_now (val ∙ z) in
        ap outcome_from val ∙ law.finals q was
        ∙ outcome_same k ws after q (λ ne. (law.colours q ne).within) (λ o le. sym (away o (omega arith))))

    pub law_set : (p ≢ 0 → n < 2 ^ 62 + 2) → (p ≡ 0 → AreColours k record { 0 = n })
        → (p ≡ k.colours + 1 → outcome_from n ≡ outcome_at k ws r) → (p ≢ k.colours + 1 → outcome_at k ws r ≡ Open)
        → Lawful k after
    law_set small spans ends undone = record {
      small = λ q o pos lt. let j : ℕ = word_at k q o in dite (ℕ_discrete j (word_at k r p))
          (λ e. let mine : p ≢ 0 = λ z. let d : o ≡ p = same_part k q o r p lt part e in omega (arith, pos, d, z) in
          let now : get_or after j 0 ≡ n = ap (λ (z : ℕ). get_or after z 0) e ∙ after_same in
          let bound = small mine in omega (arith, now, bound))
          (λ ne. let still = after_else j ne in let bound = law.small q o pos lt in omega (arith, still, bound));
      colours = λ q set_now. let j : ℕ = word_at k q 0 in dite (ℕ_discrete j (word_at k r p))
          (λ e. let first : p ≡ 0 = sym (same_part k q 0 r p (omega arith) part e) in
          subst (λ (z : ℕ). AreColours k record { 0 = z }) (sym (ap (λ (z : ℕ). get_or after z 0) e
          ∙ after_same)) (spans first))
          (λ ne. let val = after_else j ne in
          subst (λ (z : ℕ). AreColours k record { 0 = z }) (sym val) (law.colours q (λ z. set_now (val ∙ z))));
      finals = law_finals ends undone;
    }

  known_set : (ws : List ℕ) (v : View) (i n : ℕ) → i < length ws → get_or ws i 0 ≡ 0 → 0 < n
      → ((j m : ℕ) → Has v.known j m → (0 < m) × (get_or ws j 0 ≡ m))
      → (j m : ℕ) → Has ((i, n) ∷ v.known) j m → (0 < m) × (get_or (set ws i n) j 0 ≡ m)
  known_set ws v i n inside free pos known = λ j m h. ⊎_elim
      (λ (t : (i ≡ j) × (n ≡ m)). (
        subst (λ (z : ℕ). 0 < z) t.1 pos,
        subst (λ (z : ℕ). get_or (set ws i n) z 0 ≡ m)
            t.0 (get_or-set_same ws i n 0 inside ∙ t.1),
      ))
      (λ (t : Has v.known j m). let u = known j m t in let is : get_or ws j 0 ≡ m = u.1 in let p : 0 < m = u.0 in
      let ne : j ≢ i = λ e. let z : get_or ws j 0 ≡ 0 = subst (λ (z : ℕ). get_or ws z 0 ≡ 0) (sym e) free in
      omega arith in (p, get_or-set_other ws i j n 0 ne ∙ is)) h

  -- the view of a seat that has set a word
  sits_wrote : (ws : List ℕ) (nodes nodes' : ℕ → Option Node) (v : View) (i n : ℕ) → i < length ws
      → get_or ws i 0 ≡ 0 → 0 < n → ((r : ℕ) (x : Node) → nodes r ≡ some x → nodes' r ≡ some x)
      → Plays v (owner_of k i)
      → Sits k ws nodes v → Sits k (set ws i n) nodes' (wrote v i n)
  sits_wrote ws nodes nodes' v i n inside free pos more plays s = record {
    known = known_set ws v i n inside free pos s.known;
    begun = λ r x h. more r x (s.begun r x h);
    mine = λ j p. dite (ℕ_discrete i j)
        (λ e. let was : at v.mine j ≡ get_or ws j 0 = s.mine j p in
        let z : get_or ws j 0 ≡ 0 = subst (λ (z : ℕ). get_or ws z 0 ≡ 0) e free in
        let now : get_or (set ws i n) j 0 ≡ n = subst (λ (z : ℕ). get_or (set ws i n) z 0 ≡ n) e
        (get_or-set_same ws i n 0 inside) in
        let h : at ((i, n) ∷ v.mine) j ≡ n + at v.mine j = at_here v.mine i n j e in h ∙ (omega arith))
        (λ ne. at_else v.mine i n j ne ∙ s.mine j p ∙ sym (get_or-set_other ws i j n 0 (λ e. ne (sym e))));
    own = λ j set_one. dite (ℕ_discrete i j) (λ e. subst (λ (z : ℕ). Plays v (owner_of k z)) e plays)
        (λ ne. s.own j (λ z. set_one (at_else v.mine i n j ne ∙ z)));
  }

  sits_ended : (ws : List ℕ) (nodes : ℕ → Option Node) (v : View) (i n : ℕ) → i < length ws → get_or ws i 0 ≡ 0
      → 0 < n → owner_of k i ≡ 0
      → Sits k ws nodes v → Sits k (set ws i n) nodes record v { known = (i, n) ∷ v.known }
  sits_ended ws nodes v i n inside free pos nobody s = record {
    known = known_set ws v i n inside free pos s.known;
    begun = s.begun;
    own = s.own;
    mine = λ j p. let ne : j ≢ i = λ e. let q : 0 < owner_of k j = p.0 in
        let z : owner_of k j ≡ 0 = subst (λ (z : ℕ). owner_of k z ≡ 0) (sym e) nobody in omega arith in s.mine j p
        ∙ sym (get_or-set_other ws i j n 0 ne);
  }

  -- a compare-exchange from 0: where the word was set, the seat has heard it
  exchanges : (slots id : ℕ) (me : Me Node View) (i n : ℕ) (x : Option Node) (f : Step Node → View → ℕ → View)
      → me.0.size ≡ k
      → ((m : ℕ) → m ≢ 0 → f (step slots i 0 n x) me.0 m ≡ heard me.0 i m)
      → ((s : St) → IsLawfulState k s → get_elem? s.views id ≡ some me.0 → get_or s.words i 0 ≡ 0
      → IsLawfulState k record {
        words = set s.words i n;
        homes = s.homes;
        views = set s.views id
            (f (step slots i 0 n x) me.0 0);
      })
      → Allows (IsLawfulState k) slots id me i (λ m. either (eqb m 0) n m) (Turns f (step slots i 0 n x) me)
  exchanges slots id me i n x f is miss hit s holds home here small =
      let m : ℕ = get_or s.words i 0 in let w : View = f (step slots i 0 n x) me.0 m in (
        w,
        keeps,
        tt,
        exchanged m 0 n (λ z. IsLawfulState k record { words = set s.words i z; homes = s.homes; views = set s.views id w })
            (λ free. subst (λ (z : ℕ). IsLawfulState k record {
              words = set s.words i n;
              homes = s.homes;
              views = set s.views
                  id (f (step slots i 0 n x) me.0 z);
            }) (sym free) (hit s holds here free))
            (λ ne. subst (λ (z : View). IsLawfulState k record
            { words = set s.words i m; homes = s.homes; views = set s.views id z }) (sym (miss m ne))
            (load_holds s holds id me.0 i here)),
        (refl, tells s holds id me.0 i is here),
      )

  no_owner : (r : ℕ) → owner_of k (word_at k r (k.colours + 1)) ≡ 0
  no_owner r = owner_of_word k r (k.colours + 1) (omega arith)
      ∙ if_no (k.colours + 1) 0 _ _ (λ z. omega arith)
      ∙ ap (λ (b : Bool). if b then k.clients + (k.colours + 1) else 0) (lt-leb (k.colours + 1) k.colours (omega arith))

  named_else : (s : St) (holds : IsLawfulState k s) (r p n : ℕ) → p < width k → p ≢ 0 → (q : ℕ) (x : Node)
      → holds.nodes q ≡ some x
      → (0 < x.colours.0) × (get_or (set s.words (word_at k r p) n) (word_at k q 0) 0 ≡ x.colours.0)
  named_else s holds r p n part not_first q x e = let t = holds.named q x e in (
    t.0,
    get_or-set_other s.words (word_at k r p) (word_at k q 0) n 0
        (λ d. not_first (sym (same_part k q 0 r p (omega arith) part d))) ∙ t.1,
  )

  -- the mark of a colour that the row has is set to n, by the seat of the colour
  pub marks : (slots id : ℕ) (me : Me Node View) (r c n : ℕ) (x : Node) → me.0.size ≡ k
      → word_at k r (1 + c) < words_of k → c < k.colours → Plays me.0 (owner_of k (word_at k r (1 + c)))
      → Has me.0.begun r x → has x.colours c ≡ true → 0 < n → n < 2 ^ 62 + 2 → k.colours ≤ MAX_COLOURS
      → Allows (IsLawfulState k) slots id me (word_at k r (1 + c)) (λ m. either (eqb m 0) n m)
      (Turns marked (step slots (word_at k r (1 + c)) 0 n none) me)
  marks slots id me r c n x is inside colour plays knows bit pos small few =
      exchanges slots id me (word_at k r (1 + c)) n none marked is (λ m ne. if_no m 0 _ _ ne) (λ s holds here free.
      let i : ℕ = word_at k r (1 + c) in
      let part : 1 + c < width k = omega arith in
      let long : length s.words ≡ words_of k = holds.long in
      let within : i < length s.words = omega arith in
      let begun = holds.named r x ((holds.sits id me.0 here).begun r x knows) in
      let bit_now : has_bit (get_or s.words (word_at k r 0) 0) c ≡ true = subst (λ (z : ℕ). has_bit z c ≡ true)
      (sym begun.1) bit in
      let nonzero : get_or s.words (word_at k r 0) 0 ≢ 0 = λ z. let p = begun.0 in let e = begun.1 in omega arith in
      let undone = open_if_missing k s.words r c few (holds.lawful.colours r nonzero).within bit_now free in
      holds_set s holds id me.0 (wrote me.0 i n) i n holds.nodes here free
      (law_set s.words r (1 + c) n within part holds.lawful (λ _. small) (λ z. absurd (omega arith))
      (λ z. absurd (omega arith)) (λ _. undone))
      (λ _ _ e. e)
      (named_else s holds r (1 + c) n part (λ z. omega arith))
      holds.owned
      holds.ids
      (sits_wrote s.words holds.nodes holds.nodes me.0 i n within free pos (λ _ _ e. e) plays (holds.sits id me.0 here))
      (inr plays)
      (λ _ p. p))

  -- the final word is set to the outcome of marks that the seat knows
  pub ends : (slots id : ℕ) (me : Me Node View) (r n : ℕ) → me.0.size ≡ k → word_at k r (k.colours + 1) < words_of k
      → 0 < n → n < 2 ^ 62 + 2
      → ((ws : List ℕ) → Lawful k ws → Fits k ws me.0 → outcome_from n ≡ outcome_at k ws r)
      → Allows (IsLawfulState k) slots id me (word_at k r (k.colours + 1)) (λ m. either (eqb m 0) n m)
      (Turns ended (step slots (word_at k r (k.colours + 1)) 0 n none) me)
  ends slots id me r n is inside pos small known =
      exchanges slots id me (word_at k r (k.colours + 1)) n none ended is
      (λ m ne. ap (heard me.0 (word_at k r (k.colours + 1))) (if_no m 0 n m ne)) (λ s holds here free.
      let p : ℕ = k.colours + 1 in
      let i : ℕ = word_at k r p in
      let part : p < width k = omega arith in
      let long : length s.words ≡ words_of k = holds.long in
      let within : i < length s.words = omega arith in
      let nobody : owner_of k i ≡ 0 = no_owner r in
      subst (λ (z : View). IsLawfulState k record { words = set s.words i n; homes = s.homes; views = set s.views id z })
      (sym (heard_some me.0 i n (λ z. omega arith)))
      (holds_set s holds id me.0 record me.0 { known = (i, n) ∷ me.0.known } i n holds.nodes here free
      (law_set s.words r p n within part holds.lawful (λ _. small) (λ z. absurd (omega arith))
      (λ _. known s.words holds.lawful (fits s holds id me.0 here)) (λ ne. absurd (ne refl)))
      (λ _ _ e. e)
      (named_else s holds r p n part (λ z. omega arith))
      holds.owned
      holds.ids
      (sits_ended s.words holds.nodes me.0 i n within free pos nobody (holds.sits id me.0 here))
      (inl nobody)
      (λ _ p. p)))

  -- no row is begun for a node with the id, where each row that the seat has begun is known as begun for another
  no_other : (s : St) (holds : IsLawfulState k s) (id : ℕ) (v : View) (r : ℕ) (x : Node) → get_elem? s.views id ≡ some v
      → v.size ≡ k → Plays v (owner_of k (word_at k r 0)) → x.id.client ≡ r / k.rows → IsNewTo v x.id.client x.id
      → (q : ℕ) (y : Node) → holds.nodes q ≡ some y → x.id ≡ y.id → ⊥
  no_other s holds id v r x here is plays client new q y e same =
      let part : 0 < width k = omega arith in
      let of_client : q / k.rows ≡ x.id.client = sym (holds.owned q y e) ∙ ap (λ (z : Id). z.client) (sym same) in
      let owner : owner_of k (word_at k r 0) ≡ owner_of k (word_at k q 0) =
      owner_of_word k r 0 part ∙ ap (λ (z : ℕ). 1 + z) (sym client ∙ sym of_client) ∙ sym (owner_of_word k q 0 part) in
      let sits = holds.sits id v here in
      let mine : at v.mine (word_at k q 0) ≡ get_or s.words (word_at k q 0) 0 =
      sits.mine (word_at k q 0) (subst (Plays v) owner plays) in
      let named = holds.named q y e in
      let full = named.0 in
      let word = named.1 in
      let known = new q (ap (λ (z : Size). q / z.rows) is ∙ of_client)
      (subst (λ (z : Size). at v.mine (word_at z q 0) ≢ 0) (sym is) (λ z. omega (arith, mine, full, word, z))) in
      known.2 (ap (λ (z : Node). z.id) (some-injective known.0 y (sym (sits.begun q known.0 known.1) ∙ e)) ∙ sym same)

  ids_more : (s : St) (holds : IsLawfulState k s) (id : ℕ) (v : View) (r : ℕ) (x : Node) → get_elem? s.views id ≡ some v
      → v.size ≡ k → Plays v (owner_of k (word_at k r 0)) → x.id.client ≡ r / k.rows → IsNewTo v x.id.client x.id
      → (p q : ℕ) (y z : Node) → (if p == r then some x else holds.nodes p) ≡ some y
      → (if q == r then some x else holds.nodes q) ≡ some z → y.id ≡ z.id → p ≡ q
  ids_more s holds id v r x here is plays client new p q y z ey ez same =
      let other = no_other s holds id v r x here is plays client new in
      let now : (n : ℕ) (w : Node) → n ≡ r → (if n == r then some x else holds.nodes n) ≡ some w → x.id ≡ w.id =
      λ n w d e. ap (λ (u : Node). u.id) (some-injective x w (sym (if_yes n r (some x) (holds.nodes n) d) ∙ e)) in
      let old : (n : ℕ) (w : Node) → n ≢ r → (if n == r then some x else holds.nodes n) ≡ some w → holds.nodes n ≡ some w =
      λ n w ne e. sym (if_no n r (some x) (holds.nodes n) ne) ∙ e in
      dite (ℕ_discrete p r)
      (λ d. dite (ℕ_discrete q r) (λ d'. d ∙ sym d')
      (λ ne. absurd (other q z (old q z ne ez) (now p y d ey ∙ same))))
      (λ ne. dite (ℕ_discrete q r)
      (λ d'. absurd (other p y (old p y ne ey) (now q z d' ez ∙ sym same)))
      (λ ne'. holds.ids p q y z (old p y ne ey) (old q z ne' ez) same))

  -- word 0 of a row is set, by the seat of the row's client, which has not set it before
  pub begins : (slots id : ℕ) (me : Me Node View) (r : ℕ) (x : Node) → me.0.size ≡ k → word_at k r 0 < words_of k
      → Plays me.0 (owner_of k (word_at k r 0))
      → AreColours k x.colours
      → x.id.client ≡ r / k.rows → IsNewTo me.0 x.id.client x.id
      → Allows (IsLawfulState k) slots id me (word_at k r 0) (λ m. either (eqb m 0) x.colours.0 m)
      (Turns began (step slots (word_at k r 0) 0 x.colours.0 (some x)) me)
  begins slots id me r x is inside plays spans client new =
      let n : ℕ = x.colours.0 in
      let many = spans.many in
      let filled : n ≢ 0 = not_empty x.colours (omega arith) in
      let pos : 0 < n = omega arith in
      exchanges slots id me (word_at k r 0) n (some x) began is (λ m ne. if_no m 0 _ _ ne) (λ s holds here free.
      let i : ℕ = word_at k r 0 in
      let part : 0 < width k = omega arith in
      let long : length s.words ≡ words_of k = holds.long in
      let within : i < length s.words = omega arith in
      let nodes' : ℕ → Option Node = λ q. if q == r then some x else holds.nodes q in
      let more : (q : ℕ) (y : Node) → holds.nodes q ≡ some y → nodes' q ≡ some y
      = λ q y e. let ne : q ≢ r = λ d. let t = holds.named q y e in
      let z : get_or s.words (word_at k q 0) 0 ≡ 0 = subst (λ (z : ℕ). get_or s.words (word_at k z 0) 0 ≡ 0)
      (sym d) free in let u : 0 < y.colours.0 = t.0 in
      let w : get_or s.words (word_at k q 0) 0 ≡ y.colours.0 = t.1 in omega arith in
      if_no q r (some x) (holds.nodes q) ne ∙ e in
      let seen = sits_wrote s.words holds.nodes nodes' me.0 i n within free pos more plays (holds.sits id me.0 here) in
      let row : i / width me.0.size ≡ r = ap (λ (z : Size). i / width z) is ∙ row_of_word k r 0 part in
      subst (λ (z : ℕ). IsLawfulState k record {
        words = set s.words i n;
        homes = s.homes;
        views = set s.views id record
            (wrote me.0 i n) { begun = (z, x) ∷ me.0.begun };
      }) (sym row)
      (holds_set s holds id me.0 record (wrote me.0 i n) { begun = (r, x) ∷ me.0.begun } i n nodes' here free
      (law_set s.words r 0 n within part holds.lawful (λ ne. absurd (ne refl)) (λ _. spans) (λ z. absurd (omega arith))
      (λ _. open_if_unbegun k s.words r free))
      more
      (λ q y e. dite (ℕ_discrete q r)
      (λ d. let same : x ≡ y = some-injective x y (sym (if_yes q r (some x) (holds.nodes q) d) ∙ e) in
      subst (λ (z : Node). (0 < z.colours.0) × (get_or (set s.words i n) (word_at k q 0) 0 ≡ z.colours.0)) same
      (pos, ap (λ (z : ℕ). get_or (set s.words i n) (word_at k z 0) 0) d ∙ get_or-set_same s.words i n 0 within))
      (λ ne. let t = holds.named q y (sym (if_no q r (some x) (holds.nodes q) ne) ∙ e) in
      (t.0, get_or-set_other s.words i (word_at k q 0) n 0 (λ d. ne (same_row k q 0 r 0 part part d)) ∙ t.1)))
      (λ q y e. dite (ℕ_discrete q r)
      (λ d. let same : x ≡ y = some-injective x y (sym (if_yes q r (some x) (holds.nodes q) d) ∙ e) in
      ap (λ (z : Node). z.id.client) (sym same) ∙ client ∙ ap (λ (z : ℕ). z / k.rows) (sym d))
      (λ ne. holds.owned q y (sym (if_no q r (some x) (holds.nodes q) ne) ∙ e)))
      (ids_more s holds id me.0 r x here is plays client new)
      record {
        known = seen.known;
        begun = λ q y h. ⊎_elim (λ (t : (r ≡ q) × (x ≡ y)). if_yes q r (some x) (holds.nodes q) (sym t.0)
            ∙ ap some t.1) (λ (t : Has me.0.begun q y). seen.begun q y t) h;
        mine = seen.mine;
        own = seen.own;
      }
      (inr plays)
      (λ _ p. p)))

  fork : (s : St) (holds : IsLawfulState k s) (id : ℕ) (v left right : View) → get_elem? s.views id ≡ some v
      → Sits k s.words holds.nodes left → Sits k s.words holds.nodes right
      → ((a : ℕ) → Plays left a → Plays v a) → ((a : ℕ) → Plays right a → Plays v a)
      → ((a : ℕ) → Plays left a → Plays right a → ⊥)
      → IsLawfulState k (with_views s (set s.views id left ++ right ∷ []))
  fork s holds id v left right here sits_left sits_right to_left to_right never = record {
    long = holds.long;
    lawful = holds.lawful;
    nodes = holds.nodes;
    named = holds.named;
    owned = holds.owned;
    ids = holds.ids;
    sits = λ j u e. ⊎_elim
        (λ (t : get_elem? (set s.views id left) j ≡ some u). ⊎_elim
        (λ (q : (j ≡ id) × (left ≡ u)). subst (λ (z : View). Sits k s.words holds.nodes z) q.1 sits_left)
        (λ (q : (j ≢ id) × (get_elem? s.views j ≡ some u)). holds.sits j u q.1) (at_set s.views id j left u t))
        (λ (t : (j ≡ length (set s.views id left)) × (right ≡ u)). subst (λ (z : View). Sits k s.words holds.nodes z)
        t.1 sits_right)
        (at_end (set s.views id left) right u j e);
    apart = apart_fork s.views id v left right here holds.apart to_left to_right never;
  }

  no_part : (v : View) (a : ℕ) → v.high ≡ 0 → Plays v a → ⊥
  no_part v a e p = let q : a < v.high = p.2 in omega arith

  pub splits : (id : ℕ) (v : View) → Splits (IsLawfulState k) id v v (told v)
  splits id v s holds here = let sits = holds.sits id v here in fork s holds id v v (told v) here sits
      record {
        known = sits.known;
        begun = sits.begun;
        mine = λ i p. absurd (no_part (told v) (owner_of k i) refl p);
        own = λ i ne. absurd (ne refl);
      }
      (λ a p. p) (λ a p. absurd (no_part (told v) a refl p)) (λ a p q. no_part (told v) a refl q)

  pub deals : (id : ℕ) (v : View) → v.low < v.high → v.mine ≡ [] → Splits (IsLawfulState k) id v (others v) (lowest v)
  deals id v more fresh s holds here = let sits = holds.sits id v here in
      let empty : (i : ℕ) → at v.mine i ≡ 0 = λ i. ap (λ (z : List (ℕ × ℕ)). at z i) fresh in
      let up : (a : ℕ) → Plays (others v) a → Plays v a = λ a p. let x : v.low + 1 ≤ a = p.1 in
      (p.0, omega arith, p.2) in
      let down : (a : ℕ) → Plays (lowest v) a → Plays v a = λ a p. let x : a < v.low + 1 = p.2 in
      (p.0, p.1, omega arith) in
      fork s holds id v (others v) (lowest v) here
      record {
        known = sits.known;
        begun = sits.begun;
        mine = λ i p. sits.mine i (up (owner_of k i) p);
        own = λ i
            ne. absurd (ne (empty i));
      }
      record {
        known = sits.known;
        begun = sits.begun;
        mine = λ i p. sits.mine i (down (owner_of k i) p);
        own = λ i
            ne. absurd (ne (empty i));
      }
      up down (λ a p q. let x : v.low + 1 ≤ a = p.1 in let y : a < v.low + 1 = q.2 in omega arith)

  sits_spent : (ws : List ℕ) (nodes : ℕ → Option Node) → Sits k ws nodes spent
  sits_spent ws nodes = record {
    known = λ i n h. absurd h;
    begun = λ r x h. absurd h;
    mine = λ i p. absurd
        (no_part spent (owner_of k i) refl p);
    own = λ i ne. absurd (ne refl);
  }

  elsewhere : (vs : List View) (id other : ℕ) (u w : View) → ¬ (other ≡ id) → get_elem? (set vs id u) other ≡ some w
      → get_elem? vs other ≡ some w
  elsewhere vs id other u w apart there = ⊎_elim (λ (t : (other ≡ id) × (u ≡ w)). absurd (apart t.0))
      (λ (t : (other ≢ id) × (get_elem? vs other ≡ some w)). t.1) (at_set vs id other u w there)

  pub joins : (id : ℕ) (v : View) (other : ℕ) (w : View) → Joins (IsLawfulState k) id v other w (both v w) spent
  joins id v other w s holds here apart there =
      let sits = holds.sits id v here in
      let sits' = holds.sits other w (elsewhere s.views id other (both v w) w apart there) in
      let one = reseat s holds id v (both v w) here record {
        known = λ i n h. ⊎_elim (λ t. sits.known i n t) (λ t. sits'.known i n t) (Has-append v.known w.known i n h);
        begun = λ r x h. ⊎_elim (λ t. sits.begun r x t) (λ t. sits'.begun r x t) (Has-append v.begun w.begun r x h);
        mine = sits.mine;
        own = sits.own;
      } (λ a p. p) in
      reseat (with_views s (set s.views id (both v w))) one other w spent there (sits_spent s.words one.nodes)
      (λ a p. absurd (no_part spent a refl p))

  pub gathers : (id : ℕ) (v : View) (other : ℕ) (w : View) → v.high ≡ w.low → v.low ≤ v.high → w.low ≤ w.high
      → Joins (IsLawfulState k) id v other w (merged v w) spent
  gathers id v other w next up up' s holds here apart there =
      let there' = elsewhere s.views id other (merged v w) w apart there in
      let sits = holds.sits id v here in
      let sits' = holds.sits other w there' in
      let parts : (a : ℕ) → Plays (merged v w) a → Plays v a ⊎ Plays w a
      = λ a p. let q : a < w.high = p.2 in let l : v.low ≤ a = p.1 in
      dite (dec_le (w.low) a) (λ le. inr (p.0, le, q)) (λ gt. inl (p.0, l, omega arith)) in
      let only : (i : ℕ) → Plays v (owner_of k i) → at w.mine i ≡ 0
      = λ i p. dite (ℕ_discrete (at w.mine i) 0) (λ z. z)
      (λ ne. absurd (apart (holds.apart other id w v (owner_of k i) there' here (sits'.own i ne) p))) in
      let only' : (i : ℕ) → Plays w (owner_of k i) → at v.mine i ≡ 0
      = λ i p. dite (ℕ_discrete (at v.mine i) 0) (λ z. z)
      (λ ne. absurd (apart (holds.apart other id w v (owner_of k i) there' here p (sits.own i ne)))) in
      let now : Sits k s.words holds.nodes (merged v w) = record {
        known = λ i n h. ⊎_elim (λ t. sits.known i n t) (λ t. sits'.known i n t) (Has-append v.known w.known i n h);
        begun = λ r x h. ⊎_elim (λ t. sits.begun r x t) (λ t. sits'.begun r x t) (Has-append v.begun w.begun r x h);
        mine = λ i p. let sum : at (v.mine ++ w.mine) i ≡ at v.mine i + at w.mine i = at-append v.mine w.mine i in
            ⊎_elim
            (λ (t : Plays v (owner_of k i)). let a : at v.mine i ≡ get_or s.words i 0 = sits.mine i t in
            let z : at w.mine i ≡ 0 = only i t in sum ∙ (omega arith))
            (λ (t : Plays w (owner_of k i)). let a : at w.mine i ≡ get_or s.words i 0 = sits'.mine i t in
            let z : at v.mine i ≡ 0 = only' i t in sum ∙ (omega arith))
            (parts (owner_of k i) p);
        own = λ i ne. let sum : at (v.mine ++ w.mine) i ≡ at v.mine i + at w.mine i = at-append v.mine w.mine i in
            dite (ℕ_discrete (at v.mine i) 0)
            (λ z. let other_one : at w.mine i ≢ 0 = λ y. ne (sum ∙ (omega arith)) in let p = sits'.own i other_one in
            let l : w.low ≤ owner_of k i = p.1 in (p.0, omega arith, p.2))
            (λ one. let p = sits.own i one in let h : owner_of k i < v.high = p.2 in (p.0, p.1, omega arith));
      } in
      record {
        long = holds.long;
        lawful = holds.lawful;
        nodes = holds.nodes;
        named = holds.named;
        owned = holds.owned;
        ids = holds.ids;
        sits = λ j u e. ⊎_elim
            (λ (t : (j ≡ other) × (spent ≡ u)). subst (λ (z : View). Sits k s.words holds.nodes z) t.1
            (sits_spent s.words holds.nodes))
            (λ (t : (j ≢ other) × (get_elem? (set s.views id (merged v w)) j ≡ some u)). ⊎_elim
            (λ (q : (j ≡ id) × (merged v w ≡ u)). subst (λ (z : View). Sits k s.words holds.nodes z) q.1 now)
            (λ (q : (j ≢ id) × (get_elem? s.views j ≡ some u)). holds.sits j u q.1)
            (at_set s.views id j (merged v w) u t.1))
            (at_set (set s.views id (merged v w)) other j spent u e);
        apart = apart_merge s.views id other v w here there' holds.apart parts;
      }

  -- the same, as the calls have them
  module _ (key : Size) (same : key ≡ k) (slots id : ℕ) (me : Me Node View) (is : me.0.size ≡ k) where
    pub sets_mark : (i r c n : ℕ) (x : Node) → i ≡ word_at k r (1 + c) → i < words_of k → c < k.colours
        → me.0.low ≡ 1 + k.clients + c → me.0.high ≡ me.0.low + 1
        → Has me.0.begun r x → has x.colours c ≡ true → 0 < n → n < 2 ^ 62 + 2 → k.colours ≤ MAX_COLOURS
        → Allows (IsLawfulState key) slots id me i (λ m. either (eqb m 0) n m) (Turns marked (step slots i 0 n none) me)
    sets_mark i r c n x e inside colour low high knows bit pos small few =
        let plays : Plays me.0 (owner_of k (word_at k r (1 + c))) = subst (Plays me.0)
        (sym (owner_of_mark k r c colour)) (omega arith, omega arith, omega arith) in
        subst (λ (z : Size). Allows (IsLawfulState z) slots id me i (λ m. either (eqb m 0) n m)
        (Turns marked (step slots i 0 n none) me)) (sym same)
        (subst (λ (z : ℕ). Allows (IsLawfulState k) slots id me z (λ m. either (eqb m 0) n m)
        (Turns marked (step slots z 0 n none) me)) (sym e)
        (marks slots id me r c n x is (subst (λ (z : ℕ). z < words_of k) e inside) colour plays knows bit pos small
        few))

    pub ends_at : (i r n : ℕ) → i ≡ word_at k r (k.colours + 1) → i < words_of k → 0 < n → n < 2 ^ 62 + 2
        → ((ws : List ℕ) → Lawful k ws → Fits k ws me.0 → outcome_from n ≡ outcome_at k ws r)
        → Allows (IsLawfulState key) slots id me i (λ m. either (eqb m 0) n m) (Turns ended (step slots i 0 n none) me)
    ends_at i r n e inside pos small known =
        subst (λ (z : Size). Allows (IsLawfulState z) slots id me i (λ m. either (eqb m 0) n m)
        (Turns ended (step slots i 0 n none) me)) (sym same)
        (subst (λ (z : ℕ). Allows (IsLawfulState k) slots id me z (λ m. either (eqb m 0) n m)
        (Turns ended (step slots z 0 n none) me)) (sym e)
        (ends slots id me r n is (subst (λ (z : ℕ). z < words_of k) e inside) pos small known))

    pub begins_at : (i n : ℕ) (r : Row) (x : Node) → i ≡ word_at k (row_at k r) 0 → i < words_of k
        → r.number < k.rows → me.0.low ≡ 1 + r.client → me.0.high ≡ me.0.low + 1
        → n ≡ x.colours.0 → AreColours k x.colours
        → x.id.client ≡ r.client → IsNewTo me.0 r.client x.id
        → Allows (IsLawfulState key) slots id me i (λ m. either (eqb m 0) n m) (Turns began (step slots i 0 n (some x)) me)
    begins_at i n r x e inside row low high bits spans client new =
        let plays : Plays me.0 (owner_of k (word_at k (row_at k r) 0)) = subst (Plays me.0)
        (sym (owner_of_row k r row)) (omega arith, omega arith, omega arith) in
        let P : ℕ → Type 0 = λ z. Allows (IsLawfulState k) slots id me i (λ m. either (eqb m 0) z m)
        (Turns began (step slots i 0 z (some x)) me) in
        let Q : ℕ → Type 0 = λ z. Allows (IsLawfulState k) slots id me z (λ m. either (eqb m 0) x.colours.0 m)
        (Turns began (step slots z 0 x.colours.0 (some x)) me) in
        subst (λ (z : Size). Allows (IsLawfulState z) slots id me i (λ m. either (eqb m 0) n m)
        (Turns began (step slots i 0 n (some x)) me)) (sym same)
        (subst P (sym bits) (subst Q (sym e)
        (begins slots id me (row_at k r) x is (subst (λ (z : ℕ). z < words_of k) e inside) plays
        spans (client ∙ sym (client_of_row k r row))
        (subst (λ (z : ℕ). IsNewTo me.0 z x.id) (sym client) new))))

  pub began_view : (slots : ℕ) (me me' : Me Node View) (i n m r : ℕ) (x : Node) → me.0.size ≡ k → i ≡ word_at k r 0
      → n ≡ x.colours.0 → me' ≡ (began (step slots i 0 n (some x)) me.0 m, me.1) → m ≡ 0
      → me'.0 ≡ with_node (wrote me.0 (word_at k r 0) x.colours.0) r (some x)
  began_view slots me me' i n m r x is e bits after none_found =
      ap (λ (z : Me Node View). z.0) after ∙ if_yes m 0 _ _ none_found
      ∙ ap (λ (z : ℕ). with_node (wrote me.0 i n) z (some x)) (ap (λ (z : Size). i / width z) is
      ∙ ap (λ (z : ℕ). z / width k) e ∙ row_of_word k r 0 (omega arith))
      ∙ ap (λ (z : ℕ). with_node (wrote me.0 z n) r (some x)) e
      ∙ ap (λ (z : ℕ). with_node (wrote me.0 (word_at k r 0) z) r (some x)) bits

  pub comes : (slots i : ℕ) (size : Size) (high : ℕ)
      → Enters (IsLawfulState k) slots i (λ n w. came (newcomer size high, []) (w, []))
  comes slots i size high s holds home small =
      let w : View = record (newcomer size high) { low = high } in
      let never : (a : ℕ) → Plays w a → ⊥ = λ a p. let x : high ≤ a = p.1 in let y : a < high = p.2 in omega arith in (
        w,
        record {
          long = holds.long;
          lawful = holds.lawful;
          nodes = holds.nodes;
          named = holds.named;
          owned = holds.owned;
          ids = holds.ids;
          sits = λ j u e. ⊎_elim (λ (t : get_elem? s.views j ≡ some u). holds.sits j u t)
              (λ (t : (j ≡ length s.views) × (w ≡ u)). subst (λ (z : View). Sits k s.words holds.nodes z) t.1
              record {
                known = λ i n h. absurd h;
                begun = λ r x h. absurd h;
                mine = λ i p. absurd
                    (never (owner_of k i) p);
                own = λ i ne. absurd (ne refl);
              }) (at_end s.views w u j e);
          apart = λ i j u u' a e e' p p'. ⊎_elim
              (λ (t : get_elem? s.views i ≡ some u). ⊎_elim
              (λ (t' : get_elem? s.views j ≡ some u'). holds.apart i j u u' a t t' p p')
              (λ (t' : (j ≡ length s.views) × (w ≡ u')). absurd
              (never a (subst (λ (z : View). Plays z a) (sym t'.1) p'))) (at_end s.views w u' j e'))
              (λ (t : (i ≡ length s.views) × (w ≡ u)). absurd
              (never a (subst (λ (z : View). Plays z a) (sym t.1) p))) (at_end s.views w u i e);
        },
        refl,
      )

zeros : (n i : ℕ) → let z : ℕ = 0 in get_or (replicate n z) i z ≡ z
zeros zero i = refl
zeros (suc n) zero = refl
zeros (suc n) (suc i) = zeros n i

pub opens : (k : Size) (n high : ℕ) → n ≡ words_of k → IsLawfulState k (opening (replicate n 0) [] (newcomer k high))
opens k n high is =
    let blank : (i : ℕ) → get_or (replicate n 0) i 0 ≡ 0 = zeros n in
    let alone : (id : ℕ) (v : View) → get_elem? (newcomer k high ∷ []) id ≡ some v → (id ≡ 0) × (newcomer k high ≡ v)
    = λ id v e. ⊎_elim (λ (t : get_elem? [] id ≡ some v). absurd (some-ne-none v (sym t)))
    (λ (t : (id ≡ 0) × (newcomer k high ≡ v)). t) (at_end [] (newcomer k high) v id e) in
    record {
      long = length-replicate n 0 ∙ is;
      lawful = record {
        small = λ r p _ _. let none = blank (word_at k r p) in omega (arith, none);
        colours = λ r ne. absurd (ne (blank (word_at k r 0)));
        finals = λ r ne. absurd (ne (blank (word_at k r (k.colours + 1))));
      };
      nodes = λ _. none;
      named = λ r x e. absurd (some-ne-none x (sym e));
      owned = λ r x e. absurd (some-ne-none x (sym e));
      ids = λ r q x y e. absurd (some-ne-none x (sym e));
      sits = λ id v e. subst (λ (z : View). Sits k (replicate n 0) (λ _. none) z) (alone id v e).1 record {
        known = λ i m h. absurd h;
        begun = λ r x h. absurd h;
        mine = λ i p. sym (blank i);
        own = λ i ne. absurd
            (ne refl);
      };
      apart = λ i j v v' a e e' p p'. (alone i v e).0 ∙ sym (alone j v' e').0;
    }

-- of its own words a seat knows what it finds
pub column_set : (k : Size) (v : View) (row : Row) (c n : ℕ) → v.size ≡ k → c < v.size.colours
    → v.low ≡ 1 + v.size.clients + c → v.high ≡ v.low + 1
    → Told v (word_at k (row_at k row) (1 + c)) n → at v.mine (word_at v.size (row_at v.size row) (1 + c)) ≡ n
column_set k v row c n is colour low high told =
    let i : ℕ = word_at v.size (row_at v.size row) (1 + c) in
    let t : Told v i n = subst (λ (z : Size). Told v (word_at z (row_at z row) (1 + c)) n) (sym is) told in
    let plays : Plays v (owner_of v.size i) = subst (Plays v)
    (sym (owner_of_mark v.size (row_at v.size row) c colour)) (omega arith, omega arith, omega arith) in
    t.2.mine i plays ∙ t.3

pub client_set : (k : Size) (v : View) (row : Row) (n : ℕ) → v.size ≡ k → row.number < k.rows
    → v.low ≡ 1 + row.client → v.high ≡ v.low + 1
    → Told v (word_at k (row_at k row) 0) n → at v.mine (word_at k (row_at k row) 0) ≡ n
client_set k v row n is number low high told =
    let i : ℕ = word_at k (row_at k row) 0 in
    let own : owner_of v.size i ≡ 1 + row.client = ap (λ (z : Size). owner_of z i) is ∙ owner_of_row k row number in
    let plays : Plays v (owner_of v.size i) = subst (Plays v) (sym own) (omega arith, omega arith, omega arith) in
    told.2.mine i plays ∙ told.3
