-- The loop that loads a row's marks, and what comes of it.
use Rattle.std.proofs.Common.{◌≡◌, ◌≢◌, ℕ, suc, zero, ◌+◌, ◌*◌, ◌^◌, ◌<◌, ◌≤◌, map, Bool, true, false, ◌||◌}
use Rattle.std.proofs.Common.{List, [], ◌∷◌, ◌++◌, length, take, set, get_or, sym, refl, ap, ◌∙◌, subst, arith}
use Rattle.std.proofs.Common.{add-one}
use Rattle.std.specs.Prelude.{if◌then◌else◌, ◌==◌}
use Rattle.std.proofs.Math.Seq.{take-suc-set}
use Rattle.std.proofs.lemmas.List.{append-nil, length-append}
use mathlib.Core.Logic.{dite}
use native.Mathlib.Decide.{ℕ_discrete}
use Rattle.log_node.specs.declared.limits.TheConstants.{MAX_COLOURS}
use Rattle.log_node.specs.declared.ids.Row.{Row}
use Rattle.log_node.specs.declared.node.Node.{Node}
use Rattle.log_node.specs.Sets.{members}
use Rattle.log_node.specs.declared.marks.Mark.{Mark}
use Rattle.log_node.specs.declared.marks.Outcome.{Outcome}
use Rattle.log_node.specs.declared.marks.Outcome.TheVariants.{Open, Gone, Final}
use Rattle.log_node.specs.declared.marks.Mark.TheVariants as marks
use Rattle.log_node.specs.declared.marks.Why.TheVariants.{Memory, StampEnd}
use Rattle.std.specs.List.{list_any}
use Rattle.std.proofs.lemmas.List.Folds.{list_any-append}
use Rattle.std.proofs.lemmas.List.{length-map}
use Rattle.log_node.specs.Outcomes.{outcome_of, is_missing, is_stamp_end_fence, is_memory_fence, number_of, greatest}
use Rattle.stamp_board.specs.declared.view.Size.{Size}
use Rattle.stamp_board.specs.declared.view.View.{View}
use Rattle.stamp_board.specs.Words.{width, row_at, word_at, mark_from, outcome_from}
use Rattle.stamp_board.specs.Rows.{AreColours, marks_at, outcome_at}
use Rattle.stamp_board.specs.Views.{Has, at, Grows, KnowsAll, KnowsOutcome}
use Rattle.stamp_board.specs.Law.{Fits, Lawful, Told, heard, AreSet}
use Rattle.stamp_board.proofs.CallerLemmas.{Grows-trans}
use Rattle.stamp_board.proofs.Colours.{Within, has_bit, marks_below, marks_are_below}
use Rattle.stamp_board.proofs.Knowing.{if_yes, if_no, heard_grows, heard_mine, heard_size, heard_knows}
use Rattle.stamp_board.proofs.Outcomes.{open_if_missing, open_if_unbegun}
use Rattle.stamp_board.proofs.Fitting.{fits_heard, fits_before, fits_there, mark_from-good, good_append}

-- how far the loop has come: the marks of the colours below c are those taken, whatever the words are that fit what
-- is known
pub record Taken (k : Size) (u v : View) (r bits c count : ℕ) (taken : List Mark) : Type 0 where
  pub grows : Grows u v
  pub mine : v.mine ≡ u.mine
  pub words : List ℕ
  pub law : Lawful k words
  pub fits : Fits k words v
  pub began : bits ≢ 0
  pub first : (ws : List ℕ) → Fits k ws v → get_or ws (word_at k r 0) 0 ≡ bits
  pub marks : (ws : List ℕ) → Fits k ws v → marks_below k ws r bits c ≡ taken
  pub good : AreSet taken
  pub few : count ≤ c
  pub many : length taken ≡ count

module _ (k : Size) (v : View) (i n : ℕ) (is : v.size ≡ k) (told : Told v i n) where
  pub told_law : Lawful k told.0
  told_law = subst (λ (z : Size). Lawful z told.0) is told.1

  pub told_fits : Fits k told.0 (heard v i n)
  told_fits = fits_heard k told.0 v i n (subst (λ (z : Size). Fits z told.0 v) is told.2) told.3

  -- a mark or a final word keeps its bound
  pub told_small : (r p : ℕ) → i ≡ word_at k r p → 0 < p → p < width k → n < 2 ^ 62 + 2
  told_small r p here pos part =
      let there : get_or told.0 (word_at k r p) 0 ≡ n = ap (λ (z : ℕ). get_or told.0 z 0) (sym here) ∙ told.3 in
      let bound = told_law.small r p pos part in omega (arith, there, bound)

pub starts : (k : Size) (v : View) (i n r : ℕ) → v.size ≡ k → i ≡ word_at k r 0 → Told v i n → n ≢ 0
    → Taken k v (heard v i n) r n 0 0 []
starts k v i n r is here told ne = record {
  grows = heard_grows v i n;
  mine = heard_mine v i n;
  words = told.0;
  law = told_law k v i n is told;
  fits = told_fits k v i n is told;
  began = ne;
  first = λ ws f. ap (λ (z : ℕ). get_or ws z 0) (sym here) ∙ fits_there k ws v i n ne f;
  marks = λ ws f. refl;
  good = tt;
  few = omega arith;
  many = refl;
}

module _ (k : Size) (u v : View) (r bits c count : ℕ) (taken : List Mark) (t : Taken k u v r bits c count taken) where
  -- the colour c is not the row's
  pub skips : has_bit bits c ≡ false → Taken k u v r bits (suc c) count taken
  skips unset = record {
    grows = t.grows;
    mine = t.mine;
    words = t.words;
    law = t.law;
    fits = t.fits;
    began = t.began;
    first = t.first;
    marks = λ ws f. (λ i. t.marks ws f i ++ (if unset i then mark_from (get_or ws (word_at k r (1 + c)) 0) ∷ [] else
        [])) ∙ append-nil taken;
    good = t.good;
    few = let e = t.few in omega arith;
    many = t.many;
  }

  module _ (i n : ℕ) (is : v.size ≡ k) (here : i ≡ word_at k r (1 + c)) (bit : has_bit bits c ≡ true)
      (told : Told v i n) where
    colours_then : Within record { 0 = get_or told.0 (word_at k r 0) 0 } k.colours
    colours_then =
        let old : Fits k told.0 v = subst (λ (z : Size). Fits z told.0 v) is told.2 in
        let nonzero : get_or told.0 (word_at k r 0) 0 ≢ 0 = λ z. t.began (sym (t.first told.0 old) ∙ z) in
        ((told_law k v i n is told).colours r nonzero).within

    bit_then : has_bit (get_or told.0 (word_at k r 0) 0) c ≡ true
    bit_then =
        let old : Fits k told.0 v = subst (λ (z : Size). Fits z told.0 v) is told.2 in
        subst (λ (z : ℕ). has_bit z c ≡ true) (sym (t.first told.0 old)) bit

    -- its mark was found
    pub takes : n ≢ 0 → Taken k u (heard v i n) r bits (suc c) (count + 1) (taken ++ mark_from n ∷ [])
    takes ne = record {
      grows = Grows-trans u v (heard v i n) t.grows (heard_grows v i n);
      mine = heard_mine v i n ∙ t.mine;
      words = told.0;
      law = told_law k v i n is told;
      fits = told_fits k v i n is told;
      began = t.began;
      first = λ ws f. t.first ws (fits_before k ws v i n f);
      marks = λ ws f. let there : get_or ws (word_at k r (1 + c)) 0 ≡ n = ap (λ (z : ℕ). get_or ws z 0) (sym here)
          ∙ fits_there k ws v i n ne f in
          λ j. t.marks ws (fits_before k ws v i n f) j ++ (if bit j then mark_from (there j) ∷ [] else []);
      good = let low = colours_then c bit_then in good_append taken (mark_from n ∷ []) t.good
          (mark_from-good n (omega arith) (told_small k v i n is told r (1 + c) here (omega arith) (omega (arith, low))), tt);
      few = let e = t.few in omega arith;
      many = length-append taken (mark_from n ∷ []) ∙ ap (λ (z : ℕ). z + 1) t.many;
    }

    -- its mark is missing
    pub misses : k.colours ≤ MAX_COLOURS → n ≡ 0
        → (ws : List ℕ) × Lawful k ws × Fits k ws (heard v i n) × (outcome_at k ws r ≡ Open)
    misses few none =
        let ws : List ℕ = told.0 in (
          ws,
          told_law k v i n is told,
          told_fits k v i n is told,
          open_if_missing k ws r c few colours_then bit_then
              (ap (λ (z : ℕ). get_or ws z 0) (sym here) ∙ told.3 ∙ none),
        )

-- an outcome that is known is that of the marks
pub known_outcome : (k : Size) (v : View) (row : Row) (o : Outcome) → v.size ≡ k → KnowsOutcome v row o
    → (ws : List ℕ) → Lawful k ws → Fits k ws v → outcome_at k ws (row_at k row) ≡ o
known_outcome k v row o is knows ws law f =
    let i : ℕ = word_at k (row_at k row) (k.colours + 1) in
    let known : Has v.known i knows.0 = subst
    (λ (z : Size). Has v.known (word_at z (row_at z row) (z.colours + 1)) knows.0) is knows.1 in
    let there = f.known i knows.0 known in
    let pos : 0 < knows.0 = there.0 in
    let word : get_or ws i 0 ≡ knows.0 = there.1 in
    sym (law.finals (row_at k row) (λ z. omega arith)) ∙ ap outcome_from word ∙ knows.2

pub ended_marks : (k : Size) (u v : View) (r bits count : ℕ) (taken : List Mark)
    → Taken k u v r bits k.colours count taken → k.colours ≤ MAX_COLOURS
    → (ws : List ℕ) → Lawful k ws → Fits k ws v → outcome_at k ws r ≡ outcome_of taken
ended_marks k u v r bits count taken t few ws law f =
    let now : ℕ = get_or ws (word_at k r 0) 0 in
    let e : now ≡ bits = t.first ws f in
    let nonzero : now ≢ 0 = λ z. t.began (sym e ∙ z) in
    let all : marks_at k ws r record { 0 = now } ≡ taken
    = marks_are_below k ws r record { 0 = now } few (law.colours r nonzero).within
    ∙ ap (λ (z : ℕ). marks_below k ws r z k.colours) e ∙ t.marks ws f in
    if_no now 0 Open _ nonzero ∙ ap outcome_of all

-- a begun row has a mark
pub ended_some : (k : Size) (u v : View) (r bits count : ℕ) (taken : List Mark)
    → Taken k u v r bits k.colours count taken → k.colours ≤ MAX_COLOURS → count ≢ 0
ended_some k u v r bits count taken t few z =
    let ws : List ℕ = t.words in
    let now : ℕ = get_or ws (word_at k r 0) 0 in
    let e : now ≡ bits = t.first ws t.fits in
    let nonzero : now ≢ 0 = λ y. t.began (sym e ∙ y) in
    let spans : AreColours k record { 0 = now } = t.law.colours r nonzero in
    let many : 2 ≤ length (members record { 0 = now }) = spans.many in
    let wide : length (marks_at k ws r record { 0 = now }) ≡ length (members record { 0 = now }) = length-map
    (members record { 0 = now }) (λ (c : ℕ). mark_from (get_or ws (word_at k r (1 + c)) 0)) in
    let all : length (marks_at k ws r record { 0 = now }) ≡ count
    = ap length (marks_are_below k ws r record { 0 = now } few spans.within
    ∙ ap (λ (y : ℕ). marks_below k ws r y k.colours) e ∙ t.marks ws t.fits) ∙ t.many in
    omega arith

module _ (k : Size) (u v v' : View) (r bits c count count' : ℕ) (marks marks' : List Mark)
    (t : Taken k u v r bits c count (take count marks)) where
  pub goes_past : has_bit bits c ≡ false → v' ≡ v → marks' ≡ marks → count' ≡ count
      → Taken k u v' r bits (c + 1) count' (take count' marks')
  goes_past unset same same_marks same_count =
      subst (λ (z : ℕ × View). Taken k u z.1 r bits z.0 count' (take count' marks'))
      (λ i. (sym (add-one c) i, sym same i))
      (subst (λ (z : ℕ × List Mark). Taken k u v r bits (suc c) z.0 (take z.0 z.1))
      (λ i. (sym same_count i, sym same_marks i)) (skips k u v r bits c count (take count marks) t unset))

  pub goes_on : (i n : ℕ) (m : Mark) → v.size ≡ k → i ≡ word_at k r (1 + c) → has_bit bits c ≡ true → Told v i n
      → n ≢ 0 → count < length marks
      → v' ≡ heard v i n → m ≡ mark_from n → marks' ≡ set marks count m → count' ≡ count + 1
      → Taken k u v' r bits (c + 1) count' (take count' marks')
  goes_on i n m is here bit told ne inside after mark set_marks next =
      let s = takes k u v r bits c count (take count marks) t i n is here bit told ne in
      let list : take count marks ++ mark_from n ∷ [] ≡ take count' marks'
      = ap (λ (z : Mark). take count marks ++ z ∷ []) (sym mark) ∙ sym (take-suc-set marks count m inside)
      ∙ (λ j. take (sym (add-one count) j) (set marks count m)) ∙ (λ j. take (sym next j) (sym set_marks j)) in
      subst (λ (z : ℕ × View). Taken k u z.1 r bits z.0 count' (take count' marks'))
      (λ j. (sym (add-one c) j, sym after j))
      (subst (λ (z : ℕ × List Mark). Taken k u (heard v i n) r bits (suc c) z.0 z.1) (λ j. (sym next j, list j)) s)

mark_from-present : (n : ℕ) → n ≢ 0 → is_missing (mark_from n) ≡ false
mark_from-present n ne = ap is_missing (if_no n 0 marks.None _ ne)
    ∙ dite (ℕ_discrete n 1) (λ e. ap is_missing (if_yes n 1 (marks.Fenced Memory) _ e))
    (λ a. ap is_missing (if_no n 1 (marks.Fenced Memory) _ a)
    ∙ dite (ℕ_discrete n 2) (λ e. ap is_missing (if_yes n 2 (marks.Fenced StampEnd) _ e))
    (λ b. ap is_missing (if_no n 2 (marks.Fenced StampEnd) _ b)))

-- rows that a client's seat has begun stay as they were where it sets nothing
pub begun_stay : (P : ℕ → ℕ → Type 0) (v w : View) (client : ℕ) → w.mine ≡ v.mine → w.size ≡ v.size
    → ((j : ℕ) → P j (at v.mine (word_at v.size (client * v.size.rows + j) 0))) → (j : ℕ)
    → P j (at w.mine (word_at w.size (client * w.size.rows + j) 0))
begun_stay P v w client mine size all j = subst
    (λ (z : List (ℕ × ℕ) × Size). P j (at z.0 (word_at z.1 (client * z.1.rows + j) 0)))
    (λ i. (sym mine i, sym size i)) (all j)

pub mark_from-none : (n : ℕ) → mark_from n ≡ marks.None → n ≡ 0
mark_from-none n e = dite (ℕ_discrete n 0) (λ z. z) (λ ne. absurd (let q : true ≡ false = ap is_missing (sym e)
    ∙ mark_from-present n ne in cc))

or_neither : (a b : Bool) → a ≡ false → b ≡ false → (a || b) ≡ false
or_neither a b e f = ap (λ (z : Bool). z || b) e ∙ f

present_below : (k : Size) (ws : List ℕ) (r bits n : ℕ)
    → ((c : ℕ) → c < n → has_bit bits c ≡ true → get_or ws (word_at k r (1 + c)) 0 ≢ 0)
    → list_any is_missing (marks_below k ws r bits n) ≡ false
present_below k ws r bits zero all = refl
present_below k ws r bits (suc n) all =
    let xs : List Mark = marks_below k ws r bits n in
    let m : Mark = mark_from (get_or ws (word_at k r (1 + n)) 0) in
    let last : (b : Bool) → has_bit bits n ≡ b → list_any is_missing (if b then m ∷ [] else []) ≡ false
    = λ b. elim b as (λ (z : Bool). has_bit bits n ≡ z → list_any is_missing (if z then m ∷ [] else []) ≡ false) [
      | true ↦ λ e. or_neither (is_missing m) false
          (mark_from-present (get_or ws (word_at k r (1 + n)) 0) (all n (omega arith) e)) refl
      | false ↦ λ _. refl
    ] in
    list_any-append is_missing xs (if has_bit bits n then m ∷ [] else [])
    ∙ or_neither (list_any is_missing xs) (list_any is_missing (if has_bit bits n then m ∷ [] else []))
    (present_below k ws r bits n (λ c h. all c (omega arith))) (last (has_bit bits n) refl)

not_open : (xs : List Mark) → list_any is_missing xs ≡ false → outcome_of xs ≢ Open
not_open xs here e =
    let o : outcome_of xs ≡ (if list_any is_stamp_end_fence xs then Gone StampEnd else
    (if list_any is_memory_fence xs then Gone Memory else Final (greatest (map number_of xs))))
    = ap (λ (b : Bool). if b then Open else (if list_any is_stamp_end_fence xs then Gone StampEnd else
    (if list_any is_memory_fence xs then Gone Memory else Final (greatest (map number_of xs))))) here in
    let no : (b c : Bool)
    → (if b then Gone StampEnd else (if c then Gone Memory else Final (greatest (map number_of xs)))) ≢ Open
    = λ b c. elim b as (λ (z : Bool). (if z then Gone StampEnd else
    (if c then Gone Memory else Final (greatest (map number_of xs)))) ≢ Open) [
      | true ↦ λ f. absurd (cc)
      | false ↦ elim c as (λ (z : Bool). (if z then Gone Memory else Final (greatest (map number_of xs))) ≢ Open)
          [ true ↦ λ f. absurd (cc) | false ↦ λ f. absurd (cc) ]
    ] in
    no (list_any is_stamp_end_fence xs) (list_any is_memory_fence xs) (sym o ∙ e)

-- where the seat knew the row as begun and all its marks, no words that fit leave it open
pub never_open : (k : Size) (v w : View) (row : Row) → v.size ≡ k → k.colours ≤ MAX_COLOURS → Grows v w → KnowsAll v row
    → (ws : List ℕ) → Lawful k ws → Fits k ws w → outcome_at k ws (row_at k row) ≢ Open
never_open k v w row is few grows all ws law f e =
    let r : ℕ = row_at k row in
    let bits : ℕ = get_or ws (word_at k r 0) 0 in
    let x : Node = all.0 in
    let b = f.begun r x (grows.begun r x (subst (λ (z : Size). Has v.begun (row_at z row) x) is all.1)) in
    let pos : 0 < x.colours.0 = b.0 in
    let first : bits ≡ x.colours.0 = b.1 in
    let nonzero : bits ≢ 0 = λ z. (omega arith) in
    let each : (c : ℕ) → c < k.colours → has_bit bits c ≡ true → get_or ws (word_at k r (1 + c)) 0 ≢ 0
    = λ c _ bit z. let m = all.2 c (subst (λ (y : ℕ). has_bit y c ≡ true) first bit) in
    let n : ℕ = m.1.0 in
    let known : Has v.known (word_at k r (1 + c)) n = subst
    (λ (y : Size). Has v.known (word_at y (row_at y row) (1 + c)) n) is m.1.1 in
    let g = f.known (word_at k r (1 + c)) n (grows.known (word_at k r (1 + c)) n known) in
    let p : 0 < n = g.0 in let q : get_or ws (word_at k r (1 + c)) 0 ≡ n = g.1 in omega arith in
    let marks : List Mark = marks_at k ws r record { 0 = bits } in
    let here : list_any is_missing marks ≡ false = ap (list_any is_missing)
    (marks_are_below k ws r record { 0 = bits } few (law.colours r nonzero).within)
    ∙ present_below k ws r bits k.colours each in
    not_open marks here (sym (if_no bits 0 Open _ nonzero) ∙ e)

module _ (k : Size) (v w : View) (row : Row) (new found : ℕ) (decided : Outcome) (is : v.size ≡ k)
    (turns : w ≡ heard v (word_at k (row_at k row) (k.colours + 1)) (if found == 0 then new else found))
    (told : Told v (word_at k (row_at k row) (k.colours + 1)) found)
    (marks : (ws : List ℕ) → Lawful k ws → Fits k ws v
    → outcome_at k ws (row_at k row) ≡ decided) (word : outcome_from new ≡ decided) (pos : 0 < new) where
  pub ended_knows : KnowsOutcome w row decided
  ended_knows =
      let i : ℕ = word_at k (row_at k row) (k.colours + 1) in
      let n : ℕ = if found == 0 then new else found in
      let both : (n ≢ 0) × (outcome_from n ≡ decided) = dite (ℕ_discrete found 0)
      (λ e. let is_new : n ≡ new = if_yes found 0 new found e in ((λ z. (omega arith)), ap outcome_from is_new ∙ word))
      (λ ne. let is_found : n ≡ found = if_no found 0 new found ne in
      let ws : List ℕ = told.0 in
      let law : Lawful k ws = subst (λ (z : Size). Lawful z ws) is told.1 in
      let f : Fits k ws v = subst (λ (z : Size). Fits z ws v) is told.2 in
      let at_word : get_or ws i 0 ≡ found = told.3 in (
        (λ z. ne (sym is_found ∙ z)),
        ap outcome_from is_found ∙ ap outcome_from (sym at_word)
            ∙ law.finals (row_at k row) (λ z. ne (sym at_word ∙ z)) ∙ marks ws law f,
      )) in
      let size : k ≡ w.size = sym is ∙ sym (heard_size v i n) ∙ ap (λ (z : View). z.size) (sym turns) in
      let knows : Has w.known i n = subst (λ (z : View). Has z.known i n) (sym turns) (heard_knows v i n both.0) in
      (n, subst (λ (z : Size). Has w.known (word_at z (row_at z row) (z.colours + 1)) n) size knows, both.1)

module _ (u v w : View) (i n : ℕ) (so_far : Grows u v) (same : v.mine ≡ u.mine) (turns : w ≡ heard v i n) where
  pub later_grows : Grows u w
  later_grows = subst (Grows u) (sym turns) (Grows-trans u v (heard v i n) so_far (heard_grows v i n))

  pub later_mine : w.mine ≡ u.mine
  later_mine = ap (λ (z : View). z.mine) turns ∙ heard_mine v i n ∙ same
