-- The begun rows of a client, by how they are kept.
use Rattle.std.proofs.Common.{◌≡◌, ◌≢◌, ℕ, zero, suc, ◌+◌, ◌*◌, ◌<◌, ◌≤◌, List, [], ◌∷◌, ◌++◌, length, get_or, set, Option, Some, None}
use Rattle.std.proofs.Common.{cond, ◌⊎◌, inl, inr, refl, sym, ap, ◌∙◌, arith, mul-le-mul_right, mul_comm}
use Rattle.std.specs.Prelude.{map, replicate, slice_get, nat_lt}
use Rattle.std.specs.List.{range_with_len}
use mathlib.Core.Path.{fun_ext}
use native.Mathlib.Nat.{add-mul, one-mul}
use Rattle.std.proofs.lemmas.Bool.{cases_lt, lt-ltb, le-ltb}
use Rattle.std.proofs.lemmas.List.{get_or_past, get_or-set_same, get_or-set_other, get_or-map, set-get_or, length-map, length-append, length-replicate}
use Rattle.std.proofs.lemmas.List.FromFn.{length-range_with_len, get_or-range_with_len}
use Rattle.std.proofs.lemmas.Option.{slice_get_past}
use Rattle.std.proofs.lemmas.Nat.{same_from_place, mul-add-lt, row_fits}
use Rattle.log_node.specs.declared.ids.Id.{Id}
use Rattle.log_node.specs.declared.ids.Colours.{Colours}
use Rattle.log_node.specs.declared.limits.TheConstants.{MAX_COLOURS}
use Rattle.log_node.specs.declared.marks.Mark.{Mark}
use Rattle.log_node.specs.declared.marks.Mark.TheVariants as mark
use Rattle.log_node.specs.declared.marks.Outcome.{Outcome}
use Rattle.log_node.specs.declared.marks.Outcome.TheVariants.{Open}
use Rattle.log_node.specs.Outcomes.{outcome_of}
use Rattle.skeen_core.specs.declared.client_rows.RowHead.{RowHead}
use Rattle.skeen_core.specs.Boards.{BoardRow, mark_at, mark_in, last_in, first_mark, with_mark, changed_at, changed_by, fresh_row, decided, row_marks, outcome_in, marks_in}
use Rattle.skeen_core.specs.KeptRows.{mark_kept, row_kept, rows_kept, IsKept}

-- THE ROW AT A PLACE

pub rows-length : (k : ℕ) (marks : List Mark) (a : ℕ) (heads : List RowHead) → length (rows_kept k marks a heads) ≡ length heads
rows-length k marks a [] = refl
rows-length k marks a (h ∷ heads) = ap suc (rows-length k marks (a + 1) heads)

pub row-there : (k : ℕ) (marks : List Mark) (a : ℕ) (heads : List RowHead) (n : ℕ) (h : RowHead) → slice_get heads n ≡ Some h
    → slice_get (rows_kept k marks a heads) n ≡ Some (row_kept k marks (a + n) h)
row-there k marks a [] n h e = absurd (let no : ⊥ = cc in no)
row-there k marks a (g ∷ heads) zero h e =
    let here : a ≡ a + zero = omega arith in
    ap (λ (o : Option RowHead). by o) e ∙ ap (λ m. Some (row_kept k marks m h)) here where
      by : Option RowHead → Option BoardRow
      by None = None
      by (Some x) = Some (row_kept k marks a x)
row-there k marks a (g ∷ heads) (suc n) h e =
    let next : a + 1 + n ≡ a + suc n = omega arith in
    row-there k marks (a + 1) heads n h e ∙ ap (λ m. Some (row_kept k marks m h)) next

pub no-row : (k : ℕ) (marks : List Mark) (a : ℕ) (heads : List RowHead) (n : ℕ) → slice_get heads n ≡ None
    → slice_get (rows_kept k marks a heads) n ≡ None
no-row k marks a [] n e = refl
no-row k marks a (g ∷ heads) zero e = absurd (let no : ⊥ = cc in no)
no-row k marks a (g ∷ heads) (suc n) e = no-row k marks (a + 1) heads n e

pub head_at : (heads : List RowHead) (n : ℕ) → n < length heads → (h : RowHead) × (slice_get heads n ≡ Some h)
head_at [] n lt = absurd (omega (arith, lt))
head_at (h ∷ heads) zero lt = (h, refl)
head_at (h ∷ heads) (suc n) lt = head_at heads n (omega (arith, lt))

-- the outcome that a head keeps
abbrev pub last_kept : Option RowHead → Outcome
last_kept None = Open
last_kept (Some h) = h.last

-- THE MARK OF A COLOUR

kept-inside : (k : ℕ) (marks : List Mark) (n c : ℕ) → c < k → mark_kept k marks n c ≡ get_or marks (n * k + c) mark.None
kept-inside k marks n c lt = ap (λ b. cond b (get_or marks (n * k + c) mark.None) mark.None) (lt-ltb c k lt)

kept-outside : (k : ℕ) (marks : List Mark) (n c : ℕ) → k ≤ c → mark_kept k marks n c ≡ mark.None
kept-outside k marks n c le = ap (λ b. cond b (get_or marks (n * k + c) mark.None) mark.None) (le-ltb c k le)

pub mark-of_row : (k : ℕ) (marks : List Mark) (n c : ℕ) (h : RowHead) → k ≤ MAX_COLOURS
    → mark_at (row_kept k marks n h) c ≡ mark_kept k marks n c
mark-of_row k marks n c h few = by (cases_lt c MAX_COLOURS) where
  all : List ℕ
  all = range_with_len 0 MAX_COLOURS

  long : length (map (mark_kept k marks n) all) ≡ MAX_COLOURS
  long = length-map all (mark_kept k marks n) ∙ length-range_with_len 0 MAX_COLOURS

  from_none : 0 + c ≡ c
  from_none = omega arith

  by : (c < MAX_COLOURS) ⊎ (MAX_COLOURS ≤ c) → mark_at (row_kept k marks n h) c ≡ mark_kept k marks n c
  by (inl lt) =
      let inside : c < length all = omega (arith, lt, length-range_with_len 0 MAX_COLOURS) in
      get_or-map (mark_kept k marks n) all c 0 mark.None inside
      ∙ (ap (mark_kept k marks n) (get_or-range_with_len 0 MAX_COLOURS c 0 lt) ∙ ap (mark_kept k marks n) from_none)
  by (inr ge) =
      get_or_past (map (mark_kept k marks n) all) c mark.None (omega (arith, long, ge))
      ∙ sym (kept-outside k marks n c (omega (arith, ge, few)))

-- a row that is not begun has no mark
pub past-rows : (k : ℕ) (marks : List Mark) (heads n c : ℕ) → length marks ≡ heads * k → heads ≤ n → c < k
    → get_or marks (n * k + c) mark.None ≡ mark.None
past-rows k marks heads n c long le lt =
    let most : heads * k ≤ n * k = mul-le-mul_right k le in
    get_or_past marks (n * k + c) mark.None (omega (arith, long, most))

-- the place of a mark is one of the list
pub mark-inside : (k : ℕ) (marks : List Mark) (heads n c : ℕ) → length marks ≡ heads * k → n < heads → c < k
    → n * k + c < length marks
mark-inside k marks heads n c long lt low =
    let place = mul-add-lt n k c heads lt low in
    let turned : k * heads ≡ heads * k = mul_comm k heads in
    omega (arith, long, place, turned)

-- ONE MORE ROW

map-fresh : (f : ℕ → Mark) (a n : ℕ) → ((c : ℕ) → f c ≡ mark.None) → map f (range_with_len a n) ≡ replicate n mark.None
map-fresh f a zero none = refl
map-fresh f a (suc n) none =
    ap (λ m. m ∷ map f (range_with_len (a + 1) n)) (none a) ∙ ap (λ ms. mark.None ∷ ms) (map-fresh f (a + 1) n none)

or-unmarked : (marks : List Mark) (n i : ℕ) → get_or (marks ++ replicate n mark.None) i mark.None ≡ get_or marks i mark.None
or-unmarked [] n i = none n i where
  none : (n i : ℕ) → get_or (replicate n mark.None) i mark.None ≡ mark.None
  none zero i = refl
  none (suc n) zero = refl
  none (suc n) (suc i) = none n i
or-unmarked (m ∷ marks) n zero = refl
or-unmarked (m ∷ marks) n (suc i) = or-unmarked marks n i

kept-more : (k : ℕ) (marks : List Mark) (m n : ℕ) → mark_kept k (marks ++ replicate m mark.None) n ≡ mark_kept k marks n
kept-more k marks m n = fun_ext (λ c. ap (λ x. cond (nat_lt c k) x mark.None) (or-unmarked marks m (n * k + c)))

rows-more : (k : ℕ) (marks : List Mark) (m a : ℕ) (heads : List RowHead)
    → rows_kept k (marks ++ replicate m mark.None) a heads ≡ rows_kept k marks a heads
rows-more k marks m a [] = refl
rows-more k marks m a (h ∷ heads) =
    ap (λ (f : ℕ → Mark). row f ∷ rows_kept k (marks ++ replicate m mark.None) (a + 1) heads) (kept-more k marks m a)
    ∙ ap (λ rs. row_kept k marks a h ∷ rs) (rows-more k marks m (a + 1) heads) where
      row : (ℕ → Mark) → BoardRow
      row f = record { id = h.id; colours = h.colours; marks = map f (range_with_len 0 MAX_COLOURS); last = h.last }

rows-append : (k : ℕ) (marks : List Mark) (a : ℕ) (heads : List RowHead) (h : RowHead)
    → rows_kept k marks a (heads ++ h ∷ []) ≡ rows_kept k marks a heads ++ row_kept k marks (a + length heads) h ∷ []
rows-append k marks a [] h = let here : a ≡ a + zero = omega arith in ap (λ n. row_kept k marks n h ∷ []) here
rows-append k marks a (g ∷ heads) h =
    let next : a + 1 + length heads ≡ a + suc (length heads) = omega arith in
    ap (λ rs. row_kept k marks a g ∷ rs) (rows-append k marks (a + 1) heads h
    ∙ ap (λ n. rows_kept k marks (a + 1) heads ++ row_kept k marks n h ∷ []) next)

pub row-begun : (k : ℕ) (marks : List Mark) (heads : List RowHead) (id : Id) (colours : Colours) (h : RowHead)
    → h ≡ record { id = id; colours = colours; last = Open } → length marks ≡ length heads * k
    → rows_kept k (marks ++ replicate k mark.None) 0 (heads ++ h ∷ []) ≡ rows_kept k marks 0 heads ++ fresh_row id colours ∷ []
row-begun k marks heads id colours h is long =
    rows-more k marks k 0 (heads ++ h ∷ [])
    ∙ (rows-append k marks 0 heads h
    ∙ ap (λ r. rows_kept k marks 0 heads ++ r ∷ []) (ap (λ n. row_kept k marks n h) from_none
    ∙ (ap (row_kept k marks (length heads)) is ∙ ap row fresh))) where
      from_none : 0 + length heads ≡ length heads
      from_none = omega arith

      row : List Mark → BoardRow
      row ms = record { id = id; colours = colours; marks = ms; last = Open }

      unmarked : (c : ℕ) → mark_kept k marks (length heads) c ≡ mark.None
      unmarked c = elim (cases_lt c k) [
        | inl lt ↦ kept-inside k marks (length heads) c lt
            ∙ past-rows k marks (length heads) (length heads) c long (omega arith) lt
        | inr ge ↦ kept-outside k marks (length heads) c ge
      ]

      fresh : map (mark_kept k marks (length heads)) (range_with_len 0 MAX_COLOURS) ≡ replicate MAX_COLOURS mark.None
      fresh = map-fresh (mark_kept k marks (length heads)) 0 MAX_COLOURS unmarked

-- ONE MORE MARK

map-behind : (f g : ℕ → Mark) (a n at : ℕ) → at < a → ((c : ℕ) → c ≢ at → g c ≡ f c)
    → map g (range_with_len a n) ≡ map f (range_with_len a n)
map-behind f g a zero at lt other = refl
map-behind f g a (suc n) at lt other =
    ap (λ m. m ∷ map g (range_with_len (a + 1) n)) (other a (λ e. omega (arith, e, lt)))
    ∙ ap (λ ms. f a ∷ ms) (map-behind f g (a + 1) n at (omega (arith, lt)) other)

map-set_at : (f g : ℕ → Mark) (a n i : ℕ) (m : Mark) → i < n → g (a + i) ≡ m → ((c : ℕ) → c ≢ a + i → g c ≡ f c)
    → map g (range_with_len a n) ≡ set (map f (range_with_len a n)) i m
map-set_at f g a zero i m lt own other = absurd (omega (arith, lt))
map-set_at f g a (suc n) zero m lt own other =
    let here : a + zero ≡ a = omega arith in
    ap (λ x. x ∷ map g (range_with_len (a + 1) n)) (ap g (sym here) ∙ own)
    ∙ ap (λ ms. m ∷ ms) (map-behind f g (a + 1) n a (omega arith) (λ c no. other c (λ e. no (e ∙ here))))
map-set_at f g a (suc n) (suc i) m lt own other =
    let next : a + 1 + i ≡ a + suc i = omega arith in
    ap (λ x. x ∷ map g (range_with_len (a + 1) n)) (other a (λ e. omega (arith, e)))
    ∙ ap (λ ms. f a ∷ ms) (map-set_at f g (a + 1) n i m (omega (arith, lt)) (ap g next ∙ own)
    (λ c no. other c (λ e. no (e ∙ sym next))))

module _ (k : ℕ) (marks : List Mark) (n c : ℕ) (m : Mark) (low : c < k) (inside : n * k + c < length marks) where
  abbrev marked : List Mark
  marked = set marks (n * k + c) m

  kept-other_row : (b : ℕ) → b ≢ n → mark_kept k marked b ≡ mark_kept k marks b
  kept-other_row b differ = fun_ext (λ d. elim (cases_lt d k) [
    | inl lt ↦
        kept-inside k marked b d lt
        ∙ (get_or-set_other marks (n * k + c) (b * k + d) m mark.None
        (λ e. differ (same_from_place b d n c k lt low e).0)
        ∙ sym (kept-inside k marks b d lt))
    | inr ge ↦ kept-outside k marked b d ge ∙ sym (kept-outside k marks b d ge)
  ])

  kept-own : mark_kept k marked n c ≡ m
  kept-own = kept-inside k marked n c low ∙ get_or-set_same marks (n * k + c) m mark.None inside

  kept-other : (d : ℕ) → d ≢ c → mark_kept k marked n d ≡ mark_kept k marks n d
  kept-other d differ = elim (cases_lt d k) [
    | inl lt ↦
        kept-inside k marked n d lt
        ∙ (get_or-set_other marks (n * k + c) (n * k + d) m mark.None
        (λ e. differ (same_from_place n d n c k lt low e).1)
        ∙ sym (kept-inside k marks n d lt))
    | inr ge ↦ kept-outside k marked n d ge ∙ sym (kept-outside k marks n d ge)
  ]

  row-other : (b : ℕ) (h : RowHead) → b ≢ n → row_kept k marked b h ≡ row_kept k marks b h
  row-other b h differ = ap (λ (f : ℕ → Mark). let r : BoardRow = record {
    id = h.id;
    colours = h.colours;
    marks = map f (range_with_len 0 MAX_COLOURS);
    last = h.last;
  } in r) (kept-other_row b differ)

  row-own : (h : RowHead) → k ≤ MAX_COLOURS
      → row_kept k marked n h ≡ record (row_kept k marks n h) { marks = set (row_kept k marks n h).marks c m }
  row-own h few =
      let here : 0 + c ≡ c = omega arith in
      ap (λ (ms : List Mark). let r : BoardRow = record {
        id = h.id;
        colours = h.colours;
        marks = ms;
        last = h.last;
      } in r) (map-set_at (mark_kept k marks n) (mark_kept k marked n) 0 MAX_COLOURS c m (omega (arith, low, few))
      (ap (mark_kept k marked n) here ∙ kept-own) (λ d no. kept-other d (λ e. no (e ∙ sym here))))

  rows-behind : (a : ℕ) (heads : List RowHead) → n < a → rows_kept k marked a heads ≡ rows_kept k marks a heads
  rows-behind a [] lt = refl
  rows-behind a (h ∷ heads) lt =
      ap (λ r. r ∷ rows_kept k marked (a + 1) heads) (row-other a h (λ e. omega (arith, e, lt)))
      ∙ ap (λ rs. row_kept k marks a h ∷ rs) (rows-behind (a + 1) heads (omega (arith, lt)))

  rows-set : (a : ℕ) (heads : List RowHead) (i : ℕ) (h : RowHead) → k ≤ MAX_COLOURS → n ≡ a + i → slice_get heads i ≡ Some h
      → rows_kept k marked a heads
      ≡ set (rows_kept k marks a heads) i (record (row_kept k marks n h) { marks = set (row_kept k marks n h).marks c m })
  rows-set a [] i h few at e = absurd (let no : ⊥ = cc in no)
  rows-set a (g ∷ heads) zero h few at e =
      let here : a ≡ n = omega (arith, at) in
      let same : g ≡ h = some_is e in
      ap (λ r. r ∷ rows_kept k marked (a + 1) heads) (ap (λ b. row_kept k marked b g) here ∙ (ap (row_kept k marked n) same
      ∙ row-own h few))
      ∙ ap (λ rs. record (row_kept k marks n h) { marks = set (row_kept k marks n h).marks c m } ∷ rs)
      (rows-behind (a + 1) heads (omega (arith, here))) where
        some_is : {x y : RowHead} → Some x ≡ Some y → x ≡ y
        some_is {x} p = ap (λ (o : Option RowHead). or_this x o) p where
          or_this : RowHead → Option RowHead → RowHead
          or_this d None = d
          or_this d (Some z) = z
  rows-set a (g ∷ heads) (suc i) h few at e =
      ap (λ r. r ∷ rows_kept k marked (a + 1) heads) (row-other a g (λ f. omega (arith, f, at)))
      ∙ ap (λ rs. row_kept k marks a g ∷ rs) (rows-set (a + 1) heads i h few (omega (arith, at)) e)

-- A ROW CHANGES

changed-is : (rows : List BoardRow) (n : ℕ) (r : BoardRow) (f : BoardRow → BoardRow) → slice_get rows n ≡ Some r
    → changed_at rows n f ≡ set rows n (f r)
changed-is rows n r f e = ap (changed_by rows n f) e

pub row-marked : (k : ℕ) (marks : List Mark) (heads : List RowHead) (n c : ℕ) (new : Mark) (h : RowHead) → k ≤ MAX_COLOURS → c < k
    → n * k + c < length marks → slice_get heads n ≡ Some h
    → rows_kept k (set marks (n * k + c) (first_mark (get_or marks (n * k + c) mark.None) new)) 0 heads
    ≡ changed_at (rows_kept k marks 0 heads) n (with_mark c new)
row-marked k marks heads n c new h few low inside there =
    let from_none : n ≡ 0 + n = omega arith in
    let r = row_kept k marks n h in
    let old : mark_at r c ≡ get_or marks (n * k + c) mark.None =
    mark-of_row k marks n c h few ∙ kept-inside k marks n c low in
    let row : slice_get (rows_kept k marks 0 heads) n ≡ Some r =
    row-there k marks 0 heads n h there ∙ ap (λ m. Some (row_kept k marks m h)) (sym from_none) in
    rows-set k marks n c (first_mark (get_or marks (n * k + c) mark.None) new) low inside 0 heads n h few from_none there
    ∙ (ap (λ m. set (rows_kept k marks 0 heads) n (record r { marks = set r.marks c (first_mark m new) })) (sym old)
    ∙ sym (changed-is (rows_kept k marks 0 heads) n r (with_mark c new) row))

first-stays : (old new : Mark) → (old ≡ mark.None → ⊥) → first_mark old new ≡ old
first-stays mark.None new some = absurd (some refl)
first-stays (mark.Number s) new some = refl
first-stays (mark.Fenced why) new some = refl

-- the first mark of a colour
pub row-first : (k : ℕ) (marks : List Mark) (heads : List RowHead) (n c : ℕ) (new : Mark) → k ≤ MAX_COLOURS → c < k
    → length marks ≡ length heads * k → n < length heads → get_or marks (n * k + c) mark.None ≡ mark.None
    → rows_kept k (set marks (n * k + c) new) 0 heads ≡ changed_at (rows_kept k marks 0 heads) n (with_mark c new)
row-first k marks heads n c new few low long lt none =
    let h = head_at heads n lt in
    ap (λ m. rows_kept k (set marks (n * k + c) (first_mark m new)) 0 heads) (sym none)
    ∙ row-marked k marks heads n c new h.0 few low (mark-inside k marks (length heads) n c long lt low) h.1

-- a colour that is marked already
pub row-still : (k : ℕ) (marks : List Mark) (heads : List RowHead) (n c : ℕ) (new : Mark) → k ≤ MAX_COLOURS → c < k
    → length marks ≡ length heads * k → n < length heads → (get_or marks (n * k + c) mark.None ≡ mark.None → ⊥)
    → rows_kept k marks 0 heads ≡ changed_at (rows_kept k marks 0 heads) n (with_mark c new)
row-still k marks heads n c new few low long lt some =
    let h = head_at heads n lt in
    let same : set marks (n * k + c) (first_mark (get_or marks (n * k + c) mark.None) new) ≡ marks =
    ap (λ m. set marks (n * k + c) m) (first-stays (get_or marks (n * k + c) mark.None) new some)
    ∙ set-get_or marks (n * k + c) mark.None in
    ap (λ ms. rows_kept k ms 0 heads) (sym same)
    ∙ row-marked k marks heads n c new h.0 few low (mark-inside k marks (length heads) n c long lt low) h.1

rows-last : (k : ℕ) (marks : List Mark) (a : ℕ) (heads : List RowHead) (n : ℕ) (h : RowHead) (o : Outcome)
    → slice_get heads n ≡ Some h
    → rows_kept k marks a (set heads n (record h { last = o }))
    ≡ set (rows_kept k marks a heads) n (record (row_kept k marks (a + n) h) { last = o })
rows-last k marks a [] n h o e = absurd (let no : ⊥ = cc in no)
rows-last k marks a (g ∷ heads) zero h o e =
    let here : a ≡ a + zero = omega arith in
    ap (λ m. record (row_kept k marks m h) { last = o } ∷ rows_kept k marks (a + 1) heads) here
rows-last k marks a (g ∷ heads) (suc n) h o e =
    let next : a + 1 + n ≡ a + suc n = omega arith in
    ap (λ rs. row_kept k marks a g ∷ rs) (rows-last k marks (a + 1) heads n h o e
    ∙ ap (λ m. set (rows_kept k marks (a + 1) heads) n (record (row_kept k marks m h) { last = o })) next)

pub row-here : (k : ℕ) (marks : List Mark) (heads : List RowHead) (n : ℕ) (h : RowHead) → slice_get heads n ≡ Some h
    → slice_get (rows_kept k marks 0 heads) n ≡ Some (row_kept k marks n h)
row-here k marks heads n h there =
    let from_none : 0 + n ≡ n = omega arith in
    row-there k marks 0 heads n h there ∙ ap (λ m. Some (row_kept k marks m h)) from_none

pub row-decided : (k : ℕ) (marks : List Mark) (heads : List RowHead) (n : ℕ) (h : RowHead) (o : Outcome)
    → slice_get heads n ≡ Some h → o ≡ outcome_in (slice_get (rows_kept k marks 0 heads) n)
    → rows_kept k marks 0 (set heads n (record h { last = o })) ≡ changed_at (rows_kept k marks 0 heads) n decided
row-decided k marks heads n h o there is =
    let from_none : 0 + n ≡ n = omega arith in
    let row = row-here k marks heads n h there in
    rows-last k marks 0 heads n h o there
    ∙ (ap (λ m. set (rows_kept k marks 0 heads) n (record (row_kept k marks m h) { last = o })) from_none
    ∙ (ap (λ x. set (rows_kept k marks 0 heads) n (record (row_kept k marks n h) { last = x })) (is ∙ ap outcome_in row)
    ∙ sym (changed-is (rows_kept k marks 0 heads) n (row_kept k marks n h) decided row)))

-- WHAT A CALL READS

-- the mark of a colour of any row, by the list of all marks
pub mark-read : (k : ℕ) (marks : List Mark) (heads : List RowHead) (n c : ℕ) → k ≤ MAX_COLOURS
    → length marks ≡ length heads * k → c < k
    → mark_in (slice_get (rows_kept k marks 0 heads) n) c ≡ get_or marks (n * k + c) mark.None
mark-read k marks heads n c few long low = by (cases_lt n (length heads)) where
  by : (n < length heads) ⊎ (length heads ≤ n)
      → mark_in (slice_get (rows_kept k marks 0 heads) n) c ≡ get_or marks (n * k + c) mark.None
  by (inl lt) =
      let h = head_at heads n lt in
      ap (λ o. mark_in o c) (row-here k marks heads n h.0 h.1)
      ∙ (mark-of_row k marks n c h.0 few ∙ kept-inside k marks n c low)
  by (inr ge) =
      ap (λ o. mark_in o c) (no-row k marks 0 heads n (slice_get_past heads n ge))
      ∙ sym (past-rows k marks (length heads) n c long ge low)

-- a colour that the board lacks has no mark
pub no-mark : (k : ℕ) (marks : List Mark) (heads : List RowHead) (n c : ℕ) → k ≤ MAX_COLOURS → k ≤ c
    → mark.None ≡ mark_in (slice_get (rows_kept k marks 0 heads) n) c
no-mark k marks heads n c few ge = by (cases_lt n (length heads)) where
  by : (n < length heads) ⊎ (length heads ≤ n) → mark.None ≡ mark_in (slice_get (rows_kept k marks 0 heads) n) c
  by (inl lt) =
      let h = head_at heads n lt in
      sym (ap (λ o. mark_in o c) (row-here k marks heads n h.0 h.1)
      ∙ (mark-of_row k marks n c h.0 few ∙ kept-outside k marks n c ge))
  by (inr le) = sym (ap (λ o. mark_in o c) (no-row k marks 0 heads n (slice_get_past heads n le)))

pub last-read : (k : ℕ) (marks : List Mark) (heads : List RowHead) (n : ℕ)
    → last_in (slice_get (rows_kept k marks 0 heads) n) ≡ last_kept (slice_get heads n)
last-read k marks heads n = by (slice_get heads n) refl where
  by : (o : Option RowHead) → slice_get heads n ≡ o → last_in (slice_get (rows_kept k marks 0 heads) n) ≡ last_kept (slice_get heads n)
  by None e = ap last_in (no-row k marks 0 heads n e) ∙ sym (ap last_kept e)
  by (Some h) e = ap last_in (row-here k marks heads n h e) ∙ sym (ap last_kept e)

-- the outcome of a begun row, by what its marks are
pub outcome-read : (o : Option BoardRow) (r : BoardRow) → o ≡ Some r → outcome_of (marks_in o r.colours) ≡ outcome_in o
unfolding row_marks
outcome-read o r e = ap (λ (x : Option BoardRow). outcome_of (marks_in x r.colours)) e ∙ sym (ap outcome_in e)

-- ROOM

-- the marks of one row more have room
pub marks-fit : (k rows : ℕ) (marks : List Mark) (heads : List RowHead) (marks_room heads_room : ℕ)
    → IsKept k rows marks heads marks_room heads_room → length heads < rows → length marks + k ≤ marks_room
marks-fit k rows marks heads marks_room heads_room kept lt =
    let fits = row_fits (length heads) k rows k lt (omega arith) in
    let long = kept.all_marks in
    let room = kept.marks_fit in
    omega (arith, fits, long, room)

pub kept-begun : (k rows : ℕ) (marks : List Mark) (heads : List RowHead) (h : RowHead) (marks_room heads_room : ℕ)
    → IsKept k rows marks heads marks_room heads_room → length heads < rows
    → IsKept k rows (marks ++ replicate k mark.None) (heads ++ h ∷ []) marks_room heads_room
kept-begun k rows marks heads h marks_room heads_room kept lt =
    let one_more = length-append heads (h ∷ []) in
    let more_marks = length-append marks (replicate k mark.None) in
    let many = length-replicate k mark.None in
    let long = kept.all_marks in
    let times : (length heads + 1) * k ≡ length heads * k + k = omega (arith, add-mul (length heads) 1 k, one-mul k) in
    let heads_are : length (heads ++ h ∷ []) ≡ length heads + 1 = omega (arith, one_more) in record {
      few_colours = kept.few_colours;
      few_rows = kept.few_rows;
      begun = omega (arith, heads_are, lt);
      all_marks = (let sum : length (marks ++ replicate k mark.None) ≡ length heads * k + k =
          omega (arith, more_marks, many, long) in sum) ∙ (sym times ∙ ap (λ (m : ℕ). m * k) (sym heads_are));
      marks_fit = kept.marks_fit;
      heads_fit = kept.heads_fit;
    }
