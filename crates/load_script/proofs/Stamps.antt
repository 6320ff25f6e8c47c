-- In a run that only appends, syncs and pulls each clock and each floor is 0 or the stamp of an entry.
use Rattle.std.proofs.Common.{Bool, ◌≡◌, ℕ, zero, suc, ◌+◌, ◌<◌, true, false, List, [], ◌∷◌, length, map, take, Some, slice_get, refl, ap, sym, subst, ◌∙◌, ◌⊎◌, inl, inr, arith}
use Rattle.std.specs.Prelude.{not, ◌≢◌, ◌==◌, ◌&&◌, slice_index}
use Rattle.std.specs.List.{All, Contains, list_all, list_any, range_with_len}
use Rattle.std.proofs.lemmas.Bool.{eq-eqb, and_parts}
use Rattle.std.proofs.lemmas.List.{length-map}
use Rattle.std.proofs.lemmas.List.Elements.{All-contains}
use Rattle.log_node.specs.declared.ids.Id.{Id}
use Rattle.log_node.specs.declared.marks.ColourMark.{ColourMark}
use Rattle.log_node.specs.declared.marks.Mark.{Mark}
use Rattle.log_node.specs.declared.marks.Mark.TheVariants as marks
use Rattle.log_node.specs.declared.marks.Why.TheVariants.{Memory, StampEnd}
use Rattle.log_node.specs.declared.marks.Outcome.{Outcome}
use Rattle.log_node.specs.declared.marks.Outcome.TheVariants.{Open, Gone, Final}
use Rattle.log_node.specs.declared.node.Node.{Node}
use Rattle.log_node.specs.Outcomes.{greatest, is_missing, is_stamp_end_fence, is_memory_fence, number_of, outcome_of, final_number}
use Rattle.log_node.specs.Sets.{members}
use Rattle.col_core.specs.declared.Event.{Event}
use Rattle.col_core.specs.declared.Event.TheVariants.{Single, Propose, Settle, Raise, Give, Carry, Trim}
use Rattle.col_core.specs.declared.Entry.{Entry}
use Rattle.col_core.specs.Computed.{dated}
use Rattle.col_core.specs.Cuts.{chain}
use Rattle.col_core.specs.History.{event_number, clock, enters}
use Rattle.col_core.specs.Legal.{IsColumnHistory}
use Rattle.col_core.specs.Log.{Log, first, is_own, places_from, places_of}
use Rattle.col_core.specs.Rows.{BegunRow, FitsRow, FitsRows, FitsMarks, IsMarkOf}
use Rattle.col_core.proofs.CallerLemmas.{In, in_contains, contains_in, in_slice, slice_in, in_filter, choice, apart, same_id-refl}
use Rattle.script_text.specs.declared.script.Command.{Command}
use Rattle.script_text.specs.declared.script.Script.{Script}
use Rattle.script_text.specs.Fitting.{AreBelow, IsWithin, IsFitting}
use Rattle.report_text.specs.declared.report.Answer.{Answer}
use Rattle.report_text.specs.declared.report.Answer.TheVariants as answers
use Rattle.report_text.specs.declared.report.ClientReport.{ClientReport}
use Rattle.report_text.specs.declared.report.ColumnReport.{ColumnReport}
use Rattle.report_text.specs.declared.report.ReplyLine.{ReplyLine}
use Rattle.report_text.specs.declared.report.Report.{Report}
use Rattle.lawful_run.specs.Callers.{caller_of, commands_of}
use Rattle.lawful_run.specs.Columns.{IsColumnReport, IsClientIn, column_numbers}
use Rattle.lawful_run.specs.Lawful.{LawfulRun}
use Rattle.load_script.specs.Plain.{IsPlainWhat, IsPlainScript, IsUnwanting, wants_memory, is_unwanting, found_all}
use Rattle.load_script.proofs.Counts.{in_map, in_map_back, in_range}
use Rattle.load_script.proofs.Traces.{MadeBy, Trace, Holds, trace, of_greatest}
use Rattle.load_script.proofs.Heads.{to_flat_map, in_take, chain_stamps, clock_is}
pub use Rattle.log_node.proofs.CallerLemmas.{get_within as get_there}

every : {A : Type 0} (p : A → Bool) (xs : List A) → list_all p xs ≡ true → (x : A) → In x xs → p x ≡ true
every p [] t x i = absurd i
every {A} p (y ∷ ys) t x (inl e) = subst (λ (z : A). p z ≡ true) e (and_parts (p y) (list_all p ys) t).0
every p (y ∷ ys) t x (inr i) = every p ys (and_parts (p y) (list_all p ys) t).1 x i

-- the places of a client's own events have them
places_there : (client : ℕ) (h : List Entry) (p n : ℕ) (e : Entry) → slice_get h n ≡ Some e
    → ((e.by == client) && is_own client e.event) ≡ true → In (p + n) (places_from p client h)
places_there client [] p n e there own = absurd (let f : ⊥ = cc in f)
places_there client (d ∷ h) p zero e there own =
    let same : d ≡ e = cc in
    choice (λ (l : List ℕ). In (p + 0) l) ((d.by == client) && is_own client d.event) (p ∷ places_from (p + 1) client h)
    (places_from (p + 1) client h) (λ _. inl (omega arith))
    (λ f. absurd (apart ((e.by == client) && is_own client e.event) own
    (subst (λ (x : Entry). ((x.by == client) && is_own client x.event) ≡ false) same f)))
places_there client (d ∷ h) p (suc n) e there own =
    let moved : In (p + suc n) (places_from (p + 1) client h) =
    subst (λ m. In m (places_from (p + 1) client h)) (let g : p + 1 + n ≡ p + suc n = omega arith in g)
    (places_there client h (p + 1) n e there own) in
    choice (λ (l : List ℕ). In (p + suc n) l) ((d.by == client) && is_own client d.event)
    (p ∷ places_from (p + 1) client h)
    (places_from (p + 1) client h) (λ _. inr moved) (λ _. moved)

-- the number of a final outcome is the greatest of the marks' numbers
outcome_final : (all : List Mark) (f : ℕ) → outcome_of all ≡ Final f → greatest (map number_of all) ≡ f
outcome_final all f =
    choice (λ (o : Outcome). o ≡ Final f → greatest (map number_of all) ≡ f) (list_any is_missing all) Open _
    (λ _ e. absurd (let x : ⊥ = cc in x))
    (λ _. choice (λ (o : Outcome). o ≡ Final f → greatest (map number_of all) ≡ f) (list_any is_stamp_end_fence all)
    (Gone StampEnd) _
    (λ _ e. absurd (let x : ⊥ = cc in x))
    (λ _. choice (λ (o : Outcome). o ≡ Final f → greatest (map number_of all) ≡ f) (list_any is_memory_fence all)
    (Gone Memory) _
    (λ _ e. absurd (let x : ⊥ = cc in x)) (λ _ e. let x : greatest (map number_of all) ≡ f = cc in x)))

-- an entry of a column with this stamp
pub record Given (log : Log) (script : Script) (stamp : ℕ) : Type 0 where
  pub region : ℕ
  pub colour : ℕ
  pub in_region : region < script.shape.regions
  pub in_colour : colour < script.shape.colours
  pub place : ℕ
  pub entry : Entry
  pub there : slice_get (log.histories region colour) place ≡ Some entry
  pub id : Id
  pub entered : enters id entry.event ≡ true
  pub is : entry.stamp ≡ stamp

-- 0 or the stamp of an entry
abbrev pub Has : Log → Script → ℕ → Type 0
Has log script stamp = (stamp ≡ 0) ⊎ Given log script stamp

-- an event whose id and floor are fine
abbrev pub IsFine : (ℕ → Type 0) → ℕ → (ℕ → ℕ) → Event → Type 0
IsFine F clients ids (Single id floor wants) = (id.client < clients) × (id.count < ids id.client) × F floor
IsFine F clients ids (Propose id floor wants) = (id.client < clients) × (id.count < ids id.client) × F floor
IsFine F clients ids (Settle id outcome) = Unit {0}
IsFine F clients ids (Raise to) = ⊥
IsFine F clients ids (Give region from) = Unit {0}
IsFine F clients ids (Carry region start heads) = Unit {0}
IsFine F clients ids (Trim counts) = Unit {0}

module _ (script : Script) (report : Report) (fits : IsFitting script) (plain : IsPlainScript script)
    (run : LawfulRun script report)
    (unwanting : IsUnwanting report) where
  abbrev log : Log
  log = run.log

  -- a client with what explains it
  pub client_shown : (n : ℕ) → n < length script.shape.homes → (c : ClientReport) ×
      (slice_get report.clients n ≡ Some c)
  client_shown n lt =
      let long : length report.clients ≡ length script.clients =
      sym (length-map report.clients (λ (c : ClientReport). c.name)) ∙ ap length run.names in
      let same = fits.clients in
      get_there report.clients n (omega (arith, lt, long, same))

  pub commands_plain : (n : ℕ) (c : Command) → In c (commands_of script n)
      → IsPlainWhat c.what × IsWithin script.shape.regions script.shape.colours c.what
  commands_plain n c i =
      let there = contains_in script.commands c (in_filter (λ (x : Command). x.client == n) c script.commands i).0 in (
        All-contains (λ (x : Command). IsPlainWhat x.what) script.commands c plain.plain there,
        All-contains (λ (x : Command). IsWithin script.shape.regions script.shape.colours x.what) script.commands c
            fits.commands there,
      )

  pub replies_unwanting : (n : ℕ) (c : ClientReport) → slice_get report.clients n ≡ Some c → (r : ReplyLine) → In r
      c.replies
      → r.answer ≢ answers.NoMemory
  replies_unwanting n c there r i is =
      let all = every found_all report.clients unwanting c (slice_in report.clients n c there) in
      let one = every is_unwanting c.replies all r i in
      let x : false ≡ true = sym (ap (λ (a : Answer). not (wants_memory a)) is) ∙ one in
      let f : ⊥ = cc in f

  pub home_within : (n : ℕ) → n < length script.shape.homes → slice_index script.shape.homes n < script.shape.regions
  home_within n lt = fits.shape.homes n 0 lt

  -- COLUMNS
  column_of : (r c : ℕ) → r < script.shape.regions → c < script.shape.colours
      → (column : ColumnReport) × Contains report.columns column × (column.region ≡ r) × (column.colour ≡ c)
  column_of r c lr lc =
      let pair : In (r, c) (column_numbers script.shape.regions script.shape.colours) =
      to_flat_map (λ region. map (λ colour. (region, colour)) (range_with_len 0 script.shape.colours))
      (range_with_len 0 script.shape.regions) r (r, c)
      (in_range 0 script.shape.regions r (omega arith) (omega (arith, lr)))
      (in_map (λ colour. (r, colour)) (range_with_len 0 script.shape.colours) c
      (in_range 0 script.shape.colours c (omega arith) (omega (arith, lc)))) in
      let found = in_map_back (λ (x : ColumnReport). (x.region, x.colour)) report.columns (r, c)
      (subst (λ (l : List (ℕ × ℕ)). In (r, c) l) (sym run.columns.all) pair) in (
        found.0,
        contains_in report.columns found.0 found.1,
        ap (λ (p : ℕ × ℕ). p.0) found.2,
        ap (λ (p : ℕ × ℕ). p.1) found.2,
      )

  column_facts : (r c : ℕ) → r < script.shape.regions → c < script.shape.colours
      → IsColumnHistory r script.shape.regions (dated r (log.histories r c))
      × All (λ (e : Entry). e.by < length script.clients) (log.histories r c)
  column_facts r c lr lc =
      let k = column_of r c lr lc in
      let is = All-contains (IsColumnReport log script) report.columns k.0 run.columns.each k.1 in
      let h : k.0.journal ≡ log.histories r c =
      is.history ∙ (ap (λ x. log.histories x k.0.colour) k.2 ∙ ap (λ x. log.histories r x) k.3) in (
        subst (λ (es : List Entry). IsColumnHistory r script.shape.regions (dated r es)) h
            (subst (λ x. IsColumnHistory x script.shape.regions (dated x k.0.journal)) k.2 is.legal),
        subst (λ (es : List Entry). All (λ (e : Entry). e.by < length script.clients) es) h is.makers,
      )

  pub legal : (r c : ℕ) → r < script.shape.regions → c < script.shape.colours
      → IsColumnHistory r script.shape.regions (dated r (log.histories r c))
  legal r c lr lc = (column_facts r c lr lc).0

  -- ROWS
  pub row_owner : (r : ℕ) → r < script.shape.regions → (row : BegunRow) → In row (log.rows r)
      → (row.row.client < length script.shape.homes) × (slice_index script.shape.homes row.row.client ≡ r)
      × FitsRow r row
  row_owner r lr row i =
      let there = contains_in (log.rows r) row i in
      let o = All-contains (λ (x : BegunRow). IsClientIn script r x.row.client) (log.rows r) row
      (run.begun.of_clients r lr) there in
      (o.0, o.1, All-contains (FitsRow r) (log.rows r) row (run.begun.lawful r lr).fit there)

  -- WHAT HOLDS OF EACH CLIENT, for an F that holds of what each client comes to
  module _ (F : ℕ → Type 0) (holds : (n : ℕ) → n < length script.shape.homes
      → Holds F script.shape.colours log (caller_of script n)) where
    pub client_trace : (n : ℕ) (lt : n < length script.shape.homes)
        → Trace F script.shape.colours log (caller_of script n)
        (run.clients n (client_shown n lt).0 (client_shown n lt).1).kept
    client_trace n lt =
        let c = client_shown n lt in
        trace F script.shape.colours log (caller_of script n) (holds n lt) script.shape.regions
        (run.clients n c.0 c.1).explained (commands_plain n) (replies_unwanting n c.0 c.1)

    -- the node of a row
    row_node : (r : ℕ) → r < script.shape.regions → (row : BegunRow) → In row (log.rows r)
        → (row.node.id.client < length script.shape.homes) × (row.node.id.count < length (log.nodes row.node.id.client))
        × AreBelow script.shape.colours row.node.colours × F row.node.floor
    row_node r lr row i =
        let o = row_owner r lr row i in
        let n = row.row.client in
        let c = client_shown n o.0 in
        let k = run.clients n c.0 c.1 in
        let there = k.row_nodes row (subst (λ x. Contains (log.rows x) row) (sym o.1)
        (contains_in (log.rows r) row i)) refl in
        let within = slice_within (log.nodes n) row.node.id.count row.node there in
        let ids = k.nodes in
        let t = (client_trace n o.0).nodes row.node.id.count (omega (arith, within, ids)) in
        let same : Some t.0 ≡ Some row.node = sym t.1 ∙ there in
        let is : t.0 ≡ row.node = cc in
        let client = o.2.client in (
          subst (λ x. x < length script.shape.homes) (sym client) o.0,
          subst (λ x. row.node.id.count < length (log.nodes x)) (sym client) within,
          subst (λ (x : Node). AreBelow script.shape.colours x.colours) is t.2,
          subst (λ (x : Node). F x.floor) is t.3,
        ) where
          slice_within : (xs : List Node) (k : ℕ) (x : Node) → slice_get xs k ≡ Some x → k < length xs
          slice_within [] k x e = absurd (let f : ⊥ = cc in f)
          slice_within (y ∷ xs) zero x e = omega arith
          slice_within (y ∷ xs) (suc k) x e = let l = slice_within xs k x e in omega (arith, l)

    abbrev Fine : Event → Type 0
    Fine = IsFine F (length script.shape.homes) (λ n. length (log.nodes n))

    -- each event is fine
    pub fine : (r c : ℕ) → r < script.shape.regions → c < script.shape.colours → (e : Entry) → In e (log.histories r c)
        → Fine e.event
    fine r c lr lc e i = by_event e.event refl where
      h : List Entry
      h = log.histories r c

      fitting : FitsRows (log.rows r) c e.event
      fitting = All-contains (λ (x : Entry). FitsRows (log.rows r) c x.event) h e ((run.begun.lawful r lr).events c lc)
          (contains_in h e i)

      -- what its maker says of an own event
      made : is_own e.by e.event ≡ true → (lt : e.by < length script.shape.homes)
          × MadeBy F e.by (length (log.nodes e.by)) e.event
      made own =
          let at = in_slice h e i in
          let by = All-contains (λ (x : Entry). x.by < length script.clients) h e (column_facts r c lr lc).1
          (contains_in h e i) in
          let same = fits.clients in
          let lt : e.by < length script.shape.homes = omega (arith, by, same) in
          let k = client_shown e.by lt in
          let place = subst (λ (l : List ℕ). In at.0 l) ((run.clients e.by k.0 k.1).made r c lr lc)
          (subst (λ m. In m (places_of e.by h)) (let g : 0 + at.0 ≡ at.0 = omega arith in g)
          (places_there e.by h 0 at.0 e at.1 (ap (λ b. b && is_own e.by e.event) (eq-eqb e.by e.by refl) ∙ own))) in
          let m = (client_trace e.by lt).made r c at.0 place in
          let two : Some m.0 ≡ Some e = sym m.1 ∙ at.1 in
          let is : m.0 ≡ e = cc in (
            lt,
            subst (λ n. MadeBy F e.by n e.event) (sym (run.clients e.by k.0 k.1).nodes)
                (subst (λ (x : Entry). MadeBy F e.by (run.clients e.by k.0 k.1).kept.ids x.event) is m.2),
          )

      by_event : (ev : Event) → e.event ≡ ev → Fine e.event
      by_event (Single id floor wants) is =
          let m = made (ap (is_own e.by) is) in
          let s : MadeBy F e.by (length (log.nodes e.by)) (Single id floor wants) =
          subst (λ (x : Event). MadeBy F e.by (length (log.nodes e.by)) x) is m.1 in
          subst Fine (sym is) (
            subst (λ n. n < length script.shape.homes) (sym s.0) m.0,
            subst (λ n. id.count < length (log.nodes n))
                (sym s.0) s.1,
            s.2,
          )
      by_event (Propose id floor wants) is =
          let f = subst (FitsRows (log.rows r) c) is fitting in
          let n = row_node r lr f.1 (slice_in (log.rows r) f.0 f.1 f.2) in
          subst Fine (sym is)
          (subst (λ (x : Id). (x.client < length script.shape.homes) × (x.count < length (log.nodes x.client)) × F
          floor) f.3
          (n.0, n.1, subst F f.5 n.3))
      by_event (Settle id outcome) is = subst Fine (sym is) tt
      by_event (Raise to) is = absurd (subst (λ (x : Event). MadeBy F e.by (length (log.nodes e.by)) x) is
          (made (ap (is_own e.by) is)).1)
      by_event (Give region from) is = subst Fine (sym is) tt
      by_event (Carry region start heads) is = subst Fine (sym is) tt
      by_event (Trim counts) is = subst Fine (sym is) tt

  -- STAMPS
  abbrev Any : ℕ → Type 0
  Any n = Unit {0}

  any : (n : ℕ) → n < length script.shape.homes → Holds Any script.shape.colours log (caller_of script n)
  any n lt = record {
    none = tt;
    single = λ colour place e id floor wants l there is. tt;
    final = λ node f r below o. tt;
    played = λ colour events place head l s. tt;
  }

  abbrev pub Stamped : ℕ → Type 0
  Stamped n = Has log script n

  given : (r c place : ℕ) (e : Entry) (id : Id) → r < script.shape.regions → c < script.shape.colours
      → slice_get (log.histories r c) place ≡ Some e → enters id e.event ≡ true → Stamped e.stamp
  given r c place e id lr lc there into = inr (record {
    region = r;
    colour = c;
    in_region = lr;
    in_colour = lc;
    place = place;
    entry = e;
    there = there;
    id = id;
    entered = into;
    is = refl;
  })

  -- the number of a mark
  marked : (r : ℕ) → r < script.shape.regions → (node : Node) (colour : ℕ) → colour < script.shape.colours →
      (mark : Mark)
      → IsMarkOf (log.histories r colour) node mark → Stamped (number_of mark)
  marked r lr node colour lc marks.None m = inl refl
  marked r lr node colour lc (marks.Number s) m =
      subst Stamped m.6 (given r colour m.0 m.1 node.id lr lc m.4 (ap (enters node.id) m.5 ∙ same_id-refl node.id))
  marked r lr node colour lc (marks.Fenced why) m = inl refl

  -- the final number of a row
  row_final : (r : ℕ) → r < script.shape.regions → (row : BegunRow) → In row (log.rows r) → (f : ℕ) → row.last ≡ Final f
      → Stamped f
  row_final r lr row i f is =
      let l = run.begun.lawful r lr in
      let there = contains_in (log.rows r) row i in
      let o = All-contains (λ (x : BegunRow). FitsMarks (map (λ (m : ColourMark). m.mark) x.marks) x.last)
      (log.rows r) row l.outcomes there in
      let e = outcome_final (map (λ (m : ColourMark). m.mark) row.marks) f
      (subst (FitsMarks (map (λ (m : ColourMark). m.mark) row.marks)) is o) in
      let fit = (row_owner r lr row i).2 in
      let below = (row_node Any any r lr row i).2 in
      let marks' = All-contains (λ (x : BegunRow). All (λ (m : ColourMark). IsMarkOf (log.histories r m.colour)
      x.node m.mark) x.marks)
      (log.rows r) row l.marks there in
      subst Stamped e (of_greatest Stamped (inl refl) (map number_of (map (λ (m : ColourMark). m.mark) row.marks))
      (λ n j.
      let a = in_map_back number_of (map (λ (m : ColourMark). m.mark) row.marks) n j in
      let b = in_map_back (λ (m : ColourMark). m.mark) row.marks a.0 a.1 in
      let colour : In b.0.colour (members row.node.colours) =
      subst (λ (cs : List ℕ). In b.0.colour cs) fit.a_mark_each
      (in_map (λ (m : ColourMark). m.colour) row.marks b.0 b.1) in
      let lc = All-contains (λ c. c < script.shape.colours) (members row.node.colours) b.0.colour below
      (contains_in (members row.node.colours) b.0.colour colour) in
      subst Stamped (ap number_of b.2 ∙ a.2)
      (marked r lr row.node b.0.colour lc b.0.mark
      (All-contains (λ (m : ColourMark). IsMarkOf (log.histories r m.colour) row.node m.mark) row.marks b.0 marks'
      (contains_in row.marks b.0 b.1)))))

  -- the number to which an event raises the clock
  pub event_stamped : (r c : ℕ) → r < script.shape.regions → c < script.shape.colours → (e : Entry) → In e
      (log.histories r c)
      → Stamped (event_number e.event e.stamp)
  event_stamped r c lr lc e i = by_event e.event refl where
    h : List Entry
    h = log.histories r c

    settled : (o : Outcome) → (row : BegunRow) → In row (log.rows r) → row.last ≡ o → Stamped (final_number o)
    settled Open row j is = inl refl
    settled (Gone why) row j is = inl refl
    settled (Final f) row j is = row_final r lr row j f is

    back : (ev : Event) → e.event ≡ ev → Stamped (event_number ev e.stamp) → Stamped (event_number e.event e.stamp)
    back ev is s = subst (λ (x : Event). Stamped (event_number x e.stamp)) (sym is) s

    by_event : (ev : Event) → e.event ≡ ev → Stamped (event_number e.event e.stamp)
    by_event (Single id floor wants) is =
        let at = in_slice h e i in back _ is (given r c at.0 e id lr lc at.1 (ap (enters id) is ∙ same_id-refl id))
    by_event (Propose id floor wants) is =
        let at = in_slice h e i in back _ is (given r c at.0 e id lr lc at.1 (ap (enters id) is ∙ same_id-refl id))
    by_event (Settle id outcome) is =
        let f = subst (FitsRows (log.rows r) c) is
        (All-contains (λ (x : Entry). FitsRows (log.rows r) c x.event) h e ((run.begun.lawful r lr).events c lc)
        (contains_in h e i)) in
        back _ is (settled outcome f.1 (slice_in (log.rows r) f.0 f.1 f.2) f.4)
    by_event (Raise to) is =
        absurd (subst (IsFine Any (length script.shape.homes) (λ n. length (log.nodes n))) is
        (fine Any any r c lr lc e i))
    by_event (Give region from) is = back _ is (inl refl)
    by_event (Carry region start heads) is = back _ is (inl refl)
    by_event (Trim counts) is = back _ is (inl refl)

  -- what each client comes to is stamped
  pub stamped : (n : ℕ) → n < length script.shape.homes → Holds Stamped script.shape.colours log (caller_of script n)
  stamped n lt =
      let lr = home_within n lt in
      let own = slice_index script.shape.homes n in record {
        none = inl refl;
        single = λ colour place e id floor wants lc there is.
            given own colour place e id lr lc there (ap (enters id) is ∙ same_id-refl id);
        final = λ node f same below o.
            row_final own lr o.0 (in_contains (log.rows own) o.0
            (subst (λ r. Contains (log.rows r) o.0) same o.1.begun)) f o.2;
        played = λ colour events place head lc s.
            chain_stamps Stamped script.shape.regions (λ r. log.histories r colour) (λ r l. legal r colour l lc)
            (run.copies colour lc) (λ r l e i. event_stamped r colour l lc e i) own events place.region lr head
            (slice_in (chain own (first log own colour events) place.region) place.position head s);
      }

  -- each clock is
  pub clock_stamped : (r c events : ℕ) → r < script.shape.regions → c < script.shape.colours
      → Stamped (clock (take events (log.histories r c)))
  clock_stamped r c events lr lc =
      clock_is Stamped (inl refl) (take events (log.histories r c))
      (λ e i. event_stamped r c lr lc e (in_take events (log.histories r c) e i))
