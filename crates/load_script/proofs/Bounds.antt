-- In a run that only appends, syncs and pulls no stamp is above the number of entries, so that the stamps never end.
use Rattle.std.proofs.Common.{◌≡◌, ℕ, zero, suc, ◌+◌, ◌*◌, ◌^◌, ◌<◌, ◌≤◌, max, Bool, true, false, cond, List, [], ◌∷◌, length, take, Option, Some, None, slice_get, refl, ap, sym, subst, ◌∙◌, ◌⊎◌, inl, inr, arith, length-append}
use Rattle.std.specs.Prelude.{◌≢◌, ◌==◌}
use Rattle.std.specs.List.{range_with_len, filter}
use Rattle.std.proofs.lemmas.Bool.{cases_lt, true≢false}
use Rattle.std.proofs.lemmas.List.{take-map}
use Rattle.log_node.specs.declared.ids.Id.{Id}
use Rattle.log_node.specs.declared.ids.Counts.{Counts}
use Rattle.log_node.specs.declared.node.At.{At}
use Rattle.log_node.specs.declared.node.At.TheVariants as ats
use Rattle.col_core.specs.declared.Event.{Event}
use Rattle.col_core.specs.declared.Event.TheVariants.{Single, Propose, Settle, Raise, Give, Carry, Trim}
use Rattle.col_core.specs.declared.Entry.{Entry}
use Rattle.col_core.specs.Computed.{dated}
use Rattle.col_core.specs.Cuts.{Dated, entries_of}
use Rattle.col_core.specs.History.{clock, enters}
use Rattle.col_core.specs.Keeping.{Kept, kept_after_event}
use Rattle.col_core.specs.Legal.{IsColumnHistory, IsLawfulEvent, MayEnter}
use Rattle.col_core.specs.Log.{Log}
use Rattle.col_core.proofs.CallerLemmas.{In, slice_in, in_left, in_right, same_id-true, dated-is_dated}
use Rattle.script_text.specs.declared.commands.What.{What}
use Rattle.script_text.specs.declared.script.Command.{Command}
use Rattle.script_text.specs.declared.script.Script.{Script}
use Rattle.script_text.specs.Fitting.{IsFitting}
use Rattle.report_text.specs.declared.report.Answer.{Answer}
use Rattle.report_text.specs.declared.report.Answer.TheVariants as answers
use Rattle.report_text.specs.declared.report.PointPiece.{PointPiece}
use Rattle.report_text.specs.declared.report.ReplyLine.{ReplyLine}
use Rattle.report_text.specs.declared.report.Report.{Report}
use Rattle.lawful_run.specs.Callers.{Caller, node_of}
use Rattle.lawful_run.specs.Appends.{Appends, HasNoStamp, none_for_one, none_for_several}
use Rattle.lawful_run.specs.Moves.{with_places}
use Rattle.lawful_run.specs.Reads.{kept_after_place}
use Rattle.lawful_run.specs.Explains.{Explained, start, next}
use Rattle.lawful_run.specs.Lawful.{LawfulRun}
use Rattle.lawful_run.proofs.CallerLemmas.{points_leave}
use Rattle.load_script.specs.Plain.{IsPlainWhat, IsPlainScript, IsUnwanting}
use Rattle.load_script.proofs.Counts.{Distinct, few, pairs, in_pairs, length_pairs, two, four, eight, length_range, in_range}
use Rattle.load_script.proofs.Answers.{Comes, stood, without_stamp, full, synced, pulled, unchanged, answer_comes}
use Rattle.load_script.proofs.Traces.{either}
use Rattle.load_script.proofs.Stamps.{Given, Has, IsFine, client_shown, commands_plain, replies_unwanting, legal, fine, stamped, clock_stamped}
use Rattle.col_core.proofs.CallerLemmas.{any_in}
pub use Rattle.log_node.proofs.CallerLemmas.{get_map_back}

-- IDS
-- an event or a look leaves the ids and the rows
pub place_same : (kept : Kept) (region colour : ℕ) (at : At) → ((kept_after_place kept region colour at).ids ≡ kept.ids)
    × ((kept_after_place kept region colour at).rows ≡ kept.rows)
place_same kept region colour (ats.Event place) = (refl, refl)
place_same kept region colour (ats.Look events) = (refl, refl)

-- a command uses one id at most
ids_step : (log : Log) (caller : Caller) (kept : Kept) (what : What) (answer : Answer) (after : Kept)
    → Comes log caller kept what answer after → after.ids ≤ kept.ids + 1
ids_step log caller kept what answer after (stood set text stamp row points is tells a) = of row points a where
  of : (row : Option ℕ) (points : List PointPiece) → Appends log caller kept (node_of caller kept set text) stamp row
      points after
      → after.ids ≤ kept.ids + 1
  of None [] a = absurd a
  of None (p ∷ []) a = let e = ap (λ (k : Kept). k.ids) a.4 in omega (arith, e)
  of None (p ∷ q ∷ points) a = absurd a
  of (Some number) points a =
      let e = ap (λ (k : Kept). k.ids) a.3 in
      let s = (points_leave caller.own kept points).ids in
      omega (arith, e, s)
ids_step log caller kept what answer after (without_stamp set text colour is h) = of after h where
  of : (after : Kept) → HasNoStamp log caller kept (node_of caller kept set text) colour after → after.ids ≤ kept.ids
      + 1
  of _ (none_for_one only h) = omega arith
  of _ (none_for_several places g) = omega arith
ids_step log caller kept what answer after (full set text used is same f) =
    let e = ap (λ (k : Kept). k.ids) same in omega (arith, e)
ids_step log caller kept what answer after (synced colour events snapshot nodes is tells s shows same) =
    let e = ap (λ (k : Kept). k.ids) same in omega (arith, e)
ids_step log caller kept what answer after (pulled region colour count place carry too_low is tells p same) =
    let e = ap (λ (k : Kept). k.ids) same in
    let p = (place_same (kept_after_event (with_places kept region colour too_low) region colour place) caller.own
    colour carry).0 in
    omega (arith, e, p)
ids_step log caller kept what answer after (unchanged none tells same) =
    let e = ap (λ (k : Kept). k.ids) same in omega (arith, e)

ids_few : {log : Log} {caller : Caller} {commands : List Command} {replies : List ReplyLine} {kept : Kept}
    → Explained log caller commands replies kept → ((c : Command) → In c commands → IsPlainWhat c.what)
    → ((r : ReplyLine) → In r replies → r.answer ≢ answers.NoMemory) → kept.ids ≤ length commands
ids_few start plain memory = omega arith
ids_few {log} {caller} (next {commands} {replies} {kept} {after} command reply e a) plain memory =
    let b = ids_few e (λ c i. plain c (in_left c commands (command ∷ []) i))
    (λ r i. memory r (in_left r replies (reply ∷ []) i)) in
    let s = ids_step log caller kept command.what reply.answer after
    (answer_comes log caller kept command reply after (plain command
    (in_right command commands (command ∷ []) (inl refl)))
    (memory reply (in_right reply replies (reply ∷ []) (inl refl))) a) in
    let l = length-append commands (command ∷ []) in
    omega (arith, b, s, l)

-- ENTRIES
in_taken : {A : Type 0} (xs : List A) (n m : ℕ) (x : A) → slice_get xs n ≡ Some x → n < m → In x (take m xs)
in_taken [] n m x e lt = absurd (let f : ⊥ = cc in f)
in_taken (y ∷ ys) n zero x e lt = absurd (let f : ⊥ = omega (arith, lt) in f)
in_taken (y ∷ ys) zero (suc m) x e lt = inl (let f : y ≡ x = cc in f)
in_taken (y ∷ ys) (suc n) (suc m) x e lt = inr (in_taken ys n m x e (omega (arith, lt)))

pub filtered : {A : Type 0} (p : A → Bool) (xs : List A) → length (filter p xs) ≤ length xs
filtered p [] = omega arith
filtered p (x ∷ xs) = let r = filtered p xs in of (p x) r where
  of : (b : Bool) → length (filter p xs) ≤ length xs → length (cond b (x ∷ filter p xs) (filter p xs)) ≤ length (x ∷ xs)
  of true r = omega (arith, r)
  of false r = omega (arith, r)

module _ (own regions : ℕ) (h : List Entry) (lawful : IsColumnHistory own regions (dated own h)) where
  -- how an event came that enters an id
  may_enter : (n : ℕ) (e : Entry) (id : Id) → slice_get h n ≡ Some e → enters id e.event ≡ true
      → (floor : ℕ) × (wants : Counts) × ((e.event ≡ Single id floor wants) ⊎ (e.event ≡ Propose id floor wants))
      × MayEnter (take n h) id floor e.stamp
  may_enter n e id there into = by_event e.event refl where
    d : (d : Dated) × (slice_get (dated own h) n ≡ Some d) × (d.entry ≡ e)
    d = get_map_back (λ (x : Dated). x.entry) (dated own h) n e
        (subst (λ (es : List Entry). slice_get es n ≡ Some e) (sym (dated-is_dated own h).same) there)

    before : entries_of (take n (dated own h)) ≡ take n h
    before = sym (take-map (λ (x : Dated). x.entry) n (dated own h)) ∙ ap (take n) (dated-is_dated own h).same

    event : IsLawfulEvent own regions (take n (dated own h)) e.event e.stamp
    event = subst (λ (x : Entry). IsLawfulEvent own regions (take n (dated own h)) x.event x.stamp) d.2
        (lawful n d.0 d.1)

    -- of the same id, after the events of the history
    moved : (other : Id) (floor : ℕ) → id ≡ other → MayEnter (entries_of (take n (dated own h))) other floor e.stamp
        → MayEnter (take n h) id floor e.stamp
    moved other floor same m =
        subst (λ (es : List Entry). MayEnter es id floor e.stamp) before
        (subst (λ (i : Id). MayEnter (entries_of (take n (dated own h))) i floor e.stamp) (sym same) m)

    lawful_by : (ev : Event) → e.event ≡ ev → IsLawfulEvent own regions (take n (dated own h)) ev e.stamp
    lawful_by ev is = subst (λ (x : Event). IsLawfulEvent own regions (take n (dated own h)) x e.stamp) is event

    by_event : (ev : Event) → e.event ≡ ev
        → (floor : ℕ) × (wants : Counts) × ((e.event ≡ Single id floor wants) ⊎ (e.event ≡ Propose id floor wants))
        × MayEnter (take n h) id floor e.stamp
    by_event (Single other floor wants) is =
        let same = same_id-true id other (sym (ap (enters id) is) ∙ into) in (
          floor,
          wants,
          inl (is ∙ ap (λ (i : Id). Single i floor wants) (sym same)),
          moved other floor same (lawful_by (Single other floor wants) is),
        )
    by_event (Propose other floor wants) is =
        let same = same_id-true id other (sym (ap (enters id) is) ∙ into) in (
          floor,
          wants,
          inr (is ∙ ap (λ (i : Id). Propose i floor wants) (sym same)),
          moved other floor same (lawful_by (Propose other floor wants) is),
        )
    by_event (Settle other outcome) is = absurd (true≢false (sym into ∙ ap (enters id) is))
    by_event (Raise to) is = absurd (true≢false (sym into ∙ ap (enters id) is))
    by_event (Give region from) is = absurd (true≢false (sym into ∙ ap (enters id) is))
    by_event (Carry region held heads) is = absurd (true≢false (sym into ∙ ap (enters id) is))
    by_event (Trim counts) is = absurd (true≢false (sym into ∙ ap (enters id) is))

  not_later : (n m : ℕ) (e f : Entry) (id : Id) → slice_get h n ≡ Some e → slice_get h m ≡ Some f
      → enters id e.event ≡ true → enters id f.event ≡ true → n < m → ⊥
  not_later n m e f id there there' into into' lt =
      let w = may_enter m f id there' into' in
      true≢false (sym (any_in (λ (x : Entry). enters id x.event) (take m h) e (in_taken h n m e there lt) into) ∙
      w.3.fresh)

  -- an id enters once
  once : (n m : ℕ) (e f : Entry) (id : Id) → slice_get h n ≡ Some e → slice_get h m ≡ Some f
      → enters id e.event ≡ true → enters id f.event ≡ true → e.stamp ≡ f.stamp
  once n m e f id there there' into into' = elim (cases_lt n m) [
    | inl lt ↦ absurd (not_later n m e f id there there' into into' lt)
    | inr ge ↦ elim (cases_lt m n) [
      | inl lt ↦ absurd (not_later m n f e id there' there into' into lt)
      | inr le ↦
          let at : n ≡ m = omega (arith, ge, le) in
          let two : Some e ≡ Some f = sym there ∙ (ap (slice_get h) at ∙ there') in
          let is : e ≡ f = cc in
          ap (λ (x : Entry). x.stamp) is
    ]
  ]

-- at most two regions, four colours and eight clients, as a load has
pub record IsLoadSized (script : Script) : Type 0 where
  pub regions : script.shape.regions ≤ 2
  pub colours : script.shape.colours ≤ 4
  pub clients : length script.shape.homes ≤ 8

-- a place for an entry: its region, its colour, its client and the client's count
abbrev Slot : Type 0
Slot = ℕ × (ℕ × (ℕ × ℕ))

module _ (script : Script) (report : Report) (fits : IsFitting script) (plain : IsPlainScript script)
    (sized : IsLoadSized script) (run : LawfulRun script report)
    (unwanting : IsUnwanting report) where
  abbrev log : Log
  log = run.log

  abbrev IsGiven : ℕ → Type 0
  IsGiven s = Given log script s

  abbrev Fine : Event → Type 0
  Fine = IsFine (Has log script) (length script.shape.homes) (λ n. length (log.nodes n))

  -- How an entry came: its client has used its id, and its stamp is above its column's clock and a floor that is 0 or a
  -- stamp.
  record Entering (s : ℕ) (g : IsGiven s) : Type 0 where
    floor : ℕ
    client : g.id.client < length script.shape.homes
    count : g.id.count < length (log.nodes g.id.client)
    given : Has log script floor
    may : MayEnter (take g.place (log.histories g.region g.colour)) g.id floor g.entry.stamp

  entering : (s : ℕ) (g : IsGiven s) → Entering s g
  entering s g =
      let w = may_enter g.region script.shape.regions (log.histories g.region g.colour)
      (legal script report fits plain run unwanting g.region g.colour g.in_region g.in_colour) g.place g.entry g.id
      g.there g.entered in
      of w.0 w.1 w.2 w.3 where
        here : Fine g.entry.event
        here = fine script report fits plain run unwanting (Has log script)
            (stamped script report fits plain run unwanting)
            g.region g.colour g.in_region g.in_colour g.entry
            (slice_in (log.histories g.region g.colour) g.place g.entry g.there)

        made : (floor : ℕ) → (g.id.client < length script.shape.homes) ×
            (g.id.count < length (log.nodes g.id.client)) × Has log script floor
            → MayEnter (take g.place (log.histories g.region g.colour)) g.id floor g.entry.stamp → Entering s g
        made floor f m = record { floor = floor; client = f.0; count = f.1; given = f.2; may = m }

        of : (floor : ℕ) (wants : Counts) → (g.entry.event ≡ Single g.id floor wants) ⊎
            (g.entry.event ≡ Propose g.id floor wants)
            → MayEnter (take g.place (log.histories g.region g.colour)) g.id floor g.entry.stamp → Entering s g
        of floor wants (inl is) m = made floor (subst Fine is here) m
        of floor wants (inr is) m = made floor (subst Fine is here) m

  -- below a stamp stands the stamp before, or 0
  descent : (s : ℕ) → IsGiven s → (t : ℕ) × (s ≡ t + 1) × Has log script t
  descent s g =
      let before = clock (take g.place (log.histories g.region g.colour)) in
      let e = entering s g in (
        max before e.floor,
        sym g.is ∙ e.may.stamped,
        either (Has log script) before e.floor
            (clock_stamped script report fits plain run unwanting g.region g.colour g.place g.in_region g.in_colour)
            e.given,
      )

  abbrev Filled : ℕ → Slot → Type 0
  Filled s x = (t : ℕ) × (t ≤ s) × (g : IsGiven t) × ((g.region, (g.colour, (g.id.client, g.id.count))) ≡ x)

  one_stamp : (s t : ℕ) (g : IsGiven s) (k : IsGiven t) → g.region ≡ k.region → g.colour ≡ k.colour → g.id ≡ k.id → s
      ≡ t
  one_stamp s t g k r c i =
      let h = log.histories k.region k.colour in
      let there : slice_get h g.place ≡ Some g.entry =
      subst (λ x. slice_get (log.histories k.region x) g.place ≡ Some g.entry) c
      (subst (λ x. slice_get (log.histories x g.colour) g.place ≡ Some g.entry) r g.there) in
      sym g.is ∙ (once k.region script.shape.regions h
      (legal script report fits plain run unwanting k.region k.colour k.in_region k.in_colour) g.place k.place
      g.entry k.entry k.id
      there k.there (subst (λ (x : Id). enters x g.entry.event ≡ true) i g.entered) k.entered ∙ k.is)

  -- as many slots as the stamp says
  chain : (s : ℕ) → Has log script s → (xs : List Slot) × (length xs ≡ s) × Distinct xs ×
      ((x : Slot) → In x xs → Filled s x)
  chain zero h = ([], refl, tt, λ x i. absurd i)
  chain (suc n) (inl e) = absurd (let f : ⊥ = omega (arith, e) in f)
  chain (suc n) (inr g) = more (descent (suc n) g) (chain n) where
    more : (t : ℕ) × (suc n ≡ t + 1) × Has log script t
        → (Has log script n → (xs : List Slot) × (length xs ≡ n) × Distinct xs × ((x : Slot) → In x xs → Filled n x))
        → (xs : List Slot) × (length xs ≡ suc n) × Distinct xs × ((x : Slot) → In x xs → Filled (suc n) x)
    more d rest =
        let e = d.1 in
        let c = rest (subst (Has log script) (let f : d.0 ≡ n = omega (arith, e) in f) d.2) in
        let here : Slot = (g.region, (g.colour, (g.id.client, g.id.count))) in (
          here ∷ c.0,
          ap suc c.1,
          (again c.0 c.3, c.2),
          λ x i. elim i [
            | inl same ↦ (suc n, omega arith, g, same)
            | inr j ↦ let f = c.3 x j in let le = f.1 in (f.0, omega (arith, le), f.2, f.3)
          ],
        ) where
          again : (xs : List Slot) → ((x : Slot) → In x xs → Filled n x)
              → In {A = Slot} (g.region, (g.colour, (g.id.client, g.id.count))) xs → ⊥
          again xs filled i =
              let f = filled (g.region, (g.colour, (g.id.client, g.id.count))) i in
              let k = f.2 in
              let r : k.region ≡ g.region = ap (λ (x : Slot). x.0) f.3 in
              let l : k.colour ≡ g.colour = ap (λ (x : Slot). x.1.0) f.3 in
              let a : k.id.client ≡ g.id.client = ap (λ (x : Slot). x.1.1.0) f.3 in
              let b : k.id.count ≡ g.id.count = ap (λ (x : Slot). x.1.1.1) f.3 in
              let id : k.id ≡ g.id =
              ap (λ (x : ℕ). let i : Id = record { client = x; count = k.id.count } in i) a
              ∙ ap (λ (x : ℕ). let i : Id = record { client = g.id.client; count = x } in i) b in
              let s = one_stamp f.0 (suc n) k g r l id in
              let le = f.1 in
              omega (arith, s, le)

  -- how many ids a client has used
  nodes_few : (n : ℕ) → n < length script.shape.homes → length (log.nodes n) ≤ length script.commands
  nodes_few n lt =
      let c = client_shown script report fits plain run unwanting n lt in
      let k = run.clients n c.0 c.1 in
      let b = ids_few k.explained (λ x i. (commands_plain script report fits plain run unwanting n x i).0)
      (replies_unwanting script report fits plain run unwanting n c.0 c.1) in
      let f = filtered (λ (x : Command). x.client == n) script.commands in
      let s = k.nodes in
      omega (arith, b, f, s)

  -- the places that there are
  space : List Slot
  space = pairs (range_with_len 0 2) (pairs (range_with_len 0 4)
      (pairs (range_with_len 0 8) (range_with_len 0 (length script.commands))))

  in_space : (s : ℕ) (g : IsGiven s) → In {A = Slot} (g.region, (g.colour, (g.id.client, g.id.count))) space
  unfolding space
  in_space s g =
      let e = entering s g in
      let client = e.client in
      let count = e.count in
      let many = nodes_few g.id.client client in
      let r = g.in_region in
      let c = g.in_colour in
      in_pairs (range_with_len 0 2) (pairs (range_with_len 0 4)
      (pairs (range_with_len 0 8) (range_with_len 0 (length script.commands))))
      g.region (g.colour, (g.id.client, g.id.count)) (in_range 0 2 g.region (omega arith) (omega (arith, r, sized.regions)))
      (in_pairs (range_with_len 0 4) (pairs (range_with_len 0 8) (range_with_len 0 (length script.commands)))
      g.colour (g.id.client, g.id.count) (in_range 0 4 g.colour (omega arith) (omega (arith, c, sized.colours)))
      (in_pairs (range_with_len 0 8) (range_with_len 0 (length script.commands)) g.id.client g.id.count
      (in_range 0 8 g.id.client (omega arith) (omega (arith, client, sized.clients)))
      (in_range 0 (length script.commands) g.id.count (omega arith) (omega (arith, count, many)))))

  length_space : length space ≡ 2 * (4 * (8 * length script.commands))
  unfolding space
  length_space =
      let m = range_with_len 0 (length script.commands) in
      let k = pairs (range_with_len 0 8) m in
      let c = pairs (range_with_len 0 4) k in
      length_pairs (range_with_len 0 2) c
      ∙ (two (length c) ∙ ap (λ n. 2 * n)
      (length_pairs (range_with_len 0 4) k ∙ (four (length k)
      ∙ ap (λ n. 4 * n) (length_pairs (range_with_len 0 8) m ∙ (eight (length m) ∙ ap (λ n. 8 * n)
      (length_range 0 (length script.commands)))))))

  -- no stamp is above the number of entries that there may be
  pub bounded : (s : ℕ) → Has log script s → s < 2 ^ 26
  bounded s h =
      let c = chain s h in
      let n = c.1 in
      let f = few c.0 space c.2 (λ x i. let g = c.3 x i in subst (λ (y : Slot). In y space) g.3 (in_space g.0 g.2)) in
      let l = length_space in
      let m = fits.few in
      omega (arith, n, f, l, m)
