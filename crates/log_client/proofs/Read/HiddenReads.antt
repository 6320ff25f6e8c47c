-- A stamped read of which no answer tells, or only a part.
use Rattle.std.proofs.Common.{◌≡◌, ◌≢◌, ◌⊎◌, inl, inr, ℕ, ◌+◌, ◌≤◌, max, Bool, cond, true, false, List, [], ◌∷◌, ◌++◌, length, map, take, refl, ap, sym, subst, ◌∙◌, arith, eq-eqb, append-nil, append_assoc}
use Rattle.std.specs.Prelude.{◌==◌}
use Rattle.std.specs.List.{All, Contains}
use Rattle.std.proofs.lemmas.Bool.{cases_eq, ne_eqb, eqb-true}
use Rattle.std.proofs.lemmas.List.Elements.{All-cons, All-nil}
use Rattle.log_node.specs.declared.ids.Counts.{Counts}
use Rattle.log_node.specs.declared.node.At.{At}
use Rattle.log_node.specs.declared.node.At.TheVariants.{Event, Look}
use Rattle.log_node.specs.Vectors.{at, IsWithin}
use Rattle.col_core.specs.declared.Entry.{Entry}
use Rattle.col_core.specs.Cuts.{chain, base as base_of}
use Rattle.col_core.specs.Computed.{dated}
use Rattle.col_core.specs.PlayOrder.{greatest_between}
use Rattle.col_core.specs.RegionOrder.{IsClearUpTo}
use Rattle.col_core.specs.Log.{Log, IsLater, first}
use Rattle.col_core.specs.Keeping.{Kept, updated, seen_past, kept_after_sync}
use Rattle.col_core.proofs.CallerLemmas.{In, by_test, if_true, if_false}
use Rattle.report_text.specs.declared.report.RaisePiece.{RaisePiece}
use Rattle.lawful_run.specs.Callers.{Caller}
use Rattle.lawful_run.specs.Reads.{Syncs, RaisesClock, Raises, ClearSyncs, kept_after_place, greatest_played, HidesSync, HidesSyncs, played as plays}
use Rattle.lawful_run.proofs.CallerLemmas.{prefix_take, syncs_later}
use Rattle.client_law.proofs.CallerLemmas.{at_new_at}
use Rattle.log_client.specs.Reading.{Playing, AreSyncs, kept_raised, kept_synced, syncs_of, synced_colours}
use Rattle.log_client.specs.StampedReads.{sync_piece}
pub use Rattle.col_core.proofs.CallerLemmas.{all_in as all_from}

-- WHAT RAISES MADE

-- the place of an event, and none of a look
abbrev pub place_of : At → List ℕ
place_of (Event place) = place ∷ []
place_of (Look events) = []

-- the places of the events by which a colour was raised
abbrev pub events_at : ℕ → List RaisePiece → List ℕ
events_at colour [] = []
events_at colour (raise ∷ raises) =
    cond (colour == raise.colour) (place_of raise.at ++ events_at colour raises) (events_at colour raises)

-- what raises leave as it was
pub record SameButSeen (kept after : Kept) : Type 0 where
  pub floor : after.floor ≡ kept.floor
  pub starts : after.starts ≡ kept.starts
  pub known : after.known ≡ kept.known
  pub ids : after.ids ≡ kept.ids
  pub rows : after.rows ≡ kept.rows

placed_same : (kept : Kept) (own colour : ℕ) (at : At) → SameButSeen kept (kept_after_place kept own colour at)
placed_same kept own colour (Event place) =
    record { floor = refl; starts = refl; known = refl; ids = refl; rows = refl }
placed_same kept own colour (Look events) =
    record { floor = refl; starts = refl; known = refl; ids = refl; rows = refl }

pub raised_same : (own : ℕ) (raises : List RaisePiece) (kept : Kept) → SameButSeen kept (kept_raised own raises kept)
raised_same own [] kept = record { floor = refl; starts = refl; known = refl; ids = refl; rows = refl }
raised_same own (raise ∷ raises) kept =
    let a = placed_same kept own raise.colour raise.at in
    let b = raised_same own raises (kept_after_place kept own raise.colour raise.at) in record {
      floor = b.floor ∙ a.floor;
      starts = b.starts ∙ a.starts;
      known = b.known ∙ a.known;
      ids = b.ids ∙ a.ids;
      rows = b.rows ∙ a.rows;
    }

-- the places that are kept as made
placed_here : (kept : Kept) (own colour : ℕ) (at : At) (c : ℕ)
    → (kept_after_place kept own colour at).made own c
    ≡ cond (c == colour) (kept.made own c ++ place_of at) (kept.made own c)
placed_here kept own colour (Event place) c =
    at_new_at (λ (l : List ℕ). l ≡ cond (c == colour) (kept.made own c ++ place ∷ []) (kept.made own c)) kept.made own colour
    (kept.made own colour ++ place ∷ []) own c
    (λ _ e. ap (λ (n : ℕ). kept.made own n ++ place ∷ []) (sym e)
    ∙ sym (if_true (c == colour) (kept.made own c ++ place ∷ []) (kept.made own c) (eq-eqb c colour e)))
    (λ ne. sym (if_false (c == colour) (kept.made own c ++ place ∷ []) (kept.made own c) (ne_eqb c colour (away ne)))) where
      away : (own ≢ own) ⊎ (c ≢ colour) → c ≢ colour
      away (inl ne) = absurd (ne refl)
      away (inr ne) = ne
placed_here kept own colour (Look events) c =
    by_test _ (c == colour)
    (λ t. sym (if_true (c == colour) (kept.made own c ++ []) (kept.made own c) t ∙ append-nil (kept.made own c)))
    (λ f. sym (if_false (c == colour) (kept.made own c ++ []) (kept.made own c) f))

placed_away : (kept : Kept) (own colour : ℕ) (at : At) (r c : ℕ) → r ≢ own
    → (kept_after_place kept own colour at).made r c ≡ kept.made r c
placed_away kept own colour (Event place) r c ne =
    at_new_at (λ (l : List ℕ). l ≡ kept.made r c) kept.made own colour (kept.made own colour ++ place ∷ []) r c
    (λ e _. absurd (ne e)) (λ _. refl)
placed_away kept own colour (Look events) r c ne = refl

pub raised_here : (own : ℕ) (raises : List RaisePiece) (kept : Kept) (c : ℕ)
    → (kept_raised own raises kept).made own c ≡ kept.made own c ++ events_at c raises
raised_here own [] kept c = sym (append-nil (kept.made own c))
raised_here own (raise ∷ raises) kept c =
    raised_here own raises (kept_after_place kept own raise.colour raise.at) c
    ∙ (ap (λ (l : List ℕ). l ++ events_at c raises) (placed_here kept own raise.colour raise.at c)
    ∙ joined (c == raise.colour) (kept.made own c) (place_of raise.at) (events_at c raises)) where
      joined : (b : Bool) (made one more : List ℕ) → cond b (made ++ one) made ++ more ≡ made ++ cond b (one ++ more) more
      joined true made one more = append_assoc made one more
      joined false made one more = refl

pub raised_away : (own : ℕ) (raises : List RaisePiece) (kept : Kept) (r c : ℕ) → r ≢ own
    → (kept_raised own raises kept).made r c ≡ kept.made r c
raised_away own [] kept r c ne = refl
raised_away own (raise ∷ raises) kept r c ne =
    raised_away own raises (kept_after_place kept own raise.colour raise.at) r c ne
    ∙ placed_away kept own raise.colour raise.at r c ne

-- EACH RAISE BY ITSELF

-- what was seen of the region, and is known to stand, is no more
record Begins (own : ℕ) (base kept : Kept) : Type 0 where
  pub seen : (c : ℕ) → base.seen own c ≤ kept.seen own c
  pub known : (c : ℕ) → base.known c ≡ kept.known c

module _ (log : Log) (caller : Caller) (stamp : ℕ) where
  raise_before : (base kept : Kept) (colour : ℕ) (at : At) → Begins caller.own base kept
      → RaisesClock log caller kept stamp colour at → RaisesClock log caller base stamp colour at
  raise_before base kept colour (Event place) b r =
      let s = b.seen colour in
      let k = b.known colour in
      let low = r.0 in
      let line = r.1 in
      (omega (arith, s, low), omega (arith, k, line), r.2)
  raise_before base kept colour (Look events) b r =
      let s = b.seen colour in
      let k = b.known colour in
      let low = r.0 in
      let line = r.2 in
      (omega (arith, s, low), r.1, omega (arith, k, line), r.3)

  seen_on : (kept : Kept) (colour : ℕ) (at : At) → RaisesClock log caller kept stamp colour at → (c : ℕ)
      → kept.seen caller.own c ≤ (kept_after_place kept caller.own colour at).seen caller.own c
  seen_on kept colour (Event place) r c =
      at_new_at (λ (n : ℕ). kept.seen caller.own c ≤ n) kept.seen caller.own colour (place + 1) caller.own c
      (λ _ e. let low = r.0 in subst (λ (m : ℕ). kept.seen caller.own m ≤ place + 1) (sym e) (omega (arith, low)))
      (λ _. omega arith)
  seen_on kept colour (Look events) r c =
      at_new_at (λ (n : ℕ). kept.seen caller.own c ≤ n) kept.seen caller.own colour events caller.own c
      (λ _ e. subst (λ (m : ℕ). kept.seen caller.own m ≤ events) (sym e) r.0)
      (λ _. omega arith)

  begins_on : (base kept : Kept) (colour : ℕ) (at : At) → Begins caller.own base kept
      → RaisesClock log caller kept stamp colour at → Begins caller.own base (kept_after_place kept caller.own colour at)
  begins_on base kept colour at b r = record {
    seen = λ c. let x = b.seen c in let y = seen_on kept colour at r c in omega (arith, x, y);
    known = λ c. b.known c ∙ sym (ap (λ (f : ℕ → ℕ). f c) (placed_same kept caller.own colour at).known);
  }

  each_raise : (base kept : Kept) (raises : List RaisePiece) (after : Kept) → Begins caller.own base kept
      → Raises log caller stamp kept raises after → (raise : RaisePiece) → In raise raises
      → RaisesClock log caller base stamp raise.colour raise.at
  each_raise base kept [] after b r raise i = absurd i
  each_raise base kept (one ∷ raises) after b r raise (inl e) =
      subst (λ (p : RaisePiece). RaisesClock log caller base stamp p.colour p.at) e
      (raise_before base kept one.colour one.at b r.0)
  each_raise base kept (one ∷ raises) after b r raise (inr i) =
      each_raise base (kept_after_place kept caller.own one.colour one.at) raises after
      (begins_on base kept one.colour one.at b r.0) r.1 raise i

-- a place of events is that of a raise
abbrev pub IsRaisedAt : ℕ → ℕ → List RaisePiece → Type 0
IsRaisedAt colour place raises =
    (raise : RaisePiece) × In raise raises × (raise.colour ≡ colour) × (raise.at ≡ Event place)

later_raise : (colour place : ℕ) (first : RaisePiece) (raises : List RaisePiece) → IsRaisedAt colour place raises
    → IsRaisedAt colour place (first ∷ raises)
later_raise colour place first raises r = (r.0, inr r.1, r.2, r.3)

first_raise : (colour place : ℕ) (first : RaisePiece) (raises : List RaisePiece) (more : List ℕ) → first.colour ≡ colour
    → (In place more → IsRaisedAt colour place raises) → (at : At) → first.at ≡ at → In place (place_of at ++ more)
    → IsRaisedAt colour place (first ∷ raises)
first_raise colour place first raises more is rest (Event one) e (inl same) =
    (first, inl refl, is, e ∙ ap (λ (n : ℕ). let a : At = Event n in a) same)
first_raise colour place first raises more is rest (Event one) e (inr j) =
    later_raise colour place first raises (rest j)
first_raise colour place first raises more is rest (Look events) e j = later_raise colour place first raises (rest j)

pub place_in : (colour : ℕ) (raises : List RaisePiece) (place : ℕ) → In place (events_at colour raises)
    → IsRaisedAt colour place raises
place_in colour [] place i = absurd i
place_in colour (raise ∷ raises) place i =
    by_test _ (colour == raise.colour)
    (λ t. first_raise colour place raise raises (events_at colour raises) (sym (eqb-true colour raise.colour t))
    (λ j. place_in colour raises place j) raise.at refl
    (subst (In place) (if_true (colour == raise.colour) (place_of raise.at ++ events_at colour raises)
    (events_at colour raises) t) i))
    (λ f. later_raise colour place raise raises (place_in colour raises place
    (subst (In place) (if_false (colour == raise.colour) (place_of raise.at ++ events_at colour raises)
    (events_at colour raises) f) i)))

-- the events of raises, as those of a read of which no answer tells
pub hidden_raises : (log : Log) (caller : Caller) (stamp : ℕ) (kept after : Kept) (raises : List RaisePiece)
    (colours : List ℕ) → ((raise : RaisePiece) → In raise raises → Contains colours raise.colour)
    → Raises log caller stamp kept raises after → (colour : ℕ)
    → All (λ place. Contains colours colour × RaisesClock log caller kept stamp colour (Event place)) (events_at colour raises)
hidden_raises log caller stamp kept after raises colours among r colour =
    all_from (λ place. Contains colours colour × RaisesClock log caller kept stamp colour (Event place))
    (events_at colour raises)
    (λ place i. let p = place_in colour raises place i in (
      subst (Contains colours) p.2 (among p.0 p.1),
      subst (λ (a : At). RaisesClock log caller kept stamp colour a) p.3
          (subst (λ (c : ℕ). RaisesClock log caller kept stamp c p.0.at) p.2
          (each_raise log caller stamp kept kept raises after (record { seen = λ c. omega arith; known = λ c. refl }) r p.0 p.1)),
    ))

-- how many events are seen past places that are seen
pub past_within : (seen long : ℕ) (places : List ℕ) → seen ≤ long → ((place : ℕ) → In place places → place + 1 ≤ long)
    → seen_past seen places ≤ long
past_within seen long [] le each = le
past_within seen long (place ∷ places) le each =
    past_within (max seen (place + 1)) long places (let p = each place (inl refl) in omega (arith, le, p))
    (λ q i. each q (inr i))

-- SYNCS

-- what was seen of the region and is known to stand is no more, and all else is the same
pub record SeesLess (own : ℕ) (base kept : Kept) : Type 0 where
  pub floor : base.floor ≡ kept.floor
  pub starts : base.starts ≡ kept.starts
  pub seen : (c : ℕ) → base.seen own c ≤ kept.seen own c
  pub known : (c : ℕ) → base.known c ≤ kept.known c

-- raises let see more
pub raised_less : (log : Log) (caller : Caller) (stamp : ℕ) (base kept : Kept) (raises : List RaisePiece) (after : Kept)
    → SeesLess caller.own base kept → Raises log caller stamp kept raises after → SeesLess caller.own base after
raised_less log caller stamp base kept [] after b r = subst (SeesLess caller.own base) (sym r) b
raised_less log caller stamp base kept (raise ∷ raises) after b r =
    raised_less log caller stamp base (kept_after_place kept caller.own raise.colour raise.at) raises after
    (let same = placed_same kept caller.own raise.colour raise.at in record {
      floor = b.floor ∙ sym same.floor;
      starts = b.starts ∙ sym same.starts;
      seen = λ c. let x = b.seen c in let y = seen_on log caller stamp kept raise.colour raise.at r.0 c in omega (arith, x, y);
      known = λ c. subst (λ (f : ℕ → ℕ). base.known c ≤ f c) (sym same.known) (b.known c);
    }) r.1

module _ (log : Log) (caller : Caller) where
  sync_before : (base kept : Kept) (colour events : ℕ) (snapshot : Counts) → SeesLess caller.own base kept
      → Syncs log caller kept colour events snapshot → Syncs log caller base colour events snapshot
  sync_before base kept colour events snapshot b s =
      let low = b.seen colour in
      let know = b.known colour in
      let unseen = s.unseen in
      let within = s.within in record {
        unseen = omega (arith, low, unseen);
        there = s.there;
        cut = s.cut;
        not_trimmed = subst (λ (f : ℕ → Counts). IsWithin (base_of caller.own caller.regions
            (first log caller.own colour events)) (f colour)) (sym b.starts) s.not_trimmed;
        within = omega (arith, know, within);
      }

  stamp_before : (base kept : Kept) (colour events : ℕ) (snapshot : Counts) → SeesLess caller.own base kept
      → greatest_played log caller base colour events snapshot ≡ greatest_played log caller kept colour events snapshot
  stamp_before base kept colour events snapshot b =
      ap (λ (f : ℕ → Counts). greatest_between (chain caller.own (first log caller.own colour events)) (f colour) snapshot)
      b.starts

  module _ (stamp : ℕ) where
    -- they are explained as such
    pub clear_syncs : (kept : Kept) (played : List Playing) → AreSyncs log caller stamp kept played
        → ClearSyncs log caller stamp kept (map sync_piece (syncs_of played)) (kept_synced caller.own played kept)
    clear_syncs kept [] a = refl
    clear_syncs kept (p ∷ ps) a = (
      a.0,
      a.1,
      subst (λ (n : ℕ). ClearSyncs log caller stamp
          (kept_after_sync kept caller.own p.sync.snapshot.colour p.sync.events p.sync.snapshot.counts n)
          (map sync_piece (syncs_of ps)) (kept_synced caller.own (p ∷ ps) kept)) a.2
          (clear_syncs (kept_after_sync kept caller.own p.sync.snapshot.colour p.sync.events p.sync.snapshot.counts p.stamp)
          ps a.3),
    )

    after_less : (base kept : Kept) (p : Playing) → SeesLess caller.own base kept
        → Syncs log caller kept p.sync.snapshot.colour p.sync.events p.sync.snapshot.counts
        → SeesLess caller.own
        (record base {
          floor = max base.floor p.stamp;
          starts = updated base.starts p.sync.snapshot.colour p.sync.snapshot.counts;
        })
        (kept_after_sync kept caller.own p.sync.snapshot.colour p.sync.events p.sync.snapshot.counts p.stamp)
    after_less base kept p b s =
        let colour = p.sync.snapshot.colour in record {
          floor = ap (λ (n : ℕ). max n p.stamp) b.floor;
          starts = ap (λ (f : ℕ → Counts). updated f colour p.sync.snapshot.counts) b.starts;
          seen = λ c. at_new_at (λ (n : ℕ). base.seen caller.own c ≤ n) kept.seen caller.own colour p.sync.events caller.own c
              (λ _ e. let low = b.seen colour in let unseen = s.unseen in
              subst (λ (m : ℕ). base.seen caller.own m ≤ p.sync.events) (sym e) (omega (arith, low, unseen)))
              (λ _. b.seen c);
          known = λ c. by_colour c (cases_eq c colour);
        } where
          by_colour : (c : ℕ) → (c ≡ p.sync.snapshot.colour) ⊎ (c ≢ p.sync.snapshot.colour)
              → base.known c ≤ updated kept.known p.sync.snapshot.colour (at p.sync.snapshot.counts caller.own) c
          by_colour c (inl same) =
              let is = if_true (c == p.sync.snapshot.colour) (at p.sync.snapshot.counts caller.own) (kept.known c)
              (eq-eqb c p.sync.snapshot.colour same) in
              let low = subst (λ (m : ℕ). base.known m ≤ kept.known m) (sym same) (b.known p.sync.snapshot.colour) in
              let within = subst (λ (m : ℕ). kept.known m ≤ at p.sync.snapshot.counts caller.own) (sym same) s.within in
              omega (arith, is, low, within)
          by_colour c (inr ne) =
              let is = if_false (c == p.sync.snapshot.colour) (at p.sync.snapshot.counts caller.own) (kept.known c)
              (ne_eqb c p.sync.snapshot.colour ne) in
              let low = b.known c in
              omega (arith, is, low)

    -- and may have been done of which no answer tells
    pub hides_syncs : (base kept : Kept) (played : List Playing) → SeesLess caller.own base kept
        → AreSyncs log caller stamp kept played
        → HidesSyncs log caller base (synced_colours (syncs_of played))
        (record base {
          floor = (kept_synced caller.own played kept).floor;
          starts = (kept_synced caller.own played kept).starts;
        })
    hides_syncs base kept [] b a = λ i. record base { floor = sym b.floor i; starts = sym b.starts i }
    hides_syncs base kept (p ∷ ps) b a =
        let colour = p.sync.snapshot.colour in
        let counts = p.sync.snapshot.counts in (
          counts,
          p.stamp,
          subst (HidesSync log caller base colour counts)
              (stamp_before base kept colour p.sync.events counts b ∙ sym a.2)
              (plays p.sync.events counts (sync_before base kept colour p.sync.events counts b a.0)),
          hides_syncs (record base { floor = max base.floor p.stamp; starts = updated base.starts colour counts })
              (kept_after_sync kept caller.own colour p.sync.events counts p.stamp) ps (after_less base kept p b a.0) a.3,
        )

    -- one more
    pub syncs_more : (kept : Kept) (played : List Playing) (p : Playing) → AreSyncs log caller stamp kept played
        → AreSyncs log caller stamp (kept_synced caller.own played kept) (p ∷ [])
        → AreSyncs log caller stamp kept (played ++ p ∷ [])
    syncs_more kept [] p a one = one
    syncs_more kept (q ∷ qs) p a one = (
      a.0,
      a.1,
      a.2,
      syncs_more (kept_after_sync kept caller.own q.sync.snapshot.colour q.sync.events q.sync.snapshot.counts q.stamp) qs p
          a.3 one,
    )

pub synced_more : (own : ℕ) (kept : Kept) (played : List Playing) (p : Playing)
    → kept_synced own (played ++ p ∷ []) kept
    ≡ kept_after_sync (kept_synced own played kept) own p.sync.snapshot.colour p.sync.events p.sync.snapshot.counts p.stamp
synced_more own kept [] p = refl
synced_more own kept (q ∷ qs) p =
    synced_more own (kept_after_sync kept own q.sync.snapshot.colour q.sync.events q.sync.snapshot.counts q.stamp) qs p

pub raised_more : (own : ℕ) (kept : Kept) (raises : List RaisePiece) (raise : RaisePiece)
    → kept_raised own (raises ++ raise ∷ []) kept
    ≡ kept_after_place (kept_raised own raises kept) own raise.colour raise.at
raised_more own kept [] raise = refl
raised_more own kept (one ∷ raises) raise = raised_more own (kept_after_place kept own one.colour one.at) raises raise

pub raises_more : (log : Log) (caller : Caller) (stamp : ℕ) (kept : Kept) (raises : List RaisePiece) (raise : RaisePiece)
    → Raises log caller stamp kept raises (kept_raised caller.own raises kept)
    → RaisesClock log caller (kept_raised caller.own raises kept) stamp raise.colour raise.at
    → Raises log caller stamp kept (raises ++ raise ∷ []) (kept_raised caller.own (raises ++ raise ∷ []) kept)
raises_more log caller stamp kept [] raise r one = (one, refl)
raises_more log caller stamp kept (first ∷ raises) raise r one = (
  r.0,
  raises_more log caller stamp (kept_after_place kept caller.own first.colour first.at) raises raise r.1 one,
)

-- what syncs keep of events, ids and rows
pub record SameMade (kept after : Kept) : Type 0 where
  pub made : after.made ≡ kept.made
  pub ids : after.ids ≡ kept.ids
  pub rows : after.rows ≡ kept.rows
  pub floor : kept.floor ≤ after.floor

pub synced_same : (own : ℕ) (played : List Playing) (kept : Kept) → SameMade kept (kept_synced own played kept)
synced_same own [] kept = record { made = refl; ids = refl; rows = refl; floor = omega arith }
synced_same own (p ∷ ps) kept =
    let next = kept_after_sync kept own p.sync.snapshot.colour p.sync.events p.sync.snapshot.counts p.stamp in
    let r = synced_same own ps next in
    let low = r.floor in record {
      made = r.made;
      ids = r.ids;
      rows = r.rows;
      floor = omega (arith, low);
    }

-- LATER

module _ (old new : Log) (later : IsLater old new) (caller : Caller) (stamp : ℕ) where
  taken : (colour n : ℕ) → n ≤ length (old.histories caller.own colour)
      → take n (new.histories caller.own colour) ≡ take n (old.histories caller.own colour)
  taken colour n le =
      prefix_take (old.histories caller.own colour) (new.histories caller.own colour) n (later.histories caller.own colour) le

  pub are_syncs_later : (kept : Kept) (played : List Playing) → AreSyncs old caller stamp kept played
      → AreSyncs new caller stamp kept played
  are_syncs_later kept [] a = tt
  are_syncs_later kept (p ∷ ps) a =
      let colour = p.sync.snapshot.colour in
      let counts = p.sync.snapshot.counts in (
        syncs_later old new later caller kept colour p.sync.events counts a.0,
        subst (IsClearUpTo stamp) (sym (taken colour p.sync.events a.0.there)) a.1,
        a.2 ∙ ap (λ (h : List Entry). greatest_between (chain caller.own (dated caller.own h)) (kept.starts colour) counts)
            (sym (taken colour p.sync.events a.0.there)),
        are_syncs_later (kept_after_sync kept caller.own colour p.sync.events counts p.stamp) ps a.3,
      )
