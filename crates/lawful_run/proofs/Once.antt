-- No id is shown twice among the node lines of a client's syncs of one colour.
use Rattle.std.proofs.Common.{◌≡◌, ℕ, zero, suc, ◌+◌, ◌-◌, ◌<◌, ◌≤◌, List, length, Some, slice_get, refl, ap, sym, subst, ◌∙◌, ◌⊎◌, inl, inr, arith}
use Rattle.std.specs.Prelude.{◌==◌}
use Rattle.std.proofs.lemmas.Bool.{eq-eqb, cases_lt}
use Rattle.log_node.specs.declared.ids.Key.{Key}
use Rattle.log_node.specs.declared.ids.Counts.{Counts}
use Rattle.log_node.specs.Seen.{PlacedNode}
use Rattle.log_node.specs.Vectors.{at, IsWithin}
use Rattle.col_core.specs.declared.Entry.{Entry}
use Rattle.col_core.specs.History.{line}
use Rattle.col_core.specs.Cuts.{chain}
use Rattle.col_core.specs.Computed.{dated}
use Rattle.col_core.specs.Legal.{IsColumnHistory}
use Rattle.col_core.specs.Log.{first}
use Rattle.col_core.specs.Keeping.{Kept, updated, kept_after_sync}
use Rattle.col_core.specs.PlayOrder.{Place}
use Rattle.col_core.proofs.CallerLemmas.{if_true, within-at, key-irrefl, Between, in_order-between, once}
use Rattle.script_text.specs.declared.script.Script.{Script}
use Rattle.script_text.specs.declared.commands.What.{What}
use Rattle.script_text.specs.Fitting.{IsFitting, IsWithin as NamesWithin}
use Rattle.report_text.specs.declared.report.Answer.{Answer}
use Rattle.report_text.specs.declared.report.Answer.TheVariants as answers
use Rattle.report_text.specs.declared.report.SyncPiece.{SyncPiece}
use Rattle.report_text.specs.declared.report.ReplyLine.{ReplyLine}
use Rattle.report_text.specs.declared.report.ClientReport.{ClientReport}
use Rattle.report_text.specs.declared.report.Report.{Report}
use Rattle.lawful_run.specs.Callers.{Caller, caller_of, commands_of}
use Rattle.lawful_run.specs.Reads.{Syncs, ShowsNode, ShowsPlayed, greatest_stamp}
use Rattle.lawful_run.specs.Refusals.{kept_before, kept_behind}
use Rattle.lawful_run.specs.Explains.{Explains, Explained}
use Rattle.lawful_run.specs.Lawful.{LawfulRun}
use Rattle.lawful_run.specs.Readings.{kept_at, ShownOnce}
use Rattle.lawful_run.proofs.Prefixes.{get_within}
use Rattle.lawful_run.proofs.Listed.{get_in}
use Rattle.lawful_run.proofs.Entered.{one_in_line}
use Rattle.lawful_run.proofs.Replies.{step_of}
use Rattle.lawful_run.proofs.Beginnings.{updated_at_here}
use Rattle.lawful_run.proofs.Clients.{get_there}
use Rattle.lawful_run.proofs.Lines.{rising, same_region}
use Rattle.lawful_run.proofs.Onward.{Past, answered, within-self}
use Rattle.lawful_run.proofs.Shown.{zip_at, legal_at, stands_in, chain_at, home, named}

updated_here : {A : Type 0} (f : ℕ → A) (n : ℕ) (x : A) → updated f n x n ≡ x
updated_here f n x = if_true (n == n) x (f n) (eq-eqb n n refl)

place_is : (v w : Place) → v.region ≡ w.region → v.position ≡ w.position → v ≡ w
place_is v w e f = ap (λ r. record { region = r; position = v.position }) e ∙ ap
    (λ k. record { region = w.region; position = k }) f

-- a line has a key at one position
one_position : (own regions : ℕ) (h : List Entry) → IsColumnHistory own regions (dated own h) → (i j : ℕ) (k : Key)
    → slice_get (line h) i ≡ Some k
    → slice_get (line h) j ≡ Some k → i ≡ j
one_position own regions h legal i j k a b = elim (cases_lt i j) [
  | inl lt ↦ absurd (key-irrefl k (rising own regions h legal i j k k lt a b))
  | inr ge ↦ elim (cases_lt j i) [
    | inl lt ↦ absurd (key-irrefl k (rising own regions h legal j i k k lt b a))
    | inr le ↦ omega (arith, ge, le)
  ]
]

module _ (script : Script) (report : Report) (fits : IsFitting script) (run : LawfulRun script report) (client : ℕ)
    (shown : ClientReport)
    (of_client : slice_get report.clients client ≡ Some shown) where
  abbrev caller : Caller
  caller = caller_of script client

  abbrev e : Explained run.log caller (commands_of script client) shown.replies
      (run.clients client shown of_client).kept
  e = (run.clients client shown of_client).explained

  -- the sync that a reply tells of
  record IsSync (i : ℕ) (nodes : List PlacedNode) (s : SyncPiece) : Type 0 where
    within : s.colour < script.shape.colours
    syncs : Syncs run.log caller (kept_at e i) s.colour s.events s.counts
    shows : ShowsPlayed run.log caller (kept_at e i) s.colour s.events s.counts nodes
    after : kept_at e (i + 1) ≡ kept_after_sync (kept_at e i) caller.own s.colour s.events s.counts
        (greatest_stamp nodes)

  sync_of : (i : ℕ) (reply : ReplyLine) (s : SyncPiece) (plays : ℕ) → slice_get shown.replies i ≡ Some reply
      → reply.answer ≡ answers.Synced s plays
      → IsSync i reply.nodes s
  sync_of i reply s plays there is =
      let r = step_of e i reply there in
      let step = r.0 in
      let a = step.answers in
      let what = step.command.what in
      let answer : step.reply.answer ≡ answers.Synced s plays = ap (λ (x : ReplyLine). x.answer) r.1 ∙ is in
      let x = subst (λ (y : Answer). Explains run.log caller
      (kept_before what (kept_at e i)) what y step.reply.nodes a.answered) answer a.explained in
      let same : kept_before what (kept_at e i) ≡ kept_at e i = ap (λ (w : What). kept_before w (kept_at e i)) x.0 in
      let behind : kept_behind what a.answered ≡ a.answered = ap (λ (w : What). kept_behind w a.answered) x.0 in
      subst (λ (y : ReplyLine). IsSync i y.nodes s) r.1 (record {
        within = subst (NamesWithin script.shape.regions script.shape.colours) x.0
            (named script report fits run client i step.command step.asked);
        syncs = subst (λ (k : Kept). Syncs run.log caller k s.colour s.events s.counts) same x.2;
        shows = subst (λ (k : Kept). ShowsPlayed run.log caller k s.colour s.events s.counts step.reply.nodes) same x.3;
        after = step.next_is ∙ (a.after_is ∙ (behind ∙ (x.4
            ∙ ap (λ (k : Kept). kept_after_sync k caller.own s.colour s.events s.counts
            (greatest_stamp step.reply.nodes)) same)));
      })

  -- what a sync showed is past for all later commands
  past_later : (i : ℕ) (nodes : List PlacedNode) (s : SyncPiece) → IsSync i nodes s → (more : ℕ)
      → i + 1 + more ≤ length shown.replies
      → Past caller.own s.colour s.events s.counts (kept_at e (i + 1 + more))
  past_later i nodes s sync zero le =
      subst (λ (n : ℕ). Past caller.own s.colour s.events s.counts (kept_at e n))
      (let g : i + 1 ≡ i + 1 + 0 = omega arith in g)
      (subst (λ (k : Kept). Past caller.own s.colour s.events s.counts k) (sym sync.after) (record {
        seen = let u = updated_at_here (kept_at e i).seen caller.own s.colour s.events in omega (arith, u);
        starts = subst (λ (v : Counts). IsWithin s.counts v) (sym (updated_here (kept_at e i).starts s.colour s.counts))
            (within-self s.counts);
      }))
  past_later i nodes s sync (suc more) le =
      let n = i + 1 + more in
      let reply = get_there shown.replies n (omega (arith, le)) in
      let step = (step_of e n reply.0 reply.1).0 in
      let lo = home script report fits run client shown of_client in
      let before = past_later i nodes s sync more (omega (arith, le)) in
      let after = answered run.log caller s.colour (legal_at script report fits run caller.own s.colour lo sync.within)
      (kept_at e n) step.command step.reply step.after
      step.answers s.events s.counts sync.syncs.there sync.syncs.cut.reached before in
      subst (λ (m : ℕ). Past caller.own s.colour s.events s.counts (kept_at e m))
      (let g : n + 1 ≡ i + 1 + suc more = omega arith in g)
      (subst (λ (k : Kept). Past caller.own s.colour s.events s.counts k) (sym step.next_is) after)

  -- where a node line's node stands
  record IsShownAt (i : ℕ) (nodes : List PlacedNode) (s : SyncPiece) (sync : IsSync i nodes s) (n : ℕ)
      (item : PlacedNode) : Type 0 where
    place : Place
    there : slice_get sync.shows.order n ≡ Some place
    between : Between ((kept_at e i).starts s.colour) s.counts place
    within : place.region < script.shape.regions
    stands : slice_get (line (run.log.histories place.region s.colour)) place.position ≡ Some item.head.key

  shown_at : (i : ℕ) (nodes : List PlacedNode) (s : SyncPiece) (sync : IsSync i nodes s) (n : ℕ) (item : PlacedNode)
      → slice_get nodes n ≡ Some item
      → IsShownAt i nodes s sync n item
  shown_at i nodes s sync n item there =
      let z = zip_at (ShowsNode run.log caller s.colour s.events) sync.shows.order nodes sync.shows.lines n item
      there in
      let lo = home script report fits run client shown of_client in
      let c = chain_at script report fits run caller.own s.colour lo sync.within s.events z.0.region z.0.position
      z.2.head z.2.stands in
      record {
        place = z.0;
        there = z.1;
        between = in_order-between (chain caller.own (first run.log caller.own s.colour s.events))
            ((kept_at e i).starts s.colour) s.counts
            sync.syncs.cut.reached sync.shows.order sync.shows.played n z.0 z.1;
        within = c.0;
        stands = c.1 ∙ ap (λ (k : Key). Some k) (sym z.2.key);
      }

  -- of one id, at one place
  one_place : (colour : ℕ) → colour < script.shape.colours → (p q : Place) (k l : Key) → p.region < script.shape.regions
      → q.region < script.shape.regions
      → slice_get (line (run.log.histories p.region colour)) p.position ≡ Some k → slice_get
      (line (run.log.histories q.region colour)) q.position ≡ Some l
      → k.id ≡ l.id → (p.region ≡ q.region) × (p.position ≡ q.position)
  one_place colour lc p q k l lp lq a b same =
      let s = stands_in script report fits run p.region colour lp lc k
      (get_in (line (run.log.histories p.region colour)) p.position k a) in
      let t = stands_in script report fits run q.region colour lq lc l
      (get_in (line (run.log.histories q.region colour)) q.position l b) in
      let region = same_region script report fits run p.region colour k q.region colour l s t same in
      let b' = subst (λ r. slice_get (line (run.log.histories r colour)) q.position ≡ Some l) (sym region) b in
      let legal = legal_at script report fits run p.region colour lp lc in
      let h = run.log.histories p.region colour in
      let key : k ≡ l = one_in_line p.region script.shape.regions h legal k l (get_in (line h) p.position k a)
      (get_in (line h) q.position l b') same in (
        region,
        one_position p.region script.shape.regions h legal p.position q.position k a
            (subst (λ x. slice_get (line h) q.position ≡ Some x) (sym key) b'),
      )

  -- a later sync of the colour does not show it again
  not_again : (i j m n : ℕ) (one other : List PlacedNode) (s t : SyncPiece) (x : IsSync i one s) (y : IsSync j other t)
      (a b : PlacedNode)
      → s.colour ≡ t.colour → i < j → j < length shown.replies → IsShownAt i one s x m a → IsShownAt j other t y n b
      → a.head.key.id ≡ b.head.key.id → ⊥
  not_again i j m n one other s t x y a b colour lt within p q same =
      let past = subst (λ (k : ℕ). Past caller.own s.colour s.events s.counts (kept_at e k))
      (let g : i + 1 + (j - (i + 1)) ≡ j = omega (arith, lt) in g)
      (past_later i one s x (j - (i + 1)) (omega (arith, lt, within))) in
      let q' = subst (λ c. slice_get (line (run.log.histories q.place.region c)) q.place.position ≡ Some b.head.key)
      (sym colour) q.stands in
      let o = one_place s.colour x.within p.place q.place a.head.key b.head.key p.within q.within p.stands q' same in
      let less = within-at s.counts ((kept_at e j).starts s.colour) past.starts p.place.region p.between.in_range in
      let short = p.between.short in
      let beyond : at ((kept_at e j).starts s.colour) p.place.region ≤ q.place.position =
      subst (λ r. at ((kept_at e j).starts s.colour) r ≤ q.place.position) (sym o.0)
      (subst (λ c. at ((kept_at e j).starts c) q.place.region ≤ q.place.position) (sym colour) q.between.past) in
      let position = o.1 in
      omega (arith, less, short, beyond, position)

  once_each : (i j m n : ℕ) (one other : ReplyLine) (s t : SyncPiece) (plays more : ℕ) (a b : PlacedNode)
      → slice_get shown.replies i ≡ Some one → slice_get shown.replies j ≡ Some other
      → one.answer ≡ answers.Synced s plays → other.answer ≡ answers.Synced t more → s.colour ≡ t.colour
      → slice_get one.nodes m ≡ Some a → slice_get other.nodes n ≡ Some b → a.head.key.id ≡ b.head.key.id → (i ≡ j) ×
      (m ≡ n)
  once_each i j m n one other s t plays more a b ri rj is it colour am bn same = turn (cases_lt i j)
      (cases_lt j i) where
        x : IsSync i one.nodes s
        x = sync_of i one s plays ri is

        y : IsSync j other.nodes t
        y = sync_of j other t more rj it

        p : IsShownAt i one.nodes s x m a
        p = shown_at i one.nodes s x m a am

        q : IsShownAt j other.nodes t y n b
        q = shown_at j other.nodes t y n b bn

        here : i ≡ j → m ≡ n
        here e =
            let r : Some one ≡ Some other = sym ri ∙ (ap (slice_get shown.replies) e ∙ rj) in
            let reply : one ≡ other = cc (r) in
            let b' : slice_get one.nodes n ≡ Some b = subst (λ (z : ReplyLine). slice_get z.nodes n ≡ Some b)
            (sym reply) bn in
            let u = shown_at i one.nodes s x n b b' in
            let o = one_place s.colour x.within p.place u.place a.head.key
            b.head.key p.within u.within p.stands u.stands same in
            let place : u.place ≡ p.place = place_is u.place p.place (sym o.0) (sym o.1) in
            let own = (caller_of script client).own in
            once (chain own (first run.log own s.colour s.events))
            ((kept_at (run.clients client shown of_client).explained i).starts s.colour) s.counts
            x.syncs.cut.reached x.shows.order x.shows.played m n p.place p.there (u.there ∙ ap (λ z. Some z) place)

        turn : (i < j) ⊎ (j ≤ i) → (j < i) ⊎ (i ≤ j) → (i ≡ j) × (m ≡ n)
        turn (inl lt) other_way =
            absurd (not_again i j m n one.nodes other.nodes s t x y a b
            colour lt (get_within shown.replies j other rj) p q same)
        turn (inr ge) (inl lt) =
            absurd (not_again j i n m other.nodes one.nodes t s y x b a
            (sym colour) lt (get_within shown.replies i one ri) q p (sym same))
        turn (inr ge) (inr le) = let e : i ≡ j = omega (arith, ge, le) in (e, here e)

pub shown_once : ShownOnce
shown_once script report fits run client i j m n one other s t plays more a b hi is am hj it bn colour same =
    let first = hi.1 in
    let second = hj.1 in
    let e : Some hj.0 ≡ Some hi.0 = sym second ∙ first in
    let f : hj.0 ≡ hi.0 = cc (e) in
    once_each script report fits run client hi.0 hi.1 i j m n one other s t plays more a b hi.2
    (subst (λ (c : ClientReport). slice_get c.replies j ≡ Some other) f hj.2) is it colour am bn same
