-- What the parts of a transactional map answer, by the place of a colour among those of the object.
use Rattle.std.proofs.Common.{◌≡◌, ◌≢◌, ◌∙◌, refl, ap, sym, subst, Bool, true, false, ℕ, zero, suc, ◌<◌, List, [], ◌∷◌, ◌++◌, Option, Some, None, inl, inr, arith}
use Rattle.std.specs.Prelude.{IsTrue, ◌==◌, slice_get}
use Rattle.std.specs.List.{All, AllPairs}
use Rattle.std.specs.Option.{option_map}
use Rattle.std.proofs.lemmas.Bool.{cases_Bool, eq-eqb, eqb-true, true≢false}
use Rattle.std.proofs.lemmas.List.Elements.{All-contains}
use Rattle.std.proofs.lemmas.Option.{get_or_from_slice_get, slice_get_within}
use Rattle.log_node.specs.declared.ids.Key.{Key}
use Rattle.log_node.specs.declared.node.Node.{Node}
use Rattle.log_node.specs.Order.{key_below, same_key}
use Rattle.log_node.proofs.CallerLemmas.{key-irrefl, same_key-is, same_some}
use Rattle.object_fold.specs.Folds.{IsAbsent}
use Rattle.object_fold.specs.Maps.{Value}
use Rattle.object_fold.specs.Nodes.{ObjectNode}
use Rattle.object_fold.specs.Transactions.{verdict_of}
use Rattle.part_fold.specs.Agreement.{outcome, part_at}
use Rattle.part_fold.specs.Decisions.{decision_text}
use Rattle.part_fold.specs.Parts.{Part, undecided_after}
use Rattle.part_fold.specs.Ruled.{AreApart}
use Rattle.col_core.specs.Keeping.{Kept}
use Rattle.col_core.proofs.CallerLemmas.{In, all_in, contains_in, slice_in}
use Rattle.playback.specs.Merging.{AreRising}
use Rattle.script_text.specs.Apart.{colours_of}
use Rattle.script_text.specs.Commands.{use_of}
use Rattle.script_text.specs.Fitting.{AreObjectColours, IsFitting}
use Rattle.script_text.specs.declared.commands.What.{What}
use Rattle.script_text.specs.declared.commands.What.TheVariants as whats
use Rattle.script_text.specs.declared.script.Command.{Command}
use Rattle.script_text.specs.declared.script.Kind.{Kind}
use Rattle.script_text.specs.declared.script.Kind.TheVariants as kinds
use Rattle.script_text.specs.declared.script.Object.{Object}
use Rattle.script_text.specs.declared.script.Script.{Script}
use Rattle.script_text.specs.declared.uses.Use.{Use}
use Rattle.script_text.specs.declared.uses.Use.TheVariants.{OfLog, OfObject}
use Rattle.report_text.specs.declared.report.Ended.{Ended}
use Rattle.report_text.specs.declared.report.ReplyLine.{ReplyLine}
use Rattle.report_text.specs.declared.report.SyncPiece.{SyncPiece}
use Rattle.lawful_run.specs.Asks.{kind_asked, kind_of_object, kind_used, rising}
use Rattle.lawful_run.specs.Callers.{Caller, caller_of, commands_of}
use Rattle.lawful_run.specs.Deeds.{AsksForKey, Deed}
use Rattle.lawful_run.specs.Parts.{AnswersGet, AnswersUndecided, AsksOf, HasPartValue, HasValue, IsRuledAs, OfPart, WaitsFor}
use Rattle.column_track.specs.Tracks.{Tells}
use Rattle.run_rules.specs.Answering.{CanGet, CanHave}
use Rattle.run_rules.specs.Computing.{node_read}
use Rattle.run_rules.specs.Deciding.{ColoursDiffer}
use Rattle.run_rules.specs.Telling.{replies_to}
use Rattle.run_rules.specs.Told.{Step, kept_at}
use Rattle.run_rules.specs.Shown.{OfParts, SaysSo}
use Rattle.walk_law.specs.Asking.{all_of}
use Rattle.object_law.specs.Fourteenth.{AnswersByParts, IsDecision, IsPartAnswer, object_nodes, synced_nodes}
use Rattle.walk_law.specs.Keepings.{Counted}
use Rattle.object_law.specs.NodeTables.{node_in, nodes_under}
use Rattle.object_law.specs.PartAnswers.{IsValueOfPart, IsWaitedFor, part_colours}
use Rattle.object_law.specs.Tenth.{log_with}
use Rattle.walk_law.specs.Walking.{IsSeen, Walked}
use Rattle.walk_law.proofs.CallerLemmas.{told_as}
use Rattle.walk_law.proofs.CallerLemmas.{below_all, kind_within, rising_below}

-- NODES

not_same : (a b : Key) → key_below a b ≡ true → same_key b a ≡ false
not_same a b lt = elim (cases_Bool (same_key b a)) [
  | inl t ↦ absurd (key-irrefl a (subst (λ (k : Key). key_below a k ≡ true) (same_key-is b a t) lt))
  | inr f ↦ f
]

-- the nodes of a key and those behind it have others
absent_from : (key k : Key) (o : Option Node) (rest : List ObjectNode) → IsTrue (key_below key k) → IsAbsent key rest
    → IsAbsent key (node_read k o ++ rest)
absent_from key k None rest lt a = a
absent_from key k (Some node) rest lt a = (not_same key k lt, a)

apart_from : (k : Key) (o : Option Node) (rest : List ObjectNode) → IsAbsent k rest → AreApart rest
    → AreApart (node_read k o ++ rest)
apart_from k None rest a r = r
apart_from k (Some node) rest a r = (a, r)

absent : (table : List (List Node)) (key : Key) (keys : List Key) → ((k : Key) → In k keys → IsTrue (key_below key k))
    → IsAbsent key (nodes_under table keys)
absent table key [] f = tt
absent table key (k ∷ ks) f =
    absent_from key k (node_in table k.id) (nodes_under table ks) (f k (inl refl)) (absent table key ks (λ j i. f j (inr i)))

-- the nodes under keys that rise have keys of their own
pub apart_under : (table : List (List Node)) (keys : List Key) → AreRising keys → AreApart (nodes_under table keys)
apart_under table [] r = tt
apart_under table (k ∷ ks) r =
    apart_from k (node_in table k.id) (nodes_under table ks) (absent table k ks above)
    (apart_under table ks (λ i j d lt within. r (suc i) (suc j) d (omega (arith, lt)) (omega (arith, within)))) where
      above : (j : Key) → In j ks → IsTrue (key_below k j)
      above j i =
          let c = contains_in ks j i in
          let lt = c.1 in
          subst (λ (m : Key). IsTrue (key_below k m)) c.2 (r 0 (suc c.0) j (omega arith) (omega (arith, lt)))

-- PLACES

-- a colour that is there once has one place
pub place_one : (own : List ℕ) → AllPairs (λ (a b : ℕ). a ≢ b) own → (p q colour : ℕ) → slice_get own p ≡ Some colour
    → slice_get own q ≡ Some colour → p ≡ q
place_one [] apart p q colour e f = absurd (let no : ⊥ = cc (e) in no)
place_one (c ∷ cs) apart zero zero colour e f = refl
place_one (c ∷ cs) apart zero (suc q) colour e f =
    let lt = slice_get_within cs q colour f in
    absurd (apart 0 (suc q) c (omega arith) (omega (arith, lt))
    (same_some e ∙ sym (get_or_from_slice_get cs q colour c f)))
place_one (c ∷ cs) apart (suc p) zero colour e f =
    let lt = slice_get_within cs p colour e in
    absurd (apart 0 (suc p) c (omega arith) (omega (arith, lt))
    (same_some f ∙ sym (get_or_from_slice_get cs p colour c e)))
place_one (c ∷ cs) apart (suc p) (suc q) colour e f =
    ap (λ (n : ℕ). suc n)
    (place_one cs (λ i j d lt within. apart (suc i) (suc j) d (omega (arith, lt)) (omega (arith, within))) p q colour e f)

-- what is decided of a part is decided of the colour
pub part_told : (own : List ℕ) → AllPairs (λ (a b : ℕ). a ≢ b) own → (place colour : ℕ) → slice_get own place ≡ Some colour
    → (Says : Part → List ObjectNode → Type 0) (nodes : List ObjectNode) (b : Bool) → Tells b (Says (part_at own place) nodes)
    → Tells b (OfPart own colour Says nodes)
part_told own apart place colour e Says nodes b told =
    told_as b (Says (part_at own place) nodes) (OfPart own colour Says nodes) (λ s. (place, e, s))
    (λ o. subst (λ (p : ℕ). Says (part_at own p) nodes) (place_one own apart o.0 place colour o.1 e) o.2) told

-- OBJECTS

-- the colours of a map that is played by its parts: what is known of them
pub record AreOwn (script : Script) (caller : Caller) (what : What) (own : List ℕ) : Type 0 where
  pub home : ℕ
  pub kind : kind_asked caller what ≡ Some (kinds.Parts home own)
  pub within : AreObjectColours script.shape.colours own
  pub differ : AllPairs (λ (a b : ℕ). a ≢ b) own

kind_is : (kind : Option Kind) (own : List ℕ) → part_colours kind ≡ Some own → (home : ℕ) × (kind ≡ Some (kinds.Parts home own))
kind_is (Some (kinds.Parts home colours)) own e = (home, ap (λ (cs : List ℕ). Some (kinds.Parts home cs)) (same_some e))
kind_is None own e = absurd (let no : ⊥ = cc (e) in no)
kind_is (Some (kinds.Map home colours)) own e = absurd (let no : ⊥ = cc (e) in no)
kind_is (Some (kinds.Tx home colours)) own e = absurd (let no : ⊥ = cc (e) in no)
kind_is (Some (kinds.Causal colour)) own e = absurd (let no : ⊥ = cc (e) in no)
kind_is (Some (kinds.Queue home colour)) own e = absurd (let no : ⊥ = cc (e) in no)
kind_is (Some (kinds.Tree home colours)) own e = absurd (let no : ⊥ = cc (e) in no)

module _ (script : Script) (fits : IsFitting script) (differ : ColoursDiffer script) (n : ℕ) (what : What) (own : List ℕ) where
  abbrev it : Caller
  it = caller_of script n

  abbrev Apart : Kind → Type 0
  Apart kind = AllPairs (λ (a b : ℕ). a ≢ b) (colours_of kind)

  object_apart : (object : ℕ) (kind : Kind) → kind_of_object it object ≡ Some kind → Apart kind
  object_apart object kind e = turn (slice_get script.objects object) refl e where
    turn : (o : Option Object) → slice_get script.objects object ≡ o
        → option_map (λ (x : Object). x.kind) o ≡ Some kind → Apart kind
    turn None s f = absurd (let no : ⊥ = cc (f) in no)
    turn (Some o) s f =
        subst Apart (same_some f)
        (All-contains (λ (x : Object). Apart x.kind) script.objects o differ
        (contains_in script.objects o (slice_in script.objects object o s)))

  pub own_are : part_colours (kind_asked it what) ≡ Some own → AreOwn script it what own
  own_are e = by (use_of what) refl where
    kind : (home : ℕ) × (kind_asked it what ≡ Some (kinds.Parts home own))
    kind = kind_is (kind_asked it what) own e

    by : (u : Use) → use_of what ≡ u → AreOwn script it what own
    by (OfLog stops) s =
        let none : kind_asked it what ≡ None = ap (kind_used it) s in
        absurd (let k = kind.1 in let no : ⊥ = cc (k, none) in no)
    by (OfObject object read) s =
        let k : kind_of_object it object ≡ Some (kinds.Parts kind.0 own) = sym (ap (kind_used it) s) ∙ kind.1 in
        record {
          home = kind.0;
          kind = kind.1;
          within = (kind_within script fits n object (kinds.Parts kind.0 own) k).1;
          differ = object_apart object (kinds.Parts kind.0 own) k;
        }

-- WHAT IS ASKED

-- the kind of the object for whose key a command asks
asks_kind : (caller : Caller) (what : What) (object : ℕ) (key : List ℕ) → AsksForKey what object key
    → kind_asked caller what ≡ kind_of_object caller object
asks_kind caller what object key a = ap (kind_used caller) a.uses

of_key : (what : What) (object : ℕ) (key : List ℕ) (value : Value) (part : Part) (nodes : List ObjectNode)
    → AsksForKey what object key → HasPartValue key value part nodes → IsValueOfPart what value part nodes
of_key (whats.Get other k) object key value part nodes a s =
    let e : key ≡ k = let g = ap (λ (d : Deed). d.syncs) a.gets in cc (g) in
    subst (λ (t : List ℕ). HasPartValue t value part nodes) e s
of_key (whats.Peek other k) object key value part nodes a s =
    let e : key ≡ k = let g = ap (λ (d : Deed). d.syncs) a.gets in cc (g) in
    subst (λ (t : List ℕ). HasPartValue t value part nodes) e s
of_key _ object key value part nodes a s = absurd (let g = ap (λ (d : Deed). d.manner) a.gets in let no : ⊥ = cc (g) in no)

key_of : (what : What) (object : ℕ) (key : List ℕ) (value : Value) (part : Part) (nodes : List ObjectNode)
    → AsksForKey what object key → IsValueOfPart what value part nodes → HasPartValue key value part nodes
key_of (whats.Get other k) object key value part nodes a s =
    let e : k ≡ key = let g = ap (λ (d : Deed). d.syncs) a.gets in cc (g) in
    subst (λ (t : List ℕ). HasPartValue t value part nodes) e s
key_of (whats.Peek other k) object key value part nodes a s =
    let e : k ≡ key = let g = ap (λ (d : Deed). d.syncs) a.gets in cc (g) in
    subst (λ (t : List ℕ). HasPartValue t value part nodes) e s
key_of _ object key value part nodes a s = absurd (let g = ap (λ (d : Deed). d.manner) a.gets in let no : ⊥ = cc (g) in no)

module _ (script : Script) (caller : Caller) (what : What) (own : List ℕ) (are : AreOwn script caller what own) (sync : SyncPiece)
    (place : ℕ) (e : slice_get own place ≡ Some sync.colour) (nodes : List ObjectNode) where
  -- what is so of the colour is so of its part
  at_place : (Says : Part → List ObjectNode → Type 0) → OfPart own sync.colour Says nodes → Says (part_at own place) nodes
  at_place Says o =
      subst (λ (p : ℕ). Says (part_at own p) nodes) (place_one own are.differ o.0 place sync.colour o.1 e) o.2

  module _ (value : Value) where
    abbrev Told : Type 0
    Told = IsValueOfPart what value (part_at own place) nodes

    answers : CanGet caller what sync value (Some (kinds.Parts are.home own)) → Told → AnswersGet caller what sync value nodes
    answers (inl can) v =
        inl (
          Some (kinds.Parts are.home own),
          can.0,
          can.1,
          (place, e, key_of what can.1.0 can.0 value (part_at own place) nodes can.1.1 v),
        )
    answers (inr can) v =
        let w = subst (λ (c : What). IsValueOfPart c value (part_at own place) nodes) can.0.2 v in
        inr (own, can.0, w.0, (place, e, w.1))

    told : AnswersGet caller what sync value nodes → Told
    told (inl g) =
        let asks = g.2 in
        let same : g.0 ≡ Some (kinds.Parts are.home own) =
        sym asks.2 ∙ (sym (asks_kind caller what asks.0 g.1 asks.1) ∙ are.kind) in
        of_key what asks.0 g.1 value (part_at own place) nodes asks.1
        (at_place (HasPartValue g.1 value) (subst (λ (k : Option Kind). HasValue k sync.colour g.1 value nodes) same g.3))
    told (inr d) =
        let asks = d.1 in
        let parts : Some (kinds.Parts asks.3 d.0) ≡ Some (kinds.Parts are.home own) =
        sym asks.4 ∙ (sym (ap (kind_asked caller) asks.2) ∙ are.kind) in
        let same : d.0 ≡ own = cc (parts) in
        subst (λ (c : What). IsValueOfPart c value (part_at own place) nodes) (sym asks.2)
        (d.2, at_place (WaitsFor None) (subst (λ (cs : List ℕ). OfPart cs sync.colour (WaitsFor None) nodes) same d.3))

    pub value_told : CanGet caller what sync value (kind_asked caller what) → (b : Bool) → Tells b Told
        → Tells b (OfParts (kind_asked caller what) (AnswersGet caller what sync value nodes))
    value_told can b t =
        subst (λ (k : Option Kind). Tells b (OfParts k (AnswersGet caller what sync value nodes))) (sym are.kind)
        (told_as b Told (AnswersGet caller what sync value nodes)
        (answers (subst (CanGet caller what sync value) are.kind can)) told t)

-- for which transaction a part waits
pub waits_told : (own : List ℕ) → AllPairs (λ (a b : ℕ). a ≢ b) own → (place colour : ℕ) → slice_get own place ≡ Some colour
    → (nodes : List ObjectNode) (key : Option Key) → key ≡ undecided_after (part_at own place) nodes
    → IsWaitedFor own colour nodes key
waits_told own apart place colour e nodes None is = λ k o.
    let other : undecided_after (part_at own place) nodes ≡ Some k =
    subst (λ (p : ℕ). undecided_after (part_at own p) nodes ≡ Some k) (place_one own apart o.0 place colour o.1 e) o.2 in
    let no : ⊥ = cc (is, other) in no
waits_told own apart place colour e nodes (Some key) is = (
  (place, e, sym is),
  λ k o.
      let other : undecided_after (part_at own place) nodes ≡ Some k =
      subst (λ (p : ℕ). undecided_after (part_at own p) nodes ≡ Some k) (place_one own apart o.0 place colour o.1 e) o.2 in
      same_some (sym other ∙ sym is),
)

-- a colour of an object is one of the shape
pub own_low : (count : ℕ) (own : List ℕ) → AreObjectColours count own → (place colour : ℕ) → slice_get own place ≡ Some colour
    → colour < count
own_low count own w place colour e =
    subst (λ (m : ℕ). m < count) (get_or_from_slice_get own place colour colour e)
    (w.below place colour (slice_get_within own place colour e))

-- a command asks of the one object
one_own : (script : Script) (caller : Caller) (what : What) (own : List ℕ) (are : AreOwn script caller what own)
    (sync : SyncPiece) (home : ℕ) (colours key : List ℕ) → AsksOf caller what sync (Some (kinds.Parts home colours)) key
    → Some (kinds.Parts home colours) ≡ Some (kinds.Parts are.home own)
one_own script caller what own are sync home colours key asks =
    sym asks.2 ∙ (sym (asks_kind caller what asks.0 key asks.1) ∙ are.kind)

asks_own : (script : Script) (caller : Caller) (what : What) (own : List ℕ) (are : AreOwn script caller what own)
    (sync : SyncPiece) (home : ℕ) (colours key : List ℕ) → AsksOf caller what sync (Some (kinds.Parts home colours)) key
    → AsksOf caller what sync (Some (kinds.Parts are.home own)) key
asks_own script caller what own are sync home colours key asks =
    subst (λ (k : Option Kind). AsksOf caller what sync k key) (one_own script caller what own are sync home colours key asks) asks

of_own : (script : Script) (caller : Caller) (what : What) (own : List ℕ) → AreOwn script caller what own → (sync : SyncPiece)
    (nodes : List ObjectNode) (home : ℕ) (colours key : List ℕ) → AsksOf caller what sync (Some (kinds.Parts home colours)) key
    → (waits : Key) → OfPart colours sync.colour (WaitsFor (Some waits)) nodes → OfPart own sync.colour (WaitsFor (Some waits)) nodes
of_own script caller what own are sync nodes home colours key asks waits o =
    let parts = one_own script caller what own are sync home colours key asks in
    let same : colours ≡ own = cc (parts) in
    subst (λ (cs : List ℕ). OfPart cs sync.colour (WaitsFor (Some waits)) nodes) same o

pub all_rising : (own : List ℕ) → all_of own ≡ rising own
unfolding all_of
all_rising own = refl

-- numbers are compared
pub tells_same : (a b : ℕ) → Tells (a == b) (a ≡ b)
tells_same a b = by (a == b) refl where
  by : (t : Bool) → (a == b) ≡ t → Tells t (a ≡ b)
  by true e = eqb-true a b e
  by false e = λ s. true≢false (sym (eq-eqb a b s) ∙ e)

-- all in rising number are
pub rising_low : (count : ℕ) → 0 < count → (own : List ℕ) → AreObjectColours count own
    → All (λ (colour : ℕ). colour < count) (all_of own)
unfolding all_of
rising_low count some own w =
    all_in (λ (colour : ℕ). colour < count) (rising own) (rising_below count some own (below_all count own w.below))

-- a part that waits tells a stamp
pub undecided_told : (script : Script) (caller : Caller) (what : What) (own : List ℕ) → AreOwn script caller what own
    → (sync : SyncPiece) (nodes : List ObjectNode) (home : ℕ) (colours key : List ℕ)
    → AsksOf caller what sync (Some (kinds.Parts home colours)) key → (stamp : ℕ) (waits : Key)
    → IsWaitedFor own sync.colour nodes (Some waits) → (b : Bool) → Tells b (waits.stamp ≡ stamp)
    → Tells b (AnswersUndecided caller what sync stamp nodes)
undecided_told script caller what own are sync nodes home colours key asks stamp waits w b t =
    told_as b (waits.stamp ≡ stamp) (AnswersUndecided caller what sync stamp nodes)
    (λ e. (are.home, own, key, asks_own script caller what own are sync home colours key asks, waits, sym e, w.0))
    (λ a. ap (λ (k : Key). k.stamp) (sym (w.1 a.4 (of_own script caller what own are sync nodes a.0 a.1 a.2 a.3 a.4 a.6)))
    ∙ sym a.5) t

pub undecided_not : (script : Script) (caller : Caller) (what : What) (own : List ℕ) → AreOwn script caller what own
    → (sync : SyncPiece) (nodes : List ObjectNode) (stamp : ℕ) → IsWaitedFor own sync.colour nodes None
    → AnswersUndecided caller what sync stamp nodes → ⊥
undecided_not script caller what own are sync nodes stamp w a =
    w a.4 (of_own script caller what own are sync nodes a.0 a.1 a.2 a.3 a.4 a.6)

-- a decision, by the transaction for which its part waits
module _ (walked : Walked) (table : List (List Node)) (caller : Caller) (kept : Kept) (own : List ℕ) (commits : Bool) (stamp : ℕ)
    (sync : SyncPiece) (read_stamp : ℕ) (ended : Ended) where
  abbrev Decision : Type 0
  Decision = IsDecision walked table caller kept own commits stamp sync read_stamp ended

  abbrev Waits : Option Key → Type 0
  Waits key = IsWaitedFor own sync.colour (synced_nodes walked table caller sync) key

  abbrev Says : Key → Type 0
  Says key = SaysSo (log_with walked table) caller kept (decision_text (record { key = key; commits = commits })) ended

  pub none_decided : Waits None → Decision → ⊥
  none_decided w d = w d.0 d.2

  pub stamp_decided : (key : Key) → Waits (Some key) → Decision → key.stamp ≡ stamp
  stamp_decided key w d = ap (λ (k : Key). k.stamp) (sym (w.1 d.0 d.2)) ∙ sym d.1

  pub ruled_decided : (key : Key) → Waits (Some key) → Decision
      → outcome (verdict_of (object_nodes walked table caller own read_stamp) key) ≡ Some commits
  ruled_decided key w d =
      subst (λ (k : Key). IsRuledAs k commits (object_nodes walked table caller own read_stamp)) (w.1 d.0 d.2) d.3

  pub decision_told : (key : Key) → Waits (Some key) → key.stamp ≡ stamp
      → outcome (verdict_of (object_nodes walked table caller own read_stamp) key) ≡ Some commits
      → (b : Bool) → Tells b (Says key) → Tells b Decision
  decision_told key w at ruled b t =
      told_as b (Says key) Decision (λ s. (key, sym at, w.0, ruled, s)) (λ d. subst Says (w.1 d.0 d.2) d.4) t

-- a step that is seen, by its command and its reply
module _ (walked : Walked) (client place : ℕ) (counted : Counted) (step : Step) (seen : IsSeen walked client place counted step)
    (command : Command) (asks : slice_get (commands_of walked.script client) place ≡ Some command) (reply : ReplyLine)
    (replied : slice_get (replies_to walked.report client) place ≡ Some reply) where
  abbrev who : Caller
  who = caller_of walked.script client

  command_is : step.command ≡ command
  command_is = same_some (sym seen.command ∙ asks)

  reply_is : step.reply ≡ reply
  reply_is = same_some (sym seen.reply ∙ replied)

  pub step_same : (table : List (List Node))
      → AnswersByParts walked table who step ≡ IsPartAnswer walked table who (kept_at step) command.what reply.answer
  step_same table =
      ap (λ (d : Command). IsPartAnswer walked table who (kept_at step) d.what step.reply.answer) command_is
      ∙ ap (λ (r : ReplyLine). IsPartAnswer walked table who (kept_at step) command.what r.answer) reply_is

  pub step_can : CanHave who (kept_at step) command.what step.reply.nodes reply.answer
  step_can =
      subst (λ (d : Command). CanHave who (kept_at step) d.what step.reply.nodes reply.answer) command_is
      (subst (λ (r : ReplyLine). CanHave who (kept_at step) step.command.what step.reply.nodes r.answer) reply_is seen.can.answer)
