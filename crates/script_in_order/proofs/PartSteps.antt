-- Peeks and decides, by what their calls did.
use Rattle.std.proofs.Common.{◌≡◌, ◌≢◌, inl, inr, ℕ, ◌<◌, ◌≤◌, zero, suc, Bool, true, false, cond, List, [], ◌∷◌, length, sum, map, set, get_or, Option, Some, None, refl, ap, sym, subst, ◌∙◌, arith, mod-lt}
use Rattle.std.specs.Prelude.{IsTrue, slice_index, if◌then◌else◌}
use Rattle.std.specs.List.{AllPairs}
use Rattle.std.specs.Option.{option_map}
use Rattle.std.specs.Vec.{with_item}
use Rattle.std.proofs.lemmas.Bool.{cases_Bool}
use Rattle.log_node.specs.declared.ids.Counts.{Counts}
use Rattle.log_node.specs.declared.ids.Key.{Key}
use Rattle.log_node.specs.Order.{key_below, same_key}
use Rattle.log_node.specs.Vectors.{at}
use Rattle.log_node.proofs.CallerLemmas.{key-irrefl, same_key-is}
use Rattle.object_fold.specs.declared.kept_line.KeptLine.{KeptLine}
use Rattle.object_fold.specs.Folds.{IsAbsent}
use Rattle.object_fold.specs.Nodes.{shard_of}
use Rattle.part_fold.specs.Decisions.{decision_text}
use Rattle.part_fold.specs.declared.part_fold.PartFold.{PartFold}
use Rattle.part_fold.specs.Agreement.{part_at}
use Rattle.part_fold.specs.Parts.{Part, part_value, place_of, undecided_after}
use Rattle.part_fold.specs.PartStates.{IsPart}
use Rattle.part_fold.specs.Ruled.{AreApart}
use Rattle.col_core.specs.History.{line}
use Rattle.col_core.proofs.CallerLemmas.{In, choice, contains_in, if_true, if_false}
use Rattle.world_laws.specs.declared.steps.Step.TheVariants.{Play}
use Rattle.world_laws.specs.Laws.{IsReached}
use Rattle.world_laws.specs.Worlds.{World, after, after_play, home_of, may_play, may_single, next_id, single_stamp}
use Rattle.world_laws.proofs.CallerLemmas.{run_reached}
use Rattle.script_text.specs.declared.script.Kind.{Kind}
use Rattle.script_text.specs.declared.script.Kind.TheVariants as kinds
use Rattle.script_text.specs.Apart.{is_parts}
use Rattle.script_text.specs.Fitting.{AreObjectColours, HasObject, is_tx}
use Rattle.script_text.specs.declared.script.Object.{Object}
use Rattle.script_text.specs.declared.script.Command.{Command}
use Rattle.report_text.specs.declared.report.Answer.{Answer}
use Rattle.report_text.specs.declared.report.Answer.TheVariants as answers
use Rattle.report_text.specs.declared.report.Ended.{Ended}
use Rattle.report_text.specs.declared.report.Ended.TheVariants as ends
use Rattle.report_text.specs.declared.report.PointPiece.{PointPiece}
use Rattle.report_text.specs.declared.report.RaisePiece.{RaisePiece}
use Rattle.report_text.specs.declared.report.SyncPiece.{SyncPiece}
use Rattle.lawful_run.specs.Asks.{object_colours, rising}
use Rattle.script_meaning.specs.States.{State, Grants, all_granted, answered, kind_in}
use Rattle.script_meaning.specs.Appends.{appended_one, point_in, with_single}
use Rattle.script_meaning.specs.Dequeues.{base_now, object_node_at, sync_now}
use Rattle.script_meaning.specs.Parts.{commits_among, decided, decided_by, decided_in, decision_ended, nodes_now, part_of, peek_answer, peeked}
use Rattle.script_meaning.specs.Stamped.{ReadEnd, Whole, Refused, Unraised, StampedRead, ended_so, keys_read, stamped_read}
use Rattle.script_meaning.proofs.CallerLemmas.{RunsTo, decided_to, keys_ordered, parts_of, shard_below, single_same, single_to, stays_there}
use Rattle.script_in_order.specs.Deciding.{DecidesBehind, EndsDecision}
use Rattle.script_in_order.specs.declared.tx_folds.TxFolds.{TxFolds}
use Rattle.script_in_order.specs.Doing.{DoneBy, with_replies}
use Rattle.script_in_order.specs.declared.folds.Fold.{Fold}
use Rattle.script_in_order.specs.declared.folds.Fold.TheVariants as folds
use Rattle.script_in_order.specs.Folds.{IsKeptLine, IsPartFold, AreFolded, AreTxFolds, nodes_at}
use Rattle.script_in_order.specs.Stamped.{ReadsStamped}
use Rattle.script_in_order.proofs.DequeueSteps.{Entered, entered, ended, entered_of, first_point, stood_so, unanswered}
use Rattle.script_in_order.proofs.FoldsKept.{none_else, parts_with, there_at, tx_of, tx_put}
use Rattle.script_in_order.proofs.GetSteps.{played_nodes}
use Rattle.script_in_order.proofs.HelpsAndClears.{found_with, finds_all}
use Rattle.script_in_order.proofs.ObjectSteps.{has_kind}
use Rattle.script_in_order.proofs.StampedWholes.{finds_same}

-- THE SHARD OF A KEY

pub shard_is : (colours slice key bytes : List ℕ) (colour : ℕ) → colour ≡ shard_of slice bytes → slice ≡ colours
    → bytes ≡ key → colour ≡ shard_of colours key
shard_is colours slice key bytes colour is same of =
    is ∙ (ap (λ (l : List ℕ). shard_of l bytes) same ∙ ap (shard_of colours) of)

pub shard_within : (count : ℕ) (colours key : List ℕ) (colour : ℕ) → AreObjectColours count colours
    → colour ≡ shard_of colours key → colour < count
shard_within count colours key colour own is =
    subst (λ (c : ℕ). c < count) (sym is) (shard_below count colours own.some own.below key)

-- THE FOLD OF A MAP THAT IS PLAYED BY ITS PARTS

parts_tx : (kind : Kind) → is_parts kind ≡ true → is_tx kind ≡ true
parts_tx (kinds.Parts home colours) t = refl
parts_tx _ t = absurd (let f : ⊥ = cc in f)

module _ (w : World) (objects : List Object) (all : List Fold) (object : ℕ) (f : AreFolded w objects all)
    (has : HasObject objects object is_parts) where
  abbrev has_tx : HasObject objects object is_tx
  has_tx = record { found = has.found; there = has.there; kind = parts_tx has.found.kind has.kind }

  pub no_other : (fold : Fold) → fold ≡ get_or all object fold → ((tx : TxFolds) → fold ≡ folds.Tx tx → ⊥) → ⊥
  no_other = none_else w objects all object f has_tx

  module _ (home : ℕ) (colours : List ℕ) (is : kind_in objects object ≡ Some (kinds.Parts home colours)) where
    its_kind : has.found.kind ≡ kinds.Parts home colours
    its_kind =
        let e : Some has.found.kind ≡ Some (kinds.Parts home colours) =
        sym (ap (option_map (λ (o : Object). o.kind)) has.there) ∙ is in cc (e)

    pub parts_at : (fold : Fold) (tx : TxFolds) → fold ≡ get_or all object fold → fold ≡ folds.Tx tx
        → AreTxFolds w (kinds.Parts home colours) tx
    parts_at fold tx there same =
        subst (λ (k : Kind). AreTxFolds w k tx) its_kind (tx_of w objects all object f has_tx fold tx there same)

    pub parts_put : (tx : TxFolds) → AreTxFolds w (kinds.Parts home colours) tx
        → AreFolded w objects (set all object (folds.Tx tx))
    parts_put tx right = tx_put w objects all object f has_tx tx (subst (λ (k : Kind). AreTxFolds w k tx) (sym its_kind) right)

-- no other kind is of such a map
pub only_parts : (objects : List Object) (object : ℕ) (other : Object) → HasObject objects object is_parts
    → ((home : ℕ) (colours : List ℕ) → (get_or objects object other).kind ≡ kinds.Parts home colours → ⊥) → ⊥
only_parts objects object other has none =
    let p = parts_of (get_or objects object other).kind (has_kind objects object other has) in none p.0 p.1 p.2

-- A PEEK

-- on the colour of its key's shard
abbrev peeked_on : State → Command → List ℕ → List ℕ → ℕ → State
peeked_on state command colours key colour =
    let w = state.world in
    let client = command.client in
    let nodes = nodes_now w client colour in
    let part = part_of colours key in
    if may_play w client colour then
    answered state command (after w (Play client colour))
    (peek_answer (undecided_after part nodes) (part_value part nodes key) (sync_now w client colour)) []
    else answered state command w (answers.Trimmed colour (base_now w client colour)) []

module _ (command : Command) (w new : World) (colours key : List ℕ) (colour : ℕ) (is : colour ≡ shard_of colours key) where
  pub peek_trimmed : (base : Counts) → may_play w command.client colour ≡ false → base ≡ base_now w command.client colour
      → new ≡ w
      → DoneBy (λ _ state. peeked state command colours key) command w new (answers.Trimmed colour base) []
  peek_trimmed base refused same there =
      subst (λ (x : World). DoneBy (λ _ state. peeked state command colours key) command w x
      (answers.Trimmed colour base) []) (sym there)
      (subst (λ (c : ℕ). DoneBy (λ _ state. peeked_on state command colours key c) command w w
      (answers.Trimmed colour base) []) is (record {
        grants = all_granted;
        begun = refl;
        is = λ replies.
            if_false (may_play w command.client colour) _
            (answered (with_replies w replies) command w
            (answers.Trimmed colour (base_now w command.client colour)) []) refused
            ∙ ap (λ (b : Counts). answered (with_replies w replies) command w (answers.Trimmed colour b) []) (sym same);
      }))

  -- what the part of a key's shard answers
  abbrev answer_in : List ℕ → ℕ → Answer
  answer_in bytes c =
      let nodes = nodes_now w command.client c in
      peek_answer (undecided_after (part_of colours bytes) nodes) (part_value (part_of colours bytes) nodes bytes)
      (sync_now w command.client c)

  pub peek_done : (answer : Answer) (bytes : List ℕ) → may_play w command.client colour ≡ true
      → new ≡ after w (Play command.client colour) → bytes ≡ key → answer ≡ answer_in bytes (shard_of colours bytes)
      → DoneBy (λ _ state. peeked state command colours key) command w new answer []
  peek_done answer bytes may there same answer_is =
      let its : answer ≡ answer_in key colour =
      answer_is ∙ (ap (λ (k : List ℕ). answer_in k (shard_of colours k)) same ∙ ap (answer_in key) (sym is)) in
      subst (λ (c : ℕ). DoneBy (λ _ state. peeked_on state command colours key c) command w new answer []) is (record {
        grants = all_granted;
        begun = refl;
        is = λ replies.
            let shown : World → Answer → State = λ x a. answered (with_replies w replies) command x a [] in
            let given = answer_in key colour in
            if_true (may_play w command.client colour) (shown (after w (Play command.client colour)) given) _ may
            ∙ (ap (λ (x : World). shown x given) (sym there) ∙ ap (shown new) (sym its));
      })

-- THE PART OF A KEY'S SHARD

-- one that was folded on to what a client plays now
pub part_played : (w : World) (client colour own : ℕ) (sync : SyncPiece) (kept : KeptLine PartFold) → own ≡ home_of w client
    → sync ≡ sync_now w client colour → kept.count ≡ at sync.counts own → IsKeptLine IsPart w own colour kept
    → IsPart kept.state (nodes_now w client colour)
part_played w client colour own sync kept home same count f =
    subst (IsPart kept.state)
    (ap (λ (n : ℕ). nodes_at w (record { region = own; colour = colour; count = n })) count
    ∙ played_nodes w client colour own sync home same) f.folded

-- which is no further than that
pub within_line : (w : World) (client colour own : ℕ) (kept : KeptLine PartFold) (count : ℕ) → own ≡ home_of w client
    → count ≡ length (line (w.histories own colour)) → IsKeptLine IsPart w (home_of w client) colour kept
    → kept.count ≤ count
within_line w client colour own kept count home is f =
    let low : kept.count ≤ length (line (w.histories own colour)) =
    subst (λ (r : ℕ). kept.count ≤ length (line (w.histories r colour))) (sym home) f.within in
    omega (arith, low, is)

-- one of which no node is folded
pub part_opened : (colours : List ℕ) (place at count : ℕ) (kept : KeptLine PartFold) (state : PartFold) → kept.state ≡ state
    → state.part ≡ record { place = place; colours = count } → place ≡ at → count ≡ length colours
    → kept.state.part ≡ part_at colours at
part_opened colours place at count kept state is part same many =
    ap (λ (s : PartFold). s.part) is
    ∙ (part
    ∙ (ap (λ (n : ℕ). let p : Part = record { place = n; colours = count } in p) same
    ∙ ap (λ (n : ℕ). let p : Part = record { place = at; colours = n } in p) many))

-- a key's place is one of the places of a map's colours
pub place_within : (count : ℕ) (colours key : List ℕ) (parts : List (KeptLine PartFold)) (place : ℕ)
    → AreObjectColours count colours → length parts ≡ length colours → place ≡ place_of (length colours) key
    → place < length parts
place_within count colours key parts place own all is =
    let low = mod-lt (sum key) own.some in omega (arith, low, all, is)

-- as it stands at the key's place
module _ (w : World) (client count : ℕ) (colours key : List ℕ) (own : AreObjectColours count colours) (fold : TxFolds)
    (f : AreTxFolds w (kinds.Parts (home_of w client) colours) fold) (place colour : ℕ) (kept : KeptLine PartFold)
    (place_is : place ≡ place_of (length colours) key) (colour_is : colour ≡ shard_of colours key)
    (value : kept ≡ get_or fold.parts.items place kept) where
  right : IsPartFold w (home_of w client) colours place kept
  right =
      f.parts.each place kept (there_at fold.parts.items place kept
      (place_within count colours key fold.parts.items place own f.parts.all place_is) value)

  kept_part : kept.state.part ≡ part_of colours key
  kept_part = right.part_is ∙ ap (part_at colours) place_is

  its_colour : slice_index colours place ≡ colour
  its_colour = ap (slice_index colours) place_is ∙ sym colour_is

  pub kept_line : IsKeptLine IsPart w (home_of w client) colour kept
  kept_line = subst (λ (c : ℕ). IsKeptLine IsPart w (home_of w client) c kept) its_colour right.folded

  -- what is told by its part and its colour is told by those of the key
  pub told_by : (P : Part → ℕ → Type 0) → P kept.state.part colour → P (part_of colours key) (shard_of colours key)
  told_by P told = subst (P (part_of colours key)) colour_is (subst (λ (part : Part). P part colour) kept_part told)

  -- folded on, it is right still
  pub kept_on : (new : KeptLine PartFold) → new.state.part ≡ kept.state.part
      → IsKeptLine IsPart w (home_of w client) colour new
      → AreTxFolds w (kinds.Parts (home_of w client) colours) (record fold { parts = with_item fold.parts place new })
  kept_on new same line = record {
    map = f.map;
    parts = parts_with w (home_of w client) colours fold.parts.items place new f.parts (record {
      part_is = same ∙ right.part_is;
      folded = subst (λ (c : ℕ). IsKeptLine IsPart w (home_of w client) c new) (sym its_colour) line;
    });
    ruled = f.ruled;
  }

-- a client's sync of a key's shard, and the transaction for which the part waits
module _ (w : World) (client : ℕ) (colours key bytes : List ℕ) (colour : ℕ) (is : colour ≡ shard_of colours key)
    (same : bytes ≡ key) where
  its_shard : shard_of colours bytes ≡ colour
  its_shard = ap (shard_of colours) same ∙ sym is

  pub synced_here : (sync : SyncPiece) → sync ≡ sync_now w client (shard_of colours bytes) → sync ≡ sync_now w client colour
  synced_here sync at_bytes = at_bytes ∙ ap (sync_now w client) its_shard

  pub waits_here : (waits : Option Key)
      → waits ≡ undecided_after (part_of colours bytes) (nodes_now w client (shard_of colours bytes))
      → waits ≡ undecided_after (part_of colours key) (nodes_now w client colour)
  waits_here waits at_bytes =
      at_bytes
      ∙ (ap (λ (k : List ℕ). undecided_after (part_of colours k) (nodes_now w client (shard_of colours bytes))) same
      ∙ ap (λ (c : ℕ). undecided_after (part_of colours key) (nodes_now w client c)) its_shard)

-- a play leaves the shape
pub play_shape : (w v : World) (client colour : ℕ) → v ≡ after w (Play client colour) → v.shape ≡ w.shape
play_shape w v client colour is =
    ap (λ (x : World). x.shape) is
    ∙ choice (λ (x : World). x.shape ≡ w.shape) (may_play w client colour) (after_play w client colour) w (λ _. refl)
    (λ _. refl)

pub play_reached : (w v : World) (client colour : ℕ) → IsReached w → v ≡ after w (Play client colour) → IsReached v
play_reached w v client colour reached is =
    subst IsReached (sym is) (run_reached w (Play client colour ∷ []) reached)

-- THE NODES THAT A DECIDE READS

-- nodes of rising keys are apart
absent_behind : (w : World) (key : Key) (keys : List Key) → ((k : Key) → In k keys → key_below key k ≡ true)
    → IsAbsent key (map (object_node_at w) keys)
absent_behind w key [] below = tt
absent_behind w key (k ∷ keys) below = (
  elim (cases_Bool (same_key k key)) [
    | inl t ↦
        (let same = same_key-is k key t in
        absurd (key-irrefl key (subst (λ (x : Key). key_below key x ≡ true) same (below k (inl refl)))))
    | inr f ↦ f
  ],
  absent_behind w key keys (λ x i. below x (inr i)),
)

apart_rising : (w : World) (keys : List Key) → AllPairs (λ a b. IsTrue (key_below a b)) keys
    → AreApart (map (object_node_at w) keys)
apart_rising w [] rising = tt
apart_rising w (key ∷ keys) rising = (
  absent_behind w key keys (λ k i.
      let c = contains_in keys k i in
      subst (λ (x : Key). key_below key x ≡ true) c.2
      (rising zero (suc c.0) k (omega arith) (let l = c.1 in omega (arith, l)))),
  apart_rising w keys (λ i j d lt there. rising (suc i) (suc j) d (omega (arith, lt)) (omega (arith, there))),
)

-- so what became of one of them is told
pub told_apart : (w : World) → IsReached w → (client stamp : ℕ) (colours : List ℕ)
    → AreApart (map (object_node_at w) (keys_read w client stamp colours))
told_apart w reached client stamp colours =
    apart_rising w (keys_read w client stamp colours) (keys_ordered w reached client stamp colours).rising

-- THE APPEND OF A DECISION

module _ (command : Command) (text : List ℕ) (colour : ℕ) (w new : World) where
  abbrev client : ℕ
  client = command.client

  abbrev Ends : Ended → Type 0
  Ends last = EndsDecision command colour text w new last

  -- the states in which it may end
  abbrev stood_in : State → (Ended → Answer) → World → ℕ → PointPiece → State
  stood_in state told x stamp point = answered state command x (told (ends.Stood stamp point)) []

  abbrev none_in : State → (Ended → Answer) → World → State
  none_in state told x = answered state command x (told (ends.StampEnd colour)) []

  abbrev without_in : State → (Ended → Answer) → World → State
  without_in state told x = answered state command x (told ends.NoMemory) []

  abbrev point_of : World → PointPiece
  point_of x = point_in w x client (next_id w client) colour

  pub ends_stood : (answer : Answer) (stamp : ℕ) (row : Option ℕ) (points list : List PointPiece) (other : PointPiece)
      → answer ≡ answers.Stood stamp row points → list ≡ points
      → DoneBy (λ grants state. appended_one grants state command text colour) command w new answer []
      → Ends (ends.Stood stamp (get_or list 0 other))
  ends_stood answer stamp row points list other is same d =
      let s = stood_so command text colour w new answer stamp row points is (entered_of command text colour w new answer d) in
      record {
        helps = s.grants.helps;
        own = true;
        is = λ grants helps own state told.
            let v = with_single grants w client text colour in
            let stamp_in = single_stamp w client colour in
            if_true grants.own
            (cond (may_single w client colour) (stood_in state told v stamp_in (point_of v)) (none_in state told w))
            (without_in state told w) own
            ∙ (if_true (may_single w client colour) (stood_in state told v stamp_in (point_of v)) (none_in state told w) s.may
            ∙ (ap (λ (x : World). stood_in state told x stamp_in (point_of x))
            (single_same grants s.grants helps w client text colour ∙ s.single)
            ∙ (ap (λ (n : ℕ). stood_in state told new n (point_of new)) s.stamp_is
            ∙ ap (stood_in state told new stamp) (sym (first_point (point_of new) other list (s.points_are ∙ sym same))))));
      }

  not_stood : (answer : Answer) → ((stamp : ℕ) (row : Option ℕ) (points : List PointPiece)
      → answer ≡ answers.Stood stamp row points → ⊥) → Entered command text colour w new answer → Ends (ends.StampEnd colour)
  not_stood answer other (entered g begun may single is) = absurd (other _ _ _ (sym is))
  not_stood answer other (ended none same is) = record {
    helps = λ _ _. true;
    own = true;
    is = λ grants helps own state told.
        let v = with_single grants w client text colour in
        if_true grants.own
        (cond (may_single w client colour) (stood_in state told v (single_stamp w client colour) (point_of v))
        (none_in state told w)) (without_in state told w) own
        ∙ (if_false (may_single w client colour) (stood_in state told v (single_stamp w client colour) (point_of v))
        (none_in state told w) none
        ∙ ap (none_in state told) same);
  }

  pub ends_without_stamp : (answer : Answer) → ((stamp : ℕ) (row : Option ℕ) (points : List PointPiece)
      → answer ≡ answers.Stood stamp row points → ⊥)
      → DoneBy (λ grants state. appended_one grants state command text colour) command w new answer []
      → Ends (ends.StampEnd colour)
  ends_without_stamp answer other d = not_stood answer other (entered_of command text colour w new answer d)

  pub ends_without_memory : new ≡ w → Ends ends.NoMemory
  ends_without_memory same = record {
    helps = λ _ _. true;
    own = false;
    is = λ grants helps own state told.
        let v = with_single grants w client text colour in
        if_false grants.own
        (cond (may_single w client colour) (stood_in state told v (single_stamp w client colour) (point_of v))
        (none_in state told w)) (without_in state told w) own
        ∙ ap (without_in state told) (sym same);
  }

  -- steps lead there
  pub decision_to : (last : Ended) → Ends last → RunsTo w new
  decision_to last d =
      let g : Grants = record all_granted { helps = d.helps; own = d.own } in
      let v = with_single g w client text colour in
      let told : Ended → Answer = λ _. answers.NoMemory in
      let yes = stood_in (unanswered w) told v (single_stamp w client colour) (point_of v) in
      let no = none_in (unanswered w) told w in
      subst (RunsTo w) (ap (λ (s : State). s.world) (d.is g refl refl (unanswered w) told))
      (choice (λ (s : State). RunsTo w s.world) g.own (cond (may_single w client colour) yes no)
      (without_in (unanswered w) told w)
      (λ _. choice (λ (s : State). RunsTo w s.world) (may_single w client colour) yes no
      (λ _. single_to g w command text colour) (λ _. stays_there w)) (λ _. stays_there w))

-- BEHIND THE SYNC

-- a read that found no memory before its first raise ends as one whose first raise finds none
unraised : (g : Grants) (helps : ℕ → ℕ → Bool) (w : World) (u : ℕ) (colours : List ℕ) → colours ≢ []
    → stamped_read (record g { raises = λ _. false; helps = helps }) w u colours ≡ record { world = w; ends = Unraised }
unraised g helps w u [] some = absurd (some refl)
unraised g helps w u (c ∷ colours) some = refl

module _ (command : Command) (own : List ℕ) (sync : SyncPiece) (waits : Key) where
  abbrev Decides : World → World → Answer → Type 0
  Decides old new answer = DecidesBehind command own sync waits old new answer

  pub not_begun : (cs : List ℕ) → cs ≡ rising own → cs ≢ [] → (old new : World) → new ≡ old
      → Decides old new answers.NoMemory
  not_begun cs is some old new same =
      let all : Grants = record all_granted { raises = λ _. false } in record {
        grants = all;
        begun = refl;
        is = λ state.
            ap (λ (r : StampedRead).
            ended_so all state command (decided_in all state command waits sync r.world) r.world r.ends)
            (unraised all all.read_helps old command.client (rising own) (subst (λ (l : List ℕ). l ≢ []) is some))
            ∙ ap (λ (x : World). answered state command x answers.NoMemory []) (sym same);
      }

  -- the read led there and ended so
  module _ (old x : World) (e : ReadEnd) (reads : ReadsStamped old x command.client (rising own) e) where
    abbrev found : Grants
    found = found_with (λ _. true) reads.finds

    -- what is granted, with this for the nodes that were read and for the append
    abbrev granted : Bool → (ℕ → ℕ → Bool) → Bool → Grants
    granted items helps last = record all_granted {
      raises = reads.found;
      read_helps = found.helps;
      items = items;
      helps = helps;
      own = last;
    }

    read_is : (items : Bool) (helps : ℕ → ℕ → Bool) (last : Bool) (state : State)
        → decided_by (granted items helps last) state command own sync old (Some waits)
        ≡ ended_so (granted items helps last) state command (decided_in (granted items helps last) state command waits sync x) x
        e
    read_is items helps last state =
        let all = granted items helps last in
        let reading : Grants = record all { helps = found.helps } in
        ap (λ (r : StampedRead). ended_so all state command (decided_in all state command waits sync r.world) r.world r.ends)
        (reads.is reading refl (finds_same found reading refl 0 reads.finds (finds_all (λ _. true) reads.finds)))

  pub not_raised : (old x : World) → ReadsStamped old x command.client (rising own) Unraised
      → Decides old x answers.NoMemory
  not_raised old x reads = record {
    grants = granted old x Unraised reads true (λ _ _. true) true;
    begun = refl;
    is = read_is old x Unraised reads true (λ _ _. true) true;
  }

  pub not_played : (old x : World) (colour : ℕ) (base : Counts)
      → ReadsStamped old x command.client (rising own) (Refused colour base) → Decides old x (answers.Trimmed colour base)
  not_played old x colour base reads = record {
    grants = granted old x (Refused colour base) reads true (λ _ _. true) true;
    begun = refl;
    is = read_is old x (Refused colour base) reads true (λ _ _. true) true;
  }

  module _ (old x : World) (stamp : ℕ) (raises : List RaisePiece) (syncs : List SyncPiece) (keys : List Key)
      (reads : ReadsStamped old x command.client (rising own) (Whole stamp raises syncs keys)) where
    -- no memory for what is made of the nodes
    pub not_ruled : Decides old x answers.NoMemory
    not_ruled = record {
      grants = granted old x (Whole stamp raises syncs keys) reads false (λ _ _. true) true;
      begun = refl;
      is = read_is old x (Whole stamp raises syncs keys) reads false (λ _ _. true) true;
    }

    pub ruled : (new : World) (commits : Bool) (text : List ℕ) (last : Ended)
        → commits ≡ commits_among (map (object_node_at x) keys) waits
        → text ≡ decision_text (record { key = waits; commits = commits })
        → EndsDecision command sync.colour text x new last
        → Decides old new (answers.Decided commits waits.stamp sync stamp raises syncs last)
    ruled new commits text last commits_are text_is said =
        let all = granted old x (Whole stamp raises syncs keys) reads true said.helps said.own in
        let told : Bool → Ended → Answer = λ b. answers.Decided b waits.stamp sync stamp raises syncs in record {
          grants = all;
          begun = refl;
          is = λ state.
              read_is old x (Whole stamp raises syncs keys) reads true said.helps said.own state
              ∙ (ap (λ (b : Bool). decision_ended all state command x sync.colour
              (decision_text (record { key = waits; commits = b })) (told b)) (sym commits_are)
              ∙ (ap (λ (t : List ℕ). decision_ended all state command x sync.colour t (told commits)) (sym text_is)
              ∙ said.is all refl refl state (told commits)));
        }

-- by the colours that were read, as they are listed
pub ruled_so : (command : Command) (own : List ℕ) (sync : SyncPiece) (waits : Key) (old x : World) (stamp : ℕ)
    (raises : List RaisePiece) (syncs : List SyncPiece) (cs : List ℕ) → cs ≡ rising own
    → ReadsStamped old x command.client (rising own)
    (Whole stamp raises syncs (keys_read x command.client stamp (rising own)))
    → (new : World) (commits : Bool) (text : List ℕ) (last : Ended)
    → commits ≡ commits_among (map (object_node_at x) (keys_read x command.client stamp cs)) waits
    → text ≡ decision_text (record { key = waits; commits = commits }) → EndsDecision command sync.colour text x new last
    → DecidesBehind command own sync waits old new (answers.Decided commits waits.stamp sync stamp raises syncs last)
ruled_so command own sync waits old x stamp raises syncs cs is reads new commits text last commits_are =
    ruled command own sync waits old x stamp raises syncs (keys_read x command.client stamp (rising own)) reads new commits
    text last
    (commits_are
    ∙ ap (λ (l : List ℕ). commits_among (map (object_node_at x) (keys_read x command.client stamp l)) waits) is)

-- steps lead there
pub behind_to : (command : Command) (own : List ℕ) (sync : SyncPiece) (waits : Key) (old new : World) (answer : Answer)
    → DecidesBehind command own sync waits old new answer → RunsTo old new
behind_to command own sync waits old new answer d =
    subst (RunsTo old) (ap (λ (s : State). s.world) (d.is (unanswered old)))
    (decided_to d.grants (unanswered old) command own sync old (Some waits))

-- ALL OF IT

-- on the colour of its key's shard, of a map with these colours
abbrev decided_on : Grants → State → Command → List ℕ → List ℕ → ℕ → State
decided_on grants state command colours key colour =
    let w = state.world in
    let client = command.client in
    if may_play w client colour then
    decided_by grants state command colours (sync_now w client colour) (after w (Play client colour))
    (undecided_after (part_of colours key) (nodes_now w client colour))
    else answered state command w (answers.Trimmed colour (base_now w client colour)) []

module _ (objects : List Object) (object : ℕ) (command : Command) (w new : World) (colours key : List ℕ) (colour : ℕ)
    (its : object_colours (kind_in objects object) ≡ colours) (is : colour ≡ shard_of colours key) where
  abbrev Does : Answer → Type 0
  Does answer = DoneBy (λ grants state. decided objects grants state command object key) command w new answer []

  does_on : (answer : Answer)
      → DoneBy (λ grants state. decided_on grants state command colours key colour) command w new answer [] → Does answer
  does_on answer d =
      subst (λ (cs : List ℕ). DoneBy (λ grants state. decided_on grants state command cs key (shard_of cs key)) command w new
      answer []) (sym its)
      (subst (λ (c : ℕ). DoneBy (λ grants state. decided_on grants state command colours key c) command w new answer []) is d)

  pub decide_trimmed : (base : Counts) → may_play w command.client colour ≡ false
      → base ≡ base_now w command.client colour → new ≡ w → Does (answers.Trimmed colour base)
  decide_trimmed base refused same there = does_on (answers.Trimmed colour base) (record {
    grants = all_granted;
    begun = refl;
    is = λ replies.
        if_false (may_play w command.client colour) _
        (answered (with_replies w replies) command w
        (answers.Trimmed colour (base_now w command.client colour)) []) refused
        ∙ (ap (λ (b : Counts). answered (with_replies w replies) command w (answers.Trimmed colour b) []) (sym same)
        ∙ ap (λ (x : World). answered (with_replies w replies) command x (answers.Trimmed colour base) []) (sym there));
  })

  -- the shard is played
  module _ (v : World) (sync : SyncPiece) (waits : Option Key) (may : may_play w command.client colour ≡ true)
      (there : v ≡ after w (Play command.client colour)) (sync_is : sync ≡ sync_now w command.client colour)
      (waits_are : waits ≡ undecided_after (part_of colours key) (nodes_now w command.client colour)) where
    played : (grants : Grants) (state : State) → state.world ≡ w
        → decided_on grants (with_replies w state) command colours key colour
        ≡ decided_by grants (with_replies w state) command colours sync v waits
    played grants state same =
        let from = with_replies w state in
        let go : SyncPiece → World → Option Key → State = λ s x o. decided_by grants from command colours s x o in
        let o = undecided_after (part_of colours key) (nodes_now w command.client colour) in
        if_true (may_play w command.client colour)
        (go (sync_now w command.client colour) (after w (Play command.client colour)) o) _ may
        ∙ (ap (λ (s : SyncPiece). go s (after w (Play command.client colour)) o) (sym sync_is)
        ∙ (ap (λ (x : World). go sync x o) (sym there) ∙ ap (go sync v) (sym waits_are)))

    pub decide_none : waits ≡ None → new ≡ v → Does (answers.Got None sync)
    decide_none none same = does_on (answers.Got None sync) (record {
      grants = all_granted;
      begun = refl;
      is = λ replies.
          let from = with_replies w replies in
          played all_granted from refl
          ∙ (ap (decided_by all_granted from command colours sync v) none
          ∙ ap (λ (x : World). answered from command x (answers.Got None sync) []) (sym same));
    })

    pub decide_some : (key : Key) (answer : Answer) → waits ≡ Some key
        → DecidesBehind command colours sync key v new answer → Does answer
    decide_some key answer some d = does_on answer (record {
      grants = d.grants;
      begun = d.begun;
      is = λ replies.
          let from = with_replies w replies in
          played d.grants from refl
          ∙ (ap (decided_by d.grants from command colours sync v) some ∙ d.is from);
    })
