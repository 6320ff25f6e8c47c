-- What is told of a command by the kind of its object and by the colours on which it appends is what it can be answered.
use Rattle.std.proofs.Common.{◌≡◌, ◌∙◌, ◌⊎◌, inl, inr, ℕ, List, [], ◌∷◌, Option, Some, None, Bool, refl, ap, sym, subst}
use Rattle.std.specs.List.{Contains}
use Rattle.log_node.specs.Seen.{PlacedNode}
use Rattle.object_fold.specs.Maps.{Value}
use Rattle.object_fold.specs.Nodes.{shard_of}
use Rattle.col_core.specs.Keeping.{Kept}
use Rattle.col_core.proofs.CallerLemmas.{contains_in, in_contains}
use Rattle.script_text.specs.declared.script.Kind.{Kind}
use Rattle.script_text.specs.declared.script.Kind.TheVariants as kinds
use Rattle.script_text.specs.declared.commands.What.{What}
use Rattle.script_text.specs.declared.commands.What.TheVariants as whats
use Rattle.report_text.specs.declared.report.Answer.{Answer}
use Rattle.report_text.specs.declared.report.Answer.TheVariants as answers
use Rattle.report_text.specs.declared.report.Ended.{Ended}
use Rattle.report_text.specs.declared.report.KeyAnswer.{KeyAnswer}
use Rattle.report_text.specs.declared.report.RaisePiece.{RaisePiece}
use Rattle.report_text.specs.declared.report.SyncPiece.{SyncPiece}
use Rattle.column_track.specs.Tracks.{Tells}
use Rattle.lawful_run.specs.Callers.{Caller}
use Rattle.lawful_run.specs.Asks.{Committing, Syncing, Getting, Reading, Deciding, kind_asked, kind_of_object, kind_used, object_colours, rising, shards}
use Rattle.lawful_run.specs.Deeds.{AsksForKey, colours_synced, manner_of}
use Rattle.lawful_run.specs.Parts.{AsksOf, AsksToDecide}
use Rattle.lawful_run.proofs.CallerLemmas.{decide_kind, key_synced, one_shard}
use Rattle.run_rules.specs.Told.{colours_asked}
use Rattle.run_rules.specs.Answering.{AsksKeys, CanEnd, CanGet, CanHave, HasReads}
use Rattle.walk_law.specs.Asking.{AreLow, all_of, colours_in, keys_shown, shards_of}
use Rattle.walk_law.specs.Answered.{CanBeAnswered, CanDecide, CanGetMany, CanGetOf, CanWait, DecidesShard, GetsShard, MayShow, ReadsKeys, SyncsIn}
use Rattle.walk_law.proofs.Members.{told_as}
use Rattle.walk_law.proofs.Shards.{shard_low}

-- ONE KEY

-- the object of a command that asks for a key is the command's
key_object : (caller : Caller) (what : What) (object : ℕ) (key : List ℕ) → AsksForKey what object key
    → kind_of_object caller object ≡ kind_asked caller what
key_object caller what object key asks = sym (ap (kind_used caller) asks.uses)

-- it syncs the key's shard
key_syncs : (caller : Caller) (what : What) (object : ℕ) (key : List ℕ) (own : List ℕ) → AsksForKey what object key
    → object_colours (kind_asked caller what) ≡ own → AreLow own → colours_synced caller what ≡ shard_of own key ∷ []
key_syncs caller what object key own asks is low =
    key_synced caller what object key (kind_asked caller what) asks (key_object caller what object key asks)
    ∙ (ap (λ (o : List ℕ). shards o (key ∷ [])) is ∙ one_shard own key (shard_low own key low))

head_is : (a b : ℕ) → a ∷ [] ≡ b ∷ [] → a ≡ b
head_is a b e = cc

gets_to : (caller : Caller) (what : What) (sync : SyncPiece) (kind : Option Kind) (own : List ℕ)
    → kind_asked caller what ≡ kind → object_colours kind ≡ own → AreLow own → GetsShard own what sync
    → (key : List ℕ) × AsksOf caller what sync kind key
gets_to caller what sync kind own at is low g = (
  g.1,
  (
    g.0,
    g.2,
    key_object caller what g.0 g.1 g.2 ∙ at,
    key_syncs caller what g.0 g.1 own g.2 (ap object_colours at ∙ is) low ∙ ap (λ (c : ℕ). c ∷ []) g.3,
  ),
)

gets_from : (caller : Caller) (what : What) (sync : SyncPiece) (kind : Option Kind) (own : List ℕ)
    → kind_asked caller what ≡ kind → object_colours kind ≡ own → AreLow own
    → (key : List ℕ) (asks : AsksOf caller what sync kind key) → GetsShard own what sync
gets_from caller what sync kind own at is low key asks = (
  asks.0,
  key,
  asks.1,
  head_is (shard_of own key) sync.colour
      (sym (key_syncs caller what asks.0 key own asks.1 (ap object_colours at ∙ is) low) ∙ asks.3),
)

-- a get of a map, a peek or a decide
get_to : (caller : Caller) (what : What) (value : Value) (sync : SyncPiece) (kind : Option Kind)
    → kind_asked caller what ≡ kind → AreLow (object_colours kind) → CanGetOf kind what value sync
    → CanGet caller what sync value kind
get_to caller what value sync None at low g = absurd g
get_to caller what value sync (Some (kinds.Map home colours)) at low g =
    gets_to caller what sync (Some (kinds.Map home colours)) colours at refl low g
get_to caller what value sync (Some (kinds.Parts home colours)) at low g = elim g [
  | inl one ↦ inl (gets_to caller what sync (Some (kinds.Parts home colours)) colours at refl low one)
  | inr both ↦ inr (decides_to caller what sync home colours at both.0, both.1)
] where
  decides_to : (caller : Caller) (what : What) (sync : SyncPiece) (home : ℕ) (colours : List ℕ)
      → kind_asked caller what ≡ Some (kinds.Parts home colours) → DecidesShard colours what sync
      → AsksToDecide caller what sync colours
  decides_to caller what sync home colours at d =
      (d.0, d.1, d.2, home, sym (ap (kind_asked caller) d.2) ∙ at, d.3)
get_to caller what value sync (Some (kinds.Tx home colours)) at low g = absurd g
get_to caller what value sync (Some (kinds.Causal colour)) at low g = absurd g
get_to caller what value sync (Some (kinds.Queue home colour)) at low g = absurd g
get_to caller what value sync (Some (kinds.Tree home colours)) at low g = absurd g

decides_from : (caller : Caller) (what : What) (sync : SyncPiece) (colours : List ℕ) → AsksToDecide caller what sync colours
    → DecidesShard colours what sync
decides_from caller what sync colours a = (a.0, a.1, a.2, a.5)

get_from : (caller : Caller) (what : What) (value : Value) (sync : SyncPiece) (kind : Option Kind)
    → kind_asked caller what ≡ kind → AreLow (object_colours kind) → CanGet caller what sync value kind
    → CanGetOf kind what value sync
get_from caller what value sync None at low g = absurd g
get_from caller what value sync (Some (kinds.Map home colours)) at low g =
    gets_from caller what sync (Some (kinds.Map home colours)) colours at refl low g.0 g.1
get_from caller what value sync (Some (kinds.Parts home colours)) at low g = elim g [
  | inl one ↦ inl (gets_from caller what sync (Some (kinds.Parts home colours)) colours at refl low one.0 one.1)
  | inr both ↦ inr (decides_from caller what sync colours both.0, both.1)
]
get_from caller what value sync (Some (kinds.Tx home colours)) at low g = absurd g
get_from caller what value sync (Some (kinds.Causal colour)) at low g = absurd g
get_from caller what value sync (Some (kinds.Queue home colour)) at low g = absurd g
get_from caller what value sync (Some (kinds.Tree home colours)) at low g = absurd g

-- a get of a causal map
abbrev GetsMany : Caller → What → SyncPiece → Type 0
GetsMany caller what sync = (object : ℕ) × (key : List ℕ) × AsksForKey what object key
    × (kind_of_object caller object ≡ Some (kinds.Causal sync.colour))

many_to : (caller : Caller) (what : What) (sync : SyncPiece) (kind : Option Kind) → kind_asked caller what ≡ kind
    → CanGetMany kind what sync → GetsMany caller what sync
many_to caller what sync None at g = absurd g
many_to caller what sync (Some (kinds.Causal colour)) at g = (
  g.1.0,
  g.1.1,
  g.1.2,
  key_object caller what g.1.0 g.1.1 g.1.2 ∙ (at ∙ ap (λ (c : ℕ). Some (kinds.Causal c)) g.0),
)
many_to caller what sync (Some (kinds.Map home colours)) at g = absurd g
many_to caller what sync (Some (kinds.Tx home colours)) at g = absurd g
many_to caller what sync (Some (kinds.Queue home colour)) at g = absurd g
many_to caller what sync (Some (kinds.Tree home colours)) at g = absurd g
many_to caller what sync (Some (kinds.Parts home colours)) at g = absurd g

many_from : (caller : Caller) (what : What) (sync : SyncPiece) → GetsMany caller what sync
    → CanGetMany (kind_asked caller what) what sync
many_from caller what sync g =
    subst (λ (k : Option Kind). CanGetMany k what sync) (sym g.3 ∙ key_object caller what g.0 g.1 g.2)
    (refl, (g.0, g.1, g.2))

-- a peek that waits
abbrev Waits : Caller → What → SyncPiece → Type 0
Waits caller what sync = (home : ℕ) × (colours : List ℕ) × (key : List ℕ)
    × AsksOf caller what sync (Some (kinds.Parts home colours)) key

wait_to : (caller : Caller) (what : What) (sync : SyncPiece) (kind : Option Kind) → kind_asked caller what ≡ kind
    → AreLow (object_colours kind) → CanWait kind what sync → Waits caller what sync
wait_to caller what sync None at low g = absurd g
wait_to caller what sync (Some (kinds.Parts home colours)) at low g =
    let both = gets_to caller what sync (Some (kinds.Parts home colours)) colours at refl low g in
    (home, colours, both.0, both.1)
wait_to caller what sync (Some (kinds.Map home colours)) at low g = absurd g
wait_to caller what sync (Some (kinds.Tx home colours)) at low g = absurd g
wait_to caller what sync (Some (kinds.Causal colour)) at low g = absurd g
wait_to caller what sync (Some (kinds.Queue home colour)) at low g = absurd g
wait_to caller what sync (Some (kinds.Tree home colours)) at low g = absurd g

wait_from : (caller : Caller) (what : What) (sync : SyncPiece) → AreLow (object_colours (kind_asked caller what))
    → Waits caller what sync → CanWait (kind_asked caller what) what sync
wait_from caller what sync low g =
    let at : kind_asked caller what ≡ Some (kinds.Parts g.0 g.1) = ap (kind_used caller) g.3.1.uses ∙ g.3.2 in
    subst (λ (k : Option Kind). CanWait k what sync) (sym at)
    (gets_from caller what sync (Some (kinds.Parts g.0 g.1)) g.1 at refl
    (subst (λ (k : Option Kind). AreLow (object_colours k)) at low) g.2 g.3)

-- a decide
abbrev Decided : Caller → What → List ℕ → SyncPiece → List RaisePiece → List SyncPiece → Ended → Type 0
Decided caller what asked sync raises syncs ended =
    (colours : List ℕ) × AsksToDecide caller what sync colours × HasReads (rising colours) raises syncs × CanEnd asked ended

decide_to : (caller : Caller) (what : What) (asked : List ℕ) (sync : SyncPiece) (raises : List RaisePiece)
    (syncs : List SyncPiece) (ended : Ended) (kind : Option Kind) → kind_asked caller what ≡ kind
    → CanDecide kind what asked sync raises syncs ended → Decided caller what asked sync raises syncs ended
unfolding all_of
decide_to caller what asked sync raises syncs ended None at g = absurd g
decide_to caller what asked sync raises syncs ended (Some (kinds.Parts home colours)) at g =
    let d = g.0 in
    (colours, (d.0, d.1, d.2, home, sym (ap (kind_asked caller) d.2) ∙ at, d.3), g.1, g.2)
decide_to caller what asked sync raises syncs ended (Some (kinds.Map home colours)) at g = absurd g
decide_to caller what asked sync raises syncs ended (Some (kinds.Tx home colours)) at g = absurd g
decide_to caller what asked sync raises syncs ended (Some (kinds.Causal colour)) at g = absurd g
decide_to caller what asked sync raises syncs ended (Some (kinds.Queue home colour)) at g = absurd g
decide_to caller what asked sync raises syncs ended (Some (kinds.Tree home colours)) at g = absurd g

decide_from : (caller : Caller) (what : What) (asked : List ℕ) (sync : SyncPiece) (raises : List RaisePiece)
    (syncs : List SyncPiece) (ended : Ended) → Decided caller what asked sync raises syncs ended
    → CanDecide (kind_asked caller what) what asked sync raises syncs ended
unfolding all_of
decide_from caller what asked sync raises syncs ended g =
    subst (λ (k : Option Kind). CanDecide k what asked sync raises syncs ended)
    (sym (decide_kind caller what sync g.0 g.1))
    (decides_from caller what sync g.0 g.1, g.2, g.3)

-- READS OF ALL COLOURS

-- what commits syncs all colours of its object
commit_syncs : (caller : Caller) (what : What) → manner_of what ≡ Committing
    → colours_synced caller what ≡ rising (object_colours (kind_asked caller what))
commit_syncs caller (whats.Commit object pairs) m = refl
commit_syncs caller (whats.Mk object path value) m = refl
commit_syncs caller (whats.Rm object path) m = refl
commit_syncs caller (whats.Mv object source target) m = refl
commit_syncs caller _ m = absurd (let f : ⊥ = cc in f)

list_syncs : (caller : Caller) (what : What) (object : ℕ) (path : List ℕ) → what ≡ whats.Ls object path
    → colours_synced caller what ≡ rising (object_colours (kind_asked caller what))
list_syncs caller what object path is =
    subst (λ (w : What). colours_synced caller w ≡ rising (object_colours (kind_asked caller w))) (sym is) refl

-- a read of keys
abbrev Reads : Caller → What → List KeyAnswer → List RaisePiece → List SyncPiece → Type 0
Reads caller what shown raises syncs =
    AsksKeys what (keys_shown shown) × HasReads (colours_synced caller what) raises syncs

keys_to : (caller : Caller) (what : What) (shown : List KeyAnswer) (raises : List RaisePiece) (syncs : List SyncPiece)
    → ReadsKeys (object_colours (kind_asked caller what)) what shown raises syncs → Reads caller what shown raises syncs
unfolding all_of shards_of
keys_to caller (whats.GetAll object keys) shown raises syncs r =
    (inl (object, ap (λ (ks : List (List ℕ)). whats.GetAll object ks) (sym r.0)), r.1)
keys_to caller (whats.Read object keys) shown raises syncs r =
    (inr (object, ap (λ (ks : List (List ℕ)). whats.Read object ks) (sym r.0)), r.1)
keys_to caller _ shown raises syncs r = absurd r

keys_from : (caller : Caller) (what : What) (shown : List KeyAnswer) (raises : List RaisePiece) (syncs : List SyncPiece)
    → Reads caller what shown raises syncs → ReadsKeys (object_colours (kind_asked caller what)) what shown raises syncs
unfolding all_of shards_of
keys_from caller what shown raises syncs r = elim r.0 [
  | inl all ↦ subst (λ (w : What). HasReads (colours_synced caller w) raises syncs
      → ReadsKeys (object_colours (kind_asked caller w)) w shown raises syncs) (sym all.1) (λ h. (refl, h)) r.1
  | inr read ↦ subst (λ (w : What). HasReads (colours_synced caller w) raises syncs
      → ReadsKeys (object_colours (kind_asked caller w)) w shown raises syncs) (sym read.1) (λ h. (refl, h)) r.1
]

-- REFUSALS IN A COLOUR

abbrev Refused : Caller → What → ℕ → Type 0
Refused caller what colour = Contains (colours_synced caller what) colour
    × ((manner_of what ≡ Syncing) ⊎ ((manner_of what ≡ Getting)
    ⊎ ((manner_of what ≡ Reading) ⊎ (manner_of what ≡ Deciding))))

trim_to : (caller : Caller) (what : What) (colour : ℕ) → SyncsIn (object_colours (kind_asked caller what)) what colour
    → Refused caller what colour
unfolding all_of colours_in shards_of
trim_to caller (whats.Sync synced) colour s = (contains_in (synced ∷ []) colour (inl s), inl refl)
trim_to caller (whats.Scan colours) colour s = (s, inr (inr (inl refl)))
trim_to caller (whats.Get object key) colour s = (s, inr (inl refl))
trim_to caller (whats.GetAll object keys) colour s = (s, inr (inr (inl refl)))
trim_to caller (whats.Read object keys) colour s = (s, inr (inr (inl refl)))
trim_to caller (whats.Ls object path) colour s = (s, inr (inr (inl refl)))
trim_to caller (whats.Peek object key) colour s = (s, inr (inl refl))
trim_to caller (whats.Decide object key) colour s =
    let own = object_colours (kind_asked caller (whats.Decide object key)) in (
      contains_in (shard_of own key ∷ rising own) colour (elim s [
        | inl first ↦ inl first
        | inr all ↦ inr (in_contains (rising own) colour all)
      ]),
      inr (inr (inr refl)),
    )
trim_to caller _ colour s = absurd s

trim_from : (caller : Caller) (what : What) (colour : ℕ) → Refused caller what colour
    → SyncsIn (object_colours (kind_asked caller what)) what colour
unfolding all_of colours_in shards_of
trim_from caller (whats.Sync synced) colour r = elim (in_contains (synced ∷ []) colour r.0) [
  | inl e ↦ e
  | inr none ↦ absurd none
]
trim_from caller (whats.Scan colours) colour r = r.0
trim_from caller (whats.Get object key) colour r = r.0
trim_from caller (whats.GetAll object keys) colour r = r.0
trim_from caller (whats.Read object keys) colour r = r.0
trim_from caller (whats.Ls object path) colour r = r.0
trim_from caller (whats.Peek object key) colour r = r.0
trim_from caller (whats.Decide object key) colour r =
    let own = object_colours (kind_asked caller (whats.Decide object key)) in
    elim (in_contains (shard_of own key ∷ rising own) colour r.0) [
      | inl first ↦ inl first
      | inr all ↦ inr (contains_in (rising own) colour all)
    ]
trim_from caller _ colour r = elim r.1 [
  | inl e ↦ absurd (let f : ⊥ = cc in f)
  | inr more ↦ elim more [
    | inl e ↦ absurd (let f : ⊥ = cc in f)
    | inr most ↦ elim most [ inl e ↦ absurd (let f : ⊥ = cc in f) | inr e ↦ absurd (let f : ⊥ = cc in f) ]
  ]
]

-- EACH ANSWER

to : (caller : Caller) (kept : Kept) (what : What) (answer : Answer) → AreLow (object_colours (kind_asked caller what))
    → CanBeAnswered (kind_asked caller what) what (colours_asked caller kept what) answer
    → CanHave caller kept what [] answer
unfolding all_of colours_in
to caller kept what answers.NoMemory low h = refl
to caller kept what (answers.Stood stamp row points) low h = (refl, h.0, h.1)
to caller kept what (answers.StampEnd colour) low h = (refl, h)
to caller kept what (answers.Full used) low h = (refl, h)
to caller kept what (answers.Stopped steps) low h = (refl, h)
to caller kept what (answers.Synced sync plays) low h = h
to caller kept what (answers.Scanned stamp count raises syncs) low h = h
to caller kept what (answers.Pulled count give carry) low h = (refl, h.0, h.1, h.2)
to caller kept what answers.SameRegion low h = (refl, h.0, h.1, h.2)
to caller kept what (answers.Based at base) low h = (refl, h.0, h.1)
to caller kept what (answers.Got value sync) low h =
    (refl, get_to caller what value sync (kind_asked caller what) refl low h)
to caller kept what (answers.GotMany values sync) low h =
    let g = many_to caller what sync (kind_asked caller what) refl h in (refl, g.0, g.1, g.2, g.3)
to caller kept what (answers.GotKeys stamp shown raises syncs) low h =
    let r = keys_to caller what shown raises syncs h in (refl, r.0, r.1)
to caller kept what (answers.Ruled conflict stamp row points read_stamp raises syncs) low h =
    (refl, h.0, h.1, subst (λ (cs : List ℕ). HasReads cs raises syncs) (sym (commit_syncs caller what h.0)) h.2)
to caller kept what (answers.Changed failed stamp row points read_stamp raises syncs) low h =
    (refl, h.0, h.1, subst (λ (cs : List ℕ). HasReads cs raises syncs) (sym (commit_syncs caller what h.0)) h.2)
to caller kept what (answers.Listed names stamp raises syncs) low h =
    let l = h.0 in
    (refl, l.0, l.1, l.2, subst (λ (cs : List ℕ). HasReads cs raises syncs) (sym (list_syncs caller what l.0 l.1 l.2)) h.1)
to caller kept what (answers.Undecided stamp sync) low h =
    let g = wait_to caller what sync (kind_asked caller what) refl low h in (refl, g.0, g.1, g.2, g.3)
to caller kept what (answers.Decided commits stamp sync read_stamp raises syncs ended) low h =
    let g = decide_to caller what (colours_asked caller kept what) sync raises syncs ended (kind_asked caller what) refl h in
    (refl, g.0, g.1, g.2, g.3)
to caller kept what (answers.Moved lined waiting colour events) low h = (refl, h.0, h.1)
to caller kept what answers.NoTx low h = (refl, h.0, h.1, h.2)
to caller kept what (answers.Took value point sync) low h = (refl, h.0, h.1, h.2)
to caller kept what (answers.UnreadTrimmed stamp colour base) low h = (refl, h)
to caller kept what (answers.UnreadNoMemory stamp) low h = (refl, h)
to caller kept what (answers.Trimmed colour base) low h =
    let r = trim_to caller what colour h in (refl, r.0, r.1)
to caller kept what (answers.NotHome home) low h = (refl, h.0, h.1)

from : (caller : Caller) (kept : Kept) (what : What) (answer : Answer) → AreLow (object_colours (kind_asked caller what))
    → CanHave caller kept what [] answer
    → CanBeAnswered (kind_asked caller what) what (colours_asked caller kept what) answer
unfolding all_of colours_in
from caller kept what answers.NoMemory low h = tt
from caller kept what (answers.Stood stamp row points) low h = (h.1, h.2)
from caller kept what (answers.StampEnd colour) low h = h.1
from caller kept what (answers.Full used) low h = h.1
from caller kept what (answers.Stopped steps) low h = h.1
from caller kept what (answers.Synced sync plays) low h = h
from caller kept what (answers.Scanned stamp count raises syncs) low h = h
from caller kept what (answers.Pulled count give carry) low h = (h.1, h.2, h.3)
from caller kept what answers.SameRegion low h = (h.1, h.2, h.3)
from caller kept what (answers.Based at base) low h = (h.1, h.2)
from caller kept what (answers.Got value sync) low h =
    get_from caller what value sync (kind_asked caller what) refl low h.1
from caller kept what (answers.GotMany values sync) low h = many_from caller what sync (h.1, h.2, h.3, h.4)
from caller kept what (answers.GotKeys stamp shown raises syncs) low h =
    keys_from caller what shown raises syncs (h.1, h.2)
from caller kept what (answers.Ruled conflict stamp row points read_stamp raises syncs) low h =
    (h.1, h.2, subst (λ (cs : List ℕ). HasReads cs raises syncs) (commit_syncs caller what h.1) h.3)
from caller kept what (answers.Changed failed stamp row points read_stamp raises syncs) low h =
    (h.1, h.2, subst (λ (cs : List ℕ). HasReads cs raises syncs) (commit_syncs caller what h.1) h.3)
from caller kept what (answers.Listed names stamp raises syncs) low h =
    ((h.1, h.2, h.3), subst (λ (cs : List ℕ). HasReads cs raises syncs) (list_syncs caller what h.1 h.2 h.3) h.4)
from caller kept what (answers.Undecided stamp sync) low h = wait_from caller what sync low (h.1, h.2, h.3, h.4)
from caller kept what (answers.Decided commits stamp sync read_stamp raises syncs ended) low h =
    decide_from caller what (colours_asked caller kept what) sync raises syncs ended (h.1, h.2, h.3, h.4)
from caller kept what (answers.Moved lined waiting colour events) low h = (h.1, h.2)
from caller kept what answers.NoTx low h = (h.1, h.2, h.3)
from caller kept what (answers.Took value point sync) low h = (h.1, h.2, h.3)
from caller kept what (answers.UnreadTrimmed stamp colour base) low h = h.1
from caller kept what (answers.UnreadNoMemory stamp) low h = h.1
from caller kept what (answers.Trimmed colour base) low h = trim_from caller what colour (h.1, h.2)
from caller kept what (answers.NotHome home) low h = (h.1, h.2)

-- THE NODES THAT ARE SHOWN

-- an answer is shown with none but where it may be
pub may_show : (caller : Caller) (kept : Kept) (what : What) (nodes : List PlacedNode) (answer : Answer)
    → CanHave caller kept what nodes answer → MayShow nodes answer
may_show caller kept what nodes answers.NoMemory h = h
may_show caller kept what nodes (answers.Synced sync plays) h = tt
may_show caller kept what nodes (answers.Scanned stamp count raises syncs) h = tt
may_show caller kept what nodes _ h = h.0

shown_to : (caller : Caller) (kept : Kept) (what : What) (nodes : List PlacedNode) (answer : Answer)
    → MayShow nodes answer → CanHave caller kept what [] answer → CanHave caller kept what nodes answer
shown_to caller kept what nodes (answers.Synced sync plays) m h = h
shown_to caller kept what nodes (answers.Scanned stamp count raises syncs) m h = h
shown_to caller kept what nodes answer m h = elsewhere caller kept what nodes answer m h where
  elsewhere : (caller : Caller) (kept : Kept) (what : What) (nodes : List PlacedNode) (answer : Answer)
      → nodes ≡ [] → CanHave caller kept what [] answer → CanHave caller kept what nodes answer
  elsewhere caller kept what nodes answer m h =
      subst (λ (ns : List PlacedNode). CanHave caller kept what ns answer) (sym m) h

shown_from : (caller : Caller) (kept : Kept) (what : What) (nodes : List PlacedNode) (answer : Answer)
    → MayShow nodes answer → CanHave caller kept what nodes answer → CanHave caller kept what [] answer
shown_from caller kept what nodes (answers.Synced sync plays) m h = h
shown_from caller kept what nodes (answers.Scanned stamp count raises syncs) m h = h
shown_from caller kept what nodes answer m h = elsewhere caller kept what nodes answer m h where
  elsewhere : (caller : Caller) (kept : Kept) (what : What) (nodes : List PlacedNode) (answer : Answer)
      → nodes ≡ [] → CanHave caller kept what nodes answer → CanHave caller kept what [] answer
  elsewhere caller kept what nodes answer m h =
      subst (λ (ns : List PlacedNode). CanHave caller kept what ns answer) m h

-- what is told of the one is told of the other
pub can_told : (caller : Caller) (kept : Kept) (what : What) (nodes : List PlacedNode) (answer : Answer)
    (kind : Option Kind) (asked : List ℕ) → kind_asked caller what ≡ kind → asked ≡ colours_asked caller kept what
    → AreLow (object_colours kind) → MayShow nodes answer → (b : Bool) → Tells b (CanBeAnswered kind what asked answer)
    → Tells b (CanHave caller kept what nodes answer)
can_told caller kept what nodes answer kind asked at is low may b told =
    told_as b (CanBeAnswered kind what asked answer) (CanHave caller kept what nodes answer)
    (λ h. shown_to caller kept what nodes answer may
    (to caller kept what answer
    (subst (λ (k : Option Kind). AreLow (object_colours k)) (sym at) low)
    (subst (λ (k : Option Kind). CanBeAnswered k what (colours_asked caller kept what) answer) (sym at)
    (subst (λ (a : List ℕ). CanBeAnswered kind what a answer) is h))))
    (λ h. subst (λ (a : List ℕ). CanBeAnswered kind what a answer) (sym is)
    (subst (λ (k : Option Kind). CanBeAnswered k what (colours_asked caller kept what) answer) at
    (from caller kept what answer (subst (λ (k : Option Kind). AreLow (object_colours k)) (sym at) low)
    (shown_from caller kept what nodes answer may h)))) told
