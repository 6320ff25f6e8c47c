-- What nodes could say: by the command, by the answer that tells of a node, and by the text that is shown of it.
use Rattle.std.proofs.Common.{◌≡◌, ℕ, zero, suc, ◌<◌, Bool, true, false, List, [], ◌∷◌, map, Option, Some, None, refl, ap, sym, subst, ◌∙◌, arith, get_or}
use Rattle.std.specs.Prelude.{IfOk, IfSome, Result, Ok, Err, not, if◌then◌else◌}
use Rattle.std.specs.List.{All, fold}
use Rattle.std.proofs.lemmas.Bool.{ne_eqb, true≢false}
use Rattle.std.proofs.lemmas.List.Elements.{All-nil}
use Rattle.log_node.specs.declared.ids.Id.{Id}
use Rattle.log_node.specs.declared.node.At.{At}
use Rattle.log_node.specs.declared.node.At.TheVariants as ats
use Rattle.log_node.specs.declared.node.Node.{Node}
use Rattle.log_node.specs.declared.forms.Pair.{Pair}
use Rattle.log_node.specs.declared.forms.Version.{Version}
use Rattle.log_node.proofs.CallerLemmas.{same_some}
use Rattle.tree_fold.specs.declared.change.Change.{Change}
use Rattle.tree_fold.specs.Changes.{IsChange}
use Rattle.col_core.specs.Log.{Log}
use Rattle.col_core.specs.Keeping.{Kept}
use Rattle.script_text.specs.declared.script.Kind.{Kind}
use Rattle.script_text.specs.declared.commands.What.{What}
use Rattle.script_text.specs.declared.commands.What.TheVariants as whats
use Rattle.script_text.specs.declared.uses.ReadUse.TheVariants.{Leaves, Takes, UsesUp}
use Rattle.script_text.specs.declared.uses.Use.{Use}
use Rattle.script_text.specs.declared.uses.Use.TheVariants.{OfLog, OfObject}
use Rattle.script_text.specs.Commands.{use_of}
use Rattle.report_text.specs.declared.report.Answer.{Answer}
use Rattle.report_text.specs.declared.report.Answer.TheVariants as answers
use Rattle.report_text.specs.declared.report.Ended.TheVariants as ends
use Rattle.report_text.specs.declared.report.KeyAnswer.{KeyAnswer}
use Rattle.report_text.specs.declared.report.RaisePiece.{RaisePiece}
use Rattle.report_text.specs.declared.report.SyncPiece.{SyncPiece}
use Rattle.report_text.specs.declared.report.Report.{Report}
use Rattle.lawful_run.specs.Asks.{kind_asked, object_colours}
use Rattle.lawful_run.specs.Callers.{Caller, node_of}
use Rattle.lawful_run.specs.Deeds.{Saying, found_by, saying_of}
use Rattle.lawful_run.specs.Reads.{kept_after_piece, kept_after_place}
use Rattle.run_rules.specs.Telling.{account_of, no_nodes}
use Rattle.run_rules.specs.Told.{OfEachStep, is_several, kept_after_raises, kept_after_syncs, kept_deciding}
use Rattle.run_rules.specs.Nodes.{any_decision, node_asked, node_said, set_reached, text_told}
use Rattle.run_rules.specs.Agreeing.{keys_found}
use Rattle.run_rules.specs.Said.{CouldSay, CouldSayShown, SaysText, ShownCouldBeSaid, shown_text}
use Rattle.column_track.specs.Tracks.{Tells}
use Rattle.walk_law.specs.Asking.{AreFoundOf, keys_shown}
use Rattle.walk_law.specs.TextsSaid.{CanSay, CommitsAs, IsTransactionOn, SaysIfAny, ShowsSayable, tells_node}
use Rattle.walk_law.specs.Walking.{DecidesEachStep, Walked, log_walked}
use Rattle.walk_law.proofs.Members.{told_as}

-- BY THE COMMAND

-- where a node is said
abbrev IfSaid : Option Saying → Type 0 → Type 0
IfSaid None P = Unit {0}
IfSaid (Some saying) P = P

-- a command whose node says the same whatever a read found
module _ (says : Option (List Version) → Option Saying) (same : (found : Option (List Version)) → says found ≡ says None) where
  -- some found versions of these keys let the node say the text
  abbrev CouldBe : Option (List Version) → List ℕ → Type 0
  CouldBe kept text = (found : Option (List Version)) × (keys_found found ≡ keys_found kept) × SaysText (says found) text

  to_plain : (kept : Option (List Version)) (text : List ℕ) (o : Option Saying) → says None ≡ o → SaysIfAny o text
      → IfSaid o (CouldBe kept text)
  to_plain kept text None is any = tt
  to_plain kept text (Some saying) is any =
      (kept, refl, subst (λ (s : Option Saying). SaysText s text) (sym (same kept ∙ is)) any)

  from_plain : (kept : Option (List Version)) (text : List ℕ) (o : Option Saying) → says None ≡ o → IfSaid o (CouldBe kept text)
      → SaysIfAny o text
  from_plain kept text None is could = tt
  from_plain kept text (Some saying) is could = subst (λ (s : Option Saying). SaysText s text) (same could.0 ∙ is) could.2

  plain_told : (kept : Option (List Version)) (text : List ℕ) (b : Bool) → Tells b (SaysIfAny (says None) text)
      → Tells b (IfSaid (says kept) (CouldBe kept text))
  plain_told kept text b told =
      subst (λ (o : Option Saying). Tells b (IfSaid o (CouldBe kept text))) (sym (same kept))
      (told_as b _ _ (to_plain kept text (says None) refl) (from_plain kept text (says None) refl) told)

-- a commit names the keys of its read
commit_told : (kind : Option Kind) (object : ℕ) (pairs : List Pair) (kept : Option (List Version))
    (shown : Option (List KeyAnswer)) (text : List ℕ) (b : Bool) → AreFoundOf kept shown → Tells b (CommitsAs shown pairs text)
    → Tells b (IfSaid (saying_of kind kept (whats.Commit object pairs))
    ((found : Option (List Version)) × (keys_found found ≡ keys_found kept)
    × SaysText (saying_of kind found (whats.Commit object pairs)) text))
commit_told kind object pairs None None text b are told = told
commit_told kind object pairs None (Some shown) text b are told = absurd are
commit_told kind object pairs (Some versions) None text b are told = absurd are
commit_told kind object pairs (Some versions) (Some shown) text b are told = told_as b _ _ to from told where
  to : IsTransactionOn (keys_shown shown) pairs text → (found : Option (List Version))
      × (keys_found found ≡ Some (map (λ (v : Version). v.key) versions))
      × SaysText (saying_of kind found (whats.Commit object pairs)) text
  to such = (Some such.0, ap (λ (l : List (List ℕ)). Some l) (such.1 ∙ sym are), such.2)

  from : (found : Option (List Version)) × (keys_found found ≡ Some (map (λ (v : Version). v.key) versions))
      × SaysText (saying_of kind found (whats.Commit object pairs)) text → IsTransactionOn (keys_shown shown) pairs text
  from (None, same, says) = absurd (let f : ⊥ = cc in f)
  from (Some found, same, says) = (found, same_some same ∙ are, says)

-- what a command can say is what it could have its node say
said_told : (kind : Option Kind) (kept : Option (List Version)) (shown : Option (List KeyAnswer)) (what : What)
    (text : List ℕ) (b : Bool) → AreFoundOf kept shown → Tells b (CanSay kind shown what text)
    → Tells b (IfSaid (saying_of kind kept what)
    ((found : Option (List Version)) × (keys_found found ≡ keys_found kept) × SaysText (saying_of kind found what) text))
said_told kind kept shown (whats.Commit object pairs) text b are told =
    commit_told kind object pairs kept shown text b are told
said_told kind kept shown what text b are told =
    plain_told (λ (found : Option (List Version)). saying_of kind found what) (λ found. refl) kept text b told

-- BY THE NODE

-- the id of the client's next node
abbrev next_id : Caller → Kept → Id
next_id caller kept = record { client = caller.client; count = kept.ids }

-- what is shown of it could be said
abbrev IfShown : Report → Caller → Kept → What → Type 0
IfShown report caller kept what =
    (text : List ℕ) → shown_text report (next_id caller kept) ≡ Some text → CouldSay caller kept what text

-- so it is if a node is said
abbrev NextSayable : Report → Caller → Kept → What → Type 0
NextSayable report caller kept what =
    IfSaid (saying_of (kind_asked caller what) (found_by (use_of what) kept) what) (IfShown report caller kept what)

-- what is shown of a node could be said
abbrev Sayable : Report → Caller → Kept → What → Node → Type 0
Sayable report caller kept what node = (text : List ℕ) → shown_text report node.id ≡ Some text → CouldSay caller kept what text

module _ (report : Report) (caller : Caller) (kept now : Kept) (what : What) (same : now.ids ≡ kept.ids) where
  -- of the one that is said over what is kept then
  to_said : (own : List ℕ) (o : Option Saying) → IfSaid o (IfShown report caller kept what)
      → All (Sayable report caller kept what) (node_said any_decision caller now own o)
  to_said own None next = All-nil (Sayable report caller kept what)
  to_said own (Some saying) next = λ k d lt. only k d lt where
    only : (k : ℕ) (d : Node) → k < 1
        → Sayable report caller kept what (get_or (node_said any_decision caller now own (Some saying)) k d)
    only zero d lt = λ text shown.
        next text (ap (λ (n : ℕ). shown_text report (record { client = caller.client; count = n })) (sym same) ∙ shown)
    only (suc k) d lt = absurd (let f : ⊥ = omega (arith, lt) in f)

  from_said : (own : List ℕ) (o : Option Saying) → All (Sayable report caller kept what) (node_said any_decision caller now own o)
      → IfSaid o (IfShown report caller kept what)
  from_said own None all = tt
  from_said own (Some saying) all = λ text shown.
      all 0 (node_of caller now (set_reached own saying.reach) (text_told any_decision saying.text)) (omega arith) text
      (ap (λ (n : ℕ). shown_text report (record { client = caller.client; count = n })) same ∙ shown)

-- as many ids, and the same reads
pub record SameUses (a b : Kept) : Type 0 where
  pub ids : b.ids ≡ a.ids
  pub reads : b.reads ≡ a.reads

uses_then : (a b c : Kept) → SameUses a b → SameUses b c → SameUses a c
uses_then a b c s t = record { ids = t.ids ∙ s.ids; reads = t.reads ∙ s.reads }

uses_folded : {A : Type 0} (f : Kept → A → Kept) → ((k : Kept) (x : A) → SameUses k (f k x)) → (xs : List A) (k : Kept)
    → SameUses k (fold f k xs)
uses_folded f one [] k = record { ids = refl; reads = refl }
uses_folded f one (x ∷ xs) k = uses_then k (f k x) (fold f (f k x) xs) (one k x) (uses_folded f one xs (f k x))

place_uses : (k : Kept) (region colour : ℕ) (at : At) → SameUses k (kept_after_place k region colour at)
place_uses k region colour (ats.Event place) = record { ids = refl; reads = refl }
place_uses k region colour (ats.Look events) = record { ids = refl; reads = refl }

pub deciding_uses : (log : Log) (caller : Caller) (k : Kept) (sync : SyncPiece) (stamp : ℕ) (raises : List RaisePiece)
    (syncs : List SyncPiece) → SameUses k (kept_deciding log caller k sync stamp raises syncs)
deciding_uses log caller k sync stamp raises syncs =
    let synced = kept_after_piece log caller k sync in
    let raised = kept_after_raises caller synced raises in
    let s = uses_folded (λ (h : Kept) (r : RaisePiece). kept_after_place h caller.own r.colour r.at)
    (λ h r. place_uses h caller.own r.colour r.at) raises synced in
    let t = uses_folded (λ (h : Kept) (p : SyncPiece). kept_after_piece log caller h p) (λ h p. record { ids = refl; reads = refl })
    syncs raised in
    let both = uses_then synced raised (kept_after_syncs log caller raised syncs) s t in
    record { ids = both.ids; reads = both.reads }

pub found_same : (u : Use) (a b : Kept) → b.reads ≡ a.reads → found_by u b ≡ found_by u a
found_same (OfObject object UsesUp) a b same = ap (λ (f : ℕ → Option (List Version)). f object) same
found_same (OfObject object Leaves) a b same = refl
found_same (OfObject object Takes) a b same = refl
found_same (OfLog stops) a b same = refl

-- BY THE ANSWER

module _ (report : Report) (log : Log) (caller : Caller) (kept : Kept) (what : What) where
  -- the colours of the command's object
  abbrev own : List ℕ
  own = object_colours (kind_asked caller what)

  to_asked : (now : Kept) → SameUses kept now → NextSayable report caller kept what
      → All (Sayable report caller kept what) (node_asked any_decision caller now what)
  to_asked now s next =
      to_said report caller kept now what s.ids own (saying_of (kind_asked caller what) (found_by (use_of what) now) what)
      (subst (λ (f : Option (List Version)). IfSaid (saying_of (kind_asked caller what) f what) (IfShown report caller kept what))
      (sym (found_same (use_of what) kept now s.reads)) next)

  from_asked : (now : Kept) → SameUses kept now → All (Sayable report caller kept what) (node_asked any_decision caller now what)
      → NextSayable report caller kept what
  from_asked now s all =
      subst (λ (f : Option (List Version)). IfSaid (saying_of (kind_asked caller what) f what) (IfShown report caller kept what))
      (found_same (use_of what) kept now s.reads)
      (from_said report caller kept now what s.ids own (saying_of (kind_asked caller what) (found_by (use_of what) now) what) all)

  here : SameUses kept kept
  here = record { ids = refl; reads = refl }

  asked_told : (b : Bool) → Tells b (NextSayable report caller kept what)
      → Tells b (All (Sayable report caller kept what) (node_asked any_decision caller kept what))
  asked_told b = told_as b _ _ (to_asked kept here) (from_asked kept here)

  -- an answer that tells no node
  pub none_sayable : (answer : Answer) → tells_node (is_several caller kept what) answer ≡ false
      → ShowsSayable report log caller kept what answer
  none_sayable (answers.Stood stamp row points) none = absurd (true≢false none)
  none_sayable (answers.StampEnd colour) none =
      subst (λ (b : Bool). All (Sayable report caller kept what) (if b then node_asked any_decision caller kept what else []))
      (sym none) (All-nil (Sayable report caller kept what))
  none_sayable (answers.Stopped zero) none = All-nil (Sayable report caller kept what)
  none_sayable (answers.Stopped (suc steps)) none =
      absurd (true≢false (sym (ap not (ne_eqb (suc steps) 0 (λ e. omega (arith, e)))) ∙ none))
  none_sayable (answers.Ruled conflict stamp row points read_stamp raises syncs) none = absurd (true≢false none)
  none_sayable (answers.Changed failed stamp row points read_stamp raises syncs) none = absurd (true≢false none)
  none_sayable (answers.Took value point sync) none = absurd (true≢false none)
  none_sayable (answers.Decided commits stamp sync read_stamp raises syncs (ends.Stood s point)) none =
      absurd (true≢false none)
  none_sayable (answers.Decided commits stamp sync read_stamp raises syncs (ends.StampEnd colour)) none =
      All-nil (Sayable report caller kept what)
  none_sayable (answers.Decided commits stamp sync read_stamp raises syncs ends.NoMemory) none = All-nil (Sayable report caller kept what)
  none_sayable _ none = All-nil (Sayable report caller kept what)

  -- an answer that tells one
  some_sayable : (answer : Answer) (b : Bool) → tells_node (is_several caller kept what) answer ≡ true
      → Tells b (NextSayable report caller kept what) → Tells b (ShowsSayable report log caller kept what answer)
  some_sayable (answers.Stood stamp row points) b one told = asked_told b told
  some_sayable (answers.StampEnd colour) b one told =
      subst (λ (t : Bool). Tells b (All (Sayable report caller kept what)
      (if t then node_asked any_decision caller kept what else []))) (sym one) (asked_told b told)
  some_sayable (answers.Stopped zero) b one told = absurd (true≢false (sym one))
  some_sayable (answers.Stopped (suc steps)) b one told = asked_told b told
  some_sayable (answers.Ruled conflict stamp row points read_stamp raises syncs) b one told = asked_told b told
  some_sayable (answers.Changed failed stamp row points read_stamp raises syncs) b one told = asked_told b told
  some_sayable (answers.Took value point sync) b one told = asked_told b told
  some_sayable (answers.Decided commits stamp sync read_stamp raises syncs (ends.Stood s point)) b one told =
      let now = kept_deciding log caller kept sync read_stamp raises syncs in
      let uses = deciding_uses log caller kept sync read_stamp raises syncs in
      told_as b _ _ (to_asked now uses) (from_asked now uses) told
  some_sayable (answers.Decided commits stamp sync read_stamp raises syncs (ends.StampEnd colour)) b one told =
      absurd (true≢false (sym one))
  some_sayable (answers.Decided commits stamp sync read_stamp raises syncs ends.NoMemory) b one told =
      absurd (true≢false (sym one))
  some_sayable _ b one told = absurd (true≢false (sym one))

  -- BY THE TEXT THAT IS SHOWN

  -- nothing is shown
  unshown : (o : Option Saying) → shown_text report (next_id caller kept) ≡ None
      → IfSaid o (IfShown report caller kept what)
  unshown None none = tt
  unshown (Some saying) none = λ text shown. absurd (let f : ⊥ = no_text (sym none ∙ shown) in f) where
    no_text : {t : List ℕ} → None ≡ Some t → ⊥
    no_text e = cc

  pub unshown_sayable : (answer : Answer) → shown_text report (next_id caller kept) ≡ None
      → ShowsSayable report log caller kept what answer
  unshown_sayable answer none = by (tells_node (is_several caller kept what) answer) refl where
    next : NextSayable report caller kept what
    next = unshown (saying_of (kind_asked caller what) (found_by (use_of what) kept) what) none

    by : (t : Bool) → tells_node (is_several caller kept what) answer ≡ t → ShowsSayable report log caller kept what answer
    by true one = some_sayable answer true one next
    by false not = none_sayable answer not

  to_shown : (o : Option Saying) (text : List ℕ) → shown_text report (next_id caller kept) ≡ Some text
      → IfSaid o (CouldSay caller kept what text) → IfSaid o (IfShown report caller kept what)
  to_shown None text is could = tt
  to_shown (Some saying) text is could = λ t shown.
      subst (λ (l : List ℕ). CouldSay caller kept what l) (same_some (sym is ∙ shown)) could

  from_shown : (o : Option Saying) (text : List ℕ) → shown_text report (next_id caller kept) ≡ Some text
      → IfSaid o (IfShown report caller kept what)
      → IfSaid o (CouldSay caller kept what text)
  from_shown None text is all = tt
  from_shown (Some saying) text is all = all text is

  -- this is shown of a node that is told
  pub shown_sayable : (answer : Answer) (text : List ℕ) (shown : Option (List KeyAnswer)) (b : Bool)
      → tells_node (is_several caller kept what) answer ≡ true
      → shown_text report (next_id caller kept) ≡ Some text
      → AreFoundOf (found_by (use_of what) kept) shown → Tells b (CanSay (kind_asked caller what) shown what text)
      → Tells b (ShowsSayable report log caller kept what answer)
  shown_sayable answer text shown b one is are told =
      let o = saying_of (kind_asked caller what) (found_by (use_of what) kept) what in
      some_sayable answer b one
      (told_as b _ _ (to_shown o text is) (from_shown o text is)
      (said_told (kind_asked caller what) (found_by (use_of what) kept) shown what text b are told))

-- CHANGES

-- what fields say of a change may be, if they say one
pub may_be : (said wanted : Option Change) → said ≡ wanted → ((change : Change) → wanted ≡ Some change → IsChange change)
    → IfSome said IsChange
may_be None wanted is fits = tt
may_be (Some change) wanted is fits = fits change (sym is)

-- OF ALL STEPS

-- what is decided of each step is decided of all that a report shows
pub said_by_steps : {E : Type 0} (walked : Walked) (report : Report) (r : Result Bool E) → report ≡ walked.report
    → IfOk r (DecidesEachStep walked (CouldSayShown report (log_walked walked)))
    → IfOk r (λ b. Tells b (ShownCouldBeSaid walked.script walked.report))
said_by_steps walked report (Ok b) same told =
    subst (λ (shown : Report). Tells b (OfEachStep walked.script walked.report (account_of walked.script walked.report no_nodes)
    (CouldSayShown shown (log_walked walked)))) same (told no_nodes)
said_by_steps walked report (Err e) same told = told
