-- What reads found and decisions say, chosen by the texts that are shown, where these could be said.
use Rattle.std.proofs.Common.{◌≡◌, ◌∙◌, refl, ap, sym, subst, Bool, true, false, cond, ℕ, zero, suc, List, [], ◌∷◌, ◌++◌, map, Option, Some, None, inl}
use Rattle.std.specs.Prelude.{◌==◌}
use Rattle.std.specs.List.{All, AllZip}
use Rattle.std.proofs.lemmas.Bool.{eq-eqb, eqb-true}
use Rattle.std.proofs.lemmas.List.Elements.{All-head, All-tail}
use Rattle.log_node.specs.declared.forms.Version.{Version}
use Rattle.log_node.specs.declared.node.Node.{Node}
use Rattle.part_fold.specs.declared.decision.Decision.{Decision}
use Rattle.col_core.specs.Log.{Log}
use Rattle.col_core.specs.Keeping.{Kept, nothing_kept, updated}
use Rattle.col_core.proofs.CallerLemmas.{In}
use Rattle.script_text.specs.declared.commands.What.{What}
use Rattle.script_text.specs.declared.commands.What.TheVariants as whats
use Rattle.script_text.specs.declared.script.Command.{Command}
use Rattle.script_text.specs.declared.script.Kind.{Kind}
use Rattle.script_text.specs.declared.script.Script.{Script}
use Rattle.script_text.specs.declared.uses.ReadUse.TheVariants.{Takes, UsesUp}
use Rattle.script_text.specs.declared.uses.Use.{Use}
use Rattle.script_text.specs.declared.uses.Use.TheVariants.{OfObject}
use Rattle.script_text.specs.Commands.{use_of}
use Rattle.report_text.specs.declared.report.Answer.{Answer}
use Rattle.report_text.specs.declared.report.Answer.TheVariants as answers
use Rattle.report_text.specs.declared.report.Ended.{Ended}
use Rattle.report_text.specs.declared.report.Ended.TheVariants as ends
use Rattle.report_text.specs.declared.report.ReplyLine.{ReplyLine}
use Rattle.report_text.specs.declared.report.Report.{Report}
use Rattle.lawful_run.specs.Callers.{Caller}
use Rattle.lawful_run.specs.Asks.{kind_asked, object_colours}
use Rattle.lawful_run.specs.Deeds.{TextSaid, Exactly, ADecision, IsText, Saying, found_by, saying_of}
use Rattle.lawful_run.specs.Reads.{kept_after_piece}
use Rattle.lawful_run.specs.Refusals.{before_by, behind_by}
use Rattle.run_rules.specs.Told.{Untold, Step, AreKeysFound, Follow, is_several, kept_at, kept_deciding, kept_past, kept_told, with_found}
use Rattle.run_rules.specs.Telling.{FindKeys, step_finding, steps_finding}
use Rattle.run_rules.specs.Nodes.{any_decision, node_asked, node_at_end, node_said, node_told, nodes_of, text_told}
use Rattle.run_rules.specs.Agreeing.{AreStepsAlike, KeepSame, keys_found}
use Rattle.run_rules.specs.Said.{CouldSay, CouldSayShown, SaysText, shown_text}
use Rattle.run_rules.proofs.FindsAlike.{found_by_same}
use Rattle.run_rules.proofs.FirstAlike.{found_told, read_reads, told_reads}
use Rattle.run_rules.proofs.NodesAlike.{read_ids}
use Rattle.run_rules.proofs.OneAccount.{step_with}
use Rattle.run_rules.proofs.SaidTexts.{said_id}
use Rattle.run_rules.proofs.SameKept.{before_same}
use Rattle.run_rules.proofs.ToldAlike.{several_same}

abbrev Reads : Type 0
Reads = ℕ → Option (List Version)

-- READS ALONG A STEP

-- what an answer tells that a read found
abbrev got : Answer → List Version → Option (List Version)
got (answers.GotKeys stamp shown raises syncs) found = Some found
got _ found = None

-- what is kept of reads behind a command of this use
abbrev reads_past : Use → Answer → List Version → Reads → Reads
reads_past (OfObject object Takes) answer found reads = updated reads object (got answer found)
reads_past (OfObject object UsesUp) answer found reads = updated reads object None
reads_past _ answer found reads = reads

abbrev told_by : Use → List Version → Kept → Answer → Kept
told_by u found kept (answers.GotKeys stamp shown raises syncs) = with_found u found kept
told_by u found kept _ = kept

twice : (reads : Reads) (object o : ℕ) (x y : Option (List Version))
    → updated (updated reads object x) object y o ≡ updated reads object y o
twice reads object o x y = by (o == object) where
  by : (t : Bool) → cond t y (cond t x (reads o)) ≡ cond t y (reads o)
  by true = refl
  by false = refl

read_by : (answer : Answer) (u : Use) (found : List Version) (kept told : Kept) (o : ℕ)
    → told.reads ≡ (told_by u found (before_by u kept) answer).reads
    → (behind_by u told).reads o ≡ reads_past u answer found kept.reads o
read_by (answers.GotKeys stamp shown raises syncs) (OfObject object Takes) found kept told o e =
    ap (λ (r : Reads). r o) e ∙ twice kept.reads object o None (Some found)
read_by (answers.GotKeys stamp shown raises syncs) (OfObject object UsesUp) found kept told o e =
    ap (λ (r : Reads). updated r object None o) e
read_by (answers.GotKeys stamp shown raises syncs) _ found kept told o e = ap (λ (r : Reads). r o) e
read_by _ (OfObject object Takes) found kept told o e = ap (λ (r : Reads). r o) e
read_by _ (OfObject object UsesUp) found kept told o e = ap (λ (r : Reads). updated r object None o) e
read_by _ _ found kept told o e = ap (λ (r : Reads). r o) e

told_is : (untold : Untold) (kept : Kept) (what : What) (answer : Answer)
    → found_told untold kept what answer ≡ told_by (use_of what) untold.found kept answer
told_is untold kept what (answers.GotKeys stamp shown raises syncs) = refl
told_is untold kept what _ = refl

reads_behind : (log : Log) (caller : Caller) (s : Step) (o : ℕ) → (kept_past log caller s).reads o
    ≡ reads_past (use_of s.command.what) s.reply.answer s.untold.found s.kept.reads o
reads_behind log caller s o =
    read_by s.reply.answer (use_of s.command.what) s.untold.found s.kept
    (kept_told log s.untold caller (kept_at s) s.command.what s.reply.answer) o
    (told_reads log s.untold caller (kept_at s) s.command.what s.reply.answer
    ∙ ap (λ (k : Kept). k.reads) (told_is s.untold (kept_at s) s.command.what s.reply.answer))

-- what is found without keys is nothing
none_found : (found : Option (List Version)) → keys_found found ≡ None → found ≡ None
none_found None e = refl
none_found (Some found) e = absurd (let f : ⊥ = cc (e) in f)

abbrev found_or : Option (List Version) → List Version → List Version
found_or None other = other
found_or (Some found) other = found

got_again : (answer : Answer) (reads : Option (List Version)) (found : List Version)
    → keys_found reads ≡ keys_found (got answer found) → got answer (found_or reads found) ≡ reads
got_again (answers.GotKeys stamp shown raises syncs) None found e = absurd (let f : ⊥ = cc (e) in f)
got_again (answers.GotKeys stamp shown raises syncs) (Some reads) found e = refl
got_again _ reads found e = sym (none_found reads e)

keys_again : (answer : Answer) (reads : Option (List Version)) (found : List Version)
    → keys_found reads ≡ keys_found (got answer found) → AreKeysFound found answer
    → AreKeysFound (found_or reads found) answer
keys_again (answers.GotKeys stamp shown raises syncs) None found e k = k
keys_again (answers.GotKeys stamp shown raises syncs) (Some reads) found e k =
    let is : map (λ (v : Version). v.key) reads ≡ map (λ (v : Version). v.key) found = cc (e) in is ∙ k
keys_again _ reads found e k = tt

-- WHAT A STEP SAYS

abbrev Tells : Decision → Option Saying → List ℕ → Type 0
Tells decision None text = ⊥
Tells decision (Some saying) text = text ≡ text_told decision saying.text

-- a choice by which a step says what is shown of it
record Chosen (report : Report) (log : Log) (caller : Caller) (kept : Kept) (what : What) (answer : Answer) : Type 0 where
  found : Option (List Version)
  keys : keys_found found ≡ keys_found (found_by (use_of what) kept)
  decided : Decision
  says : (node : Node) → In node (node_told any_decision log caller kept what answer) → (text : List ℕ)
      → shown_text report node.id ≡ Some text → Tells decided (saying_of (kind_asked caller what) found what) text

-- the texts of two nodes with one id: what is shown is that of the second
abbrev pub HasShown : Report → Node → Node → Type 0
HasShown report p q = (p.id ≡ q.id) × ((text : List ℕ) → shown_text report p.id ≡ Some text → q.text ≡ text)

decision_of : (said : TextSaid) (text : List ℕ) → IsText said text → (decision : Decision) × (text ≡ text_told decision said)
decision_of (Exactly said) text e = (any_decision, e)
decision_of ADecision text d = d

decides : (saying : Option Saying) (text : List ℕ) → SaysText saying text → (decision : Decision) × Tells decision saying text
decides None text s = absurd s
decides (Some saying) text s = decision_of saying.text text s

abbrev BothSaid : Option Saying → Option Saying → Type 0
BothSaid None None = Unit {0}
BothSaid (Some x) (Some y) = Unit {0}
BothSaid _ _ = ⊥

both_said : (saying : Option Saying) → BothSaid saying saying
both_said None = tt
both_said (Some saying) = tt

said_alike : (kind : Option Kind) (what : What) (x y : Option (List Version)) → keys_found x ≡ keys_found y
    → BothSaid (saying_of kind x what) (saying_of kind y what)
said_alike kind (whats.Commit object pairs) None None e = tt
said_alike kind (whats.Commit object pairs) None (Some y) e = absurd (let f : ⊥ = cc (e) in f)
said_alike kind (whats.Commit object pairs) (Some x) None e = absurd (let f : ⊥ = cc (e) in f)
said_alike kind (whats.Commit object pairs) (Some x) (Some y) e = tt
said_alike kind what x y e = both_said (saying_of kind x what)

module _ (report : Report) (log : Log) (caller : Caller) (what : What) where
  abbrev kind : Option Kind
  kind = kind_asked caller what

  -- a step's node has the client's next id
  told_id : (decision : Decision) (kept : Kept) (answer : Answer) (node : Node)
      → In node (node_told decision log caller kept what answer) → node.id ≡ record { client = caller.client; count = kept.ids }
  told_id decision kept answer node i = by answer i where
    asked : (k : Kept) → k.ids ≡ kept.ids → In node (node_asked decision caller k what)
        → node.id ≡ record { client = caller.client; count = kept.ids }
    asked k e j =
        said_id caller what decision k (saying_of kind (found_by (use_of what) k) what) node j
        ∙ ap (λ (c : ℕ). record { client = caller.client; count = c }) e

    ended_id : (k : Kept) → k.ids ≡ kept.ids → (ended : Ended) → In node (node_at_end decision caller k what ended)
        → node.id ≡ record { client = caller.client; count = kept.ids }
    ended_id k e (ends.Stood stamp point) j = asked k e j
    ended_id k e _ j = absurd j

    several_id : (several : Bool) → In node (cond several (node_asked decision caller kept what) [])
        → node.id ≡ record { client = caller.client; count = kept.ids }
    several_id true j = asked kept refl j
    several_id false j = absurd j

    by : (given : Answer) → In node (node_told decision log caller kept what given)
        → node.id ≡ record { client = caller.client; count = kept.ids }
    by (answers.Stood stamp row points) j = asked kept refl j
    by (answers.StampEnd colour) j = several_id (is_several caller kept what) j
    by (answers.Stopped zero) j = absurd j
    by (answers.Stopped (suc steps)) j = asked kept refl j
    by (answers.Ruled conflict stamp row points read_stamp raises syncs) j = asked kept refl j
    by (answers.Changed failed stamp row points read_stamp raises syncs) j = asked kept refl j
    by (answers.Took value point sync) j = asked kept refl j
    by (answers.Decided commits stamp sync read_stamp raises syncs ended) j =
        ended_id (kept_deciding log caller kept sync read_stamp raises syncs)
        (read_ids log caller (kept_after_piece log caller kept sync) read_stamp raises syncs) ended j
    by _ j = absurd j

  -- a choice for each step whose shown text could be said
  chosen : (kept : Kept) (answer : Answer)
      → All (λ (node : Node). (text : List ℕ) → shown_text report node.id ≡ Some text → CouldSay caller kept what text)
      (node_told any_decision log caller kept what answer)
      → Chosen report log caller kept what answer
  chosen kept answer could = by (node_told any_decision log caller kept what answer) refl where
    any : ((node : Node) → In node (node_told any_decision log caller kept what answer) → (text : List ℕ)
        → shown_text report node.id ≡ Some text → ⊥) → Chosen report log caller kept what answer
    any none = record {
      found = found_by (use_of what) kept;
      keys = refl;
      decided = any_decision;
      says = λ node i text e. absurd (none node i text e);
    }

    of_node : (m : Node) → In m (node_told any_decision log caller kept what answer) → (shown : Option (List ℕ))
        → shown_text report m.id ≡ shown
        → ((text : List ℕ) → shown_text report m.id ≡ Some text → CouldSay caller kept what text)
        → Chosen report log caller kept what answer
    of_node m i None e says = any (λ node j text f.
        let x = ap (shown_text report) (told_id any_decision kept answer node j)
        ∙ sym (ap (shown_text report) (told_id any_decision kept answer m i)) in
        let g : ⊥ = cc (x, e, f) in g)
    of_node m i (Some text) e says =
        let c = says text e in
        let d = decides (saying_of kind c.0 what) text c.2 in record {
          found = c.0;
          keys = c.1;
          decided = d.0;
          says = λ node j other f.
              let x = ap (shown_text report) (told_id any_decision kept answer node j)
              ∙ sym (ap (shown_text report) (told_id any_decision kept answer m i)) in
              let same : text ≡ other = cc (x, e, f) in
              subst (Tells d.0 (saying_of kind c.0 what)) same d.1;
        }

    by : (nodes : List Node) → node_told any_decision log caller kept what answer ≡ nodes
        → Chosen report log caller kept what answer
    by [] e = any (λ node i text f. absurd (subst (In node) e i))
    by (m ∷ ms) e =
        of_node m (subst (In m) (sym e) (inl refl)) (shown_text report m.id) refl
        (All-head (λ (node : Node). (text : List ℕ) → shown_text report node.id ≡ Some text → CouldSay caller kept what text) m ms
        (subst (All (λ (node : Node). (text : List ℕ) → shown_text report node.id ≡ Some text → CouldSay caller kept what text)) e could))

  -- NODES BESIDE ONE ANOTHER

  said_beside : (decision : Decision) (a b : Kept) (own : List ℕ) (x y : Option Saying) → a.ids ≡ b.ids → BothSaid x y
      → ((node : Node) → In node (node_said any_decision caller a own x) → (text : List ℕ)
      → shown_text report node.id ≡ Some text → Tells decision y text)
      → AllZip (HasShown report) (node_said any_decision caller a own x) (node_said decision caller b own y)
  said_beside decision a b own None None ids both says = tt
  said_beside decision a b own None (Some y) ids both says = absurd both
  said_beside decision a b own (Some x) None ids both says = absurd both
  said_beside decision a b own (Some x) (Some y) ids both says = (
    (ap (λ (k : ℕ). record { client = caller.client; count = k }) ids, λ text e. sym (says _ (inl refl) text e)),
    tt,
  )

  module _ (script : Script) (kept other : Kept) (same : KeepSame script kept other) (found : Option (List Version))
      (decision : Decision) (keys : keys_found found ≡ keys_found (found_by (use_of what) kept))
      (uses : found_by (use_of what) other ≡ found) where
    asked_beside : (a b : Kept) → a.ids ≡ b.ids → found_by (use_of what) a ≡ found_by (use_of what) kept
        → found_by (use_of what) b ≡ found_by (use_of what) other
        → ((node : Node) → In node (node_asked any_decision caller a what) → (text : List ℕ)
        → shown_text report node.id ≡ Some text → Tells decision (saying_of kind found what) text)
        → AllZip (HasShown report) (node_asked any_decision caller a what) (node_asked decision caller b what)
    asked_beside a b ids ea eb says =
        subst (λ (f : Option (List Version)). AllZip (HasShown report) (node_asked any_decision caller a what)
        (node_said decision caller b (object_colours kind) (saying_of kind f what))) (sym (eb ∙ uses))
        (said_beside decision a b (object_colours kind) (saying_of kind (found_by (use_of what) a) what)
        (saying_of kind found what) ids
        (said_alike kind what (found_by (use_of what) a) found (ap keys_found ea ∙ sym keys)) says)

    abbrev Says : List Node → Type 0
    Says nodes = (node : Node) → In node nodes → (text : List ℕ) → shown_text report node.id ≡ Some text
        → Tells decision (saying_of kind found what) text

    here : Says (node_asked any_decision caller kept what)
        → AllZip (HasShown report) (node_asked any_decision caller kept what) (node_asked decision caller other what)
    here says = asked_beside kept other same.ids refl refl says

    ended_beside : (a b : Kept) → a.ids ≡ b.ids → found_by (use_of what) a ≡ found_by (use_of what) kept
        → found_by (use_of what) b ≡ found_by (use_of what) other → (ended : Ended)
        → Says (node_at_end any_decision caller a what ended)
        → AllZip (HasShown report) (node_at_end any_decision caller a what ended) (node_at_end decision caller b what ended)
    ended_beside a b ids ea eb (ends.Stood stamp point) says = asked_beside a b ids ea eb says
    ended_beside a b ids ea eb _ says = tt

    several_beside : (x y : Bool) → x ≡ y → Says (cond x (node_asked any_decision caller kept what) [])
        → AllZip (HasShown report) (cond x (node_asked any_decision caller kept what) [])
        (cond y (node_asked decision caller other what) [])
    several_beside true true e says = here says
    several_beside true false e says = absurd (let f : ⊥ = cc (e) in f)
    several_beside false true e says = absurd (let f : ⊥ = cc (e) in f)
    several_beside false false e says = tt

    told_beside : (answer : Answer) → Says (node_told any_decision log caller kept what answer)
        → AllZip (HasShown report) (node_told any_decision log caller kept what answer)
        (node_told decision log caller other what answer)
    told_beside (answers.Stood stamp row points) says = here says
    told_beside (answers.StampEnd colour) says =
        several_beside (is_several caller kept what) (is_several caller other what) (several_same script caller what same) says
    told_beside (answers.Stopped zero) says = tt
    told_beside (answers.Stopped (suc steps)) says = here says
    told_beside (answers.Ruled conflict stamp row points read_stamp raises syncs) says = here says
    told_beside (answers.Changed failed stamp row points read_stamp raises syncs) says = here says
    told_beside (answers.Took value point sync) says = here says
    told_beside (answers.Decided commits stamp sync read_stamp raises syncs ended) says =
        let a = kept_deciding log caller kept sync read_stamp raises syncs in
        let b = kept_deciding log caller other sync read_stamp raises syncs in
        let ra = read_reads log caller (kept_after_piece log caller kept sync) read_stamp raises syncs in
        let rb = read_reads log caller (kept_after_piece log caller other sync) read_stamp raises syncs in
        ended_beside a b
        (read_ids log caller (kept_after_piece log caller kept sync) read_stamp raises syncs
        ∙ (same.ids ∙ sym (read_ids log caller (kept_after_piece log caller other sync) read_stamp raises syncs)))
        (found_by_same (use_of what) a kept (λ object. ap (λ (r : Reads). r object) ra))
        (found_by_same (use_of what) b other (λ object. ap (λ (r : Reads). r object) rb)) ended says
    told_beside _ says = tt

-- STEPS

-- reads found this, by the number of the step
abbrev pub FoundBy : (ℕ → List Version) → List Step → Type 0
FoundBy found [] = Unit {0}
FoundBy found (s ∷ ss) = (s.untold.found ≡ found 0) × FoundBy (λ k. found (suc k)) ss

pub finding_found : (log : Log) (caller : Caller) (shown : ℕ → ℕ → List ℕ) (found : ℕ → List Version) (kept : Kept)
    (cs : List Command) (rs : List ReplyLine) → FoundBy found (steps_finding log caller shown found kept cs rs)
finding_found log caller shown found kept [] rs = tt
finding_found log caller shown found kept (c ∷ cs) [] = tt
finding_found log caller shown found kept (c ∷ cs) (r ∷ rs) = (
  refl,
  finding_found log caller shown (λ k. found (suc k)) (kept_past log caller (step_finding log caller shown (found 0) kept c r))
      cs rs,
)

zip_append : {A B : Type 0} (R : A → B → Type 0) (xs us : List A) (ys vs : List B) → AllZip R xs ys → AllZip R us vs
    → AllZip R (xs ++ us) (ys ++ vs)
zip_append R [] us [] vs r s = s
zip_append R [] us (y ∷ ys) vs r s = absurd r
zip_append R (x ∷ xs) us [] vs r s = absurd r
zip_append R (x ∷ xs) us (y ∷ ys) vs r s = (r.0, zip_append R xs us ys vs r.1 s)

-- a choice of finds and decisions for steps, by which their nodes have the texts that are shown of them
pub record Choice (script : Script) (report : Report) (log : Log) (caller : Caller) (kept : Kept) (xs : List Step) : Type 0 where
  pub reads : Reads
  pub reads_keys : (object : ℕ) → keys_found (reads object) ≡ keys_found (kept.reads object)
  pub found : ℕ → List Version
  pub decided : ℕ → Decision
  pub keys : FindKeys found (map (λ (s : Step). s.reply) xs)
  pub says : (ys : List Step) (first latest : Kept) → AllZip (AreStepsAlike script caller) xs ys → FoundBy found ys
      → Follow log caller first ys latest → ((object : ℕ) → first.reads object ≡ reads object)
      → AllZip (HasShown report) (nodes_of (λ k. any_decision) log caller xs) (nodes_of decided log caller ys)

-- where nothing is kept of reads, nothing is to be kept
pub choice_nothing : (script : Script) (report : Report) (log : Log) (caller : Caller) (xs : List Step)
    → (one : Choice script report log caller nothing_kept xs) → (object : ℕ) → nothing_kept.reads object ≡ one.reads object
choice_nothing script report log caller xs one object = sym (none_found (one.reads object) (one.reads_keys object))

-- what is to be kept of reads before a command of this use, for the sake of what is to be kept behind it
abbrev reads_before : Use → Option (List Version) → Reads → Reads → Reads
reads_before (OfObject object Takes) used kept behind = λ o. cond (o == object) (kept o) (behind o)
reads_before (OfObject object UsesUp) used kept behind = updated behind object used
reads_before _ used kept behind = behind

-- what its read is to find
abbrev to_find : Use → Reads → List Version → List Version
to_find (OfObject object Takes) behind found = found_or (behind object) found
to_find _ behind found = found

updated_here : (reads : Reads) (object : ℕ) (x : Option (List Version)) → updated reads object x object ≡ x
updated_here reads object x = ap (λ (b : Bool). cond b x (reads object)) (eq-eqb object object refl)

module _ (answer : Answer) (used : Option (List Version)) (found : List Version) (kept behind : Reads) where
  abbrev KeysBehind : Use → Type 0
  KeysBehind u = (o : ℕ) → keys_found (behind o) ≡ keys_found (reads_past u answer found kept o)

  before_keys : (u : Use) → KeysBehind u → ((object : ℕ) → u ≡ OfObject object UsesUp → keys_found used ≡ keys_found (kept object))
      → (o : ℕ) → keys_found (reads_before u used kept behind o) ≡ keys_found (kept o)
  before_keys (OfObject object Takes) keys its_use o = by (o == object) (keys o) where
    by : (t : Bool) → keys_found (behind o) ≡ keys_found (cond t (got answer found) (kept o))
        → keys_found (cond t (kept o) (behind o)) ≡ keys_found (kept o)
    by true e = refl
    by false e = e
  before_keys (OfObject object UsesUp) keys its_use o = by (o == object) refl (keys o) where
    by : (t : Bool) → (o == object) ≡ t → keys_found (behind o) ≡ keys_found (cond t None (kept o))
        → keys_found (cond t used (behind o)) ≡ keys_found (kept o)
    by true is e = its_use object refl ∙ ap (λ (k : ℕ). keys_found (kept k)) (sym (eqb-true o object is))
    by false is e = e
  before_keys _ keys its_use o = keys o

  find_keys : (u : Use) → KeysBehind u → AreKeysFound found answer → AreKeysFound (to_find u behind found) answer
  find_keys (OfObject object Takes) keys k =
      keys_again answer (behind object) found
      (keys object ∙ ap keys_found (updated_here kept object (got answer found))) k
  find_keys _ keys k = k

  -- so behind the command is kept what is to be kept
  past_reads : (u : Use) → KeysBehind u → (reads : Reads) → ((o : ℕ) → reads o ≡ reads_before u used kept behind o)
      → (o : ℕ) → reads_past u answer (to_find u behind found) reads o ≡ behind o
  past_reads (OfObject object Takes) keys reads e o = by (o == object) refl (e o) where
    again : got answer (found_or (behind object) found) ≡ behind object
    again = got_again answer (behind object) found (keys object ∙ ap keys_found (updated_here kept object (got answer found)))

    by : (t : Bool) → (o == object) ≡ t → reads o ≡ cond t (kept o) (behind o)
        → cond t (got answer (found_or (behind object) found)) (reads o) ≡ behind o
    by true is f = again ∙ ap behind (sym (eqb-true o object is))
    by false is f = f
  past_reads (OfObject object UsesUp) keys reads e o = by (o == object) (e o) (keys o) where
    by : (t : Bool) → reads o ≡ cond t used (behind o) → keys_found (behind o) ≡ keys_found (cond t None (kept o))
        → cond t None (reads o) ≡ behind o
    by true f k = sym (none_found (behind o) k)
    by false f k = f
  past_reads _ keys reads e o = e o

-- what was found by the read that a command of this use uses up
used_found : (u : Use) (kept other : Kept) (used : Option (List Version)) (behind : Reads)
    → keys_found used ≡ keys_found (found_by u (before_by u kept))
    → ((o : ℕ) → other.reads o ≡ reads_before u used kept.reads behind o)
    → found_by u (before_by u other) ≡ used
used_found (OfObject object UsesUp) kept other used behind keys e = e object ∙ updated_here behind object used
used_found _ kept other used behind keys e = sym (none_found used keys)

used_keys : (u : Use) (kept : Kept) (used : Option (List Version)) → keys_found used ≡ keys_found (found_by u (before_by u kept))
    → (object : ℕ) → u ≡ OfObject object UsesUp → keys_found used ≡ keys_found (kept.reads object)
used_keys u kept used keys object e =
    keys ∙ ap (λ (v : Use). keys_found (found_by v (before_by v kept))) e

module _ (script : Script) (report : Report) (log : Log) (caller : Caller) where
  abbrev KeysAt : Step → Type 0
  KeysAt s = AreKeysFound s.untold.found s.reply.answer

  no_step : (kept : Kept) → Choice script report log caller kept []
  no_step kept = record {
    reads = kept.reads;
    reads_keys = λ object. refl;
    found = λ k. [];
    decided = λ k. any_decision;
    keys = tt;
    says = none;
  } where
    none : (ys : List Step) (first latest : Kept) → AllZip (AreStepsAlike script caller) [] ys → FoundBy (λ k. []) ys
        → Follow log caller first ys latest → ((object : ℕ) → first.reads object ≡ kept.reads object)
        → AllZip (HasShown report) [] (nodes_of (λ k. any_decision) log caller ys)
    none [] first latest alike found fy e = tt
    none (y ∷ ys) first latest alike found fy e = absurd alike

  one_more : (kept : Kept) (x : Step) (xs : List Step) → x.kept ≡ kept → KeysAt x → CouldSayShown report log caller x
      → Choice script report log caller (kept_past log caller x) xs → Choice script report log caller kept (x ∷ xs)
  one_more kept x xs first_is key could rest = record {
    reads = before;
    reads_keys = λ o.
        before_keys answer this.found x.untold.found x.kept.reads rest.reads u behind
        (used_keys u x.kept this.found this.keys) o
        ∙ ap (λ (k : Kept). keys_found (k.reads o)) first_is;
    found = found;
    decided = decided;
    keys = (find_keys answer this.found x.untold.found x.kept.reads rest.reads u behind key, rest.keys);
    says = says;
  } where
    u : Use
    u = use_of x.command.what

    answer : Answer
    answer = x.reply.answer

    this : Chosen report log caller (kept_at x) x.command.what x.reply.answer
    this = chosen report log caller x.command.what (kept_at x) x.reply.answer could

    before : Reads
    before = reads_before u this.found x.kept.reads rest.reads

    behind : (o : ℕ) → keys_found (rest.reads o) ≡ keys_found (reads_past u answer x.untold.found x.kept.reads o)
    behind o = rest.reads_keys o ∙ ap keys_found (reads_behind log caller x o)

    found : ℕ → List Version
    found zero = to_find u rest.reads x.untold.found
    found (suc k) = rest.found k

    decided : ℕ → Decision
    decided zero = this.decided
    decided (suc k) = rest.decided k

    says : (ys : List Step) (first latest : Kept) → AllZip (AreStepsAlike script caller) (x ∷ xs) ys → FoundBy found ys
        → Follow log caller first ys latest → ((object : ℕ) → first.reads object ≡ before object)
        → AllZip (HasShown report) (nodes_of (λ k. any_decision) log caller (x ∷ xs)) (nodes_of decided log caller ys)
    says [] first latest alike by_found fy e = absurd alike
    says (y ∷ ys) first latest alike by_found fy e =
        zip_append (HasShown report) (node_told any_decision log caller (kept_at x) x.command.what answer)
        (nodes_of (λ k. any_decision) log caller xs)
        (node_told this.decided log caller (kept_at y) y.command.what y.reply.answer)
        (nodes_of rest.decided log caller ys)
        (subst (λ (s : Step). AllZip (HasShown report) (node_told any_decision log caller (kept_at x) x.command.what answer)
        (node_told this.decided log caller (kept_at s) s.command.what s.reply.answer)) (sym is) its)
        (rest.says ys (kept_past log caller y) latest alike.1 by_found.1 fy.1 past)
      where
        z : Step
        z = record { command = x.command; reply = x.reply; kept = y.kept; untold = y.untold }

        is : y ≡ z
        is = step_with y x.command x.reply alike.0.command alike.0.reply

        at_y : (o : ℕ) → y.kept.reads o ≡ before o
        at_y o = ap (λ (k : Kept). k.reads o) fy.0 ∙ e o

        its : AllZip (HasShown report) (node_told any_decision log caller (kept_at x) x.command.what answer)
            (node_told this.decided log caller (kept_at z) x.command.what answer)
        its = told_beside report log caller x.command.what script (kept_at x) (kept_at z)
            (before_same script alike.0.kept x.command.what) this.found this.decided this.keys
            (used_found u x.kept y.kept this.found rest.reads this.keys at_y) answer this.says

        past : (o : ℕ) → (kept_past log caller y).reads o ≡ rest.reads o
        past o =
            ap (λ (s : Step). (kept_past log caller s).reads o) is
            ∙ (reads_behind log caller z o
            ∙ (ap (λ (f : List Version). reads_past u answer f y.kept.reads o) by_found.0
            ∙ past_reads answer this.found x.untold.found x.kept.reads rest.reads u behind y.kept.reads at_y o))

  pub choose : (kept last : Kept) (xs : List Step) → Follow log caller kept xs last → All KeysAt xs
      → All (CouldSayShown report log caller) xs → Choice script report log caller kept xs
  choose kept last [] follow keys could = no_step kept
  choose kept last (x ∷ xs) follow keys could =
      one_more kept x xs follow.0 (All-head KeysAt x xs keys) (All-head (CouldSayShown report log caller) x xs could)
      (choose (kept_past log caller x) last xs follow.1 (All-tail KeysAt x xs keys)
      (All-tail (CouldSayShown report log caller) x xs could))
