-- The nodes that commands appended, by what their clients kept.
use Rattle.std.proofs.Common.{◌≡◌, ◌∙◌, refl, ap, sym, subst, Bool, true, false, ℕ, zero, suc, ◌<◌, List, [], ◌∷◌, map, Option, Some, None, inl, inr, arith}
use Rattle.std.specs.Prelude.{IfSome}
use Rattle.std.specs.List.{All}
use Rattle.std.specs.Option.{option_map}
use Rattle.log_node.specs.declared.ids.Colours.{Colours}
use Rattle.log_node.specs.declared.ids.Counts.{Counts}
use Rattle.log_node.specs.declared.ids.Id.{Id}
use Rattle.log_node.specs.declared.ids.Row.{Row}
use Rattle.log_node.specs.declared.node.Node.{Node}
use Rattle.log_node.specs.declared.limits.TheConstants.{MAX_COLOURS}
use Rattle.log_node.specs.declared.forms.Form.TheVariants as forms
use Rattle.log_node.specs.declared.forms.Pair.{Pair}
use Rattle.log_node.specs.declared.forms.Version.{Version}
use Rattle.log_node.specs.Sets.{members}
use Rattle.log_node.proofs.CallerLemmas.{members_low}
use Rattle.object_form.specs.Forms.{form_text}
use Rattle.tree_fold.specs.declared.change.Change.{Change}
use Rattle.tree_fold.specs.Readings.{below_root_of, make_of, move_of, remove_of}
use Rattle.part_fold.specs.declared.decision.Decision.{Decision}
use Rattle.col_core.specs.Keeping.{Kept}
use Rattle.col_core.proofs.CallerLemmas.{In, if_false, if_true}
use Rattle.script_text.specs.declared.script.Command.{Command}
use Rattle.script_text.specs.declared.script.Kind.{Kind}
use Rattle.script_text.specs.declared.script.Script.{Script}
use Rattle.script_text.specs.declared.commands.What.{What}
use Rattle.script_text.specs.declared.commands.What.TheVariants as whats
use Rattle.script_text.specs.Commands.{use_of}
use Rattle.script_text.specs.Fitting.{IsFitting, IsWithin}
use Rattle.script_text.proofs.CallerLemmas.{colours_few}
use Rattle.report_text.specs.declared.report.Answer.{Answer}
use Rattle.report_text.specs.declared.report.ReplyLine.{ReplyLine}
use Rattle.lawful_run.specs.Callers.{Caller, caller_of, node_of, row_taken}
use Rattle.lawful_run.specs.Asks.{kind_asked, object_colours}
use Rattle.lawful_run.specs.Deeds.{Saying, found_by, saying_of, says_change}
use Rattle.run_rules.specs.Nodes.{node_asked, node_said}
use Rattle.run_rules.specs.Said.{with_text}
use Rattle.run_rules.specs.Told.{colours_asked, colours_said, is_several}
use Rattle.walk_law.specs.Asking.{colours_in}
use Rattle.object_law.specs.declared.drafts.Draft.{Draft}
use Rattle.object_law.specs.declared.drafts.Used.{Used}
use Rattle.object_law.specs.Drafts.{SaysDraft, filled, found_used, pairs_at, pairs_written, text_used}
use Rattle.walk_law.specs.Finds.{node_appended, node_list, node_with, set_asked, text_of, wants_in}
use Rattle.walk_law.specs.Keepings.{Counted, IsCounted, start_at}
use Rattle.walk_law.specs.TextsSaid.{tells_node}
use Rattle.walk_law.proofs.CallerLemmas.{appended_within}

-- A NODE

map_on : {A B : Type 0} (f g : A → B) (xs : List A) → ((x : A) → In x xs → f x ≡ g x) → map f xs ≡ map g xs
map_on f g [] same = refl
map_on {A} {B} f g (x ∷ xs) same =
    ap (λ (y : B). y ∷ map f xs) (same x (inl refl)) ∙ ap (λ (ys : List B). g x ∷ ys) (map_on f g xs (λ y i. same y (inr i)))

all_in : {A : Type 0} (P : A → Type 0) (xs : List A) → All P xs → (x : A) → In x xs → P x
all_in P [] all x i = absurd i
all_in P (y ∷ ys) all x (inl e) = subst P e (all zero y (omega arith))
all_in P (y ∷ ys) all x (inr i) = all_in P ys (λ k d lt. all (suc k) d (omega (arith, lt))) x i

in_all : {A : Type 0} (P : A → Type 0) (xs : List A) → ((x : A) → In x xs → P x) → All P xs
in_all P [] each k d lt = absurd (let f : ⊥ = omega (arith, lt) in f)
in_all P (y ∷ ys) each zero d lt = each y (inl refl)
in_all P (y ∷ ys) each (suc k) d lt = in_all P ys (λ x i. each x (inr i)) k d (omega (arith, lt))

-- what is counted is wanted
wanted : (replies : List ReplyLine) (kept : Kept) (counted : Counted) → IsCounted replies kept counted → (colours : Colours)
    → wants_in counted colours ≡ map kept.starts (members colours)
unfolding colours_in
wanted replies kept counted is colours =
    map_on (start_at counted) kept.starts (members colours)
    (λ c i. is.starts c (let low = all_in (λ (m : ℕ). m < MAX_COLOURS) (members colours) (members_low colours) c i in omega (arith, low)))

node_same : (a b : Node) → a.id ≡ b.id → a.region ≡ b.region → a.colours ≡ b.colours → a.text ≡ b.text → a.floor ≡ b.floor
    → a.wants ≡ b.wants → a.row ≡ b.row → a ≡ b
node_same a b id region colours text floor wants row i = record {
  id = id i;
  region = region i;
  colours = colours i;
  text = text i;
  floor = floor i;
  wants = wants i;
  row = row i;
}

pub node_is : (replies : List ReplyLine) (counted : Counted) (caller : Caller) (kept : Kept) (colours : Colours) (text : List ℕ)
    (client own floor rows : ℕ) (id : Id) (wants : List Counts) (row : Option Row) → caller.client ≡ client → caller.own ≡ own
    → IsCounted replies kept counted → id ≡ record { client = client; count = counted.ids } → floor ≡ counted.floor
    → rows ≡ counted.rows → wants ≡ wants_in counted colours → row ≡ row_taken client rows (colours_in colours)
    → (let n : Node = record {
      id = id;
      region = own;
      colours = colours;
      text = text;
      floor = floor;
      wants = wants;
      row = row;
    } in n) ≡ node_of caller kept colours text
unfolding colours_in
node_is replies counted caller kept colours text client own floor rows id wants row by home is of_id of_floor of_rows of_wants of_row =
    node_same _ _
    (of_id ∙ (ap (λ (k : ℕ). let i : Id = record { client = k; count = counted.ids } in i) (sym by)
    ∙ ap (λ (k : ℕ). let i : Id = record { client = caller.client; count = k } in i) is.ids))
    (sym home) refl refl (of_floor ∙ is.floor) (of_wants ∙ wanted replies kept counted is colours)
    (of_row ∙ (ap (λ (k : ℕ). row_taken k rows (members colours)) (sym by)
    ∙ ap (λ (k : ℕ). row_taken caller.client k (members colours)) (of_rows ∙ is.rows)))

-- COLOURS

pub asked_low : (script : Script) → IsFitting script → (n : ℕ) (kept : Kept) (what : What)
    → IsWithin script.shape.regions script.shape.colours what
    → All (λ colour. colour < MAX_COLOURS) (colours_asked (caller_of script n) kept what)
asked_low script fits n kept what within =
    in_all (λ (c : ℕ). c < MAX_COLOURS) (colours_asked (caller_of script n) kept what)
    (λ c i. let low = appended_within script fits n kept what within c i in
    let few = colours_few script.version script.shape fits.shape in
    omega (arith, low, few))

-- what is made of the colours and of the text is the node that is said
module _ (decision : Decision) (caller : Caller) (kept : Kept) (own : List ℕ) where
  abbrev Made : What → Option Saying → Type 0
  Made what saying =
      node_with caller kept (set_asked what (colours_said own saying)) (text_of decision saying) ≡ node_said decision caller kept own saying

  made_committed : (kind : Option Kind) (found : Option (List Version)) (object : ℕ) (pairs : List Pair)
      → Made (whats.Commit object pairs) (saying_of kind found (whats.Commit object pairs))
  made_committed kind None object pairs = refl
  made_committed kind (Some versions) object pairs = refl

  made_changed : (change : Option Change) (what : What) → ((asked : List ℕ) → set_asked what asked ≡ set_asked (whats.Rm 0 []) asked)
      → Made what (says_change change)
  made_changed None what other = refl
  made_changed (Some change) what other =
      ap (λ (c : Colours). node_with caller kept c (text_of decision (says_change (Some change))))
      (other (colours_said own (says_change (Some change))))

  pub made_is : (kind : Option Kind) (found : Option (List Version)) (what : What) → Made what (saying_of kind found what)
  made_is kind found (whats.Append colours text) = refl
  made_is kind found (whats.Stop steps colours text) = refl
  made_is kind found (whats.Put object key value) = refl
  made_is kind found (whats.Del object key) = refl
  made_is kind found (whats.PutAll object pairs) = refl
  made_is kind found (whats.Commit object pairs) = made_committed kind found object pairs
  made_is kind found (whats.Enq object value) = refl
  made_is kind found (whats.Deq object) = refl
  made_is kind found (whats.Only colour text) = refl
  made_is kind found (whats.Mk object path value) =
      made_changed (make_of (below_root_of path) value) (whats.Mk object path value) (λ asked. refl)
  made_is kind found (whats.Rm object path) = made_changed (remove_of (below_root_of path)) (whats.Rm object path) (λ asked. refl)
  made_is kind found (whats.Mv object source target) =
      made_changed (move_of (below_root_of source) (below_root_of target)) (whats.Mv object source target) (λ asked. refl)
  made_is kind found (whats.Decide object key) = refl
  made_is kind found _ = refl

-- WHERE AN ANSWER TELLS ONE

pub appended_none : (decision : Decision) (caller : Caller) (kept : Kept) (what : What) (answer : Answer) (b : Bool)
    → b ≡ is_several caller kept what → tells_node b answer ≡ false → node_appended decision caller kept what answer ≡ []
appended_none decision caller kept what answer b is none =
    if_false (tells_node (is_several caller kept what) answer) (node_asked decision caller kept what) []
    (ap (λ (t : Bool). tells_node t answer) (sym is) ∙ none)

-- WHAT A READ FOUND

-- a text, or in its place what is said of what a read found
abbrev said : Option (List ℕ) → List ℕ → List ℕ
said None text = text
said (Some other) text = other

same_said : (o : Option (List ℕ)) → o ≡ option_map (said None) o
same_said None = refl
same_said (Some text) = refl

none_used : (found : ℕ → List Version) (used : Option Used) → None ≡ found_used found used → used ≡ None
none_used found None e = refl
none_used found (Some u) e = absurd (let f : ⊥ = cc (e) in f)

module _ (commands : List Command) (found : ℕ → List Version) (decision : Decision) (kind : Option Kind) where
  abbrev Written : What → Option Used → Type 0
  Written what used =
      text_of decision (saying_of kind (found_used found used) what)
      ≡ option_map (said (option_map (text_used commands found) used))
      (text_of decision (saying_of kind (option_map (λ (u : Used). let none : List Version = [] in none) used) what))

  written_none : (what : What) (used : Option Used) → used ≡ None → Written what used
  written_none what used is = subst (Written what) (sym is) (same_said (text_of decision (saying_of kind None what)))

  written_commit : (object : ℕ) (pairs : List Pair) (used : Option Used) → IfSome used (λ u. pairs_at commands u.commit ≡ pairs)
      → Written (whats.Commit object pairs) used
  written_commit object pairs None are = refl
  written_commit object pairs (Some u) are =
      ap (λ (ps : List Pair). let o : Option (List ℕ) = Some (form_text (forms.Transaction (found u.read) ps)) in o) (sym are)

  -- the text of a commit is written by what its read found
  pub written : (kept : Kept) (what : What) (used : Option Used) → found_by (use_of what) kept ≡ found_used found used
      → IfSome used (λ u. pairs_at commands u.commit ≡ pairs_written what) → Written what used
  written kept (whats.Commit object pairs) used is are = written_commit object pairs used are
  written kept what used is are = written_none what used (none_used found used is)

-- a node with its text is the one that is made, with what is said in the place of its text
module _ (commands : List Command) (found : ℕ → List Version) (caller : Caller) (kept : Kept) (colours : Colours) (used : Option Used) where
  drafted_some : (o : Option (List ℕ)) (n : Node) (text : List ℕ) → n ≡ node_of caller kept colours text
      → with_text o n ≡ node_of caller kept colours (said o text)
  drafted_some None n text is = is
  drafted_some (Some other) n text is = ap (λ (m : Node). let k : Node = record m { text = other } in k) is

  drafted_as : (node : Option Node) (text : Option (List ℕ)) → node_list node ≡ node_with caller kept colours text
      → node_list (option_map (filled commands found) (option_map (λ (n : Node). let d : Draft = record { node = n; used = used } in d) node))
      ≡ node_with caller kept colours (option_map (said (option_map (text_used commands found) used)) text)
  drafted_as None None is = refl
  drafted_as None (Some text) is = absurd (let f : ⊥ = cc (is) in f)
  drafted_as (Some n) None is = absurd (let f : ⊥ = cc (is) in f)
  drafted_as (Some n) (Some text) is =
      ap (λ (m : Node). m ∷ [])
      (drafted_some (option_map (text_used commands found) used) n text (let e : n ≡ node_of caller kept colours text = cc (is) in e))

module _ (commands : List Command) (found : ℕ → List Version) (decision : Decision) (caller : Caller) (kept : Kept) (what : What)
    (answer : Answer) (used : Option Used) where
  pub says_draft : (b : Bool) (asked : List ℕ) (kind : Option Kind) (nothing : Option (List Version)) (text : Option (List ℕ))
      (node : Option Node) (made : Option Draft) → b ≡ is_several caller kept what → tells_node b answer ≡ true
      → asked ≡ colours_asked caller kept what → kind ≡ kind_asked caller what
      → found_by (use_of what) kept ≡ found_used found used
      → IfSome used (λ u. pairs_at commands u.commit ≡ pairs_written what)
      → nothing ≡ option_map (λ (u : Used). let none : List Version = [] in none) used
      → text ≡ text_of decision (saying_of kind nothing what)
      → node_list node ≡ node_with caller kept (set_asked what asked) text
      → made ≡ option_map (λ (n : Node). let d : Draft = record { node = n; used = used } in d) node
      → SaysDraft commands found decision caller kept what answer made
  says_draft b asked kind nothing text node made is one of_asked of_kind of_found are of_nothing of_text of_node of_made =
      ap (λ (d : Option Draft). node_list (option_map (filled commands found) d)) of_made
      ∙ (drafted_as commands found caller kept (set_asked what asked) used node text of_node
      ∙ (ap (λ (t : Option (List ℕ)). node_with caller kept (set_asked what asked) (option_map (said uses) t))
      (of_text ∙ (ap (λ (k : Option Kind). text_of decision (saying_of k nothing what)) of_kind
      ∙ ap (λ (f : Option (List Version)). text_of decision (saying_of (kind_asked caller what) f what)) of_nothing))
      ∙ (ap (node_with caller kept (set_asked what asked))
      (sym (written commands found decision (kind_asked caller what) kept what used of_found are))
      ∙ (ap (λ (a : List ℕ). node_with caller kept (set_asked what a)
      (text_of decision (saying_of (kind_asked caller what) (found_used found used) what))) of_asked
      ∙ (ap (λ (f : Option (List Version)). node_with caller kept (set_asked what (colours_asked caller kept what))
      (text_of decision (saying_of (kind_asked caller what) f what))) (sym of_found)
      ∙ (made_is decision caller kept own (kind_asked caller what) (found_by (use_of what) kept) what
      ∙ sym (if_true (tells_node (is_several caller kept what) answer) (node_asked decision caller kept what) []
      (ap (λ (t : Bool). tells_node t answer) (sym is) ∙ one)))))))) where
        own : List ℕ
        own = object_colours (kind_asked caller what)

        uses : Option (List ℕ)
        uses = option_map (text_used commands found) used
