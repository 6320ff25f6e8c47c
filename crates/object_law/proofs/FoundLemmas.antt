-- What reads found, computed in rising order of their stamps: one node more, and one read more.
use Rattle.std.proofs.Common.{◌≡◌, ◌⊎◌, ◌∙◌, refl, ap, sym, subst, ℕ, zero, suc, ◌+◌, ◌<◌, ◌≤◌, List, [], ◌∷◌, ◌++◌, length, map, take, get_or, append-nil, Option, Some, None, inl, inr, arith}
use Rattle.std.specs.Prelude.{◌≢◌, slice_get, slice_index_or, slice_set}
use Rattle.std.specs.List.{All}
use Rattle.std.specs.List.Sorted.{IsNonDecreasingBy}
use Rattle.std.specs.Option.{option_map}
use Rattle.std.proofs.lemmas.Bool.{cases_eq, cases_lt}
use Rattle.std.proofs.lemmas.List.{get_or-set_other, get_or-set_same, length-map, map-append, take_more}
use Rattle.std.proofs.lemmas.List.Concat.{flat_map-append}
use Rattle.std.proofs.lemmas.List.Sums.{fold-append}
use Rattle.std.proofs.lemmas.Option.{get_or_from_slice_get, slice_get_within}
use Rattle.log_node.specs.declared.forms.Version.{Version}
use Rattle.log_node.specs.declared.ids.Id.{Id}
use Rattle.log_node.specs.declared.ids.Key.{Key}
use Rattle.log_node.specs.declared.node.Node.{Node}
use Rattle.object_form.specs.Readings.{form_of}
use Rattle.object_fold.specs.Nodes.{ObjectNode}
use Rattle.object_fold.specs.States.{HoldsWrites, IsTxState}
use Rattle.object_fold.specs.Transactions.{Write, versions_after, writer_of, writes_after, writes_with}
use Rattle.object_fold.specs.declared.tx_state.TxState.{TxState}
use Rattle.col_core.proofs.CallerLemmas.{in_contains, in_slice}
use Rattle.script_text.specs.declared.script.Command.{Command}
use Rattle.script_text.specs.declared.script.Script.{Script}
use Rattle.report_text.specs.declared.report.Answer.{Answer}
use Rattle.report_text.specs.declared.report.Answer.TheVariants as answers
use Rattle.report_text.specs.declared.report.ClientReport.{ClientReport}
use Rattle.report_text.specs.declared.report.KeyAnswer.{KeyAnswer}
use Rattle.report_text.specs.declared.report.ReplyLine.{ReplyLine}
use Rattle.report_text.specs.declared.report.Report.{Report}
use Rattle.lawful_run.specs.Callers.{commands_of}
use Rattle.run_rules.specs.Computing.{answer_in, answer_to, any_decisions, finds_of, keys_shown, node_read, stamp_read}
use Rattle.run_rules.specs.Telling.{FindKeys, IsWellFormed, replies_in, replies_to, unnamed}
use Rattle.run_rules.specs.Told.{AreKeysFound}
use Rattle.run_rules.specs.Said.{with_text}
use Rattle.object_law.specs.Drafts.{AreDrafts, draft_in, drafts_at, filled, text_used}
use Rattle.object_law.specs.declared.drafts.Draft.{Draft}
use Rattle.object_law.specs.declared.drafts.Used.{Used}
use Rattle.object_law.specs.declared.reads_by_stamp.StampedRead.{StampedRead}
use Rattle.object_law.specs.Found.{AreFoundBelow, AreFoundTo, AreReadsOf, IsReadOf, IsWaiting, StandsAs, account_found, form_in, found_nodes, node_finding, read_stamp}
use Rattle.object_law.specs.Unnamed.{unnamed_finds, unnamed_to}
use Rattle.object_law.proofs.FoundVersions.{all_keys, others_find}
use Rattle.walk_law.specs.Finds.{FindsKeys, finds_at}
use Rattle.walk_law.specs.Walking.{IsStepOf, Walked}
use Rattle.walk_law.proofs.CallerLemmas.{find_keys, keys_unnamed}

-- LISTS

get_mapped : {A B : Type 0} (f : A → B) (xs : List A) (n : ℕ) → slice_get (map f xs) n ≡ option_map f (slice_get xs n)
get_mapped f [] n = refl
get_mapped f (x ∷ xs) zero = refl
get_mapped f (x ∷ xs) (suc n) = get_mapped f xs n

index_none : {A : Type 0} (xs : List A) (n : ℕ) (d : A) → slice_get xs n ≡ None → slice_index_or xs n d ≡ d
index_none [] n d e = refl
index_none (x ∷ xs) zero d e = absurd (let f : ⊥ = cc (e) in f)
index_none (x ∷ xs) (suc n) d e = index_none xs n d e

length_set : {A : Type 0} (xs : List A) (n : ℕ) (x : A) → length (slice_set xs n x) ≡ length xs
length_set [] n x = refl
length_set (y ∷ ys) zero x = refl
length_set (y ∷ ys) (suc n) x = ap (λ (m : ℕ). suc m) (length_set ys n x)

-- one item more
pub mapped_more : {A B : Type 0} (f : A → B) (xs : List A) (n : ℕ) (x : A) → n < length xs → x ≡ get_or xs n x
    → map f (take (n + 1) xs) ≡ map f (take n xs) ++ f x ∷ []
mapped_more {A} f xs n x lt is =
    ap (map f) (take_more xs n x lt ∙ ap (λ (y : A). take n xs ++ y ∷ []) (sym is)) ∙ map-append f (take n xs) (x ∷ [])

-- NODES

-- the node with an id is that of its draft
pub node_filled : (walked : Walked) (drafts : List (List Draft)) → AreDrafts walked any_decisions drafts
    → (found : ℕ → ℕ → List Version) → FindsKeys walked.report found → (id : Id) (made : Option Draft) → draft_in drafts id ≡ made
    → node_finding walked found id ≡ option_map (filled (commands_of walked.script id.client) (found id.client)) made
node_filled walked drafts are found keys id made e =
    let fill = filled (commands_of walked.script id.client) (found id.client) in
    ap (λ (nodes : List Node). slice_get nodes id.count) (sym (are id.client found keys))
    ∙ (get_mapped fill (drafts_at drafts id.client) id.count ∙ ap (option_map fill) e)

-- its text is that of a commit, by what the read found that it uses up
pub filled_used : (commands : List Command) (found : ℕ → List Version) (draft : Draft) (used : Used) → draft.used ≡ Some used
    → (filled commands found draft).text ≡ text_used commands found used
filled_used commands found draft used e =
    ap (λ (o : Option Used). (with_text (option_map (text_used commands found) o) draft.node).text) e

-- or that of the draft
pub filled_plain : (commands : List Command) (found : ℕ → List Version) (draft : Draft) → draft.used ≡ None
    → (filled commands found draft).text ≡ draft.node.text
filled_plain commands found draft e =
    ap (λ (o : Option Used). (with_text (option_map (text_used commands found) o) draft.node).text) e

-- a node is fed with the text that it has
pub fed : (state : TxState) (nodes : List ObjectNode) (key : Key) (text : List ℕ) (o : Option Node) (node : Node) → o ≡ Some node
    → node.text ≡ text
    → ((n : ObjectNode) → n.key ≡ key → n.text ≡ text → IsTxState state (nodes ++ n ∷ [])) → IsTxState state (nodes ++ node_read key o)
fed state nodes key text o node is same ok =
    subst (λ (p : Option Node). IsTxState state (nodes ++ node_read key p)) (sym is)
    (ok (record { key = key; colours = node.colours; text = node.text }) refl same)

-- where there is no node, none is
pub fed_none : (state : TxState) (nodes : List ObjectNode) (key : Key) (o : Option Node) → o ≡ None → IsTxState state nodes
    → IsTxState state (nodes ++ node_read key o)
fed_none state nodes key o is holds =
    subst (λ (p : Option Node). IsTxState state (nodes ++ node_read key p)) (sym is)
    (subst (IsTxState state) (sym (append-nil nodes)) holds)

-- nodes of one form leave the same
forms_leave : (nodes : List ObjectNode) (key : Key) (o p : Option Node) → form_in o ≡ form_in p
    → writes_after (nodes ++ node_read key o) ≡ writes_after (nodes ++ node_read key p)
forms_leave nodes key None None e = refl
forms_leave nodes key None (Some q) e = absurd (let f : ⊥ = cc (e) in f)
forms_leave nodes key (Some p) None e = absurd (let f : ⊥ = cc (e) in f)
forms_leave nodes key (Some p) (Some q) e =
    let write : List Write → ObjectNode → List Write = λ writes node. writes_with node.key writes (form_of node.text) in
    let same : form_of p.text ≡ form_of q.text = cc (e) in
    fold-append write [] nodes (record { key = key; colours = p.colours; text = p.text } ∷ [])
    ∙ (ap (writes_with key (writes_after nodes)) same
    ∙ sym (fold-append write [] nodes (record { key = key; colours = q.colours; text = q.text } ∷ [])))

-- one node more is fed, by what was found so far
pub found_more : (walked : Walked) (found : ℕ → ℕ → List Version) (keys : List Key) (n : ℕ) (key : Key) → n < length keys
    → key ≡ get_or keys n key → StandsAs walked found key → (state : TxState)
    → IsTxState state (found_nodes walked (take n keys) ++ node_read key (node_finding walked found key.id))
    → IsTxState state (found_nodes walked (take (n + 1) keys))
found_more walked found keys n key lt is stands state holds =
    let log = (account_found walked).log in
    let before = found_nodes walked (take n keys) in
    let its = node_finding walked (finds_of walked.script walked.report) key.id in
    subst (λ (ks : List Key). IsTxState state (found_nodes walked ks))
    (ap (λ (k : Key). take n keys ++ k ∷ []) is ∙ sym (take_more keys n key lt))
    (subst (IsTxState state)
    (ap (λ (l : List ObjectNode). before ++ l) (sym (append-nil (node_read key its)))
    ∙ sym (flat_map-append (λ (k : Key). node_read k (slice_get (log.nodes k.id.client) k.id.count)) (take n keys) (key ∷ [])))
    (subst (HoldsWrites state.written.entries) (forms_leave before key (node_finding walked found key.id) its stands.form) holds))

-- what is so of the first so many is so of each of them
pub stands_at : {A : Type 0} (P : A → Type 0) (xs : List A) (count n : ℕ) (x : A) → All P (take count xs) → n < count → n < length xs
    → x ≡ get_or xs n x → P x
stands_at P [] count n x all lt low is = absurd (let f : ⊥ = omega (arith, low) in f)
stands_at P (y ∷ ys) zero n x all lt low is = absurd (let f : ⊥ = omega (arith, lt) in f)
stands_at P (y ∷ ys) (suc count) zero x all lt low is = subst P (sym is) (all 0 y (omega arith))
stands_at P (y ∷ ys) (suc count) (suc n) x all lt low is =
    stands_at P ys count n x (λ k d less. all (suc k) d (omega (arith, less))) (omega (arith, lt)) (omega (arith, low)) is

-- a version is its key with its writer
pub version_is : (a b : Version) → a.key ≡ b.key → a.writer ≡ b.writer → a ≡ b
version_is a b k w i = record { key = k i; writer = w i }

-- the version of one key more
pub version_more : (nodes : List ObjectNode) (shown : List KeyAnswer) (n : ℕ) (a : KeyAnswer) → n < length shown
    → a ≡ get_or shown n a
    → versions_after nodes (keys_shown (take (n + 1) shown))
    ≡ versions_after nodes (keys_shown (take n shown)) ++ record { key = a.key; writer = writer_of (writes_after nodes) a.key } ∷ []
version_more nodes shown n a lt is =
    let of : List ℕ → Version = λ key. record { key = key; writer = writer_of (writes_after nodes) key } in
    let before = take n shown in
    ap (λ (l : List KeyAnswer). versions_after nodes (keys_shown l)) (take_more shown n a lt ∙ ap (λ (k : KeyAnswer). before ++ k ∷ []) (sym is))
    ∙ (ap (map of) (map-append (λ (k : KeyAnswer). k.key) before (a ∷ [])) ∙ map-append of (keys_shown before) (a.key ∷ []))

-- READS

-- a read has its stamp
stamp_of_read : (answer : Answer) (stamp : ℕ) → read_stamp answer ≡ Some stamp → stamp_read answer ≡ stamp
stamp_of_read (answers.GotKeys s shown raises syncs) stamp e = cc (e)
stamp_of_read _ stamp e = absurd (let f : ⊥ = cc (e) in f)

-- where there is a read, the client is one of the report's
client_low : (report : Report) (n k stamp : ℕ) → read_stamp (answer_to report n k) ≡ Some stamp → n < length report.clients
client_low report n k stamp e = by (slice_get report.clients n) refl e where
  by : (o : Option ClientReport) → slice_get report.clients n ≡ o
      → read_stamp (answer_in (slice_get (replies_in o) k)) ≡ Some stamp → n < length report.clients
  by None s f = absurd (let no : ⊥ = cc (f) in no)
  by (Some c) s f = slice_get_within report.clients n c s

-- and has a command in its place
pub place_low : (script : Script) (report : Report) → IsWellFormed script report → (n k stamp : ℕ)
    → read_stamp (answer_to report n k) ≡ Some stamp → k < length (commands_of script n)
place_low script report well n k stamp e = by (slice_get report.clients n) refl e where
  at : (rs : List ReplyLine) → read_stamp (answer_in (slice_get rs k)) ≡ Some stamp → (o : Option ReplyLine) → slice_get rs k ≡ o
      → k < length rs
  at rs f None s = absurd (let g = sym f ∙ ap (λ (o : Option ReplyLine). read_stamp (answer_in o)) s in let no : ⊥ = cc (g) in no)
  at rs f (Some r) s = slice_get_within rs k r s

  by : (o : Option ClientReport) → slice_get report.clients n ≡ o
      → read_stamp (answer_in (slice_get (replies_in o) k)) ≡ Some stamp → k < length (commands_of script n)
  by None s f = absurd (let no : ⊥ = cc (f) in no)
  by (Some c) s f =
      let many = well.replied n c s in
      let lt = at c.replies f (slice_get c.replies k) refl in omega (arith, many, lt)

module _ (walked : Walked) (well : IsWellFormed walked.script walked.report) where
  -- the keys that are shown
  unnamed_at : (n k : ℕ) → finds_at (unnamed_finds walked.report) n k ≡ unnamed (answer_to walked.report n k)
  unnamed_at n k = by (slice_get walked.report.clients n) refl where
    at : (rs : List ReplyLine) (o : Option ReplyLine) → slice_get rs k ≡ o
        → slice_index_or (map (λ (r : ReplyLine). unnamed r.answer) rs) k [] ≡ unnamed (answer_in o)
    at rs None s =
        index_none (map (λ (r : ReplyLine). unnamed r.answer) rs) k []
        (get_mapped (λ (r : ReplyLine). unnamed r.answer) rs k ∙ ap (option_map (λ (r : ReplyLine). unnamed r.answer)) s)
    at rs (Some r) s =
        get_or_from_slice_get (map (λ (r : ReplyLine). unnamed r.answer) rs) k (unnamed r.answer) []
        (get_mapped (λ (r : ReplyLine). unnamed r.answer) rs k ∙ ap (option_map (λ (r : ReplyLine). unnamed r.answer)) s)

    by : (o : Option ClientReport) → slice_get walked.report.clients n ≡ o
        → finds_at (unnamed_finds walked.report) n k ≡ unnamed (answer_in (slice_get (replies_in o) k))
    by None s =
        ap (λ (l : List (List Version)). slice_index_or l k [])
        (index_none (unnamed_finds walked.report) n [] (get_mapped unnamed_to walked.report.clients n ∙ ap (option_map unnamed_to) s))
    by (Some c) s =
        ap (λ (l : List (List Version)). slice_index_or l k [])
        (get_or_from_slice_get (unnamed_finds walked.report) n (unnamed_to c) []
        (get_mapped unnamed_to walked.report.clients n ∙ ap (option_map unnamed_to) s))
        ∙ at c.replies (slice_get c.replies k) refl

  -- before any read
  pub found_none : (reads : List StampedRead) → AreReadsOf walked (length walked.report.clients) reads
      → AreFoundTo walked reads 0 (unnamed_finds walked.report)
  found_none reads are = record {
    keys = λ n k. subst (λ (f : List Version). AreKeysFound f (answer_to walked.report n k)) (sym (unnamed_at n k))
        (keys_unnamed (answer_to walked.report n k));
    slots = λ n k step. (
      (let long = length-map walked.report.clients unnamed_to in let lt = step.walker in omega (arith, long, lt)),
      slot n k step (slice_get walked.report.clients n) refl,
    );
    found = λ n k. by n k (read_stamp (answer_to walked.report n k)) refl;
  } where
    slot : (n k : ℕ) → IsStepOf walked n k → (o : Option ClientReport) → slice_get walked.report.clients n ≡ o
        → k < length (slice_index_or (unnamed_finds walked.report) n [])
    slot n k step None s =
        absurd (let lt = step.walker in
        let f : ⊥ = none_there walked.report.clients n lt s in f) where
          none_there : (cs : List ClientReport) (m : ℕ) → m < length cs → slice_get cs m ≡ None → ⊥
          none_there [] m lt e = let f : ⊥ = omega (arith, lt) in f
          none_there (c ∷ cs) zero lt e = let f : ⊥ = cc (e) in f
          none_there (c ∷ cs) (suc m) lt e = none_there cs m (omega (arith, lt)) e
    slot n k step (Some c) s =
        let is = get_or_from_slice_get (unnamed_finds walked.report) n (unnamed_to c) []
        (get_mapped unnamed_to walked.report.clients n ∙ ap (option_map unnamed_to) s) in
        let long = length-map c.replies (λ (r : ReplyLine). unnamed r.answer) in
        let many = well.replied n c s in
        let lt = step.there in
        subst (λ (l : List (List Version)). k < length l) (sym is) (omega (arith, long, many, lt))

    by : (n k : ℕ) (o : Option ℕ) → read_stamp (answer_to walked.report n k) ≡ o
        → (finds_at (unnamed_finds walked.report) n k ≡ finds_of walked.script walked.report n k) ⊎ IsWaiting reads 0 n k
    by n k None e = inl (unnamed_at n k ∙ sym (others_find walked n k e))
    by n k (Some stamp) e =
        let read : StampedRead = record { stamp = stamp; client = n; place = k } in
        let at = in_slice reads read (in_contains reads read (are.all n k stamp (client_low walked.report n k stamp e) e)) in
        inr (record { place = at.0; after = omega arith; read = read; there = at.1; its_client = refl; its_number = refl })

  module _ (reads : List StampedRead) (from : ℕ) (table : List (List (List Version))) (so_far : AreFoundTo walked reads from table) where
    pub found_keys : FindsKeys walked.report (finds_at table)
    found_keys n c there =
        subst (FindKeys (finds_at table n)) (ap replies_in there) (find_keys (finds_at table n) (replies_to walked.report n) (so_far.keys n))

    -- what is found so far is what was found below the stamp of the next read
    pub found_before : AreReadsOf walked (length walked.report.clients) reads → IsNonDecreasingBy (λ (r : StampedRead). r.stamp) reads
        → (read : StampedRead) → from < length reads → read ≡ get_or reads from read
        → AreFoundBelow walked read.stamp (finds_at table)
    found_before are rising read low is = record { keys = found_keys; below = λ n k lt. by n k lt (so_far.found n k) } where
      by : (n k : ℕ) → stamp_read (answer_to walked.report n k) < read.stamp
          → (finds_at table n k ≡ finds_of walked.script walked.report n k) ⊎ IsWaiting reads from n k
          → finds_at table n k ≡ finds_of walked.script walked.report n k
      by n k lt (inl e) = e
      by n k lt (inr w) =
          let at = slice_get_within reads w.place w.read w.there in
          let its : get_or reads w.place read ≡ w.read = get_or_from_slice_get reads w.place w.read read w.there in
          let of = subst (IsReadOf walked) its (are.each w.place read at) in
          let told : read_stamp (answer_to walked.report n k) ≡ Some w.read.stamp =
          ap (λ (m : ℕ). read_stamp (answer_to walked.report m k)) (sym w.its_client)
          ∙ (ap (λ (j : ℕ). read_stamp (answer_to walked.report w.read.client j)) (sym w.its_number) ∙ of.stamp) in
          let stamp = stamp_of_read (answer_to walked.report n k) w.read.stamp told in
          let up = rising from w.place read w.after at in
          let here = ap (λ (r : StampedRead). r.stamp) is in
          let there = ap (λ (r : StampedRead). r.stamp) its in
          absurd (let f : ⊥ = omega (arith, lt, stamp, up, here, there) in f)

    -- one read more
    pub found_next : (read : StampedRead) → read ≡ get_or reads from read → IsStepOf walked read.client read.place
        → (found : List Version) → found ≡ finds_of walked.script walked.report read.client read.place
        → (more : List (List (List Version)))
        → more ≡ slice_set table read.client (slice_set (slice_index_or table read.client []) read.place found)
        → AreFoundTo walked reads (from + 1) more
    found_next read is step found its more set = record {
      keys = λ n k. keys_by n k (cases_eq n read.client) (cases_eq k read.place);
      slots = λ n k there. slots_by n k there (cases_eq n read.client);
      found = λ n k. found_by n k (cases_eq n read.client) (cases_eq k read.place);
    } where
      row : List (List Version)
      row = slice_index_or table read.client []

      slot : (read.client < length table) × (read.place < length row)
      slot = so_far.slots read.client read.place step

      row_here : slice_index_or more read.client [] ≡ slice_set row read.place found
      row_here =
          ap (λ (t : List (List (List Version))). slice_index_or t read.client []) set
          ∙ get_or-set_same table read.client (slice_set row read.place found) [] slot.0

      row_other : (n : ℕ) → n ≢ read.client → slice_index_or more n [] ≡ slice_index_or table n []
      row_other n ne =
          ap (λ (t : List (List (List Version))). slice_index_or t n []) set
          ∙ get_or-set_other table read.client n (slice_set row read.place found) [] ne

      here : finds_at more read.client read.place ≡ found
      here =
          ap (λ (l : List (List Version)). slice_index_or l read.place []) row_here
          ∙ get_or-set_same row read.place found [] slot.1

      beside : (k : ℕ) → k ≢ read.place → finds_at more read.client k ≡ finds_at table read.client k
      beside k ne =
          ap (λ (l : List (List Version)). slice_index_or l k []) row_here ∙ get_or-set_other row read.place k found [] ne

      other : (n k : ℕ) → n ≢ read.client → finds_at more n k ≡ finds_at table n k
      other n k ne = ap (λ (l : List (List Version)). slice_index_or l k []) (row_other n ne)

      kept_keys : (n k : ℕ) → finds_at more n k ≡ finds_at table n k → AreKeysFound (finds_at more n k) (answer_to walked.report n k)
      kept_keys n k e = subst (λ (f : List Version). AreKeysFound f (answer_to walked.report n k)) (sym e) (so_far.keys n k)

      here_is : (n k : ℕ) → n ≡ read.client → k ≡ read.place → finds_at more n k ≡ finds_of walked.script walked.report n k
      here_is n k e f =
          ap (λ (m : ℕ). finds_at more m k) e
          ∙ (ap (λ (j : ℕ). finds_at more read.client j) f
          ∙ (here ∙ (its
          ∙ (ap (λ (j : ℕ). finds_of walked.script walked.report read.client j) (sym f)
          ∙ ap (λ (m : ℕ). finds_of walked.script walked.report m k) (sym e)))))

      beside_is : (n k : ℕ) → n ≡ read.client → k ≢ read.place → finds_at more n k ≡ finds_at table n k
      beside_is n k e ne =
          ap (λ (m : ℕ). finds_at more m k) e ∙ (beside k ne ∙ ap (λ (m : ℕ). finds_at table m k) (sym e))

      keys_by : (n k : ℕ) → (n ≡ read.client) ⊎ (n ≢ read.client) → (k ≡ read.place) ⊎ (k ≢ read.place)
          → AreKeysFound (finds_at more n k) (answer_to walked.report n k)
      keys_by n k (inl e) (inl f) =
          subst (λ (v : List Version). AreKeysFound v (answer_to walked.report n k)) (sym (here_is n k e f)) (all_keys walked n k)
      keys_by n k (inl e) (inr ne) = kept_keys n k (beside_is n k e ne)
      keys_by n k (inr ne) f = kept_keys n k (other n k ne)

      slots_by : (n k : ℕ) → IsStepOf walked n k → (n ≡ read.client) ⊎ (n ≢ read.client)
          → (n < length more) × (k < length (slice_index_or more n []))
      slots_by n k there (inl e) =
          let old = so_far.slots n k there in
          let many = ap length set ∙ length_set table read.client (slice_set row read.place found) in
          let lt = old.0 in (
            omega (arith, many, lt),
            subst (λ (m : ℕ). k < length (slice_index_or more m [])) (sym e)
                (let long = ap length row_here ∙ length_set row read.place found in
                let less = subst (λ (m : ℕ). k < length (slice_index_or table m [])) e old.1 in omega (arith, long, less)),
          )
      slots_by n k there (inr ne) =
          let old = so_far.slots n k there in
          let many = ap length set ∙ length_set table read.client (slice_set row read.place found) in
          let lt = old.0 in
          (omega (arith, many, lt), subst (λ (l : List (List Version)). k < length l) (sym (row_other n ne)) old.1)

      waits : (n k : ℕ) → ((n ≡ read.client) → (k ≡ read.place) → ⊥)
          → (finds_at table n k ≡ finds_of walked.script walked.report n k) ⊎ IsWaiting reads from n k
          → finds_at more n k ≡ finds_at table n k
          → (finds_at more n k ≡ finds_of walked.script walked.report n k) ⊎ IsWaiting reads (from + 1) n k
      waits n k apart (inl e) same = inl (same ∙ e)
      waits n k apart (inr w) same = inr (record {
        place = w.place;
        after = later (cases_lt from w.place);
        read = w.read;
        there = w.there;
        its_client = w.its_client;
        its_number = w.its_number;
      }) where
        later : (from < w.place) ⊎ (w.place ≤ from) → from + 1 ≤ w.place
        later (inl lt) = omega (arith, lt)
        later (inr le) =
            let after = w.after in
            let at : w.place ≡ from = omega (arith, after, le) in
            let one : w.read ≡ read =
            sym (get_or_from_slice_get reads w.place w.read read w.there) ∙ (ap (λ (p : ℕ). get_or reads p read) at ∙ sym is) in
            absurd (apart (sym w.its_client ∙ ap (λ (r : StampedRead). r.client) one)
            (sym w.its_number ∙ ap (λ (r : StampedRead). r.place) one))

      found_by : (n k : ℕ) → (n ≡ read.client) ⊎ (n ≢ read.client) → (k ≡ read.place) ⊎ (k ≢ read.place)
          → (finds_at more n k ≡ finds_of walked.script walked.report n k) ⊎ IsWaiting reads (from + 1) n k
      found_by n k (inl e) (inl f) = inl (here_is n k e f)
      found_by n k (inl e) (inr ne) = waits n k (λ x y. ne y) (so_far.found n k) (beside_is n k e ne)
      found_by n k (inr ne) f = waits n k (λ x y. ne x) (so_far.found n k) (other n k ne)

    -- none waits behind the last
    pub found_all : length reads ≤ from → (n k : ℕ) → finds_at table n k ≡ finds_of walked.script walked.report n k
    found_all le n k = by (so_far.found n k) where
      by : (finds_at table n k ≡ finds_of walked.script walked.report n k) ⊎ IsWaiting reads from n k
          → finds_at table n k ≡ finds_of walked.script walked.report n k
      by (inl e) = e
      by (inr w) =
          let lt = slice_get_within reads w.place w.read w.there in
          let after = w.after in absurd (let f : ⊥ = omega (arith, lt, after, le) in f)
