-- The colours that a command of a fitting script syncs, and those on which it appends, are those of its shape.
use Rattle.std.proofs.Common.{◌≡◌, ◌∙◌, refl, ap, sym, subst, Bool, true, ℕ, zero, suc, ◌<◌, List, [], ◌∷◌, ◌++◌, map, Option, Some, None, ◌⊎◌, inl, inr, arith}
use Rattle.std.specs.Prelude.{◌==◌, ◌%◌, slice_get, slice_index, sum, length}
use Rattle.std.specs.List.{All, list_any, range_with_len}
use Rattle.std.specs.Option.{option_map}
use Rattle.std.proofs.lemmas.Bool.{eqb-true, or_cases}
use Rattle.std.proofs.lemmas.List.{length-map}
use Rattle.std.proofs.lemmas.List.Elements.{All-contains}
use Rattle.log_node.specs.declared.forms.Version.{Version}
use Rattle.log_node.specs.declared.limits.TheConstants.{MAX_COLOURS}
use Rattle.log_node.specs.Sets.{members}
use Rattle.object_fold.specs.Nodes.{shard_of}
use Rattle.tree_fold.specs.declared.change.Change.{Change}
use Rattle.tree_fold.specs.Changes.{change_keys}
use Rattle.tree_fold.specs.Readings.{below_root_of, make_of, remove_of, move_of}
use Rattle.col_core.specs.Keeping.{Kept}
use Rattle.col_core.proofs.CallerLemmas.{In, contains_in, slice_in, in_filter}
use Rattle.script_text.specs.declared.commands.What.{What}
use Rattle.script_text.specs.declared.commands.What.TheVariants as whats
use Rattle.script_text.specs.declared.script.Kind.{Kind}
use Rattle.script_text.specs.declared.script.Kind.TheVariants as kinds
use Rattle.script_text.specs.declared.script.Object.{Object}
use Rattle.script_text.specs.declared.script.Script.{Script}
use Rattle.script_text.specs.declared.uses.Use.{Use}
use Rattle.script_text.specs.declared.uses.Use.TheVariants.{OfLog, OfObject}
use Rattle.script_text.specs.Apart.{colours_of}
use Rattle.script_text.specs.Commands.{use_of}
use Rattle.script_text.specs.Fitting.{IsFitting, IsWithin, IsKindWithin}
use Rattle.report_text.specs.declared.report.ClientReport.{ClientReport}
use Rattle.report_text.specs.declared.report.Report.{Report}
use Rattle.lawful_run.specs.Callers.{Caller, caller_of}
use Rattle.lawful_run.specs.Asks.{kind_of_object, kind_used, kind_asked, keys_of_pairs, object_colours, rising}
use Rattle.lawful_run.specs.Deeds.{Reach, NoColours, Named, One, ShardsOf, Whole, Listed, ShardThenWhole, Saying, colours_reached, deed_of, colours_synced, saying_of, says_change, found_by}
use Rattle.lawful_run.proofs.CallerLemmas.{get_within}
use Rattle.run_rules.specs.Told.{colours_said, colours_asked}

-- each is below so many
abbrev pub Below : ℕ → List ℕ → Type 0
Below count colours = (c : ℕ) → In c colours → c < count

pub below_all : (count : ℕ) (colours : List ℕ) → All (λ c. c < count) colours → Below count colours
below_all count colours all c i = All-contains (λ n. n < count) colours c all (contains_in colours c i)

any_of : {A : Type 0} (test : A → Bool) (xs : List A) → list_any test xs ≡ true → (x : A) × In x xs × (test x ≡ true)
any_of test [] e = absurd (let f : ⊥ = cc (e) in f)
any_of test (x ∷ xs) e = turn (or_cases (test x) (list_any test xs) e) (any_of test xs) where
  turn : (test x ≡ true) ⊎ (list_any test xs ≡ true) → (list_any test xs ≡ true → (y : _) × In y xs × (test y ≡ true))
      → (y : _) × In y (x ∷ xs) × (test y ≡ true)
  turn (inl t) more = (x, inl refl, t)
  turn (inr r) more = let m = more r in (m.0, inr m.1, m.2)

module _ (count : ℕ) (some : 0 < count) where
  index_below : (colours : List ℕ) (n : ℕ) → Below count colours → slice_index colours n < count
  index_below [] n b = some
  index_below (x ∷ xs) zero b = b x (inl refl)
  index_below (x ∷ xs) (suc n) b = index_below xs n (λ c i. b c (inr i))

  -- a reach names no other colours
  abbrev NamesBelow : Reach → Type 0
  NamesBelow (Named colours) = Below count (members colours)
  NamesBelow (One colour) = colour < count
  NamesBelow _ = Unit {0}

  pub rising_below : (own : List ℕ) → Below count own → Below count (rising own)
  rising_below own b c i =
      let t = in_filter (λ (k : ℕ). list_any (λ (d : ℕ). d == k) own) c (range_with_len 0 MAX_COLOURS) i in
      let x = any_of (λ (d : ℕ). d == c) own t.1 in
      subst (λ (k : ℕ). k < count) (eqb-true x.0 c x.2) (b x.0 x.1)

  reached_below : (own : List ℕ) → Below count own → (reach : Reach) → NamesBelow reach → Below count (colours_reached own reach)
  reached_below own b NoColours n c i = absurd i
  reached_below own b (Named colours) n c i = n c i
  reached_below own b (One colour) n c (inl e) = subst (λ (k : ℕ). k < count) e n
  reached_below own b (One colour) n c (inr i) = absurd i
  reached_below own b (ShardsOf keys) n c i =
      let t = in_filter (λ (k : ℕ). list_any (λ (key : List ℕ). shard_of own key == k) keys) c (range_with_len 0 MAX_COLOURS) i in
      let x = any_of (λ (key : List ℕ). shard_of own key == c) keys t.1 in
      subst (λ (k : ℕ). k < count) (eqb-true (shard_of own x.0) c x.2)
      (index_below own (sum x.0 % length own) b)
  reached_below own b Whole n c i = rising_below own b c i
  reached_below own b Listed n c i = b c i
  reached_below own b (ShardThenWhole key) n c (inl e) =
      subst (λ (k : ℕ). k < count) e (index_below own (sum key % length own) b)
  reached_below own b (ShardThenWhole key) n c (inr i) = rising_below own b c i

  module _ (regions : ℕ) where
    synced_names : (what : What) → IsWithin regions count what → NamesBelow (deed_of what).syncs
    synced_names (whats.Append colours text) w = tt
    synced_names (whats.Stop steps colours text) w = tt
    synced_names (whats.Sync colour) w = w
    synced_names (whats.Scan colours) w = below_all count (members colours) w.1
    synced_names (whats.Pull region colour) w = tt
    synced_names (whats.Trim colour) w = tt
    synced_names (whats.Put object key value) w = tt
    synced_names (whats.Get object key) w = tt
    synced_names (whats.Del object key) w = tt
    synced_names (whats.PutAll object pairs) w = tt
    synced_names (whats.GetAll object keys) w = tt
    synced_names (whats.Read object keys) w = tt
    synced_names (whats.Commit object pairs) w = tt
    synced_names (whats.Enq object value) w = tt
    synced_names (whats.Deq object) w = tt
    synced_names (whats.Only colour text) w = tt
    synced_names (whats.Mk object path value) w = tt
    synced_names (whats.Rm object path) w = tt
    synced_names (whats.Mv object source target) w = tt
    synced_names (whats.Ls object path) w = tt
    synced_names (whats.Peek object key) w = tt
    synced_names (whats.Decide object key) w = tt

    abbrev SaidBelow : List ℕ → Option Saying → Type 0
    SaidBelow own saying = Below count (colours_said own saying)

    module _ (own : List ℕ) (b : Below count own) where
      change_below : (change : Option Change) → SaidBelow own (says_change change)
      change_below None = λ c i. absurd i
      change_below (Some change) = reached_below own b (ShardsOf (change_keys change)) tt

      said_below : (kind : Option Kind) (found : Option (List Version)) (what : What) → IsWithin regions count what
          → SaidBelow own (saying_of kind found what)
      said_below kind found (whats.Append colours text) w =
          reached_below own b (Named colours) (below_all count (members colours) w.1)
      said_below kind found (whats.Stop steps colours text) w =
          reached_below own b (Named colours) (below_all count (members colours) w.1)
      said_below kind found (whats.Put object key value) w = reached_below own b (ShardsOf (key ∷ [])) tt
      said_below kind found (whats.Del object key) w = reached_below own b (ShardsOf (key ∷ [])) tt
      said_below kind found (whats.PutAll object pairs) w = reached_below own b (ShardsOf (keys_of_pairs pairs)) tt
      said_below kind None (whats.Commit object pairs) w = λ c i. absurd i
      said_below kind (Some versions) (whats.Commit object pairs) w =
          reached_below own b (ShardsOf (map (λ (v : Version). v.key) versions ++ keys_of_pairs pairs)) tt
      said_below kind found (whats.Enq object value) w = reached_below own b Listed tt
      said_below kind found (whats.Deq object) w = reached_below own b Listed tt
      said_below kind found (whats.Only colour text) w = reached_below own b (One colour) w
      said_below kind found (whats.Mk object path value) w = change_below (make_of (below_root_of path) value)
      said_below kind found (whats.Rm object path) w = change_below (remove_of (below_root_of path))
      said_below kind found (whats.Mv object source target) w =
          change_below (move_of (below_root_of source) (below_root_of target))
      said_below kind found (whats.Decide object key) w = reached_below own b (ShardsOf (key ∷ [])) tt
      said_below kind found (whats.Sync colour) w = λ c i. absurd i
      said_below kind found (whats.Scan colours) w = λ c i. absurd i
      said_below kind found (whats.Pull region colour) w = λ c i. absurd i
      said_below kind found (whats.Trim colour) w = λ c i. absurd i
      said_below kind found (whats.Get object key) w = λ c i. absurd i
      said_below kind found (whats.GetAll object keys) w = λ c i. absurd i
      said_below kind found (whats.Read object keys) w = λ c i. absurd i
      said_below kind found (whats.Ls object path) w = λ c i. absurd i
      said_below kind found (whats.Peek object key) w = λ c i. absurd i

    kind_below : (kind : Kind) → IsKindWithin regions count kind → Below count (colours_of kind)
    kind_below (kinds.Map home colours) w = below_all count colours w.1.below
    kind_below (kinds.Tx home colours) w = below_all count colours w.1.below
    kind_below (kinds.Causal colour) w = λ c i. elim i [ inl e ↦ subst (λ (k : ℕ). k < count) e w | inr n ↦ absurd n ]
    kind_below (kinds.Queue home colour) w =
        λ c i. elim i [ inl e ↦ subst (λ (k : ℕ). k < count) e w.1 | inr n ↦ absurd n ]
    kind_below (kinds.Tree home colours) w = below_all count colours w.1.below
    kind_below (kinds.Parts home colours) w = below_all count colours w.1.below

    objects_below : (objects : List Object) → All (λ (o : Object). IsKindWithin regions count o.kind) objects → (object : ℕ)
        → (kind : Kind) → option_map (λ (o : Object). o.kind) (slice_get objects object) ≡ Some kind
        → IsKindWithin regions count kind
    objects_below objects all object kind e = turn (slice_get objects object) refl e where
      turn : (o : Option Object) → slice_get objects object ≡ o → option_map (λ (x : Object). x.kind) o ≡ Some kind
          → IsKindWithin regions count kind
      turn None s f = absurd (let g : ⊥ = cc (f) in g)
      turn (Some o) s f =
          let k : o.kind ≡ kind = cc (f) in
          subst (IsKindWithin regions count) k
          (All-contains (λ (x : Object). IsKindWithin regions count x.kind) objects o all
          (contains_in objects o (slice_in objects object o s)))

module _ (script : Script) (fits : IsFitting script) (n : ℕ) where
  abbrev it : Caller
  it = caller_of script n

  abbrev colours : ℕ
  colours = script.shape.colours

  own_below : (kind : Option Kind) → ((k : Kind) → kind ≡ Some k → IsKindWithin script.shape.regions colours k)
      → Below colours (object_colours kind)
  own_below None f = λ c i. absurd i
  own_below (Some kind) f = kind_below colours fits.shape.a_colour script.shape.regions kind (f kind refl)

  -- what an object of a kind has is in the shape
  pub kind_within : (object : ℕ) (kind : Kind) → kind_of_object it object ≡ Some kind
      → IsKindWithin script.shape.regions colours kind
  kind_within object kind e = objects_below colours fits.shape.a_colour script.shape.regions script.objects fits.objects object kind e

  asked_below : (what : What) → Below colours (object_colours (kind_asked it what))
  asked_below what = by (use_of what) where
    by : (u : Use) → Below colours (object_colours (kind_used it u))
    by (OfLog stops) = λ c i. absurd i
    by (OfObject object read) = own_below (kind_of_object it object) (kind_within object)

  -- all colours of the object that a command names are, in rising number
  pub whole_within : (what : What) → Below colours (rising (object_colours (kind_asked it what)))
  whole_within what =
      rising_below colours fits.shape.a_colour (object_colours (kind_asked it what)) (asked_below what)

  -- and so is the shard of a key of an object
  pub shards_within : (object : ℕ) (key : List ℕ) → shard_of (object_colours (kind_of_object it object)) key < colours
  shards_within object key =
      let own = object_colours (kind_of_object it object) in
      index_below colours fits.shape.a_colour own (sum key % length own)
      (own_below (kind_of_object it object) (kind_within object))

  pub synced_within : (what : What) → IsWithin script.shape.regions colours what → Below colours (colours_synced it what)
  synced_within what w =
      reached_below colours fits.shape.a_colour (object_colours (kind_asked it what)) (asked_below what) (deed_of what).syncs
      (synced_names colours fits.shape.a_colour script.shape.regions what w)

  pub appended_within : (kept : Kept) (what : What) → IsWithin script.shape.regions colours what
      → Below colours (colours_asked it kept what)
  appended_within kept what w =
      said_below colours fits.shape.a_colour script.shape.regions (object_colours (kind_asked it what)) (asked_below what)
      (kind_asked it what) (found_by (use_of what) kept) what w

-- the region of a client that a report shows is in the shape
pub home_within : (script : Script) (report : Report) → IsFitting script
    → map (λ (c : ClientReport). c.name) report.clients ≡ script.clients → (n : ℕ) (c : ClientReport)
    → slice_get report.clients n ≡ Some c → (caller_of script n).own < script.shape.regions
home_within script report fits names n c there =
    let lt = get_within report.clients n c there in
    let long : length report.clients ≡ length script.clients =
    sym (length-map report.clients (λ (x : ClientReport). x.name)) ∙ ap length names in
    let all = fits.clients in
    fits.shape.homes n 0 (omega (arith, lt, long, all))
