-- What a client gives to changes of trees, and to lists of the names in a path.
use Rattle.std.proofs.Common.{◌≡◌, ◌≢◌, ℕ, List, [], map, Option, Some, None, Ok, Err, refl, ap, sym, subst, ◌∙◌, inl, inr}
use Rattle.std.specs.Prelude.{IfErr, IfOk, Result}
use Rattle.log_node.specs.declared.ids.Colours.{Colours}
use Rattle.log_node.specs.Sets.{members}
use Rattle.object_fold.specs.Folds.{told_of}
use Rattle.tree_fold.specs.declared.change.Change.{Change}
use Rattle.tree_fold.specs.declared.told.Told.{Told}
use Rattle.tree_fold.specs.declared.told.Told.TheVariants.{Done, Failed}
use Rattle.tree_fold.specs.Changes.{change_keys, change_text}
use Rattle.tree_fold.specs.Paths.{Path}
use Rattle.tree_fold.specs.declared.change.Change.TheVariants.{Make, Remove, Move}
use Rattle.tree_fold.specs.Readings.{below_root_of, make_of, move_of, path_of, remove_of}
use Rattle.tree_fold.specs.Trees.{NamesAfter, telling}
use Rattle.tree_fold.proofs.CallerLemmas.{make_fits, remove_fits, move_fits}
use Rattle.col_core.specs.Keeping.{Kept}
use Rattle.col_core.specs.Log.{Log}
use Rattle.script_text.specs.declared.script.Kind.{Kind}
use Rattle.script_text.specs.declared.script.Kind.TheVariants as kinds
use Rattle.script_text.specs.declared.script.Object.{Object}
use Rattle.script_text.specs.declared.commands.What.{What}
use Rattle.script_text.specs.declared.commands.What.TheVariants as whats
use Rattle.script_text.specs.declared.uses.ReadUse.TheVariants.{Leaves}
use Rattle.script_text.specs.declared.uses.Use.{Use}
use Rattle.script_text.specs.declared.uses.Use.TheVariants.{OfObject}
use Rattle.script_text.specs.Commands.{use_of}
use Rattle.report_text.specs.declared.report.Answer.{Answer}
use Rattle.report_text.specs.declared.report.Answer.TheVariants as answers
use Rattle.lawful_run.specs.Asks.{Committing, home_asked, kind_asked, kind_used, object_colours, object_home, rising, shards}
use Rattle.lawful_run.specs.Callers.{Caller}
use Rattle.lawful_run.specs.Deeds.{AsksToAppend, Deed, Saying, SaysNode, colours_reached, colours_synced, manner_of, says_change}
use Rattle.lawful_run.specs.Explains.{Explains}
use Rattle.lawful_run.specs.Reads.{ReadsAt}
use Rattle.lawful_run.specs.Refusals.{IsAway, IsHomeRefusal, before_by, behind_by, kept_before, kept_behind}
use Rattle.lawful_run.specs.Shapes.{TellsBehind}
use Rattle.lawful_run.proofs.CallerLemmas.{make_said, remove_said, move_said}
use Rattle.script_meaning.specs.States.{kind_in}
use Rattle.script_meaning.specs.Trees.{change_answer}
use Rattle.log_client.specs.declared.store.Store.{Store}
use Rattle.log_client.specs.declared.client.Client.{Client}
use Rattle.log_client.specs.declared.answers.Appended.{Appended}
use Rattle.log_client.specs.declared.answers.StampedRead.{StampedRead}
use Rattle.log_client.specs.declared.object_fault.ObjectFault.{ObjectFault}
use Rattle.log_client.specs.declared.object_fault.ObjectFault.TheVariants as faults
use Rattle.log_client.specs.Appends.{piece_of}
use Rattle.log_client.specs.Clients.{IsClient, caller_of}
use Rattle.log_client.specs.Reading.{RestsOn}
use Rattle.log_client.specs.StampedReads.{raise_piece, sync_piece}
use Rattle.log_client.proofs.CallerLemmas.{rests_same}
use Rattle.region_fold.specs.Reads.{HasNodesRead, TellRefused}
use Rattle.log_tree.specs.declared.tree.LogTree.{LogTree}
use Rattle.log_tree.specs.Trees.{ChangeRefused, Changes, Looks, TreeRefused}
use Rattle.run_script.specs.declared.serving.opened.Opened.{Opened}
use Rattle.run_script.specs.declared.serving.opened.Opened.TheVariants as opened
use Rattle.run_script.specs.Changing.{AsksChange}
use Rattle.run_script.specs.Opened.{HasCommand, KeepsReadsBut, kind_opened, object_asked, object_in, versions_in}
use Rattle.run_script.specs.Replying.{fault_answer, names_answer, told_answer}
use Rattle.run_script.specs.Serving.{ServesObject, GivesOf, GivesTo}
use Rattle.run_script.proofs.GivingObjects.{ExplainsIf, away_from, away_if, gives_by, gives_none, none_if, who}
use Rattle.run_script.proofs.GivingReads.{refused_gives_of}
use Rattle.run_script.proofs.GivingTold.{gives_found, refused_gives, told_gives}
use Rattle.run_script.proofs.ReadsFound.{given_at, gives_unread, keeps_but}

-- WHICH COMMANDS CHANGE TREES

-- the number of the object that is used is that which is asked
used : (what : What) (n object : ℕ) → use_of what ≡ OfObject n Leaves → object_asked what ≡ Some object
    → use_of what ≡ OfObject object Leaves
used what n object uses asked =
    let same : n ≡ object = cc (sym (ap object_in uses) ∙ asked) in uses ∙ ap (λ (k : ℕ). OfObject k Leaves) same

-- what is asked for is what was made out
pub same_change : {E : Type 0} (said : Result (Option Change) E) (found : Option Change) (change asked : Change)
    → said ≡ Ok found → found ≡ Some change → IfOk said (λ o. o ≡ Some asked) → asked ≡ change
same_change {E} said found change asked at is made =
    let e = sym (subst (λ (call : Result (Option Change) E). IfOk call (λ o. o ≡ Some asked)) at made) ∙ is in cc (e)

-- the change that a command asks for is what was made out of its fields
asked_so : {E : Type 0} (what asks : What) (change : Change) (said : Result (Option Change) E) (found : Option Change)
    → what ≡ asks → AsksChange asks change → IfOk said (λ o. o ≡ found) → found ≡ Some change
    → (asked : Change) × AsksChange what asked × IfOk said (λ o. o ≡ Some asked)
asked_so what asks change said found is its made same =
    (change, subst (λ (w : What). AsksChange w change) (sym is) its, out said made) where
      out : {E : Type 0} (said : Result (Option Change) E) → IfOk said (λ o. o ≡ found) → IfOk said (λ o. o ≡ Some change)
      out (Ok o) made = made ∙ same
      out (Err e) made = tt

pub asks_make : {E : Type 0} (kind : Kind) (what : What) (object : ℕ) (path value p v : List ℕ) (said : Result (Option Change) E)
    → HasCommand kind what → what ≡ whats.Mk object path value → p ≡ path → v ≡ value
    → IfOk said (λ o. o ≡ make_of (below_root_of p) v) → (asked : Change) × AsksChange what asked × IfOk said (λ o. o ≡ Some asked)
asks_make kind what object path value p v said has is of to made =
    let fields = make_said object path value (subst (HasCommand kind) is has).1 in
    asked_so what (whats.Mk object path value) (Make fields.0 value) said _ is (record {
      object = object;
      uses = refl;
      deed = refl;
      says = λ kind found. ap says_change fields.2;
      may_be = make_fits path value _ fields.2;
    }) made (ap (λ (b : List ℕ). make_of (below_root_of b) v) of ∙ (ap (make_of (below_root_of path)) to ∙ fields.2))

pub asks_remove : {E : Type 0} (kind : Kind) (what : What) (object : ℕ) (path p : List ℕ) (said : Result (Option Change) E)
    → HasCommand kind what → what ≡ whats.Rm object path → p ≡ path
    → IfOk said (λ o. o ≡ remove_of (below_root_of p)) → (asked : Change) × AsksChange what asked × IfOk said (λ o. o ≡ Some asked)
asks_remove kind what object path p said has is of made =
    let fields = remove_said object path (subst (HasCommand kind) is has).1 in
    asked_so what (whats.Rm object path) (Remove fields.0) said _ is (record {
      object = object;
      uses = refl;
      deed = refl;
      says = λ kind found. ap says_change fields.2;
      may_be = remove_fits path _ fields.2;
    }) made (ap (λ (b : List ℕ). remove_of (below_root_of b)) of ∙ fields.2)

pub asks_move : {E : Type 0} (kind : Kind) (what : What) (object : ℕ) (source target p q : List ℕ)
    (said : Result (Option Change) E) → HasCommand kind what → what ≡ whats.Mv object source target → p ≡ source → q ≡ target
    → IfOk said (λ o. o ≡ move_of (below_root_of p) (below_root_of q))
    → (asked : Change) × AsksChange what asked × IfOk said (λ o. o ≡ Some asked)
asks_move kind what object source target p q said has is of to made =
    let fields = move_said object source target (subst (HasCommand kind) is has).1 in
    asked_so what (whats.Mv object source target) (Move fields.0 fields.1) said _ is (record {
      object = object;
      uses = refl;
      deed = refl;
      says = λ kind found. ap says_change fields.4;
      may_be = move_fits source target _ fields.4;
    }) made (ap (λ (b : List ℕ). move_of (below_root_of b) (below_root_of q)) of
    ∙ (ap (λ (b : List ℕ). move_of (below_root_of source) (below_root_of b)) to ∙ fields.4))

-- WHAT A CHANGE IS GIVEN

module _ (s : Store) (c d : Client) (on : RestsOn s c d) (objects : List Object) (object : ℕ) (t u : LogTree) (what : What)
    (change : Change) (its : AsksChange what change) (uses : use_of what ≡ OfObject object Leaves)
    (at : kind_in objects object ≡ Some (kinds.Tree t.home t.colours)) where
  abbrev it : Caller
  it = who s c d on objects

  abbrev x : Opened
  x = opened.Tree t

  abbrev y : Opened
  y = opened.Tree u

  abbrev Found : Kept → Type 0
  Found kept = kept.reads object ≡ versions_in x

  committing : manner_of what ≡ Committing
  committing = ap (λ (deed : Deed). deed.manner) its.deed

  kind_is : kind_asked it what ≡ Some (kinds.Tree t.home t.colours)
  kind_is = ap (kind_used it) uses ∙ at

  home_is : home_asked it what ≡ Some t.home
  home_is = ap object_home kind_is

  synced : colours_synced it what ≡ rising t.colours
  synced = ap (λ (deed : Deed). colours_reached (object_colours (kind_asked it what)) deed.syncs) its.deed
      ∙ ap (λ (k : Option Kind). rising (object_colours k)) kind_is

  -- its node has the colours of the shards of the change's keys
  asks : (kept : Kept) (set : Colours) → Found kept → members set ≡ shards t.colours (change_keys change)
      → AsksToAppend it kept what set (change_text change)
  asks kept set found is =
      subst (λ (said : Option Saying). SaysNode (object_colours (kind_asked it what)) said set (change_text change))
      (sym (its.says _ _))
      (is ∙ ap (λ (k : Option Kind). shards (object_colours k) (change_keys change)) (sym kind_is), refl)

  lets_none_go : (kept : Kept) → (kept_before what kept).reads ≡ kept.reads
  lets_none_go kept = ap (λ (u : Use). (before_by u kept).reads) uses

  leaves : (kept answered : Kept) → Found kept → answered.reads ≡ kept.reads
      → KeepsReadsBut object None kept (kept_behind what answered)
  leaves kept answered found same =
      keeps_but object None kept (kept_behind what answered) found
      (ap (λ (u : Use). (behind_by u answered).reads) uses ∙ same)

  gives_if : (answer : Answer) → (IsAway it (home_asked it what) → IsHomeRefusal answer)
      → ExplainsIf s c d on objects Found what answer → ServesObject s objects c d object x y what answer
  gives_if = gives_found s c d on objects object x y what committing lets_none_go leaves

  untold : (fault : ObjectFault) → (IsAway it (home_asked it what) → IsHomeRefusal (fault_answer fault))
      → TellRefused s c d (shards t.colours (change_keys change)) (change_text change) t.colours fault
      → ServesObject s objects c d object x y what (fault_answer fault)
  untold =
      refused_gives s c d on objects object x y what committing lets_none_go leaves
      (shards t.colours (change_keys change)) (change_text change) t.colours synced asks

  told : (tells : Told) (a : Appended) (read : StampedRead)
      → (IsAway it (home_asked it what) → IsHomeRefusal (told_answer change_answer (Ok (tells, a, read))))
      → Changes s c d t change tells a read
      → ServesObject s objects c d object x y what (told_answer change_answer (Ok (tells, a, read)))
  told tells a read away stands =
      told_gives s c d on objects object x y what committing lets_none_go leaves
      (shards t.colours (change_keys change)) (change_text change) t.colours synced asks
      (λ own nodes. told_of telling nodes own ≡ Some tells) t.fold.kept.last stands.set a read
      (told_answer change_answer (Ok (tells, a, read))) away stands.members_are stands.explained (shown tells) where
        shown : (tells : Told) (log : Log) (kept after : Kept) → TellsBehind log it kept what a.row
            (map piece_of a.stood.points) read.stamp (map raise_piece read.raises) (map sync_piece read.syncs)
            (λ own nodes. told_of telling nodes own ≡ Some tells) after
            → Explains log it kept what (told_answer change_answer (Ok (tells, a, read))) [] after
        shown (Done stamp) log kept after tells = (refl, tells)
        shown (Failed stamp why) log kept after tells = (refl, tells)

  refused : (fault : ObjectFault) → (IsAway it (home_asked it what) → IsHomeRefusal (fault_answer fault))
      → ChangeRefused s c d t change fault → ServesObject s objects c d object x y what (fault_answer fault)
  refused (faults.NotHome shown) away is =
      gives_if (answers.NotHome shown) away (away_if s c d on objects Found what (Some t.home) shown home_is is)
  refused (faults.Append fault) away is = untold (faults.Append fault) away is
  refused (faults.Sync fault) away is = absurd is
  refused (faults.Unread stamp why) away is = untold (faults.Unread stamp why) away is
  refused faults.NoTx away is = absurd is
  refused faults.NoMemory away is = gives_if answers.NoMemory away (none_if s c d on objects Found what is)

  -- what was called is answered
  gives_by_call : (call : Result (Told × Appended × StampedRead) ObjectFault)
      → (c.region ≢ t.home → call ≡ Err (faults.NotHome t.home)) → IfOk call (λ r. Changes s c d t change r.0 r.1 r.2)
      → IfErr call (ChangeRefused s c d t change) → ServesObject s objects c d object x y what (told_answer change_answer call)
  gives_by_call (Ok r) tells ok err =
      told r.0 r.1 r.2 (away_from s c d on objects what t.home (Ok r) _ home_is tells tt) ok
  gives_by_call (Err fault) tells ok err =
      refused fault (away_from s c d on objects what t.home (Err fault) (fault_answer fault) home_is tells refl) err

pub gives_change : (s : Store) (c d : Client) → RestsOn s c d → (t u : LogTree) (what : What) (change : Change)
    → AsksChange what change → (call : Result (Told × Appended × StampedRead) ObjectFault) (answer : Answer)
    → answer ≡ told_answer change_answer call → (c.region ≢ t.home → call ≡ Err (faults.NotHome t.home))
    → IfOk call (λ r. Changes s c d t change r.0 r.1 r.2) → IfErr call (ChangeRefused s c d t change)
    → (objects : List Object) (object : ℕ) → object_asked what ≡ Some object
    → kind_in objects object ≡ Some (kind_opened (opened.Tree t))
    → ServesObject s objects c d object (opened.Tree t) (opened.Tree u) what answer
gives_change s c d on t u what change its call answer shown tells ok err objects object asked at =
    subst (ServesObject s objects c d object (opened.Tree t) (opened.Tree u) what) (sym shown)
    (gives_by_call s c d on objects object t u what change its (used what its.object object its.uses asked) at call tells ok err)

-- where memory was refused before anything was done
pub gives_unchanged : (s : Store) (c : Client) → IsClient s c → (x : Opened) (what : What) (change : Change)
    → AsksChange what change → (objects : List Object) (object : ℕ) → object_asked what ≡ Some object
    → kind_in objects object ≡ Some (kind_opened x) → ServesObject s objects c c object x x what answers.NoMemory
gives_unchanged s c is x what change its objects object asked at =
    given_at s objects c c object x x what answers.NoMemory (used what its.object object its.uses asked) refl
    (gives_none s c c (rests_same s c is) objects what (inr (λ helps. helps)) refl)

-- WHAT A LIST IS GIVEN

module _ (s : Store) (c d : Client) (on : RestsOn s c d) (t : LogTree) (text : List ℕ) (place : Path)
    (is : path_of text ≡ Some place) (objects : List Object) (object : ℕ)
    (at : kind_in objects object ≡ Some (kinds.Tree t.home t.colours)) where
  abbrev ls : What
  ls = whats.Ls object text

  reads_whole : colours_synced (caller_of s d objects) ls ≡ rising t.colours
  reads_whole = ap (λ (k : Option Kind). rising (object_colours k)) at

  lists : (call : Result (Option (List (List ℕ)) × StampedRead) ObjectFault)
      → (c.region ≢ t.home → call ≡ Err (faults.NotHome t.home))
      → IfOk call (λ r. Looks s c d t r.1 (NamesAfter place r.0)) → IfErr call (TreeRefused s c d t)
      → GivesOf s objects c d ls (names_answer call) []
  lists (Ok r) tells ok err =
      let raises = map raise_piece r.1.raises in
      let syncs = map sync_piece r.1.syncs in
      gives_by s c d on objects ls (answers.Listed r.0 r.1.stamp raises syncs)
      (HasNodesRead (rising t.colours) t.fold.kept.last r.1 (NamesAfter place r.0)) (inl refl)
      (away_from s c d on objects ls t.home (Ok r) _ (ap object_home at) tells tt) ok
      (λ log kept after x. (
        refl,
        object,
        text,
        refl,
        (
          subst (λ (l : List ℕ). ReadsAt log (caller_of s d objects) kept l r.1.stamp raises syncs after)
              (sym reads_whole) x.1.0,
          x.0,
          x.1.1,
          x.2,
          x.3,
          (place, is, x.4),
        ),
      ))
  lists (Err fault) tells ok err =
      refused_gives_of s c d on objects ls refl (rising t.colours) reads_whole t.home (ap object_home at) fault
      (away_from s c d on objects ls t.home (Err fault) (fault_answer fault) (ap object_home at) tells refl) err

pub gives_list : (s : Store) (c d : Client) → RestsOn s c d → (x y : Opened) (t : LogTree) → kind_opened x ≡ kinds.Tree t.home t.colours
    → kind_opened y ≡ kind_opened x → (text : List ℕ) (place : Path)
    → path_of text ≡ Some place → (call : Result (Option (List (List ℕ)) × StampedRead) ObjectFault) (answer : Answer)
    → answer ≡ names_answer call → (c.region ≢ t.home → call ≡ Err (faults.NotHome t.home))
    → IfOk call (λ r. Looks s c d t r.1 (NamesAfter place r.0)) → IfErr call (TreeRefused s c d t)
    → GivesTo s c d x y (λ object. whats.Ls object text) answer
gives_list s c d on x y t of same text place is call answer shown tells ok err =
    gives_unread s c d x y (kinds.Tree t.home t.colours) (λ object. whats.Ls object text) answer of same refl (λ object. refl)
    (λ objects object at.
    subst (λ (a : Answer). GivesOf s objects c d (whats.Ls object text) a []) (sym shown)
    (lists s c d on t text place is objects object at call tells ok err))
