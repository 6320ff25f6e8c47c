-- A stamped read put together from its parts, and the scan that it answers.
use Rattle.std.proofs.Common.{◌≡◌, ◌≢◌, ℕ, zero, suc, ◌+◌, ◌<◌, Bool, true, false, List, [], ◌∷◌, length, map, Option, Some, None, refl, ap, sym, subst, ◌∙◌, inl, inr, arith}
use Rattle.std.specs.List.{All, fold}
use Rattle.std.specs.Option.{is_some}
use Rattle.std.proofs.lemmas.List.{length-map}
use Rattle.log_node.specs.declared.ids.Counts.{Counts}
use Rattle.log_node.specs.declared.ids.Key.{Key}
use Rattle.log_node.specs.declared.node.Node.{Node}
use Rattle.log_node.specs.Seen.{PlacedNode}
use Rattle.col_core.proofs.CallerLemmas.{choice, In}
use Rattle.world_laws.specs.declared.steps.Step.TheVariants.{Seen}
use Rattle.world_laws.specs.Worlds.{World, home_of, home_history, base_after, after, after_seen, may_see}
use Rattle.script_text.specs.declared.script.Command.{Command}
use Rattle.report_text.specs.declared.report.Answer.{Answer}
use Rattle.report_text.specs.declared.report.Answer.TheVariants as answers
use Rattle.report_text.specs.declared.report.RaisePiece.{RaisePiece}
use Rattle.report_text.specs.declared.report.SyncPiece.{SyncPiece}
use Rattle.script_meaning.specs.States.{State, Grants, answered}
use Rattle.script_meaning.specs.Helping.{Helping, node_by_id, cleared, all_cleared}
use Rattle.script_meaning.specs.Stamped.{Progress, ReadEnd, Whole, Refused, Unraised, StampedRead, raised, played, read_stamp, raise_in, sync_in, key_above, keys_read, read_after_plays, read_after_raises, stamped_read, shown_key, scan_answer, ended_by, scanned}
use Rattle.script_in_order.specs.Doing.{DoneBy, with_replies}
use Rattle.script_in_order.specs.Helps.{FindsNext, HelpsLead}
use Rattle.script_in_order.specs.Stamped.{no_look, looked_in, RaisesColumns, ReadsRaised, ReadsStamped}
use Rattle.script_in_order.proofs.HelpsAndClears.{found_with, finds_all}

-- THE PARTS

-- the columns cleared
clear_is : (old mid : World) (client : ℕ) (key : Key) (colours : List ℕ)
    → (helps : HelpsLead (λ grants h. fold (cleared grants client key) h colours) old mid) → (grants : Grants)
    → FindsNext grants 0 helps.finds → all_cleared grants client key colours old ≡ mid
clear_is old mid client key colours helps grants finds = ap (λ (h : Helping). h.world) (helps.is grants 0 finds)

-- syncs get their looks
pub looks_are : (w : World) (client : ℕ) (colours : List ℕ)
    → map (looked_in w client) (map no_look colours) ≡ map (sync_in w client) colours
looks_are w client [] = refl
looks_are w client (c ∷ colours) = ap (λ (l : List SyncPiece). sync_in w client c ∷ l) (looks_are w client colours)

-- what holds of the colours of a set holds of their syncs
pub all_looked : (n : ℕ) (colours : List ℕ) (syncs : List SyncPiece) → syncs ≡ map no_look colours
    → All (λ c. c < n) colours → All (λ (s : SyncPiece). s.colour < n) syncs
all_looked n colours syncs is all =
    subst (All (λ (s : SyncPiece). s.colour < n)) (sym is) (of_colours colours all) where
      of_colours : (cs : List ℕ) → All (λ c. c < n) cs → All (λ (s : SyncPiece). s.colour < n) (map no_look cs)
      of_colours [] a k d low = absurd (let f : ⊥ = omega (arith, low) in f)
      of_colours (c ∷ cs) a zero d low = a zero c (omega arith)
      of_colours (c ∷ cs) a (suc k) d low =
          of_colours cs (λ j x lt. a (suc j) x (omega (arith, lt))) k d (omega (arith, low))

-- a client that sees a stamp leaves the shape
pub see_shape : (w new : World) (client stamp : ℕ) → new ≡ after w (Seen client stamp) → new.shape ≡ w.shape
see_shape w new client stamp is =
    ap (λ (x : World). x.shape) is
    ∙ choice (λ (x : World). x.shape ≡ w.shape) (may_see w client stamp) (after_seen w client stamp) w (λ _. refl)
    (λ _. refl)

-- the nodes that are read are there
pub all_listed : (w : World) (keys : List Key)
    → ((key : Key) → In key keys → (node : Node) × (node_by_id w key.id ≡ Some node))
    → All (λ (key : Key). node_by_id w key.id ≢ None) keys
all_listed w [] each k d low = absurd (let f : ⊥ = omega (arith, low) in f)
all_listed w (key ∷ keys) each zero d low = λ none.
    let n = each key (inl refl) in let e = sym n.1 ∙ none in let f : ⊥ = cc in f
all_listed w (key ∷ keys) each (suc k) d low =
    all_listed w keys (λ x i. each x (inr i)) k d (omega (arith, low))

-- a read whose columns are raised, cleared and played
module _ (old mid last : World) (client stamp : ℕ) (colours : List ℕ) (stopped : Option ℕ)
    (helps : HelpsLead (λ grants h. fold (cleared grants client (key_above stamp)) h colours) old mid)
    (plays : played client mid colours ≡ record { world = last; stopped = stopped }) where
  on_from : (grants : Grants) → FindsNext grants 0 helps.finds → (first : World)
      → read_stamp first client colours ≡ stamp
      → read_after_raises grants client colours first old None
      ≡ read_after_plays client colours first mid last stopped
  on_from grants finds first is =
      let same : all_cleared grants client (key_above (read_stamp first client colours)) colours old ≡ mid =
      ap (λ (s : ℕ). all_cleared grants client (key_above s) colours old) is
      ∙ clear_is old mid client (key_above stamp) colours helps grants finds in
      ap (λ (x : World). read_after_plays client colours first x (played client x colours).world
      (played client x colours).stopped) same
      ∙ ap (λ (p : Progress). read_after_plays client colours first mid p.world p.stopped) plays

pub reads_refused : (old mid new : World) (client stamp : ℕ) (colours : List ℕ) (raises : List RaisePiece) (c : ℕ)
    (base : Counts) → HelpsLead (λ grants h. fold (cleared grants client (key_above stamp)) h colours) old mid
    → played client mid colours ≡ record { world = new; stopped = Some c }
    → base ≡ base_after new.shape.regions (home_of new client) (home_history new client c)
    → ReadsRaised old new client stamp colours raises (Refused c base)
reads_refused old mid new client stamp colours raises c base helps plays is = record {
  finds = helps.finds;
  is = λ grants finds first stamp_is raises_are.
      on_from old mid new client stamp colours (Some c) helps plays grants finds first stamp_is
      ∙ ap (λ (b : Counts). let r : StampedRead = record { world = new; ends = Refused c b } in r) (sym is);
}

pub reads_whole : (old mid last new : World) (client stamp : ℕ) (colours : List ℕ) (raises : List RaisePiece)
    (syncs : List SyncPiece) → HelpsLead (λ grants h. fold (cleared grants client (key_above stamp)) h colours) old mid
    → played client mid colours ≡ record { world = last; stopped = None }
    → new ≡ after last (Seen client stamp) → syncs ≡ map (sync_in mid client) colours
    → ReadsRaised old new client stamp colours raises (Whole stamp raises syncs (keys_read new client stamp colours))
reads_whole old mid last new client stamp colours raises syncs helps plays is syncs_are = record {
  finds = helps.finds;
  is = λ grants finds first stamp_is raises_are.
      let of : ℕ → World → List RaisePiece → List SyncPiece → StampedRead =
      λ s w rs ss. record { world = w; ends = Whole s rs ss (keys_read w client s colours) } in
      let looks = map (sync_in mid client) colours in
      on_from old mid last client stamp colours None helps plays grants finds first stamp_is
      ∙ (ap (λ (s : ℕ). of s (after last (Seen client s)) (map (raise_in first client s) colours) looks) stamp_is
      ∙ (ap (λ (rs : List RaisePiece). of stamp (after last (Seen client stamp)) rs looks) raises_are
      ∙ (ap (of stamp (after last (Seen client stamp)) raises) (sym syncs_are)
      ∙ ap (λ (w : World). of stamp w raises syncs) (sym is))));
}

-- there was no memory for a raise
pub reads_unraised : (old new : World) (client stamp : ℕ) (colours : List ℕ) (stopped : Option ℕ)
    → stamp ≡ read_stamp old client colours → is_some stopped ≡ true → RaisesColumns old client stamp colours new stopped
    → ReadsStamped old new client colours Unraised
reads_unraised old new client stamp colours None is some raises = absurd (let f : ⊥ = cc in f)
reads_unraised old new client stamp colours (Some c) is some raises = record {
  found = raises.found;
  finds = [];
  is = λ grants found finds.
      ap (λ (p : Progress). read_after_raises grants client colours old p.world p.stopped)
      (ap (λ (s : ℕ). raised grants client s old colours) (sym is) ∙ raises.is grants found);
}

-- all columns were raised
pub reads_on : (old mid new : World) (client stamp : ℕ) (colours : List ℕ) (stopped : Option ℕ)
    (raises : List RaisePiece) (ends : ReadEnd) → stamp ≡ read_stamp old client colours → is_some stopped ≡ false
    → RaisesColumns old client stamp colours mid stopped → raises ≡ map (raise_in old client stamp) colours
    → ReadsRaised mid new client stamp colours raises ends → ReadsStamped old new client colours ends
reads_on old mid new client stamp colours (Some c) raises ends is none was raises_are rest =
    absurd (let f : ⊥ = cc in f)
reads_on old mid new client stamp colours None raises ends is none was raises_are rest = record {
  found = was.found;
  finds = rest.finds;
  is = λ grants found finds.
      ap (λ (p : Progress). read_after_raises grants client colours old p.world p.stopped)
      (ap (λ (s : ℕ). raised grants client s old colours) (sym is) ∙ was.is grants found)
      ∙ rest.is grants finds old (sym is) (sym raises_are);
}

-- A COMMAND THAT MAKES A STAMPED READ

pub finds_same : (grants more : Grants) → more.helps ≡ grants.helps → (n : ℕ) (finds : List (ℕ → Bool))
    → FindsNext grants n finds → FindsNext more n finds
finds_same grants more same n [] f = f
finds_same grants more same n (x ∷ finds) f =
    (ap (λ (h : ℕ → ℕ → Bool). h n) same ∙ f.0, finds_same grants more same (n + 1) finds f.1)

-- a read, with memory granted so
pub read_given : (old new : World) (client : ℕ) (colours : List ℕ) (ends : ReadEnd) → ReadsStamped old new client colours ends
    → (g : Grants) × (stamped_read g old client colours ≡ record { world = new; ends = ends })
read_given old new client colours ends reads =
    let g : Grants = record (found_with (λ _. true) reads.finds) { raises = reads.found } in (
      g,
      reads.is g refl (finds_same (found_with (λ _. true) reads.finds) g refl 0 reads.finds
          (finds_all (λ _. true) reads.finds)),
    )

-- how it is answered where its read is whole, and which nodes are then shown, in the world in which the read ended
abbrev pub Answering : Type 0
Answering = World → ℕ → List RaisePiece → List SyncPiece → List Key → Answer

abbrev pub Showing : Type 0
Showing = World → List Key → List PlacedNode

-- what it does
abbrev pub reading : Answering → Showing → Command → List ℕ → Grants → State → State
reading answer shown command colours grants state =
    let read = stamped_read grants state.world command.client colours in
    ended_by grants state command (answer read.world) (shown read.world) read.world read.ends

module _ (old new : World) (command : Command) (colours : List ℕ) (answer : Answering) (shown : Showing) where
  -- where memory is granted to a read, and for what it has read
  module _ (ends : ReadEnd) (reads : ReadsStamped old new command.client colours ends) (items : Bool) where
    abbrev grants : Grants
    grants = record (found_with (λ _. true) reads.finds) { raises = reads.found; items = items }

    read_is : stamped_read grants old command.client colours ≡ record { world = new; ends = ends }
    read_is = reads.is grants refl (finds_same (found_with (λ _. true) reads.finds) grants refl 0 reads.finds
        (finds_all (λ _. true) reads.finds))

    reading_is : (told : State)
        → reading answer shown command colours grants (with_replies old told)
        ≡ ended_by grants (with_replies old told) command (answer new) (shown new) new ends
    reading_is told =
        ap (λ (r : StampedRead). ended_by grants (with_replies old told) command (answer r.world) (shown r.world)
        r.world r.ends) read_is

  module _ (stamp : ℕ) (raises : List RaisePiece) (syncs : List SyncPiece) (keys : List Key)
      (reads : ReadsStamped old new command.client colours (Whole stamp raises syncs keys)) where
    pub told_whole : (given : Answer) (nodes : List PlacedNode) → given ≡ answer new stamp raises syncs keys
        → nodes ≡ shown new keys → DoneBy (reading answer shown command colours) command old new given nodes
    told_whole given nodes is are = record {
      grants = grants (Whole stamp raises syncs keys) reads true;
      begun = refl;
      is = λ replies. reading_is (Whole stamp raises syncs keys) reads true replies
          ∙ (ap (λ (a : Answer). answered (with_replies old replies) command new a (shown new keys)) (sym is)
          ∙ ap (answered (with_replies old replies) command new given) (sym are));
    }

    pub told_without : (nodes : List PlacedNode) → nodes ≡ []
        → DoneBy (reading answer shown command colours) command old new answers.NoMemory nodes
    told_without nodes none = record {
      grants = grants (Whole stamp raises syncs keys) reads false;
      begun = refl;
      is = λ replies. reading_is (Whole stamp raises syncs keys) reads false replies
          ∙ ap (answered (with_replies old replies) command new answers.NoMemory) (sym none);
    }

  pub told_refused : (c : ℕ) (base : Counts) (nodes : List PlacedNode)
      → ReadsStamped old new command.client colours (Refused c base) → nodes ≡ []
      → DoneBy (reading answer shown command colours) command old new (answers.Trimmed c base) nodes
  told_refused c base nodes reads none = record {
    grants = grants (Refused c base) reads true;
    begun = refl;
    is = λ replies. reading_is (Refused c base) reads true replies
        ∙ ap (answered (with_replies old replies) command new (answers.Trimmed c base)) (sym none);
  }

  pub told_unraised : (nodes : List PlacedNode) → ReadsStamped old new command.client colours Unraised → nodes ≡ []
      → DoneBy (reading answer shown command colours) command old new answers.NoMemory nodes
  told_unraised nodes reads none = record {
    grants = grants Unraised reads true;
    begun = refl;
    is = λ replies. reading_is Unraised reads true replies
        ∙ ap (answered (with_replies old replies) command new answers.NoMemory) (sym none);
  }

-- THE SCAN

abbrev pub scan_answers : Answering
scan_answers w = scan_answer

abbrev pub scan_shows : Showing
scan_shows w keys = map (shown_key w) keys

pub scans_whole : (old new : World) (command : Command) (colours : List ℕ) (stamp count : ℕ)
    (raises : List RaisePiece) (syncs : List SyncPiece) (keys : List Key) (nodes : List PlacedNode)
    → ReadsStamped old new command.client colours (Whole stamp raises syncs keys) → nodes ≡ map (shown_key new) keys
    → count ≡ length nodes
    → DoneBy (λ grants state. scanned grants state command colours) command old new
    (answers.Scanned stamp count raises syncs) nodes
scans_whole old new command colours stamp count raises syncs keys nodes reads are many =
    let same : count ≡ length keys = many ∙ (ap length are ∙ length-map keys (shown_key new)) in
    told_whole old new command colours scan_answers scan_shows stamp raises syncs keys reads
    (answers.Scanned stamp count raises syncs) nodes
    (ap (λ (n : ℕ). answers.Scanned stamp n raises syncs) same) are
