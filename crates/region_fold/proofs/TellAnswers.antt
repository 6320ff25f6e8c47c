-- What explains the answers to appends: the append and the stamped read behind it.
use Rattle.std.proofs.Common.{◌≡◌, ℕ, ◌≤◌, List, [], ◌∷◌, map, Option, Some, None, refl, ap, sym, subst, ◌∙◌, arith}
use Rattle.std.specs.Prelude.{slice_get}
use Rattle.log_node.specs.declared.ids.Colours.{Colours}
use Rattle.log_node.specs.declared.ids.Id.{Id}
use Rattle.log_node.specs.declared.ids.Key.{Key}
use Rattle.log_node.specs.Sets.{members}
use Rattle.object_fold.specs.Nodes.{ObjectNode}
use Rattle.object_fold.specs.Folds.{last_before, told_of}
use Rattle.col_core.specs.History.{entry_key, line}
use Rattle.col_core.specs.Log.{Log}
use Rattle.col_core.specs.Keeping.{Kept}
use Rattle.col_core.proofs.CallerLemmas.{In, contains_in, in_contains, slice_in}
use Rattle.script_text.specs.declared.script.Object.{Object}
use Rattle.append_core.specs.declared.stood.Point.{Point}
use Rattle.lawful_run.specs.Appends.{Appends, AppendsUnshown}
use Rattle.lawful_run.specs.Asks.{rising}
use Rattle.lawful_run.specs.Callers.{Caller, node_of}
use Rattle.lawful_run.specs.Objects.{AreObjectNodes}
use Rattle.lawful_run.specs.Reads.{HidesRead, RefusesRead}
use Rattle.lawful_run.proofs.CallerLemmas.{append_later, unshown_later}
use Rattle.client_law.specs.Knowing.{Rest, log_seen}
use Rattle.log_client.specs.declared.store.Store.{Store}
use Rattle.log_client.specs.declared.client.Client.{Client}
use Rattle.log_client.specs.declared.answers.Appended.{Appended}
use Rattle.log_client.specs.declared.answers.StampedRead.{StampedRead}
use Rattle.log_client.specs.declared.faults.SyncFault.{SyncFault}
use Rattle.log_client.specs.declared.faults.SyncFault.TheVariants as sync_faults
use Rattle.log_client.specs.declared.object_fault.ObjectFault.{ObjectFault}
use Rattle.log_client.specs.declared.object_fault.ObjectFault.TheVariants as faults
use Rattle.log_client.specs.Appends.{AppendsAs, piece_of}
use Rattle.log_client.specs.Calls.{IsExplained}
use Rattle.log_client.specs.Clients.{Keeps, caller_of, seen_of}
use Rattle.log_client.specs.Reading.{RestsOn, home_seen}
use Rattle.log_client.specs.StampedReads.{ReadRefused, ReadsAs}
use Rattle.log_client.specs.Refusals.{RefusedBy}
use Rattle.log_client.proofs.CallerLemmas.{append_unshown, explained_then, made_from, several_are_unshown, unshown}
use Rattle.region_fold.specs.Reads.{AnswersOwnNode, AreOfObject, TellRefused, TellsOwn, UntoldLeaves, tell_refusals}
use Rattle.region_fold.proofs.OwnNodes.{is_own, key_itself, own_stands}

-- WHERE THE APPEND IS NOT SHOWN

keeps_unshown : (s : Store) (d : Client) (objects : List Object) (own : ℕ) (kept after : Kept) → Keeps s d objects after
    → Keeps s d objects (unshown own kept after)
keeps_unshown s d objects own kept after keeps = record {
  by = record {
    seen_within = λ r c. let le = keeps.by.seen_within r c in omega (arith, le);
    known_within = λ c. let le = keeps.by.known_within c in omega (arith, le);
    known_under = λ c i key lt there. keeps.by.known_under c i key (omega (arith, lt)) there;
    starts_under = keeps.by.starts_under;
    starts_reached = keeps.by.starts_reached;
    steps_made = keeps.by.steps_made;
  };
  floor = keeps.floor;
  ids = keeps.ids;
  rows = keeps.rows;
  starts = keeps.starts;
}

module _ (s : Store) (c m : Client) (set : Colours) (text : List ℕ) (a : Appended)
    (stands : IsExplained s c m (AppendsAs set text a)) (its_points : map (λ (p : Point). p.colour) a.stood.points ≡ members set) where
  -- the append, of which no answer tells where it stands
  abbrev Unshown : Log → Caller → Kept → Kept → Type 0
  Unshown log caller kept after = AppendsUnshown log caller kept (node_of caller kept set text) a.stood.key.stamp after

  in_row : (row : Option ℕ) (points : List Point) → a.row ≡ row → a.stood.points ≡ points
      → ((p : Point) → points ≡ p ∷ [] → ⊥) → IsExplained s c m Unshown
  in_row row points its_row are several objects kept finished keeps =
      let r = stands objects kept finished keeps in (
        unshown m.region kept r.0,
        keeps_unshown s m objects m.region kept r.0 r.1,
        λ rest fits. by_row row points its_row are several (log_seen (seen_of m) rest) (caller_of s m objects) kept r.0
            (r.2 rest fits).2,
      ) where
        by_row : (row : Option ℕ) (points : List Point) → a.row ≡ row → a.stood.points ≡ points
            → ((p : Point) → points ≡ p ∷ [] → ⊥) → (log : Log) (caller : Caller) (kept after : Kept)
            → Appends log caller kept (node_of caller kept set text) a.stood.key.stamp a.row
            (map piece_of a.stood.points) after
            → AppendsUnshown log caller kept (node_of caller kept set text) a.stood.key.stamp
            (unshown caller.own kept after)
        by_row (Some number) points its_row are several log caller kept after x =
            several_are_unshown log caller kept after (node_of caller kept set text) a.stood.key.stamp number
            (map piece_of a.stood.points)
            (subst (λ (o : Option ℕ). Appends log caller kept (node_of caller kept set text) a.stood.key.stamp o
            (map piece_of a.stood.points) after) its_row x)
        by_row None points its_row are several log caller kept after x =
            absurd (no_points points several
            (subst (λ (l : List Point). Appends log caller kept (node_of caller kept set text) a.stood.key.stamp None
            (map piece_of l) after) are
            (subst (λ (o : Option ℕ). Appends log caller kept (node_of caller kept set text) a.stood.key.stamp o
            (map piece_of a.stood.points) after) its_row x))) where
              no_points : (ps : List Point) → ((p : Point) → ps ≡ p ∷ [] → ⊥)
                  → Appends log caller kept (node_of caller kept set text) a.stood.key.stamp None (map piece_of ps) after
                  → ⊥
              no_points [] not_one y = y
              no_points (p ∷ []) not_one y = not_one p refl
              no_points (p ∷ q ∷ ps) not_one y = y

  pub any_unshown : IsExplained s c m Unshown
  any_unshown = by_points a.stood.points refl where
    by_points : (points : List Point) → a.stood.points ≡ points → IsExplained s c m Unshown
    by_points [] are = in_row a.row [] refl are (λ p e. let f : ⊥ = cc (e) in f)
    by_points (p ∷ []) are =
        append_unshown s c m set text a p.colour
        (sym its_points ∙ ap (map (λ (q : Point). q.colour)) are) stands
    by_points (p ∷ q ∷ points) are = in_row a.row (p ∷ q ∷ points) refl are (λ x e. let f : ⊥ = cc (e) in f)

-- why it was told nothing
pub untold_leaves : (s : Store) (c m d : Client) (set : Colours) (text : List ℕ) (a : Appended) (colours : List ℕ)
    (fault : SyncFault) → RestsOn s c m → RestsOn s m d → IsExplained s c m (AppendsAs set text a)
    → map (λ (p : Point). p.colour) a.stood.points ≡ members set → ReadRefused s m d colours fault
    → UntoldLeaves s c d (members set) text a.stood.key.stamp colours fault
untold_leaves s c m d set text a colours (sync_faults.Trimmed shown base) x y stands points why = (
  set,
  refl,
  explained_then s c m d (Unshown s c m set text a stands points)
      (λ log caller stood after. RefusesRead log caller stood colours shown base after) x y
      (λ old new caller kept after later. unshown_later old new later caller kept (node_of caller kept set text)
      a.stood.key.stamp after)
      (any_unshown s c m set text a stands points) why,
)
untold_leaves s c m d set text a colours sync_faults.NoMemory x y stands points why = (
  set,
  refl,
  explained_then s c m d (Unshown s c m set text a stands points)
      (λ log caller stood after. HidesRead log caller stood colours after) x y
      (λ old new caller kept after later. unshown_later old new later caller kept (node_of caller kept set text)
      a.stood.key.stamp after)
      (any_unshown s c m set text a stands points) why,
)

-- An object that says more of a client that is away, and of want of memory, says so of what was refused here.
pub told_more : (s : Store) (c d : Client) (own text colours : List ℕ) (away : ℕ → Type 0) (memory : Type 0)
    (fault : ObjectFault) → TellRefused s c d own text colours fault
    → RefusedBy (record (tell_refusals s c d own text colours) { away = away; memory = memory }) fault
told_more s c d own text colours away memory (faults.NotHome shown) why = absurd why
told_more s c d own text colours away memory (faults.Append fault) why = why
told_more s c d own text colours away memory (faults.Sync fault) why = why
told_more s c d own text colours away memory (faults.Unread stamp fault) why = why
told_more s c d own text colours away memory faults.NoTx why = why
told_more s c d own text colours away memory faults.NoMemory why = absurd why

-- WHAT IT IS TOLD

module _ {T : Type 0} (told : List ObjectNode → ObjectNode → Option T) (s : Store) (c m d : Client) (colours : List ℕ)
    (set : Colours) (text : List ℕ) (within : AreOfObject colours (members set))
    (last : Option Key) (answer : Option T) (a : Appended) (read : StampedRead) (x : RestsOn s c m) (y : RestsOn s m d)
    (stands : IsExplained s c m (AppendsAs set text a))
    (answers : AnswersOwnNode told s m d (rising colours) last a.stood.key answer read) where
  -- what the read says of it
  abbrev Told : Log → Caller → Kept → Kept → Type 0
  Told log caller kept after =
      ReadsAs (rising colours) (last_before last a.stood.key) read answers.0 log caller kept after
      × (nodes : List ObjectNode) × AreObjectNodes log answers.0 nodes × (answer ≡ told_of told nodes a.stood.key)

  -- the own node is among those that were read
  own_read : (objects : List Object) (kept stood : Kept) (rest : Rest)
      → AppendsAs set text a (log_seen (seen_of d) rest) (caller_of s d objects) kept stood → stood.floor ≤ read.stamp
      → In a.stood.key answers.0
      × (slice_get ((log_seen (seen_of d) rest).nodes a.stood.key.id.client) a.stood.key.id.count
      ≡ Some (node_of (caller_of s d objects) kept set text))
  own_read objects kept stood rest append above =
      let log = log_seen (seen_of d) rest in
      let caller = caller_of s d objects in
      let node = node_of caller kept set text in
      let own = own_stands log caller kept node a.stood.key.stamp a.row (map piece_of a.stood.points) stood append.2 in
      let its_id : a.stood.key.id ≡ node.id = append.1 ∙ append.0 in
      let key : entry_key a.stood.key.stamp node.id ≡ a.stood.key = ap (entry_key a.stood.key.stamp) (sym its_id) in
      let low = own.floor in
      let coloured : In own.colour (rising colours) =
      in_contains (rising colours) own.colour
      (within own.colour (contains_in (members set) own.colour own.among)) in
      let its_line = line (home_seen d own.colour) in (
        in_contains answers.0 a.stood.key
            (answers.1.order.all its_line a.stood.key
            (contains_in (map (λ k. line (home_seen d k)) (rising colours)) its_line
            (made_from (λ k. line (home_seen d k)) (rising colours) own.colour coloured))
            (contains_in its_line a.stood.key (subst (λ (k : Key). In k its_line) key
            (slice_in its_line own.position (entry_key a.stood.key.stamp node.id) own.there)))
            (omega (arith, low, above))),
        ap (λ (i : Id). slice_get (log.nodes i.client) i.count) its_id ∙ own.next,
      )

  pub tells : IsExplained s c d (TellsOwn told set text (rising colours) last answer a read)
  tells objects kept finished keeps =
      let r = explained_then s c m d (AppendsAs set text a) Told x y
      (λ old new caller k after later g. (
        g.0,
        g.1,
        append_later old new later caller k (node_of caller k set text) a.stood.key.stamp a.row (map piece_of a.stood.points)
            after g.2,
      )) stands answers.2 objects kept finished keeps in (
        r.0,
        r.1,
        λ rest fits.
            let z = r.2 rest fits in
            let log = log_seen (seen_of d) rest in
            let caller = caller_of s d objects in
            let own = own_read objects kept z.0 rest z.1 z.2.0.0.above_floor in (
              z.0,
              z.1,
              (
                answers.0,
                z.2.0,
                z.2.1,
                z.2.2,
                is_own told log a.stood.key answers.0 z.2.1 (node_of caller kept set text) answer (key_itself a.stood.key)
                    z.2.2 own.0 own.1 z.2.3,
              ),
            ),
      )
