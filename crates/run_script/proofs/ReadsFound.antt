-- What the reads of a client's objects found, while it is served.
use Rattle.std.proofs.Common.{◌≡◌, ◌≢◌, ℕ, zero, suc, ◌<◌, List, [], ◌∷◌, length, map, set, get_or-set_same, get_or-set_other, Option, Some, None, refl, ap, sym, ◌∙◌, inl, eq-eqb, subst}
use Rattle.std.specs.Prelude.{IsTrue, false, ◌==◌, slice_index_or}
use Rattle.log_node.specs.declared.forms.Version.{Version}
use Rattle.log_node.specs.Seen.{PlacedNode}
use Rattle.col_core.specs.Keeping.{Kept, nothing_kept}
use Rattle.col_core.specs.Log.{Log}
use Rattle.col_core.proofs.CallerLemmas.{apart}
use Rattle.world_laws.proofs.CallerLemmas.{at_updated}
use Rattle.script_text.specs.Fitting.{is_any_map, is_map, is_queue, is_tree, is_tx}
use Rattle.script_text.specs.declared.script.Kind.{Kind}
use Rattle.script_text.specs.declared.script.Kind.TheVariants as kinds
use Rattle.script_text.specs.declared.script.Object.{Object}
use Rattle.script_text.specs.declared.commands.What.{What}
use Rattle.script_text.specs.declared.commands.What.TheVariants as whats
use Rattle.script_text.specs.declared.uses.ReadUse.TheVariants.{Leaves}
use Rattle.script_text.specs.declared.uses.Use.{Use}
use Rattle.script_text.specs.declared.uses.Use.TheVariants.{OfObject}
use Rattle.script_text.specs.Commands.{use_of}
use Rattle.report_text.specs.declared.report.Answer.{Answer}
use Rattle.lawful_run.specs.Asks.{object_colours, object_home}
use Rattle.lawful_run.specs.Callers.{Caller}
use Rattle.lawful_run.specs.Explains.{Explains}
use Rattle.lawful_run.specs.Refusals.{before_by, behind_by, kept_before, kept_behind}
use Rattle.lawful_run.proofs.CallerLemmas.{explained_keeps}
use Rattle.client_law.specs.Knowing.{log_seen}
use Rattle.script_meaning.specs.States.{kind_in}
use Rattle.log_client.specs.declared.store.Store.{Store}
use Rattle.log_client.specs.declared.client.Client.{Client}
use Rattle.log_client.specs.Clients.{caller_of, seen_of}
use Rattle.tx_parts.specs.declared.players.PartPlayers.{PartPlayers}
use Rattle.run_script.specs.declared.serving.opened.Opened.{Opened}
use Rattle.run_script.specs.declared.serving.opened.Opened.TheVariants as opened
use Rattle.run_script.specs.Opened.{AreUnopened, HaveReads, KeepsReadsBut, found_in, kind_opened, tx_kind, unopened, versions_in}
use Rattle.run_script.specs.Serving.{ServesLog, GivesAll, GivesTo, ServesObject, ServesSlot, GivesOf, KnowsRead, KnowsReads}
use Rattle.run_script.proofs.CommandAnswers.{IsOfLog, of_log}
use Rattle.run_script.proofs.Giving.{knowing}

-- WHERE NOTHING IS FOUND

-- the home and the colours of a transactional map, whether it keeps them to itself or not
pub tx_home : (players : Option PartPlayers) (home : ℕ) (colours : List ℕ)
    → object_home (Some (tx_kind players home colours)) ≡ Some home
tx_home None home colours = refl
tx_home (Some players) home colours = refl

pub tx_colours : (players : Option PartPlayers) (home : ℕ) (colours : List ℕ)
    → object_colours (Some (tx_kind players home colours)) ≡ colours
tx_colours None home colours = refl
tx_colours (Some players) home colours = refl

-- nothing is found of an object that is no transactional map
pub finds_none : (x : Opened) → is_tx (kind_opened x) ≡ false → versions_in x ≡ None
finds_none (opened.Map single several) other = refl
finds_none (opened.Tx None map found) other = absurd (let f : ⊥ = cc (other) in f)
finds_none (opened.Tx (Some players) map found) other = absurd (let f : ⊥ = cc (other) in f)
finds_none (opened.Causal of) other = refl
finds_none (opened.Queue of) other = refl
finds_none (opened.Tree of) other = refl

pub finds_same : (x y : Opened) → is_tx (kind_opened x) ≡ false → kind_opened y ≡ kind_opened x
    → versions_in y ≡ versions_in x
finds_same x y other same = finds_none y (ap is_tx same ∙ other) ∙ sym (finds_none x other)

pub map_not_tx : (kind : Kind) → IsTrue (is_map kind) → is_tx kind ≡ false
map_not_tx (kinds.Tx home colours) is = absurd (let f : ⊥ = cc (is) in f)
map_not_tx (kinds.Parts home colours) is = absurd (let f : ⊥ = cc (is) in f)
map_not_tx _ is = refl

pub any_map_not_tx : (kind : Kind) → IsTrue (is_any_map kind) → is_tx kind ≡ false
any_map_not_tx (kinds.Tx home colours) is = absurd (let f : ⊥ = cc (is) in f)
any_map_not_tx (kinds.Parts home colours) is = absurd (let f : ⊥ = cc (is) in f)
any_map_not_tx _ is = refl

pub queue_not_tx : (kind : Kind) → IsTrue (is_queue kind) → is_tx kind ≡ false
queue_not_tx (kinds.Tx home colours) is = absurd (let f : ⊥ = cc (is) in f)
queue_not_tx (kinds.Parts home colours) is = absurd (let f : ⊥ = cc (is) in f)
queue_not_tx _ is = refl

pub tree_not_tx : (kind : Kind) → IsTrue (is_tree kind) → is_tx kind ≡ false
tree_not_tx (kinds.Tx home colours) is = absurd (let f : ⊥ = cc (is) in f)
tree_not_tx (kinds.Parts home colours) is = absurd (let f : ⊥ = cc (is) in f)
tree_not_tx _ is = refl

-- nothing is found where no object is opened
unopened_found : (objects : List Object) (n : ℕ) → found_in (slice_index_or (map unopened objects) n None) ≡ None
unopened_found [] n = refl
unopened_found (o ∷ objects) zero = refl
unopened_found (o ∷ objects) (suc n) = unopened_found objects n

-- who keeps nothing keeps the reads of objects that are not opened
pub none_found : (objects : List Object) (slots : List (Option Opened)) → AreUnopened objects slots
    → HaveReads slots nothing_kept
none_found objects slots are n =
    sym (ap (λ (l : List (Option Opened)). found_in (slice_index_or l n None)) are ∙ unopened_found objects n)

-- WHERE ONE SLOT IS ANOTHER

pub reads_with : (slots : List (Option Opened)) (n : ℕ) (y : Option Opened) (kept after : Kept) → n < length slots
    → HaveReads slots kept → KeepsReadsBut n (found_in y) kept after → HaveReads (set slots n y) after
reads_with slots n y kept after lt have keeps j =
    keeps j
    ∙ at_updated (λ (v : Option (List Version)). v ≡ found_in (slice_index_or (set slots n y) j None)) kept.reads n (found_in y) j
    (λ same. ap found_in (sym (ap (λ (k : ℕ). slice_index_or (set slots n y) k None) same ∙ get_or-set_same slots n y None lt)))
    (λ other. have j
    ∙ ap found_in (sym (get_or-set_other slots n j y None (λ same. apart (j == n) (eq-eqb j n same) other))))

-- what is kept of reads is the same, of one object too
pub keeps_but : (object : ℕ) (found : Option (List Version)) (kept after : Kept) → kept.reads object ≡ found
    → after.reads ≡ kept.reads → KeepsReadsBut object found kept after
keeps_but object found kept after is same n =
    ap (λ (reads : ℕ → Option (List Version)). reads n) same
    ∙ sym (at_updated (λ (v : Option (List Version)). v ≡ kept.reads n) kept.reads object found n
    (λ here. sym is ∙ ap kept.reads (sym here)) (λ other. refl))

-- COMMANDS THAT READ NOTHING

-- the command is no read of a transactional map
abbrev pub IsNoRead : What → Type 0
IsNoRead what = (object : ℕ) (asked : List (List ℕ)) → what ≢ whats.Read object asked

no_read : (what : What) → IsOfLog what → IsNoRead what
no_read what of object asked is = let f : ⊥ = cc (subst IsOfLog is of) in f

-- the command neither lets a read go nor uses it up
abbrev LetsNoneGo : What → Type 0
LetsNoneGo what = (kept : Kept) → (kept_before what kept ≡ kept) × (kept_behind what kept ≡ kept)

-- after such a command what was found by reads stays
reads_stay : (log : Log) (caller : Caller) (what : What) (answer : Answer) (nodes : List PlacedNode) (kept answered : Kept)
    → LetsNoneGo what → IsNoRead what → Explains log caller (kept_before what kept) what answer nodes answered
    → (kept_behind what answered).reads ≡ kept.reads
reads_stay log caller what answer nodes kept answered none other explains =
    ap (λ (k : Kept). k.reads) (none answered).1
    ∙ (explained_keeps log caller (kept_before what kept) what answer nodes answered explains (inl other)
    ∙ ap (λ (k : Kept). k.reads) (none kept).0)

module _ (s : Store) (objects : List Object) (c d : Client) where
  -- of an object, which neither lets a read go nor uses it up
  pub given_at : (object : ℕ) (x y : Opened) (what : What) (answer : Answer) → use_of what ≡ OfObject object Leaves
      → versions_in y ≡ versions_in x → GivesOf s objects c d what answer [] → ServesObject s objects c d object x y what answer
  given_at object x y what answer uses same v =
      knowing s objects c d what answer [] (KnowsRead c object x) (KeepsReadsBut object (versions_in y)) v
      (λ kept knows. tt)
      (λ kept answered rest knows fits explains left.
      keeps_but object (versions_in y) kept (kept_behind what answered) (knows rest fits ∙ sym same)
      (reads_stay (log_seen (seen_of d) rest) (caller_of s d objects) what answer [] kept answered
      (λ k. (ap (λ (u : Use). before_by u k) uses, ap (λ (u : Use). behind_by u k) uses))
      (λ n keys is. let two = sym uses ∙ ap use_of is in let f : ⊥ = cc (two) in f) explains))

  -- of the log, whatever is opened
  pub given_by_log : (xs : List (Option Opened)) (what : What) (answer : Answer) (nodes : List PlacedNode) → IsOfLog what
      → ServesLog s c d what answer nodes → GivesAll s objects c d xs xs what answer nodes
  given_by_log xs what answer nodes of v =
      knowing s objects c d what answer nodes (KnowsReads c xs) (λ kept. HaveReads xs) (v.of objects) (λ kept knows. tt)
      (λ kept answered rest knows fits explains left n.
      ap (λ (reads : ℕ → Option (List Version)). reads n)
      (reads_stay (log_seen (seen_of d) rest) (caller_of s d objects) what answer nodes kept answered
      (λ k. let same = of_log what k of in (same.0, same.1)) (no_read what of) explains)
      ∙ knows rest fits n)

  -- to a command of an object, whose slot then is another
  pub given_of_slot : (xs : List (Option Opened)) (n : ℕ) (x y : Option Opened) (what : What) (answer : Answer)
      → n < length xs → slice_index_or xs n None ≡ x → ServesSlot s objects c d n x y what answer
      → GivesAll s objects c d xs (set xs n y) what answer []
  given_of_slot xs n x y what answer lt at v =
      knowing s objects c d what answer [] (KnowsReads c xs) (λ kept. HaveReads (set xs n y)) v
      (λ kept knows rest fits. knows rest fits n ∙ ap found_in at)
      (λ kept answered rest knows fits explains left.
      reads_with xs n y kept (kept_behind what answered) lt (knows rest fits) left)

-- to commands of an object of a kind of which no reads are kept, by its number, which neither let a read go nor use it up
pub gives_unread : (s : Store) (c d : Client) (x y : Opened) (kind : Kind) (asks : ℕ → What) (answer : Answer)
    → kind_opened x ≡ kind → kind_opened y ≡ kind_opened x → is_tx kind ≡ false
    → ((object : ℕ) → use_of (asks object) ≡ OfObject object Leaves)
    → ((objects : List Object) (object : ℕ) → kind_in objects object ≡ Some kind
    → GivesOf s objects c d (asks object) answer [])
    → GivesTo s c d x y asks answer
gives_unread s c d x y kind asks answer is same no_reads uses gives = record {
  of = λ objects object at.
      given_at s objects c d object x y (asks object) answer (uses object)
      (finds_same x y (ap is_tx is ∙ no_reads) same) (gives objects object (at ∙ ap Some is));
}
