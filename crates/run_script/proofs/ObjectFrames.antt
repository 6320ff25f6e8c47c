-- A client's objects while it is served: each that is opened stays open, and what is asked of one is answered by that one.
use Rattle.std.proofs.Common.{◌≡◌, ℕ, zero, suc, List, [], ◌∷◌, length, map, set, get_or, Some, slice_get, refl, ap, sym, subst, ◌∙◌, arith}
use Rattle.std.specs.Prelude.{Option, None, ◌<◌, ◌≤◌, slice_index_or}
use Rattle.std.proofs.lemmas.List.Elements.{All-map, All-set}
use Rattle.std.proofs.lemmas.Option.{get_or_from_slice_get}
use Rattle.log_node.specs.declared.limits.TheConstants.{MAX_COLOURS}
use Rattle.log_node.specs.Seen.{PlacedNode}
use Rattle.script_text.specs.Fitting.{IsKindWithin, UsesOne, UsesObject}
use Rattle.script_text.specs.declared.script.Kind.TheVariants as kinds
use Rattle.script_text.specs.declared.script.Object.{Object}
use Rattle.script_text.specs.declared.commands.What.{What}
use Rattle.script_text.specs.declared.uses.Use.{Use}
use Rattle.script_text.specs.declared.uses.Use.TheVariants.{OfLog, OfObject}
use Rattle.script_text.specs.Commands.{use_of}
use Rattle.report_text.specs.declared.report.Answer.{Answer}
use Rattle.script_meaning.specs.States.{kind_in}
use Rattle.log_client.specs.declared.store.Store.{Store}
use Rattle.log_client.specs.declared.client.Client.{Client}
use Rattle.log_client.specs.Clients.{Finished, IsClient, tracks_of}
use Rattle.log_client.specs.Objects.{HasColoursOf}
use Rattle.log_client.specs.Reading.{RestsOn}
use Rattle.log_client.specs.StampedReads.{ReadsGoOn}
use Rattle.log_map.proofs.CallerLemmas.{map_later}
use Rattle.log_queue.proofs.CallerLemmas.{queue_later}
use Rattle.log_tree.proofs.CallerLemmas.{tree_later}
use Rattle.causal_map.proofs.CallerLemmas.{causal_later}
use Rattle.atomic_map.proofs.CallerLemmas.{map_later as atomic_later}
use Rattle.region_fold.proofs.CallerLemmas.{map_later as tx_later}
use Rattle.run_script.specs.declared.serving.opened.Opened.{Opened}
use Rattle.run_script.specs.declared.serving.opened.Opened.TheVariants as opened
use Rattle.run_script.specs.Opened.{AreKept, AreOf, AreUnopened, HasBy, HasCommand, IsKept, IsOpenedOf, IsSlotOf, kind_opened, unopened, object_in, object_asked}
use Rattle.run_script.proofs.PartsKept.{tx_players_later}
use Rattle.run_script.specs.Serving.{ServesLog, ServesObject, GivesTo}

-- THEY STAY OPEN

pub kept_later : ReadsGoOn → (s : Store) (c d : Client) (x : Opened) → IsClient s c → RestsOn s c d → IsOpenedOf c x
    → IsOpenedOf d x
kept_later law s c d (opened.Map single several) is on kept =
    (map_later s c d single is on kept.0, atomic_later law s c d on several is kept.1, kept.2, kept.3)
kept_later law s c d (opened.Tx players map found) is on kept =
    (tx_later law s c d on map is kept.0, kept.1, tx_players_later law s c d map map players is on (refl, refl) kept.2)
kept_later law s c d (opened.Causal of) is on kept = causal_later s c d of is on kept
kept_later law s c d (opened.Queue of) is on kept = queue_later s c d of is on kept
kept_later law s c d (opened.Tree of) is on kept = tree_later law s c d on of is kept

slot_later : ReadsGoOn → (s : Store) (c d : Client) (slot : Option Opened) → IsClient s c → RestsOn s c d → IsKept c slot
    → IsKept d slot
slot_later law s c d None is on kept = tt
slot_later law s c d (Some x) is on kept = kept_later law s c d x is on kept

all_later : ReadsGoOn → (s : Store) (c d : Client) (slots : List (Option Opened)) → IsClient s c → RestsOn s c d → AreKept c slots
    → AreKept d slots
all_later law s c d slots is on kept n slot lt =
    slot_later law s c d (slice_index_or slots n slot) is on (kept n slot lt)

-- after a command of the log, of a client who has then finished
pub kept_on : ReadsGoOn → (s : Store) (c d : Client) (what : What) (answer : Answer) (nodes : List PlacedNode)
    (slots : List (Option Opened)) → IsClient s c → ServesLog s c d what answer nodes → AreKept c slots → Finished d
    → AreKept d slots
kept_on law s c d what answer nodes slots is v kept done =
    let left = v.of [] in
    all_later law s c d slots is
    (record { client = left.rests; same = left.same; goes = left.goes; grows = left.grows; finished = λ before. done }) kept

-- after a command of one of them
pub kept_with : ReadsGoOn → (s : Store) (c d : Client) (slots : List (Option Opened)) (n : ℕ) (slot : Option Opened)
    → IsClient s c → RestsOn s c d → AreKept c slots → IsKept d slot → AreKept d (set slots n slot)
kept_with law s c d slots n slot is on kept new =
    All-set (IsKept d) slots n slot new (all_later law s c d slots is on kept)

pub of_with : (objects : List Object) (slots : List (Option Opened)) (n : ℕ) (o : Object) (slot : Option Opened)
    → AreOf objects slots → slice_get objects n ≡ Some o → IsSlotOf o slot → AreOf objects (set slots n slot)
of_with [] [] n o slot of at is = absurd (let f : ⊥ = cc (at) in f)
of_with [] (z ∷ slots) n o slot of at is = absurd of
of_with (p ∷ objects) [] n o slot of at is = absurd of
of_with (p ∷ objects) (z ∷ slots) zero o slot of at is =
    let same : p ≡ o = cc (at) in (subst (λ (q : Object). IsSlotOf q slot) (sym same) is, of.1)
of_with (p ∷ objects) (z ∷ slots) (suc n) o slot of at is = (of.0, of_with objects slots n o slot of.1 at is)

-- where none is opened yet
pub of_unopened : (objects : List Object) (slots : List (Option Opened)) → AreUnopened objects slots → AreOf objects slots
of_unopened objects slots are = subst (AreOf objects) (sym are) (by objects) where
  by : (objects : List Object) → AreOf objects (map unopened objects)
  by [] = tt
  by (o ∷ objects) = (tt, by objects)

pub kept_unopened : (c : Client) (objects : List Object) (slots : List (Option Opened)) → AreUnopened objects slots
    → AreKept c slots
kept_unopened c objects slots are =
    subst (AreKept c) (sym are) (All-map (IsKept c) unopened objects (λ n o lt. tt))

-- the colours of a map, and of an object of one colour
pub map_colours : (c : Client) (regions home : ℕ) (colours : List ℕ) → length (tracks_of c) ≤ MAX_COLOURS
    → IsKindWithin regions (length (tracks_of c)) (kinds.Map home colours) → HasColoursOf c colours
map_colours c regions home colours few within = record {
  some = let some = within.1.some in omega (arith, some);
  within = within.1.below;
  few = λ n d lt. let low = within.1.below n d lt in omega (arith, low, few);
}

pub one_colour : (c : Client) (colour given : ℕ) → colour ≡ given → length (tracks_of c) ≤ MAX_COLOURS
    → colour < length (tracks_of c) → (given < length (tracks_of c)) × (given < MAX_COLOURS)
one_colour c colour given same few low = (omega (arith, same, low), omega (arith, same, low, few))

-- WHICH IS ASKED

-- the number that a command names
pub named : (object n : ℕ) → Some object ≡ Some n → object ≡ n
named object n e = cc (e)

used_there : (objects : List Object) (what : What) (n : ℕ) → UsesObject objects what → object_asked what ≡ Some n
    → (o : Object) × (slice_get objects n ≡ Some o) × HasCommand o.kind what
used_there objects what n = by (use_of what) where
  by : (u : Use) → UsesOne objects what u → object_in u ≡ Some n
      → (o : Object) × (slice_get objects n ≡ Some o) × HasBy o.kind what u
  by (OfLog stops) uses at = absurd (let f : ⊥ = cc (at) in f)
  by (OfObject object read) uses at =
      let has = uses.0 in (
        has.found,
        subst (λ (k : ℕ). slice_get objects k ≡ Some has.found) (named object n at) has.there,
        (has.kind, uses.1),
      )

-- there is an object with the number that a command names
pub is_there : (objects : List Object) (what : What) (n : ℕ) → UsesObject objects what → object_asked what ≡ Some n
    → (o : Object) × (slice_get objects n ≡ Some o)
is_there objects what n uses asked = let o = used_there objects what n uses asked in (o.0, o.1)

-- the one that is found there is it, and has the command
pub found_there : (objects : List Object) (what : What) (n : ℕ) (found : Object) → UsesObject objects what
    → object_asked what ≡ Some n → found ≡ get_or objects n found
    → (slice_get objects n ≡ Some found) × HasCommand found.kind what
found_there objects what n found uses asked is =
    let o = used_there objects what n uses asked in
    let same = is ∙ get_or_from_slice_get objects n o.0 found o.1 in
    (o.1 ∙ ap Some (sym same), subst (λ (p : Object). HasCommand p.kind what) (sym same) o.2)

-- WHAT IS GIVEN

-- to a command that names an object by its number
pub gives_asked : (s : Store) (c d : Client) (x y : Opened) (what : What) (asks : ℕ → What) (n : ℕ) (answer : Answer)
    → what ≡ asks n → ((k : ℕ) → object_asked (asks k) ≡ Some k) → GivesTo s c d x y asks answer
    → (objects : List Object) (object : ℕ) → object_asked what ≡ Some object
    → kind_in objects object ≡ Some (kind_opened x) → ServesObject s objects c d object x y what answer
gives_asked s c d x y what asks n answer is numbered gives objects object asked at =
    let same = named n object (sym (numbered n) ∙ (sym (ap object_asked is) ∙ asked)) in
    subst (λ (w : What). ServesObject s objects c d object x y w answer) (sym (is ∙ ap asks same)) (gives.of objects object at)
