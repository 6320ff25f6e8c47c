-- Parts of a script, and what is read of them.
use Rattle.std.proofs.Common.{◌≡◌, IfOk, Ok, inl, inr, ⊎_elim, cond, ℕ, ◌+◌, ◌<◌, ◌≤◌, Bool, true, false, List, [], ◌∷◌, ◌++◌, length, map, take, drop, get_or, replicate, Some, Err, Option, Result, slice_get, Vec, Global, refl, sym, ap, subst, ◌∙◌, arith, append_assoc, append-nil, length-append, take-append-drop, ◌^◌}
use Rattle.std.specs.Prelude.{if◌then◌else◌, not, ◌==◌, codes, slice_index}
use Rattle.std.specs.List.{All, enumerate_from, list_any, onto_first, cons_option}
use Rattle.std.proofs.Math.Seq.{take-add}
use Rattle.std.proofs.lemmas.Bool.{or_parts, cases_lt}
use Rattle.std.proofs.lemmas.List.{flat_map_more, take_more, take_all, take_at, take-append-le, get_or_append_left, get_or_push, length_push, length-map}
use Rattle.std.proofs.lemmas.List.Elements.{All-nil, All-cons, All-head, All-tail, All-append, All-map, All-filter, All-weaker}
use Rattle.std.proofs.lemmas.List.Sums.{sum_by-append, count_by-le-length}
use Rattle.std.proofs.lemmas.Grind.{flat_map-append}
use Rattle.std.proofs.lemmas.Option.{get_or_from_slice_get, slice_get_within, slice_get_read, slice_get-get_or}
use Rattle.memchr.specs.Find.{OccursAt}
use Rattle.memchr.proofs.lemmas.MatchLemmas.{OccursAt-part}
use Rattle.script_text.specs.declared.script.Command.{Command}
use Rattle.script_text.specs.declared.script.Script.{Script}
use Rattle.script_text.specs.declared.item.Item.{Item}
use Rattle.script_text.specs.declared.item.Item.TheVariants as items
use Rattle.script_text.specs.declared.reading.ScriptFault.{ScriptFault}
use Rattle.script_text.specs.declared.reading.ScriptFault.TheVariants.{Refused, NoMemory}
use Rattle.script_text.specs.declared.limits.TheConstants.{MAX_BYTES, MAX_LINES}
use Rattle.script_text.specs.Pieces.{lines_of}
use Rattle.script_text.specs.Items.{commands, commands_in, is_stop}
use Rattle.script_text.specs.Grammar.{said_lines, is_passed_over, Say, Says, IsScript}
use Rattle.script_text.specs.Parse.{GivesScript}
use Rattle.script_text.proofs.CallerLemmas.{script_fits, one_script}
use Rattle.script_beside.specs.declared.dealt.DealtScript.{DealtScript}
use Rattle.script_beside.specs.declared.cuts.Cut.{Cut}
use Rattle.script_beside.specs.declared.cuts.Parted.{Parted}
use Rattle.script_beside.specs.declared.part.ReadPart.{ReadPart}
use Rattle.script_beside.specs.Begins.{begins_in, AreBegun, AreAdded, IsGreatest, IsMost}
use Rattle.script_beside.specs.Dealt.{IsDealt, GivesDealt}
use Rattle.script_beside.specs.Joining.{later, EndsALine, IsHeader, NoneStops}
use Rattle.script_beside.specs.Lists.{AreEmptyLists, AreOwn, AreBehind, AreShares}
use Rattle.script_beside.specs.Parts.{line_feeds, bytes_of, IsBehind, AreCuts, all_bytes, IsParted, IsRead, ArePartsRead}
use Rattle.script_beside.proofs.Joining.{same_header, joined, lines_counted, lines_at_most}
use Rattle.script_beside.proofs.BeginLemmas.{own_counts, none_begun, both_begun, own_few, is_most}
use Rattle.script_beside.proofs.ListLemmas.{some_item, no_shares, more_shares, all_dealt}

-- ---- the header

-- the bytes up to the end of a needle that occurs in them
pub up_to : (bytes needle : List ℕ) (at : ℕ) → OccursAt bytes needle at → take (at + length needle) bytes ≡ take at bytes ++ needle
up_to bytes needle at occurs =
    take-add at (length needle) bytes ∙ ap (λ (l : List ℕ). take at bytes ++ l) (OccursAt-part bytes needle at occurs)

pub is_header : (h : List ℕ) (s : Script) → (front : List ℕ) × (h ≡ front ++ 10 ∷ (codes "begin" ++ 10 ∷ [])) → s.commands ≡ []
    → ((other : Script) → IsScript h other → s ≡ other) → IsHeader h s
is_header h s ends idle only = record { ends = ends; idle = idle; only = λ other is. sym (only other is) }

-- ---- the commands of a script

-- its clients are there
pub are_callers : (bytes : List ℕ) (s : Script) → IsScript bytes s → All (λ (c : Command). c.client < length s.clients) s.commands
are_callers bytes s is =
    let fits = script_fits bytes s is in
    let many = fits.clients in
    All-weaker (λ (c : Command). c.client < length s.shape.homes) (λ (c : Command). c.client < length s.clients)
    (λ c below. omega (arith, below, many)) s.commands fits.callers

numbered : (most n : ℕ) (lines : List (List ℕ)) → n + length lines ≤ most + 1 → All (λ (l : ℕ × List ℕ). l.0 ≤ most) (enumerate_from n lines)
numbered most n [] le = All-nil (λ (l : ℕ × List ℕ). l.0 ≤ most)
numbered most n (line ∷ lines) le =
    All-cons (λ (l : ℕ × List ℕ). l.0 ≤ most) (n, line) (enumerate_from (n + 1) lines) (omega (arith, le)) (numbered most (n + 1) lines (omega (arith, le)))

-- an item's command has its line's number
asked_at : (most : ℕ) (before : List Item) (line : ℕ × List ℕ) (fields : List (List ℕ)) (item : Item) (more : List Command)
    → Says before line.0 fields item → line.0 ≤ most → All (λ (c : Command). c.line ≤ most) more
    → All (λ (c : Command). c.line ≤ most) (cons_option (commands_in item) more)
asked_at most before line fields (items.Version version) more says le all = all
asked_at most before line fields (items.Regions names) more says le all = all
asked_at most before line fields (items.Colours names) more says le all = all
asked_at most before line fields (items.Rows number) more says le all = all
asked_at most before line fields (items.Client name home) more says le all = all
asked_at most before line fields (items.Declared object) more says le all = all
asked_at most before line fields items.Begin more says le all = all
asked_at most before line fields (items.Asks command) more says le all =
    let here = says.0 in
    All-cons (λ (c : Command). c.line ≤ most) command more (omega (arith, le, here)) all

asked_within : (most : ℕ) (before : List Item) (lines : List (ℕ × List ℕ)) (said : List Item) → Say before lines said
    → All (λ (l : ℕ × List ℕ). l.0 ≤ most) lines → All (λ (c : Command). c.line ≤ most) (commands said)
asked_within most before [] [] say all = All-nil (λ (c : Command). c.line ≤ most)
asked_within most before [] (item ∷ later) say all = absurd say
asked_within most before (line ∷ lines) [] say all = absurd say
asked_within most before (line ∷ lines) (item ∷ later) say all =
    asked_at most before line _ item (commands later) say.0 (All-head (λ (l : ℕ × List ℕ). l.0 ≤ most) line lines all)
    (asked_within most (before ++ item ∷ []) lines later say.2 (All-tail (λ (l : ℕ × List ℕ). l.0 ≤ most) line lines all))

-- its lines are within the limit
pub lines_within : (bytes : List ℕ) (s : Script) → IsScript bytes s → All (λ (c : Command). c.line ≤ MAX_LINES) s.commands
lines_within bytes s is =
    let few = is.lines.few in
    subst (λ (t : Script). All (λ (c : Command). c.line ≤ MAX_LINES) t.commands) (sym is.same)
    (asked_within MAX_LINES [] (said_lines (enumerate_from 1 (lines_of bytes))) is.said is.lines.say
    (All-filter (λ (l : ℕ × List ℕ). not (is_passed_over l)) (λ (l : ℕ × List ℕ). l.0 ≤ MAX_LINES) (enumerate_from 1 (lines_of bytes))
    (numbered MAX_LINES 1 (lines_of bytes) (omega (arith, few)))))

-- so its commands can be put further down
pub can_be_later : (bytes : List ℕ) (s : Script) (before : ℕ) → IsScript bytes s → before ≤ MAX_BYTES
    → All (λ (c : Command). c.line < 2 ^ 32 → c.line + before < 2 ^ 32) s.commands
can_be_later bytes s before is few =
    All-weaker (λ (c : Command). c.line ≤ MAX_LINES) (λ (c : Command). c.line < 2 ^ 32 → c.line + before < 2 ^ 32)
    (λ c le fits. omega (arith, le, few)) s.commands (lines_within bytes s is)

-- ---- stops

pub none_stops : (asked : List Command) → list_any (λ (c : Command). is_stop c.what) asked ≡ false → NoneStops asked
none_stops [] none = All-nil (λ (c : Command). is_stop c.what ≡ false)
none_stops (c ∷ asked) none =
    let parts = or_parts (is_stop c.what) (list_any (λ (c : Command). is_stop c.what) asked) none in
    All-cons (λ (c : Command). is_stop c.what ≡ false) c asked parts.0 (none_stops asked parts.1)

later_stop : (k : ℕ) (asked : List Command) → NoneStops asked → NoneStops (map (later k) asked)
later_stop k asked none = All-map (λ (c : Command). is_stop c.what ≡ false) (later k) asked none

-- what was read of a part
pub is_read : (header : List ℕ) (cut : Cut) (s : Script) (stops : Bool) (count : ℕ) (part : ReadPart) → IsScript (header ++ cut.bytes.now) s
    → count ≡ length s.clients → AreOwn count (map (later cut.before) s.commands) part.lists.items
    → part.stops ≡ list_any (λ (c : Command). is_stop c.what) s.commands
    → part.begins.items ≡ map (λ (l : Vec Command Global). begins_in l.items) part.lists.items → IsRead header cut part
is_read header cut s stops count part is many own stop counted =
    let lists = subst (λ (n : ℕ). AreOwn n (map (later cut.before) s.commands) part.lists.items) many own in record {
      script = s;
      is = is;
      lists = lists;
      stops = λ none. none_stops s.commands (sym stop ∙ none);
      begins = own_counts (length s.clients) (map (later cut.before) s.commands) part.lists.items part.begins.items lists counted;
    }

-- ---- cuts

onto_more : (b : ℕ) (few many : List (List ℕ)) → length few ≤ length many → length (onto_first b few) ≤ length (onto_first b many)
onto_more b [] [] le = omega arith
onto_more b [] (line ∷ lines) le = omega arith
onto_more b (line ∷ lines) [] le = absurd (let e : ⊥ = omega (arith, le) in e)
onto_more b (line ∷ lines) (other ∷ others) le = omega (arith, le)

-- a front has no more lines
pub front_lines : (a b : List ℕ) → length (lines_of a) ≤ length (lines_of (a ++ b))
front_lines [] b = omega arith
front_lines (c ∷ cs) b = let r = front_lines cs b in of (c == 10) r where
  of : (t : Bool) → length (lines_of cs) ≤ length (lines_of (cs ++ b))
      → length (if t then [] ∷ lines_of cs else onto_first c (lines_of cs)) ≤ length (if t then [] ∷ lines_of (cs ++ b) else onto_first c (lines_of (cs ++ b)))
  of true r = omega (arith, r)
  of false r = onto_more c (lines_of cs) (lines_of (cs ++ b)) r

-- bytes whose last one is a line feed
ends_there : (bytes : List ℕ) (n : ℕ) → n + 1 ≡ length bytes → get_or bytes n 0 ≡ 10 → EndsALine bytes
ends_there bytes n last is =
    inr (
      take n bytes,
      sym (take_all (n + 1) bytes (omega (arith, last)))
          ∙ (take_more bytes n 0 (omega (arith, last)) ∙ ap (λ (b : ℕ). take n bytes ++ b ∷ []) is),
    )

pub lines_if_ended : (bytes : List ℕ) (n feeds : ℕ) → n + 1 ≡ length bytes → get_or bytes n 0 ≡ 10 → feeds ≡ line_feeds bytes → length (lines_of bytes) ≤ feeds
lines_if_ended bytes n feeds last is count = let e = lines_counted bytes (ends_there bytes n last is) in omega (arith, e, count)

pub lines_if_not : (bytes : List ℕ) (feeds : ℕ) → feeds ≡ line_feeds bytes → length (lines_of bytes) ≤ feeds + 1
lines_if_not bytes feeds is = let most = lines_at_most bytes in omega (arith, is, most)

-- ---- cutting

-- the parts so far, and the bytes behind them, which have the lines' other bytes
pub record Cutting (lines : List ℕ) (cuts : List Cut) (rest : List ℕ) (before : ℕ) : Type 0 where
  pub whole : bytes_of cuts ++ rest ≡ lines
  pub ends : EndsALine (bytes_of cuts)
  pub counted : before ≡ line_feeds (bytes_of cuts)
  pub each : AreCuts cuts

-- a part behind those before it
cuts_more : (cuts : List Cut) (cut : Cut) → AreCuts cuts → IsBehind (bytes_of cuts) cut → AreCuts (cuts ++ cut ∷ [])
cuts_more cuts cut are is n x at =
    let lt = slice_get_within (cuts ++ cut ∷ []) n x at in
    let long = length_push cuts cut in
    let here = get_or_from_slice_get (cuts ++ cut ∷ []) n x x at in
    ⊎_elim
    (λ (low : n < length cuts).
    subst (λ (l : List Cut). IsBehind (bytes_of l) x) (sym (take-append-le n cuts (cut ∷ []) (omega (arith, low))))
    (are n x (slice_get_read cuts (length cuts) n x refl low (sym here ∙ get_or_append_left cuts (cut ∷ []) x n low))))
    (λ (high : length cuts ≤ n).
    let place : length cuts ≡ n = omega (arith, high, lt, long) in
    subst (λ (y : Cut). IsBehind (bytes_of (take n (cuts ++ cut ∷ []))) y) (sym (get_or_push cuts cut x n place) ∙ here)
    (subst (λ (l : List Cut). IsBehind (bytes_of l) cut) (sym (take_at cuts (cut ∷ []) n place)) is))
    (cases_lt n (length cuts))

bytes_more : (cuts : List Cut) (cut : Cut) → bytes_of (cuts ++ cut ∷ []) ≡ bytes_of cuts ++ cut.bytes.now
bytes_more cuts cut = sym (flat_map_more (λ (c : Cut). c.bytes.now) [] cuts cut)

is_behind : (lines : List ℕ) (cuts : List Cut) (rest : List ℕ) (before : ℕ) (cut : Cut) → Cutting lines cuts rest before → cut.before ≡ before → IsBehind (bytes_of cuts) cut
is_behind lines cuts rest before cut so is = record {
  ends = so.ends;
  lines = is ∙ (so.counted ∙ sym (lines_counted (bytes_of cuts) so.ends));
}

-- one part more, which ends with a line feed
pub one_cut : (lines : List ℕ) (cuts all : List Cut) (rest after : List ℕ) (before : ℕ) (cut : Cut) → Cutting lines cuts rest before → cut.before ≡ before
    → rest ≡ cut.bytes.now ++ after → (front : List ℕ) × (cut.bytes.now ≡ front ++ 10 ∷ []) → all ≡ cuts ++ cut ∷ []
    → Cutting lines all after (before + line_feeds cut.bytes.now)
one_cut lines cuts all rest after before cut so is parts ends same =
    subst (λ (l : List Cut). Cutting lines l after (before + line_feeds cut.bytes.now)) (sym same) (record {
      whole = ap (λ (l : List ℕ). l ++ after) (bytes_more cuts cut)
          ∙ (append_assoc (bytes_of cuts) cut.bytes.now after
          ∙ (ap (λ (l : List ℕ). bytes_of cuts ++ l) (sym parts) ∙ so.whole));
      ends = inr (bytes_of cuts ++ ends.0, bytes_more cuts cut ∙ (ap (λ (l : List ℕ). bytes_of cuts ++ l) ends.1 ∙ sym (append_assoc (bytes_of cuts) ends.0 (10 ∷ []))));
      counted = ap (λ (n : ℕ). n + line_feeds cut.bytes.now) so.counted
          ∙ (sym (sum_by-append (λ b. cond (b == 10) 1 0) (bytes_of cuts) cut.bytes.now) ∙ ap line_feeds (sym (bytes_more cuts cut)));
      each = cuts_more cuts cut so.each (is_behind lines cuts rest before cut so is);
    })

-- the last part, with all bytes that are left
pub last_cut : (lines : List ℕ) (cuts all : List Cut) (rest : List ℕ) (before : ℕ) (cut : Cut) → Cutting lines cuts rest before → cut.before ≡ before
    → cut.bytes.now ≡ rest → all ≡ cuts ++ cut ∷ [] → (bytes_of all ≡ lines) × AreCuts all
last_cut lines cuts all rest before cut so is left same =
    subst (λ (l : List Cut). (bytes_of l ≡ lines) × AreCuts l) (sym same) (
      bytes_more cuts cut ∙ (ap (λ (l : List ℕ). bytes_of cuts ++ l) left ∙ so.whole),
      cuts_more cuts cut so.each (is_behind lines cuts rest before cut so is),
    )

-- ---- putting together

-- some of the bytes behind the header are a script with it, and its commands are in the shares
pub record Gathers (h : List ℕ) (s0 : Script) (behind : List ℕ) (stops : Bool) (counts : List ℕ) (shares : List (Vec (Vec Command Global) Global)) : Type 0 where
  pub script : Script
  pub is : IsScript (h ++ behind) script
  pub shared : AreShares (length s0.clients) script.commands shares
  pub quiet : stops ≡ false → NoneStops script.commands
  pub counted : AreBegun (length s0.clients) script.commands counts

pub none_yet : (p : Parted) (count : ℕ) (counts : List ℕ) (shares : List (Vec (Vec Command Global) Global)) → IsParted p
    → count ≡ length p.script.clients → counts ≡ replicate count 0 → AreEmptyLists count shares → Gathers p.header.now p.script [] false counts shares
none_yet p count counts shares parted many zeros none =
    let idle = parted.header.idle in record {
      script = p.script;
      is = subst (λ (l : List ℕ). IsScript l p.script) (sym (append-nil p.header.now)) parted.first;
      shared = subst (λ (n : ℕ). AreShares n p.script.commands shares) many
          (subst (λ (l : List Command). AreShares count l shares) (sym idle) (no_shares count shares none));
      quiet = λ still. subst (λ (l : List Command). NoneStops l) (sym idle) (All-nil (λ (c : Command). is_stop c.what ≡ false));
      counted = subst (λ (n : ℕ). AreBegun n p.script.commands counts) many
          (subst (λ (l : List Command). AreBegun count l counts) (sym idle) (none_begun count counts zeros));
    }

same_clients : (h a : List ℕ) (s0 s : Script) → IsHeader h s0 → IsScript (h ++ a) s → length s.clients ≡ length s0.clients
same_clients h a s0 s header is = ap (λ (t : Script). length t.clients) (same_header h a s0 s header is)

gathers_more : (h a : List ℕ) (s0 : Script) (cut : Cut) (part : ReadPart) (stops : Bool) (counts added : List ℕ)
    (before after : List (Vec (Vec Command Global) Global))
    → IsHeader h s0 → IsBehind a cut → Gathers h s0 a stops counts before → stops ≡ false → IsRead h cut part
    → AreAdded part.begins.items counts added → AreBehind part.lists.items before after
    → length (h ++ (a ++ cut.bytes.now)) ≤ MAX_BYTES → length (lines_of (h ++ (a ++ cut.bytes.now))) ≤ MAX_LINES
    → Gathers h s0 (a ++ cut.bytes.now) part.stops added after
gathers_more h a s0 cut part stops counts added before after header behind so still read adds put short few =
    let first = so.script.commands in
    let second = map (later (length (lines_of a))) read.script.commands in
    let clients = same_clients h cut.bytes.now s0 read.script header read.is in
    let own : AreOwn (length s0.clients) second part.lists.items =
    subst (λ (n : ℕ). AreOwn n second part.lists.items) clients
    (subst (λ (n : ℕ). AreOwn (length read.script.clients) (map (later n) read.script.commands) part.lists.items) behind.lines read.lists) in
    let begun : AreBegun (length s0.clients) second part.begins.items =
    subst (λ (n : ℕ). AreBegun n second part.begins.items) clients
    (subst (λ (n : ℕ). AreBegun (length read.script.clients) (map (later n) read.script.commands) part.begins.items) behind.lines read.begins) in record {
      script = record s0 { commands = first ++ second };
      is = joined h a cut.bytes.now s0 so.script read.script header behind.ends so.is read.is (so.quiet still) short few;
      shared = more_shares (length s0.clients) first second part.lists.items before after so.shared own put;
      quiet = λ none. All-append (λ (c : Command). is_stop c.what ≡ false) first second (so.quiet still)
          (later_stop (length (lines_of a)) read.script.commands (read.stops none));
      counted = both_begun (length s0.clients) first second counts part.begins.items added so.counted begun adds;
    }

-- so many commands can be counted
pub both_few : (h a : List ℕ) (s0 : Script) (cut : Cut) (part : ReadPart) (stops : Bool) (counts : List ℕ) (shares : List (Vec (Vec Command Global) Global))
    → IsHeader h s0 → Gathers h s0 a stops counts shares → IsRead h cut part → (length part.begins.items ≤ length counts)
    × ((n : ℕ) → n < length part.begins.items → slice_index counts n + slice_index part.begins.items n < 2 ^ 64)
both_few h a s0 cut part stops counts shares header so read =
    let same = same_clients h cut.bytes.now s0 read.script header read.is in
    let many = so.counted.many in
    let more = read.begins.many in (
      omega (arith, same, many, more),
      λ n lt.
          let old = so.counted.each n (omega (arith, same, many, more, lt)) in
          let new = read.begins.each n lt in
          let few = own_few n so.script.commands in
          let few_more = own_few n (map (later cut.before) read.script.commands) in
          let long = length-map read.script.commands (later cut.before) in
          let all = (script_fits (h ++ a) so.script so.is).few in
          let all_more = (script_fits (h ++ cut.bytes.now) read.script read.is).few in
          omega (arith, old, new, few, few_more, long, all, all_more),
    )

-- the lists of a part fit the shares
pub lists_fit : (h a : List ℕ) (s0 : Script) (cut : Cut) (part : ReadPart) (stops : Bool) (counts : List ℕ) (shares : List (Vec (Vec Command Global) Global))
    → IsHeader h s0 → Gathers h s0 a stops counts shares → IsRead h cut part → length part.lists.items ≤ length shares
lists_fit h a s0 cut part stops counts shares header so read =
    let same = same_clients h cut.bytes.now s0 read.script header read.is in
    let many = read.lists.many in
    let have = so.shared.many in
    omega (arith, same, many, have)

front_bytes : (n : ℕ) (cuts : List Cut) → bytes_of (take n cuts) ++ bytes_of (drop n cuts) ≡ bytes_of cuts
front_bytes n cuts = sym (flat_map-append (λ (c : Cut). c.bytes.now) (take n cuts) (drop n cuts)) ∙ ap bytes_of (take-append-drop n cuts)

next_bytes : (cuts : List Cut) (n : ℕ) (cut : Cut) → slice_get cuts n ≡ Some cut → bytes_of (take (n + 1) cuts) ≡ bytes_of (take n cuts) ++ cut.bytes.now
next_bytes cuts n cut at =
    ap bytes_of (take_more cuts n cut (slice_get_within cuts n cut at)
    ∙ ap (λ (c : Cut). take n cuts ++ c ∷ []) (get_or_from_slice_get cuts n cut cut at))
    ∙ bytes_more (take n cuts) cut

-- the cut of a part
pub cut_at : (p : Parted) (parts : List (Option ReadPart)) (n : ℕ) (part : ReadPart) → ArePartsRead p.header.now p.cuts.items parts → slice_get parts n ≡ Some (Some part)
    → (cut : Cut) × (slice_get p.cuts.items n ≡ Some cut) × IsRead p.header.now cut part
cut_at p parts n part read at =
    let lt = slice_get_within parts n (Some part) at in
    let many = read.many in
    let low : n < length p.cuts.items = omega (arith, lt, many) in
    let cut = get_or p.cuts.items n (some_item p.cuts.items n low) in
    let is = slice_get-get_or p.cuts.items n (some_item p.cuts.items n low) low in
    (cut, is, read.each n cut part is at)

-- one part more
pub next_part : (p : Parted) (parts : List (Option ReadPart)) (n : ℕ) (part : ReadPart) (stops : Bool) (counts added : List ℕ)
    (before after : List (Vec (Vec Command Global) Global))
    → IsParted p → ArePartsRead p.header.now p.cuts.items parts → slice_get parts n ≡ Some (Some part)
    → Gathers p.header.now p.script (bytes_of (take n p.cuts.items)) stops counts before → stops ≡ false
    → AreAdded part.begins.items counts added → AreBehind part.lists.items before after
    → Gathers p.header.now p.script (bytes_of (take (n + 1) p.cuts.items)) part.stops added after
next_part p parts n part stops counts added before after parted read at so still adds put =
    let h = p.header.now in
    let found = cut_at p parts n part read at in
    let cut = found.0 in
    let a = bytes_of (take n p.cuts.items) in
    let next = next_bytes p.cuts.items n cut found.1 in
    let rest = bytes_of (drop (n + 1) p.cuts.items) in
    let whole : (h ++ (a ++ cut.bytes.now)) ++ rest ≡ all_bytes p =
    append_assoc h (a ++ cut.bytes.now) rest
    ∙ ap (λ (l : List ℕ). h ++ l) (ap (λ (l : List ℕ). l ++ rest) (sym next) ∙ front_bytes (n + 1) p.cuts.items) in
    let lengths = length-append (h ++ (a ++ cut.bytes.now)) rest in
    let all = ap (λ (l : List ℕ). length l) whole in
    let lines = front_lines (h ++ (a ++ cut.bytes.now)) rest in
    let all_lines = ap (λ (l : List ℕ). length (lines_of l)) whole in
    let short = parted.short in
    let few = parted.few in
    subst (λ (l : List ℕ). Gathers h p.script l part.stops added after) (sym next)
    (gathers_more h a p.script cut part stops counts added before after parted.header (parted.cuts n cut found.1) so still found.2 adds put
    (omega (arith, lengths, all, short)) (omega (arith, lines, all_lines, few)))

-- all parts
pub all_gathered : (p : Parted) (parts : List (Option ReadPart)) (n : ℕ) (stops : Bool) (counts : List ℕ) (most : ℕ)
    (shares : Vec (Vec (Vec Command Global) Global) Global)
    → IsParted p → ArePartsRead p.header.now p.cuts.items parts → n ≡ length parts
    → Gathers p.header.now p.script (bytes_of (take n p.cuts.items)) stops counts shares.items → IsGreatest counts most
    → (script : Script) × IsScript (all_bytes p) script × IsDealt script (record { header = p.script; shares = shares; begins = most })
all_gathered p parts n stops counts most shares parted read end so greatest =
    let many = read.many in
    let all : take n p.cuts.items ≡ p.cuts.items = take_all n p.cuts.items (omega (arith, end, many)) in
    let h = p.header.now in
    let same = same_header h (bytes_of (take n p.cuts.items)) p.script so.script parted.header so.is in
    let clients : length p.script.clients ≡ length so.script.clients = sym (ap (λ (t : Script). length t.clients) same) in (
      so.script,
      subst (λ (l : List Cut). IsScript (h ++ bytes_of l) so.script) all so.is,
      all_dealt so.script p.script shares most same parted.header.idle
          (subst (λ (k : ℕ). AreShares k so.script.commands shares.items) clients so.shared)
          (subst (λ (k : ℕ). IsMost k so.script.commands most) clients
          (is_most (length p.script.clients) so.script.commands counts most so.counted greatest)),
    )

-- ---- the whole

-- what `parse` did not give is not given
pub not_given : (e : ScriptFault) (r : Result DealtScript ScriptFault) (s : Script) → r ≡ Err e → GivesScript (Err e) s → GivesDealt r s
not_given (Refused line why) r s is gives = absurd gives
not_given NoMemory r s is gives = subst (λ (q : Result DealtScript ScriptFault). GivesDealt q s) (sym is) tt

-- the bytes are no other script
pub only_dealt : (bytes : List ℕ) (dealt : DealtScript) → (script : Script) × IsScript bytes script × IsDealt script dealt
    → (script : Script) → IsScript bytes script → IsDealt script dealt
only_dealt bytes dealt found script is = subst (λ (s : Script). IsDealt s dealt) (one_script bytes found.0 script found.1 is) found.2

-- ---- the parts that threads read

-- as many as there are parts, where each is read that was
pub all_read : (header : List ℕ) (cuts : List Cut) {E : Type 0} (r : Result (Vec (Option ReadPart) Global) E) {Each : Vec (Option ReadPart) Global → Type 0}
    → IfOk r (λ parts. length parts.items ≡ length cuts)
    → ((parts : Vec (Option ReadPart) Global) → Each parts → (n : ℕ) (cut : Cut) (part : ReadPart) → slice_get cuts n ≡ Some cut
    → slice_get parts.items n ≡ Some (Some part) → IsRead header cut part)
    → IfOk r Each → IfOk r (λ parts. ArePartsRead header cuts parts.items)
all_read header cuts (Ok parts) many read each = record { many = many; each = read parts each }
all_read header cuts (Err e) many read each = tt
