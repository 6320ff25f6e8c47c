-- Pieces that are read one by one behind the header are one script.
use Rattle.std.proofs.Common.{◌≡◌, inr, ℕ, ◌+◌, ◌<◌, ◌≤◌, Bool, true, false, cond, eqb, List, [], ◌∷◌, ◌++◌, length, map, refl, sym, ap, subst, ◌∙◌, arith, length-append, append-nil, append_assoc}
use Rattle.std.specs.Prelude.{not, ◌&&◌, codes}
use Rattle.std.specs.List.{list_all, enumerate_from}
use Rattle.std.proofs.lemmas.Bool.{and_parts}
use Rattle.std.proofs.lemmas.List.Folds.{list_all-append}
use Rattle.script_text.specs.declared.script.Command.{Command}
use Rattle.script_text.specs.declared.script.Script.{Script}
use Rattle.script_text.specs.declared.item.Item.{Item}
use Rattle.script_text.specs.declared.limits.TheConstants.{MAX_BYTES, MAX_LINES}
use Rattle.script_text.specs.Pieces.{lines_of, is_ascii_line}
use Rattle.script_text.specs.Items.{version_in, has_begun, regions_in, colours_in, clients_in, objects_in, last_said, commands, script_of}
use Rattle.script_text.specs.Grammar.{said_lines, Say, IsScript}
use Rattle.script_beside.specs.Joining.{later, EndsALine, IsHeader, NoneStops}
use Rattle.script_beside.proofs.JoiningLines.{lines_ended, said_joined, moved, said_moved}
use Rattle.script_beside.proofs.JoiningItems.{asks, asks_joined, asked_of, commands_asked, script_asked, say_split, say_joined, begun_by, begun_still, all_ask}
use Rattle.script_beside.proofs.JoiningCommands.{Carries, carried}
pub use Rattle.script_beside.proofs.JoiningLines.{lines_joined, lines_counted, lines_at_most}

-- ---- the header's lines

abbrev begin_line : List ℕ
begin_line = codes "begin"

abbrev begin_lines : List (List ℕ)
begin_lines = begin_line ∷ []

header_ends : (h : List ℕ) (s : Script) → IsHeader h s → EndsALine h
header_ends h s is = inr (is.ends.0 ++ 10 ∷ begin_line, is.ends.1 ∙ sym (append_assoc is.ends.0 (10 ∷ begin_line) (10 ∷ [])))

header_lines : (h : List ℕ) (s : Script) → IsHeader h s → (front : List (List ℕ)) × (lines_of h ≡ front ++ begin_lines)
header_lines h s is = (lines_of (is.ends.0 ++ 10 ∷ []), ap lines_of is.ends.1 ∙ lines_ended is.ends.0 (begin_line ++ 10 ∷ []))

begin_said : (n : ℕ) → said_lines ((n, begin_line) ∷ []) ≡ (n, begin_line) ∷ []
begin_said n = of (not (eqb n 1)) ((n, begin_line) ∷ []) where
  of : (test : Bool) (line : List (ℕ × List ℕ)) → cond (not (test && false)) line [] ≡ line
  of true line = refl
  of false line = refl

-- what the header's lines say has begun
header_begun : (lines front : List (List ℕ)) (u : List Item) → lines ≡ front ++ begin_lines → Say [] (said_lines (enumerate_from 1 lines)) u → has_begun u ≡ true
header_begun lines front u e say =
    let apart : said_lines (enumerate_from 1 lines) ≡ said_lines (enumerate_from 1 front) ++ (1 + length front, begin_line) ∷ [] =
    ap (λ l. said_lines (enumerate_from 1 l)) e ∙ said_joined 1 front begin_lines
    ∙ ap (λ l. said_lines (enumerate_from 1 front) ++ l) (begin_said (1 + length front)) in
    begun_by [] (said_lines (enumerate_from 1 front)) (1 + length front) u (subst (λ l. Say [] l u) apart say)

-- ---- one piece

-- what the header says, and what the bytes behind it ask for
record IsOpened (h a : List ℕ) (s0 s : Script) : Type 0 where
  header : List Item
  asked : List Command
  first : Say [] (said_lines (enumerate_from 1 (lines_of h))) header
  behind : Say header (said_lines (enumerate_from (1 + length (lines_of h)) (lines_of a))) (asks asked)
  begun : has_begun header ≡ true
  same : script_of header ≡ s0
  whole : s ≡ record s0 { commands = asked }
  ascii_first : list_all is_ascii_line (lines_of h) ≡ true
  ascii_behind : list_all is_ascii_line (lines_of a) ≡ true

front_few : {X : Type 0} (most : ℕ) (xs ys : List X) → length (xs ++ ys) ≤ most → length xs ≤ most
front_few most xs ys le = let e = length-append xs ys in omega (arith, le, e)

-- the header is a script, which what follows leaves as it is
whole_is : (s0 s : Script) (said header : List Item) (asked : List Command) → script_of header ≡ s0 → s0.commands ≡ [] → said ≡ header ++ asks asked → s ≡ script_of said
    → s ≡ record s0 { commands = asked }
whole_is s0 s said header asked same idle apart is =
    let none : commands header ≡ [] = ap (λ (t : Script). t.commands) same ∙ idle in
    is ∙ ap script_of apart ∙ script_asked header asked
    ∙ (λ i. record (same i) { commands = none i ++ asked })

opened : (h a : List ℕ) (s0 s : Script) → IsHeader h s0 → IsScript (h ++ a) s → IsOpened h a s0 s
opened h a s0 s is script =
    let apart = lines_joined h a (header_ends h s0 is) in
    let numbered : said_lines (enumerate_from 1 (lines_of (h ++ a)))
    ≡ said_lines (enumerate_from 1 (lines_of h)) ++ said_lines (enumerate_from (1 + length (lines_of h)) (lines_of a)) =
    ap (λ l. said_lines (enumerate_from 1 l)) apart ∙ said_joined 1 (lines_of h) (lines_of a) in
    let parts = say_split [] (said_lines (enumerate_from 1 (lines_of h))) (said_lines (enumerate_from (1 + length (lines_of h)) (lines_of a))) script.said
    (subst (λ l. Say [] l script.said) numbered script.lines.say) in
    let lines = header_lines h s0 is in
    let begun = header_begun (lines_of h) lines.0 parts.0 lines.1 parts.3 in
    let more = all_ask parts.0 (said_lines (enumerate_from (1 + length (lines_of h)) (lines_of a))) parts.1 begun parts.4 in
    let ascii = and_parts (list_all is_ascii_line (lines_of h)) (list_all is_ascii_line (lines_of a))
    (sym (list_all-append is_ascii_line (lines_of h) (lines_of a)) ∙ ap (list_all is_ascii_line) (sym apart) ∙ script.lines.ascii) in
    let alone : IsScript h (script_of parts.0) = record {
      short = front_few MAX_BYTES h a script.short;
      said = parts.0;
      lines = record {
        few = front_few MAX_LINES (lines_of h) (lines_of a) (subst (λ (l : List (List ℕ)). length l ≤ MAX_LINES) apart script.lines.few);
        ascii = ascii.0;
        say = parts.3;
      };
      begun = begun;
      same = refl;
    } in
    let same = is.only (script_of parts.0) alone in record {
      header = parts.0;
      asked = more.0;
      first = parts.3;
      behind = subst (λ (l : List Item). Say parts.0 (said_lines (enumerate_from (1 + length (lines_of h)) (lines_of a))) l) more.1 parts.4;
      begun = begun;
      same = same;
      whole = whole_is s0 s script.said parts.0 more.0 same is.idle (parts.2 ∙ ap (λ (l : List Item). parts.0 ++ l) more.1) script.same;
      ascii_first = ascii.0;
      ascii_behind = ascii.1;
    }

-- what follows a header leaves the rest of the script as it is
pub same_header : (h a : List ℕ) (s0 s : Script) → IsHeader h s0 → IsScript (h ++ a) s → s ≡ record s0 { commands = s.commands }
same_header h a s0 s is script =
    let o = opened h a s0 s is script in
    let mine : o.asked ≡ s.commands = sym (ap (λ (t : Script). t.commands) o.whole) in
    o.whole ∙ ap (λ (cs : List Command). record s0 { commands = cs }) mine

-- ---- two pieces

-- behind the first piece stands the header of the second, and the first's commands
carries : (k : ℕ) (s0 : Script) (one other : List Item) (more : List Command) → script_of one ≡ s0 → script_of other ≡ s0 → s0.commands ≡ [] → has_begun other ≡ true
    → Carries k more one (other ++ asks more)
carries k s0 one other more mine its idle begun =
    let same : script_of one ≡ script_of other = mine ∙ sym its in
    let none : commands one ≡ [] = ap (λ (t : Script). t.commands) mine ∙ idle in
    let nothing : commands other ≡ [] = ap (λ (t : Script). t.commands) its ∙ idle in record {
      version = ap (λ (t : Script). t.version) same ∙ sym (ap (last_said 1) (asked_of version_in (λ c. refl) other more));
      regions = ap (λ (t : Script). t.regions) same ∙ sym (ap (last_said []) (asked_of regions_in (λ c. refl) other more));
      colours = ap (λ (t : Script). t.colours) same ∙ sym (ap (last_said []) (asked_of colours_in (λ c. refl) other more));
      clients = ap (λ (t : Script). t.clients) same ∙ sym (ap (λ (l : List (List ℕ × ℕ)). map (λ c. c.0) l) (asked_of clients_in (λ c. refl) other more));
      made = ap (λ (t : Script). t.objects) same ∙ sym (asked_of objects_in (λ c. refl) other more);
      begun = begun_still other more begun;
      asked =
          commands_asked other more ∙ ap (λ (l : List Command). l ++ more) nothing
          ∙ sym (ap (λ (l : List Command). more ++ map (later k) l) none ∙ append-nil more);
    }

-- the lines of the header and of both pieces
lines_apart : (h a b : List ℕ) → EndsALine h → EndsALine a → lines_of (h ++ (a ++ b)) ≡ lines_of h ++ (lines_of a ++ lines_of b)
lines_apart h a b eh ea = lines_joined h (a ++ b) eh ∙ ap (λ l. lines_of h ++ l) (lines_joined a b ea)

-- what they say, where the second piece's stand further down than it says of itself
said_apart : (xs ys zs : List (List ℕ)) → 0 < length xs
    → said_lines (enumerate_from 1 (xs ++ (ys ++ zs)))
    ≡ said_lines (enumerate_from 1 xs) ++ (said_lines (enumerate_from (1 + length xs) ys) ++ map (moved (length ys)) (said_lines (enumerate_from (1 + length xs) zs)))
said_apart xs ys zs lt =
    said_joined 1 xs (ys ++ zs)
    ∙ ap (λ l. said_lines (enumerate_from 1 xs) ++ l)
    (said_joined (1 + length xs) ys zs
    ∙ ap (λ l. said_lines (enumerate_from (1 + length xs) ys) ++ l) (said_moved (length ys) (1 + length xs) zs (omega (arith, lt))))

ends_some : (lines front : List (List ℕ)) → lines ≡ front ++ begin_lines → 0 < length lines
ends_some lines front e =
    let n : length lines ≡ length (front ++ begin_lines) = ap length e in
    let m = length-append front begin_lines in
    omega (arith, n, m)

joined_script : (s0 sa sb : Script) (header : List Item) (k : ℕ) (first second : List Command) → script_of header ≡ s0 → s0.commands ≡ [] → sa.commands ≡ first → sb.commands ≡ second
    → record s0 { commands = sa.commands ++ map (later k) sb.commands } ≡ script_of (header ++ asks (first ++ map (later k) second))
joined_script s0 sa sb header k first second same idle a b =
    let none : commands header ≡ [] = ap (λ (t : Script). t.commands) same ∙ idle in
    let all : sa.commands ++ map (later k) sb.commands ≡ first ++ map (later k) second = λ i. a i ++ map (later k) (b i) in
    ap (λ (cs : List Command). record s0 { commands = cs }) all
    ∙ sym (script_asked header (first ++ map (later k) second) ∙ (λ i. record (same i) { commands = none i ++ (first ++ map (later k) second) }))

-- pieces read one by one behind the header, of which the first stops no client, are one script
pub joined : (h a b : List ℕ) (s0 sa sb : Script) → IsHeader h s0 → EndsALine a → IsScript (h ++ a) sa → IsScript (h ++ b) sb → NoneStops sa.commands
    → length (h ++ (a ++ b)) ≤ MAX_BYTES → length (lines_of (h ++ (a ++ b))) ≤ MAX_LINES
    → IsScript (h ++ (a ++ b)) (record s0 { commands = sa.commands ++ map (later (length (lines_of a))) sb.commands })
joined h a b s0 sa sb is ends first second none short few =
    let oa = opened h a s0 sa is first in
    let ob = opened h b s0 sb is second in
    let k = length (lines_of a) in
    let more = oa.asked ++ map (later k) ob.asked in
    let mine : sa.commands ≡ oa.asked = ap (λ (t : Script). t.commands) oa.whole in
    let its : sb.commands ≡ ob.asked = ap (λ (t : Script). t.commands) ob.whole in
    let apart = lines_apart h a b (header_ends h s0 is) ends in
    let front = header_lines h s0 is in
    let said = said_apart (lines_of h) (lines_of a) (lines_of b) (ends_some (lines_of h) front.0 front.1) in
    let there = carried k oa.asked (subst NoneStops mine none) ob.header (oa.header ++ asks oa.asked)
    (said_lines (enumerate_from (1 + length (lines_of h)) (lines_of b))) ob.asked
    (carries k s0 ob.header oa.header oa.asked ob.same oa.same is.idle oa.begun) ob.behind in
    let behind = say_joined oa.header (said_lines (enumerate_from (1 + length (lines_of h)) (lines_of a)))
    (map (moved k) (said_lines (enumerate_from (1 + length (lines_of h)) (lines_of b)))) (asks oa.asked) (asks (map (later k) ob.asked)) oa.behind there in
    let all = say_joined [] (said_lines (enumerate_from 1 (lines_of h)))
    (said_lines (enumerate_from (1 + length (lines_of h)) (lines_of a)) ++ map (moved k) (said_lines (enumerate_from (1 + length (lines_of h)) (lines_of b))))
    oa.header (asks oa.asked ++ asks (map (later k) ob.asked)) oa.first behind in
    record {
      short = short;
      said = oa.header ++ asks more;
      lines = record {
        few = few;
        ascii =
            ap (list_all is_ascii_line) apart
            ∙ list_all-append is_ascii_line (lines_of h) (lines_of a ++ lines_of b)
            ∙ (λ i. oa.ascii_first i && list_all-append is_ascii_line (lines_of a) (lines_of b) i)
            ∙ (λ i. oa.ascii_behind i && ob.ascii_behind i);
        say = subst (λ (l : List Item). Say [] (said_lines (enumerate_from 1 (lines_of (h ++ (a ++ b))))) (oa.header ++ l)) (sym (asks_joined oa.asked (map (later k) ob.asked)))
            (subst (λ l. Say [] l (oa.header ++ (asks oa.asked ++ asks (map (later k) ob.asked)))) (sym (ap (λ l. said_lines (enumerate_from 1 l)) apart ∙ said)) all);
      };
      begun = begun_still oa.header more oa.begun;
      same = joined_script s0 sa sb oa.header k oa.asked ob.asked oa.same is.idle mine its;
    }
