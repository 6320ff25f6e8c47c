-- A piece's commands may stand behind other commands, of which none stops its client.
use Rattle.std.proofs.Common.{◌≡◌, ℕ, suc, ◌+◌, Bool, true, false, cond, eqb, List, [], ◌∷◌, ◌++◌, length, map, refl, sym, ap, subst, ◌∙◌, arith, append_assoc}
use Rattle.std.specs.Prelude.{IsTrue, not, ◌&&◌, ◌||◌, nat_le, nat_lt, slice_get}
use Rattle.std.specs.List.{fold, list_any, list_all}
use Rattle.std.proofs.lemmas.Bool.{and_parts}
use Rattle.std.proofs.lemmas.List.{map-append}
use Rattle.std.proofs.lemmas.List.Folds.{list_any-append}
use Rattle.std.proofs.lemmas.List.Sums.{fold-append}
use Rattle.script_text.specs.declared.script.Object.{Object}
use Rattle.script_text.specs.declared.script.Command.{Command}
use Rattle.script_text.specs.declared.commands.What.{What}
use Rattle.script_text.specs.declared.uses.ReadUse.TheVariants.{Takes, UsesUp}
use Rattle.script_text.specs.declared.uses.Use.{Use}
use Rattle.script_text.specs.declared.uses.Use.TheVariants.{OfObject}
use Rattle.script_text.specs.declared.item.Item.{Item}
use Rattle.script_text.specs.declared.item.Item.TheVariants as items
use Rattle.script_text.specs.declared.table.Field.{Field}
use Rattle.script_text.specs.declared.table.Field.TheVariants as fields
use Rattle.script_text.specs.declared.table.Last.{Last}
use Rattle.script_text.specs.declared.table.Last.TheVariants as lasts
use Rattle.script_text.specs.declared.given.Given.{Given}
use Rattle.script_text.specs.Commands.{use_of, word_of}
use Rattle.script_text.specs.Table.{row_fields, last_of, own_fields, later_fields, nothing, has_word}
use Rattle.script_text.specs.Words.{word_text}
use Rattle.script_text.specs.Apart.{is_taken, is_reserved}
use Rattle.script_text.specs.Pieces.{fields_of, is_text, name_of}
use Rattle.script_text.specs.Items.{version_in, version_of, has_begun, regions_in, colours_in, clients_in, objects_in, last_said, region_names, colour_names, client_names, objects, commands, is_stop, has_stopped, held_by, holds_read, has_read}
use Rattle.script_text.specs.Grammar.{may_follow, are_new_numbers, is_colour, are_colours, is_free, is_one_of, Spells, SpellAll, ends_well, SpellsWhat, Says, Say}
use Rattle.script_beside.specs.Joining.{later, NoneStops}
use Rattle.script_beside.proofs.JoiningLines.{moved}
use Rattle.script_beside.proofs.JoiningItems.{asks, asked_of, commands_asked, begun_after}

-- The one header is the other's, and behind the other stand these commands more before the one's, which stand so many lines further down.
pub record Carries (k : ℕ) (more : List Command) (one other : List Item) : Type 0 where
  pub version : version_of one ≡ version_of other
  pub regions : region_names one ≡ region_names other
  pub colours : colour_names one ≡ colour_names other
  pub clients : client_names one ≡ client_names other
  pub made : objects one ≡ objects other
  pub begun : has_begun other ≡ true
  pub asked : commands other ≡ more ++ map (later k) (commands one)

-- ---- who has stopped

abbrev stops : ℕ → Command → Bool
stops client c = eqb c.client client && is_stop c.what

none_stopped : (client : ℕ) (more : List Command) → NoneStops more → list_any (stops client) more ≡ false
none_stopped client [] none = refl
none_stopped client (c ∷ cs) none =
    or_neither (stops client c) (list_any (stops client) cs) (and_never (eqb c.client client) (is_stop c.what) (none 0 c (omega arith)))
    (none_stopped client cs (λ n d lt. none (suc n) d (omega (arith, lt)))) where
      and_never : (a b : Bool) → b ≡ false → (a && b) ≡ false
      and_never true b e = e
      and_never false b e = refl

      or_neither : (a b : Bool) → a ≡ false → b ≡ false → (a || b) ≡ false
      or_neither true b e f = e
      or_neither false b e f = f

stopped_later : (k client : ℕ) (cs : List Command) → list_any (stops client) (map (later k) cs) ≡ list_any (stops client) cs
stopped_later k client [] = refl
stopped_later k client (c ∷ cs) = ap (λ b. stops client c || b) (stopped_later k client cs)

module _ (k : ℕ) (more : List Command) (none : NoneStops more) (one other : List Item) (like : Carries k more one other) where
  same_stopped : (client : ℕ) → has_stopped other client ≡ has_stopped one client
  same_stopped client =
      ap (list_any (stops client)) like.asked
      ∙ list_any-append (stops client) more (map (later k) (commands one))
      ∙ ap (λ b. b || list_any (stops client) (map (later k) (commands one))) (none_stopped client more none)
      ∙ stopped_later k client (commands one)

-- ---- whose reads are there

abbrev follow : ℕ → ℕ → Bool → Command → Bool
follow client object held c = cond (eqb c.client client) (holds_read object held c.what) held

read_later : (k client object : ℕ) (held : Bool) (cs : List Command) → fold (follow client object) held (map (later k) cs) ≡ fold (follow client object) held cs
read_later k client object held [] = refl
read_later k client object held (c ∷ cs) = read_later k client object (follow client object held c) cs

or_more : (a b x : Bool) → (a ≡ true → b ≡ true) → (a || x) ≡ true → (b || x) ≡ true
or_more true b x h e = ap (λ (c : Bool). c || x) (h refl)
or_more false true x h e = refl
or_more false false x h e = e

and_more : (a b x : Bool) → (a ≡ true → b ≡ true) → (a && x) ≡ true → (b && x) ≡ true
and_more true b x h e = ap (λ (c : Bool). c && x) (h refl) ∙ e
and_more false b x h e = absurd (let f : ⊥ = cc in f)

holds_more : (object : ℕ) (a b : Bool) (u : Use) → (a ≡ true → b ≡ true) → held_by object a u ≡ true → held_by object b u ≡ true
holds_more object a b (OfObject o Takes) h e = or_more a b (eqb o object) h e
holds_more object a b (OfObject o UsesUp) h e = and_more a b (not (eqb o object)) h e
holds_more object a b _ h e = h e

follow_more : (client object : ℕ) (a b : Bool) (c : Command) → (a ≡ true → b ≡ true) → follow client object a c ≡ true → follow client object b c ≡ true
follow_more client object a b c h = of (eqb c.client client) where
  of : (test : Bool) → cond test (holds_read object a c.what) a ≡ true → cond test (holds_read object b c.what) b ≡ true
  of true e = holds_more object a b (use_of c.what) h e
  of false e = h e

-- a read that is there without other commands is there behind them
read_more : (client object : ℕ) (a b : Bool) (cs : List Command) → (a ≡ true → b ≡ true) → fold (follow client object) a cs ≡ true → fold (follow client object) b cs ≡ true
read_more client object a b [] h e = h e
read_more client object a b (c ∷ cs) h e =
    read_more client object (follow client object a c) (follow client object b c) cs (follow_more client object a b c h) e

module _ (k : ℕ) (more : List Command) (one other : List Item) (like : Carries k more one other) where
  still_read : (client object : ℕ) → has_read one client object ≡ true → has_read other client object ≡ true
  still_read client object e =
      ap (fold (follow client object) false) like.asked
      ∙ fold-append (follow client object) false more (map (later k) (commands one))
      ∙ read_later k client object (fold (follow client object) false more) (commands one)
      ∙ read_more client object false (fold (follow client object) false more) (commands one) (λ f. absurd (let g : ⊥ = cc in g)) e

-- ---- what the fields spell

both : (a b : Bool) → a ≡ true → b ≡ true → (a && b) ≡ true
both true b e f = f
both false b e f = e

same_colours : (one other : List Item) → colour_names one ≡ colour_names other → (order : List ℕ)
    → IsTrue (nat_le 1 (length order) && are_new_numbers [] order && list_all (λ c. nat_lt c (length (colour_names one))) order)
    → IsTrue (nat_le 1 (length order) && are_new_numbers [] order && list_all (λ c. nat_lt c (length (colour_names other))) order)
same_colours one other e order ok =
    subst (λ (names : List (List ℕ)). IsTrue (nat_le 1 (length order) && are_new_numbers [] order && list_all (λ c. nat_lt c (length names)) order)) e ok

-- colours that are free for a new object are so where the objects are the same
same_free : (one other : List Item) → colour_names one ≡ colour_names other → objects one ≡ objects other → (alone : Bool) (order : List ℕ)
    → IsTrue (are_colours one order && list_all (is_free one alone) order) → IsTrue (are_colours other order && list_all (is_free other alone) order)
same_free one other c o alone order ok =
    let all = and_parts (are_colours one order) (list_all (is_free one alone) order) ok in
    both (are_colours other order) (list_all (is_free other alone) order) (same_colours one other c order all.0)
    (subst (λ (made : List Object). list_all (λ n. not (is_taken made alone n)) order ≡ true) o all.1)

spells_as : (one other : List Item) → region_names one ≡ region_names other → colour_names one ≡ colour_names other → objects one ≡ objects other
    → (field : Field) (own : List (List ℕ)) (given next : Given) → Spells one field own given next → Spells other field own given next
spells_as one other r c o fields.Steps own given next s = s
spells_as one other r c o fields.Cols own given next s = (
  s.0,
  s.1,
  record {
    order = s.2.order;
    lawful = same_colours one other c s.2.order s.2.lawful;
    names = s.2.names ∙ ap (λ (names : List (List ℕ)). map (name_of names) s.2.order) c;
    next_is = s.2.next_is;
  },
)
spells_as one other r c o fields.Colour own given next s =
    (s.0, s.1 ∙ ap (λ (names : List (List ℕ)). name_of names s.0 ∷ []) c, subst (λ (names : List (List ℕ)). IsTrue (nat_lt s.0 (length names))) c s.2, s.3)
spells_as one other r c o fields.Region own given next s =
    (s.0, s.1 ∙ ap (λ (names : List (List ℕ)). name_of names s.0 ∷ []) r, subst (λ (names : List (List ℕ)). IsTrue (nat_lt s.0 (length names))) r s.2, s.3)
spells_as one other r c o fields.Text own given next s =
    (s.0, s.1, subst (λ (made : List Object). IsTrue (is_text s.0 && not (is_reserved made s.0))) o s.2, s.3)
spells_as one other r c o (fields.Object of) own given next s =
    (s.0, s.1 ∙ ap (λ (made : List Object). name_of (map (λ m. m.name) made) s.0 ∷ []) o, subst (λ (made : List Object). IsTrue (is_one_of of (slice_get made s.0))) o s.2, s.3)
spells_as one other r c o fields.Key own given next s = s
spells_as one other r c o fields.Value own given next s = s
spells_as one other r c o (fields.Path root) own given next s = s
spells_as one other r c o fields.Target own given next s = s
spells_as one other r c o (fields.Keys most) own given next s = s
spells_as one other r c o (fields.Pairs most) own given next s = s
spells_as one other r c o fields.ObjectColour own given next s =
    let ok = and_parts (is_colour one s.0) (is_free one false s.0) s.2 in (
      s.0,
      s.1 ∙ ap (λ (names : List (List ℕ)). name_of names s.0 ∷ []) c,
      both (is_colour other s.0) (is_free other false s.0) (subst (λ (names : List (List ℕ)). nat_lt s.0 (length names) ≡ true) c ok.0)
          (subst (λ (made : List Object). not (is_taken made false s.0) ≡ true) o ok.1),
      s.3,
    )
spells_as one other r c o (fields.ObjectColours most alone) own given next s =
    (s.0, s.1 ∙ ap (λ (names : List (List ℕ)). map (name_of names) s.0) c, same_free one other c o alone s.0 s.2, s.3, s.4)

all_as : (one other : List Item) → region_names one ≡ region_names other → colour_names one ≡ colour_names other → objects one ≡ objects other
    → (row : List Field) (args : List (List ℕ)) (given last : Given) → SpellAll one row args given last → SpellAll other row args given last
all_as one other r c o [] args given last s = s
all_as one other r c o (field ∷ row) args given last s =
    (s.0, spells_as one other r c o field (own_fields field args) given s.0 s.1, all_as one other r c o row (later_fields field args) s.0 last s.2)

ends_as : (one other : List Item) (client : ℕ) → ((object : ℕ) → has_read one client object ≡ true → has_read other client object ≡ true)
    → (last : Last) (given : Given) → IsTrue (ends_well one client last given) → IsTrue (ends_well other client last given)
ends_as one other client h lasts.Nothing given e = e
ends_as one other client h lasts.StopFits given e = e
ends_as one other client h lasts.ReadHeld given e = h given.object e

-- ---- one command

module _ (k : ℕ) (more : List Command) (none : NoneStops more) (one other : List Item) (like : Carries k more one other) where
  what_as : (client : ℕ) (args : List (List ℕ)) (what : What) → SpellsWhat one client args what → SpellsWhat other client args what
  what_as client args what s = record {
    known = subst (λ (v : ℕ). IsTrue (has_word v (word_of what))) like.version s.known;
    given = s.given;
    spelled = all_as one other like.regions like.colours like.made (row_fields (word_of what)) args nothing s.given s.spelled;
    ends = ends_as one other client (still_read k more one other like client) (last_of (word_of what)) s.given s.ends;
    same = s.same;
  }

  says_as : (number : ℕ) (line : List (List ℕ)) (c : Command) → Says one number line (items.Asks c) → Says other (number + k) line (items.Asks (later k c))
  says_as number line c s = (
    ap (λ n. n + k) s.0,
    s.1,
    what_as c.client s.1 c.what s.2,
    s.3 ∙ ap (λ (names : List (List ℕ)). name_of names c.client ∷ word_text (word_of c.what) ∷ s.1) like.clients,
  )

  follows_as : (c : Command) → may_follow one (items.Asks c) ≡ true → may_follow other (items.Asks (later k c)) ≡ true
  follows_as c may =
      let first = and_parts (has_begun one && nat_lt c.client (length (client_names one))) (not (has_stopped one c.client)) may in
      let caller = and_parts (has_begun one) (nat_lt c.client (length (client_names one))) first.0 in
      both (has_begun other && nat_lt c.client (length (client_names other))) (not (has_stopped other c.client))
      (both (has_begun other) (nat_lt c.client (length (client_names other))) like.begun
      (subst (λ (names : List (List ℕ)). nat_lt c.client (length names) ≡ true) like.clients caller.1))
      (ap not (same_stopped k more none one other like c.client) ∙ first.1)

  one_more : (c : Command) → Carries k more (one ++ items.Asks c ∷ []) (other ++ items.Asks (later k c) ∷ [])
  one_more c =
      let mine = c ∷ [] in
      let its = later k c ∷ [] in record {
        version = ap (last_said 1) (asked_of version_in (λ d. refl) one mine) ∙ like.version ∙ sym (ap (last_said 1) (asked_of version_in (λ d. refl) other its));
        regions = ap (last_said []) (asked_of regions_in (λ d. refl) one mine) ∙ like.regions ∙ sym (ap (last_said []) (asked_of regions_in (λ d. refl) other its));
        colours = ap (last_said []) (asked_of colours_in (λ d. refl) one mine) ∙ like.colours ∙ sym (ap (last_said []) (asked_of colours_in (λ d. refl) other its));
        clients =
            ap (λ (l : List (List ℕ × ℕ)). map (λ d. d.0) l) (asked_of clients_in (λ d. refl) one mine) ∙ like.clients
            ∙ sym (ap (λ (l : List (List ℕ × ℕ)). map (λ d. d.0) l) (asked_of clients_in (λ d. refl) other its));
        made = asked_of objects_in (λ d. refl) one mine ∙ like.made ∙ sym (asked_of objects_in (λ d. refl) other its);
        begun = begun_after other (later k c);
        asked =
            commands_asked other its
            ∙ ap (λ (l : List Command). l ++ its) like.asked
            ∙ append_assoc more (map (later k) (commands one)) its
            ∙ ap (λ (l : List Command). more ++ l) (sym (ap (map (later k)) (commands_asked one mine) ∙ map-append (later k) (commands one) mine));
      }

-- ---- all commands

-- what a piece's lines ask for, they ask for as many lines further down, behind more commands
pub carried : (k : ℕ) (more : List Command) → NoneStops more → (one other : List Item) (lines : List (ℕ × List ℕ)) (cs : List Command) → Carries k more one other
    → Say one lines (asks cs) → Say other (map (moved k) lines) (asks (map (later k) cs))
carried k more none one other [] [] like say = tt
carried k more none one other [] (c ∷ cs) like say = absurd say
carried k more none one other (line ∷ lines) [] like say = absurd say
carried k more none one other (line ∷ lines) (c ∷ cs) like say = (
  says_as k more none one other like line.0 (fields_of line.1) c say.0,
  follows_as k more none one other like c say.1,
  carried k more none (one ++ items.Asks c ∷ []) (other ++ items.Asks (later k c) ∷ []) lines cs (one_more k more none one other like c) say.2,
)
