-- The script of a load fits, and only appends, syncs and pulls; so each of its runs that found memory comes to its summary.
use Rattle.std.proofs.Common.{◌≡◌, ℕ, zero, suc, ◌+◌, ◌*◌, ◌%◌, ◌<◌, ◌≤◌, Bool, true, List, [], ◌∷◌, length, map, Option, Some, None, slice_get, refl, ap, sym, subst, ◌∙◌, inl, inr, arith, length-append}
use Rattle.std.specs.Prelude.{◌==◌, ◌&&◌, nat_le, nat_lt, slice_index}
use Rattle.std.specs.List.{filter, flat_map, list_all, range_with_len}
use Rattle.std.proofs.lemmas.Bool.{eqb-true, and_parts, leb-true, ltb-true, false_from_ne_true}
use Rattle.std.proofs.lemmas.List.{length-map}
use Rattle.std.proofs.lemmas.List.Elements.{All-nil}
use Rattle.log_node.specs.declared.ids.Colours.{Colours}
use Rattle.log_node.specs.Sets.{members}
use Rattle.col_core.proofs.CallerLemmas.{In, contains_in, slice_in, choice}
use Rattle.script_text.specs.declared.commands.What.{What}
use Rattle.script_text.specs.declared.commands.What.TheVariants as whats
use Rattle.script_text.specs.declared.script.Command.{Command}
use Rattle.script_text.specs.Fitting.{AreBelow, HasColours, IsWithin, UsesObject, IsFitting}
use Rattle.report_text.specs.declared.report.ColumnReport.{ColumnReport}
use Rattle.report_text.specs.declared.report.ReplyLine.{ReplyLine}
use Rattle.report_text.specs.declared.report.Report.{Report}
use Rattle.lawful_run.specs.Callers.{commands_of}
use Rattle.lawful_run.specs.Columns.{column_numbers}
use Rattle.lawful_run.specs.Lawful.{LawfulRun}
use Rattle.lawful_run.specs.Readings.{HasReply, told, ReturnedAppendsStand, OneCommand, ClosingLinesRise, OneKey, NothingElseStands}
use Rattle.load_script.specs.declared.script.TheConstants.{MAX_LOAD, CLIENTS}
use Rattle.load_script.specs.declared.summary.Summary.{Summary}
use Rattle.load_script.specs.Generated.{home_by_turns, sets, asked_by, choice_of, command_of, round_of, rounds_of, load_script}
use Rattle.load_script.specs.Plain.{IsPlainWhat, IsPlainScript, IsUnwanting}
use Rattle.load_script.specs.Summing.{appended, appends, is_node, length_of, tells_node, load_summary, shown_summary}
use Rattle.load_script.specs.Laws.{EachAppendStands, LoadsComeToTheirSummary}
use Rattle.load_script.proofs.Bounds.{IsLoadSized}
use Rattle.load_script.proofs.Counts.{in_map_back, range_in}
use Rattle.load_script.proofs.Heads.{in_flat_map}
use Rattle.load_script.proofs.Sums.{filter-append, map_same, map_twice, none_pass, index_range}
use Rattle.load_script.proofs.Follows.{tells}
use Rattle.load_script.proofs.Lengths.{get_map, client_follows, line_length, nodes_are, rows_are}
use Rattle.col_core.proofs.CallerLemmas.{all_in as all_of}

below_four : (xs : List ℕ) → list_all (λ c. nat_lt c 4) xs ≡ true → (c : ℕ) → In c xs → c < 4
below_four [] t c i = absurd i
below_four (x ∷ xs) t c (inl e) = let p = and_parts (nat_lt x 4) (list_all (λ c. nat_lt c 4) xs) t in
    subst (λ n. n < 4) e (ltb-true x 4 p.0)
below_four (x ∷ xs) t c (inr i) = below_four xs (and_parts (nat_lt x 4) (list_all (λ c. nat_lt c 4) xs) t).1 c i

-- a set of one of the first four colours or more
abbrev is_fit : Colours → Bool
is_fit set =
    list_all (λ c. nat_lt c 4) (members set) && nat_le 1 (length (members set)) && nat_le set.0 8

-- the sets are such
sets_fit : (set : Colours) → In set sets → HasColours 1 set × AreBelow 4 set
sets_fit set i =
    let low : Bool = list_all (λ c. nat_lt c 4) (members set) in
    let some : Bool = nat_le 1 (length (members set)) in
    let fit = and_parts (low && some) (nat_le set.0 8) (of set i) in
    let first = and_parts low some fit.0 in
    let small = leb-true set.0 8 fit.1 in (
      record { many = leb-true 1 (length (members set)) first.1; bits = omega (arith, small) },
      all_of (λ c. c < 4) (members set) (below_four (members set) first.0),
    ) where
      of : (set : Colours) → In set sets → is_fit set ≡ true
      of set (inl e) = subst (λ s. is_fit s ≡ true) e refl
      of set (inr (inl e)) = subst (λ s. is_fit s ≡ true) e refl
      of set (inr (inr (inl e))) = subst (λ s. is_fit s ≡ true) e refl
      of set (inr (inr (inr (inl e)))) = subst (λ s. is_fit s ≡ true) e refl
      of set (inr (inr (inr (inr (inl e))))) = subst (λ s. is_fit s ≡ true) e refl
      of set (inr (inr (inr (inr (inr (inl e)))))) = subst (λ s. is_fit s ≡ true) e refl
      of set (inr (inr (inr (inr (inr (inr f)))))) = absurd f

-- what is asked is an append, a sync or a pull that names what there is
abbrev Asks : What → Type 0
Asks what = IsPlainWhat what × IsWithin 2 4 what × UsesObject [] what

remains : (n : ℕ) → (n % 4 < 4) × (n % 2 < 2)
remains n = (omega arith, omega arith)

asks : (o : Option Colours) (choice client round : ℕ) → ((set : Colours) → o ≡ Some set → In set sets) → Asks
    (asked_by o choice client round)
asks (Some set) choice' client round among = (tt, sets_fit set (among set refl), tt)
asks None choice' client round among =
    choice Asks (choice' == 6) (whats.Sync (round % 4)) (whats.Pull (home_by_turns (client + 1)) (round % 4))
    (λ _. (tt, (remains round).0, tt)) (λ _. (tt, ((remains (client + 1)).1, (remains round).0), tt))

-- what holds of each command of a load
record IsLoadCommand (command : Command) : Type 0 where
  client : command.client < 8
  asked : Asks command.what

in_rounds : (count rounds : ℕ) (command : Command) → In command (rounds_of count rounds) → IsLoadCommand command
in_rounds count rounds command i =
    let a = in_flat_map (round_of count) (range_with_len 0 rounds) command i in
    let b = in_map_back (command_of count a.0) (range_with_len 0 CLIENTS) command a.2 in
    let r = (range_in 0 CLIENTS b.0 b.1).1 in
    subst IsLoadCommand b.2 (record {
      client = omega (arith, r);
      asked = asks (slice_get sets (choice_of count b.0 a.0)) (choice_of count b.0 a.0) b.0 a.0
          (λ set e. slice_in sets (choice_of count b.0 a.0) set e);
    })

length_rounds : (count a m : ℕ) → length (flat_map (round_of count) (range_with_len a m)) ≡ 8 * m
length_rounds count a zero = refl
length_rounds count a (suc m) =
    let l = length-append (round_of count a) (flat_map (round_of count) (range_with_len (a + 1) m)) in
    let r = length_rounds count (a + 1) m in
    let one = length-map (range_with_len 0 CLIENTS) (command_of count a) in
    omega (arith, l, r, one)

-- a client asks once in a round
past : (count round n a m : ℕ) → n < a
    → length (filter (λ (c : Command). c.client == n) (map (command_of count round) (range_with_len a m))) ≡ 0
past count round n a m lt =
    none_pass (λ (c : Command). c.client == n) (map (command_of count round) (range_with_len a m)) (λ c i.
    let b = in_map_back (command_of count round) (range_with_len a m) c i in
    let l = (range_in a m b.0 b.1).0 in
    false_from_ne_true (c.client == n) (λ t.
    let e = eqb-true c.client n t in
    let f : b.0 ≡ c.client = ap (λ (x : Command). x.client) b.2 in
    let x : ⊥ = omega (arith, e, f, l, lt) in x))

once : (count round n a m : ℕ)
    → length (filter (λ (c : Command). c.client == n) (map (command_of count round) (range_with_len a m))) ≤ 1
once count round n a zero = omega arith
once count round n a (suc m) =
    let rest = map (command_of count round) (range_with_len (a + 1) m) in
    choice (λ (l : List Command). length l ≤ 1) (a == n) (command_of count round a ∷ filter
    (λ (c : Command). c.client == n) rest)
    (filter (λ (c : Command). c.client == n) rest)
    (λ t. let e = eqb-true a n t in let z = past count round n (a + 1) m (omega (arith, e)) in omega (arith, z))
    (λ _. once count round n (a + 1) m)

few_each : (count n a m : ℕ) → length (filter (λ (c : Command). c.client == n)
    (flat_map (round_of count) (range_with_len a m))) ≤ m
few_each count n a zero = omega arith
few_each count n a (suc m) =
    let rest = flat_map (round_of count) (range_with_len (a + 1) m) in
    let split = ap length (filter-append (λ (c : Command). c.client == n) (round_of count a) rest)
    ∙ length-append (filter (λ (c : Command). c.client == n) (round_of count a))
    (filter (λ (c : Command). c.client == n) rest) in
    let one = once count a n 0 CLIENTS in
    let more = few_each count n (a + 1) m in
    omega (arith, split, one, more)

module _ (count : ℕ) (small : count ≤ MAX_LOAD) where
  command_is : (c : Command) → In c (rounds_of count count) → IsLoadCommand c
  command_is c i = in_rounds count count c i

  pub load_fits : IsFitting (load_script count)
  load_fits = record {
    version = refl;
    shape = record {
      a_region = omega arith;
      few_regions = omega arith;
      a_colour = omega arith;
      few_colours = omega arith;
      a_client = omega arith;
      few_clients = omega arith;
      homes = all_of (λ home. home < 2) (map home_by_turns (range_with_len 0 CLIENTS)) (λ home i.
          let b = in_map_back home_by_turns (range_with_len 0 CLIENTS) home i in subst (λ n. n < 2) b.2 (remains b.0).1);
    };
    regions = refl;
    colours = refl;
    clients = refl;
    callers = all_of (λ (c : Command). c.client < 8) (rounds_of count count) (λ c i. (command_is c i).client);
    commands = all_of (λ (c : Command). IsWithin 2 4 c.what) (rounds_of count count) (λ c i. (command_is c i).asked.1);
    objects = All-nil _;
    uses = all_of (λ (c : Command). UsesObject [] c.what) (rounds_of count count) (λ c i. (command_is c i).asked.2);
    few = let l = length_rounds count 0 count in omega (arith, l, small);
  }

  pub load_plain : IsPlainScript (load_script count)
  load_plain = record {
    plain = all_of (λ (c : Command). IsPlainWhat c.what) (rounds_of count count) (λ c i. (command_is c i).asked.0);
    rows = λ client. let f = few_each count client 0 count in omega (arith, f, small);
  }

  load_sized : IsLoadSized (load_script count)
  load_sized = record { regions = omega arith; colours = omega arith; clients = omega arith }

  homes_are : (n : ℕ) → n < 8 → slice_index (map home_by_turns (range_with_len 0 CLIENTS)) n ≡ home_by_turns n
  homes_are n lt = index_range home_by_turns 0 CLIENTS n (omega (arith, lt)) ∙ ap home_by_turns
      (let e : 0 + n ≡ n = omega arith in e)

  module _ (returned : ReturnedAppendsStand) (one_command : OneCommand) (rising : ClosingLinesRise) (one_key : OneKey)
      (nothing_else : NothingElseStands) (report : Report) (run : LawfulRun (load_script count) report)
      (unwanting : IsUnwanting report) where
    each_stands : (client k : ℕ) (command : Command) (reply : ReplyLine)
        → slice_get (commands_of (load_script count) client) k ≡ Some command → HasReply report client k reply
        → tells_node (told reply.answer) ≡ is_node (appended command.what)
    each_stands client k command reply asked there =
        let f = (client_follows (load_script count) report load_fits load_plain load_sized run unwanting homes_are returned
        one_command rising one_key nothing_else
        client there.0 there.1).0 in
        let a = get_map tells there.0.replies k reply there.2 in
        let b = get_map appends (commands_of (load_script count) client) k command asked in
        let e : Some (tells reply) ≡ Some (appends command) = sym a ∙ (ap (λ (l : List Bool). slice_get l k) f ∙ b) in
        cc

    lengths : map (λ (c : ColumnReport). length c.line) report.columns ≡ map (length_of (rounds_of count count))
        (column_numbers 2 4)
    lengths =
        map_same (λ (c : ColumnReport). length c.line) (λ (c : ColumnReport). length_of (rounds_of count count)
        (c.region, c.colour)) report.columns
        (λ c i. line_length (load_script count) report load_fits load_plain load_sized run unwanting homes_are returned
        one_command rising one_key nothing_else
        c (contains_in report.columns c i))
        ∙ (sym (map_twice (length_of (rounds_of count count)) (λ (c : ColumnReport). (c.region, c.colour))
        report.columns)
        ∙ ap (map (length_of (rounds_of count count))) run.columns.all)

    pub comes_to : shown_summary count report ≡ load_summary count
    comes_to =
        let nodes = nodes_are (load_script count) report load_fits load_plain load_sized run unwanting homes_are returned
        one_command rising one_key nothing_else in
        let rows = rows_are (load_script count) report load_fits load_plain load_sized run unwanting homes_are returned
        one_command rising one_key nothing_else in
        let made = λ (l : List ℕ) (n r : ℕ). let s : Summary = record
        { count = count; lengths = l; nodes = n; rows = r } in s in
        ap (λ (l : List ℕ). made l (shown_summary count report).nodes (shown_summary count report).rows) lengths
        ∙ (ap (λ (n : ℕ). made (load_summary count).lengths n (shown_summary count report).rows) nodes
        ∙ ap (λ (r : ℕ). made (load_summary count).lengths (load_summary count).nodes r) rows)

module _ (returned : ReturnedAppendsStand) (one_command : OneCommand) (rising : ClosingLinesRise) (one_key : OneKey)
    (nothing_else : NothingElseStands) where
  pub each_append_stands : EachAppendStands
  each_append_stands count report small run unwanting =
      each_stands count small returned one_command rising one_key nothing_else report run unwanting

  pub loads_come_to_their_summary : LoadsComeToTheirSummary
  loads_come_to_their_summary count report small run unwanting =
      comes_to count small returned one_command rising one_key nothing_else report run unwanting
