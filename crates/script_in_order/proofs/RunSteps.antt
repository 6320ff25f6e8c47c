-- The run from command to command.
use Rattle.std.proofs.Common.{◌≡◌, inl, inr, ℕ, zero, suc, ◌+◌, ◌-◌, ◌<◌, ◌≤◌, Bool, true, cond, List, [], ◌∷◌, ◌++◌}
use Rattle.std.proofs.Common.{length, map, take, drop, get_or, set, refl, ap, sym, subst, ◌∙◌, arith, zero-add}
use Rattle.std.proofs.Common.{length-set, get_or-set_same, get_or-set_other}
use Rattle.std.specs.Prelude.{◌==◌, None}
use Rattle.std.specs.List.{All, range_with_len}
use mathlib.Core.Path.{fun_ext}
use Rattle.std.proofs.lemmas.Bool.Decides.{eqb_tells}
use Rattle.std.proofs.lemmas.List.{take_more, take-append-drop}
use Rattle.std.proofs.lemmas.List.Sums.{sum_by-drop_more}
use Rattle.std.proofs.lemmas.List.FromFn.{length-map-range_with_len, get_or-map-range_with_len}
use Rattle.log_node.specs.declared.node.Shape.{Shape}
use Rattle.world_laws.specs.Worlds.{World, opened}
use Rattle.world_code.specs.WorldView.{WorldView, world_of}
use Rattle.script_text.specs.declared.script.Object.{Object}
use Rattle.script_text.specs.declared.script.Command.{Command}
use Rattle.script_text.specs.declared.script.Script.{Script}
use Rattle.script_text.specs.Fitting.{IsFitting, IsWithin, IsKindWithin, UsesObject}
use Rattle.report_text.specs.declared.report.ReplyLine.{ReplyLine}
use Rattle.script_meaning.specs.States.{State, LastReads, no_reads, StopsAreLast}
use Rattle.script_meaning.specs.Meaning.{LeadTo, nothing, next}
use Rattle.object_form.specs.Laws.{ReadsBack}
use Rattle.script_meaning.proofs.CallerLemmas.{lead_shape, reads_fit, TreesReadBack}
use Rattle.script_in_order.specs.Doing.{IsFit}
use Rattle.script_in_order.specs.Runs.{RepliesView, RunView, no_replies, replies_at, found_at, state_of, asks, IsDone}
use Rattle.script_in_order.specs.Transacting.{AreFit}
use Rattle.script_in_order.specs.Runs.{IsRunAt}

module _ (script : Script) (fits : IsFitting script) (place : ℕ) (code : RunView) (low : place < length script.commands)
    (run : IsRunAt script place code) (command : Command) (is : command ≡ get_or script.commands place command) where
  caller : command.client < length script.shape.homes
  caller = subst (λ (c : Command). c.client < length script.shape.homes) (sym is) (fits.callers place command low)

  shape : (world_of code.world).shape ≡ script.shape
  shape = lead_shape script run.leads

  pub next_fits : IsFit (world_of code.world) script.objects command.client command.what
  next_fits = record {
    caller = subst (λ (s : Shape). command.client < length s.homes) (sym shape) caller;
    within = subst (λ (s : Shape). IsWithin s.regions s.colours command.what) (sym shape)
        (subst (λ (c : Command). IsWithin script.shape.regions script.shape.colours c.what) (sym is)
        (fits.commands place command low));
    kinds = subst (λ (s : Shape). All (λ (o : Object). IsKindWithin s.regions s.colours o.kind) script.objects)
        (sym shape) fits.objects;
    uses = subst (λ (c : Command). UsesObject script.objects c.what) (sym is) (fits.uses place command low);
  }

  pub next_client : command.client < length code.replies
  next_client = subst (λ (n : ℕ). command.client < n) (sym run.clients) caller

  more_asked : (m : ℕ) → asks m (drop place script.commands)
      ≡ cond (command.client == m) 1 0 + asks m (drop (place + 1) script.commands)
  more_asked m =
      sum_by-drop_more (λ (c : Command). cond (c.client == m) 1 0) script.commands place command low
      ∙ ap (λ (c : Command). cond (c.client == m) 1 0 + asks m (drop (place + 1) script.commands)) (sym is)

  is_own : (command.client == command.client) ≡ true
  is_own = elim (eqb_tells command.client command.client) [ inl t ↦ t.0 | inr t ↦ absurd (t.1 refl) ]

  own_asked : asks command.client (drop place script.commands)
      ≡ 1 + asks command.client (drop (place + 1) script.commands)
  own_asked =
      more_asked command.client
      ∙ ap (λ (b : Bool). cond b 1 0 + asks command.client (drop (place + 1) script.commands)) is_own

  pub next_room : 0 < (replies_at code.replies command.client).room
  next_room = let e = own_asked in let r = run.rooms command.client caller in omega (arith, e, r)

  pub next_reads : length (replies_at code.replies command.client).reads ≡ length script.objects
  next_reads = run.reads command.client caller

  pub next_rests : ReadsBack → TreesReadBack → StopsAreLast script → AreFit (found_at (replies_at code.replies command.client).reads)
  next_rests back tree last = reads_fit back tree script fits last run.leads (drop place script.commands)
      (sym (take-append-drop place script.commands)) command.client

  -- the run after the command
  pub next_run : (new : RunView) → IsDone script.objects command code new → IsRunAt script (place + 1) new
  next_run new d = record {
    leads = subst (λ (l : List Command). LeadTo script l (state_of new)) (sym more)
        (subst (LeadTo script (take place script.commands ++ command ∷ [])) (sym d.state)
        (next command d.grants run.leads));
    clients = ap length d.replies ∙ (length-set code.replies command.client replied ∙ run.clients);
    rooms = λ client h. subst (λ (l : List RepliesView). asks client (drop (place + 1) script.commands)
        ≤ (replies_at l client).room) (sym d.replies) (room client h);
    reads = λ client h. ap (λ (l : List RepliesView). length (replies_at l client).reads) d.replies ∙ reads client h;
  } where
    replied : RepliesView
    replied = d.replied

    more : take (place + 1) script.commands ≡ take place script.commands ++ command ∷ []
    more = take_more script.commands place command low
        ∙ ap (λ (c : Command). take place script.commands ++ c ∷ []) (sym is)

    fewer : (a b r r' : ℕ) → a ≡ 1 + b → a ≤ r → r' ≡ r - 1 → b ≤ r'
    fewer a b r r' e l f = omega (arith, e, l, f)

    same_as : (a b r r' : ℕ) → a ≡ 0 + b → a ≤ r → r' ≡ r → b ≤ r'
    same_as a b r r' e l f = omega (arith, e, l, f)

    own : replies_at (set code.replies command.client replied) command.client ≡ replied
    own = get_or-set_same code.replies command.client replied (no_replies 0 0) next_client

    other : (client : ℕ) → (command.client ≡ client → ⊥)
        → replies_at (set code.replies command.client replied) client ≡ replies_at code.replies client
    other client ne = get_or-set_other code.replies command.client client replied (no_replies 0 0) (λ f. ne (sym f))

    reads : (client : ℕ) → client < length script.shape.homes
        → length (replies_at (set code.replies command.client replied) client).reads ≡ length script.objects
    reads client h = elim (eqb_tells command.client client) [
      | inl t ↦ subst (λ (k : ℕ). length (replies_at (set code.replies command.client replied) k).reads
          ≡ length script.objects) t.1
          (ap (λ (c : RepliesView). length c.reads) own ∙ (d.reads ∙ next_reads))
      | inr t ↦ ap (λ (c : RepliesView). length c.reads) (other client t.1) ∙ run.reads client h
    ]

    room : (client : ℕ) → client < length script.shape.homes → asks client (drop (place + 1) script.commands)
        ≤ (replies_at (set code.replies command.client replied) client).room
    room client h = elim (eqb_tells command.client client) [
      | inl t ↦ subst (λ (k : ℕ). asks k (drop (place + 1) script.commands)
          ≤ (replies_at (set code.replies command.client replied) k).room) t.1
          (fewer (asks command.client (drop place script.commands))
          (asks command.client (drop (place + 1) script.commands))
          (replies_at code.replies command.client).room (replies_at (set code.replies command.client replied)
          command.client).room
          own_asked (run.rooms command.client caller) (ap (λ (c : RepliesView). c.room) own ∙ d.room))
      | inr t ↦ same_as (asks client (drop place script.commands)) (asks client (drop (place + 1) script.commands))
          (replies_at code.replies client).room (replies_at (set code.replies command.client replied) client).room
          (more_asked client ∙ ap (λ (b : Bool). cond b 1 0 + asks client (drop (place + 1) script.commands)) t.0)
          (run.rooms client h)
          (ap (λ (c : RepliesView). c.room) (other client t.1))
    ]

-- before the first command
abbrev first_replies : Script → ℕ → RepliesView
first_replies script client = no_replies (asks client script.commands) (length script.objects)

pub opens : (script : Script) (world : WorldView) (replies : List RepliesView) → world_of world ≡ opened script.shape
    → replies ≡ map (first_replies script) (range_with_len 0 (length script.shape.homes))
    → IsRunAt script 0 (record { world = world; replies = replies })
opens script world replies w r = record {
  leads = subst (LeadTo script []) (sym state) nothing;
  clients = ap length r ∙ length-map-range_with_len (first_replies script) 0 (length script.shape.homes);
  rooms = λ client h. subst (λ (x : RepliesView). asks client script.commands ≤ x.room) (sym (there client h))
      (at_most (asks client script.commands));
  reads = λ client h. ap (λ (x : RepliesView). length x.reads) (there client h)
      ∙ length-map-range_with_len (λ _. None) 0 (length script.objects);
} where
  at_most : (k : ℕ) → k ≤ k
  at_most k = omega arith

  there : (client : ℕ) → client < length script.shape.homes → replies_at replies client ≡ first_replies script client
  there client h =
      ap (λ (l : List RepliesView). replies_at l client) r
      ∙ get_or-map-range_with_len (first_replies script) 0 (length script.shape.homes) client client (no_replies 0 0) h
      (zero-add client)

  none_in : (n from o : ℕ) → found_at (map (λ _. None) (range_with_len from n)) o ≡ None
  none_in zero from o = refl
  none_in (suc n) from zero = refl
  none_in (suc n) from (suc o) = none_in n (from + 1) o

  nothing_told : (n from k : ℕ) → let x = replies_at (map (first_replies script) (range_with_len from n)) k in
      (x.lines ≡ []) × (found_at x.reads ≡ no_reads)
  nothing_told zero from k = (refl, fun_ext (λ o. refl))
  nothing_told (suc n) from zero = (refl, fun_ext (none_in (length script.objects) 0))
  nothing_told (suc n) from (suc k) = nothing_told n (from + 1) k

  none : (client : ℕ) → ((replies_at replies client).lines ≡ []) × (found_at (replies_at replies client).reads ≡ no_reads)
  none client = subst (λ (l : List RepliesView). ((replies_at l client).lines ≡ [])
      × (found_at (replies_at l client).reads ≡ no_reads)) (sym r)
      (nothing_told (length script.shape.homes) 0 client)

  state : state_of (record { world = world; replies = replies })
      ≡ (record { world = opened script.shape; replies = λ _. []; reads = λ _. no_reads })
  state =
      ap (λ (x : World). let s : State = record {
        world = x;
        replies = λ n. (replies_at replies n).lines;
        reads = λ n. found_at (replies_at replies n).reads;
      } in s) w
      ∙ (ap (λ (f : ℕ → List ReplyLine). let s : State = record {
        world = opened script.shape;
        replies = f;
        reads = λ n. found_at (replies_at replies n).reads;
      } in s) (fun_ext (λ n. (none n).0))
      ∙ ap (λ (f : ℕ → LastReads). let s : State = record {
        world = opened script.shape;
        replies = λ _. [];
        reads = f;
      } in s) (fun_ext (λ n. (none n).1)))
