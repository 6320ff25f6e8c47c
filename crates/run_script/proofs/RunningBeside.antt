-- Clients who are ready to be served, before they are served and after.
use Rattle.std.proofs.Common.{◌≡◌, ℕ, Bool, List, [], ◌∷◌, ◌++◌, length, map, take, drop, Some, slice_get, Ok, Err, Global, Vec, refl, ap, sym, subst, ◌∙◌, arith}
use Rattle.std.specs.Prelude.{IfOk, IsTrue, Result, ◌==◌, ◌≤◌, slice_index_or}
use Rattle.std.specs.List.{All, list_all}
use Rattle.std.proofs.lemmas.List.{length-map}
use Rattle.std.proofs.lemmas.List.Elements.{All-filter}
use Rattle.std.proofs.lemmas.List.Sums.{AllPass-from_list_all, count_by-le-length, length-filter}
use Rattle.std.proofs.lemmas.Option.{get_or_from_slice_get, slice_get_within}
use Rattle.log_node.specs.declared.limits.TheConstants.{MAX_COLOURS}
use Rattle.stamp_board.specs.declared.view.Size.{Size}
use Rattle.chain_store.specs.Opening.{size_of}
use Rattle.chain_store.proofs.CallerLemmas.{got}
use Rattle.script_text.specs.declared.script.Command.{Command}
use Rattle.script_text.specs.declared.script.Script.{Script}
use Rattle.script_text.specs.Fitting.{IsKindWithin, IsWithin}
use Rattle.script_text.proofs.CallerLemmas.{colours_few}
use Rattle.script_beside.specs.declared.dealt.DealtScript.{DealtScript}
use Rattle.script_beside.specs.Dealt.{share_commands}
use Rattle.report_text.specs.declared.report.Report.{Report}
use Rattle.report_text.specs.declared.report.ReplyLine.{ReplyLine}
use Rattle.lawful_run.specs.Callers.{commands_of}
use Rattle.lawful_run.specs.Lawful.{LawfulRun}
use Rattle.log_client.specs.declared.client.Client.{Client}
use Rattle.log_client.specs.declared.store.Store.{Store}
use Rattle.log_client.specs.Clients.{tracks_of}
use Rattle.log_client.specs.Closes.{AreClients}
use Rattle.log_client.specs.Opening.{AreNewClients}
use Rattle.run_script.specs.declared.serving.served.Served.{Served}
use Rattle.run_script.specs.Dealing.{AreFewCommands, AreIdle, IsIdle}
use Rattle.run_script.specs.Opened.{AreOpenable}
use Rattle.run_script.specs.Running.{CanRun}
use Rattle.run_script.specs.Served.{CanServe, IsServable, IsServed, IsServedIfDone}
use Rattle.run_script.specs.Serving.{AreServed, StopsLast, WasServed}
use Rattle.run_script.proofs.ByPlace.{mapped}
use Rattle.run_script.proofs.ObjectFrames.{kept_unopened, of_unopened}
use Rattle.run_script.proofs.ServedClients.{serves_none, stops_last_of}

-- a script of which these are the commands, and the rest is what was dealt
abbrev pub script_of : DealtScript → List Command → Script
script_of dealt commands = record dealt.header { commands = commands }

pub whole : (script : Script) (dealt : DealtScript) → CanRun script dealt → CanRun (script_of dealt script.commands) dealt
whole script dealt can = subst (λ (s : Script). CanRun s dealt) can.is.header can

-- each client has its share
pub many_shares : (script : Script) (dealt : DealtScript) (s : Store) (clients : List Client) → CanRun script dealt
    → AreNewClients script.shape s clients → length dealt.shares.items ≡ length clients
many_shares script dealt s clients can new = can.is.many ∙ (can.fits.clients ∙ sym new.0)

module _ (script : Script) (dealt : DealtScript) (can : CanRun script dealt) (s : Store)
    (size : s.size ≡ size_of script.shape) (regions : length s.regions ≡ script.shape.regions) (clients : List Client)
    (new : AreNewClients script.shape s clients) (before : List Served)
    (idle : AreIdle script.objects clients dealt.shares.items before) where
  idle_at : (n : ℕ) (x : Served) → slice_get before n ≡ Some x → IsIdle script.objects x
  idle_at n x at =
      subst (IsIdle script.objects) (get_or_from_slice_get before n x x at)
      (idle.idle n x (slice_get_within before n x at))

  client_at : (n : ℕ) (x : Served) → slice_get before n ≡ Some x → slice_get clients n ≡ Some x.client
  client_at n x at =
      subst (λ (cs : List Client). slice_get cs n ≡ Some x.client) idle.clients_are
      (mapped (λ (y : Served). y.client) before n x at)

  commands_at : (n : ℕ) (x : Served) → slice_get before n ≡ Some x → share_commands x.commands.items ≡ commands_of script n
  commands_at n x at =
      can.is.each n x.commands
      (subst (λ (shares : List (Vec (Vec Command Global) Global)). slice_get shares n ≡ Some x.commands) idle.shares_are
      (mapped (λ (y : Served). y.commands) before n x at))

  -- no client has more commands than the script
  few_at : (n : ℕ) (x : Served) → slice_get before n ≡ Some x → AreFewCommands x.commands.items
  few_at n x at =
      let own : Command → Bool = λ c. c.client == n in
      let is = ap (λ (l : List Command). length l) (commands_at n x at) in
      let kept = length-filter own script.commands in
      let less = count_by-le-length own script.commands in
      let few = can.fits.few in
      omega (arith, is, kept, less, few)

  servable : All (IsServable s script.objects) script.commands
  servable k d lt = record {
    within = subst (λ (r : ℕ). IsWithin r s.size.colours (slice_index_or script.commands k d).what) (sym regions)
        (subst (λ (z : Size). IsWithin script.shape.regions z.colours (slice_index_or script.commands k d).what) (sym size)
        (can.fits.commands k d lt));
    uses = can.fits.uses k d lt;
  }

  few : script.shape.colours ≤ MAX_COLOURS
  few = colours_few script.version script.shape can.fits.shape

  openable : AreOpenable s script.objects
  openable k d lt = (
    subst (λ (z : Size). z.colours ≤ MAX_COLOURS) (sym size) few,
    subst (λ (r : ℕ). IsKindWithin r s.size.colours (slice_index_or script.objects k d).kind) (sym regions)
        (subst (λ (z : Size). IsKindWithin script.shape.regions z.colours (slice_index_or script.objects k d).kind) (sym size)
        (can.fits.objects k d lt)),
  )

  pub can_serve : (n : ℕ) (x : Served) → slice_get before n ≡ Some x → CanServe s script.objects x
  can_serve n x at =
      let i = idle_at n x at in
      let c = new.1 n x.client (client_at n x at) in
      let colours : length (tracks_of x.client) ≡ script.shape.colours = c.rests.colours ∙ ap (λ (z : Size). z.colours) size in
      record {
        serves = serves_none script.shape s script.objects n x.client x.objects.items c i.unopened;
        finished = c.finished;
        openable = openable;
        of = of_unopened script.objects x.objects.items i.unopened;
        kept = kept_unopened x.client script.objects x.objects.items i.unopened;
        servable = subst (All (IsServable s script.objects)) (sym (commands_at n x at))
            (All-filter (λ (k : Command). k.client == n) (IsServable s script.objects) script.commands servable);
        stops = subst StopsLast (sym (commands_at n x at)) (stops_last_of script can.stops n);
        replies = i.replies;
        few_commands = few_at n x at;
        few = subst (λ (k : ℕ). k ≤ MAX_COLOURS) (sym colours) few;
      }

  many_before : length before ≡ length script.shape.homes
  many_before = sym (length-map before (λ (x : Served). x.client)) ∙ (ap length idle.clients_are ∙ new.0)

  module _ (after : List Served) (long : length after ≡ length before)
      (served : (n : ℕ) (x y : Served) → slice_get before n ≡ Some x → slice_get after n ≡ Some y
      → IsServed s script.objects x y) where
    abbrev pub clients_after : List Client
    clients_after = map (λ (x : Served). x.client) after

    abbrev pub replies_after : List (List ReplyLine)
    replies_after = map (λ (x : Served). x.replies.items) after

    pub are_served : AreServed script s clients_after replies_after
    are_served = record {
      size = size;
      regions = regions;
      many = length-map after (λ (x : Served). x.client) ∙ (long ∙ many_before);
      replied = length-map after (λ (x : Served). x.replies.items) ∙ (long ∙ many_before);
      each = λ n c at.
          let lt = slice_get_within clients_after n c at in
          let all = length-map after (λ (x : Served). x.client) in
          let y = got after n (omega (arith, lt, all)) in
          let x = got before n (omega (arith, lt, all, long)) in
          let is : y.0.client ≡ c = same_there (y.0.client) c
          (sym (mapped (λ (z : Served). z.client) after n y.0 y.1) ∙ at) in
          let v = served n x.0 y.0 x.1 y.1 in
          let k = new.1 n x.0.client (client_at n x.0 x.1) in
          let replied : slice_index_or replies_after n [] ≡ y.0.replies.items =
          get_or_from_slice_get replies_after n y.0.replies.items []
          (mapped (λ (z : Served). z.replies.items) after n y.0 y.1) in
          subst (λ (z : Client). (z.number ≡ n) × (slice_get script.shape.homes n ≡ Some z.region)
          × WasServed s script.objects z (commands_of script n) (slice_index_or replies_after n [])) is (
            v.same.0 ∙ k.number,
            (k.home ∙ ap Some (sym v.same.1)),
            subst (λ (rs : List ReplyLine). WasServed s script.objects y.0.client (commands_of script n) rs) (sym replied)
                (subst (λ (cs : List Command). WasServed s script.objects y.0.client cs y.0.replies.items)
                (commands_at n x.0 x.1) v.served),
          );
    } where
      same_there : (a b : Client) → Some a ≡ Some b → a ≡ b
      same_there a b e = cc

-- where all are done, each is
done_at : (xs : List Served) → IsTrue (list_all (λ (x : Served). x.done) xs) → (n : ℕ) (x : Served)
    → slice_get xs n ≡ Some x → IsTrue x.done
done_at xs all n x at =
    let done : Served → Bool = λ (y : Served). y.done in
    subst (λ (y : Served). IsTrue y.done) (get_or_from_slice_get xs n x x at)
    (AllPass-from_list_all done xs all n x (slice_get_within xs n x at))

-- The same as the run has it: of the slice of clients that was served, and of the clients and replies that were taken out, where
-- all are done.
pub were_served : (script : Script) (dealt : DealtScript) → CanRun script dealt → (s : Store)
    → s.size ≡ size_of script.shape → length s.regions ≡ script.shape.regions → (opened : List Client)
    → AreNewClients script.shape s opened → (before lent after : List Served) → lent ≡ before
    → AreIdle script.objects opened dealt.shares.items before → length after ≡ length lent
    → ((n : ℕ) (x y : Served) → slice_get lent n ≡ Some x → slice_get after n ≡ Some y → IsServedIfDone s script.objects x y)
    → (n : ℕ) → n ≡ length before → (clients : List Client) (replies : List (List ReplyLine))
    → clients ≡ map (λ (x : Served). x.client) (take n (after ++ drop (length after) before))
    → replies ≡ map (λ (x : Served). x.replies.items) (take n (after ++ drop (length after) before))
    → IsTrue (list_all (λ (x : Served). x.done) (take n (after ++ drop (length after) before)))
    → AreServed script s clients replies
were_served script dealt can s size regions opened new before lent after same idle long served n many clients replies are given done =
    let whole : take n (after ++ drop (length after) before) ≡ after =
    front_of n after (drop (length after) before) (long ∙ (ap length same ∙ sym many)) in
    let each = done_at after (subst (λ (l : List Served). IsTrue (list_all (λ (x : Served). x.done) l)) whole done) in
    let all = are_served script dealt can s size regions opened new before idle after (long ∙ ap length same)
    (λ n x y at later. served n x y (subst (λ (l : List Served). slice_get l n ≡ Some x) (sym same) at) later (each n y later)) in
    subst (λ (cs : List Client). AreServed script s cs replies) (sym (are ∙ ap (map (λ (x : Served). x.client)) whole))
    (subst (λ (rs : List (List ReplyLine)). AreServed script s (map (λ (x : Served). x.client) after) rs)
    (sym (given ∙ ap (map (λ (x : Served). x.replies.items)) whole)) all) where
      front_of : (k : ℕ) (xs ys : List Served) → length xs ≡ k → take k (xs ++ ys) ≡ xs
      front_of k xs ys is = subst (λ (j : ℕ). take j (xs ++ ys) ≡ xs) is (front xs ys) where
        front : (xs ys : List Served) → take (length xs) (xs ++ ys) ≡ xs
        front [] ys = refl
        front (x ∷ xs) ys = ap (λ (l : List Served). x ∷ l) (front xs ys)

-- clients who were served are all clients of the store
pub are_clients : (script : Script) (s : Store) (clients : List Client) (replies : List (List ReplyLine))
    → AreServed script s clients replies → AreClients s clients
are_clients script s clients replies served = (
  served.many ∙ ap (λ (z : Size). z.clients) (sym served.size),
  λ n c at. ((served.each n c at).2.rests, (served.each n c at).0),
)

-- a report that is that of each script which was dealt so, and lawful where it is, is lawful
pub lawful_if : {E : Type 0} (dealt : DealtScript) (report : Report) (result : Result Report E) → IfOk result (λ r. r ≡ report)
    → ((commands : List Command) → CanRun (script_of dealt commands) dealt → LawfulRun (script_of dealt commands) report)
    → IfOk result (λ r. (script : Script) → CanRun script dealt → LawfulRun script r)
lawful_if dealt report (Ok r) is lawful = λ script can.
    subst (LawfulRun script) (sym is)
    (subst (λ (s : Script). LawfulRun s report) (sym can.is.header) (lawful script.commands (whole script dealt can)))
lawful_if dealt report (Err e) is lawful = tt
