use Rattle.std.proofs.Common.{◌≡◌, ◌∙◌, ℕ, subst, sym, List, Some, Global, Vec}
use Rattle.std.specs.Prelude.{slice_get}
use Rattle.script_text.specs.declared.script.Command.{Command}
use Rattle.script_text.specs.declared.script.Object.{Object}
use Rattle.log_client.specs.declared.client.Client.{Client}
use Rattle.log_client.specs.declared.store.Store.{Store}
use Rattle.run_script.specs.declared.serving.served.Served.{Served}
use Rattle.run_script.specs.Dealing.{AreIdle}
use Rattle.run_script.specs.Served.{CanServe, IsServedIfDone}
use Rattle.script_text.proofs.CallerLemmas.{clients_few, colours_few, rows_few}
use Rattle.run_script.proofs.StoreSizes.{words_few}
use Rattle.run_script.proofs.ClosingRuns.{can_be_shown, runs_end_lawfully}
use Rattle.run_script.proofs.RunningBeside.{are_clients, can_serve, lawful_if, many_shares, script_of, were_served, whole}
use Rattle.run_script.proofs.serving.running.run_in_store.Goals as goal

-- the objects that are lent are the script's own
objects_are : {given objects : List Object} {clients : List Client} {shares : List (Vec (Vec Command Global) Global)}
    {served : List Served} → given ≡ objects → AreIdle given clients shares served → AreIdle objects clients shares served
objects_are {given} {objects} {clients} {shares} {served} same idle =
    subst (λ (l : List Object). AreIdle l clients shares served) same idle

served_are : {given objects : List Object} (s : Store) (lent after : List Served) → given ≡ objects
    → ((n : ℕ) (x y : Served) → slice_get lent n ≡ Some x → slice_get after n ≡ Some y → IsServedIfDone s given x y)
    → (n : ℕ) (x y : Served) → slice_get lent n ≡ Some x → slice_get after n ≡ Some y → IsServedIfDone s objects x y
served_are s lent after same served n x y at then =
    subst (λ (l : List Object). IsServedIfDone s l x y) same (served n x y at then)

pub open-requires-clause-size : goal.open-requires-clause-size
open-requires-clause-size g c =
    let can = whole c.requires.0 c.args.dealt c.requires.1 in
    let f = can.fits.shape in
    let header = c.args.dealt.header in record {
      some_clients = f.a_client;
      few_clients = clients_few header.version header.shape f;
      some_colours = f.a_colour;
      few_colours = colours_few header.version header.shape f;
      some_rows = can.some_rows;
      few_rows = rows_few header.version header.shape.rows can.rows;
      few_words = words_few header.version header.shape f can.rows;
    }

pub make_ready-requires : goal.make_ready-requires
make_ready-requires g c =
    many_shares (script_of c.args.dealt c.requires.0.commands) c.args.dealt c.in_ok-store.store c.in_ok-store.clients
    (whole c.requires.0 c.args.dealt c.requires.1) c.in_ok-store.ensures.clients

pub serve_beside-requires-after_bounds : goal.serve_beside-requires-after_bounds
serve_beside-requires-after_bounds g c κs within = λ n x at.
    let e = c.in_ok-store.ensures in
    subst (λ (l : List Object). CanServe c.in_ok-store.store l x) (sym c.as_slice-objects.ensures)
    (can_serve (script_of c.args.dealt c.requires.0.commands) c.args.dealt (whole c.requires.0 c.args.dealt c.requires.1)
    c.in_ok-store.store e.size e.regions c.in_ok-store.clients e.clients c.in_ok-served.served.items
    (objects_are c.as_slice-objects.ensures c.in_ok-served.ensures) n x
    (subst (λ (l : List Served). slice_get l n ≡ Some x) c.as_mut_slice.ensures.value at))

pub close-requires : goal.close-requires
close-requires g c =
    let e = c.in_ok-store.ensures in
    let script = script_of c.args.dealt c.requires.0.commands in
    let served = were_served script c.args.dealt (whole c.requires.0 c.args.dealt c.requires.1) c.in_ok-store.store e.size
    e.regions c.in_ok-store.clients e.clients c.in_ok-served.served.items c.as_mut_slice.result.now c.serve_beside.new.served
    c.as_mut_slice.ensures.value (objects_are c.as_slice-objects.ensures c.in_ok-served.ensures) c.serve_beside.ensures.len
    (served_are c.in_ok-store.store c.as_mut_slice.result.now c.serve_beside.new.served c.as_slice-objects.ensures
    c.serve_beside.ensures.served) c.in_ok-served.served.len c.in_ok-served.served.ok.0 c.into.result
    c.in_ok-clients.replies.items (c.into.ensures ∙ c.in_ok-clients.ensures.clients) c.in_ok-clients.ensures.replies
    c.in_ok-clients.ensures.done in
    are_clients script c.in_ok-store.store c.into.result c.in_ok-clients.replies.items served

pub end_report-requires-clause-regions : goal.end_report-requires-clause-regions
end_report-requires-clause-regions g c κs within =
    let e = c.in_ok-store.ensures in
    let script = script_of c.args.dealt c.requires.0.commands in
    let can = whole c.requires.0 c.args.dealt c.requires.1 in
    let served = were_served script c.args.dealt can c.in_ok-store.store e.size
    e.regions c.in_ok-store.clients e.clients c.in_ok-served.served.items c.as_mut_slice.result.now c.serve_beside.new.served
    c.as_mut_slice.ensures.value (objects_are c.as_slice-objects.ensures c.in_ok-served.ensures) c.serve_beside.ensures.len
    (served_are c.in_ok-store.store c.as_mut_slice.result.now c.serve_beside.new.served c.as_slice-objects.ensures
    c.serve_beside.ensures.served) c.in_ok-served.served.len c.in_ok-served.served.ok.0 c.into.result
    c.in_ok-clients.replies.items (c.into.ensures ∙ c.in_ok-clients.ensures.clients) c.in_ok-clients.ensures.replies
    c.in_ok-clients.ensures.done in
    can_be_shown script can.fits c.in_ok-store.store c.into.result c.in_ok-clients.replies.items served
    c.in_ok-closed.closed c.in_ok-closed.ensures

pub returns : goal.returns
returns g c =
    let e = c.in_ok-store.ensures in
    lawful_if c.args.dealt _ c.end_report.result c.end_report.ensures (λ commands can.
    runs_end_lawfully (script_of c.args.dealt commands) can.fits c.in_ok-store.store c.into.result
    c.in_ok-clients.replies.items
    (were_served (script_of c.args.dealt commands) c.args.dealt can c.in_ok-store.store e.size
    e.regions c.in_ok-store.clients e.clients c.in_ok-served.served.items c.as_mut_slice.result.now c.serve_beside.new.served
    c.as_mut_slice.ensures.value (objects_are c.as_slice-objects.ensures c.in_ok-served.ensures) c.serve_beside.ensures.len
    (served_are c.in_ok-store.store c.as_mut_slice.result.now c.serve_beside.new.served c.as_slice-objects.ensures
    c.serve_beside.ensures.served) c.in_ok-served.served.len c.in_ok-served.served.ok.0 c.into.result
    c.in_ok-clients.replies.items (c.into.ensures ∙ c.in_ok-clients.ensures.clients) c.in_ok-clients.ensures.replies
    c.in_ok-clients.ensures.done)
    c.in_ok-closed.closed c.in_ok-closed.ensures)
