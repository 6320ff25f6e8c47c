use Rattle.std.proofs.Common.{◌≡◌, length}
use Rattle.std.specs.Prelude.{vec_capacity}
use Rattle.log_client.specs.Calls.{IsSame}
use Rattle.log_client.specs.Clients.{Finished}
use Rattle.run_script.specs.Opened.{AreKept, AreOf}
use Rattle.run_script.specs.Serving.{Serves}
use Rattle.run_script.proofs.serving.served.serve_in_room.Given as goal

-- the client was served the commands so far
abbrev pub invariant-loop-command : goal.invariant-loop-command
invariant-loop-command g l = record {
  of : AreOf l.objects l.served.objects.items;
  kept : Finished l.served.client → AreKept l.served.client l.served.objects.items;
  serves : Serves l.store l.objects l.served.client l.served.objects.items l.yielded l.served.replies.items;
  same : IsSame l.initial.served.client l.served.client;
  count : length l.served.replies.items ≡ length l.yielded;
  room : vec_capacity l.served.replies ≡ vec_capacity l.initial.served.replies;
}
