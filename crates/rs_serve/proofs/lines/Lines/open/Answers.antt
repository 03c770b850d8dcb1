-- One line more.
use Rattle.std.proofs.Common.{refl, rules}
use Rattle.rs_serve.proofs.lines.Lines.open.Goals as goal

pub returns : goal.returns
returns g c = record {
  job = record { source = c.args.source; id = c.peer_id.result; out = c.in-Ok.out };
  receiver = c.in-Ok.receiver;
  jobs_are = c.in_ok-push.ensures.items;
  receivers_are = c.in_ok-push-2.ensures.items;
  line = record {
    source_is = refl;
    id = c.peer_id.ensures;
    ring = search rules;
    unsent = search rules;
    unreceived = search rules;
  };
  capacity_is = search rules;
}
