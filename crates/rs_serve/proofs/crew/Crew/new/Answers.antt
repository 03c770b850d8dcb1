-- There is room for what is known of each thread.
use Rattle.std.proofs.Common.{◌≡◌, ◌∙◌, sym, ap, length, arith}
use Rattle.rs_choice.specs.Plan.{Plan, id_of}
use Rattle.rs_patience.proofs.PlaceLemmas.{same-counted}
use Rattle.rs_serve.proofs.crew.Crew.new.Goals as goal

pub invariant_of-result : goal.invariant_of-result
invariant_of-result g c =
    let counts : length c.in_ok-lines.lines.jobs.items ≡ length c.deref-2.result.now.peers =
    same-counted (λ job. job.id) id_of c.in_ok-lines.lines.jobs.items c.deref-2.result.now.peers c.in_ok-lines.ensures.lines.peers in
    let plans : length c.deref-2.result.now.peers ≡ length c.deref.result.now.peers =
    ap (λ (p : Plan). length p.peers) (c.deref-2.ensures ∙ sym c.deref.ensures) in
    record {
      can_work = c.in_ok-lines.ensures.lines.can;
      can_share = c.in_ok-rings.ensures.rings.can;
      few = omega (arith, counts, plans, c.count.ensures.value, c.count.ensures.bound);
      room_for_workers =
          omega (arith, counts, plans, c.count.ensures.value, c.in_ok-lines.lines.jobs.ok.0, c.in_ok-room.ensures.room_for_handles.0);
      room_for_shards = omega (arith, c.in_ok-rings.ensures.count, c.in_ok-rings.rings.jobs.ok.0, c.in_ok-room.ensures.room_for_handles.1);
      room_for_ends =
          omega (arith, counts, plans, c.count.ensures.value, c.in_ok-lines.lines.jobs.ok.0, c.in_ok-room.ensures.room_for_ends.0);
      room_for_parts = omega (arith, c.in_ok-rings.ensures.count, c.in_ok-rings.rings.jobs.ok.0, c.in_ok-room.ensures.room_for_ends.1);
      no_workers = c.in_ok-room.ensures.no_handles.0;
      no_shards = c.in_ok-room.ensures.no_handles.1;
      no_ends = c.in_ok-room.ensures.no_ends.0;
      no_parts = c.in_ok-room.ensures.no_ends.1;
    }
