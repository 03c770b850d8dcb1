-- Before the first turn.
use Rattle.std.proofs.Common.{arith, refl}
use Rattle.rs_mrt.specs.Record.{records_of, end_of}
use Rattle.rs_mrt.specs.Source.{source_end}
use Rattle.rs_session.specs.FileChanges.{changes_in, passed_in, default_standard}
use Rattle.rs_floor.proofs.lane.LaneLemmas.{none-before}
use Rattle.rs_floor.proofs.lane.LaneStates.{fresh-is_lane, fresh-view}
use Rattle.rs_floor.proofs.lane.SessionLemmas.{to_come-says}
use Rattle.rs_floor.proofs.lane.Lane.new.Goals as goal

pub invariant_of-result : goal.invariant_of-result
invariant_of-result c =
    let recorded = changes_in c.args.peer c.args.file.now in
    let coming = to_come-says c.new.result recorded (passed_in c.args.peer c.args.file.now) c.new.ensures.says in
    let bound = c.a_file_says_no_more_changes_than_octets.ensures default_standard c.args.peer c.args.file.now in
    fresh-is_lane (record {
      session = c.new.result;
      sender = c.in-Ok.sender;
      receiver = c.in-Ok.receiver;
      capacity = c.args.capacity;
      received = 0;
    }) recorded
    c.in-Ok.ensures.pair c.in-Ok.ensures.sender.2 c.in-Ok.ensures.sender.0 c.in-Ok.ensures.receiver.0 refl coming
    (none-before (source_end (end_of c.args.file.now)) recorded
    (c.a_session_closes_once.ensures default_standard c.args.peer (records_of c.args.file.now) (source_end (end_of c.args.file.now))))
    (omega (arith, bound, c.requires.file))

pub returns : goal.returns
returns c =
    let recorded = changes_in c.args.peer c.args.file.now in
    let coming = to_come-says c.new.result recorded (passed_in c.args.peer c.args.file.now) c.new.ensures.says in
    fresh-view (record {
      session = c.new.result;
      sender = c.in-Ok.sender;
      receiver = c.in-Ok.receiver;
      capacity = c.args.capacity;
      received = 0;
    })
    c.args.capacity c.args.peer c.args.file.now refl c.in-Ok.ensures.sender.0 c.in-Ok.ensures.receiver.0 coming
