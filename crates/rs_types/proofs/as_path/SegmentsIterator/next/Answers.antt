use Rattle.std.proofs.Common.{sym}
use Rattle.rs_types.specs.Segments.{segment_split_of}
use Rattle.rs_types.specs.Shapes.{segments_in}
use Rattle.rs_types.proofs.as_path.PathWalkLemmas.{segments-step, segments-end}
use Rattle.rs_types.proofs.fields.ProgressLemmas.{one_less}
use Rattle.rs_types.proofs.as_path.SegmentsIterator.next.Goals as goal

pub returns-in_err-front-clause-steps : goal.returns-in_err-front-clause-steps
returns-in_err-front-clause-steps c =
    let none = segments-end c.args.self.now.octets.now (sym c.in_err-front.ensures) in
    rw c.from_residual.ensures (none, none)

pub returns : goal.returns
returns c =
    let step = segments-step c.args.self.now.octets.now (segment_split_of c.in_ok-front.front) (sym c.in_ok-front.ensures) in
    record { steps = step; goes = one_less segments_in _ _ _ _ step }
