use Rattle.std.proofs.Common.{sym, ap, arith}
use Rattle.rs_types.specs.AsPath.{path_length_of}
use Rattle.rs_types.specs.Segments.{segment_split_of}
use Rattle.rs_types.proofs.as_path.PathWalkLemmas.{segments-end, hops-step}
use Rattle.rs_types.proofs.fields.SegmentLemmas.{segment_at-takes}
use Rattle.rs_types.proofs.as_path.path_length.Goals as goal

pub hops-hops-requires : goal.hops-hops-requires
hops-hops-requires c =
    let step = hops-step c.loop-front.rest.now (segment_split_of c.in-Some.front) (sym c.in-Some.ensures) in
    omega (arith, step, c.loop-front.invariant, c.requires)

pub overflow_add-hops : goal.overflow_add-hops
overflow_add-hops c =
    let step = hops-step c.loop-front.rest.now (segment_split_of c.in-Some.front) (sym c.in-Some.ensures) in
    omega (arith, step, c.loop-front.invariant, c.requires, c.hops-hops.ensures)

pub loop-front-smaller : goal.loop-front-smaller
loop-front-smaller c = segment_at-takes c.loop-front.rest.now (segment_split_of c.in-Some.front) (sym c.in-Some.ensures)

pub loop-front-preserved : goal.loop-front-preserved
loop-front-preserved c =
    let step = hops-step c.loop-front.rest.now (segment_split_of c.in-Some.front) (sym c.in-Some.ensures) in
    omega (arith, step, c.loop-front.invariant, c.hops-hops.ensures)

pub returns-clause-value : goal.returns-clause-value
returns-clause-value c =
    let none = ap path_length_of (segments-end c.loop-front.rest.now (sym c.in_default.ensures)) in
    omega (arith, none, c.loop-front.invariant)
