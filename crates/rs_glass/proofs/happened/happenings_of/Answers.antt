-- What the records that came say is listed; in the end all that the file says is, or a read failed.
use Rattle.std.proofs.lemmas.Result.{err_from_is_err_and}
use Rattle.rs_glass.proofs.ListingLemmas.{listed-fault, listed-nothing, listed-record, listed-whole}
use Rattle.rs_glass.proofs.happened.happenings_of.Goals as goal

pub loop-listing-init : goal.loop-listing-init
loop-listing-init g c =
    listed-nothing g.S.Source.comes c.args.question.now c.args.recording.id c.args.recording.source c.args.recording.peer
    c.of_nothing-listing.result c.of_nothing-listing.ensures

pub loop-listing-preserved : goal.loop-listing-preserved
loop-listing-preserved g c =
    listed-record g.S.Source.comes c.args.question.now c.args.recording.id c.args.recording.source c.args.recording.peer
    c.loop-listing.source c.take_next.new.source c.loop-listing.listing c.take_next.new.listing c.loop-listing.invariant
    (rw c.if-branch.true at c.in_ok-take_next.ensures.takes)

pub returns-clause-happenings : goal.returns-clause-happenings
returns-clause-happenings g c =
    listed-whole g.S.Source.comes c.args.question.now c.args.recording.id c.args.recording.source c.args.recording.peer g.S.Source.shows
    c.loop-listing.source c.take_next.new.source c.loop-listing.listing c.take_next.new.listing c.loop-listing.invariant
    (rw c.if-branch.false at c.in_ok-take_next.ensures.takes)

pub returns-in_err-take_next-clause-fault : goal.returns-in_err-take_next-clause-fault
returns-in_err-take_next-clause-fault g c =
    let p = err_from_is_err_and c.from_residual.result c.from_residual.ensures.1 in
    rw (p.1, p.2) (listed-fault g.S.Source.comes c.args.question.now c.args.recording.id c.args.recording.source c.args.recording.peer
    g.S.Source.shows c.loop-listing.source c.loop-listing.listing c.loop-listing.invariant c.in_err-take_next.field-0.0
    c.in_err-take_next.ensures.fault)
