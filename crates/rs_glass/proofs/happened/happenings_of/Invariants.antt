use Rattle.rs_glass.proofs.ListingLemmas.{IsListed}
use Rattle.rs_glass.proofs.happened.happenings_of.Given as goal

abbrev pub invariant-loop-listing : goal.invariant-loop-listing
invariant-loop-listing g l =
    IsListed g.S.Source.comes l.question l.fn.recording.id l.fn.recording.source l.fn.recording.peer l.source l.listing

-- each record takes octets
abbrev pub decreases-loop-listing : goal.decreases-loop-listing
decreases-loop-listing g l = g.S.Source.room l.source
