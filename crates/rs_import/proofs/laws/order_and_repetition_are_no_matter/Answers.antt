use Rattle.std.proofs.Common.{refl}
use Rattle.std.specs.Prelude.{slice_get}
use Rattle.rs_import.specs.AsRanges.{is_in_range}
use Rattle.rs_import.specs.Patterns.{is_match}
use Rattle.rs_import.specs.Rpki.{is_covering, is_matching}
use Rattle.rs_import.proofs.AlikeLemmas.{peers-alike}
use Rattle.rs_import.proofs.MemberLemmas.{any-same}
use Rattle.rs_import.proofs.laws.order_and_repetition_are_no_matter.Goals as goal

pub returns-clause-vrps : goal.returns-clause-vrps
returns-clause-vrps c = λ some others same q origin.
    rw (any-same (is_matching q origin) some others same, any-same (is_covering q) some others same) refl

pub returns-clause-patterns : goal.returns-clause-patterns
returns-clause-patterns c = λ some others same q. any-same (is_match q) some others same

pub returns-clause-ranges : goal.returns-clause-ranges
returns-clause-ranges c = λ some others same asn. any-same (is_in_range asn) some others same

pub returns-clause-policies : goal.returns-clause-policies
returns-clause-policies c = λ policy other alike own_as number sender_as q attributes.
    peers-alike policy.rules other.rules alike.rules own_as sender_as q attributes (slice_get policy.peers number) (slice_get other.peers number)
    (alike.peers number)
