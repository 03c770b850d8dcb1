use Rattle.std.proofs.Common.{◌∙◌, ap}
use Rattle.rs_inventory.specs.Peer.{with_counts, with_course, with_identifier, with_session}
use Rattle.rs_inventory.proofs.PeerLemmas.{peer_content-more}
use Rattle.rs_inventory.proofs.peer.PeerRecords.take.Goals as goal

pub returns : goal.returns
returns c = λ told is.
    c.take_course.ensures
    ∙ ap (with_course c.args.time c.args.news) (c.in_ok-take_session.ensures
    ∙ ap (with_session c.args.time c.args.news) (c.in_ok-take_identifier.ensures
    ∙ ap (with_identifier c.args.news) (c.count.ensures ∙ ap (with_counts c.args.news) is)))
    ∙ peer_content-more told c.args.time c.args.news
