use Rattle.std.proofs.Common.{◌≡◌, Some, sym, ap, ◌∙◌, subst, List, length, ◌<◌}
use Rattle.std.specs.Prelude.{slice_get}
use Rattle.rs_types.specs.declared.peer_id.PeerId.{PeerId}
use Rattle.rs_share.specs.Reach.{key_of, place_at}
use Rattle.rs_share.proofs.DirectoryLemmas.{found-reaches, found-within}
use Rattle.rs_share.proofs.directory.Directory.find.Goals as goal

pub returns-in-Some-clause-reaches : goal.returns-in-Some-clause-reaches
returns-in-Some-clause-reaches c =
    let id : PeerId = record { address = c.args.address; asn = c.args.asn } in
    let entries = c.self.inside.places.entries in
    let is : place_at entries (key_of id) ≡ Some c.in-Some.place.now =
    ap (place_at entries) (sym c.key_of.ensures) ∙ sym c.in-Some.ensures.value in
    λ place peer stands. found-reaches c.self.inside.peers.items (place_at entries) c.self.invariant id
    (c.ranges.address.fits, c.ranges.asn.fits) c.in-Some.place.now place peer is
    (ap (λ (ps : List PeerId). slice_get ps place) c.self.view_is ∙ stands)

pub returns-in-Some-clause-place : goal.returns-in-Some-clause-place
returns-in-Some-clause-place c =
    let id : PeerId = record { address = c.args.address; asn = c.args.asn } in
    let entries = c.self.inside.places.entries in
    let is : place_at entries (key_of id) ≡ Some c.in-Some.place.now =
    ap (place_at entries) (sym c.key_of.ensures) ∙ sym c.in-Some.ensures.value in
    subst (λ (ps : List PeerId). c.in-Some.place.now < length ps) c.self.view_is
    (found-within c.self.inside.peers.items (place_at entries) c.self.invariant id
    (c.ranges.address.fits, c.ranges.asn.fits) c.in-Some.place.now is)
