use Rattle.std.proofs.Common.{◌∙◌, arith}
use Rattle.rs_choice.proofs.clients.ClientLemmas.{chosen_is, first_within, view_length}
use Rattle.rs_choice.proofs.exchange.Exchange.chosen_peer.Goals as goal

pub group_all-requires : goal.group_all-requires
group_all-requires c =
    let n = view_length c.args.self.now c.args.held.now c.args.places.now c.requires.places in
    record { bound = omega (arith, n, c.len-count.ensures.value, c.len-count.ensures.bound) }

pub first_peer-requires-clause-first : goal.first_peer-requires-clause-first
first_peer-requires-clause-first c =
    first_within c.args.self.now c.args.held.now c.args.places.now c.group_all.new.groups _ c.first_of-first.result c.requires.places
    c.group_all.ensures c.first_of-first.ensures

pub returns : goal.returns
returns c =
    c.first_peer.ensures
    ∙ chosen_is c.args.self.now c.args.held.now c.args.places.now c.group_all.new.groups c.first_of-first.result c.group_all.ensures
    c.first_of-first.ensures
