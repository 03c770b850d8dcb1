use Rattle.std.proofs.Common.{◌∙◌, ap, subst, arith}
use Rattle.std.specs.Option.{option_map}
use Rattle.rs_choice.specs.Decision.{SentRoute, choice, standing_of}
use Rattle.rs_choice.specs.Sharing.{sents_at, RestsOn}
use Rattle.rs_choice.proofs.clients.ClientLemmas.{chosen_is, eligible_sents, fit_all, first_within, groups_within, rests, view_length}
use Rattle.rs_choice.proofs.clients.ClientLemmas.{weighing_places}
use Rattle.rs_choice.proofs.exchange.Exchange.share.Goals as goal

pub invariant_of-entrants : goal.invariant_of-entrants
invariant_of-entrants c =
    let plan = c.args.self.now in
    let held = c.args.held.now in
    let fit = c.args.fit.now in
    record {
      within = c.requires.places;
      judged = c.requires.judged;
      fit = fit_all held fit c.requires.fit;
    }

pub group_all-requires : goal.group_all-requires
group_all-requires c =
    let n = view_length c.args.self.now c.args.held.now c.args.fit.now c.requires.places in
    record { bound = omega (arith, n, c.len-count.ensures.value, c.len-count.ensures.bound) }

pub weighing-weighing-requires : goal.weighing-weighing-requires
weighing-weighing-requires c =
    groups_within c.args.self.now c.args.held.now c.args.fit.now c.group_all.new.groups c.requires.places c.group_all.ensures

pub first_peer-peer-requires-clause-first : goal.first_peer-peer-requires-clause-first
first_peer-peer-requires-clause-first c =
    first_within c.args.self.now c.args.held.now c.args.fit.now c.group_all.new.groups _ c.first_of-first.result
    c.requires.places c.group_all.ensures c.first_of-first.ensures

pub returns : goal.returns
returns c =
    let plan = c.args.self.now in
    let held = c.args.held.now in
    let fit = c.args.fit.now in
    let weighing = weighing_places held fit c.weighing-weighing.result c.requires.places c.weighing-weighing.ensures.among in
    let same = eligible_sents plan held fit c.requires.judged c.requires.fit in
    record {
      peer = c.first_peer-peer.ensures ∙ chosen_is plan held fit c.group_all.new.groups c.first_of-first.result c.group_all.ensures
          c.first_of-first.ensures
          ∙ ap (λ list. option_map (λ (sent : SentRoute). sent.peer) (choice (standing_of plan) list)) same;
      weighing = weighing;
      rests = subst (λ list. RestsOn plan list (sents_at held c.weighing-weighing.result)) same
          (rests plan held fit c.group_all.new.groups c.first_of-first.result c.weighing-weighing.result c.requires.places weighing
          c.group_all.ensures c.first_of-first.ensures c.weighing-weighing.ensures);
    }
