-- What `retain` leaves is what passes the closure's test, which compares the fields of prefixes.
use Rattle.std.proofs.Common.{rules, ap, not, ◌∙◌, ◌==◌, ◌&&◌}
use Rattle.std.specs.List.{list_any}
use Rattle.std.proofs.lemmas.Fn.{filter_same}
use Rattle.std.proofs.lemmas.List.Elements.{filter_agree}
use Rattle.rs_update.specs.IpPrefix.{IpPrefix}
use Rattle.rs_update.specs.Prefix.{is_multicast}
use Rattle.rs_session.proofs.PrefixLemmas.{listed-fields}
use Rattle.rs_session.proofs.withdrawn.keep_unlisted.Goals as goal

pub returns : goal.returns
returns c =
    let nlri = c.args.nlri.now in
    filter_same _ (λ prefix. not (is_multicast prefix)
    && not (list_any (λ (other : IpPrefix). (other.address == prefix.address) && (other.len == prefix.len)) nlri)) _
    (λ x b f' k. search rules) _ _ c.retain.ensures.filtered
    ∙ filter_agree _ _ (λ prefix. ap (λ b. not (is_multicast prefix) && not b) (listed-fields nlri prefix)) c.args.withdrawn.now.items
