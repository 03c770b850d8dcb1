use Rattle.std.proofs.Common.{◌≡◌, ◌∙◌, ◌++◌, ◌∷◌, [], List, Some, None, ap, refl}
use Rattle.rtrb.specs.Ring.{known_items, received, sent}
use Rattle.rs_share.specs.declared.part.Begin.{Begin}
use Rattle.rs_share.specs.declared.part.Part.{Part}
use Rattle.rs_share.proofs.SharingLemmas.{one-popped}
use Rattle.rs_share.proofs.sharing.open_parts.Goals as goal

pub returns : goal.returns
returns g c =
    let begin : Begin g.row.S.Denot = record { source = c.of.result; peer = c.args.peer } in
    let first : Part g.row.S.Denot = record { begin = Some begin; batch = c.none.result; last = None } in
    let sent_is : sent c.slots_beside.new.producer ≡ first ∷ [] =
    c.slots_beside.ensures.producer.1 ∙ c.push_reserved.ensures.sent.0
    ∙ ap (λ (ps : List (Part g.row.S.Denot)). ps ++ first ∷ []) c.in_ok-parts.ensures.producer.0 in
    record {
      first = first;
      begin = begin;
      begins = refl;
      source_is = c.of.ensures;
      peer_is = refl;
      none = c.none.ensures;
      no_last = refl;
      sent_is = sent_is;
      received_is = one-popped (received c.slots_beside.new.self) (known_items c.slots_beside.new.self) (received c.pop_known.new.self)
          (known_items c.pop_known.new.self) c.pop_known.result first
          (c.slots_beside.ensures.looked.1 ∙ c.in_ok-parts.ensures.consumer.0) (c.slots_beside.ensures.fifo ∙ sent_is)
          c.pop_known.ensures.received.1 c.pop_known.ensures.received.0;
    }
