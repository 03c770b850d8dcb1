use Rattle.std.proofs.Common.{◌∙◌, Some, ap, refl, sym}
use Rattle.rs_setup.specs.Section.{members_in}
use Rattle.rs_setup.proofs.setup.read_parts.Goals as goal

pub returns : goal.returns
returns c = (
  members_in c.new-top.result,
  c.in_ok-table.ensures ∙ ap Some (sym c.new-top.ensures),
  rw (c.with_large_communities-exchange.ensures, c.in_ok-new.ensures.plan) record {
    known = c.in_ok-has_only.ensures;
    server = c.in_ok-local.ensures;
    peers = c.in_ok-peers.ensures.peers;
    import = refl;
  },
  record {
    rules = c.in_ok-import.ensures.rules;
    peers = rw c.in_ok-import.ensures.peers c.in_ok-peers.ensures.lists;
    configured = rw c.in_ok-import.ensures.peers c.in_ok-import.ensures.configured;
  },
  c.in_ok-peers.ensures.begins,
)
