-- What an exchange stores next to its plan.
use Rattle.std.specs.Prelude.{◌≡◌, map, None}
use Rattle.rs_choice.specs.declared.exchange.Exchange.TheInside.{Inside}
use Rattle.rs_choice.specs.Plan.{Plan, peer_of, plan_fault}
use Rattle.rs_choice.specs.Refusal.{refusals_of, refused_of}

abbrev pub plan_of : Inside → Plan
plan_of fields = record {
  local = fields.local;
  peers = map peer_of fields.peers.items;
  large_communities = fields.large_communities;
  import = fields.import;
}

-- the plan has no fault, and the stored refusals are those of the plan
pub record IsFaultless (fields : Inside) : Type 0 where
  pub faultless : plan_fault fields.local (plan_of fields).peers ≡ None
  pub refusals_agree : map (λ row. row.items) fields.refusals.items ≡ refusals_of (plan_of fields).peers
  pub refused_agree : fields.refused.items ≡ refused_of (plan_of fields).peers
