-- The reasons at two known peers.
use Rattle.std.proofs.Common.{◌≡◌, ap, ℕ, ◌<◌, Bool, Some}
use Rattle.std.specs.Prelude.{length, slice_get}
use Rattle.rs_update.specs.PathAttributes.{PathAttributes}
use Rattle.rs_choice.specs.Plan.{Peer, Plan}
use Rattle.rs_choice.specs.Refusal.{IsRefusal}
use Rattle.rs_choice.proofs.Members.{some_at}
use Rattle.rs_explain.specs.Reasons.{refusal_of, ruling}

pub refusal_of-known : (plan : Plan) (client number : ℕ) (attributes : PathAttributes) (one : Peer) (by_name : Bool) →
    slice_get plan.peers client ≡ Some one → number < length plan.peers → IsRefusal plan.peers client number by_name →
    ruling plan by_name one.asn attributes ≡ refusal_of plan client number attributes
refusal_of-known plan client number attributes one by_name at_one known says =
    let other = some_at plan.peers number known in
    rw (at_one, other.1) (ap (λ (named : Bool). ruling plan named one.asn attributes) (says one other.0 at_one other.1))
