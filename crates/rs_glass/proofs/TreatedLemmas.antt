-- An UPDATE that is treated as a withdrawal of its routes is at fault by RFC 4271.
use Rattle.std.proofs.Common.{◌≡◌, ◌∙◌, sym, ap, subst, refl, ℕ, Bool, true, false, cond, List, None, drop}
use Rattle.std.specs.Prelude.{IsSome, Result, Ok, Err}
use Rattle.std.proofs.lemmas.Bool.{true≢false}
use Rattle.rs_update.specs.Fault.{of_header}
use Rattle.rs_update.specs.Header.{header_of}
use Rattle.rs_update.specs.IpPrefix.{IpPrefix}
use Rattle.rs_update.specs.Laws.{Rfc4271IsAsBefore, StandardsAgree}
use Rattle.rs_update.specs.Message.{MessageContent, IsOpen, IsUpdate, IsTreated, IsNotification, IsKeepAlive, IsRefresh}
use Rattle.rs_update.specs.Message.{UpdateContent, update_message, update_of}
use Rattle.rs_update.specs.Treating.{message_by, typed_message_by}
use Rattle.rs_update.specs.declared.errors.Errors.TheVariants.{Rfc4271, Rfc7606}
use Rattle.rs_update.specs.declared.fault.HeaderFault.{HeaderFault}
use Rattle.rs_update.specs.declared.fault.MessageFault.{MessageFault}
use Rattle.rs_update.specs.declared.fault.MessageFault.TheVariants as faults
use Rattle.rs_update.specs.declared.header.MessageType.{MessageType}
use Rattle.rs_update.specs.declared.header.MessageType.TheVariants as types
use Rattle.rs_glass.specs.Treating.{TreatedIsAtFault, fault_told, is_treated}

-- a message is read, and no routes are treated as withdrawn, or it is at fault by a code and a subcode
IsPlain : Result MessageContent MessageFault → Type 0
IsPlain (Ok (IsTreated treated)) = ⊥
IsPlain (Err faults.Memory) = ⊥
IsPlain says = Unit {0}

plain-update : (says : Result UpdateContent _) → IsPlain (update_message says)
unfolding IsPlain
plain-update (Ok update) = tt
plain-update (Err fault) = tt

-- by RFC 4271 every message is so
plain-typed : (kind : MessageType) (body : List ℕ) → IsPlain (typed_message_by Rfc4271 kind body)
unfolding IsPlain
plain-typed types.Open body = tt
plain-typed types.Update body = plain-update (update_of body)
plain-typed types.Notification body = tt
plain-typed types.KeepAlive body = tt
plain-typed types.Refresh body = tt

plain-behind : (header : Result MessageType HeaderFault) (body : List ℕ) → IsPlain (elim header as (λ h. Result MessageContent MessageFault)
    [ Ok kind ↦ typed_message_by Rfc4271 kind body | Err fault ↦ Err (of_header fault) ])
unfolding IsPlain
plain-behind (Ok kind) body = plain-typed kind body
plain-behind (Err fault) body = tt

plain-by : (octets : List ℕ) → IsPlain (message_by Rfc4271 octets)
unfolding message_by
plain-by octets = plain-behind (header_of octets) (drop 19 octets)

untreated : (prefix : IpPrefix) (content : MessageContent) → IsPlain (Ok content) → is_treated prefix (Ok content) ≡ false
unfolding IsPlain
untreated prefix IsOpen plain = refl
untreated prefix (IsUpdate update) plain = refl
untreated prefix (IsTreated treated) plain = absurd plain
untreated prefix IsNotification plain = refl
untreated prefix IsKeepAlive plain = refl
untreated prefix IsRefresh plain = refl

-- what is treated by a standard that agrees with RFC 4271 on messages without a fault
fault-told : (prefix : IpPrefix) (strict says : Result MessageContent MessageFault) → IsPlain strict
    → ((content : MessageContent) → strict ≡ Ok content → says ≡ Ok content) → is_treated prefix says ≡ true
    → IsSome (fault_told strict)
unfolding IsPlain
fault-told prefix (Ok content) says plain agree treated =
    absurd (true≢false (sym treated ∙ ap (is_treated prefix) (agree content refl) ∙ untreated prefix content plain))
fault-told prefix (Err (faults.Bgp code subcode)) says plain agree treated = refl
fault-told prefix (Err faults.Memory) says plain agree treated = absurd plain

told-where-treated : (prefix : IpPrefix) (strict says : Result MessageContent MessageFault) → IsPlain strict
    → ((content : MessageContent) → strict ≡ Ok content → says ≡ Ok content) → is_treated prefix says ≡ true
    → IsSome (cond (is_treated prefix says) (fault_told strict) None)
told-where-treated prefix strict says plain agree treated =
    subst (λ (b : Bool). IsSome (cond b (fault_told strict) None)) (sym treated) (fault-told prefix strict says plain agree treated)

pub treated-at-fault : Rfc4271IsAsBefore → StandardsAgree → TreatedIsAtFault
treated-at-fault before agree Rfc4271 prefix octets treated =
    told-where-treated prefix (message_by Rfc4271 octets) (message_by Rfc4271 octets) (plain-by octets) (λ content is. is) treated
treated-at-fault before agree Rfc7606 prefix octets treated =
    told-where-treated prefix (message_by Rfc4271 octets) (message_by Rfc7606 octets) (plain-by octets)
    (λ content is. agree octets content (sym (before octets) ∙ is)) treated
