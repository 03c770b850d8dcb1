-- If an UPDATE lists no prefix that covers a given one, none of its changes concerns that one. All have its record's
-- time.
use Rattle.std.proofs.Common.{◌≡◌, ◌∙◌, refl, ℕ, Bool, true, false, cond, List, [], ◌∷◌, ◌++◌, Option, Some, None, Result, Ok}
use Rattle.std.specs.Prelude.{◌||◌, map, filter}
use Rattle.std.specs.List.{list_any}
use Rattle.std.proofs.lemmas.Bool.{or_parts}
use Rattle.std.proofs.lemmas.List.Folds.{list_any-append}
use Rattle.rs_update.specs.Concerns.{message_concerns}
use Rattle.rs_update.specs.Covering.{covers, lists_cover}
use Rattle.rs_update.specs.IpPrefix.{IpPrefix}
use Rattle.rs_update.specs.Message.{MessageContent, IsUpdate, IsTreated}
use Rattle.rs_update.specs.PathAttributes.{PathAttributes}
use Rattle.rs_update.specs.declared.fault.MessageFault.{MessageFault}
use Rattle.rs_change.specs.Change.{Change}
use Rattle.rs_session.specs.Concerning.{IsBeside, MayPass, concerns, is_later, is_past}
use Rattle.rs_session.specs.Effect.{effect_of_message}
use Rattle.rs_session.specs.declared.beside.Only.{Only}
use Rattle.rs_session.specs.UpdateChanges.{withdraws, announces, announcements, withdrawn_only, unicast}

-- what holds of none of a list holds of none of a part of it
pub none-part : {A : Type 0} (p keeps : A → Bool) (xs : List A) → list_any p xs ≡ false → list_any p (filter keeps xs) ≡ false
none-part p keeps [] none = refl
none-part {A} p keeps (x ∷ xs) none =
    let parts = or_parts (p x) (list_any p xs) none in none_if (keeps x) parts.0 (none-part p keeps xs parts.1)
  where
    none_if : (b : Bool) → p x ≡ false → list_any p (filter keeps xs) ≡ false
        → list_any p (cond b (x ∷ filter keeps xs) (filter keeps xs)) ≡ false
    none_if true first later = rw (first, later) refl
    none_if false first later = later

-- some changes, all beside the prefix and in time
module _ (only : Only) where
  -- more is passed over behind some
  pub over-more : (xs ys : List Change) → MayPass (Some only) xs → MayPass (Some only) ys
      → MayPass (Some only) (xs ++ ys)
  over-more xs ys first second = record {
    beside = list_any-append (concerns only.prefix) xs ys ∙ rw (first.beside, second.beside) refl;
    in_time = list_any-append (is_later only.until) xs ys ∙ rw (first.in_time, second.in_time) refl;
  }

  module _ (time : ℕ) (at : is_past only.until time ≡ false) where
    -- a change on each of these prefixes
    over-each : (says : IpPrefix → Change) → ((one : IpPrefix) → concerns only.prefix (says one) ≡ covers one only.prefix)
        → ((one : IpPrefix) → is_later only.until (says one) ≡ false) → (prefixes : List IpPrefix)
        → lists_cover only.prefix prefixes ≡ false → MayPass (Some only) (map says prefixes)
    over-each says on early [] none = record { beside = refl; in_time = refl }
    over-each says on early (one ∷ prefixes) none =
        let parts = or_parts (covers one only.prefix) (lists_cover only.prefix prefixes) none in
        let rest = over-each says on early prefixes parts.1 in
        record { beside = rw (on one, parts.0, rest.beside) refl; in_time = rw (early one, rest.in_time) refl }

    over-withdraws : (prefixes : List IpPrefix) → lists_cover only.prefix prefixes ≡ false
        → MayPass (Some only) (map (withdraws time) prefixes)
    over-withdraws = over-each (withdraws time) (λ one. refl) (λ one. at)

    over-announcements : (attributes : Option PathAttributes) (prefixes : List IpPrefix) → lists_cover only.prefix prefixes ≡ false
        → MayPass (Some only) (announcements time attributes prefixes)
    over-announcements None prefixes none = record { beside = refl; in_time = refl }
    over-announcements (Some attributes) prefixes none = over-each (announces time attributes) (λ one. refl) (λ one. at) prefixes none

    -- changes that withdraw those of the first list that stay, before changes on those of the second
    over-lists : (withdrawn nlri : List IpPrefix) (behind : List Change)
        → (lists_cover only.prefix withdrawn || lists_cover only.prefix nlri) ≡ false
        → (lists_cover only.prefix (unicast nlri) ≡ false → MayPass (Some only) behind)
        → MayPass (Some only) (map (withdraws time) (withdrawn_only withdrawn nlri) ++ behind)
    over-lists withdrawn nlri behind none over =
        let parts = or_parts (lists_cover only.prefix withdrawn) (lists_cover only.prefix nlri) none in
        over-more _ _ (over-withdraws (withdrawn_only withdrawn nlri) (none-part (λ wide. covers wide only.prefix) _ withdrawn parts.0))
        (over (none-part (λ wide. covers wide only.prefix) _ nlri parts.1))

    -- what a message that doesn't concern the prefix says
    pub beside_message : (answer : Result MessageContent MessageFault) → message_concerns only.prefix answer ≡ false
        → IsBeside (Some only) (effect_of_message time answer)
    beside_message (Ok (IsUpdate update)) none =
        over-lists update.withdrawn update.nlri _ none (over-announcements update.attributes (unicast update.nlri))
    beside_message (Ok (IsTreated treated)) none = over-lists treated.withdrawn treated.nlri _ none (over-withdraws (unicast treated.nlri))
    beside_message answer none = absurd cc
