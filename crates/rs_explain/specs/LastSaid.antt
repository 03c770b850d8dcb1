-- The last changes of a peer on a prefix: why its route is left there or absent (RFC 4271, sections 3.1 and 9.1).
use Rattle.std.specs.Prelude.{◌≡◌, ℕ, Bool, true, false, if◌then◌else◌, List, ◌∷◌, ◌++◌, Option, None, Some}
use Rattle.std.specs.List.{list_any}
use Rattle.std.specs.Option.{is_some}
use Rattle.rs_update.specs.IpPrefix.{IpPrefix}
use Rattle.rs_update.specs.PrefixOrder.{same_prefix}
use Rattle.rs_session.specs.Change.{Change, ChangeBody, Announced, Withdrawn, Lost, Closed}
use Rattle.rs_table.specs.Left.{reason_drops}
use Rattle.rs_explain.specs.declared.last_said.LastSaid.{LastSaid}
use Rattle.rs_explain.specs.declared.last_said.LastSaid.TheVariants as said
use Rattle.rs_explain.specs.declared.last_said.Ending.{Ending}
use Rattle.rs_explain.specs.declared.last_said.EndedBy.{EndedBy}
use Rattle.rs_explain.specs.declared.last_said.EndedBy.TheVariants as by

-- a change announces a prefix
abbrev pub body_announces : IpPrefix → ChangeBody → Bool
body_announces prefix (Announced announced attributes) = same_prefix prefix announced
body_announces prefix (Withdrawn withdrawn) = false
body_announces prefix Lost = false
body_announces prefix (Closed reason) = false

abbrev pub announces : IpPrefix → Change → Bool
announces prefix change = body_announces prefix change.body

-- How a change removes a peer's route on a prefix, if it does: by a withdrawal, by a loss of the session, or by a
-- close. A close at the end of the file does not remove it.
abbrev pub body_ends_by : IpPrefix → ChangeBody → Option EndedBy
body_ends_by prefix (Announced announced attributes) = None
body_ends_by prefix (Withdrawn withdrawn) = if same_prefix prefix withdrawn then Some by.Withdrawal else None
body_ends_by prefix Lost = Some by.Loss
body_ends_by prefix (Closed reason) = if reason_drops reason then Some (by.Close reason) else None

abbrev pub ends_by : IpPrefix → Change → Option EndedBy
ends_by prefix change = body_ends_by prefix change.body

abbrev pub ends : IpPrefix → Change → Bool
ends prefix change = is_some (ends_by prefix change)

-- the change removes the route in this way
pub record IsEnding (prefix : IpPrefix) (change : Change) (ending : Ending) : Type 0 where
  pub time : ending.time ≡ change.time
  pub by : ends_by prefix change ≡ Some ending.by

-- the last announcement of the prefix is at this time, and the statement is true of the changes behind it
pub record IsAnnouncedLast (prefix : IpPrefix) (changes : List Change) (time : ℕ)
    (Then : List Change → Type 0) : Type 0 where
  pub earlier : List Change
  pub announcement : Change
  pub later : List Change
  pub splits : changes ≡ earlier ++ announcement ∷ later
  pub announced : announces prefix announcement ≡ true
  pub at : announcement.time ≡ time
  pub last : list_any (announces prefix) later ≡ false
  pub after : Then later

-- none of these changes removes the route
abbrev pub KeepRoute : IpPrefix → List Change → Type 0
KeepRoute prefix changes = list_any (ends prefix) changes ≡ false

-- the first of these changes that removes the route does it in this way
pub record EndRoute (prefix : IpPrefix) (ending : Ending) (changes : List Change) : Type 0 where
  pub before : List Change
  pub change : Change
  pub after : List Change
  pub splits : changes ≡ before ++ change ∷ after
  pub first : KeepRoute prefix before
  pub ends : IsEnding prefix change ending

-- What the last changes on a prefix are. Either no change announces the prefix. Or this is the last announcement,
-- and this removed the route after it, if anything did.
abbrev pub IsSaidLast : IpPrefix → List Change → LastSaid → Type 0
IsSaidLast prefix changes said.NeverAnnounced = list_any (announces prefix) changes ≡ false
IsSaidLast prefix changes (said.Announced time) = IsAnnouncedLast prefix changes time (KeepRoute prefix)
IsSaidLast prefix changes (said.Ended time ending) = IsAnnouncedLast prefix changes time (EndRoute prefix ending)
