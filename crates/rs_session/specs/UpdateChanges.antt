-- The route changes of one UPDATE (RFC 4271, sections 3.1 and 4.3).
use Rattle.std.specs.Prelude.{ℕ, Bool, true, false, not, ◌&&◌, List, [], ◌∷◌, ◌++◌, Option, Some, None, map, filter}
use Rattle.std.specs.List.{list_any}
use Rattle.rs_update.specs.IpPrefix.{IpPrefix}
use Rattle.rs_update.specs.Message.{UpdateContent, TreatedContent}
use Rattle.rs_update.specs.PathAttributes.{PathAttributes}
use Rattle.rs_update.specs.Prefix.{is_multicast}
use Rattle.rs_update.specs.PrefixOrder.{same_prefix}
use Rattle.rs_change.specs.Change.{Change, ChangeBody, Announced, Withdrawn, Lost, Closed}

-- whether a prefix stands in a list
abbrev pub is_listed : List IpPrefix → IpPrefix → Bool
is_listed prefixes prefix = list_any (λ other. same_prefix other prefix) prefixes

-- the prefixes that routes can have: multicast prefixes give no change (our choice)
abbrev pub unicast : List IpPrefix → List IpPrefix
unicast prefixes = filter (λ prefix. not (is_multicast prefix)) prefixes

-- the prefixes that an UPDATE withdraws: those in its Withdrawn Routes field that it does not also announce (section
-- 4.3)
abbrev pub withdrawn_only : List IpPrefix → List IpPrefix → List IpPrefix
withdrawn_only withdrawn nlri = filter (λ prefix. not (is_multicast prefix) && not (is_listed nlri prefix)) withdrawn

-- a withdrawal of a prefix
abbrev pub withdraws : ℕ → IpPrefix → Change
withdraws time prefix = record { time = time; body = Withdrawn prefix }

-- an announcement of a prefix with these attributes
abbrev pub announces : ℕ → PathAttributes → IpPrefix → Change
announces time attributes prefix = record { time = time; body = Announced prefix attributes }

-- the announcements of an UPDATE; all of them have the same attributes
abbrev pub announcements : ℕ → Option PathAttributes → List IpPrefix → List Change
announcements time None prefixes = []
announcements time (Some attributes) prefixes = map (announces time attributes) prefixes

-- The changes of an UPDATE, with the time of its record. Withdrawals come first, then announcements (our choice),
-- each in order.
abbrev pub changes_of_update : ℕ → UpdateContent → List Change
changes_of_update time update =
    map (withdraws time) (withdrawn_only update.withdrawn update.nlri)
    ++ announcements time update.attributes (unicast update.nlri)

-- The changes of an UPDATE whose routes are all treated as withdrawn (RFC 7606, section 2). First come the prefixes
-- that it withdraws, then those that it would announce, each in order.
abbrev pub changes_of_treated : ℕ → TreatedContent → List Change
changes_of_treated time treated =
    map (withdraws time) (withdrawn_only treated.withdrawn treated.nlri)
    ++ map (withdraws time) (unicast treated.nlri)

-- the next change is an announcement: only this one shares its attributes with others
abbrev pub is_announcement : ChangeBody → Bool
is_announcement (Announced prefix attributes) = true
is_announcement (Withdrawn prefix) = false
is_announcement Lost = false
is_announcement (Closed reason) = false

abbrev pub announces_next : List Change → Bool
announces_next [] = false
announces_next (change ∷ later) = is_announcement change.body
