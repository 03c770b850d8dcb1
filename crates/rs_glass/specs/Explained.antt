-- The answers of the looking glass: the explanation for each peer, and the route that the client gets.
use Rattle.std.specs.Prelude.{◌≡◌, ◌⊎◌, ◌<◌, ℕ, false, List, Option, Some, None, slice_get}
use Rattle.std.specs.Option.{option_map}
use Rattle.rs_update.specs.IpPrefix.{IpPrefix}
use Rattle.rs_update.specs.PrefixOrder.{same_prefix}
use Rattle.rs_table.specs.Content.{TablesContent}
use Rattle.rs_table.specs.Table.{best_of}
use Rattle.rs_explain.specs.Explanations.{IsExplanation}
use Rattle.rs_glass.specs.Covering.{IsLongestHeld, NoneIsHeld}
use Rattle.rs_glass.specs.declared.answers.Answer.{Answer}
use Rattle.rs_glass.specs.declared.answers.LessSpecific.{LessSpecific}
use Rattle.rs_glass.specs.declared.said.Said.{Said}

-- the number of the peer whose route a client gets on a prefix, if any
abbrev pub best_from : TablesContent → ℕ → IpPrefix → Option ℕ
best_from tables client prefix = option_map (λ route. route.peer) (best_of tables client prefix)

-- Of the prefixes that cover this one, the answer is the longest on which some peer has a route, and what the client
-- gets there. None says that there is no such prefix, or that it is the prefix itself (RFC 4271, section 9.1.4).
abbrev pub IsLessSpecific : TablesContent → ℕ → IpPrefix → Option LessSpecific → Type 0
IsLessSpecific tables client prefix None =
    NoneIsHeld tables.ribs prefix ⊎ IsLongestHeld tables.ribs prefix prefix
IsLessSpecific tables client prefix (Some wide) =
    IsLongestHeld tables.ribs prefix wide.prefix × (same_prefix prefix wide.prefix ≡ false)
    × (wide.best ≡ best_from tables client wide.prefix)

-- the answers for the peers below a number: each has the explanation, and the last changes of the peer on the prefix
abbrev pub AreExplained : TablesContent → ℕ → IpPrefix → List Said → ℕ → List Answer → Type 0
AreExplained tables client prefix all count answers =
    (number : ℕ) → number < count → (answer : Answer) → slice_get answers number ≡ Some answer
    → IsExplanation tables client number prefix answer.explanation × (slice_get all number ≡ Some answer.said)
