-- The condition of import policy that a route fails, with the value that fails it (RFC 4271, section 9.1.1). The
-- conditions themselves are defined in `rs_import`.
use Rattle.std.specs.Prelude.{ℕ, Option, Some, reverse}
use Rattle.std.specs.List.{find}
use Rattle.std.specs.Option.{option_and_then, option_map}
use Rattle.rs_update.specs.AsPath.{first_as_of, path_length_of}
use Rattle.rs_update.specs.IpPrefix.{IpPrefix}
use Rattle.rs_update.specs.PathAttributes.{PathAttributes}
use Rattle.rs_import.specs.declared.filter.Filter.{Filter}
use Rattle.rs_import.specs.declared.filter.Filter.TheVariants as filters
use Rattle.rs_import.specs.Import.{refused_as_of}
use Rattle.rs_import.specs.Patterns.{is_match}
use Rattle.rs_import.specs.Rpki.{origin_of}
use Rattle.rs_choice.specs.Acceptance.{filter_on}
use Rattle.rs_choice.specs.Plan.{Plan}
use Rattle.rs_explain.specs.declared.filtered_by.FilteredBy.{FilteredBy}
use Rattle.rs_explain.specs.declared.filtered_by.FilteredBy.TheVariants.{PrefixLength, RefusedPrefix, PathLengthLimit}
use Rattle.rs_explain.specs.declared.filtered_by.FilteredBy.TheVariants.{RefusedAs, FirstAs, PrefixList, OriginAs}
use Rattle.rs_explain.specs.declared.filtered_by.FilteredBy.TheVariants.{RpkiInvalid}

-- A filter with the value that fails it:
-- - The prefix's length, and of the refused patterns that match the prefix the last one, which is the most specific.
-- - Of AS_PATH its length, the first refused AS number in it, and its first AS number.
-- - Nothing of a prefix list. The origin AS of the route.
abbrev pub value_of : Plan → IpPrefix → PathAttributes → Filter → Option FilteredBy
value_of plan prefix attributes filters.PrefixLength = Some (PrefixLength prefix.len)
value_of plan prefix attributes filters.RefusedPrefix =
    option_map (λ pattern. RefusedPrefix pattern) (find (is_match prefix) (reverse plan.import.rules.refuse_prefixes))
value_of plan prefix attributes filters.PathLengthLimit = Some (PathLengthLimit (path_length_of attributes.path))
value_of plan prefix attributes filters.RefusedAs =
    option_map (λ asn. RefusedAs asn) (refused_as_of plan.import.rules.refuse_as attributes.path)
value_of plan prefix attributes filters.FirstAs = Some (FirstAs (first_as_of attributes.path))
value_of plan prefix attributes filters.PrefixList = Some PrefixList
value_of plan prefix attributes filters.OriginAs = Some (OriginAs (origin_of plan.local.asn attributes.path))
value_of plan prefix attributes filters.RpkiInvalid = Some (RpkiInvalid (origin_of plan.local.asn attributes.path))

-- the first condition that a route of a peer fails, by the peer's number; None if the route is taken in
abbrev pub failed_filter : Plan → ℕ → IpPrefix → PathAttributes → Option FilteredBy
failed_filter plan number prefix attributes =
    option_and_then (value_of plan prefix attributes) (filter_on plan number prefix attributes)

-- the filter, without the value
abbrev pub filter_in : FilteredBy → Filter
filter_in (PrefixLength len) = filters.PrefixLength
filter_in (RefusedPrefix pattern) = filters.RefusedPrefix
filter_in (PathLengthLimit len) = filters.PathLengthLimit
filter_in (RefusedAs asn) = filters.RefusedAs
filter_in (FirstAs first) = filters.FirstAs
filter_in PrefixList = filters.PrefixList
filter_in (OriginAs origin) = filters.OriginAs
filter_in (RpkiInvalid origin) = filters.RpkiInvalid
