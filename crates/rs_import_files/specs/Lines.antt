-- Lists as lines of a text (our choice: one entry a line, and comments as those of a shell).
use Rattle.std.specs.Prelude.{ℕ, ◌==◌, ◌-◌, Bool, ◌&&◌, not, List, length, take, drop}
use Rattle.std.specs.Char.{is_ascii_whitespace}
use Rattle.std.specs.List.{AllZip, before_first, filter, prefix_len, suffix_len}
use Rattle.std.specs.Str.Lines.{lines}
use Rattle.rs_types.specs.declared.as_range.AsRange.{AsRange}
use Rattle.rs_types.specs.declared.pattern.Pattern.{Pattern}
use Rattle.rs_import_files.specs.Texts.{IsAsEntry, IsPattern, is_ipv6}

-- a text without the blanks at its front and at its end
abbrev pub without_blanks : List ℕ → List ℕ
without_blanks text =
    let rest = drop (prefix_len is_ascii_whitespace text) text in
    take (length rest - suffix_len is_ascii_whitespace rest) rest

-- what a line says: what stands before the first `#`, without the blanks around it
abbrev pub said_by : List ℕ → List ℕ
said_by line = without_blanks (before_first (λ octet. octet == 35) line)

-- a line says something
abbrev pub is_entry : List ℕ → Bool
is_entry line = not (length (said_by line) == 0)

-- a line says something that is none of IPv6
abbrev pub is_ipv4_entry : List ℕ → Bool
is_ipv4_entry line = is_entry line && not (is_ipv6 (said_by line))

-- A list of entries is the lines that count, one by one. The relation tells what an entry's text means.
abbrev pub AreEntries : {E : Type 0} → (List ℕ → Bool) → (List ℕ → E → Type 0) → List (List ℕ) → List E → Type 0
AreEntries counts IsEntry lines entries =
    AllZip (λ line entry. IsEntry (said_by line) entry) (filter counts lines) entries

-- a text of patterns: a pattern in each line, and lines of IPv6 are passed over
abbrev pub IsTextOfPatterns : List ℕ → List Pattern → Type 0
IsTextOfPatterns text patterns = AreEntries is_ipv4_entry IsPattern (lines text) patterns

-- a text of AS numbers: a number or a range in each line
abbrev pub IsTextOfRanges : List ℕ → List AsRange → Type 0
IsTextOfRanges text ranges = AreEntries is_entry IsAsEntry (lines text) ranges
