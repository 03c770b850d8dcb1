-- How much of its files a run has read, and the line about it. Nothing here is from a standard: all of it is our
-- choice.
use Rattle.std.specs.Prelude.{ℕ, ◌*◌, ◌/◌, ◌==◌, if◌then◌else◌, min, List, ◌++◌}
use Rattle.std.specs.Prelude.{Option, None, Some, codes}
use Rattle.std.specs.Fmt.{decimal}

-- how many octets a MiB has
abbrev pub mib : ℕ
mib = 1048576

-- How many equal parts of a total were read whole. There are at most a hundred parts, and each has at least a MiB.
abbrev pub marks_within : ℕ → ℕ → ℕ
marks_within total read = if total == 0 then 0 else read * min 100 (total / mib) / total

-- how many marks the reading has passed
abbrev pub marks_of : Option ℕ → ℕ → ℕ
marks_of (Some total) read = marks_within total read
marks_of None read = read / mib

-- the text for a total: how many hundredths were read, and how many MiB the total has
abbrev pub share_text : ℕ → ℕ → List ℕ
share_text total read =
    codes "route_server: "
    ++ (decimal (read * 100 / total) ++ (codes " % of " ++ (decimal (total / mib) ++ codes " MiB read")))

-- the text without a total: how many MiB were read
abbrev pub sum_text : ℕ → List ℕ
sum_text read = codes "route_server: " ++ (decimal (read / mib) ++ codes " MiB read")

-- the line about how much was read
abbrev pub line_of : Option ℕ → ℕ → List ℕ
line_of (Some total) read = if total == 0 then sum_text read else share_text total read
line_of None read = sum_text read
