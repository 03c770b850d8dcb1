-- A line of text with its control characters escaped, and a line of a program (docs/MANUAL.md, "Texts").
use Rattle.std.specs.Prelude.{◌==◌, ◌+◌, ◌/◌, ◌%◌, ℕ, List, ◌++◌, codes, encode_utf8, if◌then◌else◌, nat_lt}
use Rattle.std.specs.Char.{is_control}
use Rattle.std.specs.List.{flat_map}
use Rattle.std.specs.Str.{chars}

abbrev pub Text : Type 0
Text = List ℕ

-- a hexadecimal digit
abbrev pub hex_digit : ℕ → ℕ
hex_digit value = if nat_lt value 10 then 48 + value else 87 + value

-- a control character by its two hexadecimal digits
abbrev pub escaped : ℕ → Text
escaped control =
    codes "\\u{" ++ (encode_utf8 (hex_digit (control / 16 % 16))
    ++ (encode_utf8 (hex_digit (control % 16)) ++ codes "}"))

-- a character as it is shown: a line break as two characters, another control character by its number, any other
-- unchanged
abbrev pub shown : ℕ → Text
shown character =
    if character == 10 then codes "\\n"
    else (if character == 13 then codes "\\r"
    else (if is_control character then escaped character else encode_utf8 character))

-- a text whose control characters are escaped, so that it stays on one line
abbrev pub one_line : Text → Text
one_line text = flat_map shown (chars text)

-- a line of a program begins with its name
abbrev pub named : Text → Text → Text
named program text = program ++ (codes ": " ++ text)

-- the line of a program if memory was refused
abbrev pub out_of_memory : Text
out_of_memory = codes "out of memory"

-- a file that can't be read is named
abbrev pub unread_text : Text → Text
unread_text path = codes "cannot read " ++ one_line path

abbrev pub unread_line : Text → Text → Text
unread_line program path = named program (unread_text path)
