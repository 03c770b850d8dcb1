-- Texts in markup.
use Rattle.std.specs.Prelude.{◌==◌, ℕ, Bool, List, ◌||◌, codes, encode_utf8, if◌then◌else◌}
use Rattle.std.specs.Char.{is_control}
use Rattle.std.specs.List.{flat_map}
use Rattle.std.specs.Str.{chars}

-- Whether a character may not stand in markup (XML 1.0, section 2.2): a control character, or U+FFFE or U+FFFF. Line
-- breaks and tabs are left out too, since no text here needs them.
abbrev pub is_barred : ℕ → Bool
is_barred character = is_control character || (character == 65534 || character == 65535)

-- A character as it is shown (XML 1.0, section 2.4). If a reader could take it for markup, it is shown as an entity.
-- If it may not stand in markup, it is shown as U+FFFD. Any other is unchanged.
abbrev pub shown : ℕ → List ℕ
shown character =
    if character == 60 then codes "&lt;"
    else (if character == 62 then codes "&gt;"
    else (if character == 38 then codes "&amp;"
    else (if character == 34 then codes "&quot;"
    else (if character == 39 then codes "&#39;"
    else (if is_barred character then encode_utf8 65533
    else encode_utf8 character)))))

-- a text in markup
abbrev pub escaped : List ℕ → List ℕ
escaped text = flat_map shown (chars text)
