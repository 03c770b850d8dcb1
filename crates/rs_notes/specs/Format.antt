-- How files begin that have no records: zip (APPNOTE, section 4.3.7), pcap (draft-ietf-opsawg-pcap, section 4) and
-- pcapng (draft-ietf-opsawg-pcapng, section 4.1); a text is our choice.
use Rattle.std.specs.Prelude.{ℕ, ◌==◌, ◌&&◌, ◌||◌, nat_le, Bool, if◌then◌else◌, List, [], ◌∷◌, Option}
use Rattle.std.specs.Prelude.{Some, None, codes, length, not}
use Rattle.std.specs.List.{list_all}
use Rattle.rs_notes.specs.declared.format.Format.{Format}
use Rattle.rs_notes.specs.declared.format.Format.TheVariants.{Compressed, Zip, Pcap, Text}
use Rattle.rs_inventory.specs.Compression.{begins, compression_name}

-- packets: the magic number of pcap in either order of octets, for microseconds and nanoseconds, or that of pcapng
abbrev pub is_pcap : List ℕ → Bool
is_pcap octets =
    begins (0xa1 ∷ 0xb2 ∷ 0xc3 ∷ 0xd4 ∷ []) octets || begins (0xd4 ∷ 0xc3 ∷ 0xb2 ∷ 0xa1 ∷ []) octets
    || begins (0xa1 ∷ 0xb2 ∷ 0x3c ∷ 0x4d ∷ []) octets || begins (0x4d ∷ 0x3c ∷ 0xb2 ∷ 0xa1 ∷ []) octets
    || begins (0x0a ∷ 0x0d ∷ 0x0d ∷ 0x0a ∷ []) octets

-- an octet of a text: printable ASCII, a tab or of a line break
abbrev pub is_text_octet : ℕ → Bool
is_text_octet octet = (nat_le 32 octet && nat_le octet 126) || (octet == 9) || (octet == 10) || (octet == 13)

-- there are octets, and all of them are octets of a text
abbrev pub is_text : List ℕ → Bool
is_text octets = not (length octets == 0) && list_all is_text_octet octets

-- the format of a file without a record of a known kind that begins with these octets
abbrev pub format_of : List ℕ → Option Format
format_of octets =
    if begins (80 ∷ 75 ∷ 3 ∷ 4 ∷ []) octets then Some Zip
    else if is_pcap octets then Some Pcap
    else if is_text octets then Some Text
    else None

-- the name of a format in notes
abbrev pub format_name : Format → List ℕ
format_name (Compressed compression) = compression_name compression
format_name Zip = codes "zip"
format_name Pcap = codes "pcap"
format_name Text = codes "text"
