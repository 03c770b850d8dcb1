-- How a compressed file begins (RFC 1952, section 2.3.1, for gzip; RFC 8878, section 3.1.1, for zstd; the
-- formats of bzip2 and xz).
use Rattle.std.specs.Prelude.{ℕ, ◌==◌, ◌&&◌, nat_le, Bool, if◌then◌else◌, List, [], ◌∷◌, drop, slice_index, Option}
use Rattle.std.specs.Prelude.{Some, None, codes}
use Rattle.std.specs.List.{starts_with}
use Rattle.rs_inventory.specs.declared.compression.Compression.{Compression}
use Rattle.rs_inventory.specs.declared.compression.Compression.TheVariants as by

-- the octets begin with these
abbrev pub begins : List ℕ → List ℕ → Bool
begins front octets = starts_with (λ x y. x == y) octets front

-- bzip2: the letters BZh, a digit from 1 to 9, and the first octets of a block
abbrev pub is_bzip2 : List ℕ → Bool
is_bzip2 octets =
    begins (66 ∷ 90 ∷ 104 ∷ []) octets && nat_le 49 (slice_index octets 3) && nat_le (slice_index octets 3) 57
    && begins (0x31 ∷ 0x41 ∷ []) (drop 4 octets)

-- how a file is compressed, by its first octets
abbrev pub compression_of : List ℕ → Option Compression
compression_of octets =
    if begins (0x1f ∷ 0x8b ∷ 8 ∷ []) octets then Some by.Gzip
    else if is_bzip2 octets then Some by.Bzip2
    else if begins (0xfd ∷ 55 ∷ 122 ∷ 88 ∷ 90 ∷ 0 ∷ []) octets then Some by.Xz
    else if begins (0x28 ∷ 0xb5 ∷ 0x2f ∷ 0xfd ∷ []) octets then Some by.Zstd
    else None

-- the name of the program that compresses so
abbrev pub compression_name : Compression → List ℕ
compression_name by.Gzip = codes "gzip"
compression_name by.Bzip2 = codes "bzip2"
compression_name by.Xz = codes "xz"
compression_name by.Zstd = codes "zstd"
