-- Numbers of four octets, one after another (RFC 6793 for AS numbers, RFC 1997 for communities).
use Rattle.std.specs.Prelude.{ℕ, zero, suc, List, [], ◌∷◌, drop}
use Rattle.byteorder.specs.Endian.{big_number}

-- the first `count` numbers that the octets spell
unfoldable pub numbers_at : ℕ → List ℕ → List ℕ
numbers_at zero octets = []
numbers_at (suc count) octets = big_number 4 octets ∷ numbers_at count (drop 4 octets)
