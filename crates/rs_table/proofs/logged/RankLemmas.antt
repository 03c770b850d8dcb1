-- Changes are in the order of their ranks: for `compare` of logged.rt.
use Rattle.std.proofs.Common.{◌≡◌, ℕ, ◌+◌, ◌*◌, ◌<◌, refl, ap, ◌∙◌, arith}
use Rattle.std.specs.Cmp.{nat_cmp_is, ranked}
use Rattle.std.specs.Ordering.{MatchOrdering, nat_cmp, ordering_then}
use Rattle.std.specs.declared.cmp.Ordering.{Ordering}
use Rattle.std.specs.declared.cmp.Ordering.TheVariants.{Less, Equal, Greater}
use Rattle.rs_table.specs.Gathered.{logged_cmp, rank_of}
use Rattle.rs_table.specs.Logged.{Logged}

-- numbers of two digits are in the order of their high digits, and then of their low ones
by_digits : (q r q' r' : ℕ) → r < 256 → r' < 256 → (s t : Ordering) → MatchOrdering s (q < q') (q ≡ q') (q' < q)
    → MatchOrdering t (r < r') (r ≡ r') (r' < r) → ordering_then s t ≡ nat_cmp (q * 256 + r) (q' * 256 + r')
by_digits q r q' r' small small' Less t high low = nat_cmp_is (q * 256 + r) (q' * 256 + r') Less (omega (arith, high, small, small'))
by_digits q r q' r' small small' Equal Less high low = nat_cmp_is (q * 256 + r) (q' * 256 + r') Less (omega (arith, high, low))
by_digits q r q' r' small small' Equal Equal high low = nat_cmp_is (q * 256 + r) (q' * 256 + r') Equal (omega (arith, high, low))
by_digits q r q' r' small small' Equal Greater high low = nat_cmp_is (q * 256 + r) (q' * 256 + r') Greater (omega (arith, high, low))
by_digits q r q' r' small small' Greater t high low = nat_cmp_is (q * 256 + r) (q' * 256 + r') Greater (omega (arith, high, small, small'))

digits : (q r q' r' : ℕ) → r < 256 → r' < 256 → ordering_then (nat_cmp q q') (nat_cmp r r') ≡ nat_cmp (q * 256 + r) (q' * 256 + r')
digits q r q' r' small small' =
    by_digits q r q' r' small small' (nat_cmp q q') (nat_cmp r r') (ranked q q' (nat_cmp q q') refl) (ranked r r' (nat_cmp r r') refl)

pub by_rank : (one other : Logged) → one.prefix.len < 256 → one.peer < 256 → other.prefix.len < 256 → other.peer < 256
    → logged_cmp one other ≡ nat_cmp (rank_of one) (rank_of other)
by_rank one other len peer len' peer' =
    ap (λ (s : Ordering). ordering_then s (nat_cmp one.peer other.peer))
    (digits one.prefix.address one.prefix.len other.prefix.address other.prefix.len len len')
    ∙ digits (one.prefix.address * 256 + one.prefix.len) one.peer (other.prefix.address * 256 + other.prefix.len) other.peer peer peer'
