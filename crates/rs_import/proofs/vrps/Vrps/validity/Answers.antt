use Rattle.std.proofs.Common.{arith, ◌≡◌, ◌∙◌, sym, refl, length, ◌-◌, ◌<◌, false}
use Rattle.std.specs.List.{AllWithin}
use Rattle.rs_import.specs.Rpki.{is_covering, is_matching}
use Rattle.rs_import.proofs.VrpLemmas.{matching-covers, no_vrp, none-any, one-any}
use Rattle.rs_import.proofs.vrps.Vrps.validity.Goals as goal

pub some_matches-requires : goal.some_matches-requires
some_matches-requires c = c.first-first.ensures

pub returns-then-first-eq0 : goal.returns-then-first-eq0
returns-then-first-eq0 c =
    let q = c.args.prefix in
    let vrps = c.args.self.now in
    let none : c.first-first.result ≡ 0 = c.if-first-eq0.true in
    let apart : AllWithin (λ vrp. is_covering q vrp ≡ false) vrps 0 (length vrps) =
    λ k d low below. c.first-first.ensures.1 k d (omega (arith, none)) below in
    let covering = none-any (is_covering q) vrps apart in
    let matching = none-any (is_matching q c.args.origin) vrps (λ k d low below. matching-covers q c.args.origin _ (apart k d low below)) in
    rw (matching, covering) refl

pub returns-else-some_matches : goal.returns-else-some_matches
returns-else-some_matches c =
    let q = c.args.prefix in
    let vrps = c.args.self.now in
    let first = c.first-first.result in
    let some : 0 < first = omega (arith, c.if-first-eq0.false) in
    let covering = one-any (is_covering q) vrps (first - 1) (omega (arith, some, c.first-first.ensures.0))
    (c.first-first.ensures.2 some (first - 1) no_vrp (omega arith) (omega (arith, some))) in
    let matching = sym c.some_matches.ensures ∙ c.if-some_matches.false in
    rw (matching, covering) refl
