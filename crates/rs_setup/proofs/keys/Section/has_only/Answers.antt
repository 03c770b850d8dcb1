use Rattle.std.proofs.Common.{◌≡◌, ◌∙◌, ℕ, true, List, Bor, map, subst, sym, ap, string_bytes}
use Rattle.std.specs.List.{Contains, list_any}
use Rattle.std.specs.Str.{bytes_eq}
use Rattle.toml.specs.View.{members_view}
use Rattle.rs_setup.specs.Values.{HasOnly}
use Rattle.rs_setup.proofs.SetupLemmas.{known_key}
use Rattle.rs_setup.proofs.keys.Section.has_only.Goals as goal

pub loop-key-preserved : goal.loop-key-preserved
loop-key-preserved c =
    let known : List (List ℕ) = map (λ (one : Bor (List ℕ)). one.now) c.args.known.now in
    let found : list_any (λ (one : Bor (List ℕ)). bytes_eq one.now c.as_str.result.now) c.args.known.now ≡ true =
    sym c.contains.ensures.value ∙ c.if-not-contains.false in
    let among : Contains known (string_bytes c.in-Some.key.now) =
    subst (Contains known) c.as_str.ensures.value (known_key c.args.known.now c.as_str.result.now found) in
    λ rest_known. c.loop-key.invariant (subst (HasOnly known) (sym (ap members_view c.in-Some.ensures.steps)) (among, rest_known))
