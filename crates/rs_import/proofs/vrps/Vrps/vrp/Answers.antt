use Rattle.std.proofs.Common.{◌∙◌, ap, arith, sym, ℕ, List, length, ◌<◌}
use Rattle.std.specs.Prelude.{slice_index_or}
use Rattle.rs_types.specs.declared.pattern.Pattern.{Pattern}
use Rattle.rs_types.specs.declared.vrp.Vrp.{Vrp}
use Rattle.rs_import.proofs.VrpLemmas.{length-vrps, vrp-at}
use Rattle.rs_import.proofs.vrps.Vrps.vrp.Goals as goal

pub pattern-pattern-requires : goal.pattern-pattern-requires
pattern-pattern-requires c =
    omega (arith, c.requires, ap length c.self.view_is, length-vrps c.self.inside.nesting c.self.inside.asns.items c.self.invariant)

pub index-requires : goal.index-requires
index-requires c =
    omega (
      arith,
      c.requires,
      ap length c.self.view_is,
      length-vrps c.self.inside.nesting c.self.inside.asns.items c.self.invariant,
      c.self.invariant,
      c.self.inside.asns.ok,
    )

pub returns : goal.returns
returns c =
    let patterns = c.self.inside.nesting in
    let asns = c.self.inside.asns.items in
    let place = c.args.place in
    let pattern = c.pattern-pattern.result in
    let asn = c.index.result.now in
    let inside : place < length patterns = omega (arith, c.requires, ap length c.self.view_is, length-vrps patterns asns c.self.invariant) in
    let one : Vrp = record { prefix = pattern.prefix; max_len = pattern.most; asn = asn } in
    let front = ap (λ (p : Pattern). (λ (a : ℕ). made p a) asn) c.pattern-pattern.ensures ∙ ap (λ (a : ℕ). made (slice_index_or patterns place pattern) a) c.index.ensures in
    front ∙ (sym (vrp-at patterns asns place pattern asn one c.self.invariant inside)
    ∙ ap (λ (l : List Vrp). slice_index_or l place one) c.self.view_is)
  where
    made : Pattern → ℕ → Vrp
    made p a = record { prefix = p.prefix; max_len = p.most; asn = a }
