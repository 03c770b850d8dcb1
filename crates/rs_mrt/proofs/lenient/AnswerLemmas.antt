-- What the answers of a source say once the tail was applied to them: for `advance` of lenient.rt.
use Rattle.std.proofs.Common.{◌≡◌, Bool, true, false, List, [], Option, Some, None, Result, Ok, Err, refl}
use Rattle.rs_mrt.specs.declared.bounds.Tail.{Tail}
use Rattle.rs_mrt.specs.declared.bounds.Tail.TheVariants.{Strict, Lenient}
use Rattle.rs_mrt.specs.declared.fault.SourceFault.{SourceFault}
use Rattle.rs_mrt.specs.Record.{MrtRecord}
use Rattle.rs_mrt.specs.Source.{Advances}
use Rattle.rs_mrt.specs.Leniency.{Leniency, ComesBy, answer_at_end, answer_by, end_by}

-- an end stays one
end_stays : (tail : Tail) → None ≡ end_by tail None
end_stays Strict = refl
end_stays Lenient = refl

module _ {S : Type 0} (comes : S → List MrtRecord → Option SourceFault → Type 0) where
  -- no record may come before this end
  at_end : (old new : Leniency S) (shown : Option MrtRecord) (end : Option SourceFault) → shown ≡ None → ComesBy comes old [] end
      → Advances (ComesBy comes) old new shown (answer_at_end end)
  at_end old new None None none come = (none, come)
  at_end old new None (Some fault) none come = (none, come)
  at_end old new (Some r) None none come = (none, come)
  at_end old new (Some r) (Some fault) none come = (none, come)

  module _ (old new : S) (tail : Tail) where
    abbrev pub before : Leniency S
    before = record { source = old; tail = tail }

    abbrev pub after : Leniency S
    after = record { source = new; tail = tail }

    at_last : (shown : Option MrtRecord) (last : Option SourceFault) → shown ≡ None → comes old [] last
        → Advances (ComesBy comes) before after shown (answer_at_end (end_by tail last))
    at_last shown last none come = at_end before after shown (end_by tail last) none (last, come, refl)

    pub tail-advances : (shown : Option MrtRecord) (answer : Result Bool SourceFault) → Advances comes old new shown answer
        → Advances (ComesBy comes) before after shown (answer_by tail answer)
    tail-advances (Some r) (Ok true) says = λ later end may. (may.0, says later may.0 may.1, may.2)
    tail-advances None (Ok true) says = says
    tail-advances (Some r) (Ok false) says = (says.0, (None, says.1, end_stays tail))
    tail-advances None (Ok false) says = (says.0, (None, says.1, end_stays tail))
    tail-advances (Some r) (Err fault) says = at_last (Some r) (Some fault) says.0 says.1
    tail-advances None (Err fault) says = at_last None (Some fault) says.0 says.1
