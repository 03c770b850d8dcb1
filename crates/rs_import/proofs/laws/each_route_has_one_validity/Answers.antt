use Rattle.std.proofs.Common.{sym, subst}
use Rattle.rs_import.specs.declared.validity.Validity.{Validity}
use Rattle.rs_import.specs.Rpki.{HasValidity}
use Rattle.rs_import.proofs.ValidityLemmas.{has-value, value-of}
use Rattle.rs_import.proofs.laws.each_route_has_one_validity.Goals as goal

pub returns : goal.returns
returns c = λ vrps q origin v.
    (value-of vrps q origin v, λ is. subst (λ (w : Validity). HasValidity vrps q origin w) (sym is) (has-value vrps q origin))
