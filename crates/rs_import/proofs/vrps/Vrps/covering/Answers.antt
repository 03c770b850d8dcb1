use Rattle.rs_import.specs.Rpki.{is_covering}
use Rattle.rs_import.proofs.SearchLemmas.{filter-start}
use Rattle.rs_import.proofs.VrpLemmas.{no_vrp}
use Rattle.rs_import.proofs.vrps.Vrps.covering.Goals as goal

pub returns : goal.returns
returns c =
    filter-start (is_covering c.args.prefix) (is_covering c.args.prefix) (λ vrp apart. apart) c.args.self.now no_vrp c.first.result
    c.first.ensures.0 c.first.ensures.1
