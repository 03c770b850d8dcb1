use Rattle.rs_explain.proofs.AgreementLemmas.{agrees}
use Rattle.rs_explain.proofs.laws.an_explanation_agrees_with_why.Goals as goal

pub returns : goal.returns
returns c = agrees
