-- Each answer is one search, so that a wrong body is refused soon.
use Rattle.std.proofs.Common.{rules}
use Rattle.rs_mrt.proofs.fault.MrtFault.number.Goals as goal

pub returns-in-MicrosecondsCutShort : goal.returns-in-MicrosecondsCutShort
returns-in-MicrosecondsCutShort c = search

pub returns-in-BodyCutShort : goal.returns-in-BodyCutShort
returns-in-BodyCutShort c = search rules

pub returns-in-FieldsCutShort : goal.returns-in-FieldsCutShort
returns-in-FieldsCutShort c = search rules

pub returns-in-HeaderCutShort : goal.returns-in-HeaderCutShort
returns-in-HeaderCutShort c = search rules
