-- Each answer is one search, so that a wrong body is refused soon.
use Rattle.std.proofs.Common.{rules}
use Rattle.rs_update.proofs.fault.subcode_of.Goals as goal

pub returns-in-AttributeFlags : goal.returns-in-AttributeFlags
returns-in-AttributeFlags c = search rules

pub returns-in-AttributeLength : goal.returns-in-AttributeLength
returns-in-AttributeLength c = search rules

pub returns-in-InvalidNetworkField : goal.returns-in-InvalidNetworkField
returns-in-InvalidNetworkField c = search rules

pub returns-in-InvalidNextHop : goal.returns-in-InvalidNextHop
returns-in-InvalidNextHop c = search rules

pub returns-in-InvalidOrigin : goal.returns-in-InvalidOrigin
returns-in-InvalidOrigin c = search rules

pub returns-in-MalformedAsPath : goal.returns-in-MalformedAsPath
returns-in-MalformedAsPath c = search rules

pub returns-in-MalformedAttributeList : goal.returns-in-MalformedAttributeList
returns-in-MalformedAttributeList c = search rules

pub returns-in-MissingWellKnown : goal.returns-in-MissingWellKnown
returns-in-MissingWellKnown c = search rules

pub returns-in-UnrecognizedWellKnown : goal.returns-in-UnrecognizedWellKnown
returns-in-UnrecognizedWellKnown c = search rules
