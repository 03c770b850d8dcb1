-- Each answer is one search, so that a wrong body is refused soon.
use Rattle.std.proofs.Common.{rules}
use Rattle.rs_types.proofs.attribute_type.AttributeType.row.Goals as goal

pub returns-in-MultiExitDisc : goal.returns-in-MultiExitDisc
returns-in-MultiExitDisc c = search rules

pub returns-in-Aggregator : goal.returns-in-Aggregator
returns-in-Aggregator c = search rules

pub returns-in-Communities : goal.returns-in-Communities
returns-in-Communities c = search rules

pub returns-in-MpUnreachNlri : goal.returns-in-MpUnreachNlri
returns-in-MpUnreachNlri c = search rules

pub returns-in-As4Aggregator : goal.returns-in-As4Aggregator
returns-in-As4Aggregator c = search rules

pub returns-in-As4Path : goal.returns-in-As4Path
returns-in-As4Path c = search rules

pub returns-in-AsPath : goal.returns-in-AsPath
returns-in-AsPath c = search rules

pub returns-in-AtomicAggregate : goal.returns-in-AtomicAggregate
returns-in-AtomicAggregate c = search rules

pub returns-in-LocalPref : goal.returns-in-LocalPref
returns-in-LocalPref c = search rules

pub returns-in-MpReachNlri : goal.returns-in-MpReachNlri
returns-in-MpReachNlri c = search rules

pub returns-in-NextHop : goal.returns-in-NextHop
returns-in-NextHop c = search rules

pub returns-in-Origin : goal.returns-in-Origin
returns-in-Origin c = search rules

pub returns-in-Unrecognized : goal.returns-in-Unrecognized
returns-in-Unrecognized c = search rules
