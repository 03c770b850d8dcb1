-- Each answer is one search, so that a wrong body is refused soon.
use Rattle.std.proofs.Common.{rules}
use Rattle.rs_explain.proofs.refusal.ruling.Goals as goal

pub returns-else-has_large_community-3 : goal.returns-else-has_large_community-3
returns-else-has_large_community-3 c = search rules

pub returns-then-by_name : goal.returns-then-by_name
returns-then-by_name c = search rules

pub returns-then-has_community : goal.returns-then-has_community
returns-then-has_community c = search rules

pub returns-then-has_large_community : goal.returns-then-has_large_community
returns-then-has_large_community c = search rules

pub returns-then-has_community-2 : goal.returns-then-has_community-2
returns-then-has_community-2 c = search rules

pub returns-then-has_large_community-2 : goal.returns-then-has_large_community-2
returns-then-has_large_community-2 c = search rules

pub returns-then-has_community-3 : goal.returns-then-has_community-3
returns-then-has_community-3 c = search rules

pub returns-then-has_large_community-3 : goal.returns-then-has_large_community-3
returns-then-has_large_community-3 c = search rules
