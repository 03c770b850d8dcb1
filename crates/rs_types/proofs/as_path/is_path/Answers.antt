use Rattle.std.proofs.Common.{◌∙◌, sym, ap, List, ℕ}
use Rattle.std.specs.Option.{option_map}
use Rattle.rs_types.specs.PathAttributes.{PathSegment}
use Rattle.rs_types.proofs.as_path.PathWalkLemmas.{is_path-step, is_path-end}
use Rattle.rs_types.proofs.as_path.is_path.Goals as goal

pub loop-front-preserved : goal.loop-front-preserved
loop-front-preserved c =
    sym (is_path-step c.loop-front.rest.now c.in-Some.front.1.now
    (ap (option_map (λ (split : PathSegment × List ℕ). split.1)) c.in-Some.ensures)).0 ∙ c.loop-front.invariant

pub loop-front-smaller : goal.loop-front-smaller
loop-front-smaller c =
    (is_path-step c.loop-front.rest.now c.in-Some.front.1.now
    (ap (option_map (λ (split : PathSegment × List ℕ). split.1)) c.in-Some.ensures)).1

pub returns : goal.returns
returns c = c.is_empty.ensures ∙ sym (is_path-end c.loop-front.rest.now
    (ap (option_map (λ (split : PathSegment × List ℕ). split.1)) c.in_default.ensures)) ∙ c.loop-front.invariant
