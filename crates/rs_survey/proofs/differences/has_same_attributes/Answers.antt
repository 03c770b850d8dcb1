-- Attributes are the same where they are written alike.
use Rattle.std.proofs.Common.{◌≡◌, ◌∙◌, ◌++◌, List, ℕ, Bool, true, Some, length, take, drop, ap, sym}
use Rattle.std.specs.Bool.{Decides}
use Rattle.std.proofs.lemmas.Bool.Decides.{Decides-eqb}
use Rattle.std.proofs.lemmas.List.{drop_at, take_at}
use Rattle.std.proofs.lemmas.Slice.Eq.{slice_eq-Decides}
use Rattle.rs_update.specs.Gathered.{attributes_of}
use Rattle.rs_update.specs.PathAttributes.{PathAttributes}
use Rattle.rs_update.specs.Section.{items_of}
use Rattle.rs_update.specs.Spelling.{written}
use Rattle.rs_survey.proofs.differences.has_same_attributes.Goals as goal

-- a test of the two parts of what was written one behind the other
tested : (xs ys all : List ℕ) (r : Bool) (n : ℕ) (front back : List ℕ) → all ≡ xs ++ ys → n ≡ length xs → front ≡ take n all
    → back ≡ drop n all → Decides r (front ≡ back) → Decides r (xs ≡ ys)
tested xs ys all r n front back is len first second decides =
    let first_is : front ≡ xs = first ∙ ap (take n) is ∙ take_at xs ys n (sym len) in
    let second_is : back ≡ ys = second ∙ ap (drop n) is ∙ drop_at xs ys n (sym len) in
    (λ yes. sym first_is ∙ decides.0 yes ∙ second_is, λ same. decides.1 (first_is ∙ same ∙ sym second_is))

-- what is written tells the attributes
told : (one other : PathAttributes) → attributes_of (items_of (written one)) ≡ Some one
    → attributes_of (items_of (written other)) ≡ Some other
    → written one ≡ written other → one ≡ other
told one other first second same =
    let both : Some one ≡ Some other = sym first ∙ ap (λ octets. attributes_of (items_of octets)) same ∙ second in
    cc both

pub returns-clause-same : goal.returns-clause-same
returns-clause-same c = λ yes.
    told c.args.one.now c.args.other.now c.the_attributes_of_a_route_read_back.ensures.same
    c.the_attributes_of_a_route_read_back-2.ensures.same
    ((tested (written c.args.one.now) (written c.args.other.now) c.deref.result.now c.eq.result c.written_len-len.result
    c.split_at.result.0.now c.split_at.result.1.now
    (c.deref.ensures.value ∙ c.in-Ok-Ok.ensures'.ok
    ∙ ap (λ front. front ++ written c.args.other.now) (c.in-Ok-Ok.ensures.ok ∙ ap (λ front. front ++ written c.args.one.now)
    c.clear.ensures.items))
    c.written_len-len.ensures.value c.split_at.ensures.front c.split_at.ensures.back
    (slice_eq-Decides Decides-eqb _ _ _ c.eq.ensures)).0 yes)

pub returns-clause-differ : goal.returns-clause-differ
returns-clause-differ c = λ no same.
    let yes : c.eq.result ≡ true =
    (tested (written c.args.one.now) (written c.args.other.now) c.deref.result.now c.eq.result c.written_len-len.result
    c.split_at.result.0.now c.split_at.result.1.now
    (c.deref.ensures.value ∙ c.in-Ok-Ok.ensures'.ok
    ∙ ap (λ front. front ++ written c.args.other.now) (c.in-Ok-Ok.ensures.ok ∙ ap (λ front. front ++ written c.args.one.now)
    c.clear.ensures.items))
    c.written_len-len.ensures.value c.split_at.ensures.front c.split_at.ensures.back
    (slice_eq-Decides Decides-eqb _ _ _ c.eq.ensures)).1 (ap written same) in
    cc (no, yes)
