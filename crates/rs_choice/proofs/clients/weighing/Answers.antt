use Rattle.std.proofs.Common.{◌≡◌, ◌∙◌, ap, arith, inl, inr, ℕ, List, length, ◌++◌, ◌∷◌, [], Some, below_more}
use Rattle.std.specs.List.{Contains}
use Rattle.std.specs.Prelude.{slice_get}
use Rattle.std.proofs.lemmas.List.{length_push}
use Rattle.std.proofs.lemmas.List.Elements.{All-push, Contains-append_left, Contains-append_right}
use Rattle.std.proofs.lemmas.Option.{get_or_from_slice_get, slice_get_within}
use Rattle.rs_choice.specs.declared.neighbour_groups.Group.{Group}
use Rattle.rs_choice.specs.Sharing.{Weighs}
use Rattle.rs_choice.proofs.Members.{contains_at}
use Rattle.std.proofs.lemmas.Bool.{iff_false}
use Rattle.rs_choice.proofs.clients.weighing.Goals as goal
use Rattle.rs_choice.proofs.clients.weighing.Goals.{then-group, else-group+else-is_first}

contains_last : (xs : List ℕ) (last x : ℕ) → last ≡ x → Contains (xs ++ last ∷ []) x
contains_last xs last x same = Contains-append_right xs (last ∷ []) x (0, omega arith, same)

pub loop-number-preserved : goal.loop-number-preserved
loop-number-preserved c =
    let fit = c.args.fit.now in
    let groups = c.args.groups.now in
    let first = c.args.first.now in
    let n = c.loop-number.number in
    let so_far = c.loop-number.weighing in
    let one = c.group-group.result in
    elim c.if-group.branch [
      | then-group w ↦
          let place = w.place.result in
          let at : slice_get fit one.place ≡ Some place = rw w.from.ensures at w.place.ensures.value in
          rw (w.weighing-is, w.push.ensures) (record {
            few = omega (arith, length_push so_far place, c.loop-number.invariant.few);
            among = All-push (λ place. Contains fit place) so_far place c.loop-number.invariant.among
                (contains_at fit one.place place at);
            all = below_more (λ i. (group : Group) → slice_get groups i ≡ Some group → Weighs group first → (p : ℕ)
                → slice_get fit group.place ≡ Some p → Contains (so_far ++ place ∷ []) p) n
                (λ i below group at_group weighs p at_p. Contains-append_left so_far (place ∷ []) p
                (c.loop-number.invariant.all i below group at_group weighs p at_p))
                (λ group at_group weighs p at_p.
                let same : one ≡ group = cc (c.group-group.ensures, at_group) in
                let at_one : slice_get fit one.place ≡ Some p = ap (λ (group : Group). slice_get fit group.place) same ∙ at_p in
                contains_last so_far place p (cc (at, at_one)));
          })
      | else-group+else-is_first w ↦
          rw w.weighing-is (record {
            few = omega (arith, c.loop-number.invariant.few);
            among = c.loop-number.invariant.among;
            all = below_more (λ i. (group : Group) → slice_get groups i ≡ Some group → Weighs group first → (p : ℕ)
                → slice_get fit group.place ≡ Some p → Contains so_far p) n
                (λ i below group at_group weighs p at_p. c.loop-number.invariant.all i below group at_group weighs p at_p)
                (λ group at_group weighs p at_p.
                let same : one ≡ group = cc (c.group-group.ensures, at_group) in
                let weighs_one : Weighs one first = rw (← same) at weighs in
                absurd (elim weighs_one [
                  | inl keeps ↦ cc (keeps, w.if-group.false)
                  | inr is ↦ iff_false w.is_first.ensures w.if-is_first.false is
                ]));
          })
    ]

pub returns : goal.returns
returns c =
    let end : c.loop-number.number ≡ length c.args.groups.now =
    omega (arith, c.loop-number.auto.number-end, c.loop-number-test.false, c.len-number-end.ensures.value) in
    record {
      among = c.loop-number.invariant.among;
      all = λ i group at. c.loop-number.invariant.all i (let within = slice_get_within c.args.groups.now i group at in
          omega (arith, within, end)) group at;
    }

pub place-requires : goal.place-requires
place-requires c =
    let groups = c.args.groups.now in
    let n = c.loop-number.number in
    let one = c.group-group.result in
    let within = slice_get_within groups n one c.group-group.ensures in
    let is = get_or_from_slice_get groups n one one c.group-group.ensures in
    omega (arith, c.requires n one within, ap (λ (group : Group). group.place) is, c.from.ensures)

pub push-requires-clause-room : goal.push-requires-clause-room
push-requires-clause-room c =
    omega (arith, c.loop-number.invariant.few, c.loop-number-test.true, c.len-number-end.ensures.bound)

pub push-requires-clause-small : goal.push-requires-clause-small
push-requires-clause-small c = c.place.ensures.bound
