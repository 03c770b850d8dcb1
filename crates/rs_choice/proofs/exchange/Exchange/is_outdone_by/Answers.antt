-- What stands for neighbour AS and MED in front of the first three steps doesn't matter to them.
use Rattle.std.proofs.Common.{◌∙◌, sym, inl, inr, subst}
use Rattle.std.specs.Prelude.{◌↔◌, IsTrue}
use Rattle.std.proofs.lemmas.Bool.{iff_false, false≢true}
use Rattle.rs_choice.specs.Comparison.{IsAhead, IsLevel, OutdoesByMed}
use Rattle.rs_choice.specs.Held.{held_standing}
use Rattle.rs_choice.proofs.exchange.Exchange.is_outdone_by.Goals as goal

pub returns-then-is_ahead_of : goal.returns-then-is_ahead_of
returns-then-is_ahead_of c =
    let ahead = subst (IsAhead c.args.best.now) c.standing_without_med-front.ensures (c.is_ahead_of.ensures.0 c.if-is_ahead_of.true) in
    (λ _. inl ahead, λ _. c.if-is_ahead_of.true)

pub returns-then-is_level_with : goal.returns-then-is_level_with
returns-then-is_level_with c =
    let best = c.args.best.now in
    let standing = held_standing c.args.self.now c.args.one.now in
    let not_ahead : IsAhead best standing → ⊥ =
    subst (λ front. IsAhead best front → ⊥) c.standing_without_med-front.ensures
    (iff_false c.is_ahead_of.ensures c.if-is_ahead_of.false) in
    let level : IsLevel best standing =
    subst (IsLevel best) c.standing_without_med-front.ensures (c.is_level_with.ensures.0 c.if-is_level_with.true) in
    let by_med =
    subst (λ one. IsTrue c.outdoes_by_med.result ↔ OutdoesByMed best one) c.held_standing.ensures c.outdoes_by_med.ensures in (
      λ yes. inr (level, by_med.0 yes),
      λ outdoes. elim outdoes [ inl ahead ↦ absurd (not_ahead ahead) | inr both ↦ by_med.1 both.1 ],
    )

pub returns-else-is_level_with : goal.returns-else-is_level_with
returns-else-is_level_with c =
    let best = c.args.best.now in
    let standing = held_standing c.args.self.now c.args.one.now in
    let not_ahead : IsAhead best standing → ⊥ =
    subst (λ front. IsAhead best front → ⊥) c.standing_without_med-front.ensures
    (iff_false c.is_ahead_of.ensures c.if-is_ahead_of.false) in
    let not_level : IsLevel best standing → ⊥ =
    subst (λ front. IsLevel best front → ⊥) c.standing_without_med-front.ensures
    (iff_false c.is_level_with.ensures c.if-is_level_with.false) in (
      λ yes. absurd (false≢true (sym c.if-is_level_with.false ∙ yes)),
      λ outdoes. elim outdoes [ inl ahead ↦ absurd (not_ahead ahead) | inr both ↦ absurd (not_level both.0) ],
    )
