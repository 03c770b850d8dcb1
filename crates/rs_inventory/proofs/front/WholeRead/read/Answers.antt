use Rattle.std.proofs.Common.{◌≡◌, ◌<◌, ◌∙◌, [], false, drop, length, Ok, ap, sym, subst, ltb-true}
use Rattle.rs_mrt.specs.Reader.{ReadGives}
use Rattle.rs_inventory.specs.Front.{Rewound, RewoundGives}
use Rattle.rs_inventory.proofs.FrontLemmas.{asks-inner, held-gives, nothing-held}
use Rattle.rs_inventory.proofs.front.WholeRead.read.Goals as goal

pub returns-then-has_held-clause-gives : goal.returns-then-has_held-clause-gives
returns-then-has_held-clause-gives g c =
    let some : 0 < length c.args.self.now.held = ltb-true 0 (length c.args.self.now.held) (sym c.has_held.ensures ∙ c.if-has_held.true) in
    subst (λ (w : Rewound g.row.R.Denot). ReadGives (RewoundGives g.R.Read.gives c.args.self.now) (RewoundGives g.R.Read.gives w)
    (Ok c.give.result) c.give.new.into)
    (sym c.give.ensures.left)
    (held-gives g.R.Read.gives c.args.self.now c.give.result c.give.new.into c.give.ensures.octets some c.give.ensures.most)

pub returns-clause-gives : goal.returns-clause-gives
returns-clause-gives g c =
    let none = nothing-held c.args.self.now.held (sym c.has_held.ensures ∙ c.if-has_held.false) in
    let held : drop c.self.inside.given c.self.inside.front.octets ≡ [] =
    ap (λ (w : Rewound g.row.R.Denot). w.held) c.self.view_is ∙ none in
    let ended : c.self.inside.front.ended ≡ false =
    ap (λ (w : Rewound g.row.R.Denot). w.ended) c.self.view_is ∙ (sym c.has_ended.ensures ∙ c.if-has_ended.false) in
    let old : Rewound g.row.R.Denot =
    record {
      held = drop c.self.inside.given c.self.inside.front.octets;
      ended = c.self.inside.front.ended;
      inner =
          c.self.inside.inner;
    } in
    let new : Rewound g.row.R.Denot =
    record { held = drop c.self.inside.given c.self.inside.front.octets; ended = c.self.inside.front.ended; inner = c.read.new.self } in
    subst (λ (w : Rewound g.row.R.Denot). ReadGives (RewoundGives g.R.Read.gives w) (RewoundGives g.R.Read.gives new)
    c.read.result c.read.new.into) c.self.view_is
    (asks-inner g.R.Read.gives old new c.read.result c.read.new.into held ended held ended c.read.ensures.gives)
