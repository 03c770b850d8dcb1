use Rattle.std.proofs.Common.{◌≡◌, ◌∙◌, ◌||◌, Bool, refl, sym, ap}
use Rattle.rs_update.specs.Concerns.{field_concerns}
use Rattle.rs_update.proofs.message.ConcernLemmas.{lengths_concern, parts_of_update}
use Rattle.rs_update.proofs.concerns.update_concerns.Goals as goal
use Rattle.rs_update.proofs.concerns.update_concerns.Goals.{then-closes, else-closes}

pub returns-in_default : goal.returns-in_default
returns-in_default c = sym (lengths_concern c.args.errors c.args.prefix c.args.body.now c.in_default.field-0 c.in_default.ensures.fault)

pub returns-then-field_concerns : goal.returns-then-field_concerns
returns-then-field_concerns c =
    let fields = c.in-Ok.fields in
    let are = c.in-Ok.ensures in
    let both : c.if-closes.value ≡ (c.closes.result || field_concerns c.args.prefix fields.withdrawn.now) =
    elim c.if-closes.branch [
      | then-closes w ↦ rw (w.value-is, w.if-closes.true) refl
      | else-closes w ↦ rw (w.value-is, w.if-closes.false) w.field_concerns.ensures
    ] in
    let whole = parts_of_update c.args.errors c.args.prefix c.args.body.now fields.withdrawn.now fields.section.now fields.nlri.now
    c.if-closes.value c.closes.result are.withdrawn are.section are.nlri are.lengths c.closes.ensures both in
    c.if-field_concerns.true ∙ sym (ap (λ (b : Bool). b || field_concerns c.args.prefix fields.nlri.now) c.if-field_concerns.true) ∙ whole

pub returns-else-field_concerns : goal.returns-else-field_concerns
returns-else-field_concerns c =
    let fields = c.in-Ok.fields in
    let are = c.in-Ok.ensures in
    let both : c.if-closes.value ≡ (c.closes.result || field_concerns c.args.prefix fields.withdrawn.now) =
    elim c.if-closes.branch [
      | then-closes w ↦ rw (w.value-is, w.if-closes.true) refl
      | else-closes w ↦ rw (w.value-is, w.if-closes.false) w.field_concerns.ensures
    ] in
    let whole = parts_of_update c.args.errors c.args.prefix c.args.body.now fields.withdrawn.now fields.section.now fields.nlri.now
    c.if-closes.value c.closes.result are.withdrawn are.section are.nlri are.lengths c.closes.ensures both in
    c.field_concerns-else-field_concerns.ensures ∙ sym (ap (λ (b : Bool). b || field_concerns c.args.prefix fields.nlri.now)
    c.if-field_concerns.false) ∙ whole
