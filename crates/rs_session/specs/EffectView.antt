-- The effect of a record as a value.
use Rattle.std.specs.Prelude.{◌≡◌, false}
use Rattle.rs_change.specs.Change.{is_read}
use Rattle.rs_session.specs.Effect.{RecordEffect, PassesOver, Gives, Ends}
use Rattle.rs_session.specs.declared.effect.Effect.{Effect}
use Rattle.rs_session.specs.declared.effect.Effect.TheVariants as effects

abbrev pub effect_value : Effect → RecordEffect
effect_value effects.PassesOver = PassesOver
effect_value (effects.Gives changes) = Gives changes
effect_value (effects.Ends reason) = Ends reason

-- the effect is not that records cannot be read, since no record has that effect
abbrev pub IsRecorded : Effect → Type 0
IsRecorded (effects.Ends reason) = is_read reason ≡ false
IsRecorded effect = Unit {0}
