-- How the program ends after a failed read of a recorded file (docs/LOOKING_GLASS.md, "Statuses and texts"); our
-- choice.
use Rattle.std.specs.Prelude.{◌≡◌}
use Rattle.rs_glass.specs.declared.fault.GlassFault.{GlassFault}
use Rattle.rs_glass.specs.declared.fault.GlassFault.TheVariants as glass
use Rattle.rs_glass_shell.specs.Status.{unanswered_by}
use Rattle.rs_glass_shell.specs.declared.unanswered.Unanswered.{Unanswered}
use Rattle.rs_glass_shell.specs.declared.unanswered.Unanswered.TheVariants.{Memory}
use Rattle.rs_host.specs.Unready.{NamesFileOf}
use Rattle.rs_host.specs.declared.unready.Unready.{Unready}
use Rattle.rs_setup.specs.declared.setup.Setup.{Setup as SetUp}

-- If a read failed, a file of the peer's recording is named, unless memory for that is refused.
abbrev pub EndsReading : GlassFault → SetUp → Unanswered → Type 0
EndsReading (glass.Read peer) set_up unanswered =
    (unready : Unready) × NamesFileOf set_up peer unready × (unanswered ≡ unanswered_by unready)
EndsReading glass.Memory set_up unanswered = unanswered ≡ Memory
