-- The statuses with which both programs end (docs/MANUAL.md, "Statuses"; docs/LOOKING_GLASS.md, "Statuses and texts").
use Rattle.std.specs.Prelude.{ℕ}
use Rattle.rs_choice.specs.declared.fault.PlanFault.TheVariants as plan
use Rattle.rs_options.specs.declared.options.WordsFault.{WordsFault}
use Rattle.rs_options.specs.declared.options.WordsFault.TheVariants as words
use Rattle.rs_setup.specs.declared.setup.SetupFault.{SetupFault}
use Rattle.rs_setup.specs.declared.setup.SetupFault.TheVariants as setup

-- all is done, or help or the version was shown
abbrev pub done : ℕ
done = 0

-- the command line or the configuration is refused
abbrev pub refused : ℕ
refused = 1

-- a file, a folder or a device failed
abbrev pub failed : ℕ
failed = 2

-- memory was refused
abbrev pub out_of_memory : ℕ
out_of_memory = 3

-- a peer is unsettled in a run
abbrev pub unsettled : ℕ
unsettled = 4

-- a run isn't clean, though a clean one is asked for
abbrev pub not_clean : ℕ
not_clean = 5

-- the status if the words of a command line ask for nothing that can be done
abbrev pub words_status : WordsFault → ℕ
words_status (words.Help text) = done
words_status (words.Refused text) = refused
words_status words.Memory = out_of_memory

-- the status if a configuration is refused
abbrev pub setup_status : SetupFault → ℕ
setup_status (setup.Plan plan.Memory) = out_of_memory
setup_status setup.Memory = out_of_memory
setup_status fault = refused
