-- What a program prints if it refuses a command line or a configuration (docs/MANUAL.md, "Texts").
use Rattle.std.specs.Prelude.{ℕ, ◌++◌, Option, None, Some, codes, string_bytes}
use Rattle.std.specs.Fmt.{decimal}
use Rattle.rs_choice.specs.FaultNumber.{number_of_fault, peer_of_fault}
use Rattle.rs_choice.specs.declared.fault.PlanFault.{PlanFault}
use Rattle.rs_choice.specs.declared.fault.PlanFault.TheVariants as plan
use Rattle.rs_host.specs.Line.{Text, named, one_line, out_of_memory}
use Rattle.rs_import_files.specs.declared.fault.ListFault.{ListFault}
use Rattle.rs_import_files.specs.declared.fault.ListFault.TheVariants as list
use Rattle.rs_options.specs.declared.options.WordsFault.{WordsFault}
use Rattle.rs_options.specs.declared.options.WordsFault.TheVariants as words
use Rattle.rs_setup.specs.declared.setup.SetupFault.{SetupFault}
use Rattle.rs_setup.specs.declared.setup.SetupFault.TheVariants as setup

-- the number of a fault, and of the peer at fault if there is one
abbrev pub numbers : ℕ → Option ℕ → Text
numbers fault None = decimal fault
numbers fault (Some peer) = decimal fault ++ (codes " at peer " ++ decimal peer)

-- the fault of a plan
abbrev pub plan_text : PlanFault → Text
plan_text plan.Memory = out_of_memory
plan_text fault = codes "plan fault P" ++ numbers (number_of_fault fault) (peer_of_fault fault)

-- the text about a key of the configuration
abbrev pub key_text : Text → Text → Text
key_text key what = codes "configuration: " ++ (one_line key ++ (codes " is " ++ what))

-- where a list of import policy is wrong, and why
abbrev pub fault_text : ListFault → Text
fault_text (list.Line number reason) =
    codes "line " ++ (decimal number ++ (codes ": " ++ string_bytes reason))
fault_text (list.Row number reason) =
    codes "row " ++ (decimal number ++ (codes ": " ++ string_bytes reason))
fault_text (list.Whole reason) = string_bytes reason
fault_text list.TooMany = codes "there are more than 4294967295 entries"
fault_text list.Memory = out_of_memory

-- the text about the list at a path
abbrev pub list_text : Text → ListFault → Text
list_text path fault = one_line (path ++ (codes ": " ++ fault_text fault))

-- why a configuration is refused
abbrev pub setup_text : SetupFault → Text
setup_text setup.NotToml = codes "configuration is not TOML"
setup_text (setup.Unknown key) = key_text (string_bytes key) (codes "unknown")
setup_text (setup.Missing key) = key_text (string_bytes key) (codes "missing")
setup_text (setup.NotValid key) = key_text (string_bytes key) (codes "not valid")
setup_text (setup.Plan fault) = plan_text fault
setup_text (setup.List path fault) = list_text (string_bytes path) fault
setup_text setup.Memory = out_of_memory

-- the line of a program about a refused configuration
abbrev pub setup_line : Text → SetupFault → Text
setup_line program fault = named program (setup_text fault)

-- the text about refused words; for help, the version and a refused command line it is the text of `clap`
abbrev pub words_text : Text → WordsFault → Text
words_text program (words.Help text) = string_bytes text
words_text program (words.Refused text) = string_bytes text
words_text program words.Memory = named program out_of_memory
