-- The line that says why the program ends early (docs/MANUAL.md, "Texts").
use Rattle.std.specs.Prelude.{◌<◌, ℕ, ⊤, List, [], ◌++◌, Option, Some, codes, length, option_map, slice_get}
use Rattle.std.specs.Prelude.{string_bytes, unwrap_or}
use Rattle.std.specs.Borrow.{Bor}
use Rattle.rs_choice.specs.Plan.{Peer}
use Rattle.rs_program.specs.Paths.{path_in}
use Rattle.rs_program.specs.declared.ended.Ended.{Ended}
use Rattle.rs_program.specs.declared.ended.Ended.TheVariants.{Words, Setup, Unread, Memory, Run}
use Rattle.rs_host.specs.Line.{Text, named as named_by, one_line, out_of_memory, unread_line}
use Rattle.rs_host.specs.Refusal.{setup_line, words_text}
use Rattle.rs_options.specs.declared.options.Options.{Options}
use Rattle.rs_outlet.specs.declared.run_fault.RunFault.{RunFault}
use Rattle.rs_outlet.specs.declared.run_fault.RunFault.TheVariants as run
use Rattle.rs_setup.specs.declared.setup.Setup.{Setup as SetUp}

abbrev pub program : Text
program = codes "route_server"

-- a line begins with the program's name
abbrev pub named : Text → Text
named text = named_by program text

abbrev pub out_of_memory_line : Text
out_of_memory_line = named out_of_memory

-- the name of a peer, by its number
abbrev pub name_of : List Peer → ℕ → Text
name_of peers number = unwrap_or (option_map (λ peer. peer.name) (slice_get peers number)) []

-- the path of a client's dump
abbrev pub dump_path : SetUp → Options → ℕ → Text
dump_path set_up options client =
    path_in (string_bytes options.out) (name_of set_up.plan.value.peers client ++ codes ".mrt")

-- the path of a peer's recorded file
abbrev pub file_path : SetUp → ℕ → Text
file_path set_up peer = unwrap_or (option_map string_bytes (slice_get set_up.files.items peer)) []

abbrev pub run_line : RunFault → SetUp → Options → Text
run_line run.Memory set_up options = out_of_memory_line
run_line (run.Dump client) set_up options = named (codes "cannot write " ++ one_line (dump_path set_up options client))
run_line (run.Unsettled peer) set_up options =
    named (codes "peer " ++ (name_of set_up.plan.value.peers peer ++ codes " unsettled"))
run_line run.Report set_up options = named (codes "cannot write standard output")
run_line (run.Read peer) set_up options = unread_line program (file_path set_up peer)

-- the line for each reason why the program ends early; help, the version and the refusal of a command line are texts
-- of `clap`
abbrev pub line_of : Ended → Option (Bor SetUp) → Option (Bor Options) → Text
line_of (Words fault) set_up options = words_text program fault
line_of (Setup fault) set_up options = setup_line program fault
line_of (Unread path) set_up options = unread_line program (string_bytes path)
line_of Memory set_up options = out_of_memory_line
line_of (Run fault) (Some set_up) (Some options) = run_line fault set_up.now options.now
line_of (Run fault) set_up options = []

-- A run names a client of the plan, or an unsettled peer of the plan. If a read failed, the peer that it names has a
-- recorded file.
abbrev pub NamesPeer : RunFault → SetUp → Type 0
NamesPeer (run.Dump client) set_up = client < length set_up.plan.value.peers
NamesPeer (run.Unsettled peer) set_up = peer < length set_up.plan.value.peers
NamesPeer (run.Read peer) set_up = peer < length set_up.files.items
NamesPeer fault set_up = ⊤

-- if a run ended early, the setup and the options are there
abbrev pub CanTell : Ended → Option (Bor SetUp) → Option (Bor Options) → Type 0
CanTell (Run fault) (Some set_up) (Some options) = NamesPeer fault set_up.now
CanTell (Run fault) set_up options = ⊥
CanTell ended set_up options = ⊤
