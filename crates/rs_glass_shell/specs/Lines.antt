-- The line that says why a question isn't answered (docs/LOOKING_GLASS.md, "Statuses and texts").
use Rattle.std.specs.Prelude.{[], ◌++◌, codes, string_bytes}
use Rattle.rs_glass_shell.specs.declared.unanswered.Unanswered.{Unanswered}
use Rattle.rs_glass_shell.specs.declared.unanswered.Unanswered.TheVariants.{Words, Setup, NoPeer, SeveralPeers, Unread}
use Rattle.rs_glass_shell.specs.declared.unanswered.Unanswered.TheVariants.{AtFault, Unwritten, Unsettled, Closed, Output}
use Rattle.rs_glass_shell.specs.declared.unanswered.Unanswered.TheVariants.{Memory}
use Rattle.rs_host.specs.Line.{Text, named as named_by, one_line, out_of_memory, unread_line}
use Rattle.rs_host.specs.Refusal.{setup_line, words_text}

abbrev pub program : Text
program = codes "looking_glass"

-- a line begins with the program's name
abbrev pub named : Text → Text
named text = named_by program text

-- The line for each reason. For help, the version and a refused command line it is the text of `clap`; there is none
-- if a reader closed its pipe.
abbrev pub line_of : Unanswered → Text
line_of (Words fault) = words_text program fault
line_of (Setup fault) = setup_line program fault
line_of (NoPeer name) = named (codes "no peer is named " ++ one_line (string_bytes name))
line_of (SeveralPeers whose) = named (codes "AS number " ++ one_line (string_bytes whose))
line_of (Unread path) = unread_line program (string_bytes path)
line_of (AtFault what) = named (one_line (string_bytes what))
line_of (Unwritten path) = named (codes "cannot write " ++ one_line (string_bytes path))
line_of (Unsettled name) = named (codes "peer " ++ (one_line (string_bytes name) ++ codes " unsettled"))
line_of Closed = []
line_of Output = named (codes "cannot write standard output")
line_of Memory = named out_of_memory
