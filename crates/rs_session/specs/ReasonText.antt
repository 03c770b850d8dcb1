-- The text for a reason why a session closed. Nothing here is from a standard: all of it is our choice.
use Rattle.std.specs.Prelude.{ℕ, List, ◌++◌, codes}
use Rattle.std.specs.Fmt.{decimal}
use Rattle.rs_change.specs.declared.word.Reason.{Reason}
use Rattle.rs_change.specs.declared.word.Reason.TheVariants.{EndOfFile, Bgp, Mrt, Memory, Read}

-- the codes of a message at fault, the number of a fault of the recording, or a word for the reason
abbrev pub reason_text : Reason → List ℕ
reason_text EndOfFile = codes "end"
reason_text (Bgp code subcode) = codes "bgp " ++ (decimal code ++ (codes "/" ++ decimal subcode))
reason_text (Mrt number) = codes "mrt M" ++ decimal number
reason_text Memory = codes "memory"
reason_text Read = codes "read"
