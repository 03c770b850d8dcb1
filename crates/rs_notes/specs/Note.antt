-- The texts of notes. Nothing here is from a standard: all of it is our choice.
use Rattle.std.specs.Prelude.{ℕ, [], ◌++◌, Option, None, Some, codes}
use Rattle.std.specs.Fmt.{decimal}
use Rattle.std.specs.Int.{to_be_bytes, w32}
use Rattle.std.specs.Net.Text.{ipv4_text}
use Rattle.rs_notes.specs.Format.{format_name}
use Rattle.rs_mrt.specs.declared.cut.Cut.{Cut}
use Rattle.rs_notes.specs.declared.hint.Hint.{Hint}
use Rattle.rs_notes.specs.declared.hint.Hint.TheVariants.{NotMrt, NoRecord}
use Rattle.rs_inventory.specs.declared.kind.Kind.{Kind}
use Rattle.rs_inventory.specs.declared.kind.Kind.TheVariants as kinds
use Rattle.rs_types.specs.declared.peer_id.PeerId.{PeerId}
use Rattle.rs_mrt.specs.declared.bounds.Tail.{Tail}
use Rattle.rs_mrt.specs.declared.bounds.Tail.TheVariants.{Strict, Lenient}
use Rattle.rs_host.specs.Line.{Text, one_line}

-- the kind of all records, if they are of one kind that explains the note
abbrev pub kind_text : Option Kind → Text
kind_text (Some kinds.TableDumpV2) = codes ", all TABLE_DUMP_V2"
kind_text (Some kinds.TwoOctet) = codes ", all of two-octet sessions"
kind_text (Some kinds.AddPath) = codes ", all of ADD-PATH sessions"
kind_text (Some kinds.Ipv6) = codes ", all of IPv6 peers"
kind_text (Some kind) = []
kind_text None = []

-- the text for a file of another format: its path, and the format's name
abbrev pub format_text : Text → Text → Text
format_text path format = one_line path ++ (codes " is " ++ (format ++ codes "; only uncompressed MRT is read"))

-- the text that says whose records are looked for
abbrev pub whose_text : PeerId → Text
whose_text peer = ipv4_text (to_be_bytes w32 peer.address) ++ (codes " AS " ++ decimal peer.asn)

-- how many records there are, and of what kind
abbrev pub count_text : ℕ → Option Kind → Text
count_text others kind = decimal others ++ (codes " of others" ++ kind_text kind)

-- the text for a file whose records are all of other peers: its path, whose records are looked for, and how many
-- there are
abbrev pub others_text : Text → Text → Text → Text
others_text path whose count =
    codes "no record of " ++ (whose ++ (codes " in " ++ (one_line path ++ (codes " (" ++ (count ++ codes ")")))))

-- the text of each note
abbrev pub text_of : Text → PeerId → Hint → Text
text_of path peer (NotMrt format) = format_text path (format_name format)
text_of path peer (NoRecord others kind) = others_text path (whose_text peer) (count_text others kind)

-- the text of a note about a peer of this name
abbrev pub note_of : Text → Text → PeerId → Hint → Text
note_of name path peer hint = codes "peer " ++ (name ++ (codes ": " ++ text_of path peer hint))

-- the text that says what is done with a record that is cut short
abbrev pub loss_text : Tail → Text
loss_text Strict = codes "lost"
loss_text Lenient = codes "left out"

-- the text on a file that ends within a record: its path, where the record begins, and how many octets of it are there
abbrev pub cut_note : Text → Cut → Tail → Text
cut_note path cut tail =
    one_line path ++ (codes " ends within its last record, which begins at octet "
    ++ (decimal cut.octet ++ (codes " (octets " ++ (loss_text tail
    ++ (codes ": " ++ (decimal cut.len ++ codes ")"))))))
