-- Client by client: what is kept, and what the report says of it. `rs_run` cites `stop-memory` and `Grows-none`.
use Rattle.std.proofs.Common.{◌≡◌, ℕ, zero, suc, refl, ◌+◌, ◌≤◌, List, [], ◌∷◌, ◌++◌, Option, Some, None, length, take, sym, ap, subst, ◌∙◌}
use Rattle.std.proofs.Common.{append_assoc, arith, Result, Ok, Err}
use Rattle.std.specs.Prelude.{slice_get, ◌<◌, IfErr, OnErr}
use Rattle.std.specs.Result.{IsErrAnd}
use Rattle.std.specs.List.{flat_map, enumerate_from}
use Rattle.std.specs.Option.{option_map}
use Rattle.std.proofs.lemmas.List.{append-nil, length-map, take_all}
use Rattle.std.proofs.lemmas.List.FromFn.{length-enumerate_from}
use Rattle.std.proofs.lemmas.Option.{slice_get-map}
use Rattle.rs_choice.specs.Plan.{Peer}
use Rattle.rs_dump.specs.Dump.{dumped}
use Rattle.rs_outlet.specs.Outlet.{KeptDump, Grows, KeepsTaken}
use Rattle.rs_outlet.specs.declared.run_fault.RunFault.{RunFault}
use Rattle.rs_outlet.specs.declared.run_fault.RunFault.TheVariants.{Memory, Unsettled, Dump, Report, Read}
use Rattle.rs_table.specs.Content.{TablesContent}
use Rattle.rs_table.specs.Table.{table_of}
use Rattle.rs_keep.specs.Kept.{dump_name, kept_dump_of, dumps_of, GrowsByBeginning, IsFaultAt, IsStop}
use Rattle.rs_keep.specs.TableLines.{row_count_of, row_counts, table_line, table_line_of, table_lines}
use Rattle.rs_keep.specs.Written.{TellsTaken}
use Rattle.rs_keep.proofs.ListingLemmas.{flat_map-one_more, lines-one_more, slice_get-enumerated, take-one_more}

-- what holds of one error holds of a result that is it
pub IfErr-same : {T E : Type 0} (P : E → Type 0) (fault : E) (result : Result T E) → IsErrAnd result (λ found. found ≡ fault) → P fault
    → IfErr result P
IfErr-same P fault (Ok value) same held = tt
IfErr-same P fault (Err found) same held = subst P (sym same) held

pub OnErr-always : {T E A : Type 0} (result : Result T E) → A → OnErr result A
OnErr-always (Ok value) held = tt
OnErr-always (Err fault) held = held

-- a told list grows twice
Grows-then : (old mid new : Option (List KeptDump)) (first second : List KeptDump) → Grows old mid first → Grows mid new second
    → Grows old new (first ++ second)
Grows-then None mid new first second before after = tt
Grows-then (Some kept) None new first second before after = absurd before
Grows-then (Some kept) (Some more) None first second before after = absurd after
Grows-then (Some kept) (Some more) (Some most) first second before after =
    after ∙ ap (λ dumps. dumps ++ second) before ∙ append_assoc kept first second

-- it grows by what a writer tells that it has taken
keeps-told : (old mid new : Option (List KeptDump)) (first : List KeptDump) (name octets : List ℕ) (taken : Option (List ℕ))
    → Grows old mid first → TellsTaken old taken octets → KeepsTaken mid new name taken
    → Grows old new (first ++ record { name = name; octets = octets } ∷ [])
keeps-told None mid new first name octets taken before told keeps = tt
keeps-told (Some kept) None new first name octets taken before told keeps = absurd before
keeps-told (Some kept) (Some more) new first name octets taken before told keeps =
    let P : Option (List ℕ) → Type 0 = λ taken. KeepsTaken (Some more) new name taken in
    Grows-then (Some kept) (Some more) new first (record { name = name; octets = octets } ∷ []) before (subst P told keeps)

-- the dump of one client more was kept
pub kept-one_more : (tables : TablesContent) (time client : ℕ) (peer : Peer) (old mid new : Option (List KeptDump)) (name octets : List ℕ)
    (taken : Option (List ℕ)) → slice_get tables.plan.peers client ≡ Some peer → name ≡ dump_name peer.name
    → octets ≡ dumped tables.plan client (table_of tables client) time
    → Grows old mid (take client (dumps_of tables time)) → TellsTaken old taken octets → KeepsTaken mid new name taken
    → Grows old new (take (client + 1) (dumps_of tables time))
kept-one_more tables time client peer old mid new name octets taken here name_is octets_are before told keeps =
    let of = kept_dump_of tables time in
    let dumps = dumps_of tables time in
    let dump : KeptDump = record { name = name; octets = octets } in
    let same : dump ≡ of (client, peer) = cc in
    let at_client : slice_get dumps client ≡ Some (of (client, peer)) =
    slice_get-map of (enumerate_from 0 tables.plan.peers) client
    ∙ ap (option_map of) (slice_get-enumerated tables.plan.peers client peer here) in
    let P : List KeptDump → Type 0 = λ all. Grows old new all in
    let all : take client dumps ++ dump ∷ [] ≡ take (client + 1) dumps =
    ap (λ last. take client dumps ++ last ∷ []) same ∙ sym (take-one_more dumps client (of (client, peer)) at_client) in
    subst P all (keeps-told old mid new (take client dumps) name octets taken before told keeps)

-- the dumps of all clients
pub kept-all : (tables : TablesContent) (time client : ℕ) → length tables.plan.peers ≤ client
    → take client (dumps_of tables time) ≡ dumps_of tables time
kept-all tables time client past =
    take_all client (dumps_of tables time) (omega (
      arith,
      length-map (enumerate_from 0 tables.plan.peers) (kept_dump_of tables time),
      length-enumerate_from 0 tables.plan.peers,
    ))

-- the report has the line of one table more
pub told-one_more : (tables : TablesContent) (client rows : ℕ) (peer : Peer) (base before after name : List ℕ)
    → slice_get tables.plan.peers client ≡ Some peer → name ≡ peer.name → rows ≡ length (table_of tables client)
    → before ≡ base ++ flat_map (table_line_of tables) (take client (enumerate_from 0 tables.plan.peers))
    → after ≡ before ++ table_line name rows
    → after ≡ base ++ flat_map (table_line_of tables) (take (client + 1) (enumerate_from 0 tables.plan.peers))
told-one_more tables client rows peer base before after name here name_is rows_are so_far added =
    let of = table_line_of tables in
    let same : table_line name rows ≡ of (client, peer) = ap (λ told. table_line told rows) name_is ∙ ap (table_line peer.name) rows_are in
    lines-one_more base before after (of (client, peer)) (flat_map of (take client (enumerate_from 0 tables.plan.peers)))
    (flat_map of (take (client + 1) (enumerate_from 0 tables.plan.peers))) so_far
    (added ∙ ap (λ line. before ++ line) same)
    (flat_map-one_more of (enumerate_from 0 tables.plan.peers) client (client, peer)
    (slice_get-enumerated tables.plan.peers client peer here))

-- it tells of all
pub told-all : (tables : TablesContent) (client : ℕ) (base text : List ℕ) → length tables.plan.peers ≤ client
    → text ≡ base ++ flat_map (table_line_of tables) (take client (enumerate_from 0 tables.plan.peers)) → text ≡ base ++ table_lines tables
told-all tables client base text past so_far =
    let all = take_all client (enumerate_from 0 tables.plan.peers) (omega (arith, length-enumerate_from 0 tables.plan.peers)) in
    so_far ∙ ap (λ told. base ++ flat_map (table_line_of tables) told) all

-- nothing was kept
pub Grows-none : (kept : Option (List KeptDump)) → Grows kept kept []
Grows-none None = tt
Grows-none (Some kept) = sym (append-nil kept)

-- all were, which is a beginning too
pub GrowsByBeginning-all : (old new : Option (List KeptDump)) (dumps : List KeptDump) → Grows old new dumps → GrowsByBeginning old new dumps
GrowsByBeginning-all old new dumps grown =
    let within : length dumps ≤ length dumps = omega arith in
    (length dumps, subst (λ some. Grows old new some) (sym (take_all (length dumps) dumps within)) grown)

-- memory was refused once a beginning of the dumps was kept
pub stop-memory : (tables : TablesContent) (time : ℕ) (old new : Option (List KeptDump)) (before after : ℕ) {T : Type 0}
    (result : Result T RunFault) → IsErrAnd result (λ fault. fault ≡ Memory)
    → GrowsByBeginning old new (dumps_of tables time) → after ≡ before → IfErr result (IsStop tables time old new before after)
stop-memory tables time old new before after (Ok value) is grown same = tt
stop-memory tables time old new before after (Err fault) is grown same =
    subst (IsStop tables time old new before after) (sym is) (grown, same)

-- there is a peer for each number below their count
pub peer-at : (peers : List Peer) (client : ℕ) → client < length peers → (peer : Peer) × (slice_get peers client ≡ Some peer)
peer-at [] client known = absurd (omega (arith, known))
peer-at (peer ∷ peers) zero known = (peer, refl)
peer-at (peer ∷ peers) (suc client) known = peer-at peers client (omega (arith, known))

-- a client's table has so many rows
pub row_count-at : (tables : TablesContent) (client : ℕ) (peer : Peer) → slice_get tables.plan.peers client ≡ Some peer
    → slice_get (row_counts tables) client ≡ Some (length (table_of tables client))
row_count-at tables client peer here =
    slice_get-map (row_count_of tables) (enumerate_from 0 tables.plan.peers) client
    ∙ ap (option_map (row_count_of tables)) (slice_get-enumerated tables.plan.peers client peer here)

-- the rows of all clients' tables are counted
pub length-counts : (tables : TablesContent) → length (row_counts tables) ≡ length tables.plan.peers
length-counts tables =
    omega (arith, length-map (enumerate_from 0 tables.plan.peers) (row_count_of tables), length-enumerate_from 0 tables.plan.peers)

pub counts-all : (tables : TablesContent) (client : ℕ) → length tables.plan.peers ≤ client
    → take client (row_counts tables) ≡ row_counts tables
counts-all tables client past =
    take_all client (row_counts tables) (omega (arith, past, length-counts tables))

-- the dumps of the clients before one were kept, and its own was not
pub stop-at : (tables : TablesContent) (time client before after : ℕ) (old new : Option (List KeptDump)) (fault : RunFault)
    → client < length tables.plan.peers → Grows old new (take client (dumps_of tables time))
    → IsFaultAt client (length (table_of tables client)) before after fault → IsStop tables time old new before after fault
stop-at tables time client before after old new Memory known grown is = ((client, grown), is)
stop-at tables time client before after old new (Dump at) known grown is =
    subst (λ (number : ℕ). IsStop tables time old new before after (Dump number)) (sym is.0) (known, grown, is.1)
stop-at tables time client before after old new (Unsettled peer) known grown is = absurd is
stop-at tables time client before after old new Report known grown is = absurd is
stop-at tables time client before after old new (Read peer) known grown is = absurd is

pub stop-client : (tables : TablesContent) (time client before after : ℕ) (old new : Option (List KeptDump)) (fault : RunFault) {T : Type 0}
    (result : Result T RunFault) → IsErrAnd result (λ found. found ≡ fault)
    → client < length tables.plan.peers → Grows old new (take client (dumps_of tables time))
    → IsFaultAt client (length (table_of tables client)) before after fault
    → IfErr result (IsStop tables time old new before after)
stop-client tables time client before after old new fault (Ok value) same known grown is = tt
stop-client tables time client before after old new fault (Err found) same known grown is =
    subst (IsStop tables time old new before after) (sym same) (stop-at tables time client before after old new fault known grown is)
