-- Proofs of the laws.
use Rattle.std.proofs.Common.{◌≡◌, ℕ, ◌+◌, ◌^◌, ◌<◌, ◌≤◌, List, [], ◌∷◌, ◌++◌, length, take, map}
use Rattle.std.proofs.Common.{sym, arith, lit<, length-append, length-take-le}
use Rattle.std.specs.List.{flat_map, enumerate_from, AllByRecursion}
use Rattle.std.proofs.lemmas.List.{append-nil}
use Rattle.rs_mrt.specs.Endian.{big_bytes}
use Rattle.rs_mrt.specs.Record.{IsRecord, record_spelling}
use Rattle.rs_update.specs.Prefix.{octets_for}
use Rattle.rs_update.proofs.fields.WrittenPrefix.{spelled_prefix-spells}
use Rattle.rs_table.specs.Table.{TableRow}
use Rattle.rs_records.specs.PeerIndex.{index_record}
use Rattle.rs_dump.specs.Dump.{row_record, dump_records, dumped}
use Rattle.rs_dump.specs.Laws.{PrefixIsSpelled, DumpIsItsRecords, Fits}
use Rattle.rs_records.specs.Rib.{rib_entry}
use Rattle.rs_records.proofs.PeerLemmas.{length_peer_index}

-- ---- prefixes

pub prefix_is_spelled : PrefixIsSpelled
prefix_is_spelled prefix fits is = spelled_prefix-spells prefix fits is

-- ---- records

row_fits : (time place : ℕ) (row : TableRow) → time < 2 ^ 32 → Fits row → IsRecord (row_record time (place, row))
row_fits time place row fits fit =
    let count = octets_for row.prefix.len in
    let within = fit.prefix in
    let few : count ≤ 4 = omega arith in
    let address = take count (big_bytes 4 row.prefix.address) in
    record {
      time = fits;
      kind = lit< tt;
      subtype = lit< tt;
      body = omega (
        arith,
        length-take-le count (big_bytes 4 row.prefix.address) few,
        length-append address (big_bytes 2 1),
        length-append (address ++ big_bytes 2 1) (rib_entry row.route),
        fit.attributes,
      );
    }

rows_fit : (time from : ℕ) (rows : List TableRow) → time < 2 ^ 32 → AllByRecursion Fits rows
    → AllByRecursion IsRecord (map (row_record time) (enumerate_from from rows))
rows_fit time from [] fits each = tt
rows_fit time from (row ∷ rows) fits each = (row_fits time from row fits each.0, rows_fit time (from + 1) rows fits each.1)

pub dump_is_its_records : DumpIsItsRecords
unfolding dumped
dump_is_its_records plan client rows time peers name each fits =
    let index : IsRecord (index_record plan client time) = record {
      time = fits;
      kind = lit< tt;
      subtype = lit< tt;
      body = omega (arith, length_peer_index plan client);
    } in
    record {
      spelled = sym (append-nil (flat_map record_spelling (dump_records plan client rows time)));
      fit = (index, rows_fit time 0 rows fits each);
      longest = λ r after is same. cc;
    }
