use Rattle.std.proofs.Common.{◌≡◌, ◌≢◌, ◌+◌, ◌-◌, ◌<◌, [], length, Ok, Err, true, false, refl, ap, sym, ◌∙◌, arith, inl, rules}
use Rattle.std.proofs.lemmas.Bool.{eqb-true, eqb-false}
use Rattle.std.proofs.lemmas.List.{nil_from_length}
use Rattle.rs_mrt.specs.declared.fault.MrtFault.TheVariants.{HeaderCutShort}
use Rattle.byteorder.specs.Endian.{big_number}
use Rattle.rs_mrt.specs.declared.fault.SourceFault.TheVariants.{Mrt, Read}
use Rattle.std.proofs.lemmas.Result.{err_from_is_err_and}
use Rattle.rs_mrt.specs.Reader.{FileEnds, ReadFails}
use Rattle.rs_mrt.specs.Bounds.{is_time_later}
use Rattle.rs_mrt.specs.Inflow.{answer_at, answer_behind}
use Rattle.rs_mrt.specs.Record.{length_field}
use Rattle.rs_mrt.proofs.record_reader.InflowLemmas.{Fills-then}
use Rattle.rs_mrt.proofs.record_reader.FindLemmas.{short-header, short-body, short-skip, found-front, later-came, field-filled}
use Rattle.rs_mrt.proofs.record_reader.FindLemmas.{field-read, rest-header, time-read}
use Rattle.rs_mrt.proofs.record_reader.UntilLemmas.{later-header, not-later-before, time-filled}
use Rattle.rs_mrt.proofs.record_reader.find_front.Goals as goal

pub returns-in_err-fill-2-clause-finds : goal.returns-in_err-fill-2-clause-finds
returns-in_err-fill-2-clause-finds g c =
    let R = g.R.Read in
    let p = err_from_is_err_and c.from_residual-in_err-fill-2.result c.from_residual-in_err-fill-2.ensures.1 in
    let header = rw c.if-not-branch.false at c.in_ok-fill.ensures.fills in
    let long = rw c.if-not-branch.false at c.in_ok-fill.ensures.enough in
    let in_time : is_time_later c.args.until (big_number 4 c.fill.new.self) ≡ false =
    time-read c.args.until c.octets-header.result.now c.fill.new.self c.read_u32.result c.is_later.result c.is_later.ensures
    c.read_u32.ensures c.octets-header.ensures.value ∙ c.if-is_later.false in
    let field : c.read_u32-length.result ≡ length_field c.fill.new.self =
    field-read c.octets-header.result.now c.fill.new.self c.read_u32-length.result c.read_u32-length.ensures
    c.octets-header.ensures.value in
    let short : length c.fill-2.new.self < 12 + length_field c.fill.new.self =
    omega (arith, field, c.min-front.ensures, c.in_err-fill-2.ensures.enough) in
    rw (p.1, p.2)
    (short-body R.gives R.failures c.args.until c.args.inlet.now c.fill.new.inlet c.fill-2.new.inlet
    c.args.window.now c.fill.new.self c.fill-2.new.self
    ReadFails c.in_err-fill-2.field-0.0
    header long in_time c.in_err-fill-2.ensures.fills short)

pub returns-then-not-branch-2-clause-finds : goal.returns-then-not-branch-2-clause-finds
returns-then-not-branch-2-clause-finds g c =
    let R = g.R.Read in
    let header = rw c.if-not-branch.false at c.in_ok-fill.ensures.fills in
    let long = rw c.if-not-branch.false at c.in_ok-fill.ensures.enough in
    let in_time : is_time_later c.args.until (big_number 4 c.fill.new.self) ≡ false =
    time-read c.args.until c.octets-header.result.now c.fill.new.self c.read_u32.result c.is_later.result c.is_later.ensures
    c.read_u32.ensures c.octets-header.ensures.value ∙ c.if-is_later.false in
    let fills = rw c.if-not-branch-2.true at c.in_ok-fill-2.ensures.fills in
    let enough = rw c.if-not-branch-2.true at c.in_ok-fill-2.ensures.enough in
    let field : c.read_u32-length.result ≡ length_field c.fill.new.self =
    field-read c.octets-header.result.now c.fill.new.self c.read_u32-length.result c.read_u32-length.ensures
    c.octets-header.ensures.value in
    let short : length c.fill-2.new.self < 12 + length_field c.fill.new.self = omega (arith, field, c.min-front.ensures, enough) in
    short-body R.gives R.failures c.args.until c.args.inlet.now c.fill.new.inlet c.fill-2.new.inlet
    c.args.window.now c.fill.new.self c.fill-2.new.self
    FileEnds (record {}) header long in_time fills short

pub returns-in_err-skip-clause-finds : goal.returns-in_err-skip-clause-finds
returns-in_err-skip-clause-finds g c =
    let R = g.R.Read in
    let p = err_from_is_err_and c.from_residual-in_err-skip.result c.from_residual-in_err-skip.ensures.1 in
    let header = rw c.if-not-branch.false at c.in_ok-fill.ensures.fills in
    let long = rw c.if-not-branch.false at c.in_ok-fill.ensures.enough in
    let in_time : is_time_later c.args.until (big_number 4 c.fill.new.self) ≡ false =
    time-read c.args.until c.octets-header.result.now c.fill.new.self c.read_u32.result c.is_later.result c.is_later.ensures
    c.read_u32.ensures c.octets-header.ensures.value ∙ c.if-is_later.false in
    let fills = rw c.if-not-branch-2.false at c.in_ok-fill-2.ensures.fills in
    let enough = rw c.if-not-branch-2.false at c.in_ok-fill-2.ensures.enough in
    let still_in_time : is_time_later c.args.until (big_number 4 c.fill-2.new.self) ≡ false =
    time-filled c.args.until c.fill.new.self c.fill-2.new.self fills.piece long fills.filled ∙ in_time in
    let both = Fills-then R.gives R.failures c.args.inlet.now c.fill.new.inlet c.fill-2.new.inlet c.args.window.now c.fill.new.self
    c.fill-2.new.self (Ok true) header fills in
    let field : c.read_u32-length.result ≡ length_field c.fill.new.self =
    field-read c.octets-header.result.now c.fill.new.self c.read_u32-length.result c.read_u32-length.ensures
    c.octets-header.ensures.value in
    let still : length_field c.fill-2.new.self ≡ length_field c.fill.new.self =
    field-filled c.fill.new.self c.fill-2.new.self fills.piece long fills.filled in
    let wanted = c.read_u32-length.result - c.min-front.result in
    rw (p.1, p.2)
    (short-skip R.gives R.failures c.args.until c.args.inlet.now c.fill-2.new.inlet c.skip.new.self
    c.args.window.now c.fill-2.new.self wanted ReadFails
    c.in_err-skip.field-0.0
    both (omega (arith, enough)) still_in_time c.in_err-skip.ensures (omega (arith, field, still))
    (λ some. omega (arith, field, still, c.min-front.ensures, c.fill-2.ensures.room)))

pub returns-then-not-branch-3-clause-finds : goal.returns-then-not-branch-3-clause-finds
returns-then-not-branch-3-clause-finds g c =
    let R = g.R.Read in
    let header = rw c.if-not-branch.false at c.in_ok-fill.ensures.fills in
    let long = rw c.if-not-branch.false at c.in_ok-fill.ensures.enough in
    let in_time : is_time_later c.args.until (big_number 4 c.fill.new.self) ≡ false =
    time-read c.args.until c.octets-header.result.now c.fill.new.self c.read_u32.result c.is_later.result c.is_later.ensures
    c.read_u32.ensures c.octets-header.ensures.value ∙ c.if-is_later.false in
    let fills = rw c.if-not-branch-2.false at c.in_ok-fill-2.ensures.fills in
    let enough = rw c.if-not-branch-2.false at c.in_ok-fill-2.ensures.enough in
    let still_in_time : is_time_later c.args.until (big_number 4 c.fill-2.new.self) ≡ false =
    time-filled c.args.until c.fill.new.self c.fill-2.new.self fills.piece long fills.filled ∙ in_time in
    let both = Fills-then R.gives R.failures c.args.inlet.now c.fill.new.inlet c.fill-2.new.inlet c.args.window.now c.fill.new.self
    c.fill-2.new.self (Ok true) header fills in
    let field : c.read_u32-length.result ≡ length_field c.fill.new.self =
    field-read c.octets-header.result.now c.fill.new.self c.read_u32-length.result c.read_u32-length.ensures
    c.octets-header.ensures.value in
    let still : length_field c.fill-2.new.self ≡ length_field c.fill.new.self =
    field-filled c.fill.new.self c.fill-2.new.self fills.piece long fills.filled in
    let skips = rw c.if-not-branch-3.true at c.in_ok-skip.ensures in
    let wanted = c.read_u32-length.result - c.min-front.result in
    short-skip R.gives R.failures c.args.until c.args.inlet.now c.fill-2.new.inlet c.skip.new.self
    c.args.window.now c.fill-2.new.self wanted FileEnds
    (record {})
    both (omega (arith, enough)) still_in_time skips (omega (arith, field, still))
    (λ some. omega (arith, field, still, c.min-front.ensures, c.fill-2.ensures.room))

pub returns-clause-finds : goal.returns-clause-finds
returns-clause-finds g c =
    let R = g.R.Read in
    let header = rw c.if-not-branch.false at c.in_ok-fill.ensures.fills in
    let long = rw c.if-not-branch.false at c.in_ok-fill.ensures.enough in
    let in_time : is_time_later c.args.until (big_number 4 c.fill.new.self) ≡ false =
    time-read c.args.until c.octets-header.result.now c.fill.new.self c.read_u32.result c.is_later.result c.is_later.ensures
    c.read_u32.ensures c.octets-header.ensures.value ∙ c.if-is_later.false in
    let fills = rw c.if-not-branch-2.false at c.in_ok-fill-2.ensures.fills in
    let enough = rw c.if-not-branch-2.false at c.in_ok-fill-2.ensures.enough in
    let still_in_time : is_time_later c.args.until (big_number 4 c.fill-2.new.self) ≡ false =
    time-filled c.args.until c.fill.new.self c.fill-2.new.self fills.piece long fills.filled ∙ in_time in
    let both = Fills-then R.gives R.failures c.args.inlet.now c.fill.new.inlet c.fill-2.new.inlet c.args.window.now c.fill.new.self
    c.fill-2.new.self (Ok true) header fills in
    let field : c.read_u32-length.result ≡ length_field c.fill.new.self =
    field-read c.octets-header.result.now c.fill.new.self c.read_u32-length.result c.read_u32-length.ensures
    c.octets-header.ensures.value in
    let still : length_field c.fill-2.new.self ≡ length_field c.fill.new.self =
    field-filled c.fill.new.self c.fill-2.new.self fills.piece long fills.filled in
    let skips = rw c.if-not-branch-3.false at c.in_ok-skip.ensures in
    found-front R.gives R.failures c.args.until c.args.inlet.now c.fill-2.new.inlet c.skip.new.self c.args.window.now c.fill-2.new.self
    c.read_u32-length.result c.min-front.result
    both skips still_in_time (field ∙ sym still) c.min-front.ensures enough c.fill-2.ensures.room

pub returns-in_err-fill-clause-finds : goal.returns-in_err-fill-clause-finds
returns-in_err-fill-clause-finds g c =
    let R = g.R.Read in
    let p = err_from_is_err_and c.from_residual.result c.from_residual.ensures.1 in
    rw (p.1, p.2)
    (short-header R.gives R.failures c.args.until c.args.inlet.now c.fill.new.inlet c.args.window.now c.fill.new.self ReadFails
    c.in_err-fill.field-0.0 (Err Read) c.in_err-fill.ensures.fills c.in_err-fill.ensures.enough refl)

pub returns-then-is_empty-clause-finds : goal.returns-then-is_empty-clause-finds
returns-then-is_empty-clause-finds g c =
    let R = g.R.Read in
    let fills = rw c.if-not-branch.true at c.in_ok-fill.ensures.fills in
    let short = rw c.if-not-branch.true at c.in_ok-fill.ensures.enough in
    let none : length c.octets.result.now ≡ 0 = eqb-true _ _ (sym c.is_empty.ensures ∙ c.if-is_empty.true) in
    let nothing : c.fill.new.self ≡ [] = sym c.octets.ensures.value ∙ nil_from_length c.octets.result.now none in
    inl (short-header R.gives R.failures c.args.until c.args.inlet.now c.fill.new.inlet c.args.window.now c.fill.new.self FileEnds
    (record {}) (Ok false) fills short (ap (answer_behind FileEnds) (sym nothing)))

pub returns-then-not-branch-clause-finds : goal.returns-then-not-branch-clause-finds
returns-then-not-branch-clause-finds g c =
    let R = g.R.Read in
    let fills = rw c.if-not-branch.true at c.in_ok-fill.ensures.fills in
    let short = rw c.if-not-branch.true at c.in_ok-fill.ensures.enough in
    let some : length c.octets.result.now ≢ 0 = eqb-false _ _ (sym c.is_empty.ensures ∙ c.if-is_empty.false) in
    let some_here : 0 < length c.fill.new.self = omega (arith, some, ap length c.octets.ensures.value) in
    short-header R.gives R.failures c.args.until c.args.inlet.now c.fill.new.inlet c.args.window.now c.fill.new.self FileEnds
    (record {}) (Err (Mrt HeaderCutShort)) fills short (ap answer_at (sym (rest-header c.fill.new.self some_here short)))

pub returns-then-is_later-clause-finds : goal.returns-then-is_later-clause-finds
returns-then-is_later-clause-finds g c =
    let R = g.R.Read in
    let header = rw c.if-not-branch.false at c.in_ok-fill.ensures.fills in
    let long = rw c.if-not-branch.false at c.in_ok-fill.ensures.enough in
    let later : is_time_later c.args.until (big_number 4 c.fill.new.self) ≡ true =
    time-read c.args.until c.octets-header.result.now c.fill.new.self c.read_u32.result c.is_later.result c.is_later.ensures
    c.read_u32.ensures c.octets-header.ensures.value ∙ c.if-is_later.true in
    later-came R.gives R.failures c.args.until c.args.inlet.now c.fill.new.inlet c.args.window.now c.fill.new.self header long later

pub returns-in_err-fill-clause-at_later : goal.returns-in_err-fill-clause-at_later
returns-in_err-fill-clause-at_later g c = λ later. c.fill.ensures.at_hand (later-header c.args.until c.args.window.now later).0

pub returns-then-is_empty-clause-at_later : goal.returns-then-is_empty-clause-at_later
returns-then-is_empty-clause-at_later g c = λ later. c.fill.ensures.at_hand (later-header c.args.until c.args.window.now later).0

pub returns-then-not-branch-clause-at_later : goal.returns-then-not-branch-clause-at_later
returns-then-not-branch-clause-at_later g c = λ later. c.fill.ensures.at_hand (later-header c.args.until c.args.window.now later).0

pub returns-then-is_later-clause-at_later : goal.returns-then-is_later-clause-at_later
returns-then-is_later-clause-at_later g c = λ later. c.fill.ensures.at_hand (later-header c.args.until c.args.window.now later).0

pub returns-in_err-fill-2-clause-at_later : goal.returns-in_err-fill-2-clause-at_later
returns-in_err-fill-2-clause-at_later g c =
    let in_time : is_time_later c.args.until (big_number 4 c.fill.new.self) ≡ false =
    time-read c.args.until c.octets-header.result.now c.fill.new.self c.read_u32.result c.is_later.result c.is_later.ensures
    c.read_u32.ensures c.octets-header.ensures.value ∙ c.if-is_later.false in
    let filled = c.in_ok-fill.ensures.fills in
    λ later. absurd (not-later-before c.args.until c.args.window.now c.fill.new.self filled.piece filled.filled in_time later)

pub returns-then-not-branch-2-clause-at_later : goal.returns-then-not-branch-2-clause-at_later
returns-then-not-branch-2-clause-at_later g c =
    let in_time : is_time_later c.args.until (big_number 4 c.fill.new.self) ≡ false =
    time-read c.args.until c.octets-header.result.now c.fill.new.self c.read_u32.result c.is_later.result c.is_later.ensures
    c.read_u32.ensures c.octets-header.ensures.value ∙ c.if-is_later.false in
    let filled = c.in_ok-fill.ensures.fills in
    λ later. absurd (not-later-before c.args.until c.args.window.now c.fill.new.self filled.piece filled.filled in_time later)

pub returns-in_err-skip-clause-at_later : goal.returns-in_err-skip-clause-at_later
returns-in_err-skip-clause-at_later g c =
    let in_time : is_time_later c.args.until (big_number 4 c.fill.new.self) ≡ false =
    time-read c.args.until c.octets-header.result.now c.fill.new.self c.read_u32.result c.is_later.result c.is_later.ensures
    c.read_u32.ensures c.octets-header.ensures.value ∙ c.if-is_later.false in
    let filled = c.in_ok-fill.ensures.fills in
    λ later. absurd (not-later-before c.args.until c.args.window.now c.fill.new.self filled.piece filled.filled in_time later)

pub returns-then-not-branch-3-clause-at_later : goal.returns-then-not-branch-3-clause-at_later
returns-then-not-branch-3-clause-at_later g c =
    let in_time : is_time_later c.args.until (big_number 4 c.fill.new.self) ≡ false =
    time-read c.args.until c.octets-header.result.now c.fill.new.self c.read_u32.result c.is_later.result c.is_later.ensures
    c.read_u32.ensures c.octets-header.ensures.value ∙ c.if-is_later.false in
    let filled = c.in_ok-fill.ensures.fills in
    λ later. absurd (not-later-before c.args.until c.args.window.now c.fill.new.self filled.piece filled.filled in_time later)

pub returns-clause-at_later : goal.returns-clause-at_later
returns-clause-at_later g c =
    let in_time : is_time_later c.args.until (big_number 4 c.fill.new.self) ≡ false =
    time-read c.args.until c.octets-header.result.now c.fill.new.self c.read_u32.result c.is_later.result c.is_later.ensures
    c.read_u32.ensures c.octets-header.ensures.value ∙ c.if-is_later.false in
    let filled = c.in_ok-fill.ensures.fills in
    λ later. absurd (not-later-before c.args.until c.args.window.now c.fill.new.self filled.piece filled.filled in_time later)

pub returns-then-is_empty-clause-room : goal.returns-then-is_empty-clause-room
returns-then-is_empty-clause-room g c = search rules

pub returns-clause-room : goal.returns-clause-room
returns-clause-room g c = search rules

pub returns-in_err-fill-2-clause-room : goal.returns-in_err-fill-2-clause-room
returns-in_err-fill-2-clause-room g c = search rules

pub returns-in_err-fill-clause-room : goal.returns-in_err-fill-clause-room
returns-in_err-fill-clause-room g c = search rules

pub returns-in_err-skip-clause-room : goal.returns-in_err-skip-clause-room
returns-in_err-skip-clause-room g c = search rules

pub returns-then-not-branch-2-clause-room : goal.returns-then-not-branch-2-clause-room
returns-then-not-branch-2-clause-room g c = search rules

pub returns-then-not-branch-3-clause-room : goal.returns-then-not-branch-3-clause-room
returns-then-not-branch-3-clause-room g c = search rules

pub returns-then-not-branch-clause-room : goal.returns-then-not-branch-clause-room
returns-then-not-branch-clause-room g c = search rules

pub returns-then-is_later-clause-room : goal.returns-then-is_later-clause-room
returns-then-is_later-clause-room g c = search rules
