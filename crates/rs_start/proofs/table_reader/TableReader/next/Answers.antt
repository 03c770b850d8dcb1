use Rattle.std.proofs.Common.{◌≡◌, ◌∷◌, ◌∙◌, [], refl, subst, take, ap, length, drop, arith}
use Rattle.std.proofs.lemmas.List.{length-drop, length-take-le, take_all}
use Rattle.byteorder.specs.Endian.{big_number}
use Rattle.rs_mrt.specs.Record.{MrtRecord, headed}
use Rattle.rs_start.specs.TableReading.{Takes}
use Rattle.rs_start.proofs.ReadingLemmas.{takes_one}
use Rattle.rs_start.proofs.table_reader.TableReader.next.Goals as goal

pub returns : goal.returns
returns g c =
    let R = g.R.Read in
    let old = R.gives c.args.self.now.reader in
    let mid = R.gives c.fill_header.new.self.reader in
    let new = R.gives c.read_body.new.self.reader in
    let header = c.fill_header.new.header in
    let len = c.read_u32-len.result in
    let body = take len c.read_body.new.self.body in
    let long : length header ≡ 12 = c.fill_header.array_long in
    let at_length : take 4 (drop 8 header) ≡ drop 8 header = take_all 4 (drop 8 header) (omega (arith, long, length-drop 8 header)) in
    let at_kind : take 8 (drop 4 header) ≡ drop 4 header = take_all 8 (drop 4 header) (omega (arith, long, length-drop 4 header)) in
    let at_subtype : take 6 (drop 6 header) ≡ drop 6 header = take_all 6 (drop 6 header) (omega (arith, long, length-drop 6 header)) in
    let size : length body ≡ big_number 4 (drop 8 header) =
    length-take-le len c.read_body.new.self.body c.in_ok-read_body.ensures.long ∙ c.read_u32-len.ensures ∙ ap (big_number 4) at_length in
    let kind : c.read_u16.result ≡ big_number 2 (drop 4 header) = c.read_u16.ensures ∙ ap (big_number 2) at_kind in
    let subtype : c.read_u16-2.result ≡ big_number 2 (drop 6 header) = c.read_u16-2.ensures ∙ ap (big_number 2) at_subtype in
    let time : c.read_u32.result ≡ big_number 4 header = c.read_u32.ensures in
    let whole = c.in_ok-came.ensures.fills.came (omega (arith, long, c.in_ok-came.ensures.bound, c.if-came-lt-HEADER_LEN.false)) in
    let same : headed header body
    ≡ record { time = c.read_u32.result; kind = c.read_u16.result; subtype = c.read_u16-2.result; body = body } =
    rw (time, kind, subtype) refl in
    subst (λ (r : MrtRecord). Takes old new (r ∷ [])) same
    (takes_one old mid new header body long size whole c.in_ok-read_body.ensures.came)
