use Rattle.std.proofs.Common.{◌≡◌, ◌∙◌, sym, ap, subst, Err, Option, None}
use Rattle.std.proofs.lemmas.Result.{err_from_is_err_and}
use Rattle.rs_mrt.specs.Leniency.{ComesBy}
use Rattle.rs_mrt.specs.RecordReading.{MayCome, RecordReading, unread_until}
use Rattle.rs_inventory.specs.Compression.{compression_of}
use Rattle.rs_inventory.specs.Front.{Rewound, RewoundGives, rewound}
use Rattle.rs_inventory.specs.Reading.{IsReadingOf, MayBeCompressed, MayFail}
use Rattle.rs_inventory.specs.declared.compression.Compression.{Compression}
use Rattle.rs_inventory.specs.declared.depth.Depth.TheVariants.{Whole}
use Rattle.rs_inventory.proofs.ReadingLemmas.{fails-read, fails-whole, may-be-compressed, reading-whole}
use Rattle.rs_inventory.proofs.reading.read_inventory.Goals as goal

pub returns-clause-records : goal.returns-clause-records
returns-clause-records g c = λ none.
    let source : c.new-2.result ≡ record {
      source = unread_until c.args.bounds.until (rewound c.in_ok-front.front c.of.new.reader);
      tail = c.args.bounds.tail;
    } =
    c.new-2.ensures ∙ ap (λ (s : RecordReading (Rewound g.row.R.Denot)). record { source = s; tail = c.args.bounds.tail })
    (c.up_to-records.ensures ∙ ap (unread_until c.args.bounds.until) c.new.ensures) in
    reading-whole Whole g.R.Read.gives c.args.bounds c.args.reader c.of.new.reader c.in_ok-front.front c.in_ok-inventory.inventory
    c.in_ok-front.ensures.gives
    (subst (λ s. IsReadingOf Whole (ComesBy (MayCome (RewoundGives g.R.Read.gives))) s c.in_ok-inventory.inventory)
    source c.in_ok-inventory.ensures.records)

pub returns-in-Some-clause-compressed : goal.returns-in-Some-clause-compressed
returns-in-Some-clause-compressed g c =
    subst (λ (compression : Option Compression). MayBeCompressed g.R.Read.gives c.args.reader compression)
    (sym (c.none.ensures.compression ∙ sym c.in-Some.is ∙ c.of-2.ensures ∙ ap compression_of c.octets.ensures))
    (may-be-compressed g.R.Read.gives g.met.R.Read.may_come c.args.reader c.of.new.reader c.in_ok-front.front c.in_ok-front.ensures.gives
    c.in_ok-front.ensures.done)

pub returns-clause-compressed : goal.returns-clause-compressed
returns-clause-compressed g c =
    let none : None ≡ compression_of c.in_ok-front.front.octets =
    sym c.in_default.is ∙ c.of-2.ensures ∙ ap compression_of c.octets.ensures in
    subst (λ (compression : Option Compression). MayBeCompressed g.R.Read.gives c.args.reader compression)
    (sym (c.in_ok-inventory.ensures.uncompressed ∙ none))
    (may-be-compressed g.R.Read.gives g.met.R.Read.may_come c.args.reader c.of.new.reader c.in_ok-front.front c.in_ok-front.ensures.gives
    c.in_ok-front.ensures.done)

pub returns-in_err-front-clause-read : goal.returns-in_err-front-clause-read
returns-in_err-front-clause-read g c = λ read. fails-read g.R.Read.gives c.args.bounds c.args.reader c.in_err-front.ensures.fails

pub returns-in_err-inventory-clause-read : goal.returns-in_err-inventory-clause-read
returns-in_err-inventory-clause-read g c = λ read.
    let source : c.new-2.result ≡ record {
      source = unread_until c.args.bounds.until (rewound c.in_ok-front.front c.of.new.reader);
      tail = c.args.bounds.tail;
    } =
    c.new-2.ensures ∙ ap (λ (s : RecordReading (Rewound g.row.R.Denot)). record { source = s; tail = c.args.bounds.tail })
    (c.up_to-records.ensures ∙ ap (unread_until c.args.bounds.until) c.new.ensures) in
    let told = err_from_is_err_and c.from_residual-in_err-inventory.result c.from_residual-in_err-inventory.ensures.1 in
    let fails = c.in_err-inventory.ensures.read (ap Err (sym told.2) ∙ sym told.1 ∙ read) in
    fails-whole g.R.Read.gives c.args.bounds c.args.reader c.of.new.reader c.in_ok-front.front c.in_ok-front.ensures.gives
    (subst (λ s. MayFail (ComesBy (MayCome (RewoundGives g.R.Read.gives))) s) source fails)
