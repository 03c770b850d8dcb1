use Rattle.std.proofs.Common.{◌∙◌, ap, sym}
use Rattle.std.specs.Option.{option_map}
use Rattle.rs_mrt.specs.Record.{record_of}
use Rattle.rs_share.specs.declared.directory.Whom.TheVariants.{All, Nobody, One}
use Rattle.rs_share.proofs.ReadingLemmas.{at-of, nobody-tells, own-by, tell-more-of}
use Rattle.rs_share.proofs.reader.Reader.hand.Goals as goal

pub put_at-requires-clause-at : goal.put_at-requires-clause-at
put_at-requires-clause-at g c =
    let r = record_of c.in-Some.record in
    at-of g.S.Source.comes g.S.Source.room c.args.self.now.lines.items c.args.self.now.count r
    (c.requires.at r (sym c.shown.ensures ∙ ap (option_map record_of) c.in-Some.is))

pub put_at-requires-clause-own : goal.put_at-requires-clause-own
put_at-requires-clause-own g c =
    own-by c.args.self.now.lines.items c.args.self.now.directory (record_of c.in-Some.record) (One c.in-One.place) c.requires.ids
    c.in-One.ensures.reaches

pub put_all-requires-clause-own : goal.put_all-requires-clause-own
put_all-requires-clause-own g c =
    own-by c.args.self.now.lines.items c.args.self.now.directory (record_of c.in-Some.record) All c.requires.ids
    c.in-All.ensures.reaches

pub returns-in-Nobody-clause-tells : goal.returns-in-Nobody-clause-tells
returns-in-Nobody-clause-tells g c =
    let lines = c.args.self.now.lines.items in
    let r = record_of c.in-Some.record in
    λ goes shown is. tell-more-of lines lines c.args.self.now.count r shown (g.S.Source.shows c.args.self.now.source)
    (sym c.shown.ensures ∙ ap (option_map record_of) c.in-Some.is) is
    (nobody-tells lines r c.args.self.now.count
    (own-by lines c.args.self.now.directory r Nobody c.requires.ids c.in-Nobody.ensures.reaches))

pub returns-in-One-clause-tells : goal.returns-in-One-clause-tells
returns-in-One-clause-tells g c =
    let r = record_of c.in-Some.record in
    λ goes shown is. tell-more-of c.args.self.now.lines.items c.put_at.new.lines.items c.args.self.now.count r shown
    (g.S.Source.shows c.args.self.now.source) (sym c.shown.ensures ∙ ap (option_map record_of) c.in-Some.is) is
    c.put_at.ensures.tells
