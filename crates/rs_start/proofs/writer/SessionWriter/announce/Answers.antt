use Rattle.std.proofs.Common.{[], Ok, subst, sym}
use Rattle.rs_start.specs.Joins.{Begins}
use Rattle.rs_start.specs.Opening.{route_by}
use Rattle.rs_start.specs.Writing.{Goes}
use Rattle.rs_start.specs.declared.added.Added.TheVariants.{Written}
use Rattle.rs_start.proofs.WritingLemmas.{goes-then, holds-goes}
use Rattle.rs_start.proofs.writer.SessionWriter.announce.Goals as goal

pub returns-in_ok-close-in-Ok-clause-goes : goal.returns-in_ok-close-in-Ok-clause-goes
returns-in_ok-close-in-Ok-clause-goes g c =
    let taken = g.W.Write.taken in
    let old = c.args.self.now in
    let mid = c.close.new.self in
    let held = c.in-Ok.held in
    let prefix = c.args.prefix in
    let section = c.args.section.now in
    let more = route_by Written prefix section in
    let begun : Begins (Ok held) prefix section = subst (λ b. Begins b prefix section) c.in-Ok.is c.in_ok-held.ensures in
    let closed : Goes taken old mid [] =
    subst (λ was. Goes taken was mid []) (c.in_ok-join.ensures.stays c.if-branch.false) c.in_ok-close-in-Ok.ensures.goes in
    subst (λ new. Goes taken old new more) (sym c.hold.ensures)
    (goes-then taken old mid (record mid { held = held }) [] more closed
    (holds-goes taken mid held more c.in_ok-close-in-Ok.ensures.held begun.1))
