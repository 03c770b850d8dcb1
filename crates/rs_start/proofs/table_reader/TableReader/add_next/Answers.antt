use Rattle.std.proofs.Common.{◌≡◌, ◌∷◌, ◌∙◌, [], Ok, refl, sym, subst}
use Rattle.rs_start.specs.TableFile.{HasBy, part_of}
use Rattle.rs_start.specs.TableReading.{Reads, Takes, record_at}
use Rattle.rs_start.specs.declared.part.Part.TheVariants.{Index, Other}
use Rattle.rs_start.proofs.FileLemmas.{adds_one}
use Rattle.rs_start.proofs.SessionLemmas.{all_nothing}
use Rattle.rs_start.proofs.table_reader.TableReader.add_next.Goals as goal

pub returns-in-Other-clause-adds : goal.returns-in-Other-clause-adds
returns-in-Other-clause-adds g c =
    let gives = g.R.Read.gives in
    let old = c.args.self.now in
    let new = c.next.new.self in
    let sessions = c.args.sessions.now in
    let r = record_at c.in-Some.head new.body in
    let takes : Takes (gives old.reader) (gives new.reader) (r ∷ []) =
    subst (λ found. Reads gives old new (Ok found)) c.in-Some.is c.in_ok-head.ensures in
    let other : part_of r ≡ Other = sym c.part_by.ensures ∙ c.in-Other.is in
    adds_one gives g.W.Write.taken old new sessions sessions r [] takes (subst (λ part. HasBy part r.body []) (sym other) refl)
    (all_nothing g.W.Write.taken sessions)

pub returns-in-Index-clause-adds : goal.returns-in-Index-clause-adds
returns-in-Index-clause-adds g c =
    let gives = g.R.Read.gives in
    let old = c.args.self.now in
    let new = c.next.new.self in
    let r = record_at c.in-Some.head new.body in
    let takes : Takes (gives old.reader) (gives new.reader) (r ∷ []) =
    subst (λ found. Reads gives old new (Ok found)) c.in-Some.is c.in_ok-head.ensures in
    let index : part_of r ≡ Index = sym c.part_by.ensures ∙ c.in-Index.is in
    ((r ∷ [], (r, refl, index, takes)), refl)
