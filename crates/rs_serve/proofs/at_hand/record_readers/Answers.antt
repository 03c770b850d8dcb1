-- The records of each reader are there.
use Rattle.std.proofs.Common.{◌≡◌, ◌∙◌, ◌<◌, ◌≤◌, ◌-◌, ◌^◌, ◌++◌, sym, ap, subst, All, List, [], ◌∷◌, map, append-nil, append_assoc, arith, rules}
use Rattle.std.specs.Vec.Iter.{into_iter_items}
use Rattle.std.proofs.lemmas.List.{nil_from_length}
use Rattle.std.proofs.lemmas.List.Elements.{All-head, All-map, All-tail}
use Rattle.rs_mrt.specs.RecordReading.{RecordReading, room_left, unread}
use Rattle.rs_serve.proofs.at_hand.record_readers.Goals as goal

pub loop-reader-init : goal.loop-reader-init
loop-reader-init g c =
    let gives : into_iter_items c.into_iter-reader-iterator.result ≡ c.args.readers.items =
    c.into_iter-reader-iterator.ensures.into_iter_gives.0 in
    record {
      made = ap (λ (made : List (RecordReading g.row.R.Denot)). made ++ map unread (into_iter_items c.into_iter-reader-iterator.result))
          c.in_ok-sources.ensures.items;
      failures = subst (All (λ reader. g.R.Read.failures reader < 2 ^ 64 - 1)) (sym gives) c.requires;
      left = search rules;
    }

pub loop-reader-preserved : goal.loop-reader-preserved
loop-reader-preserved g c =
    let steps : into_iter_items c.loop-reader.reader-iterator ≡ c.in-Some.reader ∷ into_iter_items c.next.new.self =
    c.in-Some.ensures.steps.0 in
    let so_far = rw steps at c.loop-reader.invariant.made in
    let fine = rw steps at c.loop-reader.invariant.failures in
    record {
      made = rw (c.in_ok-push.ensures.items, c.new.ensures) (append_assoc c.loop-reader.sources.items (unread c.in-Some.reader ∷ [])
          (map unread (into_iter_items c.next.new.self)) ∙ so_far);
      failures = All-tail (λ reader. g.R.Read.failures reader < 2 ^ 64 - 1) c.in-Some.reader (into_iter_items c.next.new.self) fine;
      left = search rules;
    }

pub new-requires : goal.new-requires
new-requires g c =
    let steps : into_iter_items c.loop-reader.reader-iterator ≡ c.in-Some.reader ∷ into_iter_items c.next.new.self =
    c.in-Some.ensures.steps.0 in
    All-head (λ reader. g.R.Read.failures reader < 2 ^ 64 - 1) c.in-Some.reader (into_iter_items c.next.new.self)
    (rw steps at c.loop-reader.invariant.failures)

pub returns-clause-unread : goal.returns-clause-unread
returns-clause-unread g c =
    let none : into_iter_items c.loop-reader.reader-iterator ≡ [] =
    nil_from_length (into_iter_items c.loop-reader.reader-iterator) (sym c.loop-reader.invariant.left ∙ c.in-None.ensures.steps.0) in
    sym (append-nil c.loop-reader.sources.items) ∙ ap (λ rest. c.loop-reader.sources.items ++ map unread rest) (sym none)
    ∙ c.loop-reader.invariant.made ∙ ap (map unread) c.into_iter-reader-iterator.ensures.into_iter_gives.0

pub returns-clause-room : goal.returns-clause-room
returns-clause-room g c =
    let unread_all : c.loop-reader.sources.items ≡ map unread c.args.readers.items = returns-clause-unread g c in
    subst (All (λ (source : RecordReading g.row.R.Denot). room_left source ≤ 2 ^ 50)) (sym unread_all)
    (All-map (λ (source : RecordReading g.row.R.Denot). room_left source ≤ 2 ^ 50) unread c.args.readers.items
    (λ place d below. omega arith))
