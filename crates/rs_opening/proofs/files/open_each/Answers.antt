-- One file more, which has no more room either.
use Rattle.std.proofs.Common.{◌≡◌, ◌≤◌, ◌^◌, All, List, [], ◌∷◌, ◌++◌, length, length-append, ap, arith, rules}
use Rattle.std.proofs.lemmas.List.Elements.{All-push}
use Rattle.rs_opening.proofs.OpeningLemmas.{one_more_read_so}
use Rattle.rs_opening.specs.Opening.{room_of}
use Rattle.rs_opening.proofs.files.open_each.Goals as goal

all-one_more : {X : Type 0} (xs : List X) (x : X) (P : X → Type 0) → All P xs → P x → All P (xs ++ x ∷ [])
all-one_more xs x P = All-push P xs x

pub loop-peer-preserved : goal.loop-peer-preserved
loop-peer-preserved g c =
    let pushed : c.push.new.self.items ≡ c.loop-peer.files.items ++ c.replayed-records.result ∷ [] = search rules in
    record {
      one_for_each = omega (
        arith,
        ap length pushed,
        length-append c.loop-peer.files.items (c.replayed-records.result ∷ []),
        c.loop-peer.invariant.one_for_each,
      );
      read_so = rw pushed (one_more_read_so c.args.reading c.args.plan.now c.loop-peer.files.items c.replayed-records.result
          c.loop-peer.invariant.read_so (rw c.loop-peer.invariant.one_for_each (search rules)));
      room = rw pushed (all-one_more c.loop-peer.files.items c.replayed-records.result (λ file. room_of file ≤ 2 ^ 50)
          c.loop-peer.invariant.room c.replayed-records.ensures.room);
    }

pub returns-clause-one_for_each : goal.returns-clause-one_for_each
returns-clause-one_for_each g c = search rules
