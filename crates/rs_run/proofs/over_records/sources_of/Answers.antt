-- One more file has its source.
use Rattle.std.proofs.Common.{◌≡◌, ◌∙◌, ◌<◌, ◌≤◌, ◌^◌, ap, arith, ◌++◌, ◌∷◌, [], List, ℕ, length, length-append, map, rules}
use Rattle.std.specs.Prelude.{slice_get}
use Rattle.std.proofs.lemmas.List.Elements.{All-push}
use Rattle.std.proofs.lemmas.Option.{slice_get-get_or}
use Rattle.rs_patience.proofs.PlaceLemmas.{get-map}
use Rattle.rs_run.proofs.RecordsLemmas.{one-more-read}
use Rattle.rs_run.specs.ReadSo.{room_of}
use Rattle.rs_run.proofs.over_records.sources_of.Goals as goal

pub loop-place-preserved : goal.loop-place-preserved
loop-place-preserved c =
    let files : List (List ℕ) = map (λ file. file.now) c.args.files.now in
    let before = c.loop-place.sources.items in
    let pushed : c.push.new.self.items ≡ before ++ c.source_of.result ∷ [] = search rules in
    let place = c.loop-place.place in
    let count : length before ≡ place = c.loop-place.invariant.as_many in
    let here : place < length c.args.files.now = search rules in
    let there : place < length c.args.whose.now = omega (arith, here, c.requires.as_many) in
    record {
      as_many = omega (arith, ap length pushed, length-append before (c.source_of.result ∷ []), c.loop-place.invariant.as_many);
      read_so = rw pushed (one-more-read c.args.reading c.args.whose.now files before c.source_of.result _ _
          c.loop-place.invariant.read_so
          (ap (λ (n : ℕ). slice_get c.args.whose.now n) count ∙ slice_get-get_or c.args.whose.now place _ there)
          (ap (λ (n : ℕ). slice_get files n) count
          ∙ get-map (λ file. file.now) c.args.files.now place _ (slice_get-get_or c.args.files.now place _ here))
          c.source_of.ensures.read_so);
      room = rw pushed (All-push (λ source. room_of source ≤ 2 ^ 50) before c.source_of.result
          c.loop-place.invariant.room c.source_of.ensures.room);
    }
