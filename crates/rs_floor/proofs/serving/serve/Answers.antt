-- A reader of a file at hand says what the file says.
use mathlib.Core.List.{map-map}
use Rattle.std.proofs.Common.{◌≡◌, ◌∙◌, ap, List, ℕ, Bor, map}
use Rattle.rs_mrt.specs.MemoryReading.{MemoryReading, Comes}
use Rattle.rs_session.specs.FileChanges.{default_standard}
use Rattle.rs_serve.specs.AtHand.{whole_of}
use Rattle.rs_floor.proofs.serving.AtHandLemmas.{answer-at-hand, wholes-at-hand}
use Rattle.rs_floor.proofs.serving.serve.Goals as goal

pub returns : goal.returns
returns g c =
    let octets : MemoryReading → List ℕ = λ r. r.left in
    let whole : Bor (List ℕ) → MemoryReading = λ file. whole_of file.now in
    let files : map octets c.in_ok-readers.readers.items ≡ map (λ file. file.now) c.args.files.now =
    ap (map octets) c.in_ok-readers.ensures.files ∙ map-map octets whole c.args.files.now in
    record {
      answer = answer-at-hand Comes octets default_standard c.args.plan.now.value c.in_ok-readers.readers.items
          (map (λ file. file.now) c.args.files.now) c.args.capacity
          (wholes-at-hand c.args.files.now c.in_ok-readers.readers.items c.requires.limit c.in_ok-readers.ensures.files)
          (c.in_ok-readers.ensures.count ∙ c.requires.as_many) files
          c.serve_readers.result c.serve_readers.ensures.answer;
    }
