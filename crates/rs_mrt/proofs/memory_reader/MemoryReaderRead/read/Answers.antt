use Rattle.std.proofs.Common.{◌≡◌, ◌++◌, min, max, length, take, drop, Ok, ap, subst, ◌∙◌, arith, rules}
use Rattle.std.proofs.lemmas.List.{take_at}
use Rattle.std.proofs.Math.Seq.{length_front}
use Rattle.rs_mrt.specs.Reader.{ReadGives}
use Rattle.rs_mrt.specs.MemoryReading.{MemoryReading, Comes, amount_at}
use Rattle.rs_mrt.proofs.stream.ReaderLemmas.{given_by_memory}
use Rattle.rs_mrt.proofs.memory_reader.MemoryReaderRead.read.Goals as goal

pub returns-clause-gives : goal.returns-clause-gives
returns-clause-gives c =
    let r = c.self.inside in
    let count = c.in-Some.count in
    let before = r.limits.octets_before_failure in
    let old : MemoryReading =
    record {
      left = r.left.now;
      calls = r.limits.calls_before_failure;
      before_failure = before;
      most = max r.limits.piece 1;
      failures =
          r.failures;
    } in
    let new : MemoryReading =
    record {
      left = c.split_at.result.1.now;
      calls = c.count_call.new.limits.calls_before_failure;
      before_failure =
          c.count_call.new.limits.octets_before_failure;
      most = max c.count_call.new.limits.piece 1;
      failures = r.failures;
    } in
    let given = c.copy_from_slice.new.self in
    let piece = given ++ drop count c.args.into.now in
    let len : length piece ≡ length c.args.into.now = length_front c.args.into.now given count c.copy_from_slice.ensures.len in
    let wanted : c.min-wanted.result ≡ min (min (length piece) (length r.left.now)) (max r.limits.piece 1) =
    omega (arith, len, c.min.ensures, c.max.ensures, c.min-wanted.ensures) in
    let given_len : length given ≡ count = omega (arith, ap length c.copy_from_slice.ensures.after, c.split_at.ensures.front_len) in
    let same : take count piece ≡ take count r.left.now =
    take_at given (drop count c.args.into.now) count given_len ∙ c.copy_from_slice.ensures.after ∙ c.split_at.ensures.front in
    subst (λ d. ReadGives (Comes d) (Comes new) (Ok count) piece) c.self.view_is
    (given_by_memory count piece old new (omega arith) (c.in-Some.ensures ∙ ap (amount_at r.limits.calls_before_failure before) wanted)
    same c.split_at.ensures.back c.count_call.ensures.calls c.count_call.ensures.octets)

pub returns-in_default-clause-left : goal.returns-in_default-clause-left
returns-in_default-clause-left c = search rules

pub returns-clause-left : goal.returns-clause-left
returns-clause-left c = search rules
