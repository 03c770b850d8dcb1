-- One list more has no entry of the peer; after the last one none has.
use Rattle.std.proofs.Common.{◌≡◌, ◌∙◌, ◌<◌, sym, ap, arith, ℕ, List, [], get_or, set, length, inl, inr}
use Rattle.std.proofs.lemmas.Bool.{cases_eq, cases_lt}
use Rattle.std.proofs.lemmas.List.{get_or_past, length-map, length-set}
use Rattle.rs_table.specs.declared.log.Log.{Log}
use Rattle.rs_table.specs.Gathered.{lists_of, of_others}
use Rattle.rs_table.proofs.gathering.GatheredLemmas.{entered-list, list-same, list-other}
use Rattle.rs_table.proofs.gathering.forget.Goals as goal

pub loop-log-preserved : goal.loop-log-preserved
loop-log-preserved c =
    let logs : List Log = c.loop-log.logs in
    let at : ℕ = c.loop-log.log-index in
    let new : Log = c.forget.new.self in
    let within : at < length logs = omega (arith, c.loop-log-test.true) in
    let here : get_or (lists_of logs) at [] ≡ (get_or logs at c.log-item.result).entries.items =
    entered-list logs at c.log-item.result within in
    record {
      count = length-set logs at new ∙ c.loop-log.invariant.count;
      removed = λ octet below. elim (cases_eq octet at) [
        | inl same ↦
            ap (λ (k : ℕ). get_or (lists_of (set logs at new)) k []) same
            ∙ list-same [] logs at new within
            ∙ c.forget.ensures
            ∙ ap (of_others c.args.peer) (sym here ∙ c.loop-log.invariant.later at (omega arith))
            ∙ ap (λ (k : ℕ). of_others c.args.peer (get_or (lists_of c.args.logs.now) k [])) (sym same)
        | inr apart ↦
            list-other [] logs at new within octet apart ∙ c.loop-log.invariant.removed octet (omega (arith, below, apart))
      ];
      later = λ octet from. list-other [] logs at new within octet (λ e. omega (arith, from, e))
          ∙ c.loop-log.invariant.later octet (omega (arith, from));
    }

pub returns-clause-lists : goal.returns-clause-lists
returns-clause-lists c = λ octet.
    let logs : List Log = c.loop-log.logs in
    let before : List Log = c.args.logs.now in
    elim (cases_lt octet (length logs)) [
      | inl below ↦ c.loop-log.invariant.removed octet
          (omega (arith, below, c.loop-log.auto.logs, c.loop-log.auto.log-index-end, c.loop-log-test.false))
      | inr past ↦
          get_or_past (lists_of logs) octet [] (omega (arith, past, length-map logs (λ (log : Log). log.entries.items)))
          ∙ ap (of_others c.args.peer) (sym (get_or_past (lists_of before) octet []
          (omega (arith, past, c.loop-log.invariant.count, length-map before (λ (log : Log). log.entries.items)))))
    ]
