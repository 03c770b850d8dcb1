-- One list more is empty too.
use Rattle.std.proofs.Common.{◌≡◌, ◌∙◌, ℕ, zero, suc, ap, arith, refl, List, [], ◌∷◌, ◌++◌, get_or, length-append}
use Rattle.std.proofs.lemmas.List.{map-append}
use Rattle.rs_table.specs.Logged.{Logged}
use Rattle.rs_table.specs.declared.log.Log.{Log}
use Rattle.rs_table.specs.Gathered.{lists_of}
use Rattle.rs_table.proofs.gathering.empty_logs.Goals as goal

empty-more : (lists : List (List Logged)) → ((octet : ℕ) → get_or lists octet [] ≡ []) → (octet : ℕ)
    → get_or (lists ++ [] ∷ []) octet [] ≡ []
empty-more [] all zero = refl
empty-more [] all (suc octet) = refl
empty-more (list ∷ lists) all zero = all zero
empty-more (list ∷ lists) all (suc octet) = empty-more lists (λ k. all (suc k)) octet

pub loop-init : goal.loop-init
loop-init c = rw c.in_ok-logs.ensures.items (record { count = refl; empty = λ octet. refl })

pub loop-preserved : goal.loop-preserved
loop-preserved c =
    let log : Log = record { entries = c.new.result; limit = c.args.few } in
    let logs = c.loop.logs.items in
    rw c.in_ok-push.ensures.items (record {
      count = length-append logs (log ∷ []) ∙ omega (arith, c.loop.invariant.count);
      empty = λ octet.
          ap (λ (lists : List (List Logged)). get_or lists octet [])
          (map-append (λ (log : Log). log.entries.items) logs (log ∷ [])
          ∙ ap (λ (entries : List Logged). lists_of logs ++ entries ∷ []) c.new.ensures.items)
          ∙ empty-more (lists_of logs) c.loop.invariant.empty octet;
    })

pub returns : goal.returns
returns c = (omega (arith, c.loop.invariant.count, c.loop-test.false, c.loop.auto.counter-end), c.loop.invariant.empty)
