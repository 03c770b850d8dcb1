use Rattle.std.proofs.Common.{◌≡◌, ◌∙◌, ◌+◌, ◌++◌, ℕ, List, length, ap, append_assoc, arith}
use Rattle.rs_start.specs.Opening.{nlri_spelling, parties, record_head, update_spelling}
use Rattle.rs_start.proofs.UpdateLemmas.{length-update}
use Rattle.rs_start.proofs.spelling.spell_record.Goals as goal

pub returns : goal.returns
returns c =
    let section = c.args.section.now in
    let nlri = nlri_spelling c.args.prefixes.now in
    let start = c.args.start.now in
    let old = c.args.out.now.items in
    let update = update_spelling section nlri in
    let body_len = 43 + length section + c.args.nlri_len in
    let count : body_len ≡ length (parties start ++ update) = omega (arith, length-update section nlri, c.requires.counted) in
    c.in_ok-spell_update.ensures
    ∙ ap (λ (octets : List ℕ). octets ++ update) c.in_ok-spell_record_head.ensures
    ∙ append_assoc old (record_head start 4 body_len) update
    ∙ ap (λ (n : ℕ). old ++ (record_head start 4 n ++ update)) count
