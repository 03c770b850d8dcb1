use Rattle.std.proofs.Common.{◌≡◌, ◌++◌, ◌∷◌, ◌+◌, ℕ, [], List, ap, ◌∙◌, map, length, rules}
use Rattle.rs_mrt.specs.Record.{record_of}
use Rattle.rs_share.specs.Batches.{Heard, heard_in}
use Rattle.rs_share.specs.declared.batch.Head.{Head}
use Rattle.rs_share.proofs.BatchLemmas.{heads-same, pushed}
use Rattle.rs_share.proofs.batch.Batch.push.Goals as goal

pub returns-then-is_err-clause-refused : goal.returns-then-is_err-clause-refused
returns-then-is_err-clause-refused c =
    let octets = c.self.inside.octets.items in
    let body = c.args.record.now.body.now in
    let hs = c.self.inside.heads.items in
    let more : c.extend_from_slice.new.self.items ≡ octets ++ body = search rules in
    let same : c.push.new.self.items ≡ hs = search rules in
    ap (λ (os : List ℕ). map (heard_in os) c.push.new.self.items) more ∙ ap (map (heard_in (octets ++ body))) same
    ∙ heads-same octets body hs c.self.invariant ∙ c.self.view_is

pub returns-clause-added : goal.returns-clause-added
returns-clause-added c =
    let octets = c.self.inside.octets.items in
    let body = c.args.record.now.body.now in
    let hs = c.self.inside.heads.items in
    let record_now = c.args.record.now in
    let more : c.extend_from_slice.new.self.items ≡ octets ++ body = search rules in
    let end : c.len.result ≡ length octets + length body = search rules in
    let start : c.len-start.result ≡ length octets = search rules in
    let head : Head = record {
      others = c.args.others;
      time = record_now.time;
      kind = record_now.kind;
      subtype = record_now.subtype;
      start = c.len-start.result;
      end = c.len.result;
    } in
    let added : Heard = record { others = c.args.others; own = record_of record_now } in
    let one : c.push.new.self.items ≡ hs ++ head ∷ [] = search rules in
    ap (λ (os : List ℕ). map (heard_in os) c.push.new.self.items) more ∙ ap (map (heard_in (octets ++ body))) one
    ∙ pushed octets body hs head c.self.invariant start end
    ∙ ap (λ (front : List Heard). front ++ added ∷ []) c.self.view_is
