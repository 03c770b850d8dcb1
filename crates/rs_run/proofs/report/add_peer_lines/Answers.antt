-- One line more for one peer more.
use Rattle.std.proofs.Common.{◌≡◌, ◌++◌, ◌∙◌, ◌+◌, ℕ, List, take, string_bytes, ap, arith, rules}
use Rattle.std.specs.List.{zip, flat_map}
use Rattle.std.proofs.lemmas.List.{take_all}
use Rattle.rs_choice.specs.Plan.{peer_of}
use Rattle.rs_run.specs.Report.{peer_line, peer_line_of}
use Rattle.rs_keep.proofs.ListingLemmas.{flat_map-one_more, lines-one_more}
use Rattle.std.proofs.lemmas.Slice.Zip.{length-zip}
use Rattle.rs_serve.proofs.ListLemmas.{zip-at}
use Rattle.rs_run.proofs.report.add_peer_lines.Goals as goal

pub loop-number-preserved : goal.loop-number-preserved
loop-number-preserved c =
    let peers = c.args.plan.now.peers in
    let ends = c.args.served.now.ends in
    let number = c.loop-number.number in
    let end = c.end.result in
    let here = zip-at peers ends number (peer_of c.peer.result.now) end c.peer.ensures c.end.ensures in
    let added : string_bytes c.add_peer_line.new.report ≡ string_bytes c.loop-number.report
    ++ peer_line_of (peer_of c.peer.result.now, end) =
    c.in_ok-add_peer_line.ensures ∙ ap (λ (name : List ℕ). string_bytes c.loop-number.report ++ peer_line name end) c.deref.ensures in
    lines-one_more (string_bytes c.args.report.now) (string_bytes c.loop-number.report) (string_bytes c.add_peer_line.new.report)
    (peer_line_of (peer_of c.peer.result.now, end))
    (flat_map peer_line_of (take number (zip peers ends))) (flat_map peer_line_of (take (number + 1) (zip peers ends)))
    c.loop-number.invariant added (flat_map-one_more peer_line_of (zip peers ends) number (peer_of c.peer.result.now, end) here)

pub returns : goal.returns
returns c =
    let peers = c.args.plan.now.peers in
    let ends = c.args.served.now.ends in
    let all : take c.loop-number.number (zip peers ends) ≡ zip peers ends =
    take_all c.loop-number.number (zip peers ends) (omega
    (arith, length-zip peers ends, c.requires.one_for_each, c.count-number-end.ensures.value)) in
    c.loop-number.invariant ∙ ap (λ lines. string_bytes c.args.report.now ++ flat_map peer_line_of lines) all

pub loop-number-init : goal.loop-number-init
loop-number-init c = search rules

pub loop-number-smaller : goal.loop-number-smaller
loop-number-smaller c = search rules

pub returns-in_err-add_peer_line : goal.returns-in_err-add_peer_line
returns-in_err-add_peer_line c = search rules
