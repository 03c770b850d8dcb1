-- One bit less: no peer has a route on the prefix that was tried.
use Rattle.std.proofs.Common.{◌≡◌, ◌∙◌, ◌-◌, ℕ, ap, false, sym}
use Rattle.rs_update.specs.Prefix.{network_of}
use Rattle.rs_table.specs.Listing.{is_held}
use Rattle.rs_glass.proofs.CoveringLemmas.{lack-more}
use Rattle.rs_glass.proofs.answers.longest_announced.Goals as goal

pub loop-dropped-preserved : goal.loop-dropped-preserved
loop-dropped-preserved c =
    let ribs = c.args.tables.now.ribs in
    let prefix = c.args.prefix in
    let tried : c.cover-wide.result ≡ network_of prefix.address (prefix.len - c.loop-dropped.dropped) =
    c.cover-wide.ensures ∙ ap (λ (len : ℕ). network_of prefix.address (len - c.loop-dropped.dropped)) c.len.ensures.value in
    let none : is_held ribs (network_of prefix.address (prefix.len - c.loop-dropped.dropped)) ≡ false =
    sym (ap (is_held ribs) tried) ∙ sym c.is_announced.ensures ∙ c.if-is_announced.false in
    lack-more ribs prefix c.loop-dropped.dropped c.loop-dropped.invariant none
