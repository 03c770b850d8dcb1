use Rattle.std.proofs.Common.{◌-◌, ◌∙◌, ℕ, Some, ap, subst, sym}
use Rattle.rtrb.specs.Ring.{sent}
use Rattle.rs_share.specs.Lines.{part_of}
use Rattle.rs_share.specs.Telling.{MayFollow}
use Rattle.rs_share.proofs.LineLemmas.{end-may-follow}
use Rattle.rs_share.proofs.line.Line.finish.Goals as goal

pub send-requires : goal.send-requires
send-requires g c =
    let S = g.S.Source in
    let line = c.args.self.now in
    let e = c.requires c.if-self.true in
    subst (λ (n : ℕ). MayFollow S.comes S.room (sent line.parts) (part_of line (Some (record { others = n; end = c.args.end }))))
    (ap (λ (k : ℕ). k - line.seen) e.counted ∙ sym c.saturating_sub-others.ensures)
    (end-may-follow S.comes S.room line e.given (e.tells c.if-self.true) c.args.end e.come e.octets)
