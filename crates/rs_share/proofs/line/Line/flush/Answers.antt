use Rattle.rs_share.proofs.LineLemmas.{more-may-follow, tells-sent}
use Rattle.rs_share.proofs.line.Line.flush.Goals as goal

pub send-requires : goal.send-requires
send-requires g c =
    let at = (c.requires c.if-self.true).1 in
    more-may-follow g.S.Source.comes g.S.Source.room c.args.self.now at.given (at.tells c.if-self.true) at.may

pub returns-then-len-gt0-clause-tells : goal.returns-then-len-gt0-clause-tells
returns-then-len-gt0-clause-tells g c =
    λ given tells. tells-sent c.args.self.now c.send.new.self given c.send.ensures.sent c.send.ensures.batch tells
