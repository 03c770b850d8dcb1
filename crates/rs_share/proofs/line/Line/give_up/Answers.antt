use Rattle.rs_share.proofs.LineLemmas.{failure-may-follow}
use Rattle.rs_share.proofs.line.Line.give_up.Goals as goal

pub send-requires : goal.send-requires
send-requires g c =
    let at = (c.requires c.if-not-self.false).1 in
    failure-may-follow g.S.Source.comes g.S.Source.room c.args.self.now at.given (at.tells c.if-not-self.false) at.may
