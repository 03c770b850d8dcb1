-- What is stored beside the route is what its attributes say.
use Rattle.std.proofs.Common.{refl}
use Rattle.rs_choice.proofs.exchange.Exchange.hold.Goals as goal

pub returns-clause-judged : goal.returns-clause-judged
returns-clause-judged c = record {
  known = c.requires;
  candidate = rw c.deref.ensures at c.candidacy-candidacy.ensures.candidate;
  unrestricted = rw c.deref.ensures at c.candidacy-candidacy.ensures.unrestricted;
  plain = rw c.deref.ensures at c.candidacy-candidacy.ensures.plain;
  standing = λ candidate.
      rw (c.path_length-path_length.ensures, c.deref-2.ensures, c.candidacy-candidacy.ensures.origin candidate, c.deref.ensures) refl;
}
