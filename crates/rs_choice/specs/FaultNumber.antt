-- The number of a plan's fault, and the peer at fault (our choice).
use Rattle.std.specs.Prelude.{ℕ, Option, None, Some}
use Rattle.rs_choice.specs.declared.fault.PlanFault.{PlanFault}
use Rattle.rs_choice.specs.declared.fault.PlanFault.TheVariants.{NoPeer, TooManyPeers, InvalidName, RepeatedName}
use Rattle.rs_choice.specs.declared.fault.PlanFault.TheVariants.{RepeatedAddress, ZeroAs, UnknownName, Memory}

-- the number of a fault: 1 to 8, in the order in which a plan is tested
abbrev pub number_of_fault : PlanFault → ℕ
number_of_fault NoPeer = 1
number_of_fault TooManyPeers = 2
number_of_fault (InvalidName peer) = 3
number_of_fault (RepeatedName peer) = 4
number_of_fault (RepeatedAddress peer) = 5
number_of_fault (ZeroAs peer) = 6
number_of_fault (UnknownName peer) = 7
number_of_fault Memory = 8

abbrev pub peer_of_fault : PlanFault → Option ℕ
peer_of_fault NoPeer = None
peer_of_fault TooManyPeers = None
peer_of_fault (InvalidName peer) = Some peer
peer_of_fault (RepeatedName peer) = Some peer
peer_of_fault (RepeatedAddress peer) = Some peer
peer_of_fault (ZeroAs peer) = peer
peer_of_fault (UnknownName peer) = Some peer
peer_of_fault Memory = None
