-- Why sessions cannot be read. Nothing here is from a standard: all of it is our choice.
use Rattle.std.specs.Prelude.{◌≡◌, ⊤}
use Rattle.rs_outlet.specs.declared.run_fault.RunFault.{RunFault}
use Rattle.rs_outlet.specs.declared.run_fault.RunFault.TheVariants as faults
use Rattle.rs_serve.specs.declared.fault.FloorRefused.{FloorRefused}
use Rattle.rs_serve.specs.declared.fault.FloorRefused.TheVariants.{Memory, Unsettled, Capacity, Read, Shards}

-- the refusal is not because of the capacity of the rings or the number of shards
abbrev pub IsReadRefusal : FloorRefused → Type 0
IsReadRefusal Memory = ⊤
IsReadRefusal (Read peer) = ⊤
IsReadRefusal (Unsettled peer) = ⊤
IsReadRefusal Capacity = ⊥
IsReadRefusal Shards = ⊥

-- the fault that a run answers for this refusal
abbrev pub IsFaultOf : FloorRefused → RunFault → Type 0
IsFaultOf Memory fault = fault ≡ faults.Memory
IsFaultOf (Read peer) fault = fault ≡ faults.Read peer
IsFaultOf (Unsettled peer) fault = fault ≡ faults.Unsettled peer
IsFaultOf Capacity fault = ⊥
IsFaultOf Shards fault = ⊥
