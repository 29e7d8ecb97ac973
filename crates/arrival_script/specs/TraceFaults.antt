-- Why a trace isn't whole.
use Rattle.edge_io.specs.declared.faults.PutFault.{PutFault}
use Rattle.edge_io.specs.declared.faults.PutFault.TheVariants as put
use Rattle.arrival_script.specs.declared.traces.TraceFault.{TraceFault}
use Rattle.arrival_script.specs.declared.traces.TraceFault.TheVariants as fault

-- Why a trace isn't whole, by why bytes weren't put.
abbrev pub fault_of_put : PutFault → TraceFault
fault_of_put put.Failed = fault.Failed
fault_of_put put.Memory = fault.Memory
