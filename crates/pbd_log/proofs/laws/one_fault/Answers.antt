use Rattle.pbd_log.proofs.Faults.{one_fault_lem, fault_spells_nothing}
use Rattle.pbd_log.proofs.laws.one_fault.Goals as goal

pub returns-clause-one : goal.returns-clause-one
returns-clause-one c = one_fault_lem

pub returns-clause-none : goal.returns-clause-none
returns-clause-none c = fault_spells_nothing
