use Rattle.driver_loop.proofs.stage.StageOperator.get_output.Goals as goal

pub returns-in-Filter-clause-fails : goal.returns-in-Filter-clause-fails
returns-in-Filter-clause-fails c = rw c.in-Filter.is c.get_output.ensures.fails

pub returns-in-Filter-clause-none : goal.returns-in-Filter-clause-none
returns-in-Filter-clause-none c = rw c.in-Filter.is c.get_output.ensures.none

pub returns-in-Filter-clause-went : goal.returns-in-Filter-clause-went
returns-in-Filter-clause-went c = rw c.in-Filter.is c.get_output.ensures.went

pub returns-in-Limit-clause-fails : goal.returns-in-Limit-clause-fails
returns-in-Limit-clause-fails c = rw c.in-Limit.is c.get_output-in-Limit.ensures.fails

pub returns-in-Limit-clause-none : goal.returns-in-Limit-clause-none
returns-in-Limit-clause-none c = rw c.in-Limit.is c.get_output-in-Limit.ensures.none

pub returns-in-Limit-clause-went : goal.returns-in-Limit-clause-went
returns-in-Limit-clause-went c = rw c.in-Limit.is c.get_output-in-Limit.ensures.went

pub returns-in-Sort-clause-fails : goal.returns-in-Sort-clause-fails
returns-in-Sort-clause-fails c = rw c.in-Sort.is c.get_output-in-Sort.ensures.fails

pub returns-in-TopN-clause-fails : goal.returns-in-TopN-clause-fails
returns-in-TopN-clause-fails c = rw c.in-TopN.is c.get_output-in-TopN.ensures.fails

pub returns-in-Sort-clause-none : goal.returns-in-Sort-clause-none
returns-in-Sort-clause-none c = rw c.in-Sort.is c.get_output-in-Sort.ensures.none

pub returns-in-TopN-clause-none : goal.returns-in-TopN-clause-none
returns-in-TopN-clause-none c = rw c.in-TopN.is c.get_output-in-TopN.ensures.none

pub returns-in-Sort-clause-went : goal.returns-in-Sort-clause-went
returns-in-Sort-clause-went c = rw c.in-Sort.is c.get_output-in-Sort.ensures.went

pub returns-in-TopN-clause-went : goal.returns-in-TopN-clause-went
returns-in-TopN-clause-went c = rw c.in-TopN.is c.get_output-in-TopN.ensures.went

pub returns-in-Single-clause-fails : goal.returns-in-Single-clause-fails
returns-in-Single-clause-fails c = rw c.in-Single.is c.get_output-in-Single.ensures.fails

pub returns-in-Probe-clause-fails : goal.returns-in-Probe-clause-fails
returns-in-Probe-clause-fails c = rw c.in-Probe.is c.get_output-in-Probe.ensures.fails

pub returns-in-Single-clause-none : goal.returns-in-Single-clause-none
returns-in-Single-clause-none c = rw c.in-Single.is c.get_output-in-Single.ensures.none

pub returns-in-Probe-clause-none : goal.returns-in-Probe-clause-none
returns-in-Probe-clause-none c = rw c.in-Probe.is c.get_output-in-Probe.ensures.none

pub returns-in-Single-clause-went : goal.returns-in-Single-clause-went
returns-in-Single-clause-went c = rw c.in-Single.is c.get_output-in-Single.ensures.went

pub returns-in-Probe-clause-went : goal.returns-in-Probe-clause-went
returns-in-Probe-clause-went c = rw c.in-Probe.is c.get_output-in-Probe.ensures.went

pub returns-in-Partial-clause-fails : goal.returns-in-Partial-clause-fails
returns-in-Partial-clause-fails c = rw c.in-Partial.is c.get_output-in-Partial.ensures.fails

pub returns-in-Partial-clause-none : goal.returns-in-Partial-clause-none
returns-in-Partial-clause-none c = rw c.in-Partial.is c.get_output-in-Partial.ensures.none

pub returns-in-Partial-clause-went : goal.returns-in-Partial-clause-went
returns-in-Partial-clause-went c = rw c.in-Partial.is c.get_output-in-Partial.ensures.went

pub returns-in-Final-clause-fails : goal.returns-in-Final-clause-fails
returns-in-Final-clause-fails c = rw c.in-Final.is c.get_output-in-Final.ensures.fails

pub returns-in-Final-clause-none : goal.returns-in-Final-clause-none
returns-in-Final-clause-none c = rw c.in-Final.is c.get_output-in-Final.ensures.none

pub returns-in-Final-clause-went : goal.returns-in-Final-clause-went
returns-in-Final-clause-went c = rw c.in-Final.is c.get_output-in-Final.ensures.went

pub returns-in-Dynamic-clause-fails : goal.returns-in-Dynamic-clause-fails
returns-in-Dynamic-clause-fails c = rw c.in-Dynamic.is c.get_output-in-Dynamic.ensures.fails

pub returns-in-Dynamic-clause-none : goal.returns-in-Dynamic-clause-none
returns-in-Dynamic-clause-none c = rw c.in-Dynamic.is c.get_output-in-Dynamic.ensures.none

pub returns-in-Dynamic-clause-went : goal.returns-in-Dynamic-clause-went
returns-in-Dynamic-clause-went c = rw c.in-Dynamic.is c.get_output-in-Dynamic.ensures.went
