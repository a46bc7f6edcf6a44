use Rattle.driver_loop.proofs.stage.StageOperator.add_input.Goals as goal

pub returns-in-Filter-clause-fails : goal.returns-in-Filter-clause-fails
returns-in-Filter-clause-fails c = rw c.in-Filter.is c.add_input.ensures.fails

pub returns-in-Filter-clause-fault : goal.returns-in-Filter-clause-fault
returns-in-Filter-clause-fault c = rw c.in-Filter.is c.add_input.ensures.fault

pub returns-in-Limit-clause-fails : goal.returns-in-Limit-clause-fails
returns-in-Limit-clause-fails c = rw c.in-Limit.is c.add_input-in-Limit.ensures.fails

pub returns-in-Limit-clause-fault : goal.returns-in-Limit-clause-fault
returns-in-Limit-clause-fault c = rw c.in-Limit.is c.add_input-in-Limit.ensures.fault

pub returns-in-Sort-clause-fails : goal.returns-in-Sort-clause-fails
returns-in-Sort-clause-fails c = rw c.in-Sort.is c.add_input-in-Sort.ensures.fails

pub returns-in-TopN-clause-fails : goal.returns-in-TopN-clause-fails
returns-in-TopN-clause-fails c = rw c.in-TopN.is c.add_input-in-TopN.ensures.fails

pub returns-in-Sort-clause-fault : goal.returns-in-Sort-clause-fault
returns-in-Sort-clause-fault c = rw c.in-Sort.is c.add_input-in-Sort.ensures.fault

pub returns-in-TopN-clause-fault : goal.returns-in-TopN-clause-fault
returns-in-TopN-clause-fault c = rw c.in-TopN.is c.add_input-in-TopN.ensures.fault

pub returns-in-Single-clause-fails : goal.returns-in-Single-clause-fails
returns-in-Single-clause-fails c = rw c.in-Single.is c.add_input-in-Single.ensures.fails

pub returns-in-Probe-clause-fails : goal.returns-in-Probe-clause-fails
returns-in-Probe-clause-fails c = rw c.in-Probe.is c.add_input-in-Probe.ensures.fails

pub returns-in-Single-clause-fault : goal.returns-in-Single-clause-fault
returns-in-Single-clause-fault c = rw c.in-Single.is c.add_input-in-Single.ensures.fault

pub returns-in-Probe-clause-fault : goal.returns-in-Probe-clause-fault
returns-in-Probe-clause-fault c = rw c.in-Probe.is c.add_input-in-Probe.ensures.fault

pub returns-in-Partial-clause-fails : goal.returns-in-Partial-clause-fails
returns-in-Partial-clause-fails c = rw c.in-Partial.is c.add_input-in-Partial.ensures.fails

pub returns-in-Partial-clause-fault : goal.returns-in-Partial-clause-fault
returns-in-Partial-clause-fault c = rw c.in-Partial.is c.add_input-in-Partial.ensures.fault

pub returns-in-Final-clause-fails : goal.returns-in-Final-clause-fails
returns-in-Final-clause-fails c = rw c.in-Final.is c.add_input-in-Final.ensures.fails

pub returns-in-Final-clause-fault : goal.returns-in-Final-clause-fault
returns-in-Final-clause-fault c = rw c.in-Final.is c.add_input-in-Final.ensures.fault

pub returns-in-Dynamic-clause-fails : goal.returns-in-Dynamic-clause-fails
returns-in-Dynamic-clause-fails c = rw c.in-Dynamic.is c.add_input-in-Dynamic.ensures.fails

pub returns-in-Dynamic-clause-fault : goal.returns-in-Dynamic-clause-fault
returns-in-Dynamic-clause-fault c = rw c.in-Dynamic.is c.add_input-in-Dynamic.ensures.fault
