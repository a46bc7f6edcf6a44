use Rattle.driver_loop.proofs.stage.StageOperator.blocked.Goals as goal

pub returns-in-Filter-clause-gives : goal.returns-in-Filter-clause-gives
returns-in-Filter-clause-gives g c = rw c.in-Filter.is c.blocked.ensures.gives

pub returns-in-Filter-clause-fails : goal.returns-in-Filter-clause-fails
returns-in-Filter-clause-fails g c = rw c.in-Filter.is c.blocked.ensures.fails

pub returns-in-Filter-clause-takes : goal.returns-in-Filter-clause-takes
returns-in-Filter-clause-takes g c = rw c.in-Filter.is c.blocked.ensures.takes

pub returns-in-Limit-clause-gives : goal.returns-in-Limit-clause-gives
returns-in-Limit-clause-gives g c = rw c.in-Limit.is c.blocked-in-Limit.ensures.gives

pub returns-in-Limit-clause-fails : goal.returns-in-Limit-clause-fails
returns-in-Limit-clause-fails g c = rw c.in-Limit.is c.blocked-in-Limit.ensures.fails

pub returns-in-Limit-clause-takes : goal.returns-in-Limit-clause-takes
returns-in-Limit-clause-takes g c = rw c.in-Limit.is c.blocked-in-Limit.ensures.takes

pub returns-in-Sort-clause-gives : goal.returns-in-Sort-clause-gives
returns-in-Sort-clause-gives g c = rw c.in-Sort.is c.blocked-in-Sort.ensures.gives

pub returns-in-TopN-clause-gives : goal.returns-in-TopN-clause-gives
returns-in-TopN-clause-gives g c = rw c.in-TopN.is c.blocked-in-TopN.ensures.gives

pub returns-in-Sort-clause-fails : goal.returns-in-Sort-clause-fails
returns-in-Sort-clause-fails g c = rw c.in-Sort.is c.blocked-in-Sort.ensures.fails

pub returns-in-TopN-clause-fails : goal.returns-in-TopN-clause-fails
returns-in-TopN-clause-fails g c = rw c.in-TopN.is c.blocked-in-TopN.ensures.fails

pub returns-in-Sort-clause-takes : goal.returns-in-Sort-clause-takes
returns-in-Sort-clause-takes g c = rw c.in-Sort.is c.blocked-in-Sort.ensures.takes

pub returns-in-TopN-clause-takes : goal.returns-in-TopN-clause-takes
returns-in-TopN-clause-takes g c = rw c.in-TopN.is c.blocked-in-TopN.ensures.takes

pub returns-in-Single-clause-gives : goal.returns-in-Single-clause-gives
returns-in-Single-clause-gives g c = rw c.in-Single.is c.blocked-in-Single.ensures.gives

pub returns-in-Probe-clause-gives : goal.returns-in-Probe-clause-gives
returns-in-Probe-clause-gives g c = rw c.in-Probe.is c.blocked-in-Probe.ensures.gives

pub returns-in-Single-clause-fails : goal.returns-in-Single-clause-fails
returns-in-Single-clause-fails g c = rw c.in-Single.is c.blocked-in-Single.ensures.fails

pub returns-in-Probe-clause-fails : goal.returns-in-Probe-clause-fails
returns-in-Probe-clause-fails g c = rw c.in-Probe.is c.blocked-in-Probe.ensures.fails

pub returns-in-Single-clause-takes : goal.returns-in-Single-clause-takes
returns-in-Single-clause-takes g c = rw c.in-Single.is c.blocked-in-Single.ensures.takes

pub returns-in-Probe-clause-takes : goal.returns-in-Probe-clause-takes
returns-in-Probe-clause-takes g c = rw c.in-Probe.is c.blocked-in-Probe.ensures.takes

pub returns-in-Partial-clause-gives : goal.returns-in-Partial-clause-gives
returns-in-Partial-clause-gives g c = rw c.in-Partial.is c.blocked-in-Partial.ensures.gives

pub returns-in-Partial-clause-fails : goal.returns-in-Partial-clause-fails
returns-in-Partial-clause-fails g c = rw c.in-Partial.is c.blocked-in-Partial.ensures.fails

pub returns-in-Partial-clause-takes : goal.returns-in-Partial-clause-takes
returns-in-Partial-clause-takes g c = rw c.in-Partial.is c.blocked-in-Partial.ensures.takes

pub returns-in-Final-clause-gives : goal.returns-in-Final-clause-gives
returns-in-Final-clause-gives g c = rw c.in-Final.is c.blocked-in-Final.ensures.gives

pub returns-in-Final-clause-fails : goal.returns-in-Final-clause-fails
returns-in-Final-clause-fails g c = rw c.in-Final.is c.blocked-in-Final.ensures.fails

pub returns-in-Final-clause-takes : goal.returns-in-Final-clause-takes
returns-in-Final-clause-takes g c = rw c.in-Final.is c.blocked-in-Final.ensures.takes

pub returns-in-Dynamic-clause-gives : goal.returns-in-Dynamic-clause-gives
returns-in-Dynamic-clause-gives g c = rw c.in-Dynamic.is c.blocked-in-Dynamic.ensures.gives

pub returns-in-Dynamic-clause-fails : goal.returns-in-Dynamic-clause-fails
returns-in-Dynamic-clause-fails g c = rw c.in-Dynamic.is c.blocked-in-Dynamic.ensures.fails

pub returns-in-Dynamic-clause-takes : goal.returns-in-Dynamic-clause-takes
returns-in-Dynamic-clause-takes g c = rw c.in-Dynamic.is c.blocked-in-Dynamic.ensures.takes

pub returns-in-Dynamic-clause-went : goal.returns-in-Dynamic-clause-went
returns-in-Dynamic-clause-went g c = rw c.in-Dynamic.is c.blocked-in-Dynamic.ensures.went
