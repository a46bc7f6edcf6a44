use Rattle.driver_loop.proofs.stage.StageOperator.finish.Goals as goal

pub returns-in-Filter-clause-fails : goal.returns-in-Filter-clause-fails
returns-in-Filter-clause-fails c = rw c.in-Filter.is c.finish.ensures.fails

pub returns-in-Filter-clause-told : goal.returns-in-Filter-clause-told
returns-in-Filter-clause-told c = c.finish.ensures.told

pub returns-in-Dynamic-clause-went : goal.returns-in-Dynamic-clause-went
returns-in-Dynamic-clause-went c = rw c.in-Dynamic.is c.finish-in-Dynamic.ensures.went
