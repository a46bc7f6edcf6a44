use Rattle.group_index.proofs.index.GroupIndex.push.Goals as goal
