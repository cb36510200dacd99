use Rattle.memtable.proofs.StepLaws.{refused_same}
use Rattle.memtable.proofs.laws.refused_same.Goals as goal

pub returns : goal.returns
returns c = refused_same
