use Rattle.flushing_store.proofs.OwnLaws.{own_whole}
use Rattle.flushing_store.proofs.laws.own_is_whole.Goals as goal

pub returns : goal.returns
returns c = own_whole
