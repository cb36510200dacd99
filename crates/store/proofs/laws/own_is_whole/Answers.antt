use Rattle.store.proofs.OwnLaws.{own_whole}
use Rattle.store.proofs.laws.own_is_whole.Goals as goal

pub returns : goal.returns
returns c = own_whole
