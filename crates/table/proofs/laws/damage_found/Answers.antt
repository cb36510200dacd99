use Rattle.table.proofs.DamageLaws.{damage_found}
use Rattle.table.proofs.laws.damage_found.Goals as goal

pub returns : goal.returns
returns c = damage_found
