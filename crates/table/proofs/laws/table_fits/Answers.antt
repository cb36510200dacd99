use Rattle.table.proofs.SizeLaws.{table_fits}
use Rattle.table.proofs.laws.table_fits.Goals as goal

pub returns : goal.returns
returns c = table_fits
