use Rattle.manifest.proofs.PageLaws.{page_reads_back}
use Rattle.manifest.proofs.laws.page_reads_back.Goals as goal

pub returns : goal.returns
returns c = page_reads_back
