use Rattle.value.proofs.EncodingLaws.{parse_reads_encode}
use Rattle.value.proofs.laws.parse_reads_encode.Goals as goal

pub returns : goal.returns
returns c = parse_reads_encode
