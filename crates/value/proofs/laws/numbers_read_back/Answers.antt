use Rattle.value.proofs.NumberLaws.{number_round_trips}
use Rattle.value.proofs.laws.numbers_read_back.Goals as goal

pub returns : goal.returns
returns c = number_round_trips
