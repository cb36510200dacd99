use Rattle.std.proofs.Common.{ap, ◌∙◌}
use Rattle.table.specs.Load.{placed_at}
use Rattle.table.proofs.FillLaws.{payload_padded}
use Rattle.table.proofs.load.Load.take.Goals as goal

pub returns-clause-row : goal.returns-clause-row
returns-clause-row c = c.place.ensures ∙ ap (λ l. placed_at c.args.self.got l c.args.row.now) (c.padded.ensures ∙ payload_padded c.args.page.now)
