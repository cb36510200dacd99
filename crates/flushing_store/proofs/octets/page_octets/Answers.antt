use Rattle.std.proofs.Common.{min, take, ap, ◌∙◌, arith}
use Rattle.table.specs.Row.{octets}
use Rattle.flushing_store.proofs.BytesLaws.{take_octets}
use Rattle.flushing_store.proofs.octets.page_octets.Goals as goal

pub returns : goal.returns
returns c =
    ap (take c.min.result) c.octets.ensures ∙ ap (λ i. take i (octets 504 c.args.words.now)) c.min.ensures ∙ take_octets (min c.args.n 504) 504 c.args.words.now (omega arith)
