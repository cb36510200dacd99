use Rattle.std.proofs.Common.{◌∙◌}
use Rattle.store.specs.Regions.{region}
use Rattle.flushing_store.proofs.RoundLaws.{leads_later, leads_earlier}
use Rattle.flushing_store.proofs.heads.memory_leads.Goals as goal

pub returns-in-Later : goal.returns-in-Later
unfolding region
returns-in-Later c =
    leads_later c.args.memory.now c.args.at c.args.block.now c.args.place c.as_slice.result.now c.key_of.result.now (c.as_slice.ensures ∙ c.read_key-key.ensures) c.key_of.ensures c.in-Later.ensures

pub returns-in-Earlier : goal.returns-in-Earlier
unfolding region
returns-in-Earlier c =
    leads_earlier c.args.memory.now c.args.at c.args.block.now c.args.place c.as_slice.result.now c.key_of.result.now (c.as_slice.ensures ∙ c.read_key-key.ensures) c.key_of.ensures c.in-Earlier.ensures
