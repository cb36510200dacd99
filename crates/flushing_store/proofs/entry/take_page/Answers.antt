use Rattle.std.proofs.Common.{◌∙◌, arith}
use Rattle.flushing_store.specs.Own.{paged_by}
use Rattle.flushing_store.specs.declared.control.Phase.TheVariants.{FirstList, AfterWhole, AfterTorn, Getting, Writing, Merging}
use Rattle.flushing_store.proofs.OctetLaws.{padded_octets}
use Rattle.flushing_store.proofs.EntryLaws.{page_by, page_nowhere}
use Rattle.flushing_store.proofs.entry.take_page.Goals as goal

pub returns-in-FirstList : goal.returns-in-FirstList
unfolding paged_by
returns-in-FirstList c =
    page_by c.args.control c.args.memory.now c.args.out.now _ _ _ c.args.bytes.now c.padded-page.result FirstList c.in-FirstList.is (c.padded-page.ensures ∙ padded_octets 512 c.args.bytes.now (λ k. let f = c.type_inv.bytes k in omega arith))
    (c.first_list.ensures.0, c.first_list.ensures.1 c.args.out.now)

pub returns-in-AfterWhole : goal.returns-in-AfterWhole
unfolding paged_by
returns-in-AfterWhole c =
    page_by c.args.control c.args.memory.now c.args.out.now _ _ _ c.args.bytes.now c.padded-page.result AfterWhole c.in-AfterWhole.is (c.padded-page.ensures ∙ padded_octets 512 c.args.bytes.now (λ k. let f = c.type_inv.bytes k in omega arith))
    (c.second_list.ensures.0, c.second_list.ensures.1 c.args.out.now)

pub returns-in-AfterTorn : goal.returns-in-AfterTorn
unfolding paged_by
returns-in-AfterTorn c =
    page_by c.args.control c.args.memory.now c.args.out.now _ _ _ c.args.bytes.now c.padded-page.result AfterTorn c.in-AfterTorn.is (c.padded-page.ensures ∙ padded_octets 512 c.args.bytes.now (λ k. let f = c.type_inv.bytes k in omega arith))
    (c.second_list-in-AfterTorn.ensures.0, c.second_list-in-AfterTorn.ensures.1 c.args.out.now)

pub returns-in-Getting : goal.returns-in-Getting
unfolding paged_by
returns-in-Getting c = page_by c.args.control c.args.memory.now c.args.out.now _ _ _ c.args.bytes.now c.padded-page.result Getting c.in-Getting.is (c.padded-page.ensures ∙ padded_octets 512 c.args.bytes.now (λ k. let f = c.type_inv.bytes k in omega arith)) c.get_on.ensures

pub returns-in-Writing : goal.returns-in-Writing
unfolding paged_by
returns-in-Writing c =
    page_by c.args.control c.args.memory.now c.args.out.now _ _ _ c.args.bytes.now c.padded-page.result Writing c.in-Writing.is (c.padded-page.ensures ∙ padded_octets 512 c.args.bytes.now (λ k. let f = c.type_inv.bytes k in omega arith))
    (c.write_on.ensures.0, c.write_on.ensures.1 c.args.out.now)

pub returns-in-Merging : goal.returns-in-Merging
unfolding paged_by
returns-in-Merging c = page_by c.args.control c.args.memory.now c.args.out.now _ _ _ c.args.bytes.now c.padded-page.result Merging c.in-Merging.is (c.padded-page.ensures ∙ padded_octets 512 c.args.bytes.now (λ k. let f = c.type_inv.bytes k in omega arith)) c.merge_page.ensures

pub returns-in_default : goal.returns-in_default
returns-in_default c =
    let r = c.in_default in
    page_nowhere c.args.control c.args.memory.now c.args.bytes.now c.args.out.now c.args.control.base.phase r.not-FirstList r.not-AfterWhole r.not-AfterTorn r.not-Getting r.not-Writing r.not-Merging
