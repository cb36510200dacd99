use Rattle.std.proofs.Common.{◌++◌, drop, sym, ap, ◌∙◌}
use Rattle.manifest.specs.Manifest.{manifest_page}
use Rattle.manifest.specs.Places.{slot_of}
use Rattle.flushing_store.specs.Target.{next_manifest}
use Rattle.flushing_store.specs.Flush.{listed_step}
use Rattle.store.specs.declared.told.Told.TheVariants.{Put}
use Rattle.flushing_store.proofs.FlushLaws.{length_page}
use Rattle.flushing_store.proofs.flush.put_new_list.Goals as goal
use Rattle.store.specs.Acts.{ActTold}

pub returns : goal.returns
unfolding listed_step ActTold
returns c =
    let f = next_manifest c.args.control in (
      c.save.ensures,
      (
        ap Put (c.slot.ensures ∙ ap (λ x. slot_of x.commit) c.next_list-list.ensures),
        c.put_list.ensures ∙ ap (λ x. manifest_page x ++ drop 512 c.args.out.now) c.next_list-list.ensures ∙ ap (λ n. manifest_page f ++ drop n c.args.out.now) (sym (length_page f)),
      ),
    )
