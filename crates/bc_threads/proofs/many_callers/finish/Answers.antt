use Rattle.std.proofs.Common.{◌∙◌, map, Vec, Global, refl, sym, ap, subst}
use Rattle.bc_base.specs.RamStores.{HaveAllSectors}
use Rattle.bc_medium.specs.declared.entry.Entry.{Entry}
use Rattle.bc_profile.specs.declared.event.Event.{Event}
use Rattle.bc_compose.specs.ClosedOrders.{report_line_of}
use Rattle.bc_threads.proofs.Composing.{all_passes, have_all, is_lawful_as, is_report_as}
use Rattle.bc_threads.proofs.many_callers.finish.Goals as goal
use Rattle.bc_base.proofs.Members.{map-map}

pub close-requires : goal.close-requires
close-requires g c = record {
  all = all_passes c.args.script.now c.requires.carried.0 c.requires.carried.1 c.args.disk c.requires.carried.2 c.args.passes.items c.args.answers c.requires.carried.3 c.requires.carried.4;
}

pub into_image-requires : goal.into_image-requires
into_image-requires g c =
    subst (λ b. HaveAllSectors b c.in-Ok.closed.stores.items) (sym c.blocks-2.ensures.value)
    (have_all c.args.script.now c.requires.carried.0 c.requires.carried.1 c.args.disk c.requires.carried.2 c.args.passes.items c.args.answers c.requires.carried.3 c.requires.carried.4
    c.in-Ok.closed.stores.items (map (λ (o : Vec Entry Global). o.items) c.in-Ok.closed.shards.items) (map (λ (j : Vec Event Global). j.items) c.in-Ok.closed.devices.items) c.in-Ok.ensures.closed)

pub new-requires : goal.new-requires
new-requires g c =
    is_report_as c.args.script.now c.requires.carried.0 c.requires.carried.1 c.args.disk c.requires.carried.2 c.args.passes.items c.args.answers c.requires.carried.3 c.requires.carried.4
    c.in-Ok.closed.stores.items (map (λ (o : Vec Entry Global). o.items) c.in-Ok.closed.shards.items) (map (λ (j : Vec Event Global). j.items) c.in-Ok.closed.devices.items) c.in-Ok.ensures.closed
    c.in_ok-lines.lines c.in_ok-journals.journals
    (c.in_ok-lines.ensures.lines ∙ ap (map (λ (o : Vec Entry Global). map report_line_of o.items)) c.as_slice.ensures.value ∙ sym (map-map (λ (o : Vec Entry Global). o.items) (map report_line_of) c.in-Ok.closed.shards.items))
    c.in_ok-lines.ensures.ranges c.in_ok-journals.ensures.journals c.in_ok-journals.ensures.ranges

pub returns : goal.returns
returns g c = record {
  lawful = λ image shards opened is done.
      is_lawful_as c.args.script.now image shards c.args.disk opened c.args.passes.items c.args.answers is done
      c.in-Ok.closed.stores.items (map (λ (o : Vec Entry Global). o.items) c.in-Ok.closed.shards.items) (map (λ (j : Vec Event Global). j.items) c.in-Ok.closed.devices.items) c.in-Ok.ensures.closed
      c.in_ok-lines.lines c.in_ok-journals.journals
      (c.in_ok-lines.ensures.lines ∙ ap (map (λ (o : Vec Entry Global). map report_line_of o.items)) c.as_slice.ensures.value ∙ sym (map-map (λ (o : Vec Entry Global). o.items) (map report_line_of) c.in-Ok.closed.shards.items))
      c.in_ok-journals.ensures.journals c.sections_make_a_lawful_run.ensures c.in_ok-image.image.items c.in-Ok.closed.stores.items c.blocks-2.result refl c.blocks-2.ensures.value c.in_ok-image.ensures.length c.in_ok-image.ensures.sectors
      c.new.result c.new.ensures;
}
