use Rattle.std.proofs.Common.{◌≡◌, ◌∙◌, ap, subst, rules}
use Rattle.std.specs.Prelude.{replicate}
use Rattle.bc_medium.specs.Shards.{opened_with}
use Rattle.bc_script.specs.Script.{bare_keys}
use Rattle.bc_serial.specs.Keyslots.{KeyslotsData}
use Rattle.bc_section.specs.Openings.{AreOpenings}
use Rattle.bc_serial.proofs.Beginning.{most, begun_course, is_begun}
use Rattle.bc_serial.proofs.one_caller.begin.Goals as goal

pub invariant_of-result : goal.invariant_of-result
invariant_of-result c =
    let quotas : c.in_ok-quotas.quotas.items ≡ replicate c.args.shards most = search rules in
    let are : AreOpenings c.args.script.now c.args.image.items c.args.shards c.in_ok-stores.stores.items = c.in_ok-stores.ensures in
    begun_course c.args.script.now c.keys.ensures.rules c.args.image.items c.args.shards c.requires.shards.0 c.requires.length c.in_ok-stores.stores.items are
    c.in_ok-of_keys.field-0 c.in_ok-open.field-0 c.in_ok-open-2.field-0 (c.in_ok-open.ensures ∙ ap (opened_with c.in_ok-stores.stores.items) quotas) (c.in_ok-of_keys.ensures ∙ ap bare_keys c.keys.ensures.value)
    (ap (λ (k : KeyslotsData). k.script) c.in_ok-open-2.ensures) (ap (λ (k : KeyslotsData). k.journals) c.in_ok-open-2.ensures)

pub returns : goal.returns
returns c =
    let quotas : c.in_ok-quotas.quotas.items ≡ replicate c.args.shards most = search rules in
    let are : AreOpenings c.args.script.now c.args.image.items c.args.shards c.in_ok-stores.stores.items = c.in_ok-stores.ensures in
    let keyslots : KeyslotsData = c.in_ok-open-2.field-0 in
    is_begun c.args.script.now c.keys.ensures.rules c.args.image.items c.args.shards c.requires.shards.0 c.requires.length c.in_ok-stores.stores.items are
    c.in_ok-open.field-0 keyslots.journals keyslots.begun keyslots.opened (c.in_ok-open.ensures ∙ ap (opened_with c.in_ok-stores.stores.items) quotas)
    (ap (λ (k : KeyslotsData). k.journals) c.in_ok-open-2.ensures) (ap (λ (k : KeyslotsData). k.opened) c.in_ok-open-2.ensures)
