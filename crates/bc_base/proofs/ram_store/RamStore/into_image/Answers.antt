use Rattle.std.proofs.Common.{◌≡◌, ◌∙◌, ℕ, ◌-◌, sym, ap, subst, arith, length, List, get_or, Some}
use Rattle.std.proofs.lemmas.Option.{same_Some}
use Rattle.std.specs.Vec.{vec_len}
use Rattle.bc_base.specs.RamStores.{RamData, IsOneImage}
use Rattle.bc_base.proofs.Lists.{at_read}
use Rattle.bc_base.proofs.Shards.{joined_only, joined_back}
use Rattle.bc_base.proofs.ram_store.RamStore.into_image.Goals as goal

pub returns-clause-gives_back : goal.returns-clause-gives_back
returns-clause-gives_back c = λ whole long parts.
    let stores = c.args.stores.items in
    let store : RamData = c.in-Some.store in
    let one : IsOneImage stores c.args.blocks = subst (λ (l : List RamData). IsOneImage l c.args.blocks) c.deref.ensures.value (c.is_one_image.ensures c.if-not-is_one_image.false) in
    let single : length stores ≡ 1 = ap (λ (l : List RamData). length l) one.1 in
    let count : vec_len c.args.stores ≡ 1 = sym c.deref.ensures.len ∙ ap (λ (l : List RamData). length l) c.deref.ensures.value ∙ single in
    let popped : store ≡ get_or stores 0 store = same_Some store (get_or stores 0 store)
    (sym c.in-Some.is ∙ c.pop.ensures.value store (omega arith) ∙ ap (λ (n : ℕ). Some (get_or stores (n - 1) store)) count) in
    let at = at_read stores 0 store (omega arith) popped in
    ap (λ (d : RamData). d.bytes) c.store.view_is
    ∙ joined_back stores store.bytes whole c.args.blocks c.requires (joined_only stores c.args.blocks store one at) long parts
