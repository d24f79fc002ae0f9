-- A run begins: each shard has its own sectors of the image, and nothing was attempted.
use Rattle.std.proofs.Common.{◌≡◌, ℕ, zero, suc, ◌-◌, ◌+◌, ◌*◌, ◌/◌, ◌<◌, ◌≤◌, Bool, true, false, List, [], ◌∷◌, Option, None, length, map, refl, sym, ap, subst, ◌∙◌, arith}
use Rattle.std.specs.Prelude.{◌==◌, ◌&&◌, nat_lt, replicate}
use Rattle.std.proofs.Math.Logic.{⊎_elim}
use Rattle.std.proofs.lemmas.Bool.{eq-eqb, lt-ltb, cases_lt}
use Rattle.std.proofs.lemmas.Option.{none-some, same_Some}
use Rattle.bc_base.specs.Lists.{At, list_at}
use Rattle.bc_base.specs.RamStores.{RamData, IsShardOf, owns, contents}
use Rattle.bc_key.specs.KeyData.{KeyData}
use Rattle.bc_profile.specs.declared.event.Event.{Event}
use Rattle.bc_stack.specs.declared.target.Target.{Target}
use Rattle.bc_medium.specs.Layout.{shard_of}
use Rattle.bc_medium.specs.KeyedDisk.{image_sectors}
use Rattle.bc_medium.specs.ShardOrder.{ShardData, opened_shard}
use Rattle.bc_medium.specs.Shards.{opened_with, orders_of}
use Rattle.bc_script.specs.Script.{Script, IsScript, keys_of, sectors_in, max_ops, max_units}
use Rattle.bc_serial.specs.Keyslots.{KeyslotsData}
use Rattle.bc_serial.specs.declared.open_hold.OpenHold.{OpenHold}
use Rattle.bc_section.specs.Openings.{AreOpenings}
use Rattle.bc_serial.specs.Standing.{ShardStands, HaveRoom, IsCourse, sectors_at, IsBegun}
use Rattle.bc_section.proofs.Lists.{at_exists}
use Rattle.bc_section.proofs.Faults.{not_behind, nothing_behind}

pub opened_at : (stores : List RamData) (n q k : ℕ) (s : ShardData RamData) → length stores ≡ n → At (opened_with stores (replicate n q)) k s → (store : RamData) × At stores k store × (s ≡ opened_shard store q)
opened_at [] n q k s long at = absurd (none-some s at)
opened_at (x ∷ xs) zero q k s long at = absurd (omega arith)
opened_at (x ∷ xs) (suc n) q zero s long at = (x, refl, sym (same_Some (opened_shard x q) s at))
opened_at (x ∷ xs) (suc n) q (suc k) s long at = opened_at xs n q k s (omega arith) at

pub length-opened : (stores : List RamData) (n q : ℕ) → length stores ≡ n → length (opened_with stores (replicate n q)) ≡ n
length-opened [] zero q long = refl
length-opened [] (suc n) q long = absurd (omega arith)
length-opened (x ∷ xs) zero q long = absurd (omega arith)
length-opened (x ∷ xs) (suc n) q long = ap suc (length-opened xs n q (omega arith))

untouched : (stores : List RamData) (n q shard : ℕ) → list_at (orders_of (opened_with stores (replicate n q))) shard ≡ []
untouched [] n q shard = refl
untouched (x ∷ xs) zero q shard = refl
untouched (x ∷ xs) (suc n) q zero = refl
untouched (x ∷ xs) (suc n) q (suc shard) = untouched xs n q shard

-- how many data units, evictions and resets fit
abbrev pub most : ℕ
most = max_units + max_ops

module _ (script : Script) (rules : IsScript script) (image : List ℕ) (n : ℕ) (some : 1 ≤ n) (whole : length image ≡ 4096 * script.blocks) (stores : List RamData) (are : AreOpenings script image n stores) where
  abbrev shards : List (ShardData RamData)
  shards = opened_with stores (replicate n most)

  long : length shards ≡ n
  long = length-opened stores n most are.count

  is_owned : (k : ℕ) (store : RamData) → IsShardOf image k n store → (sector : ℕ) → sector < sectors_in script → shard_of n sector ≡ k → owns store sector ≡ true
  is_owned k store is sector inside lies =
      let blocks : store.blocks ≡ length image / 4096 = is.blocks_are in
      both (shard_of store.shards sector == store.shard) (nat_lt (sector / 8) store.blocks)
      (eq-eqb (shard_of store.shards sector) store.shard (ap (λ m. shard_of m sector) is.shards_are ∙ lies ∙ sym is.shard_is))
      (lt-ltb (sector / 8) store.blocks (omega arith))
    where
      both : (a b : Bool) → a ≡ true → b ≡ true → (a && b) ≡ true
      both true b p q = q
      both false b p q = p

  pub begun_course : (keys : List KeyData) (shards' : List (ShardData RamData)) (keyslots : KeyslotsData) → shards' ≡ shards → keys ≡ keys_of script
      → keyslots.script ≡ script → keyslots.journals ≡ map (λ target. []) script.targets → IsCourse script keys shards' keyslots most
  begun_course keys shards' keyslots same keys_are script_is unused = subst (λ l. IsCourse script keys l keyslots most) (sym same) (record {
    rules = rules;
    keys_are = keys_are;
    some = subst (λ m. 1 ≤ m) (sym long) some;
    stand = λ k s at.
        let r = opened_at stores n most k s are.count at in
        let is = are.each k r.0 r.1 in
        let blocks : r.0.blocks ≡ length image / 4096 = is.holds.blocks_are in
        subst (λ m. ShardStands script m most k s) (sym long) (subst (ShardStands script n most k) (sym r.2) (record {
          keys = tt;
          owned = is_owned k r.0 is.holds;
          blocks = omega arith;
          planned = is.calls;
          spare = omega arith;
          few = omega arith;
        }));
    same_script = script_is;
    room = subst (HaveRoom most) (sym unused) (have_room script.targets);
  })
    where
      have_room : (targets : List Target) → HaveRoom most (map (λ target. []) targets)
      have_room [] = tt
      have_room (target ∷ targets) = (omega arith, have_room targets)

  opening : (s : ℕ) → sectors_at shards (shard_of n s) s ≡ image_sectors image s
  opening s =
      let k = shard_of n s in
      let within : k < n = omega arith in
      let e = at_exists shards k (omega (arith, long)) in
      let r = opened_at stores n most k e.0 are.count e.1 in
      let is = (are.each k r.0 r.1).holds in
      let start : e.0.start ≡ r.0 = ap (λ (z : ShardData RamData). z.start) r.2 in
      sectors_read shards k e.0 e.1 s ∙ ap (λ (z : RamData). contents z s) start
      ∙ ⊎_elim
      (λ (inside : s < 8 * script.blocks). is.holds s (is_owned k r.0 is s inside refl))
      (λ (behind : 8 * script.blocks ≤ s).
      let blocks : r.0.blocks ≡ length image / 4096 = is.blocks_are in
      not_behind r.0 script.blocks s (omega arith) behind ∙ sym (nothing_behind image script.blocks s whole behind))
      (cases_lt s (8 * script.blocks))
    where
      sectors_read : (xs : List (ShardData RamData)) (k : ℕ) (z : ShardData RamData) → At xs k z → (s : ℕ) → sectors_at xs k s ≡ contents z.start s
      sectors_read [] k z at s = absurd (none-some z at)
      sectors_read (x ∷ xs) zero z at s = ap (λ (y : ShardData RamData). contents y.start s) (same_Some x z at)
      sectors_read (x ∷ xs) (suc k) z at s = sectors_read xs k z at s

  pub is_begun : (shards' : List (ShardData RamData)) (journals begun : List (List Event)) (opened : Option OpenHold) → shards' ≡ shards → journals ≡ map (λ target. []) script.targets → opened ≡ None
      → IsBegun script image n (record { script = script; shards = shards'; thread = 0; left = most; journals = journals; begun = begun; opened = opened })
  is_begun shards' journals begun opened same unused closed = subst
      (λ l. IsBegun script image n (record { script = script; shards = l; thread = 0; left = most; journals = journals; begun = begun; opened = opened })) (sym same) (record {
        script_is = refl;
        shards_are = long;
        untouched = untouched stores n most;
        opening = opening;
        unused = unused;
        closed = closed;
        left = refl;
      })

-- no journal has an event yet
pub no_event : (script : Script) (journals : List (List Event)) → journals ≡ map (λ target. []) script.targets → (device : ℕ) → list_at journals device ≡ []
no_event script journals unused device = ap (λ (l : List (List Event)). list_at l device) unused ∙ none script.targets device
  where
    none : (targets : List Target) (device : ℕ) → list_at {A = Event} (map (λ target. []) targets) device ≡ []
    none [] device = refl
    none (target ∷ targets) zero = refl
    none (target ∷ targets) (suc device) = none targets device
