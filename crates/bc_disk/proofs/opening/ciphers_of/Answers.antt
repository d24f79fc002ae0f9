use Rattle.std.proofs.Common.{◌≡◌, ℕ, false, [], ◌∷◌, length, ap, sym, ◌∙◌, subst, arith, Option, Some, length-append}
use Rattle.bc_base.specs.Lists.{AllAt}
use Rattle.bc_modes.specs.UnitCipher.{CipherParts, parts_of}
use Rattle.bc_stack.specs.Devices.{all_support}
use Rattle.bc_disk.proofs.Joins.{all_push, below}
use Rattle.bc_disk.proofs.Known.{cipher_known}
use Rattle.bc_disk.proofs.opening.ciphers_of.Goals as goal
use Rattle.bc_medium.proofs.Openings.{there}

pub loop-number-preserved : goal.loop-number-preserved
loop-number-preserved c =
    let i = c.loop-number.invariant in let long = i.long in
    let push = c.in_ok-push.ensures.items in
    record {
      long = (let e = ap length push ∙ length-append c.loop-number.ciphers.items (c.cipher_of.result ∷ []) in omega (arith, e, long));
      each = subst (λ l. (k : ℕ) → AllAt l k (λ cipher. AllAt c.args.keys.now.keys k (λ key. all_support c.args.stack.now.targets key.config ≡ false → cipher ≡ Some (parts_of key)))) (sym push)
          (all_push (λ k (cipher : Option CipherParts). AllAt c.args.keys.now.keys k (λ key. all_support c.args.stack.now.targets key.config ≡ false → cipher ≡ Some (parts_of key))) c.loop-number.ciphers.items c.cipher_of.result i.each
          (cipher_known c.args.stack.now.targets c.args.keys.now.keys c.loop-number.number (length c.loop-number.ciphers.items) c.cipher_of.result c.get.result.now long c.get.ensures.key c.cipher_of.ensures));
    }

pub returns : goal.returns
returns c =
    let i = c.loop-number.invariant in let long = i.long in
    let past = c.loop-number-test.false in let end = c.loop-number.auto.number-end in let n = c.len-number-end.ensures.count in
    record {
      count = omega (arith, long, past, end, n);
      each = λ number key at asks.
          let lt = below c.args.keys.now.keys number key at in
          let found = there c.loop-number.ciphers.items number (omega (arith, lt, long, past, end, n)) in
          found.1 ∙ ap (λ (z : Option CipherParts). Some z) (i.each number found.0 found.1 key at asks);
    }
