use Rattle.std.proofs.Common.{◌+◌, ◌++◌, List, length, vec_len, map, reverse, refl, sym, ap, subst, ◌∙◌, arith, length-append}
use Rattle.std.specs.List.{AllByRecursion}
use Rattle.std.proofs.lemmas.List.{length-map, reverse-reverse}
use Rattle.bc_bio.specs.Requests.{RequestParts, reply_of}
use Rattle.bc_queue.specs.Plugs.{IsReady, IsWaiting, bios_in, count_bios}
use Rattle.bc_queue.proofs.PlugLaws.{all_but_last, all_reversed, last_of_all, count_bios-more, count_reversed, ready_again, ready_and, replies_more}
use Rattle.bc_queue.proofs.plug.finish_all.Goals as goal

pub loop-request-init : goal.loop-request-init
loop-request-init c =
    let turned = ap reverse c.reverse.ensures.items ∙ reverse-reverse c.args.requests.now.items in (
      ap (λ (rs : List RequestParts). c.args.out.now.items ++ map reply_of (bios_in rs)) turned,
      ap (λ n. vec_len c.args.out.now + n) (count_reversed _ _ c.reverse.ensures.permutation),
      ap (λ n. n + vec_len c.args.ready.now) c.reverse.ensures.len,
      subst (λ (rs : List RequestParts). AllByRecursion IsWaiting rs) (sym c.reverse.ensures.items) (all_reversed IsWaiting c.args.requests.now.items c.requires.waiting),
      c.requires.ready,
      refl,
      c.reverse.ensures.capacity,
      refl,
    )

pub loop-request-preserved : goal.loop-request-preserved
loop-request-preserved c =
    let here = c.loop-request.invariant in
    let split = c.in-Some.ensures.items in
    let waiting = subst (λ (rs : List RequestParts). AllByRecursion IsWaiting rs) split here.3 in
    let many = ap count_bios split ∙ count_bios-more c.pop.new.self.items c.in-Some.request in
    let out = ap length c.finish.ensures.replies ∙ length-append c.loop-request.out.items (map reply_of c.in-Some.request.bios) in
    let replies = length-map c.in-Some.request.bios reply_of in (
      ap (λ rs. rs ++ map reply_of (bios_in (reverse c.pop.new.self.items))) c.finish.ensures.replies
          ∙ replies_more c.loop-request.out.items c.pop.new.self.items c.in-Some.request
          ∙ ap (λ (rs : List RequestParts). c.loop-request.out.items ++ map reply_of (bios_in (reverse rs))) (sym split)
          ∙ here.0,
      omega (arith, many, out, replies, here.1, c.finish.new.out.ok.0, c.loop-request.out.ok.0),
      omega (arith, here.2, c.in-Some.ensures.len, c.push_reserved.ensures.len),
      all_but_last IsWaiting c.pop.new.self.items c.in-Some.request waiting,
      subst (λ (rs : List RequestParts). AllByRecursion IsReady rs) (sym c.push_reserved.ensures.items)
          (ready_and c.loop-request.ready.items c.finish.new.self here.4 (ready_again c.in-Some.request c.finish.new.self (last_of_all IsWaiting c.pop.new.self.items c.in-Some.request waiting) c.finish.ensures.empty)),
      c.finish.ensures.room ∙ here.5,
      c.pop.ensures.capacity ∙ here.6,
      c.push_reserved.ensures.capacity ∙ here.7,
    )
