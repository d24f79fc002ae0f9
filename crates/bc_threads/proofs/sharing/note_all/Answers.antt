use Rattle.std.proofs.Common.{◌≡◌, ◌∙◌, ℕ, ◌+◌, ◌<◌, ◌++◌, ◌∷◌, List, [], length, take, get_or, sym, subst, arith, Some}
use Rattle.std.specs.Prelude.{slice_set}
use Rattle.std.specs.List.{AllByRecursion}
use Rattle.bc_bio.specs.declared.reply.Reply.{Reply}
use Rattle.bc_section.proofs.Lists.{all_read, take_next}
use Rattle.bc_threads.specs.declared.outcome.Outcome.TheVariants as outcomes
use Rattle.bc_report.specs.Report.{IsAnswer}
use Rattle.bc_threads.specs.Outcomes.{answer_of_reply}
use Rattle.bc_threads.specs.Plugging.{AreNoted, SameBeside}
use Rattle.bc_threads.proofs.Noting.{beside_more, next_reply, not_before, noted_more, read_within}
use Rattle.bc_threads.proofs.sharing.note_all.Goals as goal
use Rattle.bc_base.proofs.Members.{all_append}
use Rattle.bc_section.proofs.Reaching.{length_set}

pub loop-op-preserved : goal.loop-op-preserved
loop-op-preserved g c =
    let window = c.args.window.now in
    let i = c.loop-op.op-index in
    let op : ℕ = get_or window i 0 in
    let p = c.loop-op.invariant in
    let lt = c.loop-op-test.true in
    let all = c.args.replies.now.items in
    let reply = c.in-Some.reply in
    let now = c.loop-op.answers in
    let next = next_reply all c.pop.new.self.items i reply (sym p.rest ∙ c.in-Some.ensures.items) in
    let read : op ≡ get_or window i op = read_within window i 0 op lt in
    let taken : take (i + 1) window ≡ take i window ++ op ∷ [] = take_next window i op lt read in
    let none = not_before window i lt c.requires.order in
    let long = p.long in
    let had : op < length c.args.answers.now = all_read (λ o. o < length c.args.answers.now) window i op c.requires.within lt read in
    let within : op < length now = omega (arith, had, long) in
    record {
      rest = next.0;
      noted = subst (λ (ws : List ℕ). AreNoted (slice_set now op (Some (outcomes.Replied reply))) ws (take (i + 1) all)) (sym taken)
          (subst (λ (rs : List Reply). AreNoted (slice_set now op (Some (outcomes.Replied reply))) (take i window ++ op ∷ []) rs) (sym next.1)
          (noted_more (take i window) (take i all) now op reply within none p.noted));
      others = subst (λ (ws : List ℕ). SameBeside ws c.args.answers.now (slice_set now op (Some (outcomes.Replied reply)))) (sym taken)
          (beside_more (take i window) op c.args.answers.now now (Some (outcomes.Replied reply)) p.others);
      fits = subst (AllByRecursion (λ reply. IsAnswer (answer_of_reply reply))) (sym next.1)
          (all_append (λ reply. IsAnswer (answer_of_reply reply)) (take i all) (reply ∷ []) p.fits (c.reply_law.ensures, tt));
      long = length_set now op (Some (outcomes.Replied reply)) ∙ p.long;
      room = c.pop.ensures.capacity ∙ p.room;
    }
