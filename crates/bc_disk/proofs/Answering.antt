-- What a bio that is submitted alone is answered.
use Rattle.std.proofs.Common.{◌≡◌, ◌+◌, List, [], ◌∷◌, ◌++◌, length, map, sym, ap, subst, ◌∙◌, arith, Option, None}
use Rattle.std.specs.Prelude.{MatchOption}
use Rattle.std.proofs.lemmas.List.{length-append, length-map}
use Rattle.bc_base.specs.Sectors.{Sectors}
use Rattle.bc_bio.specs.declared.bio.Bio.{Bio}
use Rattle.bc_bio.specs.declared.marked_bio.MarkedBio.{MarkedBio}
use Rattle.bc_bio.specs.declared.refusal.Refusal.{Refusal}
use Rattle.bc_bio.specs.declared.reply.Reply.{Reply}
use Rattle.bc_bio.specs.declared.reply.Reply.TheVariants as replies
use Rattle.bc_bio.specs.BioUnits.{extent_of}
use Rattle.bc_bio.specs.Requests.{RequestParts, reply_of, tagged_bios, tagged_of, unmarked, with_bio}
use Rattle.bc_pieces.specs.Laws.{PlannedByBios}
use Rattle.bc_disk.specs.Disks.{DiskData, PassData, facts_on, refusal_on}
use Rattle.bc_disk.specs.Submissions.{AnswersBio, CarriesRequest, Submits}
use Rattle.bc_disk.proofs.Submitting.{submits_one}

-- a list of one element is its last one
last_one : {X : Type 0} (xs ys : List X) (x : X) → length ys ≡ 1 → ys ≡ xs ++ x ∷ [] → ys ≡ x ∷ []
last_one [] ys x one is = is
last_one (y ∷ xs) ys x one is =
    let long : length ys ≡ length (y ∷ xs) + length (x ∷ []) = ap length is ∙ length-append (y ∷ xs) (x ∷ []) in
    absurd (omega (arith, one, long))

module _ {S : Type 0} (contents : S → Option Sectors) (disk : DiskData S) (within pass new : PassData S) (is_pass : within ≡ pass) (bio : Bio) (reply : Reply) (request before after : RequestParts) (by_bios : PlannedByBios) where
  pub answers_by : (out popped answers : List Reply) → refusal_on disk (extent_of bio) ≡ None → before ≡ with_bio bio request → request.bios ≡ [] → CarriesRequest (facts_on contents disk within) (facts_on contents disk new) before after
      → answers ≡ [] → out ≡ answers ++ map reply_of after.bios → out ≡ popped ++ reply ∷ [] → AnswersBio contents disk pass new bio reply
  answers_by out popped answers unrefused started empty carries none replied last =
      let bios : before.bios ≡ unmarked bio ∷ [] = ap (λ (r : RequestParts). r.bios) started ∙ ap (λ (bs : List MarkedBio). bs ++ unmarked bio ∷ []) empty in
      let many : length (map reply_of after.bios) ≡ length after.bios = length-map after.bios reply_of in
      let kept : length (tagged_bios after.bios) ≡ length (tagged_bios before.bios) = ap length carries.bios in
      let old : length (tagged_bios before.bios) ≡ length before.bios = length-map before.bios (λ (m : MarkedBio). tagged_of m.bio) in
      let now : length (tagged_bios after.bios) ≡ length after.bios = length-map after.bios (λ (m : MarkedBio). tagged_of m.bio) in
      let one : length before.bios ≡ 1 = ap length bios in
      let are : map reply_of after.bios ≡ reply ∷ [] =
      last_one popped (map reply_of after.bios) reply (omega (arith, many, kept, old, now, one)) (sym (replied ∙ ap (λ (l : List Reply). l ++ map reply_of after.bios) none) ∙ last) in
      let submits : Submits (facts_on contents disk pass) (facts_on contents disk new) (bio ∷ []) (reply ∷ []) =
      subst (λ (p : PassData S). Submits (facts_on contents disk p) (facts_on contents disk new) (bio ∷ []) (reply ∷ [])) is_pass
      (submits_one by_bios (facts_on contents disk within) (facts_on contents disk new) bio reply before after carries bios are) in
      subst (λ (o : Option Refusal). MatchOption o (Submits (facts_on contents disk pass) (facts_on contents disk new) (bio ∷ []) (reply ∷ [])) (λ refusal. (reply ≡ replies.Refused refusal bio) × (new ≡ pass))) (sym unrefused) submits
