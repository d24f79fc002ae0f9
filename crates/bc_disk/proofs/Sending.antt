-- Requests that were carried out one after the other, as one window.
use Rattle.std.proofs.Common.{◌≡◌, ℕ, List, [], ◌∷◌, ◌++◌, map, refl, sym, ap, subst, ◌∙◌, Option}
use Rattle.std.specs.List.{AllZip}
use Rattle.bc_key.specs.KeyData.{KeyData}
use Rattle.bc_bio.specs.declared.marked_bio.MarkedBio.{MarkedBio}
use Rattle.bc_bio.specs.PlannedUnit.{PlannedUnit}
use Rattle.bc_bio.specs.Requests.{RequestParts, reply_of, tagged_bios, tagged_of, unmarked}
use Rattle.bc_bio.specs.Windows.{NamedUnit, TaggedBio}
use Rattle.bc_medium.specs.Growth.{Attempts}
use Rattle.bc_profile.specs.Laws.{HoldsNameProgrammings, LaterHoldsNameLater}
use Rattle.bc_stack.specs.declared.target.Target.{Target}
use Rattle.bc_queue.specs.Carrying.{AccessFacts, HasSameWay}
use Rattle.bc_queue.specs.Laws.{TagsDiffer}
use Rattle.bc_pieces.specs.AttemptedRequest.{HasNoFault, IsWholeRequest}
use Rattle.bc_pieces.specs.Becoming.{Becomes}
use Rattle.bc_pieces.specs.Laws.{BecomesStays, PlannedByBios}
use Rattle.bc_pieces.specs.Pieces.{DeviceFacts}
use Rattle.bc_disk.specs.Submissions.{Adds, CarriesRequest, Submits, bare_bios, inline_pieces, window_pieces}
use Rattle.bc_disk.proofs.Adding.{adds_append, adds_none}
use Rattle.bc_disk.proofs.Attempting.{attempts_on, differ_back, differ_front, units_planned}
use Rattle.bc_disk.proofs.Inlining.{planned_is}
use Rattle.bc_disk.proofs.OneWay.{becomes_by}
use Rattle.bc_disk.proofs.Submitting.{adds_by, replies_to}
use Rattle.bc_base.proofs.Members.{zip_append}
use Rattle.bc_pieces.proofs.Whole.{zip_each}

-- these bios were submitted, in requests with these pieces, and became those
pub record Sent (old new : DeviceFacts) (bios afters : List MarkedBio) (pieces : List (List NamedUnit)) : Type 0 where
  pub adds : Adds old new pieces
  pub goes : HasSameWay old.access new.access
  pub attempts : TagsDiffer (tagged_bios bios) → Attempts old.access.caller [] (units_planned old.access.keys bios) adds.made
  pub becomes : AllZip (Becomes old.access new.access.seen) bios afters

pub sent_none : (facts : DeviceFacts) → Sent facts facts [] [] []
unfolding adds_none
sent_none facts = record { adds = adds_none facts; goes = refl; attempts = λ differ. tt; becomes = tt }

module _ (name : HoldsNameProgrammings) (name_later : LaterHoldsNameLater) (stays : BecomesStays) (by_bios : PlannedByBios) where
  -- one request more
  pub sent_more : (old mid new : DeviceFacts) (bios afters : List MarkedBio) (pieces : List (List NamedUnit)) (before after : RequestParts) → Sent old mid bios afters pieces → HasNoFault before.bios → HasSameWay mid.access new.access → CarriesRequest mid new before after
      → Sent old new (bios ++ before.bios) (afters ++ after.bios) (pieces ++ inline_pieces old.targets old.access.keys (tagged_bios before.bios))
  unfolding adds_append adds_by
  sent_more old mid new bios afters pieces before after p fine goes c =
      let are : inline_pieces mid.targets mid.access.keys (tagged_bios before.bios) ≡ inline_pieces old.targets old.access.keys (tagged_bios before.bios) =
      ap (λ (ts : List Target). inline_pieces ts mid.access.keys (tagged_bios before.bios)) p.adds.same.targets ∙ ap (λ (ks : List KeyData). inline_pieces old.targets ks (tagged_bios before.bios)) p.adds.same.keys in
      let whole : IsWholeRequest mid.access new.access before after c.adds.made = c.whole fine in
      let one : TagsDiffer (tagged_bios before.bios) → Attempts old.access.caller [] (units_planned old.access.keys before.bios) c.adds.made =
      λ differ. subst (λ (n : ℕ). Attempts n [] (units_planned old.access.keys before.bios) c.adds.made) p.adds.same.caller
      (subst (λ (ks : List KeyData). Attempts mid.access.caller [] (units_planned ks before.bios) c.adds.made) p.adds.same.keys
      (subst (λ (us : List PlannedUnit). Attempts mid.access.caller [] us c.adds.made) (planned_is by_bios before.bios mid.access.keys) (whole.attempts differ))) in
      record {
        adds = adds_append name name_later old mid new pieces (inline_pieces old.targets old.access.keys (tagged_bios before.bios)) p.adds
            (adds_by mid new (inline_pieces mid.targets mid.access.keys (tagged_bios before.bios)) (inline_pieces old.targets old.access.keys (tagged_bios before.bios)) are c.adds);
        goes = goes ∙ ap (λ (f : AccessFacts). let g : AccessFacts = record f { seen = new.access.seen; spare = new.access.spare } in g) p.goes;
        attempts = λ differ.
            attempts_on old.access.caller old.access.keys bios before.bios differ p.adds.made c.adds.made
            (p.attempts (differ_front old.access.caller old.access.keys bios before.bios differ)) (one (differ_back old.access.caller old.access.keys bios before.bios differ));
        becomes =
            zip_append (Becomes old.access new.access.seen) bios before.bios afters after.bios
            (zip_each (Becomes old.access mid.access.seen) (Becomes old.access new.access.seen) bios afters (λ was is b. stays old.access mid.access.seen new.access.seen was is c.adds.grows.fronts b) p.becomes)
            (zip_each (Becomes mid.access new.access.seen) (Becomes old.access new.access.seen) before.bios after.bios
            (λ was is b. becomes_by old.access.via mid.access.seen mid.access.spare old.access new.access.seen was is (subst (λ (f : AccessFacts). Becomes f new.access.seen was is) p.goes b)) whole.becomes);
      }

-- ---- the window

pub bare_tags : (bios : List MarkedBio) → map tagged_of (bare_bios bios) ≡ tagged_bios bios
bare_tags [] = refl
bare_tags (m ∷ bios) = ap (λ (l : List TaggedBio). tagged_of m.bio ∷ l) (bare_tags bios)

unmarked_again : (bios : List MarkedBio) → HasNoFault bios → map unmarked (bare_bios bios) ≡ bios
unmarked_again [] fine = refl
unmarked_again (m ∷ bios) fine =
    ap (λ (o : Option ℕ). let x : MarkedBio = record { bio = m.bio; fault = o } in x ∷ map unmarked (bare_bios bios)) (sym fine.0)
    ∙ ap (λ (l : List MarkedBio). m ∷ l) (unmarked_again bios fine.1)

pub submits_all : (old new : DeviceFacts) (bios afters : List MarkedBio) (pieces : List (List NamedUnit)) → Sent old new bios afters pieces → HasNoFault bios → pieces ≡ window_pieces old.targets old.access.keys (bare_bios bios) → Submits old new (bare_bios bios) (map reply_of afters)
unfolding adds_by
submits_all old new bios afters pieces p fine are = record {
  adds = adds_by old new pieces (window_pieces old.targets old.access.keys (bare_bios bios)) are p.adds;
  attempts = λ differ. p.attempts (subst TagsDiffer (bare_tags bios) differ);
  replies = replies_to old.access new.access.seen (bare_bios bios) afters (subst (λ (bs : List MarkedBio). AllZip (Becomes old.access new.access.seen) bs afters) (sym (unmarked_again bios fine)) p.becomes);
}
