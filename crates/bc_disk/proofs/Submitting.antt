-- A bio that is submitted alone.
use Rattle.std.proofs.Common.{◌≡◌, ℕ, List, [], ◌∷◌, append-nil, refl, sym, subst, ◌∙◌, map}
use Rattle.std.specs.List.{AllZip}
use Rattle.std.proofs.lemmas.List.Concat.{flat_map-cons}
use Rattle.bc_key.specs.KeyData.{KeyData}
use Rattle.bc_bio.specs.declared.bio.Bio.{Bio}
use Rattle.bc_bio.specs.declared.marked_bio.MarkedBio.{MarkedBio}
use Rattle.bc_bio.specs.declared.reply.Reply.{Reply}
use Rattle.bc_bio.specs.PlannedUnit.{PlannedUnit}
use Rattle.bc_bio.specs.Requests.{RequestParts, reply_of, tagged_of, unmarked}
use Rattle.bc_bio.specs.Windows.{NamedUnit}
use Rattle.bc_medium.specs.declared.entry.Entry.{Entry}
use Rattle.bc_medium.specs.Growth.{Attempts}
use Rattle.bc_stack.specs.declared.target.Target.{Target}
use Rattle.bc_queue.specs.Carrying.{AccessFacts}
use Rattle.bc_pieces.specs.Laws.{PlannedByBios}
use Rattle.bc_pieces.specs.Pieces.{DeviceFacts}
use Rattle.bc_pieces.specs.PieceEffects.{IsHoldOf}
use Rattle.bc_pieces.specs.Becoming.{Becomes}
use Rattle.bc_pieces.specs.AttemptedRequest.{IsWholeRequest}
use Rattle.bc_disk.specs.Submissions.{Adds, CarriesRequest, RepliesTo, Submits, inline_pieces, window_pieces}

-- the same pieces
unfoldable pub adds_by : (old new : DeviceFacts) (pieces others : List (List NamedUnit)) → pieces ≡ others → Adds old new pieces → Adds old new others
adds_by old new pieces others is p = record {
  same = p.same;
  made = p.made;
  holds = p.holds;
  one_for_each = subst (λ ps. AllZip (IsHoldOf old.targets) ps p.holds) is p.one_for_each;
  grows = p.grows;
  ways = p.ways;
  notes = p.notes;
  held = p.held;
  rises = p.rises;
}

-- the pieces of a window of one bio
pub one_window : (targets : List Target) (keys : List KeyData) (bio : Bio) → window_pieces targets keys (bio ∷ []) ≡ inline_pieces targets keys (tagged_of bio ∷ [])
one_window targets keys bio = flat_map-cons (inline_pieces targets keys) (tagged_of bio ∷ []) [] ∙ append-nil (inline_pieces targets keys (tagged_of bio ∷ []))

-- bios that became these are answered so
pub replies_to : (facts : AccessFacts) (seen : List (List Entry)) (bios : List Bio) (afters : List MarkedBio) → AllZip (Becomes facts seen) (map unmarked bios) afters → AllZip (RepliesTo facts seen) bios (map reply_of afters)
replies_to facts seen [] [] all = tt
replies_to facts seen [] (a ∷ afters) all = absurd all
replies_to facts seen (b ∷ bs) [] all = absurd all
replies_to facts seen (b ∷ bs) (a ∷ afters) all = ((a, all.0, refl), replies_to facts seen bs afters all.1)

module _ (by_bios : PlannedByBios) (old new : DeviceFacts) (bio : Bio) (reply : Reply) where
  one_is : (room : ℕ) (after : RequestParts) → CarriesRequest old new (record { bios = unmarked bio ∷ []; spare = room }) after → map reply_of after.bios ≡ reply ∷ [] → Submits old new (bio ∷ []) (reply ∷ [])
  unfolding adds_by
  one_is room after carries is =
      let pieces : inline_pieces old.targets old.access.keys (tagged_of bio ∷ []) ≡ window_pieces old.targets old.access.keys (bio ∷ []) = sym (one_window old.targets old.access.keys bio) in
      let whole : IsWholeRequest old.access new.access (record { bios = unmarked bio ∷ []; spare = room }) after carries.adds.made = carries.whole (refl, tt) in
      record {
        adds = adds_by old new (inline_pieces old.targets old.access.keys (tagged_of bio ∷ [])) (window_pieces old.targets old.access.keys (bio ∷ [])) pieces carries.adds;
        attempts = λ differ. subst (λ (us : List PlannedUnit). Attempts old.access.caller [] us carries.adds.made) (by_bios old.access.keys (unmarked bio ∷ [])) (whole.attempts differ);
        replies = subst (λ rs. AllZip (RepliesTo old.access new.access.seen) (bio ∷ []) rs) is (replies_to old.access new.access.seen (bio ∷ []) after.bios whole.becomes);
      }

  pub submits_one : (before after : RequestParts) → CarriesRequest old new before after → before.bios ≡ unmarked bio ∷ [] → map reply_of after.bios ≡ reply ∷ [] → Submits old new (bio ∷ []) (reply ∷ [])
  submits_one before after carries is are =
      one_is before.spare after (subst (λ (bs : List MarkedBio). CarriesRequest old new (record { bios = bs; spare = before.spare }) after) is carries) are
