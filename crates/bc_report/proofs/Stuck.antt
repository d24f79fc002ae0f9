-- Lines that follow nowhere.
use Rattle.std.proofs.Common.{◌≡◌, ◌≢◌, ℕ, ◌+◌, ◌<◌, ◌^◌, List, [], ◌∷◌, ◌++◌, length, refl, sym, ap, subst, ◌∙◌, arith}
use Rattle.std.specs.Prelude.{Result, Ok, Err, OnOk, IfErr}
use Rattle.std.proofs.lemmas.Fmt.{decimal_injective}
use Rattle.std.specs.Fmt.{decimal}
use Rattle.bc_text.specs.Lines.{TextLine}
use Rattle.bc_report.specs.declared.limits.TheConstants.{MAX_THREADS, MAX_SHARDS, MAX_DEVICES}
use Rattle.bc_report.specs.declared.part.Part.TheVariants as parts
use Rattle.bc_report.specs.declared.sort.Sort.{Sort}
use Rattle.bc_report.specs.declared.sort.Sort.TheVariants as sorts
use Rattle.bc_report.specs.declared.unread.Unread.{Unread}
use Rattle.bc_report.specs.declared.unread.Unread.TheVariants as unread
use Rattle.bc_report.specs.ReportText.{thread_line, shard_line, device_line}
use Rattle.bc_report.specs.LinePlaces.{LinePlace, InThread, Between, sort_of_line, Goes, IsStuck, Follows, FollowsInThread}
use Rattle.bc_report.specs.Progress.{Progress, lines_read, line_place_of, IsIn, TookReportLine, RefusesLine, thread_closed, shard_closed, device_closed}
use Rattle.bc_report.proofs.Taken.{place_in, thread_lines_stay, shard_lines_stay, device_lines_stay, thread_place, shard_place, device_place}

-- nothing follows at this place
stuck_at : (p : Progress) (line : TextLine) (at : LinePlace) → line_place_of p ≡ at → IsStuck at line → IsStuck (line_place_of p) line
stuck_at p line at is stuck = subst (λ (a : LinePlace). IsStuck a line) (sym is) stuck

-- ---- between parts

stuck_between : (p : Progress) (line : TextLine) (sort : Sort) → IsIn parts.Between p → sort_of_line line ≡ sort → ((next : LinePlace) → Follows (length p.threads) (length p.shards) (length p.devices) sort line next → ⊥) → IsStuck (line_place_of p) line
stuck_between p line sort i is none =
    stuck_at p line (Between (length p.threads) (length p.shards) (length p.devices)) (place_in parts.Between p i)
    (λ next g. none next (subst (λ (s : Sort). Follows (length p.threads) (length p.shards) (length p.devices) s line next) is g))

second : (a b c d : List ℕ) (x y : TextLine) → a ∷ b ∷ x ≡ c ∷ d ∷ y → b ≡ d
second a b c d x y e = cc

-- the line names another number
same_number : (w v : List ℕ) (m n : ℕ) (x y : TextLine) → m < 64 → n < 64 → w ∷ decimal m ∷ x ≡ v ∷ decimal n ∷ y → m ≡ n
same_number w v m n x y p q e = decimal_injective m n (omega arith) (omega arith) (second w (decimal m) v (decimal n) x y e)

pub stuck_other_thread : (p : Progress) (line : TextLine) (number : ℕ) → IsIn parts.Between p → sort_of_line line ≡ sorts.Thread → number < MAX_THREADS → line ≡ thread_line number → number ≢ length p.threads → IsStuck (line_place_of p) line
stuck_other_thread p line number i is small says other =
    stuck_between p line sorts.Thread i is (λ next f. other (same_number _ _ number (length p.threads) [] [] (omega arith) (omega (arith, f.2.0)) (sym says ∙ f.2.1)))

pub stuck_shard : (p : Progress) (line : TextLine) → IsIn parts.Between p → sort_of_line line ≡ sorts.Shard → ((n : ℕ × ℕ) → (n.0 < MAX_SHARDS) × (n.1 < 2 ^ 32) → line ≡ shard_line n.0 n.1 → ⊥) → IsStuck (line_place_of p) line
stuck_shard p line i is none = stuck_between p line sorts.Shard i is (λ next f. none (length p.shards, f.1.1.0) (f.1.0, f.1.1.1) f.1.1.2)

pub stuck_other_shard : (p : Progress) (line : TextLine) (number count : ℕ) → IsIn parts.Between p → sort_of_line line ≡ sorts.Shard → number < MAX_SHARDS → line ≡ shard_line number count → number ≢ length p.shards → IsStuck (line_place_of p) line
stuck_other_shard p line number count i is small says other =
    stuck_between p line sorts.Shard i is (λ next f. other (same_number _ _ number (length p.shards) (decimal count ∷ []) (decimal f.1.1.0 ∷ []) (omega arith) (omega (arith, f.1.0)) (sym says ∙ f.1.1.2)))

pub stuck_device : (p : Progress) (line : TextLine) → IsIn parts.Between p → sort_of_line line ≡ sorts.Device → ((n : ℕ × ℕ) → (n.0 < MAX_DEVICES) × (n.1 < 2 ^ 32) → line ≡ device_line n.0 n.1 → ⊥) → IsStuck (line_place_of p) line
stuck_device p line i is none = stuck_between p line sorts.Device i is (λ next f. none (length p.devices, f.1.0) (f.0, f.1.1) f.1.2)

pub stuck_other_device : (p : Progress) (line : TextLine) (number count : ℕ) → IsIn parts.Between p → sort_of_line line ≡ sorts.Device → number < MAX_DEVICES → line ≡ device_line number count → number ≢ length p.devices → IsStuck (line_place_of p) line
stuck_other_device p line number count i is small says other =
    stuck_between p line sorts.Device i is (λ next f. other (same_number _ _ number (length p.devices) (decimal count ∷ []) (decimal f.1.0 ∷ []) (omega arith) (omega (arith, f.0)) (sym says ∙ f.1.2)))

-- ---- a part that is whole is closed before the next line

not_other_follows : (n : ℕ) (sort : Sort) (line : TextLine) (next : LinePlace) → sort ≢ sorts.Other → FollowsInThread n sort line next → Follows n 0 0 sort line next
not_other_follows n sorts.Thread line next other f = f
not_other_follows n sorts.Shard line next other f = f
not_other_follows n sorts.Device line next other f = f
not_other_follows n sorts.End line next other f = f
not_other_follows n sorts.Other line next other f = absurd (other refl)

follows_in_thread : (n : ℕ) (sort : Sort) (line : TextLine) (next : LinePlace) → Follows n 0 0 sort line next → FollowsInThread n sort line next
follows_in_thread n sorts.Thread line next f = f
follows_in_thread n sorts.Shard line next f = f
follows_in_thread n sorts.Device line next f = f
follows_in_thread n sorts.End line next f = f
follows_in_thread n sorts.Other line next f = absurd f

-- what is read next is read after the part
took_same : (p q new : Progress) (line : TextLine) → lines_read q ≡ lines_read p → line_place_of q ≡ line_place_of p → TookReportLine q line new → TookReportLine p line new
took_same p q new line lines at took = record {
  lines = took.lines ∙ ap (λ (ls : List TextLine). ls ++ line ∷ []) lines;
  goes = subst (λ (a : LinePlace). Goes a line (line_place_of new)) at took.goes;
  rules = took.rules;
}

refuses_same : (p q : Progress) (line : TextLine) (e : Unread) → line_place_of q ≡ line_place_of p → RefusesLine q line e → RefusesLine p line e
refuses_same p q line unread.Bad at stuck = subst (λ (a : LinePlace). IsStuck a line) at stuck
refuses_same p q line unread.Memory at stuck = tt

pub took_after_shard : (p new : Progress) (line : TextLine) → IsIn parts.Entries p → p.owed ≡ 0 → TookReportLine (shard_closed p) line new → TookReportLine p line new
took_after_shard p new line i none = took_same p (shard_closed p) new line (shard_lines_stay p i none) (shard_place p i none)

pub refuses_after_shard : (p : Progress) (line : TextLine) (e : Unread) → IsIn parts.Entries p → p.owed ≡ 0 → RefusesLine (shard_closed p) line e → RefusesLine p line e
refuses_after_shard p line e i none = refuses_same p (shard_closed p) line e (shard_place p i none)

pub took_after_device : (p new : Progress) (line : TextLine) → IsIn parts.Events p → p.owed ≡ 0 → TookReportLine (device_closed p) line new → TookReportLine p line new
took_after_device p new line i none = took_same p (device_closed p) new line (device_lines_stay p i none) (device_place p i none)

pub refuses_after_device : (p : Progress) (line : TextLine) (e : Unread) → IsIn parts.Events p → p.owed ≡ 0 → RefusesLine (device_closed p) line e → RefusesLine p line e
refuses_after_device p line e i none = refuses_same p (device_closed p) line e (device_place p i none)

pub took_after_thread : (p new : Progress) (line : TextLine) → IsIn parts.Answers p → TookReportLine (thread_closed p) line new → TookReportLine p line new
took_after_thread p new line i took = record {
  lines = took.lines ∙ ap (λ (ls : List TextLine). ls ++ line ∷ []) (thread_lines_stay p i);
  goes =
      subst (λ (a : LinePlace). Goes a line (line_place_of new)) (sym (place_in parts.Answers p i))
      (follows_in_thread (length p.threads + 1) (sort_of_line line) line (line_place_of new) (subst (λ (a : LinePlace). Goes a line (line_place_of new)) (thread_place p i) took.goes));
  rules = took.rules;
}

pub refuses_after_thread : (p : Progress) (line : TextLine) (e : Unread) → IsIn parts.Answers p → sort_of_line line ≢ sorts.Other → RefusesLine (thread_closed p) line e → RefusesLine p line e
refuses_after_thread p line unread.Memory i other stuck = tt
refuses_after_thread p line unread.Bad i other stuck =
    stuck_at p line (InThread (length p.threads + 1)) (place_in parts.Answers p i)
    (λ next g. stuck next (subst (λ (a : LinePlace). Goes a line next) (sym (thread_place p i)) (not_other_follows (length p.threads + 1) (sort_of_line line) line next other g)))

-- ---- results

pub map_ok : {T E P Q : Type 0} (r : Result T E) → (P → Q) → OnOk r P → OnOk r Q
map_ok (Ok x) f h = f h
map_ok (Err e) f h = tt

pub map_err : {T E : Type 0} (P Q : E → Type 0) (r : Result T E) → ((e : E) → P e → Q e) → IfErr r P → IfErr r Q
map_err P Q (Ok x) f h = tt
map_err P Q (Err e) f h = f e h
