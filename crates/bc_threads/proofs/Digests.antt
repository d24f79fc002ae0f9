-- The numbers of an answer: a digest is 32 bytes.
use Rattle.std.proofs.Common.{◌≡◌, ℕ, zero, suc, ◌+◌, ◌-◌, ◌<◌, ◌≤◌, Bool, true, false, cond, List, [], ◌∷◌, ◌++◌, length, get_or, take, refl, sym, subst, arith, Some}
use Rattle.std.specs.Prelude.{◌==◌, flat_map, slice_get, slice_index}
use Rattle.std.specs.Int.{byte_at, bytes_high_first, to_be_bytes, w32}
use Rattle.std.specs.List.{list_all}
use Rattle.std.proofs.Math.Logic.{⊎_elim}
use Rattle.std.proofs.lemmas.Bool.{cases_lt}
use Rattle.std.proofs.lemmas.List.{get_or_append_left, get_or-append_right}
use Rattle.sha2.specs.Sha256.{digest_bytes, sha256}
use Rattle.sha2.proofs.Facts256.{length-sha256}
use Rattle.hex.specs.Hex.{IsBytes}
use Rattle.std.proofs.lemmas.Grind.{flat_map-append}
use Rattle.std.proofs.lemmas.Option.{none-some}
use Rattle.bc_bio.specs.declared.access.Access.{Access}
use Rattle.bc_bio.specs.declared.access.Access.TheVariants.{Read, Write}
use Rattle.bc_bio.specs.declared.bio.Bio.{Bio}
use Rattle.bc_bio.specs.declared.unit.Unit.{Unit}
use Rattle.bc_section.proofs.Lists.{take_next}
use Rattle.bc_threads.specs.Outcomes.{bytes_of_unit, bytes_of_bio, done_answer}
use Rattle.bc_report.specs.declared.answer.Answer.{Answer}
use Rattle.bc_report.specs.declared.answer.Answer.TheVariants as answers
use Rattle.bc_report.specs.Answers.{read_answer}
use Rattle.bc_report.specs.Report.{IsAnswer}

append_bytes : (xs ys : List ℕ) → IsBytes xs → IsBytes ys → IsBytes (xs ++ ys)
append_bytes xs ys p q i = ⊎_elim
    (λ (lt : i < length xs). subst (λ (b : ℕ). b < 256) (sym (get_or_append_left xs ys 0 i lt)) (p i))
    (λ (ge : length xs ≤ i). subst (λ (b : ℕ). b < 256) (sym (get_or-append_right xs ys (length xs) i 0 refl ge)) (q (i - length xs)))
    (cases_lt i (length xs))

byte_below : (k n : ℕ) → byte_at k n < 256
byte_below zero n = omega arith
byte_below (suc k) n = omega arith

high_bytes : (k n : ℕ) → IsBytes (bytes_high_first k n)
high_bytes zero n i = omega arith
high_bytes (suc k) n zero = byte_below k n
high_bytes (suc k) n (suc i) = high_bytes k n i

digest_is : (h : List ℕ) (n : ℕ) → IsBytes (digest_bytes h n)
unfolding digest_bytes
digest_is h zero = λ i. omega arith
digest_is h (suc n) = append_bytes (digest_bytes h n) (to_be_bytes w32 (slice_index h n)) (digest_is h n) (high_bytes 4 (slice_index h n))

digest_bytes_are : (m : List ℕ) → IsBytes (sha256 m)
unfolding sha256
digest_bytes_are m = digest_is _ 8

-- a digest has 32 bytes, each of them below 256
pub is_digest : (m : List ℕ) → IsAnswer (answers.ReadSum (sha256 m))
is_digest m = (digest_bytes_are m, length-sha256 m)

-- what a report says of bytes that were read is in range, where the first of them is
pub read_fits : (bytes : List ℕ) → ((byte : ℕ) → slice_get bytes 0 ≡ Some byte → byte < 256) → IsAnswer (read_answer bytes)
read_fits [] first = is_digest []
read_fits (byte ∷ bytes) first = go (list_all (λ other. other == byte) bytes)
  where
    go : (b : Bool) → IsAnswer (cond {A = Answer} b (answers.ReadFill byte) (answers.ReadSum (sha256 (byte ∷ bytes))))
    go true = first byte refl
    go false = is_digest (byte ∷ bytes)

-- the first byte of two texts, one after the other, is the first of one of them
pub first_of_append : (xs ys : List ℕ) → ((byte : ℕ) → slice_get xs 0 ≡ Some byte → byte < 256) → ((byte : ℕ) → slice_get ys 0 ≡ Some byte → byte < 256) → (byte : ℕ) → slice_get (xs ++ ys) 0 ≡ Some byte → byte < 256
first_of_append [] ys p q = q
first_of_append (x ∷ xs) ys p q = λ byte is. p byte is

-- and of one more unit
pub first_of_next : (units : List Unit) (i : ℕ) (unit : Unit) → i < length units → unit ≡ get_or units i unit → ((byte : ℕ) → slice_get (flat_map bytes_of_unit (take i units)) 0 ≡ Some byte → byte < 256)
    → ((byte : ℕ) → slice_get (bytes_of_unit unit) 0 ≡ Some byte → byte < 256) → (byte : ℕ) → slice_get (flat_map bytes_of_unit (take (i + 1) units)) 0 ≡ Some byte → byte < 256
first_of_next units i unit lt read before here =
    subst (λ (us : List Unit). (byte : ℕ) → slice_get (flat_map bytes_of_unit us) 0 ≡ Some byte → byte < 256) (sym (take_next units i unit lt read))
    (subst (λ (bytes : List ℕ). (byte : ℕ) → slice_get bytes 0 ≡ Some byte → byte < 256) (sym (flat_map-append bytes_of_unit (take i units) (unit ∷ [])))
    (first_of_append (flat_map bytes_of_unit (take i units)) (bytes_of_unit unit ++ []) before (first_of_append (bytes_of_unit unit) [] here (λ byte is. absurd (none-some byte is)))))

-- the numbers of how a report says that a bio was done
pub done_fits : (access : Access) (bio : Bio) → ((byte : ℕ) → slice_get (bytes_of_bio bio) 0 ≡ Some byte → byte < 256) → IsAnswer (done_answer access bio)
done_fits Write bio first = tt
done_fits Read bio first = read_fits (bytes_of_bio bio) first
