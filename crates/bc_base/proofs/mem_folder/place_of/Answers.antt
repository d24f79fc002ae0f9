use Rattle.std.proofs.Common.{◌≡◌, ◌<◌, ◌≤◌, ℕ, false, get_or, sym, ap, ◌∙◌, subst, arith}
use Rattle.std.specs.Str.{bytes_eq}
use Rattle.std.proofs.Math.Logic.{⊎_elim}
use Rattle.std.proofs.lemmas.Bool.{cases_lt}
use Rattle.std.proofs.lemmas.List.{get_or_read}
use Rattle.bc_base.specs.Folders.{FileData}
use Rattle.bc_base.proofs.Files.{bytes_of_none}
use Rattle.bc_base.proofs.mem_folder.place_of.Goals as goal

pub returns-then-is_named : goal.returns-then-is_named
returns-then-is_named c = record {
  inside = c.loop-place-test.true;
  named = λ d. ap (λ (f : FileData). bytes_eq f.name c.args.name.now) (sym (get_or_read c.args.files.now c.loop-place.place c.index-files-place.result c.loop-place-test.true c.index-files-place.is d))
      ∙ sym c.is_named.ensures ∙ c.if-is_named.true;
  first = c.loop-place.invariant;
}

pub returns : goal.returns
returns c = bytes_of_none c.args.files.now c.args.name.now (λ k d less. let end = c.loop-place-test.false in c.loop-place.invariant k d (omega arith))

pub loop-place-preserved : goal.loop-place-preserved
loop-place-preserved c = λ k d less. ⊎_elim
    (λ (before : k < c.loop-place.place). c.loop-place.invariant k d before)
    (λ (last : c.loop-place.place ≤ k).
    let same : c.loop-place.place ≡ k = omega arith in
    subst (λ (n : ℕ). bytes_eq (get_or c.args.files.now n d).name c.args.name.now ≡ false) same
    (ap (λ (f : FileData). bytes_eq f.name c.args.name.now) (sym (get_or_read c.args.files.now c.loop-place.place c.index-files-place.result c.loop-place-test.true c.index-files-place.is d))
    ∙ sym c.is_named.ensures ∙ c.if-is_named.false))
    (cases_lt k c.loop-place.place)
