use Rattle.std.proofs.Common.{◌≡◌, ◌∙◌, sym, true, false, rules, Some}
use Rattle.std.proofs.lemmas.Slice.Eq.{bytes_eq-Decides}
use Rattle.std.specs.Str.{bytes_eq}
use Rattle.std.specs.String.{string_bytes}
use Rattle.std.specs.Prelude.{slice_get}
use Rattle.bc_run.proofs.Given.{first_is, first_mapped}
use Rattle.bc_run.proofs.words.begins.Goals as goal

pub returns-in-Some-clause-yes : goal.returns-in-Some-clause-yes
returns-in-Some-clause-yes c = λ t.
    let v = c.as_str.ensures.value in let n = c.eq.ensures in
    let e : string_bytes c.in-Some.word.now ≡ c.args.name.now = search rules in
    let at : slice_get c.args.words.now 0 ≡ Some c.in-Some.word.now = search rules in
    first_mapped string_bytes c.args.words.now c.in-Some.word.now c.args.name.now at e

pub returns-in-Some-clause-no : goal.returns-in-Some-clause-no
returns-in-Some-clause-no c = λ f named.
    let v = c.as_str.ensures.value in let n = c.eq.ensures in
    let at : slice_get c.args.words.now 0 ≡ Some c.in-Some.word.now = search rules in
    let is : string_bytes c.in-Some.word.now ≡ c.args.name.now = first_is string_bytes c.args.words.now c.in-Some.word.now c.args.name.now at named in
    let same : c.as_str.result.now ≡ c.args.name.now = search rules in
    let yes : bytes_eq c.as_str.result.now c.args.name.now ≡ true = (bytes_eq-Decides c.as_str.result.now c.args.name.now).1 same in
    let t : c.eq.result ≡ true = search rules in
    let bad : true ≡ false = sym t ∙ f in
    cc
