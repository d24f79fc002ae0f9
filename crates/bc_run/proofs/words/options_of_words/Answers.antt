use Rattle.std.proofs.Common.{◌≡◌, ◌∙◌, codes, ap, refl, List, ℕ}
use Rattle.std.specs.Option.{option_map_or}
use Rattle.clap.specs.Words.{found_of, first_of, first_value}
use Rattle.clap.proofs.WalkLemmas.{first_value-rows}
use Rattle.bc_run.specs.Words.{number_of_value}
use Rattle.bc_run.proofs.words.options_of_words.Goals as goal

pub returns-in-Ok-clause-said : goal.returns-in-Ok-clause-said
returns-in-Ok-clause-said c =
    let rows = (c.in-Ok.ensures.found refl).0 in
    let value : (id : List ℕ) → first_value (found_of c.in-Ok.matches) id ≡ first_of id _ =
    λ id. first_value-rows (found_of c.in-Ok.matches) id ∙ ap (first_of id) rows in
    let image = c.get_str.ensures ∙ value (codes "image") in
    let out = c.get_str-in-Ok.ensures ∙ value (codes "out") in
    let shards = c.shards_of.ensures.number ∙ ap (λ o. option_map_or number_of_value o 1) (value (codes "shards")) in
    let at_once = c.in_ok-at_once.ensures.at_once in
    rw (image, out, shards, at_once) refl
