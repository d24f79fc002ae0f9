use Rattle.std.proofs.Common.{◌≡◌, ℕ, List, Some, sym, ap, ◌∙◌, arith}
use Rattle.std.specs.Option.{option_map}
use Rattle.bc_key.specs.declared.config.Config.{Config}
use Rattle.bc_modes.specs.Capabilities.{index_for}
use Rattle.bc_modes.specs.Entries.{words_of_bytes, entry_bytes, entry_words, read_words}
use Rattle.bc_modes.proofs.EntryLaws.{reads_back}
use Rattle.bc_modes.proofs.entry.entry_words.Goals as goal

pub returns-in_default-clause-words : goal.returns-in_default-clause-words
unfolding entry_words
returns-in_default-clause-words c =
    let key = c.args.key.now in
    let asked : c.index_for.result ≡ index_for c.args.caps.now key.config.mode key.config.unit =
    c.index_for.ensures.index ∙ ap (λ (config : Config). index_for c.args.caps.now config.mode config.unit) c.config-config.ensures.config in
    ap (option_map (λ index. words_of_bytes (entry_bytes key index))) (sym c.in_default.is ∙ asked)

pub returns-clause-words : goal.returns-clause-words
unfolding entry_words
returns-clause-words c =
    let key = c.args.key.now in
    let asked : c.index_for.result ≡ index_for c.args.caps.now key.config.mode key.config.unit =
    c.index_for.ensures.index ∙ ap (λ (config : Config). index_for c.args.caps.now config.mode config.unit) c.config-config.ensures.config in
    ap (λ (words : List ℕ). Some words) (c.words_of_bytes.ensures ∙ ap words_of_bytes c.entry_bytes.ensures)
    ∙ ap (option_map (λ index. words_of_bytes (entry_bytes key index))) (sym c.in-Some.is ∙ asked)

pub returns-clause-reads_back : goal.returns-clause-reads_back
returns-clause-reads_back c =
    let key = c.args.key.now in
    let asked : c.index_for.result ≡ index_for c.args.caps.now key.config.mode key.config.unit =
    c.index_for.ensures.index ∙ ap (λ (config : Config). index_for c.args.caps.now config.mode config.unit) c.config-config.ensures.config in
    ap (λ (words : List ℕ). read_words words c.args.caps.now) (c.words_of_bytes.ensures ∙ ap words_of_bytes c.entry_bytes.ensures)
    ∙ reads_back key c.args.caps.now c.in-Some.index c.config-config.ensures.valid (omega arith) (sym asked ∙ c.in-Some.is)
