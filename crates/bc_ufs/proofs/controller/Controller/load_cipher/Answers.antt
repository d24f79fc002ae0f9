use Rattle.std.proofs.Common.{◌≡◌, ℕ, ◌≤◌, List, length, Ok, ap, subst, ◌∙◌}
use Rattle.std.specs.Prelude.{IsSomeAnd}
use Rattle.bc_modes.specs.Entries.{read_words}
use Rattle.bc_modes.specs.UnitCipher.{parts_of}
use Rattle.bc_ufs.specs.Controllers.{ControllerData}
use Rattle.bc_profile.specs.Passes.{row_at}
use Rattle.bc_ufs.proofs.Loaded.{same_Ok, known}
use Rattle.bc_ufs.proofs.controller.Controller.load_cipher.Goals as goal

pub load-words-requires-clause-row : goal.load-words-requires-clause-row
load-words-requires-clause-row c =
    let few : length c.args.self.now.caps.list ≤ 2 = subst (λ (d : ControllerData). length d.caps.list ≤ 2) c.self.view_is c.self.invariant in
    (c.entry_laws.ensures.read_back c.args.key.now c.args.self.now.caps (row_at c.args.self.now.profile c.args.hold.now.key) c.requires.valid few c.requires.entry).count

pub returns-then-is_of-clause-cipher : goal.returns-then-is_of-clause-cipher
returns-then-is_of-clause-cipher c =
    let few : length c.args.self.now.caps.list ≤ 2 = subst (λ (d : ControllerData). length d.caps.list ≤ 2) c.self.view_is c.self.invariant in
    known c.args.self.now.caps c.args.key.now (row_at c.args.self.now.profile c.args.hold.now.key) c.load-words.result c.args.last.now c.entry_laws.ensures.read_back c.requires.valid few c.requires.entry c.load-words.ensures.words (subst (λ caps. IsSomeAnd c.args.last.now (λ parts. read_words c.load-words.result caps ≡ Ok parts)) (ap (λ (d : ControllerData). d.caps) c.self.view_is) (c.is_of.ensures c.if-is_of.true))

pub unreachable-requires : goal.unreachable-requires
unreachable-requires c =
    let few : length c.args.self.now.caps.list ≤ 2 = subst (λ (d : ControllerData). length d.caps.list ≤ 2) c.self.view_is c.self.invariant in
    let is = (c.entry_laws.ensures.read_back c.args.key.now c.args.self.now.caps (row_at c.args.self.now.profile c.args.hold.now.key) c.requires.valid few c.requires.entry).read in
    c.in_default.not-Ok (parts_of c.args.key.now) (c.of_words.ensures ∙ ap (read_words c.load-words.result) (ap (λ (d : ControllerData). d.caps) c.self.view_is) ∙ ap (λ (w : List ℕ). read_words w c.args.self.now.caps) c.load-words.ensures.words ∙ is)

pub returns-clause-cipher : goal.returns-clause-cipher
returns-clause-cipher c =
    let few : length c.args.self.now.caps.list ≤ 2 = subst (λ (d : ControllerData). length d.caps.list ≤ 2) c.self.view_is c.self.invariant in
    let is = (c.entry_laws.ensures.read_back c.args.key.now c.args.self.now.caps (row_at c.args.self.now.profile c.args.hold.now.key) c.requires.valid few c.requires.entry).read in
    same_Ok c.in-Ok.cipher (parts_of c.args.key.now) c.of_words.result (read_words (row_at c.args.self.now.profile c.args.hold.now.key) c.args.self.now.caps) c.in-Ok.is is (c.of_words.ensures ∙ ap (read_words c.load-words.result) (ap (λ (d : ControllerData). d.caps) c.self.view_is) ∙ ap (λ (w : List ℕ). read_words w c.args.self.now.caps) c.load-words.ensures.words)
