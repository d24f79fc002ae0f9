use Rattle.std.proofs.Common.{◌≡◌, ◌<◌, List, ℕ, Some, length, sym, ap, ◌∙◌, subst}
use Rattle.std.specs.Option.{IsSomeAnd}
use Rattle.std.proofs.lemmas.Result.{IfOk-weaker}
use Rattle.bc_base.specs.Folders.{FileData, FolderData, IsPlaceOf, file_bytes}
use Rattle.bc_base.proofs.Files.{bytes_of_place}
use Rattle.bc_base.proofs.mem_folder.MemFolderFolder.get.Goals as goal

found : (c : goal.After-read) → file_bytes c.args.self.now.files c.args.name.now ≡ Some c.index.result.now.bytes
found c =
    let place : IsPlaceOf c.self.inside.files.items c.args.name.now c.in-Some.place = subst (λ (files : List FileData). IsPlaceOf files c.args.name.now c.in-Some.place) c.deref.ensures.value c.in-Some.ensures in
    ap (λ (f : FolderData). file_bytes f.files c.args.name.now) (sym c.self.view_is)
    ∙ bytes_of_place c.self.inside.files.items c.args.name.now c.in-Some.place c.index.result.now place
    ∙ ap (λ (f : FileData). Some f.bytes) (sym c.index.ensures)

pub returns-clause-found : goal.returns-clause-found
returns-clause-found c = IfOk-weaker c.read.result (λ bytes. bytes.items ≡ c.index.result.now.bytes) (λ bytes. file_bytes c.args.self.now.files c.args.name.now ≡ Some bytes.items) (λ bytes is. found c ∙ ap (λ (b : List ℕ). Some b) (sym is)) c.read.ensures.bytes

pub returns-clause-too_long : goal.returns-clause-too_long
returns-clause-too_long c = λ long. subst (λ o. IsSomeAnd o (λ bytes. c.args.limit < length bytes)) (sym (found c)) (c.read.ensures.too_long long)
