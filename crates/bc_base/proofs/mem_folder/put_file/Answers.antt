use Rattle.std.proofs.Common.{◌≡◌, List, ℕ, None, ap, ◌∙◌, subst}
use Rattle.bc_base.specs.Folders.{FileData, IsPlaceOf, file_bytes}
use Rattle.bc_base.proofs.Files.{set_named, set_other, push_named, push_other}
use Rattle.bc_base.proofs.mem_folder.put_file.Goals as goal

found : (c : goal.After-drop-index_mut-in-Some) → IsPlaceOf c.args.files.now.items c.args.file.name c.in-Some.place
found c =
    subst (λ (files : List FileData). IsPlaceOf files c.args.file.name c.in-Some.place) c.deref.ensures.value
    (subst (λ (name : List ℕ). IsPlaceOf c.deref.result.now name c.in-Some.place) (c.as_str.ensures.value ∙ ap (λ (f : FileData). f.name) c.file.view_is) c.in-Some.ensures)

none : (c : goal.In_ok-push-in-None) → file_bytes c.args.files.now.items c.args.file.name ≡ None
none c =
    subst (λ (files : List FileData). file_bytes files c.args.file.name ≡ None) c.deref.ensures.value
    (subst (λ (name : List ℕ). file_bytes c.deref.result.now name ≡ None) (c.as_str.ensures.value ∙ ap (λ (f : FileData). f.name) c.file.view_is) c.in-None.ensures)

pub returns-in-Some-clause-puts : goal.returns-in-Some-clause-puts
returns-in-Some-clause-puts c = set_named c.args.files.now.items c.args.file c.in-Some.place (found c)

pub returns-in-Some-clause-others : goal.returns-in-Some-clause-others
returns-in-Some-clause-others c = λ other apart. set_other c.args.files.now.items c.args.file c.in-Some.place other (found c) apart

pub returns-in_ok-push-in-None-clause-puts : goal.returns-in_ok-push-in-None-clause-puts
returns-in_ok-push-in-None-clause-puts c = ap (λ (files : List FileData). file_bytes files c.args.file.name) c.in_ok-push-in-None.ensures.items ∙ push_named c.args.files.now.items c.args.file (none c)

pub returns-in_ok-push-in-None-clause-others : goal.returns-in_ok-push-in-None-clause-others
returns-in_ok-push-in-None-clause-others c = λ other apart. ap (λ (files : List FileData). file_bytes files other) c.in_ok-push-in-None.ensures.items ∙ push_other c.args.files.now.items c.args.file other apart
