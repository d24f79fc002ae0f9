-- The bio of an operation that is refused stands where it was prepared.
use Rattle.std.proofs.Common.{ℕ, List, ◌∷◌, ◌++◌, Option, Some, None}
use Rattle.std.specs.Prelude.{MatchOption, IsSomeAnd, ⊤}
use Rattle.std.specs.List.{AllByRecursion}
use Rattle.bc_base.specs.Lists.{At}
use Rattle.bc_bio.specs.declared.bio.Bio.{Bio}
use Rattle.bc_bio.specs.declared.extent.Extent.{Extent}
use Rattle.bc_script.specs.declared.op.Op.{Op}
use Rattle.bc_script.specs.Script.{Script}
use Rattle.bc_script.specs.Bios.{bio_of}
use Rattle.bc_threads.specs.PreparedBios.{IsBioOf, IsPrepared}
use Rattle.bc_threads.proofs.Affording.{each_there}

-- the bio of an operation that has one
pub bio_there : (script : Script) (bios : List (Option Bio)) (op : ℕ) (operation : Op) (P : Extent → Type 0) → IsSomeAnd (bio_of operation) P → IsPrepared script bios (op, operation)
    → (bio : Bio) × At bios op (Some bio) × IsBioOf script op operation bio
bio_there script bios op operation P has is =
    (elim (bio_of operation) as (λ (o : Option Extent). IsSomeAnd o P → MatchOption o ⊤ (λ extent. (bio : Bio) × At bios op (Some bio) × IsBioOf script op operation bio) → (bio : Bio) × At bios op (Some bio) × IsBioOf script op operation bio) [
      | None ↦ λ h m. absurd h
      | Some extent ↦ λ h m. m
    ]) has is

pub has_bio : (script : Script) (bios : List (Option Bio)) (before : List (ℕ × Op)) (op : ℕ) (operation : Op) (after : List (ℕ × Op)) (P : Extent → Type 0) → IsSomeAnd (bio_of operation) P
    → AllByRecursion (IsPrepared script bios) (before ++ (op, operation) ∷ after) → (bio : Bio) × At bios op (Some bio)
has_bio script bios before op operation after P has all =
    let r = bio_there script bios op operation P has (each_there (IsPrepared script bios) before (op, operation) after all) in (r.0, r.1)
