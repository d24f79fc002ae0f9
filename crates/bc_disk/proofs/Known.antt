-- What is known of the key and of the target at a place.
use Rattle.std.proofs.Common.{◌≡◌, ℕ, zero, suc, ◌+◌, false, List, [], ◌∷◌, map, replicate, refl, ap, sym, subst, Option, Some}
use Rattle.std.specs.List.{range_with_len}
use Rattle.bc_base.specs.Lists.{At, AllAt, Each}
use Rattle.bc_base.proofs.Lists.{at_one}
use Rattle.bc_key.specs.KeyData.{KeyData}
use Rattle.bc_modes.specs.UnitCipher.{CipherParts, parts_of}
use Rattle.bc_stack.specs.declared.target.Target.{Target}
use Rattle.bc_stack.specs.Devices.{all_support}
use Rattle.bc_ufs.specs.Controllers.{ControllerData}
use Rattle.bc_disk.specs.Dealing.{new_slots}
use Rattle.bc_disk.specs.Openings.{IsNewDevice}

pub cipher_known : (targets : List Target) (keys : List KeyData) (number n : ℕ) (cipher : Option CipherParts) (key : KeyData) → n ≡ number → At keys number key → (all_support targets key.config ≡ false → cipher ≡ Some (parts_of key))
    → AllAt keys n (λ key. all_support targets key.config ≡ false → cipher ≡ Some (parts_of key))
cipher_known targets keys number n cipher key is at known =
    λ other there. subst (λ k. all_support targets k.config ≡ false → cipher ≡ Some (parts_of k)) (at_one keys number key other at (subst (λ m. At keys m other) is there)) known

pub device_known : (keys : List KeyData) (events : List (List ℕ)) (targets : List Target) (device n : ℕ) (target : Target) (controller : ControllerData) → n ≡ device → At targets device target → IsNewDevice keys events device target controller
    → AllAt targets n (λ target. IsNewDevice keys events n target controller)
device_known keys events targets device n target controller is at known =
    λ other there. subst (λ m. IsNewDevice keys events m other controller) (sym is) (subst (λ t. IsNewDevice keys events device t controller) (at_one targets device target other at (subst (λ m. At targets m other) is there)) known)

pub no_slots : (controllers : List ControllerData) (first n m : ℕ) → controllers ≡ [] → n ≡ m → replicate n [] ≡ map (new_slots controllers) (range_with_len first m)
no_slots controllers first n m none is = subst (λ k. replicate n [] ≡ map (new_slots controllers) (range_with_len first k)) is (subst (λ l. replicate n [] ≡ map (new_slots l) (range_with_len first n)) (sym none) (empty first n))
  where
    empty : (first n : ℕ) → replicate n [] ≡ map (new_slots []) (range_with_len first n)
    empty first zero = refl
    empty first (suc n) = ap (λ l. [] ∷ l) (empty (first + 1) n)

pub from_map : {V A : Type 0} (f : V → A) (P : A → Type 0) (xs : List V) → Each P (map f xs) → Each (λ x. P (f x)) xs
from_map f P [] each = tt
from_map f P (x ∷ xs) each = (each.0, from_map f P xs each.1)
