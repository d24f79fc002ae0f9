-- The numbers that cross to C: modes by Linux's numbers (enum blk_crypto_mode_num of
-- include/linux/blk-crypto.h), and why a call does nothing, in the order of its tests.
use Rattle.std.specs.Prelude.{ℕ, ◌/◌, ◌%◌, ◌==◌, not, ◌&&◌, nat_lt, Bool, List, Option, Some, None, if◌then◌else◌}
use Rattle.bc_key.specs.declared.config.Mode.{Mode}
use Rattle.bc_key.specs.declared.config.Mode.TheVariants.{Aes256Xts, Aes128CbcEssiv}
use Rattle.bc_key.specs.declared.key.KeyError.{KeyError}
use Rattle.bc_key.specs.declared.key.KeyError.TheVariants as errors
use Rattle.bc_key.specs.KeyRefusal.{key_refusal}
use Rattle.bc_key.specs.DataUnitNumber.{fits}

-- the mode with this number
abbrev pub mode_of_number : ℕ → Option Mode
mode_of_number number =
    if number == 1 then Some Aes256Xts
    else (if number == 2 then Some Aes128CbcEssiv else None)

-- the number of a key's error: its place among the tests of a key
abbrev pub number_of_error : KeyError → ℕ
number_of_error (errors.Size _ _) = 1
number_of_error (errors.Unit _) = 2
number_of_error (errors.DunBytes _) = 3
number_of_error errors.EqualHalves = 4

-- 0, or the number of an error
abbrev pub status_of_refusal : Option KeyError → ℕ
status_of_refusal None = 0
status_of_refusal (Some error) = number_of_error error

-- the status of a key's bytes under a mode, if it is one
abbrev pub status_under : Option Mode → ℕ → ℕ → List ℕ → ℕ
status_under None unit number_bytes raw = 5
status_under (Some mode) unit number_bytes raw = status_of_refusal (key_refusal mode raw unit number_bytes)

-- the status of a key: its mode's number, its data unit size, its number bytes and its bytes
abbrev pub key_status : ℕ → ℕ → ℕ → List ℕ → ℕ
key_status mode unit number_bytes raw = status_under (mode_of_number mode) unit number_bytes raw

-- some number of these units, from the first number on, has more than 16 bytes
abbrev pub runs_out : ℕ → ℕ → Bool
runs_out first units = nat_lt 0 units && not (fits first units 16)

-- the status of so many bytes of data units, from the first number on, under a key
abbrev pub data_status : ℕ → ℕ → ℕ → ℕ
data_status unit first size =
    if not (size % unit == 0) then 6
    else (if runs_out first (size / unit) then 7 else 0)

-- the status of a call: the key's, and then the data units'
abbrev pub call_status : ℕ → ℕ → List ℕ → ℕ → ℕ → ℕ
call_status mode unit raw first size =
    if key_status mode unit 16 raw == 0 then data_status unit first size
    else key_status mode unit 16 raw
