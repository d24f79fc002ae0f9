-- Texts and their errors, by the definition alone.
use Rattle.std.proofs.Common.{◌≡◌, ℕ, Some, None, refl}
use Rattle.std.specs.Prelude.{codes, Option}
use Rattle.std.specs.Fmt.{digits}
use Rattle.hex.specs.Hex.{encode_with, decode_pairs}
use Rattle.bc_script.specs.declared.script_error.ScriptError.{ScriptError}
use Rattle.bc_script.specs.declared.script_error.ScriptWhy.{ScriptWhy}
use Rattle.bc_script.specs.declared.script_error.ScriptWhy.TheVariants as why
use Rattle.bc_script.specs.ScriptErrors.{error_of}

abbrev fails : ℕ → ScriptWhy → Option ScriptError
fails line kind = Some (record { line = line; why = kind })

empty : error_of (codes "") ≡ fails 1 why.End
unfolding digits encode_with decode_pairs
empty = refl

version : error_of (codes "blkcrypt 2\n") ≡ fails 1 why.Word
unfolding digits encode_with decode_pairs
version = refl

disk_of_none : error_of (codes "blkcrypt 1\ndisk 0\n") ≡ fails 2 why.Number
unfolding digits encode_with decode_pairs
disk_of_none = refl

leading_zero : error_of (codes "blkcrypt 1\ndisk 01\n") ≡ fails 2 why.Number
unfolding digits encode_with decode_pairs
leading_zero = refl

empty_field : error_of (codes "blkcrypt 1\ndisk \n") ≡ fails 2 why.Number
unfolding digits encode_with decode_pairs
empty_field = refl

one_field_more : error_of (codes "blkcrypt 1\ndisk 1 \n") ≡ fails 2 why.Word
unfolding digits encode_with decode_pairs
one_field_more = refl

no_line_feed : error_of (codes "blkcrypt 1\ndisk 1\nfallback on\nend") ≡ fails 4 why.End
unfolding digits encode_with decode_pairs
no_line_feed = refl

behind_the_end : error_of (codes "blkcrypt 1\ndisk 1\nfallback on\nend\n\n") ≡ fails 5 why.End
unfolding digits encode_with decode_pairs
behind_the_end = refl

whole : error_of (codes "blkcrypt 1\ndisk 1\nfallback on\nend\n") ≡ None
unfolding digits encode_with decode_pairs
whole = refl

undeclared : error_of (codes "blkcrypt 1\ndisk 1\nfallback on\nthread\nevict b\nend\n") ≡ fails 5 why.Name
unfolding digits encode_with decode_pairs
undeclared = refl

no_fallback : error_of (codes "blkcrypt 1\ndisk 1\nfallback off\nend\n") ≡ None
unfolding digits encode_with decode_pairs
no_fallback = refl

short_digit : error_of (codes "blkcrypt 1\ndisk 1\nfallback on\nthread\nwrite - 0 1 - fill 0\nend\n") ≡ fails 5 why.Hex
unfolding digits encode_with decode_pairs
short_digit = refl

dash_alone : error_of (codes "blkcrypt 1\ndisk 1\nfallback on\nthread\nwrite - 0 1 0 fill 00\nend\n") ≡ fails 5 why.Word
unfolding digits encode_with decode_pairs
dash_alone = refl

unclosed_plug : error_of (codes "blkcrypt 1\ndisk 1\nfallback on\nthread\nplug\nend\n") ≡ fails 6 why.Order
unfolding digits encode_with decode_pairs
unclosed_plug = refl

two_devices : error_of (codes "blkcrypt 1\ndisk 3\nfallback on\ndevice 0 2 1 1 0 8\ndevice 2 1 32 15 15 1\nthread\nreset 1\nend\n") ≡ None
unfolding digits encode_with decode_pairs
two_devices = refl

device_elsewhere : error_of (codes "blkcrypt 1\ndisk 1\nfallback on\ndevice 1 1 1 1 0 8\nend\n") ≡ fails 4 why.Device
unfolding digits encode_with decode_pairs
device_elsewhere = refl

devices_too_long : error_of (codes "blkcrypt 1\ndisk 1\nfallback on\ndevice 0 2 1 1 0 8\nend\n") ≡ fails 5 why.Device
unfolding digits encode_with decode_pairs
devices_too_long = refl

mask_of_five_bits : error_of (codes "blkcrypt 1\ndisk 1\nfallback on\ndevice 0 1 1 16 0 8\nend\n") ≡ fails 4 why.Number
unfolding digits encode_with decode_pairs
mask_of_five_bits = refl

reset_of_none : error_of (codes "blkcrypt 1\ndisk 1\nfallback on\nthread\nreset 0\nend\n") ≡ fails 5 why.Number
unfolding digits encode_with decode_pairs
reset_of_none = refl

faults : error_of (codes "blkcrypt 1\ndisk 1\nfallback on\nfault 0 2\nfault 0 10\nfault 63 65535\nend\n") ≡ None
unfolding digits encode_with decode_pairs
faults = refl

last_shard : error_of (codes "blkcrypt 1\ndisk 1\nfallback on\nfault 64 0\nend\n") ≡ fails 4 why.Number
unfolding digits encode_with decode_pairs
last_shard = refl

last_access : error_of (codes "blkcrypt 1\ndisk 1\nfallback on\nfault 0 65536\nend\n") ≡ fails 4 why.Number
unfolding digits encode_with decode_pairs
last_access = refl

fault_twice : error_of (codes "blkcrypt 1\ndisk 1\nfallback on\nfault 1 2\nfault 1 2\nend\n") ≡ fails 5 why.Order
unfolding digits encode_with decode_pairs
fault_twice = refl

fault_behind_a_section : error_of (codes "blkcrypt 1\ndisk 1\nfallback on\nthread\nfault 0 2\nend\n") ≡ fails 5 why.Word
unfolding digits encode_with decode_pairs
fault_behind_a_section = refl

small_key : error_of (codes "blkcrypt 1\ndisk 1\nfallback on\nkey a aes-128-cbc-essiv 512 16 808182838485868788898a8b8c8d8e8f\nthread\nwrite a 3 1 ff fill 5a\nread a 3 1 ff\nend\n") ≡ None
unfolding digits encode_with decode_pairs
small_key = refl
