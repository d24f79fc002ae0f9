-- The lines that the parts of a script have, by the definition alone: each part by itself, with values that no script has too,
-- and a script with a line of each form.
use Rattle.std.proofs.Common.{◌≡◌, ℕ, false, List, [], ◌∷◌, Some, None, map, refl}
use Rattle.std.specs.Prelude.{codes, Option}
use Rattle.std.specs.List.{range_with_len}
use Rattle.std.specs.Fmt.{digits}
use Rattle.hex.specs.Hex.{encode_with}
use Rattle.bc_text.specs.Lines.{lines_text}
use Rattle.bc_key.specs.declared.config.Mode.TheVariants.{Aes256Xts, Aes128CbcEssiv}
use Rattle.bc_key.specs.declared.config.DataUnit.TheVariants.{Bytes512, Bytes4096}
use Rattle.bc_bio.specs.declared.context.Context.{Context}
use Rattle.bc_stack.specs.declared.target.Target.{Target}
use Rattle.bc_script.specs.declared.named_key.NamedKey.{NamedKey}
use Rattle.bc_script.specs.declared.op.Op.{Op}
use Rattle.bc_script.specs.declared.op.Op.TheVariants.{Write, Read, Evict, Reset, Plug, Unplug}
use Rattle.bc_script.specs.declared.op.Text.TheVariants.{Fill, Bytes}
use Rattle.bc_script.specs.Script.{Script}
use Rattle.bc_script.specs.ScriptText.{version_line, disk_line, fallback_line, device_line, key_line, fault_line, section_lines, script_text}

abbrev device_of : (first blocks slots xts essiv max_dun_bytes : ℕ) → Target
device_of first blocks slots xts essiv max_dun_bytes = record {
  first = first;
  blocks = blocks;
  slots = slots;
  caps = record { xts = xts; essiv = essiv; max_dun_bytes = max_dun_bytes };
}

-- a key of each mode, of bytes that count up
abbrev two_keys : List NamedKey
two_keys =
    record {
      name = codes "a";
      key = record { config = record { mode = Aes256Xts; unit = Bytes512; dun_bytes = 8 }; raw = range_with_len 0 64 };
    }
    ∷ record {
      name = codes "small0";
      key = record { config = record { mode = Aes128CbcEssiv; unit = Bytes4096; dun_bytes = 16 }; raw = range_with_len 128 16 };
    }
    ∷ []

-- a key by its number, and the number of a data unit
abbrev under : ℕ → ℕ → Option Context
under key dun = Some (record { key = record { 0 = key }; dun = dun })

-- ---- each part by itself

first_lines : lines_text (version_line ∷ disk_line 16384 ∷ fallback_line false ∷ [])
    ≡ codes "blkcrypt 1\ndisk 16384\nfallback off\n"
unfolding digits encode_with
first_lines = refl

devices : lines_text (map device_line (device_of 0 16384 32 15 0 8 ∷ device_of 4294967295 7 65535 0 255 16 ∷ []))
    ≡ codes "device 0 16384 32 15 0 8\ndevice 4294967295 7 65535 0 255 16\n"
unfolding digits encode_with
devices = refl

keys : lines_text (map key_line two_keys)
    ≡ codes "key a aes-256-xts 512 8 000102030405060708090a0b0c0d0e0f101112131415161718191a1b1c1d1e1f202122232425262728292a2b2c2d2e2f303132333435363738393a3b3c3d3e3f\nkey small0 aes-128-cbc-essiv 4096 16 808182838485868788898a8b8c8d8e8f\n"
unfolding digits encode_with
keys = refl

faults : lines_text (map fault_line ((3, 17) ∷ (65535, 4294967295) ∷ [])) ≡ codes "fault 3 17\nfault 65535 4294967295\n"
unfolding digits encode_with
faults = refl

-- a section of bios; the second number of 256 bits is 2^64
abbrev bios : List Op
bios =
    Write None 0 1 (Fill 0)
    ∷ Write (under 0 10) 17 2 (Fill 255)
    ∷ Write (under 1 18446744073709551616) 4294967295 256 (Bytes (0 ∷ 1 ∷ 171 ∷ 255 ∷ []))
    ∷ Read None 7 0
    ∷ Read (under 0 0) 8 10
    ∷ []

section_of_bios : lines_text (section_lines two_keys bios)
    ≡ codes "thread\nwrite - 0 1 - fill 00\nwrite a 17 2 a fill ff\nwrite small0 4294967295 256 10000000000000000 hex 0001abff\nread - 7 0 -\nread a 8 10 0\n"
unfolding digits encode_with
section_of_bios = refl

section_of_others : lines_text (section_lines two_keys (Plug ∷ Evict (record { 0 = 1 }) ∷ Reset 255 ∷ Unplug ∷ []))
    ≡ codes "thread\nplug\nevict small0\nreset 255\nunplug\n"
unfolding digits encode_with
section_of_others = refl

-- ---- a script with a line of each form

abbrev each_form : Script
each_form = record {
  blocks = 36;
  fallback = false;
  targets = device_of 0 35 31 11 1 1 ∷ device_of 35 1 32 12 2 2 ∷ [];
  keys = two_keys;
  faults = (0, 10) ∷ (63, 65535) ∷ [];
  threads =
      (Write None 4294967295 1 (Fill 0) ∷ Read (under 1 255) 8 32 ∷ Evict (record { 0 = 0 }) ∷ [])
      ∷ (Plug ∷ Write (under 0 19) 299 1 (Fill 90) ∷ Reset 1 ∷ Unplug ∷ [])
      ∷ [];
}

text_of_each_form : script_text each_form
    ≡ codes "blkcrypt 1\ndisk 36\nfallback off\ndevice 0 35 31 11 1 1\ndevice 35 1 32 12 2 2\nkey a aes-256-xts 512 8 000102030405060708090a0b0c0d0e0f101112131415161718191a1b1c1d1e1f202122232425262728292a2b2c2d2e2f303132333435363738393a3b3c3d3e3f\nkey small0 aes-128-cbc-essiv 4096 16 808182838485868788898a8b8c8d8e8f\nfault 0 10\nfault 63 65535\nthread\nwrite - 4294967295 1 - fill 00\nread small0 8 32 ff\nevict a\nthread\nplug\nwrite a 299 1 13 fill 5a\nreset 1\nunplug\nend\n"
unfolding digits encode_with
text_of_each_form = refl
