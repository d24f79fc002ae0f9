-- Lines of generated scripts, by the definition alone.
use Rattle.std.proofs.Common.{◌≡◌, ℕ, List, map, refl}
use Rattle.std.specs.Prelude.{codes}
use Rattle.std.specs.Fmt.{digits}
use Rattle.hex.specs.Hex.{encode_with}
use Rattle.bc_text.specs.Lines.{lines_text}
use Rattle.bc_script.specs.ScriptText.{op_line, head_lines, key_line, script_text}
use Rattle.bc_script.specs.GeneratedScript.{generated, generated_keys, generated_pair, generated_section}

-- the lines of a thread's pair j of n
abbrev lines_of_pair : ℕ → ℕ → ℕ → List ℕ
lines_of_pair n thread j = lines_text (map (op_line generated_keys) (generated_pair n thread j))

first_of_thousand : lines_of_pair 1000 1 0 ≡ codes "write b 832 1 0 fill 10\nread b 832 1 0\n"
unfolding digits encode_with
first_of_thousand = refl

second_of_thousand : lines_of_pair 1000 1 1 ≡ codes "write c 888 1 1 fill 11\nread c 888 1 1\n"
unfolding digits encode_with
second_of_thousand = refl

first_thread_of_one : lines_text (map (op_line generated_keys) (generated_section 1 0)) ≡ codes "write a 8 1 0 fill 00\nread a 8 1 0\n"
unfolding digits encode_with
first_thread_of_one = refl

last_thread_of_one : lines_text (map (op_line generated_keys) (generated_section 1 15)) ≡ codes "write a 7688 1 0 fill f0\nread a 7688 1 0\n"
unfolding digits encode_with
last_thread_of_one = refl

head : lines_text (head_lines (generated 1 8)) ≡ codes "blkcrypt 1\ndisk 1024\nfallback on\ndevice 0 1024 8 9 0 8\n"
unfolding digits encode_with
head = refl

key_lines : lines_text (map key_line generated_keys) ≡ codes "key a aes-256-xts 4096 8 000102030405060708090a0b0c0d0e0f101112131415161718191a1b1c1d1e1f202122232425262728292a2b2c2d2e2f303132333435363738393a3b3c3d3e3f\nkey b aes-256-xts 512 8 404142434445464748494a4b4c4d4e4f505152535455565758595a5b5c5d5e5f606162636465666768696a6b6c6d6e6f707172737475767778797a7b7c7d7e7f\nkey c aes-128-cbc-essiv 4096 8 808182838485868788898a8b8c8d8e8f\n"
unfolding digits encode_with
key_lines = refl

-- the whole script of one pair a thread, over a device of eight slots
whole_of_one : script_text (generated 1 8)
    ≡ codes "blkcrypt 1\ndisk 1024\nfallback on\ndevice 0 1024 8 9 0 8\nkey a aes-256-xts 4096 8 000102030405060708090a0b0c0d0e0f101112131415161718191a1b1c1d1e1f202122232425262728292a2b2c2d2e2f303132333435363738393a3b3c3d3e3f\nkey b aes-256-xts 512 8 404142434445464748494a4b4c4d4e4f505152535455565758595a5b5c5d5e5f606162636465666768696a6b6c6d6e6f707172737475767778797a7b7c7d7e7f\nkey c aes-128-cbc-essiv 4096 8 808182838485868788898a8b8c8d8e8f\nthread\nwrite a 8 1 0 fill 00\nread a 8 1 0\nthread\nwrite b 520 1 0 fill 10\nread b 520 1 0\nthread\nwrite c 1032 1 0 fill 20\nread c 1032 1 0\nthread\nwrite a 1544 1 0 fill 30\nread a 1544 1 0\nthread\nwrite b 2056 1 0 fill 40\nread b 2056 1 0\nthread\nwrite c 2568 1 0 fill 50\nread c 2568 1 0\nthread\nwrite a 3080 1 0 fill 60\nread a 3080 1 0\nthread\nwrite b 3592 1 0 fill 70\nread b 3592 1 0\nthread\nwrite c 4104 1 0 fill 80\nread c 4104 1 0\nthread\nwrite a 4616 1 0 fill 90\nread a 4616 1 0\nthread\nwrite b 5128 1 0 fill a0\nread b 5128 1 0\nthread\nwrite c 5640 1 0 fill b0\nread c 5640 1 0\nthread\nwrite a 6152 1 0 fill c0\nread a 6152 1 0\nthread\nwrite b 6664 1 0 fill d0\nread b 6664 1 0\nthread\nwrite c 7176 1 0 fill e0\nread c 7176 1 0\nthread\nwrite a 7688 1 0 fill f0\nread a 7688 1 0\nend\n"
unfolding digits encode_with
whole_of_one = refl
