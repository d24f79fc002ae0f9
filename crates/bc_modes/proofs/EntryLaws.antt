-- Crypto configuration entries, read as they were written: the bytes of an entry's dwords, and the cipher that they mean.
use Rattle.std.proofs.Common.{◌≡◌, ℕ, zero, suc, ◌+◌, ◌-◌, ◌*◌, ◌<◌, ◌≤◌, ◌==◌, Bool, true, not, cond, bit_and, List, [], ◌∷◌, ◌++◌, length, map, take, drop, replicate, get_or, slice_index, slice_get, Option, Some, None, Ok, Err, refl, sym, ap, ap₂, ◌∙◌, subst, arith, inl, inr}
use Rattle.std.specs.Prelude.{position}
use Rattle.std.specs.Option.{option_map_or}
use Rattle.std.specs.Int.{w32, bit_at, from_le_bytes, to_le_bytes}
use Rattle.std.specs.List.{flat_map}
use Rattle.std.specs.Simd.{first_chunks}
use Rattle.std.proofs.lemmas.Bool.{cases_lt, and_parts, false≢true, agree_below_at, ne_eqb}
use Rattle.std.proofs.lemmas.Nat.{le_bytes_4}
use Rattle.std.proofs.lemmas.List.{append_assoc, take-append-drop, length-take-le, length-drop, length-append, length-replicate, replicate-append-replicate, append-nil, drop-drop, drop_all, get_or-take, get_or_past, get_or_append_left, get_or-append_right, get_or-replicate, take_at, take-take}
use borrow.Rule.Slice.PartMut.{put_mid}
use Rattle.std.proofs.lemmas.List.Quantifiers.{position-Some}
use Rattle.bc_key.specs.declared.config.Mode.{Mode}
use Rattle.bc_key.specs.declared.config.Mode.TheVariants.{Aes256Xts, Aes128CbcEssiv}
use Rattle.bc_key.specs.declared.config.DataUnit.{DataUnit}
use Rattle.bc_key.specs.declared.config.DataUnit.TheVariants.{Bytes512, Bytes1024, Bytes2048, Bytes4096}
use Rattle.bc_key.specs.DataUnits.{sectors_of, bit_of}
use Rattle.bc_key.specs.KeyData.{KeyData, IsValid, key_size}
use Rattle.bc_key.specs.Support.{has_bits}
use Rattle.bc_modes.specs.declared.ufs_caps.Capability.{Capability}
use Rattle.bc_modes.specs.declared.entry.EntryError.TheVariants.{Disabled, BadUnitSize}
use Rattle.bc_modes.specs.Capabilities.{Capabilities, index_for, same_mode, serves}
use Rattle.bc_modes.specs.Entries.{is_enabled, capability_of, words_of_bytes, bytes_of_words, key_bytes, settings, entry_bytes, served_unit, parts_in, read_under, read_bytes, read_words}
use Rattle.bc_modes.specs.UnitCipher.{CipherParts, parts_of}
use Rattle.bc_modes.proofs.Bytes.{AreBytes, AreBytes-drop}

-- an element of a list of bytes, or the default
below : (bytes : List ℕ) → AreBytes bytes → (i : ℕ) → get_or bytes i 0 < 256
below bytes are i =
    elim (cases_lt i (length bytes)) [
      | inl h ↦ are i 0 h
      | inr h ↦ subst (λ b. b < 256) (sym (get_or_past bytes i 0 h)) (omega arith)
    ]

below-take : (bytes : List ℕ) → AreBytes bytes → (i : ℕ) → get_or (take 4 bytes) i 0 < 256
below-take bytes are i =
    elim (cases_lt i 4) [
      | inl h ↦ subst (λ b. b < 256) (sym (get_or-take 4 bytes i 0 h)) (below bytes are i)
      | inr h ↦ subst (λ b. b < 256) (sym (get_or_past (take 4 bytes) i 0 (omega (arith, length-take-short bytes)))) (omega arith)
    ]
  where
    length-take-short : (xs : List ℕ) → length (take 4 xs) ≤ 4
    length-take-short xs = grind arith

-- the bytes of dwords that were made of bytes
dwords_back : (n : ℕ) (bytes : List ℕ) → length bytes ≡ 4 * n → AreBytes bytes
    → flat_map (to_le_bytes w32) (map (from_le_bytes w32) (first_chunks 4 n bytes)) ≡ bytes
dwords_back zero [] l are = refl
dwords_back zero (b ∷ bytes) l are = absurd (omega arith)
dwords_back (suc n) bytes l are =
    let rest : length (drop 4 bytes) ≡ 4 * n = omega (arith, length-drop 4 bytes) in
    ap₂ (λ (xs ys : List ℕ). xs ++ ys)
    (le_bytes_4 (take 4 bytes) _ (length-take-le 4 bytes (omega arith)) (below-take bytes are) refl)
    (dwords_back n (drop 4 bytes) rest (AreBytes-drop 4 bytes are))
    ∙ take-append-drop 4 bytes

-- the key's place has 64 bytes
length-key_field : (raw : List ℕ) → length raw ≤ 64 → length (key_bytes raw) ≡ 64
length-key_field raw h = omega (arith, length-append raw (replicate (64 - length raw) 0), length-replicate {A = ℕ} (64 - length raw) 0)

-- a key has at most 64 bytes
key_size-most : (mode : Mode) → key_size mode ≤ 64
key_size-most Aes256Xts = omega arith
key_size-most Aes128CbcEssiv = omega arith

AreBytes-append : (xs ys : List ℕ) → AreBytes xs → AreBytes ys → AreBytes (xs ++ ys)
AreBytes-append xs ys x y = λ i d lt.
    elim (cases_lt i (length xs)) [
      | inl h ↦ subst (λ b. b < 256) (sym (get_or_append_left xs ys d i h)) (x i d h)
      | inr h ↦ subst (λ b. b < 256) (sym (get_or-append_right xs ys (length xs) i d refl h)) (y (i - length xs) d (omega (arith, length-append xs ys)))
    ]

AreBytes-zeros : (n : ℕ) → AreBytes (replicate n 0)
AreBytes-zeros n = λ i d lt. subst (λ b. b < 256) (sym (get_or-replicate n i 0 d (omega (arith, length-replicate {A = ℕ} n 0)))) (omega arith)

sectors-below : (unit : DataUnit) → sectors_of unit < 256
sectors-below Bytes512 = omega arith
sectors-below Bytes1024 = omega arith
sectors-below Bytes2048 = omega arith
sectors-below Bytes4096 = omega arith

AreBytes-settings : (unit : DataUnit) (index : ℕ) → index < 256 → AreBytes (settings unit index)
AreBytes-settings unit index h = at
  where
    at : (i : ℕ) (d : ℕ) → i < 8 → get_or (settings unit index) i d < 256
    at zero d lt = sectors-below unit
    at (suc zero) d lt = h
    at (suc (suc zero)) d lt = omega arith
    at (suc (suc (suc zero))) d lt = omega arith
    at (suc (suc (suc (suc zero)))) d lt = omega arith
    at (suc (suc (suc (suc (suc zero))))) d lt = omega arith
    at (suc (suc (suc (suc (suc (suc zero)))))) d lt = omega arith
    at (suc (suc (suc (suc (suc (suc (suc zero))))))) d lt = omega arith
    at (suc (suc (suc (suc (suc (suc (suc (suc i)))))))) d lt = absurd (omega arith)

AreBytes-entry : (key : KeyData) (index : ℕ) → IsValid key.config key.raw → index < 256 → AreBytes (entry_bytes key index)
AreBytes-entry key index valid h =
    AreBytes-append (key_bytes key.raw) (settings key.config.unit index)
    (AreBytes-append key.raw (replicate (64 - length key.raw) 0) valid.bytes (AreBytes-zeros (64 - length key.raw)))
    (AreBytes-settings key.config.unit index h)

pub short : (key : KeyData) → IsValid key.config key.raw → length key.raw ≤ 64
short key valid = omega (arith, valid.size, key_size-most key.config.mode)

-- the bytes of an entry come back
entry_back : (key : KeyData) (index : ℕ) → IsValid key.config key.raw → index < 256
    → bytes_of_words (words_of_bytes (entry_bytes key index)) ≡ entry_bytes key index
entry_back key index valid h =
    let field : length (key_bytes key.raw) ≡ 64 = length-key_field key.raw (short key valid) in
    let whole : length (entry_bytes key index) ≡ 72 = omega (arith, length-append (key_bytes key.raw) (settings key.config.unit index)) in
    dwords_back 18 (entry_bytes key index) whole (AreBytes-entry key index valid h)

-- a byte after the key's place
setting_at : (key : KeyData) (index i : ℕ) → IsValid key.config key.raw → 64 ≤ i
    → slice_index (entry_bytes key index) i ≡ slice_index (settings key.config.unit index) (i - 64)
setting_at key index i valid h =
    get_or-append_right (key_bytes key.raw) (settings key.config.unit index) 64 i 0 (length-key_field key.raw (short key valid)) h

-- the key's bytes
key_at_front : (key : KeyData) (index : ℕ) → IsValid key.config key.raw → take (key_size key.config.mode) (entry_bytes key index) ≡ key.raw
key_at_front key index valid =
    ap (take (key_size key.config.mode)) (append_assoc key.raw (replicate (64 - length key.raw) 0) (settings key.config.unit index))
    ∙ take_at key.raw (replicate (64 - length key.raw) 0 ++ settings key.config.unit index) (key_size key.config.mode) valid.size

-- a data unit that the capability has is read from its sectors
unit_back : (capability : Capability) (unit : DataUnit) → has_bits capability.units (bit_of unit) ≡ true
    → served_unit capability (sectors_of unit) ≡ Some unit
unit_back capability Bytes512 h = ap (λ (b : Bool). cond b (Some Bytes512) None) h
unit_back capability Bytes1024 h = ap (λ (b : Bool). cond b (Some Bytes1024) None) h
unit_back capability Bytes2048 h = ap (λ (b : Bool). cond b (Some Bytes2048) None) h
unit_back capability Bytes4096 h = ap (λ (b : Bool). cond b (Some Bytes4096) None) h

same_mode-true : (one other : Mode) → same_mode one other ≡ true → one ≡ other
same_mode-true Aes256Xts Aes256Xts h = refl
same_mode-true Aes128CbcEssiv Aes128CbcEssiv h = refl
same_mode-true Aes256Xts Aes128CbcEssiv h = absurd (false≢true h)
same_mode-true Aes128CbcEssiv Aes256Xts h = absurd (false≢true h)

-- the capability at the place of the first that passes
capability_at : (p : Capability → Bool) (list : List Capability) (index : ℕ) → position p list ≡ Some index
    → (capability : Capability) × (slice_get list index ≡ Some capability) × (p capability ≡ true)
capability_at p list index found = at list index (λ d. (position-Some p list index d found).0) (λ d. (position-Some p list index d found).1)
  where
    at : (list : List Capability) (index : ℕ) → (Capability → index < length list) → ((d : Capability) → p (get_or list index d) ≡ true)
        → (capability : Capability) × (slice_get list index ≡ Some capability) × (p capability ≡ true)
    at [] index within passes = absurd (omega (arith, within (record { mode = Aes256Xts; units = 0 })))
    at (c ∷ list) zero within passes = (c, refl, passes c)
    at (c ∷ list) (suc index) within passes = at list index (λ d. omega (arith, within d)) passes

-- what is read under a capability that serves the key
read_back_under : (key : KeyData) (index : ℕ) (capability : Capability) → IsValid key.config key.raw
    → same_mode capability.mode key.config.mode ≡ true → has_bits capability.units (bit_of key.config.unit) ≡ true
    → read_under (entry_bytes key index) (Some capability) ≡ Ok (parts_of key)
read_back_under key index capability valid mode bit =
    let bytes : List ℕ = entry_bytes key index in
    let same : capability.mode ≡ key.config.mode = same_mode-true capability.mode key.config.mode mode in
    let unit : served_unit capability (slice_index bytes 64) ≡ Some key.config.unit =
    ap (served_unit capability) (setting_at key index 64 valid (omega arith)) ∙ unit_back capability key.config.unit bit in
    ap (λ (unit : Option DataUnit). option_map_or (λ unit. Ok (parts_in bytes capability unit)) unit (Err BadUnitSize)) unit
    ∙ ap (λ (m : Mode). Ok (record { mode = m; unit = key.config.unit; raw = take (key_size m) bytes })) same
    ∙ ap (λ (raw : List ℕ). Ok (record { mode = key.config.mode; unit = key.config.unit; raw = raw })) (key_at_front key index valid)

-- the entry of a key is read as the parts of its cipher
pub reads_back : (key : KeyData) (caps : Capabilities) (index : ℕ) → IsValid key.config key.raw → index < 256
    → index_for caps key.config.mode key.config.unit ≡ Some index
    → read_words (words_of_bytes (entry_bytes key index)) caps ≡ Ok (parts_of key)
unfolding read_words
reads_back key caps index valid small found =
    let bytes : List ℕ = entry_bytes key index in
    let at = capability_at (serves key.config.mode key.config.unit) caps.list index found in
    let parts = and_parts (same_mode at.0.mode key.config.mode) (has_bits at.0.units (bit_of key.config.unit)) at.2 in
    let enabled : slice_index bytes 67 ≡ 0x80 = setting_at key index 67 valid (omega arith) in
    let named : slice_index bytes 65 ≡ index = setting_at key index 65 valid (omega arith) in
    ap (λ (bytes : List ℕ). read_bytes bytes caps) (entry_back key index valid small)
    ∙ ap (λ (byte : ℕ). cond (bit_at byte 7 == 1) (read_under bytes (slice_get caps.list (slice_index bytes 65))) (Err Disabled)) enabled
    ∙ ap (λ (i : ℕ). read_under bytes (slice_get caps.list i)) named
    ∙ ap (read_under bytes) at.1
    ∙ read_back_under key index at.0 valid parts.0 parts.1

-- zeros without the first of them
drop-zeros : (k n : ℕ) → drop {A = ℕ} k (replicate n 0) ≡ replicate (n - k) 0
drop-zeros zero n = let all : n ≡ n - 0 = omega arith in ap (λ m. replicate {A = ℕ} m 0) all
drop-zeros (suc k) zero = let none : 0 ≡ 0 - suc k = omega arith in ap (λ m. replicate {A = ℕ} m 0) none
drop-zeros (suc k) (suc n) =
    let less : n - k ≡ suc n - suc k = omega arith in
    drop-zeros k n ∙ ap (λ m. replicate m 0) less

-- an entry is written: the key over zeros, and the settings after it
pub entry_written : (raw settings : List ℕ) → length raw ≤ 64 → length settings ≡ 8
    → put_mid 64 8 (raw ++ drop (length raw) (replicate 72 0)) settings ≡ key_bytes raw ++ settings
entry_written raw settings short l =
    let n : ℕ = length raw in
    let zeros : List ℕ = replicate (64 - n) 0 in
    let split : 72 - n ≡ (64 - n) + 8 = omega arith in
    let whole : raw ++ drop n (replicate 72 0) ≡ (raw ++ zeros) ++ replicate 8 0 =
    ap (λ xs. raw ++ xs) (drop-zeros n 72 ∙ ap (λ m. replicate m 0) split ∙ sym (replicate-append-replicate (64 - n) 8 0))
    ∙ sym (append_assoc raw zeros (replicate 8 0)) in
    let front : take 64 (raw ++ drop n (replicate 72 0)) ≡ key_bytes raw =
    ap (take 64) whole ∙ take_at (raw ++ zeros) (replicate 8 0) 64 (length-key_field raw short) in
    let long : length (raw ++ drop n (replicate 72 0)) ≡ 72 =
    ap length whole ∙ omega (arith, length-append (raw ++ zeros) (replicate 8 0), length-key_field raw short) in
    let back : drop 8 (drop 64 (raw ++ drop n (replicate 72 0))) ≡ [] =
    drop-drop 8 64 (raw ++ drop n (replicate 72 0)) ∙ drop_all 72 (raw ++ drop n (replicate 72 0)) (omega arith) in
    ap₂ (λ (xs ys : List ℕ). xs ++ (settings ++ ys)) front back ∙ ap (λ ys. key_bytes raw ++ ys) (append-nil settings)

-- the top bit of a byte
top_bit : (byte : ℕ) → byte < 256 → not (bit_and byte 0x80 == 0) ≡ (bit_at byte 7 == 1)
top_bit byte small = agree_below_at (λ b. not (bit_and b 0x80 == 0)) (λ b. bit_at b 7 == 1) 256 byte refl small

pub enabled_by : (bytes : List ℕ) → slice_index bytes 67 < 256 → (bit_and (slice_index bytes 67) 0x80 ≡ 0 → ⊥) → is_enabled bytes ≡ true
enabled_by bytes small h = sym (top_bit (slice_index bytes 67) small) ∙ ap not (ne_eqb (bit_and (slice_index bytes 67) 0x80) 0 h)

-- what is read where no test fails
pub read_ok : (bytes : List ℕ) (caps : Capabilities) (capability : Capability) (unit : DataUnit) (parts : CipherParts)
    → is_enabled bytes ≡ true → capability_of bytes caps ≡ Some capability
    → served_unit capability (slice_index bytes 64) ≡ Some unit → parts ≡ parts_in bytes capability unit
    → Ok parts ≡ read_bytes bytes caps
read_ok bytes caps capability unit parts enabled named served is =
    ap (λ (parts : CipherParts). Ok parts) is
    ∙ sym (ap (λ (b : Bool). cond b (read_under bytes (capability_of bytes caps)) (Err Disabled)) enabled
    ∙ ap (read_under bytes) named
    ∙ ap (λ (unit : Option DataUnit). option_map_or (λ unit. Ok (parts_in bytes capability unit)) unit (Err BadUnitSize)) served)

-- a mode's key stands within the key's place
pub key_within : (bytes : List ℕ) (mode : Mode) → take (key_size mode) (take 64 bytes) ≡ take (key_size mode) bytes
key_within bytes mode = take-take (key_size mode) 64 bytes (key_size-most mode)
