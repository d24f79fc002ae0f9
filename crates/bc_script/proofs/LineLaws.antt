-- A line is that of one key, of one planned fault, or of one operation.
use Rattle.std.proofs.Common.{◌≡◌, ℕ, ◌<◌, ◌^◌, ◌≤◌, Bool, true, false, List, [], ◌∷◌, length, Option, Some, None, refl, sym, ap, ◌∙◌, arith}
use Rattle.std.specs.Prelude.{codes, unwrap_or}
use Rattle.std.specs.Str.{bytes_eq}
use Rattle.std.specs.Str.Parse.{digits_value}
use Rattle.std.specs.Fmt.{decimal}
use Rattle.std.proofs.lemmas.Fmt.{digits_is_IsNumeral, decimal_injective}
use Rattle.std.proofs.lemmas.Slice.Eq.{bytes_eq-Decides}
use Rattle.hex.specs.Hex.{encode_lower, IsBytes}
use Rattle.hex.proofs.HexLemmas.{decode_of-encode_lower, decode_of-same}
use Rattle.bc_text.specs.Lines.{TextLine}
use Rattle.bc_key.specs.declared.config.Mode.{Mode}
use Rattle.bc_key.specs.declared.config.Mode.TheVariants.{Aes256Xts, Aes128CbcEssiv}
use Rattle.bc_key.specs.declared.config.DataUnit.{DataUnit}
use Rattle.bc_key.specs.declared.config.DataUnit.TheVariants.{Bytes512, Bytes1024, Bytes2048, Bytes4096}
use Rattle.bc_key.specs.DataUnits.{bytes_of, unit_of}
use Rattle.bc_key.specs.NumberText.{number_text}
use Rattle.bc_key.specs.declared.keys.KeyNo.{KeyNo}
use Rattle.bc_bio.specs.declared.context.Context.{Context}
use Rattle.bc_stack.specs.declared.target.Target.{Target}
use Rattle.bc_script.specs.declared.named_key.NamedKey.{NamedKey}
use Rattle.bc_script.specs.declared.op.Op.{Op}
use Rattle.bc_script.specs.declared.op.Op.TheVariants as ops
use Rattle.bc_script.specs.declared.op.Text.{Text}
use Rattle.bc_script.specs.declared.op.Text.TheVariants.{Fill, Bytes}
use Rattle.bc_script.specs.Name.{is_name}
use Rattle.bc_script.specs.Script.{IsDevice, AreKeys, IsNamedKey, IsFault, IsContext, IsBio, IsText, IsOp, bare_keys}
use Rattle.bc_script.specs.ScriptText.{on_off, device_line, key_line, fault_line, op_line, key_name_of, dash, mode_text, key_field, number_field, text_fields}
use Rattle.bc_script.proofs.KeyNames.{is_name_of, same_key, named_too}
use Rattle.bc_script.proofs.ByteLists.{IsBytes-All}
use Rattle.bc_script.proofs.LineFields.{IsBytes-one, small_unit}

-- ---- fields

-- different words
pub clash_words : (x y : List ℕ) → bytes_eq x y ≡ false → x ≡ y → ⊥
clash_words x y differ e = no (sym differ ∙ (bytes_eq-Decides x y).1 e)
  where
    no : false ≡ true → ⊥
    no e = absurd cc

-- lines with different first fields are different
pub clash : (x y : List ℕ) (a b : TextLine) → bytes_eq x y ≡ false → x ∷ a ≡ y ∷ b → ⊥
clash x y a b differ e = let words : x ≡ y = cc in clash_words x y differ words

pub encode_lower_injective : (xs ys : List ℕ) → IsBytes xs → IsBytes ys → encode_lower xs ≡ encode_lower ys → xs ≡ ys
encode_lower_injective xs ys p q e = decode_of-same (encode_lower xs) xs ys (decode_of-encode_lower xs p) (rw e (decode_of-encode_lower ys q))

pub number_text_injective : (a b : ℕ) → a < 2 ^ 256 → b < 2 ^ 256 → number_text a ≡ number_text b → a ≡ b
number_text_injective a b p q e =
    let value : (n : ℕ) → n < 2 ^ 256 → digits_value 16 (number_text n) ≡ n = λ n small. (digits_is_IsNumeral 16 false (omega arith) (omega arith) n small).1 in
    sym (value a p) ∙ ap (digits_value 16) e ∙ value b q

mode_text_injective : (a b : Mode) → mode_text a ≡ mode_text b → a ≡ b
mode_text_injective Aes256Xts Aes256Xts e = refl
mode_text_injective Aes128CbcEssiv Aes128CbcEssiv e = refl
mode_text_injective Aes256Xts Aes128CbcEssiv e = absurd (clash_words (codes "aes-256-xts") (codes "aes-128-cbc-essiv") refl e)
mode_text_injective Aes128CbcEssiv Aes256Xts e = absurd (clash_words (codes "aes-128-cbc-essiv") (codes "aes-256-xts") refl e)

unit_text_injective : (a b : DataUnit) → decimal (bytes_of a) ≡ decimal (bytes_of b) → a ≡ b
unit_text_injective a b e =
    let bytes = decimal_injective (bytes_of a) (bytes_of b) (small_unit a) (small_unit b) e in
    ap (λ (u : Option DataUnit). unwrap_or u Bytes512) (sym (found a) ∙ ap unit_of bytes ∙ found b)
  where
    found : (u : DataUnit) → unit_of (bytes_of u) ≡ Some u
    found Bytes512 = refl
    found Bytes1024 = refl
    found Bytes2048 = refl
    found Bytes4096 = refl

-- ---- a fallback's line

pub on_off_injective : (a b : Bool) → on_off a ≡ on_off b → a ≡ b
on_off_injective true true e = refl
on_off_injective false false e = refl
on_off_injective true false e = absurd (clash_words (codes "on") (codes "off") refl e)
on_off_injective false true e = absurd (clash_words (codes "off") (codes "on") refl e)

-- ---- a device's line

after_first_of_seven : (p q r s t u m v w x y z o n : List ℕ) → p ∷ q ∷ r ∷ s ∷ t ∷ u ∷ m ∷ [] ≡ v ∷ w ∷ x ∷ y ∷ z ∷ o ∷ n ∷ []
    → (q ≡ w) × (r ≡ x) × (s ≡ y) × (t ≡ z) × (u ≡ o) × (m ≡ n)
after_first_of_seven p q r s t u m v w x y z o n e = (cc, cc, cc, cc, cc, cc)

pub device_line_injective : (a b : Target) → IsDevice a → IsDevice b → device_line a ≡ device_line b → a ≡ b
device_line_injective a b p q e =
    let fields = after_first_of_seven _ _ _ _ _ _ _ _ _ _ _ _ _ _ e in
    let a_first = p.first in
    let b_first = q.first in
    let a_blocks = p.few_blocks in
    let b_blocks = q.few_blocks in
    let a_slots = p.slots.most in
    let b_slots = q.slots.most in
    let a_xts = p.xts in
    let b_xts = q.xts in
    let a_essiv = p.essiv in
    let b_essiv = q.essiv in
    let a_dun = p.few_dun_bytes in
    let b_dun = q.few_dun_bytes in
    let first = decimal_injective a.first b.first (omega arith) (omega arith) fields.0 in
    let blocks = decimal_injective a.blocks b.blocks (omega arith) (omega arith) fields.1 in
    let slots = decimal_injective a.slots b.slots (omega arith) (omega arith) fields.2 in
    let xts = decimal_injective a.caps.xts b.caps.xts (omega arith) (omega arith) fields.3 in
    let essiv = decimal_injective a.caps.essiv b.caps.essiv (omega arith) (omega arith) fields.4 in
    let dun_bytes = decimal_injective a.caps.max_dun_bytes b.caps.max_dun_bytes (omega arith) (omega arith) fields.5 in
    λ i. record { first = first i; blocks = blocks i; slots = slots i; caps = record { xts = xts i; essiv = essiv i; max_dun_bytes = dun_bytes i } }

-- ---- a key's line

after_first_of_six : (p q r s t u v w x y z o : List ℕ) → p ∷ q ∷ r ∷ s ∷ t ∷ u ∷ [] ≡ v ∷ w ∷ x ∷ y ∷ z ∷ o ∷ [] → (q ≡ w) × (r ≡ x) × (s ≡ y) × (t ≡ z) × (u ≡ o)
after_first_of_six p q r s t u v w x y z o e = (cc, cc, cc, cc, cc)

pub key_line_injective : (a b : NamedKey) → IsNamedKey a → IsNamedKey b → key_line a ≡ key_line b → a ≡ b
key_line_injective a b p q e =
    let fields = after_first_of_six _ _ _ _ _ _ _ _ _ _ _ _ e in
    let mode = mode_text_injective a.key.config.mode b.key.config.mode fields.1 in
    let unit = unit_text_injective a.key.config.unit b.key.config.unit fields.2 in
    let p_most = p.valid.most in
    let q_most = q.valid.most in
    let dun_bytes = decimal_injective a.key.config.dun_bytes b.key.config.dun_bytes (omega arith) (omega arith) fields.3 in
    let raw = encode_lower_injective a.key.raw b.key.raw (IsBytes-All a.key.raw p.valid.bytes) (IsBytes-All b.key.raw q.valid.bytes) fields.4 in
    λ i. record { name = fields.0 i; key = record { config = record { mode = mode i; unit = unit i; dun_bytes = dun_bytes i }; raw = raw i } }

-- ---- a planned fault's line

after_first_of_three : (p q r x y z : List ℕ) → p ∷ q ∷ r ∷ [] ≡ x ∷ y ∷ z ∷ [] → (q ≡ y) × (r ≡ z)
after_first_of_three p q r x y z e = (cc, cc)

pub fault_line_injective : (a b : ℕ × ℕ) → IsFault a → IsFault b → fault_line a ≡ fault_line b → a ≡ b
fault_line_injective a b p q e =
    let fields = after_first_of_three _ _ _ _ _ _ e in
    let a_shard = p.shard in
    let b_shard = q.shard in
    let a_access = p.access in
    let b_access = q.access in
    let shard = decimal_injective a.0 b.0 (omega arith) (omega arith) fields.0 in
    let access = decimal_injective a.1 b.1 (omega arith) (omega arith) fields.1 in
    λ i. (shard i, access i)

-- ---- an operation's line

-- the name of a key is never `-`
name_is_no_dash : (keys : List NamedKey) (number : KeyNo) → AreKeys keys → number.0 < length (bare_keys keys) → key_name_of keys number ≡ dash → ⊥
name_is_no_dash keys number are lt e = let name : true ≡ is_name dash = sym (is_name_of keys number are lt) ∙ ap is_name e in absurd cc

same_context : (keys : List NamedKey) (a b : Option Context) → AreKeys keys → IsContext (bare_keys keys) a → IsContext (bare_keys keys) b → key_field keys a ≡ key_field keys b → number_field a ≡ number_field b → a ≡ b
same_context keys None None are p q key number = refl
same_context keys None (Some b) are p q key number = absurd (name_is_no_dash keys b.key are q.0 (sym key))
same_context keys (Some a) None are p q key number = absurd (name_is_no_dash keys a.key are p.0 key)
same_context keys (Some a) (Some b) are p q key number =
    let same = same_key keys a.key b.key are (named_too keys a.key.0 p.0) (named_too keys b.key.0 q.0) key in
    let dun = number_text_injective a.dun b.dun p.1 q.1 number in
    λ i. Some (record { key = same i; dun = dun i })

second_of_two : (p q v w : List ℕ) → p ∷ q ∷ [] ≡ v ∷ w ∷ [] → q ≡ w
second_of_two p q v w e = cc

same_text : (keys : List NamedKey) (s t : Option Context) (u v : ℕ) (a b : Text) → IsText (bare_keys keys) s u a → IsText (bare_keys keys) t v b → text_fields a ≡ text_fields b → a ≡ b
same_text keys s t u v (Fill a) (Fill b) p q e =
    let bytes = encode_lower_injective (a ∷ []) (b ∷ []) (IsBytes-one a p) (IsBytes-one b q) (second_of_two _ _ _ _ e) in
    let byte : a ≡ b = cc in
    ap (λ (x : ℕ). Fill x) byte
same_text keys s t u v (Bytes a) (Bytes b) p q e = ap (λ (x : List ℕ). Bytes x) (encode_lower_injective a b p.0 q.0 (second_of_two _ _ _ _ e))
same_text keys s t u v (Fill a) (Bytes b) p q e = absurd (clash (codes "fill") (codes "hex") _ _ refl e)
same_text keys s t u v (Bytes a) (Fill b) p q e = absurd (clash (codes "hex") (codes "fill") _ _ refl e)

-- the four fields of a bio, and those after them
after_first_of_five : (p q r s t v w x y z : List ℕ) (a b : TextLine) → p ∷ q ∷ r ∷ s ∷ t ∷ a ≡ v ∷ w ∷ x ∷ y ∷ z ∷ b → (q ≡ w) × (r ≡ x) × (s ≡ y) × (t ≡ z) × (a ≡ b)
after_first_of_five p q r s t v w x y z a b e = (cc, cc, cc, cc, cc)

same_bio : (keys : List NamedKey) (a b : Option Context) (s t u v : ℕ) (word other : List ℕ) (c d : TextLine) → AreKeys keys → IsBio (bare_keys keys) a s u → IsBio (bare_keys keys) b t v
    → word ∷ key_field keys a ∷ decimal s ∷ decimal u ∷ number_field a ∷ c ≡ other ∷ key_field keys b ∷ decimal t ∷ decimal v ∷ number_field b ∷ d → (a ≡ b) × (s ≡ t) × (u ≡ v) × (c ≡ d)
same_bio keys a b s t u v word other c d are p q e =
    let fields = after_first_of_five _ _ _ _ _ _ _ _ _ _ _ _ e in
    let ps = p.sector_is in
    let qs = q.sector_is in
    let pu = p.few_units in
    let qu = q.few_units in (
      same_context keys a b are p.context_is q.context_is fields.0 fields.3,
      decimal_injective s t (omega arith) (omega arith) fields.1,
      decimal_injective u v (omega arith) (omega arith) fields.2,
      fields.4,
    )

pub op_line_injective : (devices : ℕ) (keys : List NamedKey) → AreKeys keys → devices ≤ 8 → (a b : Op) → IsOp devices (bare_keys keys) a → IsOp devices (bare_keys keys) b → op_line keys a ≡ op_line keys b → a ≡ b
op_line_injective devices keys are few (ops.Write a s u x) (ops.Write b t v y) p q e =
    let bio = same_bio keys a b s t u v _ _ _ _ are p.0 q.0 e in
    let text = same_text keys a b u v x y p.1 q.1 bio.3 in
    λ i. ops.Write (bio.0 i) (bio.1 i) (bio.2 i) (text i)
op_line_injective devices keys are few (ops.Read a s u) (ops.Read b t v) p q e =
    let bio = same_bio keys a b s t u v _ _ _ _ are p q e in
    λ i. ops.Read (bio.0 i) (bio.1 i) (bio.2 i)
op_line_injective devices keys are few (ops.Evict a) (ops.Evict b) p q e =
    ap (λ (k : KeyNo). ops.Evict k) (same_key keys a b are (named_too keys a.0 p) (named_too keys b.0 q) (second_of_two _ _ _ _ e))
op_line_injective devices keys are few (ops.Reset a) (ops.Reset b) p q e = ap (λ (d : ℕ). ops.Reset d) (decimal_injective a b (omega arith) (omega arith) (second_of_two _ _ _ _ e))
op_line_injective devices keys are few ops.Plug ops.Plug p q e = refl
op_line_injective devices keys are few ops.Unplug ops.Unplug p q e = refl
op_line_injective devices keys are few (ops.Write c s u t) (ops.Read d r v) p q e = absurd (clash (codes "write") (codes "read") _ _ refl e)
op_line_injective devices keys are few (ops.Write c s u t) (ops.Evict d) p q e = absurd (clash (codes "write") (codes "evict") _ _ refl e)
op_line_injective devices keys are few (ops.Write c s u t) (ops.Reset d) p q e = absurd (clash (codes "write") (codes "reset") _ _ refl e)
op_line_injective devices keys are few (ops.Write c s u t) ops.Plug p q e = absurd (clash (codes "write") (codes "plug") _ _ refl e)
op_line_injective devices keys are few (ops.Write c s u t) ops.Unplug p q e = absurd (clash (codes "write") (codes "unplug") _ _ refl e)
op_line_injective devices keys are few (ops.Read c s u) (ops.Write d r v o) p q e = absurd (clash (codes "read") (codes "write") _ _ refl e)
op_line_injective devices keys are few (ops.Read c s u) (ops.Evict d) p q e = absurd (clash (codes "read") (codes "evict") _ _ refl e)
op_line_injective devices keys are few (ops.Read c s u) (ops.Reset d) p q e = absurd (clash (codes "read") (codes "reset") _ _ refl e)
op_line_injective devices keys are few (ops.Read c s u) ops.Plug p q e = absurd (clash (codes "read") (codes "plug") _ _ refl e)
op_line_injective devices keys are few (ops.Read c s u) ops.Unplug p q e = absurd (clash (codes "read") (codes "unplug") _ _ refl e)
op_line_injective devices keys are few (ops.Evict c) (ops.Write d r v o) p q e = absurd (clash (codes "evict") (codes "write") _ _ refl e)
op_line_injective devices keys are few (ops.Evict c) (ops.Read d r v) p q e = absurd (clash (codes "evict") (codes "read") _ _ refl e)
op_line_injective devices keys are few (ops.Evict c) (ops.Reset d) p q e = absurd (clash (codes "evict") (codes "reset") _ _ refl e)
op_line_injective devices keys are few (ops.Evict c) ops.Plug p q e = absurd (clash (codes "evict") (codes "plug") _ _ refl e)
op_line_injective devices keys are few (ops.Evict c) ops.Unplug p q e = absurd (clash (codes "evict") (codes "unplug") _ _ refl e)
op_line_injective devices keys are few (ops.Reset c) (ops.Write d r v o) p q e = absurd (clash (codes "reset") (codes "write") _ _ refl e)
op_line_injective devices keys are few (ops.Reset c) (ops.Read d r v) p q e = absurd (clash (codes "reset") (codes "read") _ _ refl e)
op_line_injective devices keys are few (ops.Reset c) (ops.Evict d) p q e = absurd (clash (codes "reset") (codes "evict") _ _ refl e)
op_line_injective devices keys are few (ops.Reset c) ops.Plug p q e = absurd (clash (codes "reset") (codes "plug") _ _ refl e)
op_line_injective devices keys are few (ops.Reset c) ops.Unplug p q e = absurd (clash (codes "reset") (codes "unplug") _ _ refl e)
op_line_injective devices keys are few ops.Plug (ops.Write d r v o) p q e = absurd (clash (codes "plug") (codes "write") _ _ refl e)
op_line_injective devices keys are few ops.Plug (ops.Read d r v) p q e = absurd (clash (codes "plug") (codes "read") _ _ refl e)
op_line_injective devices keys are few ops.Plug (ops.Evict d) p q e = absurd (clash (codes "plug") (codes "evict") _ _ refl e)
op_line_injective devices keys are few ops.Plug (ops.Reset d) p q e = absurd (clash (codes "plug") (codes "reset") _ _ refl e)
op_line_injective devices keys are few ops.Plug ops.Unplug p q e = absurd (clash (codes "plug") (codes "unplug") _ _ refl e)
op_line_injective devices keys are few ops.Unplug (ops.Write d r v o) p q e = absurd (clash (codes "unplug") (codes "write") _ _ refl e)
op_line_injective devices keys are few ops.Unplug (ops.Read d r v) p q e = absurd (clash (codes "unplug") (codes "read") _ _ refl e)
op_line_injective devices keys are few ops.Unplug (ops.Evict d) p q e = absurd (clash (codes "unplug") (codes "evict") _ _ refl e)
op_line_injective devices keys are few ops.Unplug (ops.Reset d) p q e = absurd (clash (codes "unplug") (codes "reset") _ _ refl e)
op_line_injective devices keys are few ops.Unplug ops.Plug p q e = absurd (clash (codes "unplug") (codes "plug") _ _ refl e)
