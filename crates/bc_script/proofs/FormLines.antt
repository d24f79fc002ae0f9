-- The one line that has a form.
use Rattle.std.proofs.Common.{◌≡◌, ℕ, Bool, true, false, List, [], ◌∷◌, Option, Some, None, codes, bytes_eq, if◌then◌else◌, refl, sym, ap, subst, ◌∙◌}
use Rattle.std.proofs.lemmas.Slice.Eq.{bytes_eq-Decides}
use Rattle.bc_text.specs.Lines.{TextLine}
use Rattle.bc_key.specs.declared.config.Mode.{Mode}
use Rattle.bc_key.specs.declared.config.Mode.TheVariants.{Aes256Xts, Aes128CbcEssiv}
use Rattle.bc_script.specs.ScriptText.{on_off, mode_text}
use Rattle.bc_script.specs.Statements.{text_line, form_line, DashesAgree}
use Rattle.bc_script.specs.Forms.{Form, BioForm, TextForm, Fill, Hex, Version, Disk, Fallback, Device, Key, Fault, Thread, Write, Read, Evict, Reset, Plug, Unplug, End, alone, with_one, form_with_word, switch_of, fallback_form, with_switch, form_with_device, mode_of_word, key_form, with_key, form_with_fault, dashes_agree, text_form, write_form, form_with_bio, with_bio_and_text, form_of}

-- the line of a form
pub record IsLineOf (line : TextLine) (form : Form) : Type 0 where
  pub line_is : line ≡ form_line form
  pub agrees : DashesAgree form

-- ---- the other fields

no_form : (form : Form) → None ≡ Some form → ⊥
no_form form e = cc

same_form : (a b : Form) → Some a ≡ Some b → a ≡ b
same_form a b e = cc

-- what holds of a form holds of the same form
carry : (line : TextLine) (a b : Form) → IsLineOf line a → Some a ≡ Some b → IsLineOf line b
carry line a b is e = subst (IsLineOf line) (same_form a b e) is

of_alone : (word : List ℕ) (built form : Form) (fields : TextLine) → IsLineOf (word ∷ []) built → alone built fields ≡ Some form → IsLineOf (word ∷ fields) form
of_alone word built form [] is e = carry (word ∷ []) built form is e
of_alone word built form (f ∷ fs) is e = absurd (no_form form e)

of_one : (word : List ℕ) (built : List ℕ → Form) (form : Form) (fields : TextLine) → ((field : List ℕ) → IsLineOf (word ∷ field ∷ []) (built field)) → with_one built fields ≡ Some form → IsLineOf (word ∷ fields) form
of_one word built form [] is e = absurd (no_form form e)
of_one word built form (f ∷ []) is e = carry (word ∷ f ∷ []) (built f) form (is f) e
of_one word built form (f ∷ g ∷ fs) is e = absurd (no_form form e)

-- a condition that let a form through
let_through : (test : Bool) (built : Option Form) (form : Form) → (if test then built else None) ≡ Some form → (test ≡ true) × (built ≡ Some form)
let_through true built form e = (refl, e)
let_through false built form e = absurd (no_form form e)

of_word : (word fixed : List ℕ) (built form : Form) (fields : TextLine) → IsLineOf (word ∷ fixed ∷ []) built → form_with_word fixed built fields ≡ Some form → IsLineOf (word ∷ fields) form
of_word word fixed built form [] is e = absurd (no_form form e)
of_word word fixed built form (f ∷ fs) is e =
    let through = let_through (bytes_eq f fixed) (alone built fs) form e in
    rest fs ((bytes_eq-Decides f fixed).0 through.0) through.1
  where
    rest : (fs : TextLine) → f ≡ fixed → alone built fs ≡ Some form → IsLineOf (word ∷ f ∷ fs) form
    rest [] same e = subst (λ (g : List ℕ). IsLineOf (word ∷ g ∷ []) form) (sym same) (carry (word ∷ fixed ∷ []) built form is e)
    rest (g ∷ gs) same e = absurd (no_form form e)

-- the word of a mode
mode_text-mode_of : (word : List ℕ) (mode : Mode) → mode_of_word word ≡ Some mode → word ≡ mode_text mode
mode_text-mode_of word mode e = first (bytes_eq word (codes "aes-256-xts")) refl
  where
    same : (a b : Mode) → Some a ≡ Some b → a ≡ b
    same a b e = cc

    second : (b : Bool) → bytes_eq word (codes "aes-128-cbc-essiv") ≡ b → (if b then Some Aes128CbcEssiv else None) ≡ Some mode → word ≡ mode_text mode
    second true is e = (bytes_eq-Decides word (codes "aes-128-cbc-essiv")).0 is ∙ ap mode_text (same Aes128CbcEssiv mode e)
    second false is e = absurd cc

    first : (b : Bool) → bytes_eq word (codes "aes-256-xts") ≡ b → word ≡ mode_text mode
    first true is =
        let found : Some Aes256Xts ≡ Some mode = sym (ap (λ (b : Bool). if b then Some Aes256Xts else (if bytes_eq word (codes "aes-128-cbc-essiv") then Some Aes128CbcEssiv else None)) is) ∙ e in
        (bytes_eq-Decides word (codes "aes-256-xts")).0 is ∙ ap mode_text (same Aes256Xts mode found)
    first false is =
        second (bytes_eq word (codes "aes-128-cbc-essiv")) refl
        (sym (ap (λ (b : Bool). if b then Some Aes256Xts else (if bytes_eq word (codes "aes-128-cbc-essiv") then Some Aes128CbcEssiv else None)) is) ∙ e)

of_key : (form : Form) (fields : TextLine) → with_key fields ≡ Some form → IsLineOf (codes "key" ∷ fields) form
of_key form [] e = absurd (no_form form e)
of_key form (a ∷ []) e = absurd (no_form form e)
of_key form (a ∷ b ∷ []) e = absurd (no_form form e)
of_key form (a ∷ b ∷ c ∷ []) e = absurd (no_form form e)
of_key form (a ∷ b ∷ c ∷ d ∷ []) e = absurd (no_form form e)
of_key form (a ∷ b ∷ c ∷ d ∷ f ∷ g ∷ fs) e = absurd (no_form form e)
of_key form (name ∷ mode ∷ unit ∷ dun_bytes ∷ digits ∷ []) e = by_mode (mode_of_word mode) refl
  where
    by_mode : (o : Option Mode) → mode_of_word mode ≡ o → IsLineOf (codes "key" ∷ name ∷ mode ∷ unit ∷ dun_bytes ∷ digits ∷ []) form
    by_mode None is = absurd (no_form form (sym (ap (λ (o : Option Mode). key_form name o unit dun_bytes digits) is) ∙ e))
    by_mode (Some m) is =
        let built = Key (record { name = name; mode = m; unit = unit; dun_bytes = dun_bytes; digits = digits }) in
        carry (codes "key" ∷ name ∷ mode ∷ unit ∷ dun_bytes ∷ digits ∷ []) built form
        (record { line_is = ap (λ (w : List ℕ). codes "key" ∷ name ∷ w ∷ unit ∷ dun_bytes ∷ digits ∷ []) (mode_text-mode_of mode m is); agrees = tt })
        (sym (ap (λ (o : Option Mode). key_form name o unit dun_bytes digits) is) ∙ e)

-- the word of a switch
on_off-switch_of : (word : List ℕ) (on : Bool) → switch_of word ≡ Some on → word ≡ on_off on
on_off-switch_of word on e = first (bytes_eq word (codes "on")) refl
  where
    same : (a b : Bool) → Some a ≡ Some b → a ≡ b
    same a b e = cc

    second : (b : Bool) → bytes_eq word (codes "off") ≡ b → (if b then Some false else None) ≡ Some on → word ≡ on_off on
    second true is e = (bytes_eq-Decides word (codes "off")).0 is ∙ ap on_off (same false on e)
    second false is e = absurd cc

    first : (b : Bool) → bytes_eq word (codes "on") ≡ b → word ≡ on_off on
    first true is =
        let found : Some true ≡ Some on = sym (ap (λ (b : Bool). if b then Some true else (if bytes_eq word (codes "off") then Some false else None)) is) ∙ e in
        (bytes_eq-Decides word (codes "on")).0 is ∙ ap on_off (same true on found)
    first false is =
        second (bytes_eq word (codes "off")) refl
        (sym (ap (λ (b : Bool). if b then Some true else (if bytes_eq word (codes "off") then Some false else None)) is) ∙ e)

of_fallback : (form : Form) (fields : TextLine) → with_switch fields ≡ Some form → IsLineOf (codes "fallback" ∷ fields) form
of_fallback form [] e = absurd (no_form form e)
of_fallback form (a ∷ b ∷ fs) e = absurd (no_form form e)
of_fallback form (word ∷ []) e = by_switch (switch_of word) refl
  where
    by_switch : (o : Option Bool) → switch_of word ≡ o → IsLineOf (codes "fallback" ∷ word ∷ []) form
    by_switch None is = absurd (no_form form (sym (ap fallback_form is) ∙ e))
    by_switch (Some on) is =
        carry (codes "fallback" ∷ word ∷ []) (Fallback on) form
        (record { line_is = ap (λ (w : List ℕ). codes "fallback" ∷ w ∷ []) (on_off-switch_of word on is); agrees = tt })
        (sym (ap fallback_form is) ∙ e)

of_device : (form : Form) (fields : TextLine) → form_with_device fields ≡ Some form → IsLineOf (codes "device" ∷ fields) form
of_device form [] e = absurd (no_form form e)
of_device form (a ∷ []) e = absurd (no_form form e)
of_device form (a ∷ b ∷ []) e = absurd (no_form form e)
of_device form (a ∷ b ∷ c ∷ []) e = absurd (no_form form e)
of_device form (a ∷ b ∷ c ∷ d ∷ []) e = absurd (no_form form e)
of_device form (a ∷ b ∷ c ∷ d ∷ f ∷ []) e = absurd (no_form form e)
of_device form (a ∷ b ∷ c ∷ d ∷ f ∷ g ∷ h ∷ fs) e = absurd (no_form form e)
of_device form (first ∷ blocks ∷ slots ∷ xts ∷ essiv ∷ dun_bytes ∷ []) e =
    carry (codes "device" ∷ first ∷ blocks ∷ slots ∷ xts ∷ essiv ∷ dun_bytes ∷ [])
    (Device (record { first = first; blocks = blocks; slots = slots; xts = xts; essiv = essiv; dun_bytes = dun_bytes })) form
    (record { line_is = refl; agrees = tt }) e

of_fault : (form : Form) (fields : TextLine) → form_with_fault fields ≡ Some form → IsLineOf (codes "fault" ∷ fields) form
of_fault form [] e = absurd (no_form form e)
of_fault form (a ∷ []) e = absurd (no_form form e)
of_fault form (a ∷ b ∷ c ∷ fs) e = absurd (no_form form e)
of_fault form (shard ∷ access ∷ []) e =
    carry (codes "fault" ∷ shard ∷ access ∷ []) (Fault (record { shard = shard; access = access })) form (record { line_is = refl; agrees = tt }) e

abbrev bio_of : List ℕ → List ℕ → List ℕ → List ℕ → BioForm
bio_of key sector units number = record { key = key; sector = sector; units = units; number = number }

of_read : (form : Form) (fields : TextLine) → form_with_bio fields ≡ Some form → IsLineOf (codes "read" ∷ fields) form
of_read form [] e = absurd (no_form form e)
of_read form (a ∷ []) e = absurd (no_form form e)
of_read form (a ∷ b ∷ []) e = absurd (no_form form e)
of_read form (a ∷ b ∷ c ∷ []) e = absurd (no_form form e)
of_read form (a ∷ b ∷ c ∷ d ∷ f ∷ fs) e = absurd (no_form form e)
of_read form (key ∷ sector ∷ units ∷ number ∷ []) e =
    let bio = bio_of key sector units number in
    let through = let_through (dashes_agree bio) (Some (Read bio)) form e in
    carry (codes "read" ∷ key ∷ sector ∷ units ∷ number ∷ []) (Read bio) form (record { line_is = refl; agrees = through.0 }) through.1

-- the two words that a text has
text_line-text_form : (word digits : List ℕ) (text : TextForm) → text_form word digits ≡ Some text → word ∷ digits ∷ [] ≡ text_line text
text_line-text_form word digits text e = first (bytes_eq word (codes "fill")) refl
  where
    same : (a b : TextForm) → Some a ≡ Some b → a ≡ b
    same a b e = cc

    second : (b : Bool) → bytes_eq word (codes "hex") ≡ b → (if b then Some (Hex digits) else None) ≡ Some text → word ∷ digits ∷ [] ≡ text_line text
    second true is e = ap (λ (w : List ℕ). w ∷ digits ∷ []) ((bytes_eq-Decides word (codes "hex")).0 is) ∙ ap text_line (same (Hex digits) text e)
    second false is e = absurd cc

    first : (b : Bool) → bytes_eq word (codes "fill") ≡ b → word ∷ digits ∷ [] ≡ text_line text
    first true is =
        let found : Some (Fill digits) ≡ Some text = sym (ap (λ (b : Bool). if b then Some (Fill digits) else (if bytes_eq word (codes "hex") then Some (Hex digits) else None)) is) ∙ e in
        ap (λ (w : List ℕ). w ∷ digits ∷ []) ((bytes_eq-Decides word (codes "fill")).0 is) ∙ ap text_line (same (Fill digits) text found)
    first false is =
        second (bytes_eq word (codes "hex")) refl
        (sym (ap (λ (b : Bool). if b then Some (Fill digits) else (if bytes_eq word (codes "hex") then Some (Hex digits) else None)) is) ∙ e)

of_write : (form : Form) (fields : TextLine) → with_bio_and_text fields ≡ Some form → IsLineOf (codes "write" ∷ fields) form
of_write form [] e = absurd (no_form form e)
of_write form (a ∷ []) e = absurd (no_form form e)
of_write form (a ∷ b ∷ []) e = absurd (no_form form e)
of_write form (a ∷ b ∷ c ∷ []) e = absurd (no_form form e)
of_write form (a ∷ b ∷ c ∷ d ∷ []) e = absurd (no_form form e)
of_write form (a ∷ b ∷ c ∷ d ∷ f ∷ []) e = absurd (no_form form e)
of_write form (a ∷ b ∷ c ∷ d ∷ f ∷ g ∷ h ∷ fs) e = absurd (no_form form e)
of_write form (key ∷ sector ∷ units ∷ number ∷ word ∷ digits ∷ []) e = by_text (text_form word digits) refl
  where
    by_text : (o : Option TextForm) → text_form word digits ≡ o → IsLineOf (codes "write" ∷ key ∷ sector ∷ units ∷ number ∷ word ∷ digits ∷ []) form
    by_text None is = absurd (no_form form (sym (ap (write_form (bio_of key sector units number)) is) ∙ e))
    by_text (Some text) is =
        let through = let_through (dashes_agree (bio_of key sector units number)) (Some (Write (bio_of key sector units number) text)) form
        (sym (ap (write_form (bio_of key sector units number)) is) ∙ e) in
        carry (codes "write" ∷ key ∷ sector ∷ units ∷ number ∷ word ∷ digits ∷ []) (Write (bio_of key sector units number) text) form
        (record { line_is = ap (λ (t : TextLine). codes "write" ∷ key ∷ sector ∷ units ∷ number ∷ t) (text_line-text_form word digits text is); agrees = through.0 })
        through.1

-- ---- the first word

-- a word that is this one has the form that its fields give, and any other the form that the other words give
by_word : (word this : List ℕ) (fields : TextLine) (form : Form) (here there : Option Form) → (if bytes_eq word this then here else there) ≡ Some form
    → (here ≡ Some form → IsLineOf (this ∷ fields) form) → (there ≡ Some form → IsLineOf (word ∷ fields) form) → IsLineOf (word ∷ fields) form
by_word word this fields form here there e yes_here no_there = pick (bytes_eq word this) refl
  where
    pick : (b : Bool) → bytes_eq word this ≡ b → IsLineOf (word ∷ fields) form
    pick true is =
        subst (λ (w : List ℕ). IsLineOf (w ∷ fields) form) (sym ((bytes_eq-Decides word this).0 is))
        (yes_here (sym (ap (λ (b : Bool). if b then here else there) is) ∙ e))
    pick false is = no_there (sym (ap (λ (b : Bool). if b then here else there) is) ∙ e)

pub IsLineOf-form_of : (line : TextLine) (form : Form) → form_of line ≡ Some form → IsLineOf line form
IsLineOf-form_of [] form e = absurd (no_form form e)
IsLineOf-form_of (word ∷ fields) form e =
    by_word word (codes "write") fields form _ _ e (of_write form fields) (λ e.
    by_word word (codes "read") fields form _ _ e (of_read form fields) (λ e.
    by_word word (codes "evict") fields form _ _ e (of_one (codes "evict") Evict form fields (λ field. record { line_is = refl; agrees = tt })) (λ e.
    by_word word (codes "reset") fields form _ _ e (of_one (codes "reset") Reset form fields (λ field. record { line_is = refl; agrees = tt })) (λ e.
    by_word word (codes "plug") fields form _ _ e (of_alone (codes "plug") Plug form fields (record { line_is = refl; agrees = tt })) (λ e.
    by_word word (codes "unplug") fields form _ _ e (of_alone (codes "unplug") Unplug form fields (record { line_is = refl; agrees = tt })) (λ e.
    by_word word (codes "thread") fields form _ _ e (of_alone (codes "thread") Thread form fields (record { line_is = refl; agrees = tt })) (λ e.
    by_word word (codes "key") fields form _ _ e (of_key form fields) (λ e.
    by_word word (codes "fault") fields form _ _ e (of_fault form fields) (λ e.
    by_word word (codes "blkcrypt") fields form _ _ e (of_word (codes "blkcrypt") (codes "1") Version form fields (record { line_is = refl; agrees = tt })) (λ e.
    by_word word (codes "disk") fields form _ _ e (of_one (codes "disk") Disk form fields (λ field. record { line_is = refl; agrees = tt })) (λ e.
    by_word word (codes "fallback") fields form _ _ e (of_fallback form fields) (λ e.
    by_word word (codes "device") fields form _ _ e (of_device form fields) (λ e.
    by_word word (codes "end") fields form _ _ e (of_alone (codes "end") End form fields (record { line_is = refl; agrees = tt })) (λ e.
    absurd (no_form form e)))))))))))))))
