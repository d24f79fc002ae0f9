-- What a line says where it passes its tests, and that it fits after what has been read.
use Rattle.std.proofs.Common.{◌≡◌, ℕ, zero, suc, ◌<◌, ◌≤◌, ◌+◌, ◌*◌, Bool, true, false, not, ◌&&◌, if◌then◌else◌, nat_lt, nat_le, List, [], ◌∷◌, ◌++◌, length, Option, Some, None, is_some, bytes_eq, Result, Ok, Err, refl, sym, ap, subst, ◌∙◌, arith, ltb-true, leb-true}
use Rattle.std.specs.Prelude.{codes, sum_by, MatchOption, MatchResult, IfOk, IfErr, IsSome, IsTrue}
use Rattle.std.proofs.lemmas.Bool.{and_parts}
use Rattle.bc_text.specs.Lines.{TextLine}
use Rattle.bc_key.specs.declared.keys.KeyNo.{KeyNo}
use Rattle.bc_bio.specs.declared.context.Context.{Context}
use Rattle.bc_bio.specs.Extent.{unit_sectors}
use Rattle.bc_script.specs.declared.named_key.NamedKey.{NamedKey}
use Rattle.bc_script.specs.declared.op.Op.{Op}
use Rattle.bc_script.specs.declared.op.Op.TheVariants as ops
use Rattle.bc_script.specs.declared.op.Text.{Text}
use Rattle.bc_script.specs.declared.op.Text.TheVariants as texts
use Rattle.bc_script.specs.declared.sort.Sort.{Sort}
use Rattle.bc_script.specs.declared.statement.Statement.{Statement}
use Rattle.bc_script.specs.declared.statement.Statement.TheVariants as statements
use Rattle.bc_script.specs.declared.statement.Unread.{Unread}
use Rattle.bc_script.specs.declared.reader.line.BioFields.{BioFields}
use Rattle.bc_script.specs.Name.{is_name}
use Rattle.bc_script.specs.Script.{IsText, bare_keys, open_after, unit_count_of_section, max_ops, max_units, max_bio_units, max_bio_sectors}
use Rattle.bc_script.specs.ScriptText.{dash}
use Rattle.bc_script.specs.Forms.{Form, Write, Read, Evict, Reset, Plug, Unplug, BioForm, TextForm, sort_of, dashes_agree}
use Rattle.bc_script.specs.Order.{may_follow}
use Rattle.bc_script.specs.ScriptErrors.{Why, is_declared, tests_of, error_at}
use Rattle.bc_script.specs.Progress.{Progress, IsProgress, forms_read, sections_read}
use Rattle.bc_script.specs.Says.{SaysNumber, SaysNumberBelow}
use Rattle.bc_script.specs.NamedKeys.{IsNamed, IsNoName}
use Rattle.bc_script.specs.Statements.{IsStatementOf, IsNextStatement, Reports, form_line}
use Rattle.bc_script.specs.BioFields.{IsNewName, IsDeclared, SaysKey, SaysNumberField, SaysBio, SaysText, IsTextOf, context_with}
use Rattle.bc_script.specs.Reading.{IsReading}
use Rattle.bc_script.proofs.LineForms.{bytes_eq-same, bytes_eq-other}
use Rattle.bc_script.proofs.Passes.{open_after-append}
use Rattle.bc_script.proofs.Refusals.{undeclared, key_passes, number_passes, bio_passes}

-- ---- names

pub new_name_is : (p : Progress) (field name : List ℕ) (found : Option KeyNo) (taken : Bool) → IsProgress p → MatchOption found (IsNoName p.keys field) (IsNamed p.keys field) → taken ≡ is_some found → taken ≡ false
    → IsTrue (is_name field) → name ≡ field → IsNewName p field name
new_name_is p field name None taken is none e denied rule same =
    record { name_is = same; rule = rule; fresh = none; passes = ap (λ (b : Bool). b && not (is_declared field (forms_read p))) rule ∙ ap not (undeclared p field is none) }
new_name_is p field name (Some key) taken is named e denied rule same = let holds : true ≡ false = sym e ∙ denied in absurd cc

length-bare_keys : (keys : List NamedKey) → length (bare_keys keys) ≡ length keys
length-bare_keys [] = refl
length-bare_keys (k ∷ ks) = ap suc (length-bare_keys ks)

-- ---- an operation that fits

-- one that opens or closes no plug leaves them as they are
plain : (section : List Op) (op : Op) (before : Option Bool) → open_after false section ≡ before → ((b : Bool) → open_after b (op ∷ []) ≡ Some b) → IsSome before → IsSome (open_after false (section ++ op ∷ []))
plain section op None e same some = absurd cc
plain section op (Some b) e same some = ap (λ (o : Option Bool). is_some o) (open_after-append false b section (op ∷ []) e ∙ same b)

pub said_plug : (p : Progress) (lines count units : ℕ) (plugged room : Bool) → IsReading p lines plugged count units → plugged ≡ false → room ≡ nat_lt (sum_by length (sections_read p)) max_ops → room ≡ true
    → IsStatementOf p Plug (statements.Operation ops.Plug)
said_plug p lines count units plugged room is closed test holds =
    let rules = is.rules in
    let few = rules.few_units in
    record {
      line_is = refl;
      sort_is = refl;
      fits = record {
        valid = tt;
        plugs = ap (λ (o : Option Bool). is_some o) (open_after-append false plugged p.section (ops.Plug ∷ []) is.plug ∙ ap (λ (b : Bool). open_after b (ops.Plug ∷ [])) closed);
        room = ltb-true _ _ (sym test ∙ holds);
        units = omega arith;
      };
    }

pub said_unplug : (p : Progress) (lines count units : ℕ) (plugged room : Bool) → IsReading p lines plugged count units → plugged ≡ true → room ≡ nat_lt (sum_by length (sections_read p)) max_ops → room ≡ true
    → IsStatementOf p Unplug (statements.Operation ops.Unplug)
said_unplug p lines count units plugged room is opened test holds =
    let rules = is.rules in
    let few = rules.few_units in
    record {
      line_is = refl;
      sort_is = refl;
      fits = record {
        valid = tt;
        plugs = ap (λ (o : Option Bool). is_some o) (open_after-append false plugged p.section (ops.Unplug ∷ []) is.plug ∙ ap (λ (b : Bool). open_after b (ops.Unplug ∷ [])) opened);
        room = ltb-true _ _ (sym test ∙ holds);
        units = omega arith;
      };
    }

pub said_evict : (p : Progress) (name : List ℕ) (key : KeyNo) (room : Bool) → IsProgress p → IsDeclared p name key → room ≡ nat_lt (sum_by length (sections_read p)) max_ops → room ≡ true → IsStatementOf p (Evict name) (statements.Operation (ops.Evict key))
said_evict p name key room is declared test holds =
    let named = declared.named in
    let within = named.within in
    let few = is.few_units in
    record {
      line_is = ap (λ (n : List ℕ). codes "evict" ∷ n ∷ []) named.name_is;
      sort_is = refl;
      fits = record {
        valid = subst (λ (n : ℕ). key.0 < n) (sym (length-bare_keys p.keys)) within;
        plugs = plain p.section (ops.Evict key) (open_after false p.section) refl (λ b. refl) is.plugs;
        room = ltb-true _ _ (sym test ∙ holds);
        units = omega arith;
      };
    }

pub said_reset : (p : Progress) (field : List ℕ) (device : ℕ) (room : Bool) → IsProgress p → SaysNumberBelow (length p.targets) field device → room ≡ nat_lt (sum_by length (sections_read p)) max_ops → room ≡ true
    → IsStatementOf p (Reset field) (statements.Operation (ops.Reset device))
said_reset p field device room is said test holds =
    let few = is.few_units in
    record {
      line_is = ap (λ (f : List ℕ). codes "reset" ∷ f ∷ []) said.text;
      sort_is = refl;
      fits = record {
        valid = said.below;
        plugs = plain p.section (ops.Reset device) (open_after false p.section) refl (λ b. refl) is.plugs;
        room = ltb-true _ _ (sym test ∙ holds);
        units = omega arith;
      };
    }

-- ---- the fields of a bio

dashes_clash : (key number : List ℕ) (a b : Bool) → bytes_eq key dash ≡ a → bytes_eq number dash ≡ b → (if a then bytes_eq number dash else not (bytes_eq number dash)) ≡ true → a ≡ b
dashes_clash key number true b k n agree = sym agree ∙ n
dashes_clash key number false true k n agree = let denied : false ≡ true = sym (ap not n) ∙ agree in denied
dashes_clash key number false false k n agree = refl

agree_both : (bio : BioForm) (a b : Bool) → dashes_agree bio ≡ true → bytes_eq bio.key dash ≡ a → bytes_eq bio.number dash ≡ b → a ≡ b
agree_both bio a b agree k n = dashes_clash bio.key bio.number a b k n (ap (λ (c : Bool). if c then bytes_eq bio.number dash else not (bytes_eq bio.number dash)) (sym k) ∙ agree)

says_with : (p : Progress) (bio : BioForm) (key : Option KeyNo) (number : Option ℕ) (sector units : ℕ) → dashes_agree bio ≡ true → SaysKey p bio.key key → SaysNumber 0 4294967295 bio.sector sector → SaysNumber 0 max_bio_units bio.units units
    → SaysNumberField bio.number number → SaysBio p bio (record { context = context_with key number; sector = sector; units = units })
says_with p bio None None sector units agree k s u n =
    let most = s.high in
    record {
      passes = λ next. bio_passes (forms_read p) bio next (key_passes p bio.key None k) s.passes u.passes (number_passes bio.number None n);
      key_is = k;
      sector_is = s.text;
      units_is = u.text;
      number_is = n;
      context_is = tt;
      sector_fits = omega arith;
      few_units = u.high;
      units_in = sym u.value;
    }
says_with p bio (Some key) (Some number) sector units agree k s u n =
    let most = s.high in
    let named = k.1.named in
    let within = named.within in
    record {
      passes = λ next. bio_passes (forms_read p) bio next (key_passes p bio.key (Some key) k) s.passes u.passes (number_passes bio.number (Some number) n);
      key_is = named.name_is;
      sector_is = s.text;
      units_is = u.text;
      number_is = n.2;
      context_is = (subst (λ (m : ℕ). key.0 < m) (sym (length-bare_keys p.keys)) within, n.3);
      sector_fits = omega arith;
      few_units = u.high;
      units_in = sym u.value;
    }
says_with p bio None (Some number) sector units agree k s u n =
    let clash : true ≡ false = agree_both bio true false agree (ap (λ (f : List ℕ). bytes_eq f dash) k ∙ bytes_eq-same dash) (bytes_eq-other bio.number dash n.0) in
    absurd cc
says_with p bio (Some key) None sector units agree k s u n =
    let clash : false ≡ true = agree_both bio false true agree (bytes_eq-other bio.key dash k.0) (ap (λ (f : List ℕ). bytes_eq f dash) n ∙ bytes_eq-same dash) in
    absurd cc

pub says_bio : (p : Progress) (bio : BioForm) (key : Option KeyNo) (number : Option ℕ) (context : Option Context) (sector units : ℕ) → dashes_agree bio ≡ true → SaysKey p bio.key key → SaysNumber 0 4294967295 bio.sector sector → SaysNumber 0 max_bio_units bio.units units
    → SaysNumberField bio.number number → context ≡ context_with key number → SaysBio p bio (record { context = context; sector = sector; units = units })
says_bio p bio key number context sector units agree k s u n same =
    subst (λ (c : Option Context). SaysBio p bio (record { context = c; sector = sector; units = units })) (sym same) (says_with p bio key number sector units agree k s u n)

-- ---- bios and texts

module _ (p : Progress) (bio : BioForm) (fields : BioFields) (sectors : ℕ) (room : Bool) (is : IsProgress p) (says : SaysBio p bio fields) (sectors_is : sectors ≡ unit_sectors (bare_keys p.keys) fields.context)
    (test : room ≡ (nat_le (fields.units * sectors) max_bio_sectors && (nat_le (sum_by unit_count_of_section (sections_read p) + fields.units) max_units && nat_lt (sum_by length (sections_read p)) max_ops))) (holds : room ≡ true) where
  few_sectors : fields.units * unit_sectors (bare_keys p.keys) fields.context ≤ max_bio_sectors
  few_sectors = subst (λ (s : ℕ). fields.units * s ≤ max_bio_sectors) sectors_is (leb-true _ _ (and_parts _ _ (sym test ∙ holds)).0)

  few_units : sum_by unit_count_of_section (sections_read p) + fields.units ≤ max_units
  few_units = leb-true _ _ (and_parts _ _ (and_parts _ _ (sym test ∙ holds)).1).0

  has_room : sum_by length (sections_read p) < max_ops
  has_room = ltb-true _ _ (and_parts _ _ (and_parts _ _ (sym test ∙ holds)).1).1

  pub said_read : IsStatementOf p (Read bio) (statements.Operation (ops.Read fields.context fields.sector fields.units))
  said_read = record {
    line_is = λ i. codes "read" ∷ says.key_is i ∷ says.sector_is i ∷ says.units_is i ∷ says.number_is i ∷ [];
    sort_is = refl;
    fits = record {
      valid = record { context_is = says.context_is; sector_is = says.sector_fits; few_units = says.few_units; few_sectors = few_sectors };
      plugs = plain p.section (ops.Read fields.context fields.sector fields.units) (open_after false p.section) refl (λ b. refl) is.plugs;
      room = has_room;
      units = few_units;
    };
  }

  module _ (form : TextForm) (text : Text) (said : SaysText (fields.units * (512 * sectors)) form text) where
    text_is : (t : Text) → IsTextOf (fields.units * (512 * sectors)) t → IsText (bare_keys p.keys) fields.context fields.units t
    text_is (texts.Fill byte) valid = valid
    text_is (texts.Bytes bytes) valid = (valid.0, some fields.units valid.1, valid.2 ∙ ap (λ (s : ℕ). fields.units * (512 * s)) sectors_is)
      where
        some : (n : ℕ) → 0 < n * (512 * sectors) → 1 ≤ n
        some zero h = absurd (omega arith)
        some (suc n) h = omega arith

    pub said_write : IsStatementOf p (Write bio form) (statements.Operation (ops.Write fields.context fields.sector fields.units text))
    said_write = record {
      line_is = λ i. codes "write" ∷ says.key_is i ∷ says.sector_is i ∷ says.units_is i ∷ says.number_is i ∷ said.line_is i;
      sort_is = refl;
      fits = record {
        valid = (record { context_is = says.context_is; sector_is = says.sector_fits; few_units = says.few_units; few_sectors = few_sectors }, text_is text said.valid);
        plugs = plain p.section (ops.Write fields.context fields.sector fields.units text) (open_after false p.section) refl (λ b. refl) is.plugs;
        room = has_room;
        units = few_units;
      };
    }

-- ---- the whole line

pub next_is : (p : Progress) (line : TextLine) (form : Form) (said : Result Statement Unread) → IsProgress p → line ≡ form_line form → may_follow p.last (sort_of form) ≡ true → MatchResult said (IsStatementOf p form) (Reports (tests_of (forms_read p) form)) → IfOk said (IsNextStatement p line)
next_is p line form (Ok statement) rules line_is follows is = record { rules = rules; line_is = line_is ∙ is.line_is; follows = ap (λ (s : Sort). may_follow p.last s) (sym is.sort_is) ∙ follows; fits = is.fits }
next_is p line form (Err e) rules line_is follows tells = tt

pub next_told : (p : Progress) (line : TextLine) (form : Form) (said : Result Statement Unread) → error_at (forms_read p) line ≡ tests_of (forms_read p) form → MatchResult said (IsStatementOf p form) (Reports (tests_of (forms_read p) form)) → IfErr said (Reports (error_at (forms_read p) line))
next_told p line form (Ok statement) tests is = tt
next_told p line form (Err e) tests told = subst (λ (w : Why). Reports w e) (sym tests) told
