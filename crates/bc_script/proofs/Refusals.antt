-- The tests of a line, one after the other, up to the one that fails.
use Rattle.std.proofs.Common.{◌≡◌, ◌≢◌, ℕ, suc, ◌≤◌, ◌+◌, ◌*◌, Bool, true, false, not, ◌&&◌, ◌||◌, nat_eq, nat_lt, nat_le, List, [], ◌∷◌, length, Option, Some, None, is_some, bytes_eq, refl, sym, ap, subst, ◌∙◌, arith, ltb-true, eqb-true, eq-eqb}
use Rattle.std.specs.Prelude.{sum_by, count_by, MatchOption}
use Rattle.std.specs.List.{AllByRecursion}
use Rattle.std.specs.Option.{option_map}
use Rattle.std.proofs.lemmas.Bool.{false_from_ne_true}
use Rattle.bc_text.specs.Lines.{TextLine}
use Rattle.bc_key.specs.declared.keys.KeyNo.{KeyNo}
use Rattle.bc_key.specs.declared.key.KeyError.{KeyError}
use Rattle.bc_key.specs.KeyRefusal.{key_refusal}
use Rattle.bc_bio.specs.Extent.{unit_sectors}
use Rattle.bc_stack.specs.declared.target.Target.{Target}
use Rattle.bc_script.specs.declared.named_key.NamedKey.{NamedKey}
use Rattle.bc_script.specs.declared.sort.Sort.{Sort}
use Rattle.bc_script.specs.declared.statement.Unread.{Unread}
use Rattle.bc_script.specs.declared.statement.Unread.TheVariants as unread
use Rattle.bc_script.specs.declared.script_error.ScriptWhy.{ScriptWhy}
use Rattle.bc_script.specs.declared.script_error.ScriptWhy.TheVariants as why
use Rattle.bc_script.specs.declared.reader.line.BioFields.{BioFields}
use Rattle.bc_script.specs.Name.{is_name}
use Rattle.bc_script.specs.Script.{bare_keys, unit_count_of_section, max_devices, max_keys, max_faults, last_shard, last_access, max_threads, max_ops, max_units, max_bio_units, max_bio_sectors}
use Rattle.bc_script.specs.ScriptText.{dash}
use Rattle.bc_script.specs.Forms.{Form, DeviceForm, KeyForm, FaultForm, BioForm, TextForm, form_of, sort_of}
use Rattle.bc_script.specs.Order.{may_follow}
use Rattle.bc_script.specs.ScriptErrors.{Why, first_why, number_test, is_number, is_number_below, is_device, device_blocks_above, are_whole, device_test, device_tests, is_number_text, is_hex_text, is_text, number_in, bytes_in, declares_key, plans_fault, is_thread, is_operation, is_declared, sectors_under, is_open, key_refused, key_test, key_tests, fault_tests, ascends, op_limit, bio_limits, bio_tests, size_of, tests_of, is_end, last_sort, error_of_form, error_at}
use Rattle.bc_script.specs.Progress.{Progress, IsProgress, blocks_of, is_whole, forms_read, sections_read}
use Rattle.bc_script.specs.NamedKeys.{IsNamed, IsNoName}
use Rattle.bc_script.specs.Statements.{Reports, RefusesTest, follows_faults}
use Rattle.bc_script.specs.Says.{SaysNumber}
use Rattle.bc_script.specs.DeviceFields.{SaysDevice}
use Rattle.bc_script.specs.BioFields.{SaysKey, SaysNumberField, SaysBio}
use Rattle.bc_script.specs.Reading.{IsReading}
use Rattle.bc_script.proofs.Above.{devices-read, device_blocks-read, are_whole-read, keys-read, faults-read, threads-read, operations-read, units-read, last_sort-read, is_open-read, ascends-read, is_declared-read, is_declared-none, sectors_under-read}

-- ---- one test

-- a test that fails is the error
pub fails : (test : Bool) (kind : ScriptWhy) (next : Why) → test ≡ false → first_why test kind next ≡ Some kind
fails test kind next e = ap (λ (b : Bool). first_why b kind next) e

-- one that is passed is followed by the next
pub goes_on : (test : Bool) (kind : ScriptWhy) (next : Why) → test ≡ true → first_why test kind next ≡ next
goes_on test kind next e = ap (λ (b : Bool). first_why b kind next) e

pub refused : (test : Bool) (kind : ScriptWhy) (next : Why) (e : Unread) → RefusesTest test kind e → Reports (first_why test kind next) e
refused test kind next (unread.Bad found) h = fails test kind next h.0 ∙ ap (λ (k : ScriptWhy). let w : Why = Some k in w) (sym h.1)
refused test kind next unread.Memory h = tt

-- an error of the tests after those that are passed
pub tells : (before next : Why) (e : Unread) → before ≡ next → Reports next e → Reports before e
tells before next e same h = subst (λ (w : Why). Reports w e) (sym same) h

at_least : (n m : ℕ) → m ≤ n → nat_lt n m ≡ false
at_least n m le = is_false (nat_lt n m) (λ t. let lt = ltb-true n m t in absurd (omega arith))
  where
    is_false : (b : Bool) → (b ≡ true → ⊥) → b ≡ false
    is_false true h = absurd (h refl)
    is_false false h = refl

not_true : (b : Bool) → b ≡ true → not b ≡ false
not_true b e = ap not e

not_false : (b : Bool) → b ≡ false → not b ≡ true
not_false b e = ap not e

pub and_no : (b : Bool) → (b && false) ≡ false
and_no true = refl
and_no false = refl

or_yes : (b : Bool) → (b || true) ≡ true
or_yes true = refl
or_yes false = refl

-- ---- where a line may stand

module _ (p : Progress) (line : TextLine) (last : Option Sort) (is : IsProgress p) (nearest : last ≡ p.last) where
  nearest_is : last_sort (forms_read p) ≡ last
  nearest_is = last_sort-read p is ∙ sym nearest

  pub behind_end : is_end last ≡ true → error_at (forms_read p) line ≡ Some why.End
  behind_end h = fails (not (is_end (last_sort (forms_read p)))) why.End _ (not_true _ (ap is_end nearest_is ∙ h))

  past_end : is_end last ≡ false → error_at (forms_read p) line ≡ error_of_form (forms_read p) (form_of line)
  past_end h = goes_on (not (is_end (last_sort (forms_read p)))) why.End _ (not_false _ (ap is_end nearest_is ∙ h))

  pub no_form_there : is_end last ≡ false → None ≡ form_of line → error_at (forms_read p) line ≡ Some why.Word
  no_form_there e none = past_end e ∙ ap (error_of_form (forms_read p)) (sym none)

  module _ (form : Form) (is_form : Some form ≡ form_of line) where
    follow_is : may_follow (last_sort (forms_read p)) (sort_of form) ≡ may_follow last (sort_of form)
    follow_is = ap (λ (l : Option Sort). may_follow l (sort_of form)) nearest_is

    at_form : is_end last ≡ false → error_at (forms_read p) line ≡ first_why (may_follow (last_sort (forms_read p)) (sort_of form)) why.Word (tests_of (forms_read p) form)
    at_form e = past_end e ∙ ap (error_of_form (forms_read p)) (sym is_form)

    pub elsewhere : is_end last ≡ false → may_follow last (sort_of form) ≡ false → error_at (forms_read p) line ≡ Some why.Word
    elsewhere e f = at_form e ∙ fails (may_follow (last_sort (forms_read p)) (sort_of form)) why.Word _ (follow_is ∙ f)

    pub tests_are : is_end last ≡ false → may_follow last (sort_of form) ≡ true → error_at (forms_read p) line ≡ tests_of (forms_read p) form
    tests_are e f = at_form e ∙ goes_on (may_follow (last_sort (forms_read p)) (sort_of form)) why.Word _ (follow_is ∙ f)

pub follows_here : (p : Progress) (last : Option Sort) (form : Form) (sort : Sort) (follows : Bool) → last ≡ p.last → sort ≡ sort_of form → follows ≡ may_follow last sort → follows ≡ true → may_follow p.last (sort_of form) ≡ true
follows_here p last form sort follows nearest sorted test holds =
    let same : may_follow last sort ≡ may_follow p.last (sort_of form) = λ i. may_follow (nearest i) (sorted i) in
    sym same ∙ sym test ∙ holds

-- ---- plugs, and room for operations

pub open_is : (p : Progress) (lines count units : ℕ) (plugged : Bool) → IsReading p lines plugged count units → is_open (forms_read p) ≡ plugged
open_is p lines count units plugged is = is_open-read p plugged is.rules is.plug

pub is_plugged : (p : Progress) (lines count units : ℕ) (plugged : Bool) (next : Why) → IsReading p lines plugged count units → plugged ≡ true → first_why (not (is_open (forms_read p))) why.Order next ≡ Some why.Order
is_plugged p lines count units plugged next is holds = fails _ why.Order next (not_true _ (open_is p lines count units plugged is ∙ holds))

pub is_unplugged : (p : Progress) (lines count units : ℕ) (plugged : Bool) (next : Why) → IsReading p lines plugged count units → plugged ≡ false → first_why (not (is_open (forms_read p))) why.Order next ≡ next
is_unplugged p lines count units plugged next is denied = goes_on _ why.Order next (not_false _ (open_is p lines count units plugged is ∙ denied))

pub no_room : (p : Progress) (room : Bool) → IsProgress p → room ≡ nat_lt (sum_by length (sections_read p)) max_ops → room ≡ false → op_limit (forms_read p) ≡ Some why.Limit
no_room p room is test denied = fails (nat_lt (count_by is_operation (forms_read p)) max_ops) why.Limit None (ap (λ (n : ℕ). nat_lt n max_ops) (operations-read p is) ∙ sym test ∙ denied)

pub too_many_threads : (p : Progress) (count : ℕ) → IsProgress p → count ≡ length (sections_read p) → max_threads ≤ count → first_why (nat_lt (count_by is_thread (forms_read p)) max_threads) why.Limit None ≡ Some why.Limit
too_many_threads p count is same many = fails (nat_lt (count_by is_thread (forms_read p)) max_threads) why.Limit None (ap (λ (n : ℕ). nat_lt n max_threads) (threads-read p is ∙ sym same) ∙ at_least count max_threads many)

-- ---- devices at the lines after them

-- devices that don't have the disk's blocks together fail
pub not_whole : (p : Progress) (next : Why) (whole : Bool) → IsProgress p → whole ≡ is_whole p → whole ≡ false → device_test (forms_read p) next ≡ Some why.Device
not_whole p next whole is test denied = fails (are_whole (forms_read p)) why.Device next (are_whole-read p is ∙ sym test ∙ denied)

pub goes_on_whole : (p : Progress) (next : Why) (whole : Bool) → IsProgress p → whole ≡ is_whole p → whole ≡ true → device_test (forms_read p) next ≡ next
goes_on_whole p next whole is test holds = goes_on (are_whole (forms_read p)) why.Device next (are_whole-read p is ∙ sym test ∙ holds)

-- ---- the number of a device

pub below_is : (p : Progress) (count : ℕ) (field : List ℕ) → IsProgress p → count ≡ length p.targets → is_number_below (count_by is_device (forms_read p)) field ≡ is_number_below count field
below_is p count field is same = ap (λ (n : ℕ). is_number_below n field) (devices-read p is ∙ sym same)

pub reset_refused : (p : Progress) (count : ℕ) (field : List ℕ) (e : Unread) → IsProgress p → count ≡ length p.targets → RefusesTest (is_number_below count field) why.Number e
    → Reports (first_why (is_number_below (count_by is_device (forms_read p)) field) why.Number (op_limit (forms_read p))) e
reset_refused p count field e is same r =
    refused (is_number_below (count_by is_device (forms_read p)) field) why.Number (op_limit (forms_read p)) e (subst (λ (b : Bool). RefusesTest b why.Number e) (sym (below_is p count field is same)) r)

pub reset_without_room : (p : Progress) (count : ℕ) (field : List ℕ) (room : Bool) → IsProgress p → count ≡ length p.targets → is_number_below count field ≡ true → room ≡ nat_lt (sum_by length (sections_read p)) max_ops → room ≡ false
    → first_why (is_number_below (count_by is_device (forms_read p)) field) why.Number (op_limit (forms_read p)) ≡ Some why.Limit
reset_without_room p count field room is same passes test denied =
    goes_on (is_number_below (count_by is_device (forms_read p)) field) why.Number (op_limit (forms_read p)) (below_is p count field is same ∙ passes) ∙ no_room p room is test denied

-- ---- names

named_below : (key : NamedKey) (keys : List NamedKey) (name : List ℕ) → IsNoName (key ∷ keys) name → IsNoName keys name
named_below key keys name none number named =
    let there : KeyNo = record { 0 = suc number.0 } in
    let within = named.within in
    none there (record { within = omega arith; name_is = named.name_is })

pub others : (keys : List NamedKey) (name : List ℕ) → IsNoName keys name → AllByRecursion (λ (named : NamedKey). named.name ≢ name) keys
others [] name none = tt
others (key ∷ keys) name none = (λ same. none (record { 0 = 0 }) (record { within = omega arith; name_is = sym same }), others keys name (named_below key keys name none))

pub undeclared : (p : Progress) (name : List ℕ) → IsProgress p → IsNoName p.keys name → is_declared name (forms_read p) ≡ false
undeclared p name is none = is_declared-none p name is (others p.keys name none)

pub declared : (p : Progress) (name : List ℕ) (key : KeyNo) → IsProgress p → IsNamed p.keys name key → is_declared name (forms_read p) ≡ true
declared p name key is named = ap (λ (n : List ℕ). is_declared n (forms_read p)) named.name_is ∙ is_declared-read p key is named.within

pub name_taken : (p : Progress) (name : List ℕ) (found : Option KeyNo) (taken : Bool) → IsProgress p → MatchOption found (IsNoName p.keys name) (IsNamed p.keys name) → taken ≡ is_some found → taken ≡ true
    → (is_name name && not (is_declared name (forms_read p))) ≡ false
name_taken p name None taken is h e holds = let denied : false ≡ true = sym e ∙ holds in absurd cc
name_taken p name (Some key) taken is h e holds = ap (λ (b : Bool). is_name name && not b) (declared p name key is h) ∙ and_no (is_name name)

-- ---- a key's line

module _ (above : List Form) (key : KeyForm) where
  abbrev name_test : Bool
  name_test = is_name key.name && not (is_declared key.name above)

  abbrev limit_left : Why
  limit_left = device_test above (first_why (nat_lt (count_by declares_key above) max_keys) why.Limit None)

  abbrev key_left : Why
  key_left = key_test (key_refused key) limit_left

  abbrev digits_left : Why
  digits_left = first_why (is_hex_text 1 128 key.digits) why.Hex key_left

  abbrev dun_left : Why
  dun_left = number_test 0 255 key.dun_bytes digits_left

  abbrev unit_left : Why
  unit_left = number_test 0 4294967295 key.unit dun_left

  past_name : name_test ≡ true → key_tests above key ≡ unit_left
  past_name n = goes_on name_test why.Name unit_left n

  past_unit : name_test ≡ true → is_number 0 4294967295 key.unit ≡ true → key_tests above key ≡ dun_left
  past_unit n u = past_name n ∙ goes_on (is_number 0 4294967295 key.unit) why.Number dun_left u

  past_dun : name_test ≡ true → is_number 0 4294967295 key.unit ≡ true → is_number 0 255 key.dun_bytes ≡ true → key_tests above key ≡ digits_left
  past_dun n u d = past_unit n u ∙ goes_on (is_number 0 255 key.dun_bytes) why.Number digits_left d

  past_digits : name_test ≡ true → is_number 0 4294967295 key.unit ≡ true → is_number 0 255 key.dun_bytes ≡ true → is_hex_text 1 128 key.digits ≡ true → key_tests above key ≡ key_left
  past_digits n u d h = past_dun n u d ∙ goes_on (is_hex_text 1 128 key.digits) why.Hex key_left h

  pub key_unit_refused : (e : Unread) → name_test ≡ true → RefusesTest (is_number 0 4294967295 key.unit) why.Number e → Reports (key_tests above key) e
  key_unit_refused e n r = tells (key_tests above key) unit_left e (past_name n) (refused (is_number 0 4294967295 key.unit) why.Number dun_left e r)

  pub key_dun_refused : (e : Unread) → name_test ≡ true → is_number 0 4294967295 key.unit ≡ true → RefusesTest (is_number 0 255 key.dun_bytes) why.Number e → Reports (key_tests above key) e
  key_dun_refused e n u r = tells (key_tests above key) dun_left e (past_unit n u) (refused (is_number 0 255 key.dun_bytes) why.Number digits_left e r)

  pub key_digits_refused : name_test ≡ true → is_number 0 4294967295 key.unit ≡ true → is_number 0 255 key.dun_bytes ≡ true → is_hex_text 1 128 key.digits ≡ false → key_tests above key ≡ Some why.Hex
  key_digits_refused n u d denied = past_dun n u d ∙ fails (is_hex_text 1 128 key.digits) why.Hex key_left denied

  module _ (raw : List ℕ) (unit dun_bytes : ℕ) (raw_is : raw ≡ bytes_in key.digits) (unit_is : unit ≡ number_in key.unit) (dun_is : dun_bytes ≡ number_in key.dun_bytes) where
    same_key : key_refusal key.mode raw unit dun_bytes ≡ key_refusal key.mode (bytes_in key.digits) (number_in key.unit) (number_in key.dun_bytes)
    same_key = λ i. key_refusal key.mode (raw_is i) (unit_is i) (dun_is i)

    pub no_key : (error : KeyError) → name_test ≡ true → is_number 0 4294967295 key.unit ≡ true → is_number 0 255 key.dun_bytes ≡ true → is_hex_text 1 128 key.digits ≡ true
        → key_refusal key.mode raw unit dun_bytes ≡ Some error → key_tests above key ≡ Some (why.Key error)
    no_key error n u d h e =
        past_digits n u d h ∙ ap (λ (o : Option KeyError). key_test (option_map (λ error. why.Key error) o) limit_left) (sym same_key ∙ e)

    module _ (n : name_test ≡ true) (u : is_number 0 4294967295 key.unit ≡ true) (d : is_number 0 255 key.dun_bytes ≡ true) (h : is_hex_text 1 128 key.digits ≡ true) (e : key_refusal key.mode raw unit dun_bytes ≡ None) where
      past_key_test : key_tests above key ≡ limit_left
      past_key_test = past_digits n u d h ∙ ap (λ (o : Option KeyError). key_test (option_map (λ error. why.Key error) o) limit_left) (sym same_key ∙ e)

      module _ (p : Progress) (whole : Bool) (forms : above ≡ forms_read p) (is : IsProgress p) (test : whole ≡ is_whole p) where
        abbrev room_left : List Form → Why
        room_left forms = first_why (nat_lt (count_by declares_key forms) max_keys) why.Limit None

        pub key_not_whole : whole ≡ false → key_tests above key ≡ Some why.Device
        key_not_whole denied = past_key_test ∙ ap (λ (fs : List Form). device_test fs (room_left fs)) forms ∙ not_whole p (room_left (forms_read p)) whole is test denied

        pub too_many_keys : (count : ℕ) → whole ≡ true → count ≡ length p.keys → max_keys ≤ count → key_tests above key ≡ Some why.Limit
        too_many_keys count holds same many =
            past_key_test
            ∙ ap (λ (fs : List Form). device_test fs (room_left fs)) forms
            ∙ goes_on_whole p (room_left (forms_read p)) whole is test holds
            ∙ fails (nat_lt (count_by declares_key (forms_read p)) max_keys) why.Limit None (ap (λ (n : ℕ). nat_lt n max_keys) (keys-read p is ∙ sym same) ∙ at_least count max_keys many)

-- ---- a device's line

module _ (p : Progress) (form : DeviceForm) (device : Target) (end : ℕ) (is : IsProgress p) (says : SaysDevice form device) (end_is : end ≡ blocks_of p.targets) where
  abbrev devices_left : Why
  devices_left = first_why (nat_lt (count_by is_device (forms_read p)) max_devices) why.Limit None

  abbrev first_left : Why
  first_left = first_why (nat_eq (number_in form.first) (device_blocks_above (forms_read p))) why.Device devices_left

  first_test : nat_eq (number_in form.first) (device_blocks_above (forms_read p)) ≡ nat_eq device.first end
  first_test = λ i. nat_eq (sym says.first_is i) ((device_blocks-read p is ∙ sym end_is) i)

  pub device_elsewhere : device.first ≢ end → device_tests (forms_read p) form ≡ Some why.Device
  device_elsewhere differ =
      says.passes first_left
      ∙ fails (nat_eq (number_in form.first) (device_blocks_above (forms_read p))) why.Device devices_left (first_test ∙ false_from_ne_true (nat_eq device.first end) (λ same. differ (eqb-true device.first end same)))

  pub too_many_devices : (count : ℕ) → device.first ≡ end → count ≡ length p.targets → max_devices ≤ count → device_tests (forms_read p) form ≡ Some why.Limit
  too_many_devices count same length_is many =
      says.passes first_left
      ∙ goes_on (nat_eq (number_in form.first) (device_blocks_above (forms_read p))) why.Device devices_left (first_test ∙ eq-eqb device.first end same)
      ∙ fails (nat_lt (count_by is_device (forms_read p)) max_devices) why.Limit None (ap (λ (n : ℕ). nat_lt n max_devices) (devices-read p is ∙ sym length_is) ∙ at_least count max_devices many)

-- ---- a planned fault's line

module _ (above : List Form) (fault : FaultForm) where
  abbrev fault_limit_left : Why
  fault_limit_left = device_test above (first_why (nat_lt (count_by plans_fault above) max_faults) why.Limit None)

  abbrev order_left : Why
  order_left = first_why (ascends above fault) why.Order fault_limit_left

  abbrev access_left : Why
  access_left = number_test 0 last_access fault.access order_left

  past_shard : is_number 0 last_shard fault.shard ≡ true → fault_tests above fault ≡ access_left
  past_shard s = goes_on (is_number 0 last_shard fault.shard) why.Number access_left s

  past_access : is_number 0 last_shard fault.shard ≡ true → is_number 0 last_access fault.access ≡ true → fault_tests above fault ≡ order_left
  past_access s a = past_shard s ∙ goes_on (is_number 0 last_access fault.access) why.Number order_left a

  pub fault_access_refused : (e : Unread) → is_number 0 last_shard fault.shard ≡ true → RefusesTest (is_number 0 last_access fault.access) why.Number e → Reports (fault_tests above fault) e
  fault_access_refused e s r = tells (fault_tests above fault) access_left e (past_shard s) (refused (is_number 0 last_access fault.access) why.Number order_left e r)

module _ (p : Progress) (fault : FaultForm) (shard access : ℕ) (after : Bool) (is : IsProgress p) (says_shard : SaysNumber 0 last_shard fault.shard shard) (says_access : SaysNumber 0 last_access fault.access access)
    (test : after ≡ follows_faults p.faults (shard, access)) where
  pub after_is : ascends (forms_read p) fault ≡ after
  after_is = ascends-read p fault is ∙ (λ i. follows_faults p.faults (sym says_shard.value i, sym says_access.value i)) ∙ sym test

  pub fault_out_of_order : after ≡ false → fault_tests (forms_read p) fault ≡ Some why.Order
  fault_out_of_order denied = past_access (forms_read p) fault says_shard.passes says_access.passes ∙ fails (ascends (forms_read p) fault) why.Order _ (after_is ∙ denied)

  module _ (whole : Bool) (holds : after ≡ true) (whole_test : whole ≡ is_whole p) where
    abbrev faults_left : Why
    faults_left = first_why (nat_lt (count_by plans_fault (forms_read p)) max_faults) why.Limit None

    past_order : fault_tests (forms_read p) fault ≡ device_test (forms_read p) faults_left
    past_order = past_access (forms_read p) fault says_shard.passes says_access.passes ∙ goes_on (ascends (forms_read p) fault) why.Order _ (after_is ∙ holds)

    pub fault_not_whole : whole ≡ false → fault_tests (forms_read p) fault ≡ Some why.Device
    fault_not_whole denied = past_order ∙ not_whole p faults_left whole is whole_test denied

    pub too_many_faults : (count : ℕ) → whole ≡ true → count ≡ length p.faults → max_faults ≤ count → fault_tests (forms_read p) fault ≡ Some why.Limit
    too_many_faults count is_so same many =
        past_order
        ∙ goes_on_whole p faults_left whole is whole_test is_so
        ∙ fails (nat_lt (count_by plans_fault (forms_read p)) max_faults) why.Limit None (ap (λ (n : ℕ). nat_lt n max_faults) (faults-read p is ∙ sym same) ∙ at_least count max_faults many)

-- ---- the fields of a bio

pub key_passes : (p : Progress) (field : List ℕ) (key : Option KeyNo) → SaysKey p field key → (bytes_eq field dash || is_declared field (forms_read p)) ≡ true
key_passes p field None says = ap (λ (f : List ℕ). bytes_eq f dash || is_declared f (forms_read p)) says
key_passes p field (Some key) says = ap (λ (b : Bool). bytes_eq field dash || b) says.1.passes ∙ or_yes (bytes_eq field dash)

pub number_passes : (field : List ℕ) (number : Option ℕ) → SaysNumberField field number → (bytes_eq field dash || is_number_text field) ≡ true
number_passes field None says = ap (λ (f : List ℕ). bytes_eq f dash || is_number_text f) says
number_passes field (Some n) says = ap (λ (b : Bool). bytes_eq field dash || b) says.1 ∙ or_yes (bytes_eq field dash)

module _ (above : List Form) (bio : BioForm) (next : Why) where
  abbrev key_ok : Bool
  key_ok = bytes_eq bio.key dash || is_declared bio.key above

  abbrev number_ok : Bool
  number_ok = bytes_eq bio.number dash || is_number_text bio.number

  abbrev number_left : Why
  number_left = first_why number_ok why.Number next

  abbrev units_left : Why
  units_left = number_test 0 max_bio_units bio.units number_left

  abbrev sector_left : Why
  sector_left = number_test 0 4294967295 bio.sector units_left

  past_key : key_ok ≡ true → bio_tests above bio next ≡ sector_left
  past_key k = goes_on key_ok why.Name sector_left k

  past_sector : key_ok ≡ true → is_number 0 4294967295 bio.sector ≡ true → bio_tests above bio next ≡ units_left
  past_sector k s = past_key k ∙ goes_on (is_number 0 4294967295 bio.sector) why.Number units_left s

  past_units : key_ok ≡ true → is_number 0 4294967295 bio.sector ≡ true → is_number 0 max_bio_units bio.units ≡ true → bio_tests above bio next ≡ number_left
  past_units k s u = past_sector k s ∙ goes_on (is_number 0 max_bio_units bio.units) why.Number number_left u

  pub bio_passes : key_ok ≡ true → is_number 0 4294967295 bio.sector ≡ true → is_number 0 max_bio_units bio.units ≡ true → number_ok ≡ true → bio_tests above bio next ≡ next
  bio_passes k s u n = past_units k s u ∙ goes_on number_ok why.Number next n

  pub bio_key_refused : (e : Unread) → RefusesTest key_ok why.Name e → Reports (bio_tests above bio next) e
  bio_key_refused e r = refused key_ok why.Name sector_left e r

  pub bio_sector_refused : (e : Unread) → key_ok ≡ true → RefusesTest (is_number 0 4294967295 bio.sector) why.Number e → Reports (bio_tests above bio next) e
  bio_sector_refused e k r = tells (bio_tests above bio next) sector_left e (past_key k) (refused (is_number 0 4294967295 bio.sector) why.Number units_left e r)

  pub bio_units_refused : (e : Unread) → key_ok ≡ true → is_number 0 4294967295 bio.sector ≡ true → RefusesTest (is_number 0 max_bio_units bio.units) why.Number e → Reports (bio_tests above bio next) e
  bio_units_refused e k s r = tells (bio_tests above bio next) units_left e (past_sector k s) (refused (is_number 0 max_bio_units bio.units) why.Number number_left e r)

  pub bio_number_refused : (e : Unread) → key_ok ≡ true → is_number 0 4294967295 bio.sector ≡ true → is_number 0 max_bio_units bio.units ≡ true → RefusesTest number_ok why.Number e → Reports (bio_tests above bio next) e
  bio_number_refused e k s u r = tells (bio_tests above bio next) number_left e (past_units k s u) (refused number_ok why.Number next e r)

-- ---- the limits of a bio

module _ (p : Progress) (bio : BioForm) (fields : BioFields) (sectors : ℕ) (is : IsProgress p) (says : SaysBio p bio fields) (sectors_is : sectors ≡ unit_sectors (bare_keys p.keys) fields.context) where
  pub sectors_are : sectors_under bio.key (forms_read p) ≡ sectors
  sectors_are = ap (λ (k : List ℕ). sectors_under k (forms_read p)) says.key_is ∙ sectors_under-read p fields.context is says.context_is ∙ sym sectors_is

  pub size_is : size_of (forms_read p) bio ≡ fields.units * (512 * sectors)
  size_is = λ i. says.units_in i * (512 * sectors_are i)

  abbrev room_for : Bool
  room_for = nat_le (fields.units * sectors) max_bio_sectors && (nat_le (sum_by unit_count_of_section (sections_read p) + fields.units) max_units && nat_lt (sum_by length (sections_read p)) max_ops)

  limits_are : (a b c : Bool) → first_why a why.Limit (first_why b why.Limit (first_why c why.Limit None)) ≡ first_why (a && (b && c)) why.Limit None
  limits_are true true c = refl
  limits_are true false c = refl
  limits_are false b c = refl

  pub bio_limits_are : bio_limits (forms_read p) bio ≡ first_why room_for why.Limit None
  bio_limits_are =
      (λ i. first_why (nat_le (says.units_in i * sectors_are i) max_bio_sectors) why.Limit (first_why (nat_le (units-read p is i + says.units_in i) max_units) why.Limit (first_why (nat_lt (operations-read p is i) max_ops) why.Limit None)))
      ∙ limits_are (nat_le (fields.units * sectors) max_bio_sectors) (nat_le (sum_by unit_count_of_section (sections_read p) + fields.units) max_units) (nat_lt (sum_by length (sections_read p)) max_ops)

  pub no_room_for : (room : Bool) → room ≡ room_for → room ≡ false → bio_limits (forms_read p) bio ≡ Some why.Limit
  no_room_for room test denied = bio_limits_are ∙ fails room_for why.Limit None (sym test ∙ denied)

  -- ---- the text of a write

  pub text_refused : (text : TextForm) (e : Unread) → RefusesTest (is_text (fields.units * (512 * sectors)) text) why.Hex e → Reports (bio_tests (forms_read p) bio (first_why (is_text (size_of (forms_read p) bio) text) why.Hex (bio_limits (forms_read p) bio))) e
  text_refused text e r =
      let left = first_why (is_text (size_of (forms_read p) bio) text) why.Hex (bio_limits (forms_read p) bio) in
      tells (bio_tests (forms_read p) bio left) left e (says.passes left)
      (refused (is_text (size_of (forms_read p) bio) text) why.Hex (bio_limits (forms_read p) bio) e (subst (λ (size : ℕ). RefusesTest (is_text size text) why.Hex e) (sym size_is) r))

  pub write_without_room : (text : TextForm) (room : Bool) → is_text (fields.units * (512 * sectors)) text ≡ true → room ≡ room_for → room ≡ false
      → bio_tests (forms_read p) bio (first_why (is_text (size_of (forms_read p) bio) text) why.Hex (bio_limits (forms_read p) bio)) ≡ Some why.Limit
  write_without_room text room passes test denied =
      says.passes _ ∙ goes_on (is_text (size_of (forms_read p) bio) text) why.Hex _ (ap (λ (size : ℕ). is_text size text) size_is ∙ passes) ∙ no_room_for room test denied
