-- The keyslots of a script's devices as they are opened, and as they are closed.
use Rattle.std.proofs.Common.{◌≡◌, ℕ, zero, suc, ◌<◌, List, [], ◌∷◌, length, map, refl, sym, ap, subst, ◌∙◌, arith, Option, None}
use Rattle.std.specs.Prelude.{replicate}
use Rattle.std.specs.List.{AllByRecursion}
use Rattle.std.proofs.lemmas.Option.{same_Some}
use Rattle.std.proofs.lemmas.List.{append-nil, length-map, length-replicate}
use Rattle.bc_base.specs.Lists.{Each, At, AllAt, list_at}
use Rattle.bc_modes.specs.Capabilities.{Capabilities, capabilities_of}
use Rattle.bc_stack.specs.declared.target.Target.{Target}
use Rattle.bc_profile.specs.SlotJournal.{IsLawful}
use Rattle.bc_profile.specs.Solo.{SoloData, opened_solo}
use Rattle.bc_report.specs.LawfulRun.{HaveLawfulJournals}
use Rattle.bc_report.specs.Report.{IsEvent, IsPart}
use Rattle.bc_script.specs.Script.{Script, IsScript}
use Rattle.bc_stack.specs.Targets.{StackParts}
use Rattle.bc_serial.specs.Keyslots.{SlotCipherData, MeansItsWords, IsKeyslotsOf, IsKeyslots, journal_in, rows_of, max_events}
use Rattle.bc_section.proofs.Lists.{at_of_map}
use Rattle.bc_serial.proofs.KeptSlots.{free_is, free_journal, device_of}
use Rattle.bc_base.proofs.Members.{map-map}

-- ---- opening

-- a device as it is opened
abbrev pub opened_device : Script → Target → SoloData
opened_device script target = opened_solo target.slots (rows_of script target) max_events

-- no cipher for each of its slots
abbrev pub no_ciphers_of : Target → List (Option SlotCipherData)
no_ciphers_of target = replicate target.slots None

each_none : (P : Option SlotCipherData → Type 0) (n : ℕ) → P None → AllByRecursion P (replicate n None)
each_none P zero is = tt
each_none P (suc n) is = (is, each_none P n is)

pub opens : (script : Script) (stack : StackParts) (caps : List Capabilities) (devices : List SoloData) (ciphers : List (List (Option SlotCipherData))) → IsScript script
    → stack ≡ record { targets = script.targets; blocks = script.blocks } → caps ≡ map (λ target. capabilities_of target.caps) script.targets → devices ≡ map (opened_device script) script.targets
    → ciphers ≡ map no_ciphers_of script.targets → IsKeyslots script stack caps devices ciphers devices None
opens script stack caps devices ciphers rules stack_is caps_are devices_are ciphers_are = record {
  rules = rules;
  stack_is = stack_is;
  caps_are = caps_are;
  count = ap length devices_are ∙ length-map script.targets (opened_device script);
  each = λ k target target_at solo solo_at.
      let made = at_of_map (opened_device script) script.targets k solo (subst (λ l. At l k solo) devices_are solo_at) in
      let same : made.0 ≡ target = same_Some made.0 target (sym made.1 ∙ target_at) in
      subst (IsKeyslotsOf script None k target) (ap (opened_device script) (sym same) ∙ made.2)
      (record { count = refl; rows = refl; quota = refl; held = refl; within = omega arith; ranges = tt; lawful = tt });
  cipher_count = ap length ciphers_are ∙ length-map script.targets no_ciphers_of;
  each_ciphers = λ k target target_at kept kept_at.
      let made = at_of_map no_ciphers_of script.targets k kept (subst (λ l. At l k kept) ciphers_are kept_at) in
      let same : made.0 ≡ target = same_Some made.0 target (sym made.1 ∙ target_at) in
      subst (λ l. (length l ≡ target.slots) × Each (MeansItsWords (capabilities_of target.caps)) l) (ap no_ciphers_of (sym same) ∙ made.2)
      (length-replicate {A = Option SlotCipherData} target.slots None, each_none (MeansItsWords (capabilities_of target.caps)) target.slots tt);
  begun_count = refl;
  begins = λ k. ([], sym (append-nil (list_at (map journal_in devices) k)));
  open_is = tt;
}

-- no journal has an event
pub unused : (script : Script) (devices : List SoloData) → devices ≡ map (opened_device script) script.targets → map journal_in devices ≡ map (λ target. []) script.targets
unused script devices is = ap (map journal_in) is ∙ map-map (opened_device script) journal_in script.targets

-- ---- closing

free_journals : (devices : List SoloData) → ((k : ℕ) (solo : SoloData) → At devices k solo → solo.held ≡ None) → map (λ solo. solo.journal) devices ≡ map journal_in devices
free_journals [] free = refl
free_journals (solo ∷ devices) free =
    ap (λ j. j ∷ map (λ (s : SoloData). s.journal) devices) (sym (free_journal solo (free 0 solo refl)))
    ∙ ap (λ l. journal_in solo ∷ l) (free_journals devices (λ k other at. free (suc k) other at))

module _ (script : Script) (stack : StackParts) (caps : List Capabilities) (devices : List SoloData) (ciphers : List (List (Option SlotCipherData))) (begun : List SoloData) (is : IsKeyslots script stack caps devices ciphers begun None) where
  pub closed_journals : map (λ solo. solo.journal) devices ≡ map journal_in devices
  closed_journals = free_journals devices (λ k solo at. free_is script stack caps devices ciphers begun is k solo at)

  pub closed_lawful : HaveLawfulJournals script.targets (map journal_in devices)
  closed_lawful = zipped script.targets devices is.count (λ k target target_at solo at. (is.each k target target_at solo at).count) (λ k target target_at solo at. (is.each k target target_at solo at).lawful)
    where
      zipped : (targets : List Target) (solos : List SoloData) → length solos ≡ length targets → ((k : ℕ) → AllAt targets k (λ t. AllAt solos k (λ s. s.count ≡ t.slots)))
          → ((k : ℕ) → AllAt targets k (λ t. AllAt solos k (λ s. IsLawful s.count (journal_in s)))) → HaveLawfulJournals targets (map journal_in solos)
      zipped [] [] long counts lawful = tt
      zipped [] (s ∷ solos) long counts lawful = absurd (omega arith)
      zipped (t ∷ targets) [] long counts lawful = absurd (omega arith)
      zipped (t ∷ targets) (s ∷ solos) long counts lawful =
          (subst (λ n. IsLawful n (journal_in s)) (counts 0 t refl s refl) (lawful 0 t refl s refl), zipped targets solos (omega arith) (λ k. counts (suc k)) (λ k. lawful (suc k)))

  pub closed_ranges : Each (IsPart IsEvent) (map journal_in devices)
  closed_ranges = go devices (λ k solo at. let of = (device_of script stack caps devices ciphers begun None k solo is at).2 in record { count = let few = of.within in let small : length (journal_in solo) < 4294967296 = omega (arith, few) in small; each = of.ranges })
    where
      go : (solos : List SoloData) → ((k : ℕ) (solo : SoloData) → At solos k solo → IsPart IsEvent (journal_in solo)) → Each (IsPart IsEvent) (map journal_in solos)
      go [] all = tt
      go (s ∷ solos) all = (all 0 s refl, go solos (λ k solo at. all (suc k) solo at))
