use Rattle.std.proofs.Common.{List, [], ◌∷◌, ◌++◌, ◌∙◌, map, flat_map, ap, ℕ}
use Rattle.bc_text.specs.Lines.{lines_text}
use Rattle.bc_script.specs.declared.named_key.NamedKey.{NamedKey}
use Rattle.bc_script.specs.ScriptText.{head_lines, key_line, fault_line, section_lines, end_line}
use Rattle.bc_script.proofs.Printed.{all_parts}
use Rattle.bc_script.proofs.printing.print.Goals as goal

pub returns : goal.returns
returns c =
    let s = c.args.script.now in
    let head = c.put_head.new.text.items in
    let keys = c.put_keys.new.text.items in
    let faults = c.put_faults.new.text.items in
    let sections = c.put_sections.new.text.items in
    record {
      text = all_parts head keys faults sections c.extend_from_slice.new.self.items (head_lines s) (map key_line s.keys) (map fault_line s.faults) (flat_map (section_lines s.keys) s.threads) (end_line ∷ [])
          (c.in_ok-put_head.ensures ∙ ap (λ (t : List ℕ). t ++ lines_text (head_lines s)) c.new-text.ensures.items)
          (c.in_ok-put_keys.ensures ∙ ap (λ (ks : List NamedKey). head ++ lines_text (map key_line ks)) c.keys.ensures.value)
          (c.in_ok-put_faults.ensures ∙ ap (λ (fs : List (ℕ × ℕ)). keys ++ lines_text (map fault_line fs)) c.faults.ensures.value)
          (c.in_ok-put_sections.ensures ∙ (λ i. faults ++ lines_text (flat_map (section_lines (c.keys-2.ensures.value i)) (c.threads.ensures.value i))))
          c.in_ok-extend_from_slice.ensures.items;
    }
