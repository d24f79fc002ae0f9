-- Calls one after the other: how the orders grow, and which units were attempted.
use Rattle.std.proofs.Common.{◌≡◌, ℕ, List, [], ◌++◌, append-nil, append_assoc, sym, ap, ◌∙◌}
use Rattle.std.specs.Prelude.{◌==◌, filter}
use Rattle.std.proofs.lemmas.Bool.{eq-eqb}
use Rattle.std.proofs.lemmas.List.Elements.{filter-append}
use Rattle.bc_base.specs.Lists.{list_at}
use Rattle.bc_base.specs.Story.{own}
use Rattle.bc_medium.specs.declared.entry.Entry.{Entry}
use Rattle.bc_medium.specs.Entries.{caller_of}
use Rattle.bc_medium.specs.Growth.{lies_in, Grows}
use Rattle.bc_section.specs.Sections.{GoOnBy}
use Rattle.bc_section.proofs.Lists.{filter_all}
use Rattle.bc_base.proofs.Members.{In, in_of_filter}

-- ---- orders

module _ (shards caller : ℕ) where
  pub goes_none : (fronts : List (List Entry)) → GoOnBy shards fronts fronts []
  goes_none fronts shard = sym (append-nil (list_at fronts shard))

  pub goes_append : (a b c : List (List Entry)) (es fs : List Entry) → GoOnBy shards a b es → GoOnBy shards b c fs → GoOnBy shards a c (es ++ fs)
  goes_append a b c es fs p q shard =
      q shard ∙ ap (λ l. l ++ filter (lies_in shards shard) fs) (p shard)
      ∙ append_assoc (list_at a shard) (filter (lies_in shards shard) es) (filter (lies_in shards shard) fs)
      ∙ ap (λ l. list_at a shard ++ l) (sym (filter-append (lies_in shards shard) es fs))

  -- where nothing else comes between, all that was added is the caller's own
  pub grows_alone : (a b : List (List Entry)) (es : List Entry) → ((e : Entry) → In e es → caller_of e ≡ caller) → GoOnBy shards a b es → Grows shards caller a b es
  grows_alone a b es mine goes = record {
    fronts = λ shard. (filter (lies_in shards shard) es, goes shard);
    own_entries = λ shard within.
        ap (own caller_of caller) (goes shard)
        ∙ filter-append (λ e. caller_of e == caller) (list_at a shard) (filter (lies_in shards shard) es)
        ∙ ap (λ l. own caller_of caller (list_at a shard) ++ l)
        (filter_all (λ e. caller_of e == caller) (filter (lies_in shards shard) es)
        (λ e at. eq-eqb (caller_of e) caller (mine e (in_of_filter (lies_in shards shard) es e at).0)));
  }

-- ---- attempts
