use Rattle.std.proofs.Common.{◌≡◌, ℕ, ◌<◌, true, List, Option, Some, None, refl, subst, sym, ap, ◌∙◌}
use Rattle.std.specs.Prelude.{IsSomeAnd, slice_get}
use Rattle.bc_key.specs.KeyData.{KeyData}
use Rattle.bc_key.specs.KeyList.{KeyList, key_at}
use Rattle.bc_modes.specs.Capabilities.{is_supported}
use Rattle.bc_bio.specs.declared.context.Context.{Context}
use Rattle.bc_bio.specs.Windows.{NamedUnit, units_of_request}
use Rattle.bc_bio.specs.Requests.{tagged_bios}
use Rattle.bc_queue.specs.RequestUnits.{named_at}
use Rattle.bc_queue.proofs.Queues.{first_context, named_is, no_context, key_within, one_key}
use Rattle.bc_queue.proofs.queue.Queue.first_unit.Goals as goal

pub unreachable-requires : goal.unreachable-requires
unreachable-requires g c =
    let keys : c.keys.result.now ≡ c.args.self.now.medium.keys = c.keys.ensures ∙ ap (λ q. q.medium.keys) c.self.view_is in
    let unit : NamedUnit = record { tag = c.unit_at-tag.result.0; unit = c.unit_at-tag.result.1; sector = c.unit_at-tag.result.2; context = c.unit_at-tag.result.3 } in
    let named : named_at c.args.self.now.medium.keys.keys c.args.request.now.bios c.args.first ≡ unit = named_is c.args.self.now.medium.keys.keys c.args.request.now.bios c.args.first unit (subst (λ (ks : KeyList). slice_get (units_of_request ks.keys (tagged_bios c.args.request.now.bios)) c.args.first ≡ Some unit) keys c.unit_at-tag.ensures.unit) in
    no_context c.args.self.now.medium.keys.keys (named_at c.args.self.now.medium.keys.keys c.args.request.now.bios c.args.first).context (λ d. IsSomeAnd (key_at c.args.self.now.medium.keys.keys d.key) (λ key. is_supported c.controller-controller.result.now.caps key.config ≡ true)) (ap (λ (u : NamedUnit). u.context) named ∙ c.in_default.is)
    (first_context g.S.Store.owns c.args.self.now c.args.device c.controller-controller.result.now c.args.request.now.bios c.args.first c.args.count c.controller-controller.ensures.at c.requires.units c.requires.some)

pub returns-clause-key : goal.returns-clause-key
returns-clause-key g c =
    let keys : c.keys.result.now ≡ c.args.self.now.medium.keys = c.keys.ensures ∙ ap (λ q. q.medium.keys) c.self.view_is in
    let unit : NamedUnit = record { tag = c.unit_at-tag.result.0; unit = c.unit_at-tag.result.1; sector = c.unit_at-tag.result.2; context = c.unit_at-tag.result.3 } in
    let named : named_at c.args.self.now.medium.keys.keys c.args.request.now.bios c.args.first ≡ unit = named_is c.args.self.now.medium.keys.keys c.args.request.now.bios c.args.first unit (subst (λ (ks : KeyList). slice_get (units_of_request ks.keys (tagged_bios c.args.request.now.bios)) c.args.first ≡ Some unit) keys c.unit_at-tag.ensures.unit) in
    key_within c.args.self.now.medium.keys.keys (named_at c.args.self.now.medium.keys.keys c.args.request.now.bios c.args.first).context c.in-Some.context (λ key. is_supported c.controller-controller.result.now.caps key.config ≡ true) (ap (λ (u : NamedUnit). u.context) named ∙ c.in-Some.is)
    (first_context g.S.Store.owns c.args.self.now c.args.device c.controller-controller.result.now c.args.request.now.bios c.args.first c.args.count c.controller-controller.ensures.at c.requires.units c.requires.some)

pub returns-clause-under : goal.returns-clause-under
returns-clause-under g c =
    let keys : c.keys.result.now ≡ c.args.self.now.medium.keys = c.keys.ensures ∙ ap (λ q. q.medium.keys) c.self.view_is in
    let unit : NamedUnit = record { tag = c.unit_at-tag.result.0; unit = c.unit_at-tag.result.1; sector = c.unit_at-tag.result.2; context = c.unit_at-tag.result.3 } in
    let named : named_at c.args.self.now.medium.keys.keys c.args.request.now.bios c.args.first ≡ unit = named_is c.args.self.now.medium.keys.keys c.args.request.now.bios c.args.first unit (subst (λ (ks : KeyList). slice_get (units_of_request ks.keys (tagged_bios c.args.request.now.bios)) c.args.first ≡ Some unit) keys c.unit_at-tag.ensures.unit) in
    one_key g.S.Store.owns c.args.self.now.medium c.controller-controller.result.now.caps c.args.request.now.bios c.args.first c.args.count c.in-Some.context c.requires.request (ap (λ (u : NamedUnit). u.context) named ∙ c.in-Some.is) (c.requires.units c.controller-controller.result.now c.controller-controller.ensures.at)
