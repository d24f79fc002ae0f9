use Rattle.std.proofs.Common.{◌≡◌, List, [], ◌∷◌, ◌++◌, subst, ap, ◌∙◌, arith, vec_len}
use Rattle.std.specs.List.{AllByRecursion}
use Rattle.bc_bio.specs.declared.bio.Bio.{Bio}
use Rattle.bc_bio.specs.Requests.{RequestParts, with_bio}
use Rattle.bc_queue.specs.Plugs.{IsReady}
use Rattle.bc_queue.proofs.PlugLaws.{few_requests, last_of_all, started}
use Rattle.bc_queue.proofs.plug.put.Goals as goal

pub unreachable-requires : goal.unreachable-requires
unreachable-requires c =
    let few = few_requests c.args.requests.now.items c.requires.waiting in
    let none : vec_len c.args.ready.now ≡ 0 = c.in_default-pop.ensures.cases.0 in
    let all = c.requires.ready.all in
    omega (arith, few, none, all, c.args.ready.now.ok.0, c.requires.few)

pub start-requires-clause-empty : goal.start-requires-clause-empty
start-requires-clause-empty c =
    (last_of_all IsReady c.pop.new.self.items c.in-Some.request (subst (λ (rs : List RequestParts). AllByRecursion IsReady rs) c.in-Some.ensures.items c.requires.ready.are_ready)).empty

pub start-requires-clause-spare : goal.start-requires-clause-spare
start-requires-clause-spare c =
    let ready = last_of_all IsReady c.pop.new.self.items c.in-Some.request (subst (λ (rs : List RequestParts). AllByRecursion IsReady rs) c.in-Some.ensures.items c.requires.ready.are_ready) in
    let room = ready.room in
    omega (arith, room)

pub returns-clause-added : goal.returns-clause-added
returns-clause-added c =
    let ready = last_of_all IsReady c.pop.new.self.items c.in-Some.request (subst (λ (rs : List RequestParts). AllByRecursion IsReady rs) c.in-Some.ensures.items c.requires.ready.are_ready) in
    started c.args.keys.now.keys c.args.requests.now.items c.push_reserved.new.self.items c.in-Some.request c.start.new.self c.args.bio
    (c.push_reserved.ensures.items ∙ ap (λ rs. rs ++ c.start.new.self ∷ []) c.in-Err.ensures.err)
    (c.start.ensures ∙ ap (λ (b : Bio). with_bio b c.in-Some.request) c.in-Err.ensures.back)
    ready c.in-Err.ensures.apart c.requires.placed c.requires.waiting c.requires.requests
