use Rattle.bc_queue.proofs.PlugLaws.{spare_of_last, joined_if, apart_if}
use Rattle.bc_queue.proofs.plug.join_last.Goals as goal

pub push_back-joined-requires-clause-spare : goal.push_back-joined-requires-clause-spare
push_back-joined-requires-clause-spare c = spare_of_last c.args.requests.now.items c.pop.new.self.items c.in-Some.last c.in-Some.ensures.items c.requires.waiting c.requires.few

pub returns-clause-joined : goal.returns-clause-joined
returns-clause-joined c =
    joined_if c.push_back-joined.result c.args.keys.now.keys c.args.requests.now.items c.push_reserved.new.self.items c.pop.new.self.items c.in-Some.last c.push_back-joined.new.self c.args.bio
    c.in-Some.ensures.items c.push_reserved.ensures.items c.push_back-joined.ensures.ok c.push_back-joined.ensures.joins
    (spare_of_last c.args.requests.now.items c.pop.new.self.items c.in-Some.last c.in-Some.ensures.items c.requires.waiting c.requires.few)
    c.requires.waiting c.requires.requests c.push_back-joined.ensures.still

pub returns-clause-apart : goal.returns-clause-apart
returns-clause-apart c =
    apart_if c.push_back-joined.result c.args.keys.now.keys c.args.requests.now.items c.pop.new.self.items c.in-Some.last c.args.bio c.in-Some.ensures.items c.push_back-joined.ensures.joins
