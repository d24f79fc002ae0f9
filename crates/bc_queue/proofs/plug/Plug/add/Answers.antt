use Rattle.std.proofs.Common.{List, ap, ◌∙◌}
use Rattle.bc_bio.specs.Chunks.{chunks_and}
use Rattle.bc_bio.specs.Windows.{joins}
use Rattle.bc_bio.specs.Requests.{RequestParts, tagged_of}
use Rattle.bc_queue.specs.Plugs.{PlugParts, tagged_requests}
use Rattle.bc_queue.proofs.PlugLaws.{window_more}
use Rattle.bc_queue.proofs.plug.Plug.add.Goals as goal

pub returns-clause-window : goal.returns-clause-window
returns-clause-window c =
    window_more c.args.keys.now.keys c.args.self.now.requests c.put.new.requests.items c.args.bio
    (c.put.ensures.added.merges ∙ ap (λ (p : PlugParts). chunks_and (joins c.args.keys.now.keys) (tagged_requests p.requests) (tagged_of c.args.bio)) c.self.view_is)
