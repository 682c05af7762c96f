-- `network::put::put_container_head`: four stores in a row. Assumes nothing.
use Rattle.network.proofs.PutLaws.{head_put}
use Rattle.network.proofs.put.put_container_head.Goals as goal

pub returns : goal.returns
returns c =
    let a = c.args in
    head_put a.kind a.code a.number a.count c.requires c.store-a.ensures c.store-b.ensures c.store-c.ensures c.store.ensures
