use Rattle.lilmorask_store.proofs.SlotLaws.{slot_put}
use Rattle.lilmorask_store.proofs.put_slot.Goals as goal

pub returns : goal.returns
returns c =
    slot_put c.args.generation c.args.image.now c.requires.1 c.put_text-p.ensures c.put_four-q.ensures c.sum-sum.ensures c.put_four-r.ensures c.put_byte.ensures
