use Rattle.descriptor_table.proofs.Common.{refl, ◌∙◌, sym, nexts_in, slots_in, waits, walk}
use Rattle.descriptor_table.proofs.Counting.{walk_length}
use Rattle.descriptor_table.proofs.Counts.{listed_count}
use Rattle.descriptor_table.proofs.set_table.SetTable.waiting_total.Goals as goal

pub returns : goal.returns
returns g c = let s = c.args.self.now in c.from.ensures ∙ sym (walk_length s.waiting.list.count (nexts_in s.slots) s.waiting.list.first) ∙ listed_count waits (slots_in s.slots) (walk s.waiting.list.count (nexts_in s.slots) s.waiting.list.first) refl s.sound.queue.has
