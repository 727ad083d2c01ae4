use Rattle.descriptor_table.proofs.Common.{common_steps, ◌≤◌, ◌+◌, arith, get_or_past, length-map, cases_eq, cases_lt, slots_of, chains_in}
use Rattle.descriptor_table.proofs.Counts.{chain_counts}
use Rattle.descriptor_table.proofs.Turning.{stays_more, trim_more, trim_others}
use Rattle.descriptor_table.proofs.set_table.SetTable.trim.Goals as goal

pub loop-layout-preserved : goal.loop-layout-preserved
loop-layout-preserved g c =
    let inv = c.loop-layout.invariant in
    let k = c.loop-layout.layout in
    let old = slots_of c.args.self.now in
    let now = slots_of c.loop-layout.self in
    let new = slots_of c.trim_layout.new.self in
    let e = c.trim_layout.ensures in
    let two : 2 ≤ k + 2 = omega arith in
    record {
      turning = trim_more (k + 2) two now new e.turns.slots old inv.turning;
      few = λ j lt. grind (arith, cases_eq j k, e.few, trim_others (k + 2) two now new e.turns.slots (j + 2), inv.few j);
      enough = λ j. grind (arith, cases_eq j k, e.as_many, trim_others (k + 2) two now new e.turns.slots (j + 2), inv.enough j);
      stays = stays_more c.args.self.now c.loop-layout.self c.trim_layout.new.self inv.stays e.turns.stays;
    }

-- no set of a layout past the last is kept
pub returns-clause-few : goal.returns-clause-few
returns-clause-few g c = λ n. (let s = c.loop-layout.self in grind (arith, common_steps, cases_lt n c.loop-layout.layout, c.loop-layout.invariant.few n, chain_counts s (n + 2), get_or_past (chains_in s.lists) (n + 2) (record { first = 0; count = 0 }), length-map))
