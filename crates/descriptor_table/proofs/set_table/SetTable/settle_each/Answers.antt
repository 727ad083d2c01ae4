use Rattle.descriptor_table.proofs.Common.{Settings, ◌≡◌, ◌∙◌, ℕ, false, is_some, sym, ap, in_list, is_in, no_slot, slot_at, HasTaken, removed_of, next_use, slots_of, used_for, Taken}
use Rattle.std.proofs.lemmas.List.{set-get_or}
use Rattle.descriptor_table.proofs.Listed.{with_use}
use Rattle.descriptor_table.proofs.Named.{each_turned, next_taken, next_turned}
use Rattle.descriptor_table.proofs.Turning.{settled_grows, settled_here, settled_set, stays_more}
use Rattle.descriptor_table.proofs.set_table.SetTable.settle_each.Goals.{After-handle}
use Rattle.descriptor_table.proofs.set_table.SetTable.settle_each.Goals as goal

-- the call still has its set
has : (g : _) (c : After-handle g) → HasTaken c.handle.result.place (slots_of c.loop-index.self)
has g c = next_taken g.N.SetName g.met.N.SetName.each c.args.names.now _ _ _ _ c.loop-index.invariant.first c.index-names-index.result c.handle.result c.loop-index-test.true c.index-names-index.is c.handle.ensures c.requires.apart c.requires.taken

pub settle-requires : goal.settle-requires
settle-requires g c = has g (goal.at.settle-requires g c).After-handle

pub loop-index-preserved : goal.loop-index-preserved
loop-index-preserved g c =
    let d = (goal.at.loop-index-preserved g c).After-handle in
    let inv = c.loop-index.invariant in
    let s = c.args.self.now in
    let now = slots_of c.loop-index.self in
    let new = slots_of c.settle.new.self in
    let p = c.handle.result.place in
    let taken = has g d in
    let out : (k : ℕ) → is_in k (slot_at now p) ≡ false = (λ k. ap (λ u. in_list k u (slot_at now p).layout (slot_at now p).generation (is_some (slot_at now p).set)) taken.taken) in
    let same : now ≡ with_use p Taken now = sym (ap (λ u. with_use p u now) (sym taken.taken) ∙ set-get_or now p no_slot) in
    let made = c.settle.ensures.slots ∙ ap (λ (s : Settings). with_use p (next_use s.removed s.keep now p) now) inv.stays.settings in
    let u = next_use (removed_of s) s.keep now p in
    record {
      first =
          next_turned g.N.SetName g.met.N.SetName.each _ _ _ _ _ inv.first c.index-names-index.result c.handle.result c.loop-index-test.true c.index-names-index.is c.handle.ensures c.requires.apart (used_for u (slot_at now p)) new taken.within
          (settled_set (removed_of s) s.keep now now new p taken.within out Taken tt same made)
          (settled_grows (removed_of s) s.keep now now new p taken.within out Taken tt same made)
          (settled_here (removed_of s) s.keep now now new p taken.within out Taken tt same made);
      stays = stays_more s c.loop-index.self c.settle.new.self inv.stays c.settle.ensures.stays;
    }

pub returns : goal.returns
returns g c = record { slots = each_turned g.N.SetName g.met.N.SetName.each _ _ _ _ _ c.loop-index.invariant.first c.loop-index-test.false c.loop-index.auto.index-end; stays = c.loop-index.invariant.stays }
