use Rattle.descriptor_manager.proofs.Common.{◌≡◌, ℕ, ◌==◌, ◌∙◌, if◌then◌else◌, [], ◌∷◌, refl, sym, length, ap, arith, length-append, items_of, item_of, count_of, count_parts, ids_of, whole, DescriptorSet, IsOfLayout, ComesOf, subst, slots_of}
use Rattle.gpu_descriptor.specs.Caller.Call.{layout_key}
use Rattle.descriptor_manager.proofs.Given.{id_stays, last_of, last_out, put_count}
use Rattle.descriptor_manager.proofs.Handing.{new_one, put_comes, put_grows}
use Rattle.descriptor_manager.proofs.Owned.{if_here}
use Rattle.descriptor_manager.proofs.store.Store.hold_last.Goals as goal

pub of-id-requires : goal.of-id-requires
of-id-requires g c =
    let s = c.args.self.now in
    let d = g.D.DescriptorDevice in
    let below = c.outstanding.ensures.numbers d.meaning.pool_name (d.ledger s.device) (item_of d.meaning.set_name c.in-Some.set) (last_out s c.pop.new.self.items c.in-Some.set c.in-Some.ensures.items) in
    omega arith

pub invariant_of-self : goal.invariant_of-self
invariant_of-self g c =
    let s = c.args.self.now in
    let name = g.D.DescriptorDevice.meaning.set_name in
    let x = c.in-Some.set in
    let e = c.put.ensures in
    let parts = c.of-id.ensures in
    let ids = ids_of c.put.new.self in
    let more : (n : ℕ) → ids n ≡ (if n == c.args.layout then x.id else ids_of s.table n) = λ n. e.ids n ∙ ap (λ (x : DescriptorSet g.row.S.Denot). if n == c.args.layout then x.id else ids_of s.table n) parts in
    let last = c.in-Some.ensures.items in
    let keyed = c.requires.known in
    let key = (last_of g.D.DescriptorDevice.meaning keyed.0 c.pop.new.self.items x s.coming.items last keyed.1).1 in
    let same = id_stays s c.pop.new.self.items x last keyed.0 c.args.layout ids more key keyed.2 in
    let is = ap (λ i. whole (i, c.of-id.result.1)) (more c.args.layout ∙ if_here c.args.layout c.args.layout x.id (ids_of s.table c.args.layout) refl ∙ sym (ap (λ (x : DescriptorSet g.row.S.Denot). x.id) parts)) ∙ parts in
    let count = put_count name ids c.args.layout c.of-id.result.1 x s.table.number (g.N.SetName.handle_of c.put.result).place c.args.used (g.N.SetName.handle_of c.put.result) (slots_of s.table) e.puts.0 (slots_of c.put.new.self) is e.puts.1 e.puts.2 in
    record {
      agree = s.agree;
      exact = λ t. omega (arith, count.0 t, ap (λ l. count_of t (items_of name l)) same, ap (λ l. count_of t (items_of name l)) last, count_parts name c.pop.new.self.items (x ∷ []) t, s.exact t);
      accounted = omega (arith, count.1, ap length same, ap length last, length-append c.pop.new.self.items (x ∷ []), s.accounted);
    }

pub returns-clause-holds : goal.returns-clause-holds
returns-clause-holds g c = new_one _ _ _ _ _ _ _ _ _ c.put.ensures.puts.1 c.put.ensures.puts.2

pub returns-clause-keeps : goal.returns-clause-keeps
returns-clause-keeps g c = λ known own.
    let s = c.args.self.now in
    let e = c.put.ensures in
    let means = g.D.DescriptorDevice.meaning in
    let of = subst (λ (x : DescriptorSet g.row.S.Denot). IsOfLayout means known x.raw × (x.key.is ≡ layout_key means known)) (sym c.of-id.ensures) (last_of means known c.pop.new.self.items c.in-Some.set s.coming.items c.in-Some.ensures.items own) in
    record {
      side = refl;
      sets = put_comes _ _ _ _ (ComesOf means known c.args.layout) c.args.layout _ _ _ _ e.puts.1 e.puts.2 (refl, of);
      grows = put_grows _ _ _ _ c.args.layout _ _ _ _ c.requires.live e.puts.1 e.puts.2 e.grows;
      stays = record { settings = e.settings; limit = refl; bound = refl; besides = refl };
    }
