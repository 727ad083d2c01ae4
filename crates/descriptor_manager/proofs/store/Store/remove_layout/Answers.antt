use Rattle.descriptor_manager.proofs.Common.{true, ◌∙◌, ap, sym, subst, arith, List, items_of, count_of, DescriptorSet, filter_map, whole_in, whole_sets, ◌≡◌, is_kept_of, Settings, Turns, Becomes, removed_as, slots_of, vacated, side_of, slots_in}
use Rattle.descriptor_table.specs.Slots as table
use Rattle.descriptor_manager.proofs.Joining.{layout_stays}
use Rattle.descriptor_manager.proofs.store.Store.remove_layout.Goals.{After-remove_layout}
use Rattle.descriptor_manager.proofs.store.Store.remove_layout.Goals as goal

turns : (g : _) (c : After-remove_layout g) → Turns (is_kept_of c.args.layout) (Becomes vacated) (slots_in c.args.self.now) (slots_of c.remove_layout.new.self)
turns g c = subst (λ v. Turns (is_kept_of c.args.layout) (Becomes vacated) (slots_in c.args.self.now) (table.slots_in v)) (sym c.remove_layout.ensures.slots) c.give.ensures.frees.turns

pub remove_layout-requires-clause-layout : goal.remove_layout-requires-clause-layout
remove_layout-requires-clause-layout g c = layout_stays _ _ _ c.give.ensures.stays.settings c.requires.layout

-- no set of the layout is kept any more
pub returns-clause-removes : goal.returns-clause-removes
returns-clause-removes g c =
    record {
      turns = turns g (goal.at.returns-clause-removes g c).After-remove_layout;
      removed = ap (λ (s : Settings). s.removed) c.remove_layout.ensures.settings ∙ ap (λ (s : Settings). removed_as true c.args.layout s.removed) c.give.ensures.stays.settings;
      mid = side_of c.give.new.self;
      back = c.give.ensures.frees.back;
      trims = c.trim_layout.ensures.trims;
      gave = λ t. (
          let coming = λ (l : List (DescriptorSet g.row.S.Denot)). count_of t (items_of g.D.DescriptorDevice.meaning.set_name l) in
          let none = ap coming (ap (λ v. v.items) c.give.ensures.coming) in
          let back = c.give.ensures.frees.back.returns.back.returned t in
          let same : coming (whole_sets c.remove_layout.new.self) ≡ coming (whole_sets c.give.new.self.table) = (λ i. coming (filter_map (whole_in (c.remove_layout.ensures.ids i)) (table.slots_in (c.remove_layout.ensures.slots i)))) in
          omega arith
          );
    }
