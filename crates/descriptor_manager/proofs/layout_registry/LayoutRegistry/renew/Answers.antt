use Rattle.descriptor_manager.proofs.Common.{IsMeant}
use Rattle.descriptor_manager.proofs.Adding.{added_meant, added_names, added_others}
use Rattle.descriptor_manager.proofs.layout_registry.LayoutRegistry.renew.Goals as goal

pub invariant_of-self : goal.invariant_of-self
invariant_of-self g c = record { meant = added_meant c.renew.ensures.puts.1 c.renew.ensures.puts.2 (IsMeant g.D.DescriptorDevice.meaning) c.args.self.now.meant c.requires.meant }

pub returns-clause-names : goal.returns-clause-names
returns-clause-names g c = added_names c.renew.ensures.puts.1 c.renew.ensures.puts.2 c.renew.ensures.number

pub returns-clause-others : goal.returns-clause-others
returns-clause-others g c = added_others c.renew.ensures.puts.1 c.renew.ensures.puts.2
