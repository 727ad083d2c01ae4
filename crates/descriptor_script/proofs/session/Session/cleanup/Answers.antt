use Rattle.std.proofs.Common.{rules}
use Rattle.gpu_descriptor.proofs.NoGaps.{none_cleaned}
use Rattle.descriptor_script.proofs.session.Session.cleanup.Goals as goal

pub returns-clause-keeps : goal.returns-clause-keeps
returns-clause-keeps g c = record {
  ready = record { agree = c.cleanup.ensures.keeps.agree; held = search rules; meant = c.requires.ready.meant };
  allocator = c.cleanup.ensures.keeps;
  layouts = search rules;
  count = search rules;
  no_gaps = none_cleaned _ _ c.requires.ready.agree.books c.cleanup.ensures.cleans_up.cleaned;
}
