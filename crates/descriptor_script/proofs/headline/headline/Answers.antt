use Rattle.std.proofs.lemmas.Result.{IfOk-weaker}
use Rattle.descriptor_script.proofs.Promised.{all_kept, promise_of}
use Rattle.descriptor_script.proofs.headline.headline.Goals as goal

pub returns-clause-together : goal.returns-clause-together
returns-clause-together g c = IfOk-weaker c.run.result _ _ (λ replies run. promise_of g.D.DescriptorDevice.meaning _ _ _ _ _ (all_kept g.D.DescriptorDevice.meaning _ _ _ _ c.requires.ready run)) c.run.ensures.runs

pub returns-clause-runs : goal.returns-clause-runs
returns-clause-runs g c = IfOk-weaker c.run.result _ _ (λ replies. all_kept g.D.DescriptorDevice.meaning _ _ _ _ c.requires.ready) c.run.ensures.runs
