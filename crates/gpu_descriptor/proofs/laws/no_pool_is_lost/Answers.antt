use Rattle.gpu_descriptor.proofs.Common.{map, sym, ap, books_of, named_row}
use Rattle.gpu_descriptor.proofs.foreign.OthersStay.{all_others, from_others}
use Rattle.gpu_descriptor.proofs.foreign.NoneLost.{named_or_foreign, restores}
use Rattle.gpu_descriptor.proofs.laws.no_pool_is_lost.Goals as goal

pub returns : goal.returns
returns g c = record {
  others = from_others;
  lost = λ name a b l m same. from_others name b a m l (sym same);
  restores = restores;
  one_or_other = named_or_foreign g.row.P.Denot;
  all_others = λ name a l empty. all_others name a l (λ k. ap (λ rows. (books_of (map (named_row name) rows) k).pools) empty);
  no_pools = all_others;
}
