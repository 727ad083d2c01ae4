-- Sums over a key's pools, as the code has them and as the books do.
use Rattle.gpu_descriptor.proofs.Common.{◌≡◌, ℕ, List, sum_by, refl, map, DescriptorPool, Key, allocated_in, entry_of, pools_load}
use Rattle.gpu_descriptor.proofs.sums.TableSums.{sum_map}

module _ {P : Type 0} (name : P → ℕ) where
  pub allocated_entries : (ps : List (DescriptorPool P)) → allocated_in (map (entry_of name) ps) ≡ sum_by (λ (p : DescriptorPool P). p.allocated) ps
  allocated_entries = sum_map _ (entry_of name) _ (λ p. refl)

  pub load_entries : (k : Key) (ps : List (DescriptorPool P)) → pools_load k (map (entry_of name) ps) ≡ pools_load k ps
  load_entries k = sum_map _ (entry_of name) _ (λ p. refl)
