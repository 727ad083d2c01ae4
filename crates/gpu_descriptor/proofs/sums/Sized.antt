-- How many sets are live is one number, whichever list spells them.
use Rattle.gpu_descriptor.proofs.Common.{Pool, List, Entry, Key, ◌≡◌, ℕ, length, refl, arith, ∥∥₁_elim, props, LiveSet, AreIn, Spells, HasSize, IsAsBooked}
use Rattle.gpu_descriptor.proofs.foreign.LedgerPools.{size_minus}

pub size_one : (live : LiveSet → ℕ) (a b : ℕ) → HasSize live a → HasSize live b → a ≡ b
size_one live a b one other =
    let few : AreIn one.0 live = λ x. (let h = one.2 x in omega arith) in
    let many : AreIn other.0 live = λ x. (let h = other.2 x in omega arith) in
    let le = (size_minus live b one.0 other few).0 in
    let ge = (size_minus live a other.0 one many).0 in
    omega arith

pub listed : (k : Key) (pool : Pool) (e : Entry) → IsAsBooked k pool e → (sets : List LiveSet) → Spells sets pool.live → length sets ≡ e.allocated
listed k pool e b sets spelled = ∥∥₁_elim b.allocated (search props) (λ size. size_one pool.live (length sets) e.allocated (sets, refl, spelled) size)
