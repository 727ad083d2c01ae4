-- Agreement, and what is outstanding, speak of the pools in the books alone.
use Rattle.gpu_descriptor.proofs.Common.{arith, common_steps, ◌≡◌, State, Agree, outstanding, Item, Key, rises, IsUntouched}
use Rattle.gpu_descriptor.proofs.lists.Numbers.{entry_at-found}
use Rattle.gpu_descriptor.proofs.lists.AtPlaces.{cases_option}

pub own_agrees : (s t : State) → ((k : Key) → IsUntouched k s t) → Agree s → Agree t
own_agrees s t same agree = grind (arith, common_steps, rises)

pub own_outstanding : (s t : State) → ((k : Key) → IsUntouched k s t) → (i : Item) → outstanding t i ≡ outstanding s i
own_outstanding s t same x = grind (arith, common_steps, cases_option, entry_at-found)
