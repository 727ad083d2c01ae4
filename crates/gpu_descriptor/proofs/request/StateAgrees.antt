-- Agreement of books and ledger: at one key, and by numbers.
use Rattle.gpu_descriptor.proofs.Common.{arith, common_steps, ◌≡◌, ◌≢◌, ℕ, List, Option, Some, slice_get, slice_set, Key, Entry, entry_at, State, Agree, AreBookedIn, IsBookedIn, IsAsBooked, Pool}
use Rattle.gpu_descriptor.proofs.lists.AtPlaces.{set_got}
use Rattle.gpu_descriptor.proofs.lists.Numbers.{entry_at-found}

-- the key's part of the agreement
pub booked_of : (s : State) (k : Key) → Agree s → AreBookedIn k s.ledger (s.books k).pools
booked_of s k agree = grind (arith, common_steps)

-- the pool that has a number is in the ledger as the books say
pub booked_at : (s : State) → Agree s → (k : Key) (n : ℕ) (e : Entry) → entry_at (s.books k) n ≡ Some e → IsBookedIn k s.ledger e
booked_at s agree k n e at = (let found = entry_at-found (s.books k) n e at in agree.booked k found.0 e found.1)

-- no two numbers name one pool
pub distinct_at : (s : State) → Agree s → (k l : Key) (m n : ℕ) (d e : Entry) → entry_at (s.books k) m ≡ Some d → entry_at (s.books l) n ≡ Some e → d.pool ≡ e.pool → (k ≡ l) × (m ≡ n)
distinct_at s agree k l m n d e at at' same = grind (arith, common_steps, entry_at-found)

-- one entry changes, and its pool with it
pub changed_booked : (k : Key) (es : List Entry) (pools to : ℕ → Option Pool) (i : ℕ) (e f : Entry) (p : Pool) → AreBookedIn k pools es → slice_get es i ≡ Some e → f.pool ≡ e.pool → to e.pool ≡ Some p → ((q : ℕ) → q ≢ e.pool → to q ≡ pools q) → IsAsBooked k p f → AreBookedIn k to (slice_set es i f)
changed_booked k es pools to i e f p stored at same live others is = grind (arith, common_steps, set_got)
