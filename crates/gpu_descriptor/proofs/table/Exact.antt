-- Keys and items are equal exactly where their tests say so.
use Rattle.gpu_descriptor.proofs.Common.{arith, common_steps, ◌≡◌, ℕ, List, true, and_parts, and_from, key_eq, Entry, Bucket, Item, item_eq, IsExact}
use lib.Pointwise.{pointwise_decides}
use mathlib.Core.Bool.{beq}

pub key_exact : IsExact key_eq
key_exact = grind (arith, common_steps, beq, pointwise_decides)

pub item_parts : (s t : Item) → item_eq s t ≡ true → (s.key ≡ t.key) × (s.number ≡ t.number) × (s.name ≡ t.name) × (s.id ≡ t.id)
item_parts s t h = grind (arith, common_steps, and_parts, key_exact)

pub item_from : (s t : Item) → s.key ≡ t.key → s.number ≡ t.number → s.name ≡ t.name → s.id ≡ t.id → item_eq s t ≡ true
item_from s t key number name id = grind (arith, common_steps, and_from, key_exact)

pub item_exact : IsExact item_eq
item_exact = grind (arith, common_steps, item_parts, item_from)

-- the pools of a key, with its id
abbrev pub bucket : ℕ → List Entry → Bucket
bucket id es = record { id = id; pools = es }
