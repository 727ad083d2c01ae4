use Rattle.gpu_descriptor.proofs.Common.{◌≡◌, ◌<◌, ℕ, zero, suc, Bool, true, List, [], ◌∷◌, Option, Some, None, IfSome, MatchOption, length, get_or, slice_get, rules, sym, ap, ◌∙◌, arith, position, keys_of, lookup, BucketKey, DescriptorBucket, Key, key_eq, key_of, is_of, stored_keys}
use Rattle.indexmap.proofs.MapLemmas.{Missing-position}
use Rattle.std.proofs.lemmas.List.Quantifiers.{position-Some}
use Rattle.gpu_descriptor.proofs.table.Exact.{key_exact}
use Rattle.gpu_descriptor.proofs.table.RowAt.{lookup_same}
use Rattle.gpu_descriptor.proofs.key_table.KeyTable.place_of_key.Goals as goal

tested_at : {P : Type 0} (test : BucketKey → Bool) (key : BucketKey) → ((l : BucketKey) → test l ≡ key_eq (key_of key) (key_of l)) → (es : List (BucketKey × DescriptorBucket P)) (i : ℕ) → i < length es → test (get_or (keys_of es) i key) ≡ true → slice_get (stored_keys es) i ≡ Some (key_of key)
tested_at test key same [] i within h = absurd (omega arith)
tested_at test key same (e ∷ es) zero within h = ap (λ (k : Key). Some k) (sym (key_exact.same (key_of key) (key_of e.0) (sym (same e.0) ∙ h)))
tested_at test key same (e ∷ es) (suc i) within h = tested_at test key same es i (omega arith) h

found_at : {P : Type 0} (test : BucketKey → Bool) (key : BucketKey) → ((l : BucketKey) → test l ≡ key_eq (key_of key) (key_of l)) → (es : List (BucketKey × DescriptorBucket P)) (i : ℕ) → i < length es → position test (keys_of es) ≡ Some i → slice_get (stored_keys es) i ≡ Some (key_of key)
found_at test key same es i within at = tested_at test key same es i within (position-Some test (keys_of es) i key at).1

none_at : {P : Type 0} (test : BucketKey → Bool) (key : BucketKey) → ((l : BucketKey) → test l ≡ key_eq (key_of key) (key_of l)) → (es : List (BucketKey × DescriptorBucket P)) → position test (keys_of es) ≡ None → lookup (is_of (key_of key)) es ≡ None
none_at test key same es none = lookup_same (is_of (key_of key)) test (λ l. sym (same l)) es ∙ (Missing-position test es none).value

-- what a search by the hash answers
hashed :
    {P : Type 0} (test : BucketKey → Bool) (key : BucketKey)
    → ((l : BucketKey) → test l ≡ key_eq (key_of key) (key_of l))
    → (es : List (BucketKey × DescriptorBucket P)) (found : Option ℕ) → found ≡ position test (keys_of es)
    → IfSome found (λ i. i < length es)
    → MatchOption found (lookup (is_of (key_of key)) es ≡ None) (λ i. slice_get (stored_keys es) i ≡ Some (key_of key))
hashed test key same es None is within = none_at test key same es (sym is)
hashed test key same es (Some i) is within = found_at test key same es i within (sym is)

pub returns : goal.returns
returns g c = record { place = hashed _ c.args.key.now (λ k. search rules) c.args.self.now.buckets.entries c.get_index_of.result c.get_index_of.ensures.index c.get_index_of.ensures.within }
