use Rattle.std.proofs.Common.{arith}
use Rattle.gpu_descriptor_types.proofs.pool_size.products.Goals as goal

pub overflow_mul-result-2 : goal.overflow_mul-result-2
overflow_mul-result-2 c = omega (arith, c.requires 1 0 (omega arith))

pub overflow_mul-result-3 : goal.overflow_mul-result-3
overflow_mul-result-3 c = omega (arith, c.requires 2 0 (omega arith))

pub overflow_mul-result-4 : goal.overflow_mul-result-4
overflow_mul-result-4 c = omega (arith, c.requires 3 0 (omega arith))

pub overflow_mul-result-5 : goal.overflow_mul-result-5
overflow_mul-result-5 c = omega (arith, c.requires 4 0 (omega arith))

pub overflow_mul-result-6 : goal.overflow_mul-result-6
overflow_mul-result-6 c = omega (arith, c.requires 5 0 (omega arith))

pub overflow_mul-result-7 : goal.overflow_mul-result-7
overflow_mul-result-7 c = omega (arith, c.requires 6 0 (omega arith))

pub overflow_mul-result-8 : goal.overflow_mul-result-8
overflow_mul-result-8 c = omega (arith, c.requires 7 0 (omega arith))

pub overflow_mul-result-9 : goal.overflow_mul-result-9
overflow_mul-result-9 c = omega (arith, c.requires 8 0 (omega arith))

pub overflow_mul-result-10 : goal.overflow_mul-result-10
overflow_mul-result-10 c = omega (arith, c.requires 9 0 (omega arith))

pub overflow_mul-result-11 : goal.overflow_mul-result-11
overflow_mul-result-11 c = omega (arith, c.requires 10 0 (omega arith))

pub overflow_mul-result-12 : goal.overflow_mul-result-12
overflow_mul-result-12 c = omega (arith, c.requires 11 0 (omega arith))

pub overflow_mul-result-13 : goal.overflow_mul-result-13
overflow_mul-result-13 c = omega (arith, c.requires 12 0 (omega arith))

pub overflow_mul-result-14 : goal.overflow_mul-result-14
overflow_mul-result-14 c = omega (arith, c.requires 13 0 (omega arith))
