use Rattle.gpu_descriptor.proofs.table.Tables.{sum_by_books}
use Rattle.gpu_descriptor.proofs.laws.books_alone.Goals as goal

pub returns : goal.returns
returns c = record { sums = sum_by_books }
