-- What `show` prints.
use Rattle.std.specs.Prelude.{ℕ, List, ◌++◌, length}
use Rattle.std.specs.List.{flat_map}
use Rattle.gpu_descriptor.specs.Caller.States.{marked_load_of}
use Rattle.gpu_descriptor.specs.Model.Books.{BucketOf, Key, books_of}
use Rattle.descriptor_script.specs.Sessions.Tickets.{held_sets}
use Rattle.descriptor_script.specs.declared.raw.RawPool.{RawPool}
use Rattle.descriptor_lines.specs.Answers.{device_answer, held_answer, pool_answer}
use Rattle.descriptor_lines.specs.LayoutTables.{first_layouts, key_of}
use Rattle.descriptor_lines.specs.LineStates.{LineState}
use Rattle.descriptor_lines.specs.declared.layouts.Layout.{Layout}

-- the lines of the pools for a layout's sets, oldest first, under the layout's name
unfoldable pub pools_answer : List (Key × BucketOf RawPool) → List ℕ × Layout → List ℕ
pools_answer rows (name, layout) =
    flat_map (λ pool. pool_answer name pool.number pool.allocated pool.available) (books_of rows (key_of layout)).pools

-- what `show` prints: the pools of each layout that is the first with its counts and mark, the calls that the device had, and the live sets
unfoldable pub show_answer : LineState → List ℕ
show_answer p =
    let allocator = p.session.value.allocator in
    flat_map (pools_answer allocator.table) (first_layouts p.layouts) ++ device_answer p.session.ledger.counters ++ held_answer (length (held_sets p.session.value.sets)) (marked_load_of allocator)
