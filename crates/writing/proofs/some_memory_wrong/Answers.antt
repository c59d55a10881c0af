-- Some number of the list passes just where some place below its length has one.
use Rattle.std.proofs.Common.{rules, tests, ◌∙◌}
use Rattle.std.proofs.lemmas.Iterator.{YieldsList-from_slice}
use Rattle.std.proofs.lemmas.Iterator.Search.{any_from_yields_List}
use lib.Dec.{ltb}
use Rattle.job.specs.Limits.{greatest_memory}
use Rattle.base.proofs.ListLaws.{list_any_some}
use Rattle.writing.proofs.some_memory_wrong.Goals as goal

pub returns : goal.returns
returns c =
    any_from_yields_List (ltb greatest_memory) _ _ _ c.any.ensures.ran (YieldsList-from_slice c.args.memories.now cc)
    (λ x b q k. search (rules, tests))
    ∙ list_any_some (ltb greatest_memory) c.args.memories.now
