-- One test, and each way out is its case of `Starts`.
use mathlib.Core.Path.{refl}
use borrow.Author.Tests.{lt-ltb, le-ltb}
use Rattle.base.specs.Table.{tab}
use Rattle.store.specs.Store.{Starts, start_number}
use Rattle.store.proofs.Store.new.Goals as goal

pub returns-then-children-gt-MOST_CHILDREN : goal.returns-then-children-gt-MOST_CHILDREN
unfolding Starts start_number
returns-then-children-gt-MOST_CHILDREN c = λ before. rw (lt-ltb _ _ c.if-children-gt-MOST_CHILDREN.true) (refl, refl)

pub returns : goal.returns
unfolding Starts start_number tab
returns c = λ before. (rw (le-ltb _ _ c.if-children-gt-MOST_CHILDREN.false), refl)
