-- The walk over a set's members.
use Rattle.std.specs.Prelude.{List, ℕ}
use Rattle.base.specs.Set.{members}
use Rattle.base.specs.declared.Walk.{Walk}

-- the members that are still to come
abbrev pub walk_left : Walk → List ℕ
walk_left m = members m.left
