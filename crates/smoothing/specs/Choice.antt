-- Of all memories with the least total, those that are chosen, from the needs of the nodes: as little as can be at node 1, then at node 2,
-- and so on. What a node has less, its children have more, and it costs nothing where one of them alone has to.
use Rattle.std.specs.Prelude.{cond, ◌&&◌, ℕ, zero, suc, ◌-◌, max, min, eqb, leb, ltb}
use Rattle.base.specs.Range.{how_many, least_over}
use Rattle.smoothing.specs.Tree.{child, child_count}

module _ (n : ℕ) (parent need : ℕ → ℕ) where
  -- how many of v's children need no more than x
  abbrev pub need_up_to : ℕ → ℕ → ℕ
  need_up_to v x = how_many (λ c. child parent v c && leb (need c) x) n

  -- the second least need of v's children: the least up to which two of them need, so that where two share the least it is that one;
  -- 0 where v has fewer than two
  unfoldable pub second_need : ℕ → ℕ
  second_need v = least_over (λ c. child parent v c && ltb 1 (need_up_to v (need c))) need n

  -- of x that v is asked for, what it hands on to each of its children: nothing at a leaf, all of it to an only child, else no more than the
  -- second least need, which all of them but one need anyway
  unfoldable pub handed : ℕ → ℕ → ℕ
  handed v x = cond (eqb (child_count n parent v) 0) 0 (cond (eqb (child_count n parent v) 1) x (min x (second_need v)))

  -- what v is asked for, the least that there is to be on each way down from it: its need, or what its parent hands on where that is more.
  -- Looked for in at most d steps up; the root hands on nothing
  unfoldable pub ask_of : ℕ → ℕ → ℕ
  ask_of zero v = need v
  ask_of (suc d) v = cond (eqb (parent v) 0) (need v) (max (need v) (handed (parent v) (ask_of d (parent v))))

  -- v steps up are enough, as parents have lower numbers
  unfoldable pub ask : ℕ → ℕ
  ask v = ask_of v v

  -- the memory of v: what it is asked for and does not hand on
  unfoldable pub chosen : ℕ → ℕ
  chosen v = ask v - handed v (ask v)
