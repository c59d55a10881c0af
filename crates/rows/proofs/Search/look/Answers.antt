-- Each number of the state is what the look of `smoothing` makes of it.
use Rattle.rows.proofs.SearchLaws.{look_is}
use Rattle.rows.specs.Search.{search_in}
use Rattle.rows.proofs.Search.look.Goals as goal

pub returns : goal.returns
returns c =
    look_is _ _ _ (search_in c.args.self) _ _ _ _ _
    c.min.ensures c.select-gap.ensures c.saturating_sub-here.ensures c.max-excess.ensures
    c.select-span.ensures
