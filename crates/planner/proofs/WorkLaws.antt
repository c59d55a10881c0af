-- What the memory question's inner functions lean on: rows filled with curves are fit for the search, and what is computed from such
-- rows is what the theory computes from the curves.
use mathlib.Core.List.{List}
use mathlib.Core.Path.{◌≡◌, refl, ap, ◌∙◌}
use Prim.Native.Nat.{ℕ, zero, suc, ◌+◌, ◌-◌, ◌*◌, ◌≤◌, ◌<◌}
use native.Mathlib.Omega.{arith}
use lib.ListN.{length, get_or}
use Rattle.base.specs.Table.{tab}
use Rattle.base.proofs.RangeLaws.{greatest_cong}
use Rattle.base.proofs.TableLaws.{length-tab, get_or-tab, tab_cong, get_d_rows}
use Rattle.base.proofs.PartLaws.{rows_of_cells}
use Rattle.job.specs.Tree.{Tree, TreeWithin}
use Rattle.job.specs.Read.{tree_in}
use Rattle.job.specs.declared.Job.{Job}
use Rattle.smoothing.specs.Tree.{Link, Ordered, close}
use Rattle.smoothing.proofs.ClosedLaws.{close_monotone}
use Rattle.job.proofs.TreeLaws.{link_is}
use Rattle.rows.specs.Row.{row_in, lazy_row, least_peak_of}
use Rattle.smoothing.specs.Row.{least_peak, lazy_before, lazy}
use Rattle.smoothing.specs.Plan.{Problem, lower, upper, link_peak, lazy_plan, plan}
use Rattle.curves.specs.Curves.{lower_curve, upper_curve}
use Rattle.job.specs.Sums.{sums_in, last_in, WithSums}
use Rattle.job.proofs.SumsLaws.{film_of}
use Rattle.curves.proofs.CurveEq.{lower_is, upper_is, lower_top}
use Rattle.rows.specs.Search.{Searchable}
use Rattle.rows.specs.Closing.{slot_in}
use Rattle.planner.specs.Work.{Ready, problem_in, lazy_row_of, lazy_rows_of, plan_rows_of}

-- ---- rows that agree up to the last slot

pub least_peak-same : (H : ℕ) (l l' u u' : ℕ → ℕ) → ((k : ℕ) → k ≤ H → l k ≡ l' k) → ((k : ℕ) → k ≤ H → u k ≡ u' k)
    → least_peak H l u ≡ least_peak H l' u'
unfolding least_peak
least_peak-same H l l' u u' same same' =
    greatest_cong _ _ (suc H)
    (λ k q. greatest_cong _ _ k (λ j r. rw (same k (omega arith), same' j (omega arith)) refl))

lazy_before-same : (q : ℕ) (f g : ℕ → ℕ) (d k : ℕ) → ((i : ℕ) → i ≤ k + d → f i ≡ g i) → lazy_before q f d k ≡ lazy_before q g d k
unfolding lazy_before
lazy_before-same q f g zero k same = same k (omega arith)
lazy_before-same q f g (suc d) k same = rw (same k (omega arith), lazy_before-same q f g d (suc k) (λ i h. same i (omega arith))) refl

lazy-same : (H q : ℕ) (f g : ℕ → ℕ) → ((k : ℕ) → k ≤ H → f k ≡ g k) → (k : ℕ) → k ≤ H → lazy H q f k ≡ lazy H q g k
unfolding lazy
lazy-same H q f g same k h = lazy_before-same q f g (H - k) k (λ i r. same i (omega arith))

-- ---- rows filled with the curves of link v

upper_top : (t : Tree) (T : ℕ → ℕ) (top i k : ℕ) → upper_curve t T top i k ≤ top
unfolding upper_curve
upper_top t T top i zero = omega arith
upper_top t T top i (suc k) = omega arith

module _ (job : Job) (sums lowers kept : List ℕ) (given : WithSums job sums) (ready : Ready lowers kept) (v : ℕ)
    (is-link : Link job.nodes v) where
  t : Tree
  t = tree_in job

  w : ℕ
  w = length lowers

  abbrev lower_row : List ℕ
  lower_row = tab (lower_curve (tree_in job) (sums_in sums) v) (length lowers)

  abbrev upper_row : List ℕ
  upper_row = tab (upper_curve (tree_in job) (sums_in sums) (last_in sums) v) (length lowers)

  pub curves_searchable : Searchable lower_row upper_row
  curves_searchable =
      let film = film_of sums given.film in
      let long = length-tab (lower_curve (tree_in job) (sums_in sums) v) (length lowers) in
      let long' = length-tab (upper_curve (tree_in job) (sums_in sums) (last_in sums) v) (length lowers) in
      record {
        some_slot = omega (arith, long, ready.wide);
        slots_to = omega (arith, long, ready.slots_to);
        same_slots = omega (arith, long, long');
        lower_to = λ k h.
            omega (
              arith,
              get_or-tab (lower_curve (tree_in job) (sums_in sums) v) (length lowers) k (omega (arith, long)),
              lower_top (tree_in job) given.tree (sums_in sums) (last_in sums) 0 film v k is-link,
              given.film.fits,
            );
        upper_to = λ k h.
            omega (
              arith,
              get_or-tab (upper_curve (tree_in job) (sums_in sums) (last_in sums) v) (length lowers) k (omega (arith, long')),
              upper_top (tree_in job) (sums_in sums) (last_in sums) v k,
              given.film.fits,
            );
      }

  lower_here : (k : ℕ) → k ≤ length lowers - 1 → row_in lower_row k ≡ lower (problem_in job sums (length lowers)) v k
  lower_here k h =
      get_or-tab (lower_curve (tree_in job) (sums_in sums) v) (length lowers) k (omega (arith, ready.wide))
      ∙ lower_is (tree_in job) given.tree (sums_in sums) (last_in sums) (length lowers - 1) v k is-link

  upper_here : (k : ℕ) → k ≤ length lowers - 1 → row_in upper_row k ≡ upper (problem_in job sums (length lowers)) v k
  upper_here k h =
      get_or-tab (upper_curve (tree_in job) (sums_in sums) (last_in sums) v) (length lowers) k (omega (arith, ready.wide))
      ∙ upper_is (tree_in job) given.tree (sums_in sums) (last_in sums) (length lowers - 1) v k is-link

  pub peak_here : least_peak_of lower_row upper_row ≡ link_peak (problem_in job sums (length lowers)) v
  unfolding link_peak
  peak_here =
      rw (length-tab (lower_curve (tree_in job) (sums_in sums) v) (length lowers))
      (least_peak-same (length lowers - 1) (row_in lower_row) _ (row_in upper_row) _ lower_here upper_here)

  pub lazy_here : (peak : ℕ) → peak ≡ link_peak (problem_in job sums (length lowers)) v
      → lazy_row peak lower_row ≡ lazy_row_of (problem_in job sums (length lowers)) (length lowers) (v - 1)
  lazy_here peak e =
      let back : suc (v - 1) ≡ v = omega arith in
      rw (length-tab (lower_curve (tree_in job) (sums_in sums) v) (length lowers), e, back)
      (tab_cong _ _ (length lowers) (λ k h. lazy-same (length lowers - 1) (link_peak (problem_in job sums (length lowers)) v) (row_in lower_row) _ lower_here k (omega arith)))

-- ---- rows closed at every slot

module _ (job : Job) (sums : List ℕ) (tree : TreeWithin (tree_in job)) (w : ℕ) where
  abbrev P : Problem
  P = problem_in job sums w

  ordered : Ordered P.tree
  ordered v h = tree.parents v (link_is job.nodes v h.0 h.1)

  -- closing looks at the links alone
  close_links : (f g : ℕ → ℕ) → ((v : ℕ) → Link job.nodes v → f v ≡ g v) → (v : ℕ) → Link job.nodes v → close P.tree f v ≡ close P.tree g v
  close_links f g same v h =
      omega (
        arith,
        close_monotone P.tree ordered f g (λ u l. omega (arith, same u l)) v h,
        close_monotone P.tree ordered g f (λ u l. omega (arith, same u l)) v h,
      )

  -- the lazy rows, closed, are the plan
  pub closed-plan : (p p' : List ℕ) → p ≡ lazy_rows_of P w (job.nodes - 1) → length p' ≡ (job.nodes - 1) * w
      → ((k : ℕ) → k < w → slot_in w p' k ≡ close P.tree (slot_in w p k)) → p' ≡ plan_rows_of P w (job.nodes - 1)
  unfolding plan lazy_plan
  closed-plan p p' e long each =
      rows_of_cells (λ i k. plan P (suc i) k) w (job.nodes - 1) p' long
      (λ i k a b.
      ap (λ (f : ℕ → ℕ). f (suc i)) (each k b)
      ∙ close_links (slot_in w p k) _ (λ v l. lazy_cell v l k b) (suc i) (omega arith, omega arith))
    where
      lazy_cell : (v : ℕ) → Link job.nodes v → (k : ℕ) → k < w → slot_in w p k v ≡ lazy P.H (link_peak P v) (lower P v) k
      lazy_cell zero l k b = absurd (omega (arith, l.0))
      lazy_cell (suc i) l k b =
          ap (λ (x : List ℕ). get_or x (i * w + k) 0) e
          ∙ get_d_rows (lazy_row_of P w) w (job.nodes - 1) i k (λ x. length-tab _ w) (omega (arith, l.1)) b
          ∙ get_or-tab (lazy P.H (link_peak P (suc i)) (lower P (suc i))) w k b
